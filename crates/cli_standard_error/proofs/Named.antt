-- The input of a name is at the path of the name.
use Rattle.std.proofs.Common.{◌≡◌, ℕ, zero, suc, List, [], ◌∷◌, Some, ap, sym, ◌∙◌}
use Rattle.std.specs.Prelude.{slice_get}
use Rattle.cli_files.specs.InputStates.{AreWaiting, Told}
use Rattle.byte_device.specs.Disks.{Path}

pub at_path : {S : Type 0} (told : Told S) (paths : List Path) (inputs : List S) (k : ℕ) (input : S)
    → AreWaiting told paths inputs → slice_get inputs k ≡ Some input → slice_get paths k ≡ Some (told.path input)
at_path told (p ∷ paths) (x ∷ inputs) zero input are is =
    let same : x ≡ input = cc in ap (λ path. Some path) (sym are.0.path_is) ∙ ap (λ i. Some (told.path i)) same
at_path told (p ∷ paths) (x ∷ inputs) (suc k) input are is = at_path told paths inputs k input are.1 is
at_path told paths [] k input are is = cc
at_path told [] (x ∷ inputs) k input are is = absurd are
