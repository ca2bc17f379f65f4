-- Inputs that wait, by what they are.
use Rattle.std.proofs.Common.{◌≡◌, Bool, true, false, List, [], ◌∷◌, length, Result, Ok, Err, sym, subst, if◌then◌else◌}
use Rattle.std.specs.Prelude.{IfOk}
use Rattle.cli_files.specs.InputStates.{AreWaiting, Told}
use Rattle.byte_device.specs.Disks.{Path}
use Rattle.cli_arguments.specs.{Arguments.is_kind, Inputs.Inputs, Inputs.kinds_of, Inputs.of_kind, Inputs.picked}
use Rattle.cli_arguments.specs.{Lines.Line, Lines.inputs_of, declared.commands.Kind.Kind}
use Rattle.command_common.proofs.Readers.{pairs_long}
use Rattle.cli_arguments.proofs.Picking.{picked_paths}
use Rattle.cli_standard_error.specs.Names.{AreOfLine}

module _ {S : Type 0} (told : Told S) where
  picked_waiting : (kind : Kind) (ks : List Kind) (paths : List Path) (inputs : List S) → AreWaiting told paths inputs
      → AreWaiting told (picked kind ks paths) (picked kind ks inputs)
  picked_waiting kind [] paths inputs are = tt
  picked_waiting kind (k ∷ ks) [] [] are = tt
  picked_waiting kind (k ∷ ks) (p ∷ paths) (x ∷ inputs) are =
      go (is_kind kind k) (picked_waiting kind ks paths inputs are.1)
    where
      go : (b : Bool) → AreWaiting told (picked kind ks paths) (picked kind ks inputs)
          → AreWaiting told (if b then p ∷ picked kind ks paths else picked kind ks paths)
          (if b then x ∷ picked kind ks inputs else picked kind ks inputs)
      go true rest = (are.0, rest)
      go false rest = rest
  picked_waiting kind (k ∷ ks) paths inputs are = absurd are

  -- those of a line, of each kind
  pub of_line : (line : Line) (all : Inputs S) (inputs : List S) → AreWaiting told (inputs_of line) inputs
      → ((kind : Kind) → of_kind kind all ≡ picked kind (kinds_of line) inputs) → AreOfLine told line all
  of_line line all inputs are split = λ kind.
      subst (λ xs. AreWaiting told xs (of_kind kind all)) (picked_paths kind line)
      (subst (λ xs. AreWaiting told (picked kind (kinds_of line) (inputs_of line)) xs) (sym (split kind))
      (picked_waiting kind (kinds_of line) (inputs_of line) inputs are))

  -- the same of a result
  pub all_of_line : {A E : Type 0} (view : A → Inputs S) (line : Line) (paths : List Path) (inputs : List S)
      (r : Result A E) → AreWaiting told paths inputs → paths ≡ inputs_of line
      → IfOk r (λ all. (kind : Kind) → of_kind kind (view all) ≡ picked kind (kinds_of line) inputs)
      → IfOk r (λ all. AreOfLine told line (view all))
  all_of_line view line paths inputs (Ok all) are same split =
      of_line line (view all) inputs (subst (λ ps. AreWaiting told ps inputs) same are) split
  all_of_line view line paths inputs (Err e) are same split = tt

-- there are as many as paths
pub as_many : {S : Type 0} (told : Told S) (paths : List Path) (inputs : List S) → AreWaiting told paths inputs
    → length inputs ≡ length paths
as_many told paths inputs are = pairs_long _ paths inputs are
