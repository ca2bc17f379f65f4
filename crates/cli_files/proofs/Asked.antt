-- Inputs that are made one after another.
use Rattle.std.proofs.Common.{◌≡◌, ◌∙◌, ℕ, ◌+◌, ◌<◌, List, [], ◌∷◌, ◌++◌, length, take, map, get_or, ap, sym, Option, append_assoc, refl}
use Rattle.std.proofs.lemmas.List.{map_more, take-map}
use Rattle.std.specs.List.{AllZip}
use Rattle.byte_device.specs.Disks.{FileAt, Path}
use Rattle.byte_device.specs.declared.Source.{Ghosts as Sources}
use Rattle.byte_device.specs.declared.Placed.{Ghosts as Places}
use Rattle.archive_core.proofs.Members.{pairs_more as zip_more}
use Rattle.cli_files.specs.LazyInputs.{told_by}
use Rattle.cli_files.specs.declared.disks.Disk.{Ghosts as Disks}
use Rattle.cli_files.specs.declared.input_state.LazyInput.{LazyInput}
use Rattle.cli_files.specs.InputStates.{AreFirstAsked, IsWaiting, Waiting, bytes_at, left_in, stage_of}
use Rattle.cli_files.specs.declared.input_state.InputState.{InputState}
use Rattle.cli_files.specs.declared.input_state.InputState.TheVariants as state

-- one more input is made
pub inputs_more : {B X P : Type 0} (R : P → B → Type 0) (f : X → P) (xs : List X) (i : ℕ) (ys zs : List B) (d : X)
    (y : B) → i < length xs → zs ≡ ys ++ y ∷ [] → AllZip R (map f (take i xs)) ys → R (f (get_or xs i d)) y
    → AllZip R (map f (take (i + 1) xs)) zs
inputs_more R f xs i ys zs d y lt is all one =
    rw (map_more f xs i d lt, is) (zip_more R (map f (take i xs)) ys (f (get_or xs i d)) y all one)

-- one more path is noted
pub asked_more : {X P : Type 0} (f : X → P) (xs : List X) (i : ℕ) (d : X) (first last new : List P)
    → i < length xs → last ≡ first ++ map f (take i xs) → new ≡ last ++ f (get_or xs i d) ∷ []
    → new ≡ first ++ map f (take (i + 1) xs)
asked_more f xs i d first last new lt before is =
    is ∙ ap (λ o. o ++ f (get_or xs i d) ∷ []) before
    ∙ append_assoc first (map f (take i xs)) (f (get_or xs i d) ∷ [])
    ∙ ap (λ more. first ++ more) (sym (map_more f xs i d lt))

-- and no other was, if the call ends here
pub first_asked : {X : Type 0} (f : X → List ℕ) (xs : List X) (i : ℕ) (first last : List (List ℕ))
    → last ≡ first ++ map f (take i xs) → AreFirstAsked first last (map f xs)
first_asked f xs i first last is = (i, is ∙ ap (λ more. first ++ more) (sym (take-map f i xs)))

-- an input that waits has what its file gives
waits_for : {I P : Type 0} (left : I → Option (List ℕ)) (file : FileAt) (t : InputState I P) → stage_of t ≡ Waiting
    → left_in left file t ≡ bytes_at file
waits_for left file state.Waiting is = refl
waits_for left file t is = cc

-- and it waits
pub is_waiting : {D I P : Type 0} (disk : Disks D I P) (input : Sources I) (places : Places P)
    (s : LazyInput D I P disk input places) (path : Path) → s.path.now ≡ path → stage_of s.state ≡ Waiting
    → s.failures ≡ 0 → IsWaiting (told_by disk input places) path s
is_waiting disk input places s path is waits unfailed = record {
  path_is = is;
  waits = waits;
  unfailed = unfailed;
  bytes = waits_for input.left (disk.file_at s.disk s.path.now) s.state waits;
  all = refl;
}
