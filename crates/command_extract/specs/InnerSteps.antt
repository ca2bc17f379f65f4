-- The choice among the slices of an archive, its sending, and its report: definitions for private functions. No public
-- contract uses them.
use Rattle.std.specs.Prelude.{◌≡◌, ℕ, List, [], ◌∷◌, Option, None, Result, Ok, Err, map, ◌⊎◌}
use Rattle.archive_core.specs.Content.{Operations}
use Rattle.archive_core.specs.Key.{key_bytes}
use Rattle.archive_core.specs.declared.find.FindRow.{FindRow}
use Rattle.archive_core.specs.declared.keys.Digest.{Digest}
use Rattle.archive_core.specs.declared.keys.SliceKey.{SliceKey}
use Rattle.text_reports.specs.Finds.{find_lines}
use Rattle.command_common.specs.Inputs.{EachUnfailed, Reader, ReadsInputs}
use Rattle.command_common.specs.Outputs.{FailsBehind, Reports, Takes, Writer}
use Rattle.command_common.specs.declared.faults.CommandFault.{CommandFault}
use Rattle.command_common.specs.declared.faults.CommandFault.TheVariants.{Output, OutOfMemory}
use Rattle.command_common.specs.declared.faults.Status.{Status}
use Rattle.command_common.specs.declared.faults.Status.TheVariants.{Partial}
use Rattle.command_given_indexes.specs.Together.{HoldNamed, IsFirstRefusedAtPlaces}
use Rattle.command_extract.specs.Kept.{IsChosenIn}
use Rattle.command_extract.specs.Wanted.{AreUndecided, IsWanted, slice_row}
use Rattle.command_extract.specs.declared.choice.Choice.{Choice}
use Rattle.command_extract.specs.declared.choice.Choice.TheVariants.{One, Undecided}
use Rattle.command_extract.specs.declared.place.Place.{Place}
use Rattle.command_extract.specs.declared.place.Place.TheVariants.{Named, Kept}

-- this slice of a content is chosen, by the number of its record
abbrev pub ChoosesIn : Operations → SliceKey → Option Digest → ℕ → Digest → ℕ → Type 0
ChoosesIn o key digest number given size =
    (slice : List ℕ) × IsWanted o key digest slice × IsChosenIn o number given size slice

-- none is chosen, and these are the rows of those that answer
abbrev pub ChoosesNone : Operations → SliceKey → Option Digest → List FindRow → Type 0
ChoosesNone o key digest rows =
    (slices : List (List ℕ)) × AreUndecided o key digest slices × (rows ≡ map slice_row slices)

-- the choice is the wanted slice; or there is none
abbrev pub IsChoice : Operations → SliceKey → Option Digest → Choice ℕ → Type 0
IsChoice o key digest (One chosen) = ChoosesIn o key digest chosen.place chosen.digest chosen.size
IsChoice o key digest (Undecided rows) = ChoosesNone o key digest rows.items

-- a slice of a content that was read is chosen, and is kept in that content
abbrev pub ChoosesAt : {A : Type 0} → (A → Operations) → Operations → SliceKey → Place A → Digest → ℕ → Type 0
ChoosesAt content o key (Named named) given size = ⊥
ChoosesAt content o key (Kept kept) given size =
    (content kept.archive ≡ o) × ChoosesIn o key None kept.number given size

-- such a choice, or none
abbrev pub IsKeptChoice : {A : Type 0} → (A → Operations) → Operations → SliceKey → Choice (Place A) → Type 0
IsKeptChoice content o key (One chosen) = ChoosesAt content o key chosen.place chosen.digest chosen.size
IsKeptChoice content o key (Undecided rows) = ChoosesNone o key None rows.items

-- the result of reading the slices that these entries name under the key, in archives of these lengths, and choosing
-- among them
abbrev pub ChoosesTied : {A P : Type 0} → (A → Operations) → SliceKey → List (List (List ℕ)) → List ℕ
    → List (Reader P) → Result (Choice (Place A)) CommandFault → Type 0
ChoosesTied content key all sizes archives result =
    ReadsInputs result
    (λ choice. (o : Operations) × HoldNamed (key_bytes key ∷ []) archives all o × IsKeptChoice content o key choice)
    (IsFirstRefusedAtPlaces (key_bytes key ∷ []) archives all sizes) (EachUnfailed archives)

-- the result of sending bytes: the draft accepted them, or it failed
abbrev pub SendsBytes : List ℕ → Writer → Result (Unit {0}) CommandFault → Type 0
SendsBytes bytes draft (Ok _) = Takes draft bytes
SendsBytes bytes draft (Err fault) = (n : ℕ) × (fault ≡ Output n) × FailsBehind draft bytes n

-- The slices that answer are reported; or memory runs out, and nothing is.
abbrev pub ReportsRows : List FindRow → Writer → Result Status CommandFault → Type 0
ReportsRows rows report result =
    Reports report Partial (find_lines rows) result ⊎ ((result ≡ Err OutOfMemory) × Takes report [])
