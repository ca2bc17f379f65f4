-- The results of `extract`, and the file that it makes from archives.
use Rattle.std.specs.Prelude.{◌≡◌, ℕ, List, [], ◌∷◌, Option, Result, ◌⊎◌}
use Rattle.archive_core.specs.Content.{Operations}
use Rattle.archive_core.specs.declared.keys.Digest.{Digest}
use Rattle.archive_core.specs.declared.keys.SliceKey.{SliceKey}
use Rattle.command_common.specs.declared.faults.CommandFault.{CommandFault}
use Rattle.command_common.specs.declared.faults.InputName.{InputName}
use Rattle.command_common.specs.declared.faults.Status.{Status}
use Rattle.command_common.specs.declared.faults.Status.TheVariants.{Partial}
use Rattle.command_common.specs.declared.faults.Why.{Why}
use Rattle.command_common.specs.Archives.{AreRefused, AreUnfailed, HoldTogether}
use Rattle.command_common.specs.Ends.{EndsStreamed, Streamed}
use Rattle.command_common.specs.Inputs.{IsRefusal, Reader}
use Rattle.command_common.specs.Outputs.{Outs, Reports, Takes, Writer, out_of}
use Rattle.command_extract.specs.Wanted.{AreUndecided, IsWanted, slice_line, slices_text}

-- A command that writes a slice to OUT, if its inputs have the wanted one: how it writes the slice, and the report for
-- accepted inputs if they do not have it.
pub record Extraction : Type 1 where
  pub writes : Streamed
  pub Lacks : List ℕ → Type 0

-- The inputs are accepted, and do not have the wanted slice: OUT is unchanged, and the report has the reason.
pub record LacksSlice {D T : Type 0} (command : Extraction) (out : Outs D T) (report : Writer)
    (result : Result Status CommandFault) : Type 0 where
  pub unfailed : command.writes.Unfailed
  pub text : List ℕ
  pub lacks : command.Lacks text
  pub kept : out.new ≡ out.old
  pub reported : Reports report Partial text result

-- The result of such a command: as for one that writes OUT, with the slice as its text; or the inputs do not have it.
abbrev pub Extracts : {D T : Type 0} → Extraction → Outs D T → Writer → Result Status CommandFault → Type 0
Extracts command out report result =
    EndsStreamed command.writes (out_of out) report result ⊎ LacksSlice command out report result

-- the content of archives, as far as such a command asks: a fact about the join of their contents
abbrev pub Held : Type 1
Held = (Operations → Type 0) → Type 0

-- `slice` is the wanted slice of that content, and `told` is its line
abbrev pub MakesSlice : Held → SliceKey → Option Digest → List ℕ → List ℕ → Type 0
MakesSlice Holds key digest slice told = Holds (λ o. IsWanted o key digest slice) × (told ≡ slice_line slice)

-- that content does not have the wanted slice, and `told` has the lines of the slices that answer
abbrev pub MakesNone : Held → SliceKey → Option Digest → List ℕ → Type 0
MakesNone Holds key digest told =
    (slices : List (List ℕ)) × Holds (λ o. AreUndecided o key digest slices) × (told ≡ slices_text slices)

-- `extract` over archives with this content, one of which is refused, or no reader of which failed. A refused archive
-- or lack of memory stops it before OUT is created.
abbrev pub extraction : Held → (InputName → Why → Type 0) → Type 0 → SliceKey → Option Digest → Writer → Extraction
extraction Holds Refuses Unfailed key digest draft = record {
  writes = record {
    Makes = MakesSlice Holds key digest;
    Stops = λ fault. IsRefusal Refuses Unfailed fault × Takes draft [];
    Unfailed = Unfailed;
  };
  Lacks = MakesNone Holds key digest;
}

-- the same over archives that are read to their ends
abbrev pub extract : {R S : Type 0} → Reader R → List (Reader S) → SliceKey → Option Digest → Writer → Extraction
extract archive others key digest draft =
    extraction (HoldTogether archive others) (AreRefused archive others) (AreUnfailed archive others) key digest draft

-- the same over the first archive and the rest; nothing over none
abbrev pub extract_first : {S : Type 0} → List (Reader S) → SliceKey → Option Digest → Writer → Extraction
extract_first [] key digest draft = record {
  writes = record { Makes = λ slice told. ⊥; Stops = λ fault. ⊥; Unfailed = ⊥ };
  Lacks = λ told. ⊥;
}
extract_first (archive ∷ others) key digest draft = extract archive others key digest draft
