use Rattle.std.proofs.Common.{◌≡◌, ℕ, List, [], ◌∷◌, Option, Some, Ok, sym, subst}
use Rattle.std.specs.FinSet as set
use Rattle.std.specs.Io.KnownBytes.{Appends}
use Rattle.archive_records.specs.Text.{written}
use Rattle.command_common.specs.declared.faults.Status.{Status}
use Rattle.command_common.specs.Ends.{Carries, EndsStreamed}
use Rattle.command_common.specs.Inputs.{Reader}
use Rattle.command_common.specs.Outputs.{IsPublished, Out, Outs, Writer, out_of}
use Rattle.command_archives.specs.Merge.{merge}
use Rattle.command_archives.specs.MergeStreams.{merge_as_it_comes}
use Rattle.laws_archive.specs.Sequences.{ByNew, HasAtOut, IsOutOf, Writes}
use Rattle.laws_archive.proofs.sequence_laws.calls_write_outs.Goals as goal

-- what was appended to nothing
all_of : (old new : Option (List ℕ)) (text left : List ℕ) → old ≡ Some [] → new ≡ Some left → Appends old new text → left ≡ text
all_of old new text left none is appended =
    let one : Appends (Some []) new text = subst (λ (o : Option (List ℕ)). Appends o new text) none appended in
    let both : Appends (Some []) (Some left) text = subst (λ (n : Option (List ℕ)). Appends (Some []) n text) is one in
    both

published_is : (out : Out) (text left : List ℕ) → HasAtOut out left → IsPublished out text → left ≡ text
published_is out text left at is = all_of out.draft.old out.published_new text left at.0 at.1 is.published

carried : (Makes : List ℕ → List ℕ → Type 0) (out : Out) (report : Writer) (status : Status) (left : List ℕ) → HasAtOut out left
    → Carries Makes out report (Ok status) → (told : List ℕ) × Makes left told
carried Makes out report status left at c =
    (c.told, subst (λ (t : List ℕ). Makes t c.told) (sym (published_is out c.text left at c.published.1)) c.makes)

merged : {R D T : Type 0} (input : Reader R) (files : List (Reader R)) (out : Outs D T) (report : Writer) (status : Status) (left : List ℕ)
    → HasAtOut (out_of out) left → EndsStreamed (merge_as_it_comes input files out) (out_of out) report (Ok status)
    → Writes (merge input files) left
merged input [] out report status left at ends = carried _ (out_of out) report status left at ends.1
merged input (file ∷ []) out report status left at ends = carried _ (out_of out) report status left at ends.1
merged input (file ∷ next ∷ more) out report status left at ends = carried _ (out_of out) report status left at ends.1

pub returns : goal.returns
returns g c = record {
  new = λ out report status text at ends.
      subst (λ (t : List ℕ). IsOutOf g.row.R.Denot t set.empty) (sym (published_is out (written set.empty) text at ends.1)) ByNew;
  admit = λ opening input files out report status text at ends. carried _ out report status text at ends.1;
  passing = λ opening input files out report status text at ends.
      let c = carried _ out report _ text at ends.1 in
      (c.0, record { content = c.1.content; lines = c.1.lines; makes = (status, c.1.makes); text_is = c.1.text_is; told_is = c.1.told_is });
  retire = λ input key digest out report status text at ends. carried _ out report status text at ends.1;
  apply = λ input ops out report status text at ends. carried _ out report status text at ends.1;
  merge = merged;
  migrate = λ input out report status text at ends. carried _ out report status text at ends.1;
  delta = λ archive summary out report status text at ends. carried _ out report status text at ends.1;
}
