-- What `delta` makes, by a copy of what a summary does not name.
use Rattle.std.proofs.Common.{◌≡◌, ◌∙◌, ◌++◌, ℕ, List, [], Option, Result, Some, refl, ap, sym, subst}
use mathlib.Core.Logic.{⊎_map}
use Rattle.archive_core.specs.Summary.{Entries, delta}
use Rattle.archive_records.specs.Entry.{AreEntries}
use Rattle.archive_records.specs.declared.fault.MergeCause.{MergeCause}
use Rattle.archive_records.specs.declared.fault.MergeCause.TheVariants.{Left, Right, Write}
use Rattle.archive_records.specs.declared.fault.MergeFault.{MergeFault}
use Rattle.archive_records.specs.declared.writing.Sizes.{Sizes}
use Rattle.archive_records.specs.Text.{summary_text, written}
use Rattle.archive_records.proofs.Inputs.{one_summary}
use Rattle.byte_device.specs.Devices.{Stream, stream}
use Rattle.byte_device.specs.Writes.{WritesFirst}
use Rattle.text_reports.specs.Report.{archive_line}
use Rattle.command_common.specs.declared.faults.CommandFault.{CommandFault}
use Rattle.command_common.specs.declared.faults.CommandFault.TheVariants.{Input, Output, OutOfMemory}
use Rattle.command_common.specs.declared.faults.Status.{Status}
use Rattle.command_common.specs.Ends.{EndsStreamed, HasFirst, StopsAmidst}
use Rattle.command_common.specs.Inputs.{Holds, IsKnown, IsRefusedSummary, Reader, Unfailed, reader}
use Rattle.command_common.specs.Outputs.{Out, Publishes, Takes, Writer, writer}
use Rattle.command_common.proofs.Amidst.{gives_known}
use Rattle.command_archives.specs.Begun.{BeginsGood, EndsBegun, HasBegun, IsUnfinished}
use Rattle.command_archives.proofs.Beginnings.{good_content, records_of}
use Rattle.std.specs.FinSet as set
use Rattle.archive_core.specs.Content.{IsContent, Operations, content_of}
use Rattle.archive_records.specs.Text.{IsArchiveOf}
use Rattle.archive_records.proofs.Versions.{one_content}
use Rattle.command_archives.specs.Copying.{CopiesUnnamed, IsUnnamed, MakesUnnamed, StopsCopy, StopsCopyBy, copying}
use Rattle.command_archives.specs.Delta.{GivesSummary, MakesDelta, delta_as_it_comes}
use Rattle.command_archives.specs.MergeStreams.{IsMergeFaultTold}
use Rattle.command_archives.proofs.Streamed.{archive_published}
use Rattle.command_archives.proofs.Begun.{one_given, read_behind}

-- ---- an archive

module _ {R W : Type 0} (left : R → Option (List ℕ)) (failures : R → ℕ) (l l' : R) (held : W → Option (List ℕ))
    (draft_failures : W → ℕ) (w w' : W) (s : Entries) where
  abbrev archive : Reader R
  archive = reader left failures l l'

  abbrev draft : Writer
  draft = writer held draft_failures w w'

  -- it was copied
  pub copied_opened : (sizes : Sizes) → CopiesUnnamed (stream left failures l l') (stream held draft_failures w w') s
      sizes → IsUnnamed archive s (stream held draft_failures w w') sizes
  copied_opened sizes c = record { before = c.content; is_content = c.read.is; archive_is = c.read.text; unfailed = c.read.unfailed; written_is = c.written_is }

  first : (e : MergeFault) → StopsCopy (stream left failures l l') (stream held draft_failures w w') s e
      → HasFirst (copying archive s) (IsKnown archive) draft e.written
  first e st known text told m =
      let made = m.makes in
      let given = gives_known left failures l l' made.before known made.archive_is in
      let first_of : (o : Operations) (t : List ℕ) → IsContent o → IsArchiveOf o t → left l ≡ Some t
      → WritesFirst (held w) (held w') (written (delta o s)) e.written =
      λ o t content is there.
      let r = records_of o t content is in
      subst (λ (q : Operations). WritesFirst (held w) (held w') (written (delta q s)) e.written) r.2 (st.first t r.0 r.1 there) in
      subst (λ (t : List ℕ). WritesFirst (held w) (held w') t e.written) (sym (m.text_is ∙ ap written made.content_is))
      (first_of made.before given.0 made.is_content given.1 given.2)

  stops : (cause : MergeCause) (n : ℕ) (fault : CommandFault)
      → StopsCopyBy (stream left failures l l') (stream held draft_failures w w') cause
      → HasFirst (copying archive s) (IsKnown archive) draft n
      → IsMergeFaultTold (record { cause = cause; written = n }) fault → StopsAmidst (copying archive s) (IsKnown archive) draft fault
  stops (Left why) n (Input place says) st f t = ((t.0, (why, t.1, t.2, st.0)), st.1, (n, f))
  stops (Left why) n (Output k) st f t = absurd (cc (ap (λ (e : MergeFault). e.cause) t))
  stops (Left why) n OutOfMemory st f t = (st.0.0.blames.1 (λ device. cc), st.1, (n, f))
  stops (Right why) n fault st f t = absurd st
  stops Write n (Output k) st f t = (st.0, st.1, subst (HasFirst (copying archive s) (IsKnown archive) draft) (ap (λ (e : MergeFault). e.written) t) f)
  stops cause n fault st f t = absurd t

  -- what its draft has then
  good : (e : MergeFault) → StopsCopy (stream left failures l l') (stream held draft_failures w w') s e
      → BeginsGood (λ given. copying given s) archive draft
  good e st bytes records sound text told given are is m =
      let held_text : IsArchiveOf m.makes.before is.0 = rw is.2 at m.makes.archive_is in
      let same : m.makes.before ≡ content_of (set.from_list records) =
      one_content is.0 m.makes.before (content_of (set.from_list records)) m.makes.is_content
      (good_content bytes records are) held_text is.1 in (
        e.written,
        subst (λ (t : List ℕ). WritesFirst (held w) (held w') t e.written)
            (sym (m.text_is ∙ ap written m.makes.content_is ∙ ap (λ (q : Operations). written (delta q s)) same))
            (st.first bytes records are given),
      )

  pub unfinished_copy : (e : MergeFault) → StopsCopy (stream left failures l l') (stream held draft_failures w w') s e
      → IsUnfinished archive (Unit {0}) (λ given. copying given s) (Unit {0}) draft
  unfinished_copy e st = record {
    no_text = st.no_text;
    begun = ⊎_map (λ (none : Takes draft []). none) (λ (begun : HasBegun archive). (tt, begun)) st.begun;
    good = λ known. good e st;
  }

  pub stopped_copy : (e : MergeFault) (fault : CommandFault)
      → StopsCopy (stream left failures l l') (stream held draft_failures w w') s e → IsMergeFaultTold e fault
      → StopsAmidst (copying archive s) (IsKnown archive) draft fault
  stopped_copy e fault st told = stops e.cause e.written fault st.by (first e st) told

-- ---- OUT, and the report

module _ {R : Type 0} (archive : Reader R) (s : Entries) where
  pub unnamed_published : {W : Type 0} (draft : Stream W) (sizes : Sizes) (u : IsUnnamed archive s draft sizes)
      (lines : List ℕ) → lines ≡ [] → (out : Out) (report : Writer) (result : Result Status CommandFault)
      → Publishes out report (written (delta u.before s)) (lines ++ archive_line sizes) result → EndsBegun archive (λ given. copying given s) out report result
  unnamed_published draft sizes u lines none out report result =
      archive_published (MakesUnnamed archive s) _ (Unfailed archive) draft sizes (delta u.before s) lines out report result u.unfailed
      (record { before = u.before; is_content = u.is_content; archive_is = u.archive_is; content_is = refl; lines_are = none }) u.written_is

-- ---- SUMMARY, and then ARCHIVE

module _ {R S : Type 0} (archive : Reader R) (left : S → Option (List ℕ)) (failures : S → ℕ) (old new : S) (out : Out) (report : Writer) where
  abbrev summary : Reader S
  summary = reader left failures old new

  abbrev EndsSo : Result Status CommandFault → Type 0
  EndsSo result = EndsStreamed (delta_as_it_comes archive summary out.draft) out report result

  -- SUMMARY was read
  pub named : (s : Entries) → AreEntries s → Holds summary (summary_text s) → Unfailed summary
      → (result : Result Status CommandFault) → EndsBegun archive (λ given. copying given s) out report result
      → EndsSo result
  named s are holds unfailed =
      read_behind (λ given. MakesDelta given summary) archive (IsRefusedSummary summary) (Unfailed summary)
      (IsKnown summary) (GivesSummary summary × Unfailed summary) out report
      (λ given. MakesUnnamed given s) unfailed ((s, are, holds), unfailed)
      (λ o lines m. record {
        before = m.before;
        entries = s;
        is_content = m.is_content;
        are_entries = are;
        archive_is = m.archive_is;
        summary_is = holds;
        content_is = m.content_is;
        lines_are = m.lines_are;
      })
      (λ known given o lines m.
      let same = one_given (λ s text. text ≡ summary_text s) left failures old new m.entries s
      (λ text h k. one_summary m.entries s m.are_entries are (sym h ∙ k)) known m.summary_is holds in
      record {
        before = m.before;
        is_content = m.is_content;
        archive_is = m.archive_is;
        content_is = m.content_is ∙ ap (delta m.before) same;
        lines_are = m.lines_are;
      })
