use Rattle.std.proofs.Common.{◌≡◌, ◌++◌, ℕ, List, ap, arith, drop, length, map, sym, take, ◌∙◌}
use Rattle.std.proofs.Math.Seq.{take-append_seam}
use Rattle.std.proofs.lemmas.List.{length-map}
use Rattle.std.proofs.lemmas.Result.{IfOk-weaker}
use Rattle.join_core.specs.Listing.{listing}
use Rattle.archive_core.specs.Record.{record_bytes}
use Rattle.archive_merge.specs.Arrivals.{arrival_of, is_new}
use Rattle.archive_merge.proofs.Lost.{new_changes}
use Rattle.command_archives.specs.FileRows.{file_lines}
use Rattle.command_archives.specs.declared.file_rows.FileRow.{FileRow}
use Rattle.command_archives.specs.InnerArriving.{updated_rows}
use Rattle.command_archives.proofs.Noted.{all_noted}
use Rattle.command_archives.proofs.Taking.{always}
use Rattle.command_archives.proofs.admit.report_arrivals.Goals as goal

pub note_retired-requires : goal.note_retired-requires
note_retired-requires c =
    let long = length-map c.operations.result.now record_bytes in
    c.requires.told ∙ sym (ap length c.operations.ensures.listed) ∙ long

pub update_rows-requires : goal.update_rows-requires
update_rows-requires c =
    let p = c.requires.are_first in
    (listing c.args.arrivals.came, p.0, rw (c.deref_mut.ensures.value, c.deref.ensures.value) p.1, c.requires.told)

pub returns-clause-lines : goal.returns-clause-lines
returns-clause-lines c =
    let old = c.args.arrivals.rows in
    let value = c.deref_mut.ensures.value in
    let new = c.update_rows.new.rows in
    let rest = drop (length new) old.items in
    let long : old.len ≡ length new = omega (arith, old.ok.0, ap length value, c.update_rows.auto.rows) in
    let all = ap (λ (n : ℕ). take n (new ++ rest)) long ∙ take-append_seam new rest in
    IfOk-weaker c.file_lines.result _ _ (λ lines is o records are_first arrived.
    is ∙ ap file_lines (c.deref-2.ensures.value ∙ all
    ∙ c.update_rows.ensures (arrival_of o) (listing c.args.arrivals.came) records (rw (value, c.deref.ensures.value) are_first) arrived
    ∙ ap (λ (rows : List FileRow). updated_rows (λ r. is_new (arrival_of o r)) rows records) value
    ∙ (λ i. updated_rows (λ r. new_changes o r i) old.items records))) c.file_lines.ensures

pub returns-clause-noted : goal.returns-clause-noted
returns-clause-noted c = always c.file_lines.result (λ o arrived.
    let listed = c.operations.ensures.listed in
    c.in_ok-note_retired.ensures (arrival_of o) (arrived ∙ ap (map (arrival_of o)) (sym listed))
    ∙ ap (λ ns. c.args.notes.now.items ++ ns) (all_noted o c.operations.result.now c.operations.ensures.are c.args.arrivals.came listed))
