use Rattle.std.proofs.Common.{List, map, ap, ◌∙◌, arith}
use Rattle.std.specs.Borrow.{Bor}
use Rattle.std.proofs.lemmas.List.{take_all}
use Rattle.dwarf_source_frames.specs.declared.frame.SourceFrame.{SourceFrame}
use Rattle.text_reports.specs.FrameLists.{list_view}
use Rattle.index_lookup.specs.Views.{borrowed_in}
use Rattle.index_lookup.proofs.Columns.{rows_more}
use Rattle.command_frames.proofs.tables.borrowed_lists.Goals as goal

pub lists-preserved : goal.lists-preserved
lists-preserved c =
    rows_more borrowed_in (λ (frames : Bor (List SourceFrame)). list_view frames.now) c.args.lists.now c.lists.list-index
    c.list-item.result c.lists.borrowed.items c.push.new.self.items c.as_slice.result c.lists-test.true
    c.list-item.is c.in_ok-push.ensures.items
    (ap (λ (frames : List SourceFrame). list_view frames) c.as_slice.ensures.value) c.lists.invariant

pub returns : goal.returns
returns c = c.lists.invariant ∙ ap (map borrowed_in) (take_all c.lists.list-index c.args.lists.now (omega (arith, c.lists-test.false)))
