use Rattle.std.proofs.Common.{Some, ap, refl, ◌∙◌}
use Rattle.command_archives.proofs.Streamed.{stopped_opened, taken_of, unfinished_opened, makes_at_hand, told_opened}
use Rattle.command_archives.proofs.Joined.{text_in_order}
use Rattle.archive_index.proofs.Held.{are_records}
use Rattle.command_archives.proofs.merging.merge_operations.Goals as goal

pub returns-in-Ok : goal.returns-in-Ok
returns-in-Ok g c =
    let operations = c.args.operations.now in
    told_opened _ _ c.new-text.result c.merge_with_arrivals.new.right _ (record {
      are = are_records operations c.requires.are;
      bytes = ap Some (c.new-text.ensures ∙ text_in_order operations c.requires.ascending);
      unfailed_before = refl;
      unfailed = refl;
    })
    g.R.Source.left g.R.Source.failures c.args.input.now c.merge_with_arrivals.new.left _ _ _ c.merge_with_arrivals.new.w _ _ _ c.in-Ok.ensures.tells

pub returns-in-Err : goal.returns-in-Err
returns-in-Err g c =
    let operations = c.args.operations.now in
    let at = makes_at_hand _ _ (record {
      are = are_records operations c.requires.are;
      bytes = ap Some (c.new-text.ensures ∙ text_in_order operations c.requires.ascending);
      unfailed_before = refl;
      unfailed = refl;
    }) in (
      taken_of g.W.Sink.held g.W.Sink.failures c.args.draft.now c.merge_with_arrivals.new.w c.in-Err.fault
          c.command_fault_of.result c.in-Err.ensures.written c.command_fault_of.ensures,
      stopped_opened _ _ c.new-text.result c.merge_with_arrivals.new.right _ at
          g.R.Source.left g.R.Source.failures c.args.input.now c.merge_with_arrivals.new.left _ _ _ c.merge_with_arrivals.new.w
          c.in-Err.fault c.command_fault_of.result c.in-Err.ensures.merges c.command_fault_of.ensures,
      unfinished_opened _ _ c.new-text.result c.merge_with_arrivals.new.right _ at
          g.R.Source.left g.R.Source.failures c.args.input.now c.merge_with_arrivals.new.left _ _ _ c.merge_with_arrivals.new.w
          c.in-Err.fault c.in-Err.ensures.merges,
    )
