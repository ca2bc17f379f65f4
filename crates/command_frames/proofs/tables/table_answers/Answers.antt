use Rattle.std.proofs.Common.{get_or, arith}
use Rattle.std.proofs.lemmas.List.{get_or_default}
use Rattle.std.proofs.lemmas.Option.{slice_get-get_or}
use Rattle.archive_core.specs.declared.lookup.Where.TheVariants.{File}
use Rattle.command_queries.specs.Places.{IsPlaceTold}
use Rattle.command_queries.proofs.Placed.{placed_more}
use Rattle.command_frames.specs.InnerKeyReplies.{IsAnswerIn}
use Rattle.command_frames.proofs.tables.table_answers.Goals as goal

pub places-init : goal.places-init
places-init c = rw c.in_ok-told.ensures.items tt

pub places-preserved : goal.places-preserved
places-preserved c =
    let answers = c.args.answers.now in
    let places = c.args.places.now in
    let number = c.places.number in
    let place = get_or places number (File 0) in
    let at = slice_get-get_or places number (File 0) (omega arith) in
    let is = c.in_ok-table_answer.ensures in
    let one : IsPlaceTold (IsAnswerIn answers c.args.lines places) place c.in_ok-table_answer.field-0 = record {
      row = is.row;
      address_is = is.address_is;
      is_said = (number, at, is.is_said);
      status_is = is.status_is;
      text_is = is.text_is;
    } in
    placed_more (IsPlaceTold (IsAnswerIn answers c.args.lines places)) places number place c.places.told.items
    c.push.new.self.items c.in_ok-table_answer.field-0 (omega arith)
    (get_or_default places number (File 0) place (omega arith)) c.in_ok-push.ensures.items c.places.invariant one
