use Rattle.std.proofs.Common.{[], ap, subst}
use Rattle.std.proofs.lemmas.Result.{IfOk-weaker}
use Rattle.macho_symbols.specs.Symbols.{strings_of}
use Rattle.table_source_frames.specs.LineTable.{IsLineTable, room_of}
use Rattle.table_source_frames_build.specs.Lines.{IsWritten}
use Rattle.table_source_frames_build.specs.StoreViews.{StoreRecord}
use Rattle.table_source_frames_build.proofs.making.line_table.Goals as goal

pub returns : goal.returns
returns c =
    let given = c.in_ok-push_turns.ensures.0 in
    let took = c.in_ok-push_turns.ensures.1 [] (ap (λ (s : StoreRecord). s.taken) c.new-store.ensures) in
    let image = c.args.image.now in
    let store = c.push_turns.new.sink.store.taken in
    IfOk-weaker c.finish.result (λ bytes. IsWritten c.room_for.result c.strings_of.result.now store bytes.items) (λ bytes. IsLineTable image bytes.items)
    (λ bytes written.
    c.table_by_turns.ensures image given bytes.items c.in_ok-push_turns.ensures.2
    (subst (λ taken. IsWritten (room_of image) (strings_of image) taken bytes.items) took
    (subst (λ room. IsWritten room (strings_of image) store bytes.items) c.room_for.ensures
    (subst (λ strings. IsWritten c.room_for.result strings store bytes.items) c.strings_of.ensures.is written))))
    c.finish.ensures
