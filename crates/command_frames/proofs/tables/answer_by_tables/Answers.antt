use Rattle.archive_core.specs.Key.{key_bytes}
use Rattle.index_lookup.specs.AmongAsked.{HaveTexts}
use Rattle.command_frames.proofs.Shown.{fault_told, tables_tell, told_of}
use Rattle.command_frames.proofs.States.{there_among}
use Rattle.command_frames.proofs.tables.answer_by_tables.Goals as goal

pub answer_among-requires : goal.answer_among-requires
answer_among-requires g c =
    let are = rw c.in-Some.is at c.in_ok-answering.ensures in
    there_among {D = g.row.I.Denot} c.args.indexes.now (key_bytes c.args.key.now) c.args.read.now c.in-Some.answering c.requires are

pub returns-in-Ok : goal.returns-in-Ok
returns-in-Ok g c =
    let are = rw c.in-Some.is at c.in_ok-answering.ensures in
    let told = told_of g.I.Placed.whole g.I.Placed.failures c.args.key.now c.args.read.now c.in-Some.answering are
    c.args.indexes.now c.answer_among.new.devices c.args.lines c.args.places.now c.in-Ok.answers c.in-Ok.ensures.asks
    c.each_told.ensures.answer in
    record {
      is = (
        tables_tell (HaveTexts g.I.Placed.whole c.args.indexes.now) c.args.read.now c.args.key.now c.args.lines
            c.args.places.now c.in-Ok.answers c.in_ok-told-in-Ok.told.items told c.in_ok-told-in-Ok.ensures,
        c.answer_among.ensures.asks.keeps,
      );
      unfailed = c.in-Ok.ensures.asks.counts;
    }

pub returns : goal.returns
returns g c =
    let are = rw c.in-Some.is at c.in_ok-answering.ensures in
    rw c.reply_to_fault.ensures (fault_told g.I.Placed.whole g.I.Placed.failures c.args.key.now c.args.read.now
    c.in-Some.answering are c.args.indexes.now c.answer_among.new.devices c.args.lines c.args.places.now
    c.args.slices c.in-Err.fault c.in-Err.ensures.asks c.in-Err.ensures.first)
