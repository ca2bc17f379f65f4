use Rattle.std.proofs.Common.{inl}
use Rattle.std.proofs.lemmas.Result.{err_from_is_err_and}
use Rattle.command_common.proofs.Parts.{refusal_of}
use Rattle.command_common.proofs.Readers.{none_failed}
use Rattle.command_given_indexes.proofs.Groups.{kept_none}
use Rattle.command_frames.proofs.Keys.{by_tables, slices_asked}
use Rattle.command_frames.proofs.key_answers.answer_key.Goals as goal

pub returns-in_err-told : goal.returns-in_err-told
returns-in_err-told g c =
    let p = err_from_is_err_and c.from_residual.result c.from_residual.ensures.1 in
    let each = none_failed g.P.Placed.whole g.P.Placed.failures c.args.archives.now in
    rw (p.1, p.2) (refusal_of _ _ _ _ c.in_err-told.field-0.0 (λ at why refused. inl (each, refused)) (λ u. (u, each)) c.in_err-told.ensures)

pub returns-in-Some : goal.returns-in-Some
returns-in-Some g c = record {
  is = (
    by_tables g.I.Placed.whole g.I.Placed.failures g.P.Placed.whole g.P.Placed.failures c.args.lines c.args.slices
        c.args.read.now c.args.sizes.now c.args.indexes.now c.answer_by_tables.new.indexes c.args.archives.now c.args.archives.now
        c.args.key.now c.args.places.now c.in-Some.told (rw c.in-Some.is at c.in_ok-told.ensures.is.0),
    c.in_ok-told.ensures.is.1,
    kept_none g.P.Placed.whole g.P.Placed.failures c.args.archives.now,
  );
  unfailed = (c.in_ok-told.ensures.unfailed, none_failed g.P.Placed.whole g.P.Placed.failures c.args.archives.now);
}

pub answer_by_slices-requires-clause-tied : goal.answer_by_slices-requires-clause-tied
answer_by_slices-requires-clause-tied g c = rw c.in-None.is at c.in_ok-told.ensures.is.0

pub returns-in-None : goal.returns-in-None
returns-in-None g c =
    slices_asked g.I.Placed.whole g.I.Placed.failures g.P.Placed.whole g.P.Placed.failures c.args.lines c.args.slices
    c.args.read.now c.args.sizes.now c.args.indexes.now c.answer_by_tables.new.indexes c.args.archives.now c.answer_by_slices.new.archives
    c.args.key.now c.args.places.now c.answer_by_slices.result c.in_ok-told.ensures.is.1 c.in_ok-told.ensures.unfailed
    c.answer_by_slices.ensures
