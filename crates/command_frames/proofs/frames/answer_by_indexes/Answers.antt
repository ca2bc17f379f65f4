use Rattle.std.proofs.Common.{◌∙◌, ap, length, subst, sym, inl}
use Rattle.std.proofs.lemmas.Result.{err_from_is_err_and}
use Rattle.command_common.specs.Inputs.{readers}
use Rattle.command_common.proofs.Parts.{refusal_of}
use Rattle.command_common.proofs.Readers.{none_failed}
use Rattle.command_given_indexes.proofs.Groups.{as_many, as_many_lengths}
use Rattle.command_frames.specs.InnerPlaces.{AreKeysOf}
use Rattle.command_frames.proofs.Ended.{frames_refused, frames_told, unfailed_all}
use Rattle.command_frames.proofs.Shown.{even_told}
use Rattle.command_frames.proofs.frames.answer_by_indexes.Goals as goal

pub returns-in_err-uuids : goal.returns-in_err-uuids
returns-in_err-uuids g c =
    let p = err_from_is_err_and c.from_residual.result c.from_residual.ensures.1 in
    rw (p.1, p.2) (
      none_failed g.I.Placed.whole g.I.Placed.failures c.args.indexes.now,
      none_failed g.P.Placed.whole g.P.Placed.failures c.args.archives.now,
    )

pub returns-in_err-read : goal.returns-in_err-read
returns-in_err-read g c =
    let p = err_from_is_err_and c.from_residual-in_err-read.result c.from_residual-in_err-read.ensures.1 in
    let under = rw (← c.deref.ensures.value) at c.in_ok-uuids.ensures in
    rw (p.1, p.2) (refusal_of _ _ _ _ c.in_err-read.field-0.0 (λ at why refused. (c.args.keys.now, c.deref.result.now, under, inl refused)) (λ u. u)
    c.in_err-read.ensures.read)

pub returns-in_err-asked : goal.returns-in_err-asked
returns-in_err-asked g c =
    let p = err_from_is_err_and c.from_residual-in_err-asked.result c.from_residual-in_err-asked.ensures.1 in
    rw (p.1, p.2) c.in_ok-read.ensures.read.unfailed

pub answer_keys-requires-clause-many : goal.answer_keys-requires-clause-many
answer_keys-requires-clause-many g c =
    ap length c.deref-2.ensures.value ∙ as_many c.deref.result.now
    (readers g.I.Placed.whole g.I.Placed.failures c.args.indexes.now c.read_indexes.new.indexes) g.P.Placed.whole g.P.Placed.failures
    c.args.archives.now c.read_indexes.new.archives c.in_ok-read.read.items c.in_ok-read.ensures.read.is c.read_indexes.auto.archives

pub answer_keys-requires-clause-sizes : goal.answer_keys-requires-clause-sizes
answer_keys-requires-clause-sizes g c =
    ap length c.deref-3.ensures.value ∙ as_many_lengths g.P.Placed.whole g.P.Placed.failures
    c.args.archives.now c.read_indexes.new.archives c.in_ok-read.sizes.items c.in_ok-read.ensures.lengths c.read_indexes.auto.archives

pub answer_keys-requires-clause-same : goal.answer_keys-requires-clause-same
answer_keys-requires-clause-same g c =
    ap length c.deref-2.ensures.value ∙ as_many c.deref.result.now
    (readers g.I.Placed.whole g.I.Placed.failures c.args.indexes.now c.read_indexes.new.indexes) g.P.Placed.whole g.P.Placed.failures
    c.args.archives.now c.read_indexes.new.archives c.in_ok-read.read.items c.in_ok-read.ensures.read.is c.read_indexes.auto.archives
    ∙ c.read_indexes.auto.archives ∙ sym c.requires ∙ sym c.read_indexes.auto.indexes

pub returns-in_err-told : goal.returns-in_err-told
returns-in_err-told g c =
    let p = err_from_is_err_and c.from_residual-in_err-told.result c.from_residual-in_err-told.ensures.1 in
    let under = rw (← c.deref.ensures.value) at c.in_ok-uuids.ensures in
    let of = rw (← c.deref-4.ensures.value) at c.in_ok-asked.ensures.are in
    let read = rw (← c.deref-2.ensures.value) at c.in_ok-read.ensures.read in
    let lengths = rw (← c.deref-3.ensures.value) at c.in_ok-read.ensures.lengths in
    rw (p.1, p.2) (frames_refused g.I.Placed.whole g.I.Placed.failures g.P.Placed.whole g.P.Placed.failures
    c.args.indexes.now c.read_indexes.new.indexes c.answer_keys.new.indexes c.args.archives.now c.read_indexes.new.archives
    c.answer_keys.new.archives c.deref.result.now c.deref-2.result.now c.deref-3.result.now c.answer_keys.auto.indexes
    c.answer_keys.auto.archives read lengths c.in_ok-read.ensures.kept c.args.lines c.args.slices c.args.keys.now c.args.frames.now
    c.deref-4.result.now under of c.in_err-told.field-0.0 c.in_err-told.ensures)

pub print_frames-requires-clause-asked : goal.print_frames-requires-clause-asked
print_frames-requires-clause-asked g c =
    let of = rw (← c.deref-4.ensures.value) at c.in_ok-asked.ensures.are in
    rw c.deref-6.ensures.value (subst (AreKeysOf c.args.frames.now) (sym c.in_ok-told.ensures.is.0.asked_is) of)

pub print_frames-requires-clause-even : goal.print_frames-requires-clause-even
print_frames-requires-clause-even g c = rw c.deref-6.ensures.value (even_told _ _ _ _ _ c.in_ok-told.ensures.is.0)

pub returns-in_err-shown : goal.returns-in_err-shown
returns-in_err-shown g c =
    let p = err_from_is_err_and c.from_residual-in_err-shown.result c.from_residual-in_err-shown.ensures.1 in
    let read = rw (← c.deref-2.ensures.value) at c.in_ok-read.ensures.read in
    let lengths = rw (← c.deref-3.ensures.value) at c.in_ok-read.ensures.lengths in
    rw (p.1, p.2) (unfailed_all g.I.Placed.whole g.I.Placed.failures g.P.Placed.whole g.P.Placed.failures
    c.args.indexes.now c.read_indexes.new.indexes c.answer_keys.new.indexes c.args.archives.now c.read_indexes.new.archives
    c.answer_keys.new.archives c.deref.result.now c.deref-2.result.now c.deref-3.result.now c.answer_keys.auto.indexes
    c.answer_keys.auto.archives read lengths c.in_ok-read.ensures.kept c.args.lines c.args.slices c.in_ok-told.ensures.unfailed)

pub returns : goal.returns
returns g c =
    let under = rw (← c.deref.ensures.value) at c.in_ok-uuids.ensures in
    let of = rw (← c.deref-4.ensures.value) at c.in_ok-asked.ensures.are in
    let read = rw (← c.deref-2.ensures.value) at c.in_ok-read.ensures.read in
    let lengths = rw (← c.deref-3.ensures.value) at c.in_ok-read.ensures.lengths in
    let prints = rw (c.deref-5.ensures.value, c.deref-6.ensures.value, ← c.deref-2.ensures.value) at c.in_ok-shown.ensures in
    frames_told g.I.Placed.whole g.I.Placed.failures g.P.Placed.whole g.P.Placed.failures
    c.args.indexes.now c.read_indexes.new.indexes c.answer_keys.new.indexes c.args.archives.now c.read_indexes.new.archives
    c.answer_keys.new.archives c.deref.result.now c.deref-2.result.now c.deref-3.result.now c.answer_keys.auto.indexes
    c.answer_keys.auto.archives read lengths c.in_ok-read.ensures.kept c.args.lines c.args.slices c.args.keys.now c.args.frames.now
    c.deref-4.result.now c.in_ok-told.told.items under of c.in_ok-told.ensures c.in_ok-shown.shown.0 c.in_ok-shown.shown.1.items prints
