use Rattle.std.proofs.Common.{◌<◌, length, map, ap, sym, ◌∙◌, arith}
use Rattle.std.proofs.Math.ListN.{length-map}
use Rattle.std.proofs.lemmas.Bool.{eq-eqb, eqb-true}
use Rattle.index_format.specs.Entry.{entry_bytes, stored_size}
use Rattle.index_format.specs.Text.{FollowOn}
use Rattle.index_format.proofs.PlaceLemmas.{all_followed, all_borrowed, bytes_at, fields_at, borrowed_at, borrowed_within, not_here, of_borrowed, one_more}
use Rattle.index_format.proofs.places.follow_on.Goals as goal

pub follows-requires : goal.follows-requires
follows-requires c =
    let borrowed = c.args.order.now in
    let i = c.following.entry-index in
    fields_at (all_borrowed borrowed) i (of_borrowed c.entry-item.result) c.requires.fields
    (borrowed_within borrowed i c.following-test.true)
    (borrowed_at borrowed i c.entry-item.result c.following-test.true c.entry-item.is)

pub returns-then-not-follows : goal.returns-then-not-follows
returns-then-not-follows c =
    let order = all_borrowed c.args.order.now in
    let xs = map entry_bytes order in
    let i = c.following.entry-index in
    let e = of_borrowed c.entry-item.result in
    let within : i < length order = borrowed_within c.args.order.now i c.following-test.true in
    let lt : i < length xs = omega (arith, within, length-map order entry_bytes) in
    let at_place = borrowed_at c.args.order.now i c.entry-item.result c.following-test.true c.entry-item.is in
    let is = bytes_at order i e within at_place in (
      λ h. absurd (cc (h)),
      λ p. absurd (not_here c.following.offset c.following.at c.args.end i xs (entry_bytes e)
          (FollowOn 8 8 c.args.end xs) lt is c.following.invariant.left (λ o a. cc (c.if-not-follows.ensures.1 (o, a)))
          p),
    )

pub following-preserved : goal.following-preserved
following-preserved c =
    let order = all_borrowed c.args.order.now in
    let xs = map entry_bytes order in
    let i = c.following.entry-index in
    let e = of_borrowed c.entry-item.result in
    let within : i < length order = borrowed_within c.args.order.now i c.following-test.true in
    let lt : i < length xs = omega (arith, within, length-map order entry_bytes) in
    let at_place = borrowed_at c.args.order.now i c.entry-item.result c.following-test.true c.entry-item.is in
    let is = bytes_at order i e within at_place in
    let fields = fields_at order i e c.requires.fields within at_place in
    let here = c.if-not-follows.ensures.0 cc in
    record {
      offset_fits = omega (arith, c.following.invariant.offset_fits, c.from-offset.ensures);
      at_fits = omega (arith, c.following.invariant.at_fits, c.stored_size-at.ensures.fits);
      left = one_more c.following.offset c.following.at c.args.end i xs (entry_bytes e) (FollowOn 8 8 c.args.end xs) lt
          is c.following.invariant.left _ _ here.0 here.1
          (omega (arith, c.from-offset.ensures, fields.length_is)) (omega (arith, c.stored_size-at.ensures.is, ap stored_size fields.claim_is));
    }

pub returns : goal.returns
returns c =
    let order = all_borrowed c.args.order.now in
    let xs = map entry_bytes order in
    let all = all_followed c.following.offset c.following.at c.args.end c.following.entry-index xs
    (FollowOn 8 8 c.args.end xs) (omega (
      arith,
      c.following-test.false,
      length-map order entry_bytes,
      length-map c.args.order.now of_borrowed,
    )) c.following.invariant.left in
    (λ h. all.0 (eqb-true c.following.at c.from.result h ∙ c.from.ensures), λ p. eq-eqb c.following.at c.from.result (all.1 p ∙ sym c.from.ensures))
