use Rattle.std.proofs.Common.{◌≡◌, ◌+◌, ◌<◌, ◌≤◌, length, take, drop, ap, ◌∙◌, arith, length-take}
use Rattle.table_symbols.proofs.NameLemmas.{piece_is, piece_last, piece_more, piece_within, strings_end, strings_from}
use Rattle.table_symbols.proofs.names.name_from.Goals as goal

pub returns-then-part-n-clause-read : goal.returns-then-part-n-clause-read
returns-then-part-n-clause-read g c = record {
  says = λ text is all pages.
      let n = c.min-n.result in
      let long : length c.read.new.buf ≡ n = c.read.auto.buf ∙ length-take n _ ∙ omega (arith, c.min-n.ensures) in
      let inside : c.pieces.at + n ≤ c.args.size = omega (arith, c.min-n.ensures, c.pieces-test.true) in
      let some : 0 < n = omega (arith, c.min-n.ensures, c.pieces-test.true) in
      let came : c.read.new.buf ≡ take n (drop (c.args.first + c.pieces.at) all) =
      c.in_ok-read.ensures.read.says text (c.pieces.invariant.whole ∙ is) all
      (c.pieces.invariant.keeps text all is pages) ∙ ap (λ k. take k (drop (c.args.first + c.pieces.at) all)) long in
      piece_last (strings_from c.args.first c.args.size all) c.read.new.buf c.pieces.name.items
      c.push_bytes.new.name.items c.before_nul-part.result.now _ c.pieces.at n
      (piece_is all c.read.new.buf c.args.first c.args.size c.pieces.at n inside came)
      (piece_within all c.read.new.buf c.args.first c.args.size c.pieces.at n long some inside came)
      c.before_nul-part.ensures c.if-part-n.true
      c.in_ok-push_bytes.ensures.pushed (c.pieces.invariant.came text all is pages);
  keeps = c.in_ok-read.ensures.read.keeps ∙ c.pieces.invariant.whole;
  counts = c.in_ok-read.ensures.read.counts ∙ c.pieces.invariant.unfailed;
}

pub pieces-preserved : goal.pieces-preserved
pieces-preserved g c = record {
  claim = c.in_ok-read.ensures.claim ∙ c.pieces.invariant.claim;
  whole = c.in_ok-read.ensures.read.keeps ∙ c.pieces.invariant.whole;
  unfailed = c.in_ok-read.ensures.read.counts ∙ c.pieces.invariant.unfailed;
  keeps = λ text all is pages. c.in_ok-read.ensures.keeps text all (c.pieces.invariant.whole ∙ is) (c.pieces.invariant.keeps text all is pages);
  came = λ text all is pages.
      let n = c.min-n.result in
      let long : length c.read.new.buf ≡ n = c.read.auto.buf ∙ length-take n _ ∙ omega (arith, c.min-n.ensures) in
      let inside : c.pieces.at + n ≤ c.args.size = omega (arith, c.min-n.ensures, c.pieces-test.true) in
      let some : 0 < n = omega (arith, c.min-n.ensures, c.pieces-test.true) in
      let came : c.read.new.buf ≡ take n (drop (c.args.first + c.pieces.at) all) =
      c.in_ok-read.ensures.read.says text (c.pieces.invariant.whole ∙ is) all
      (c.pieces.invariant.keeps text all is pages) ∙ ap (λ k. take k (drop (c.args.first + c.pieces.at) all)) long in
      piece_more (strings_from c.args.first c.args.size all) c.read.new.buf c.pieces.name.items
      c.push_bytes.new.name.items c.before_nul-part.result.now _ c.pieces.at n
      (piece_is all c.read.new.buf c.args.first c.args.size c.pieces.at n inside came)
      (piece_within all c.read.new.buf c.args.first c.args.size c.pieces.at n long some inside came)
      c.before_nul-part.ensures c.if-part-n.false
      c.in_ok-push_bytes.ensures.pushed (c.pieces.invariant.came text all is pages);
}

pub returns-clause-read : goal.returns-clause-read
returns-clause-read g c = record {
  says = λ text is all pages.
      strings_end (strings_from c.args.first c.args.size all) c.pieces.name.items _ c.pieces.at
      (omega (arith, length-take c.args.size (drop c.args.first all), c.pieces-test.false))
      (c.pieces.invariant.came text all is pages);
  keeps = c.pieces.invariant.whole;
  counts = c.pieces.invariant.unfailed;
}
