use Rattle.std.proofs.Common.{◌≡◌, ◌∙◌, ◌+◌, Contains, arith, subst, sym}
use Rattle.std.specs.Prelude.{IfSome}
use Rattle.std.proofs.lemmas.Option.{slice_get_within}
use Rattle.macho_symbols.specs.InnerCandidates.{AreFirstsOf}
use Rattle.macho_symbols.specs.declared.candidate.Candidate.{Candidate}
use Rattle.macho_symbols.proofs.SweepLemmas.{above_from, contained, first_is_one, firsts_noted, up_to_noted}
use Rattle.macho_symbols.proofs.sweep.note_up_to.Goals as goal
use Rattle.macho_symbols.proofs.sweep.note_up_to.Goals.{then-candidate-address, else-candidate-address}

pub note_candidate-requires-clause-some : goal.note_candidate-requires-clause-some
note_candidate-requires-clause-some c =
    (c.requires.numbered c.in-Some.candidate (contained c.args.candidates.now c.noting.index c.in-Some.candidate c.in-Some.ensures.0)).0

pub note_candidate-requires-clause-within : goal.note_candidate-requires-clause-within
note_candidate-requires-clause-within c =
    omega (
      arith,
      (c.requires.numbered c.in-Some.candidate
          (contained c.args.candidates.now c.noting.index c.in-Some.candidate c.in-Some.ensures.0)).1,
      c.noting.auto.firsts,
    )

pub noting-smaller : goal.noting-smaller
noting-smaller c = omega (arith, slice_get_within c.args.candidates.now c.noting.index c.in-Some.candidate c.in-Some.ensures.0)

pub noting-preserved : goal.noting-preserved
noting-preserved c =
    let cs = c.args.candidates.now in
    let k = c.in-Some.candidate in
    let at = c.in-Some.ensures.0 in
    let named = c.requires.numbered k (contained cs c.noting.index k at) in
    record {
      within = omega (arith, slice_get_within cs c.noting.index k at);
      firsts = subst (AreFirstsOf c.args.names.now cs (c.noting.index + 1)) (sym c.note_candidate.ensures)
          (firsts_noted c.args.names.now cs c.noting.index c.noting.firsts k at named.0
          (omega (arith, named.1, c.noting.auto.firsts)) c.noting.invariant.firsts);
      below = λ up. up_to_noted cs c.noting.index c.args.address k at c.in-Some.ensures.1 (c.noting.invariant.below up);
      best = elim c.if-candidate-address.branch [
        | then-candidate-address w ↦ subst (λ o. IfSome o
            (λ (b : Candidate). Contains cs b × (b.value ≡ c.args.address))) (sym (w.best-is ∙ w.first_of-best.ensures))
            (first_is_one c.args.names.now (λ (b : Candidate). Contains cs b × (b.value ≡ c.args.address)) c.noting.best
            k c.noting.invariant.best (contained cs c.noting.index k at, w.if-candidate-address.true))
        | else-candidate-address w ↦ subst (λ o. IfSome o
            (λ (b : Candidate). Contains cs b × (b.value ≡ c.args.address))) (sym w.best-is) c.noting.invariant.best
      ];
    }

pub returns : goal.returns
returns c = record {
  within = c.noting.invariant.within;
  firsts = c.noting.invariant.firsts;
  below = c.noting.invariant.below;
  above = above_from c.args.candidates.now c.noting.index c.args.address c.requires.sorted c.in_default.ensures;
  best = c.noting.invariant.best;
}
