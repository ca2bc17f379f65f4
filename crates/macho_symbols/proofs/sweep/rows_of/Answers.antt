use Rattle.std.proofs.Common.{◌∙◌, ◌+◌, ◌++◌, ◌∷◌, [], map, get_or, ap, arith, subst, sym}
use Rattle.std.specs.Prelude.{All}
use Rattle.std.proofs.lemmas.List.{map-append, take_all, take_more}
use Rattle.std.proofs.lemmas.List.Elements.{All-push}
use Rattle.macho_symbols.specs.Steps.{SaysNearest}
use Rattle.macho_symbols.specs.InnerCandidates.{AreNumbered, IsLeastOrNone, IsEligibleAmong}
use Rattle.macho_symbols.specs.declared.row.Row.{Row}
use Rattle.macho_symbols.proofs.SweepLemmas.{are_steps, start_said, turn_says, up_to_later}
use Rattle.macho_symbols.proofs.sweep.rows_of.Goals as goal

pub note_up_to-count-requires-clause-numbered : goal.note_up_to-count-requires-clause-numbered
note_up_to-count-requires-clause-numbered c = subst (AreNumbered c.args.candidates.now) (sym c.turns.auto.firsts) c.requires.numbered

pub turns-preserved : goal.turns-preserved
turns-preserved c =
    let cs = c.args.candidates.now in
    let index = c.turns.start-index in
    let a = get_or c.args.turns.now index 0 in
    record {
      within = c.note_up_to-count.ensures.within;
      firsts = c.note_up_to-count.ensures.firsts;
      below = λ image is l. up_to_later cs c.note_up_to-count.result.0 a _
          (omega (arith, is.turns_are.rising index (index + 1) 0 (omega arith) l))
          (c.note_up_to-count.ensures.below (c.turns.invariant.below image is c.turns-test.true));
      starts = ap (map (λ (r : Row). r.start)) c.in_ok-push.ensures.items ∙ map-append (λ (r : Row). r.start) c.turns.rows.items (c.saying.result ∷ [])
          ∙ (λ i. c.turns.invariant.starts i ++ (ap (λ (r : Row). r.start) c.saying.ensures
          ∙ start_said a c.first_at-nearest.result) i ∷ [])
          ∙ sym (take_more c.args.turns.now index 0 c.turns-test.true);
      each = λ image is.
          let found = c.first_at-nearest.ensures image cs c.note_up_to-count.result.0 is.sections_are is.strings_are
          is.candidates_are c.note_up_to-count.ensures.firsts
          (c.note_up_to-count.ensures.below (c.turns.invariant.below image is c.turns-test.true))
          c.note_up_to-count.ensures.above c.note_up_to-count.ensures.best in
          let says = turn_says image cs a c.first_at-nearest.result c.saying.result is.candidates_are
          (subst (λ s. IsLeastOrNone s (IsEligibleAmong image cs a) c.first_at-nearest.result) is.strings_are found)
          c.saying.ensures in
          subst (All (λ (r : Row). SaysNearest image r.start r)) (sym c.in_ok-push.ensures.items)
          (All-push (λ (r : Row). SaysNearest image r.start r) c.turns.rows.items c.saying.result
          (c.turns.invariant.each image is) says);
    }

pub returns : goal.returns
returns c = λ image is.
    are_steps image c.args.turns.now c.turns.rows.items is.turns_are c.type_inv.turns
    (c.turns.invariant.starts ∙ take_all c.turns.start-index c.args.turns.now (omega (arith, c.turns-test.false)))
    (c.turns.invariant.each image is)
