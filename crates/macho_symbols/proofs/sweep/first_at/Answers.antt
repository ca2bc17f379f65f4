use Rattle.std.proofs.Common.{◌∙◌, ◌+◌, None, get_or, ap, arith, subst, sym}
use Rattle.macho_symbols.specs.Symbols.{strings_of}
use Rattle.macho_symbols.specs.InnerCandidates.{AreFirstsOf, IsLeastOrNone, IsEligibleAmong, first_of}
use Rattle.macho_symbols.proofs.SweepLemmas.{Seen, seen_all, seen_inside, seen_none, seen_outside}
use Rattle.macho_symbols.proofs.sweep.first_at.Goals as goal
use Rattle.macho_symbols.proofs.sweep.first_at.Goals.{then-is_inside, else-is_inside}

pub sections-init : goal.sections-init
sections-init c = λ image candidates count of strings are firsts up above some.
    seen_none image c.args.sections.now candidates c.args.address of are c.args.best some

pub sections-preserved : goal.sections-preserved
sections-preserved c = λ image candidates count of strings are firsts up above some.
    let so_far = c.sections.invariant image candidates count of strings are firsts up above some in
    let sections = c.args.sections.now in
    let index = c.sections.index in
    elim c.if-is_inside.branch [
      | then-is_inside w ↦
          subst (IsLeastOrNone (strings_of image) (Seen image sections candidates c.args.address of are c.args.best (index + 1)))
          (sym (w.best-is ∙ w.first_of-best.ensures ∙ ap (λ s. first_of s c.sections.best (get_or c.args.firsts.now index None)) strings))
          (seen_inside image sections candidates c.args.address of are c.args.best c.sections.best c.args.firsts.now
          index count _ c.sections-test.true c.requires (sym c.is_inside.ensures ∙ w.if-is_inside.true)
          (subst (λ s. AreFirstsOf s candidates count c.args.firsts.now) strings firsts) up above so_far)
      | else-is_inside w ↦
          subst (IsLeastOrNone (strings_of image) (Seen image sections candidates c.args.address of are c.args.best (index + 1))) (sym w.best-is)
          (seen_outside image sections candidates c.args.address of are c.args.best c.sections.best index _
          c.sections-test.true (sym c.is_inside.ensures ∙ w.if-is_inside.false) so_far)
    ]

pub returns : goal.returns
returns c = λ image candidates count of strings are firsts up above some.
    subst (λ s. IsLeastOrNone s (IsEligibleAmong image candidates c.args.address) c.sections.best) (sym strings)
    (seen_all image c.args.sections.now candidates c.args.address of are c.args.best c.sections.best c.sections.index (omega (arith, c.sections-test.false))
    (c.sections.invariant image candidates count of strings are firsts up above some))
