use Rattle.std.proofs.Common.{◌∙◌, ap, arith, length, subst, sym}
use Rattle.macho_symbols.specs.Symbols.{entries_of, strings_of}
use Rattle.macho_symbols.specs.InnerCandidates.{IsLeastOrNone, first_of, eligible_at}
use Rattle.macho_symbols.proofs.Standing.{IsBelow, least_at_end, least_next, least_none, none_past}
use Rattle.macho_symbols.proofs.scan.Scan.first_eligible.Goals as goal

pub entries-init : goal.entries-init
entries-init c = least_none (strings_of c.args.self.now) (eligible_at c.args.self.now c.args.address)

pub entries-preserved : goal.entries-preserved
entries-preserved c =
    let image = c.args.self.now in
    let names = c.by_pieces-names.ensures ∙ c.strings.ensures.is ∙ ap strings_of c.self.view_is in
    subst (IsLeastOrNone (strings_of image) (IsBelow (eligible_at image c.args.address) _))
    (sym (c.first_of-best.ensures ∙ (λ i. first_of (names i) c.entries.best (c.eligible_at.ensures i))))
    (least_next (strings_of image) (eligible_at image c.args.address) c.entries.index c.entries.best c.entries.invariant)

pub returns : goal.returns
returns c =
    let image = c.args.self.now in
    least_at_end (strings_of image) (eligible_at image c.args.address) c.entries.index c.entries.best
    (λ i l. none_past image c.args.address i (omega (arith, l, c.entries-test.false, ap (λ b. length (entries_of b)) c.self.view_is)))
    c.entries.invariant
