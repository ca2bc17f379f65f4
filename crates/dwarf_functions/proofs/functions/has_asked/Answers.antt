use Rattle.std.proofs.Common.{◌∙◌, ℕ, Bor, List, Option, IfSome, ap, arith, subst, sym}
use Rattle.std.specs.Option.{option_map}
use Rattle.dwarf_asked_addresses.specs.Rising.{AreRising}
use Rattle.dwarf_functions.specs.Asked.{has_asked}
use Rattle.dwarf_functions.proofs.AskedLemmas.{asked_first, asked_past}
use Rattle.dwarf_functions.proofs.functions.has_asked.Goals as goal

pub returns-then-first-asked : goal.returns-then-first-asked
returns-then-first-asked c =
    let all : List ℕ = c.in-Some.asked.now in
    let rising : AreRising all = subst (λ (o : Option (Bor (List ℕ))). IfSome o (λ a. AreRising a.now)) c.in-Some.is c.requires in
    sym (asked_past c.args.range all c.count_below-first.result (c.count_below-first.ensures.is rising) (omega arith))
    ∙ ap (λ (o : Option (Bor (List ℕ))). has_asked (option_map (λ a. a.now) o) c.args.range) (sym c.in-Some.is)

pub returns : goal.returns
returns c =
    let all : List ℕ = c.in-Some.asked.now in
    let rising : AreRising all = subst (λ (o : Option (Bor (List ℕ))). IfSome o (λ a. AreRising a.now)) c.in-Some.is c.requires in
    sym (asked_first c.args.range all c.count_below-first.result rising (c.count_below-first.ensures.is rising) (omega arith))
    ∙ ap (λ (o : Option (Bor (List ℕ))). has_asked (option_map (λ a. a.now) o) c.args.range) (sym c.in-Some.is)
