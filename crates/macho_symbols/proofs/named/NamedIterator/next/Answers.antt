use Rattle.std.proofs.Common.{rules, ◌≡◌, ◌∙◌, ◌∷◌, Some, None, length, sym, ap, arith}
use Rattle.std.specs.List.{filter_map}
use Rattle.macho_symbols.specs.Symbols.{candidate_in}
use Rattle.macho_symbols.specs.Found.{named_among}
use Rattle.macho_symbols.specs.Views.{found_view}
use Rattle.macho_symbols.proofs.Namesakes.{named_step}
use Rattle.macho_symbols.proofs.named.NamedIterator.next.Goals as goal

pub returns-in-Some-clause-steps : goal.returns-in-Some-clause-steps
returns-in-Some-clause-steps c =
    let s = c.entries.self-inside in
    sym c.entries.invariant.same
    ∙ named_step s.scan s.name.now s.entries c.next.new.self c.in_ok-entry.entry.now c.found_by_name.result (Some c.in-Some.found)
    (search rules) c.found_by_name.ensures (search rules)

pub returns-in-Some-clause-goes : goal.returns-in-Some-clause-goes
returns-in-Some-clause-goes c =
    let s = c.entries.self-inside in
    let rest = named_among s.scan s.name.now (filter_map (candidate_in s.scan) c.next.new.self) in
    let first : c.args.self.now ≡ found_view c.in-Some.found ∷ rest =
    sym c.entries.invariant.same
    ∙ named_step s.scan s.name.now s.entries c.next.new.self c.in_ok-entry.entry.now c.found_by_name.result (Some c.in-Some.found)
    (search rules) c.found_by_name.ensures (search rules) in
    record {
      on = λ _. (search rules, search rules, omega (arith, ap length first));
      keeps = search rules;
      rests = search rules;
    }

pub entries-preserved : goal.entries-preserved
entries-preserved c =
    let s = c.entries.self-inside in
    let step = named_step s.scan s.name.now s.entries c.next.new.self c.in_ok-entry.entry.now c.found_by_name.result None
    (search rules) c.found_by_name.ensures (search rules) in
    record { same = sym step ∙ c.entries.invariant.same; each = search rules }
