use Rattle.std.proofs.Common.{ℕ, ◌≡◌, ◌∙◌, List, Option, None, ap, get_or, refl, replicate, rules, subst}
use Rattle.std.proofs.lemmas.List.{get_or-replicate}
use Rattle.dwarf_lines.specs.declared.registers.Row.{Row}
use Rattle.dwarf_functions.specs.RowCover.{AreCovered}
use Rattle.dwarf_functions.proofs.RowStepLemmas.{known_all}
use Rattle.dwarf_functions.proofs.row_steps.RowSteps.covering.Goals as goal

pub cover_all-requires-clause-known : goal.cover_all-requires-clause-known
cover_all-requires-clause-known c =
    let all_none : c.in_ok-vec.field-0.items ≡ replicate c.len-count.result None = c.in_ok-vec.ensures.items_if_clones_equal (λ y q. search rules) in
    record {
      count = search rules;
      nexts = search rules;
      blank = λ i h w. ap (λ (rows : List (Option Row)). get_or rows i None) all_none ∙ get_or-replicate c.len-count.result i None None (search rules);
      waits = λ i h w. refl;
      found = λ i h not. absurd (not (c.in_ok-waiting.ensures.all i (search rules)));
    }

pub returns-clause-rows : goal.returns-clause-rows
returns-clause-rows c =
    let same : ◌≡◌ {A = List ℕ} c.cover_all.new.self.starts.items c.args.starts.items = λ i. (c.cover_all.ensures.starts i).items in
    let known = c.cover_all.ensures.known in
    subst (λ (s : List ℕ). AreCovered c.args.rows s c.cover_all.new.self.rows.items) same
    (known_all c.args.rows c.cover_all.new.self.starts.items c.cover_all.new.waiting.next.items c.cover_all.new.self.rows.items known.0 known.1)
