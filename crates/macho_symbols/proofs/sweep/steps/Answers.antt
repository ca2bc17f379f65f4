use Rattle.std.proofs.Common.{rules, ◌≡◌, ◌∙◌, ℕ, List, length, arith, subst, sym}
use Rattle.std.proofs.lemmas.List.Sorted.{IsNonDecreasingBy-from_sort_by_key}
use Rattle.std.proofs.lemmas.Result.{IfOk-weaker}
use Rattle.macho_symbols.specs.SectionNumbers.{AreSectionsOf}
use Rattle.macho_symbols.specs.Steps.{AreSteps}
use Rattle.macho_symbols.specs.InnerCandidates.{AreByValue, AreCandidates, AreFirstsOf, AreNumbered, AreSwept, AreTurns}
use Rattle.macho_symbols.specs.declared.candidate.Candidate.{Candidate}
use Rattle.macho_symbols.proofs.SweepLemmas.{are_permuted, names_sections, none_noted}
use Rattle.macho_symbols.proofs.sweep.steps.Goals as goal

pub rows_of-requires : goal.rows_of-requires
rows_of-requires c =
    let image = c.args.symbols.now in
    let sections = c.in_ok-sections.sections.items in
    let sorted = c.sort_unstable_by_key.new.self.items in
    let of : AreSectionsOf image sections = subst (λ b. AreSectionsOf b sections) c.symbols.view_is c.in_ok-sections.ensures in
    let are : AreCandidates image sorted = are_permuted image c.in_ok-candidates.candidates.items sorted c.sort_unstable_by_key.ensures.permutation
    (subst (λ b. AreCandidates b c.in_ok-candidates.candidates.items) c.new-scan.ensures c.in_ok-candidates.ensures) in
    let by_value : AreByValue sorted = λ i j d l m. IsNonDecreasingBy-from_sort_by_key (λ (k : Candidate). k.value)
    sorted c.sort_unstable_by_key.ensures.sorted (λ a r q k. search rules) i j d (omega (arith, l)) m in
    let all_none = c.in_ok-firsts.ensures.items_if_clones_equal (λ y q. search rules) in
    let long : length sections ≡ length c.deref_mut.result.now = omega (arith, c.deref_mut.ensures.len, c.in_ok-firsts.ensures.len, c.len.ensures) in
    record {
      long = omega (arith, long, c.deref-4.ensures.len);
      numbered = subst (λ cs. AreNumbered cs (length c.deref_mut.result.now)) (sym c.deref-5.ensures.value)
          (subst (AreNumbered sorted) long (names_sections image sections sorted are of));
      sorted = subst AreByValue (sym c.deref-5.ensures.value) by_value;
      firsts = subst (AreFirstsOf c.in_ok-names.names c.deref-5.result.now 0)
          (sym (c.deref_mut.ensures.value ∙ all_none)) (none_noted c.in_ok-names.names c.deref-5.result.now _);
    }

pub returns : goal.returns
returns c =
    let image = c.args.symbols.now in
    let sections = c.in_ok-sections.sections.items in
    let sorted = c.sort_unstable_by_key.new.self.items in
    let of : AreSectionsOf image sections = subst (λ b. AreSectionsOf b sections) c.symbols.view_is c.in_ok-sections.ensures in
    let are : AreCandidates image sorted = are_permuted image c.in_ok-candidates.candidates.items sorted c.sort_unstable_by_key.ensures.permutation
    (subst (λ b. AreCandidates b c.in_ok-candidates.candidates.items) c.new-scan.ensures c.in_ok-candidates.ensures) in
    IfOk-weaker c.rows_of.result
    (λ rows. (b : List ℕ) → AreSwept b c.in_ok-names.names c.deref-4.result.now c.deref-5.result.now
    c.deref-6.result.now → AreSteps b rows.items) (λ rows. AreSteps image rows.items)
    (λ rows h. h image (record {
      strings_are = c.in_ok-names.ensures ∙ c.strings.ensures.is;
      sections_are = subst (AreSectionsOf image) (sym c.deref-4.ensures.value) of;
      candidates_are = subst (AreCandidates image) (sym c.deref-5.ensures.value) are;
      turns_are = subst (AreTurns image) (sym c.deref-6.ensures.value)
          (c.in_ok-turns.ensures image (subst (AreCandidates image) (sym c.deref-2.ensures.value) are)
          (subst (AreSectionsOf image) (sym c.deref-3.ensures.value) of));
    }))
    c.rows_of.ensures
