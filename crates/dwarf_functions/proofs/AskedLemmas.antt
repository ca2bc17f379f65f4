-- Asked addresses are in the same functions, with all ranges and with those that have asked addresses.
use Rattle.std.proofs.Common.{◌≡◌, ◌∙◌, ℕ, suc, ◌<◌, ◌≤◌, true, false, nat_le, nat_lt, ◌&&◌, List, [], ◌∷◌, get_or}
use Rattle.std.proofs.Common.{length, slice_get, Option, Some, None, refl, sym, ap, subst, inl, inr, arith}
use Rattle.std.specs.Option.{option_map, option_map_or}
use Rattle.std.proofs.lemmas.Bool.{and_from, and_parts, cases_Bool, cases_eq, cases_lt, leb-true, le-leb, ltb-false, ltb-true}
use Rattle.std.proofs.lemmas.List.Folds.{list_any_at}
use Rattle.std.proofs.lemmas.Map.Views.{any-filter_same}
use Rattle.std.proofs.lemmas.Option.{none-some, same_Some, slice_get-map}
use Rattle.dwarf_ranges.specs.Lists.{in_ranges}
use Rattle.dwarf_ranges.specs.declared.range.CodeRange.{CodeRange}
use Rattle.dwarf_entries.specs.Entries.{EntryRecord}
use Rattle.dwarf_asked_addresses.specs.Rising.{AreRising, IsCountBelow}
use Rattle.dwarf_source_frames.specs.Scopes.{IsChain, ScopeRecord, contains_at, depth_at}
use Rattle.dwarf_source_frames.specs.DebugSections.{DebugSectionsRecord}
use Rattle.dwarf_source_frames.specs.DebugUnits.{UnitRecord}
use Rattle.dwarf_functions.specs.Links.{AreLinksAmong, LinkRecord}
use Rattle.dwarf_functions.specs.Asked.{asked_ranges, asked_scope, asked_scopes, has_asked}
use Rattle.dwarf_functions.proofs.SameChain.{same_chain}

-- ---- if all addresses are asked, all ranges have one

all_ranges_asked : (ranges : List CodeRange) → asked_ranges None ranges ≡ ranges
all_ranges_asked [] = refl
all_ranges_asked (r ∷ rs) = ap (λ (xs : List CodeRange). r ∷ xs) (all_ranges_asked rs)

pub all_asked : (scopes : List ScopeRecord) → asked_scopes None scopes ≡ scopes
all_asked [] = refl
all_asked (s ∷ ss) = λ i. record { depth = s.depth; entry = s.entry; ranges = all_ranges_asked s.ranges i } ∷ all_asked ss i

-- ---- the first asked address from the beginning of a range on tells

none_asked : (range : CodeRange) (asked : List ℕ) → ((i : ℕ) → i < length asked → range.low ≤ get_or asked i 0
    → get_or asked i 0 < range.high → ⊥) → has_asked (Some asked) range ≡ false
none_asked range [] none = refl
none_asked range (a ∷ asked) none = elim (cases_Bool (nat_le range.low a && nat_lt a range.high)) [
  | inl t ↦
      let both = and_parts (nat_le range.low a) (nat_lt a range.high) t in
      absurd (none 0 (omega arith) (leb-true range.low a both.0) (ltb-true a range.high both.1))
  | inr f ↦ rw f (none_asked range asked (λ i h low high. none (suc i) (omega (arith, h)) low high))
]

-- an address that is in a range is asked
asked_here : (range : CodeRange) (asked : List ℕ) (i a : ℕ) → i < length asked → get_or asked i 0 ≡ a
    → (nat_le range.low a && nat_lt a range.high) ≡ true → has_asked (Some asked) range ≡ true
asked_here range asked i a h is has =
    list_any_at (λ x. nat_le range.low x && nat_lt x range.high) asked i 0 h (subst (λ x. (nat_le range.low x && nat_lt x range.high) ≡ true) (sym is) has)

pub asked_past : (range : CodeRange) (asked : List ℕ) (first : ℕ) → IsCountBelow asked range.low first
    → length asked ≤ first → has_asked (Some asked) range ≡ false
asked_past range asked first count past =
    none_asked range asked (λ i h low high. let b = count.below i (omega (arith, h, past)) in omega (arith, b, low))

-- those after it are above it
not_asked : (range : CodeRange) (asked : List ℕ) (first : ℕ) → AreRising asked → IsCountBelow asked range.low first
    → range.high ≤ get_or asked first 0 → has_asked (Some asked) range ≡ false
not_asked range asked first rising count past =
    none_asked range asked (λ i h low high. elim (cases_lt i first) [
      | inl before ↦ let b = count.below i before in omega (arith, b, low)
      | inr from ↦ elim (cases_eq first i) [
        | inl same ↦ let p : range.high ≤ get_or asked i 0 = subst (λ n. range.high ≤ get_or asked n 0) same past in omega (arith, p, high)
        | inr other ↦ let r = rising first i 0 (omega (arith, from, other)) h in omega (arith, r, past, high)
      ]
    ])

pub asked_first : (range : CodeRange) (asked : List ℕ) (first : ℕ) → AreRising asked
    → IsCountBelow asked range.low first → first < length asked → has_asked (Some asked) range
    ≡ nat_lt (get_or asked first 0) range.high
asked_first range asked first rising count within =
    let a = get_or asked first 0 in
    elim (cases_Bool (nat_lt a range.high)) [
      | inl t ↦ asked_here range asked first a within refl
          (and_from (nat_le range.low a) (nat_lt a range.high)
          (le-leb range.low a (count.above first (omega arith) within)) t) ∙ sym t
      | inr f ↦ not_asked range asked first rising count (ltb-false a range.high f) ∙ sym f
    ]

-- ---- an asked address is in the same functions

in_asked : (asked : List ℕ) (i : ℕ) (ranges : List CodeRange) → i < length asked
    → in_ranges (get_or asked i 0) (asked_ranges (Some asked) ranges) ≡ in_ranges (get_or asked i 0) ranges
in_asked asked i ranges h =
    let a = get_or asked i 0 in
    any-filter_same (λ (r : CodeRange). nat_le r.low a && nat_lt a r.high) (has_asked (Some asked)) true (λ r has. asked_here r asked i a h refl has) ranges

module _ (asked : List ℕ) (at : ℕ) (within : at < length asked) (scopes : List ScopeRecord) where
  abbrev a : ℕ
  a = get_or asked at 0

  abbrev few : List ScopeRecord
  few = asked_scopes (Some asked) scopes

  same_depth : (i : ℕ) → depth_at few i ≡ depth_at scopes i
  same_depth i = ap (λ (s : Option ScopeRecord). option_map_or (λ s. s.depth) s 0) (slice_get-map (asked_scope (Some asked)) scopes i) ∙ of (slice_get scopes i)
    where
      of : (o : Option ScopeRecord) → option_map_or (λ s. s.depth) (option_map (asked_scope (Some asked)) o) 0 ≡ option_map_or (λ s. s.depth) o 0
      of None = refl
      of (Some s) = refl

  same_contains : (i : ℕ) → contains_at a few i ≡ contains_at a scopes i
  same_contains i = ap (λ (s : Option ScopeRecord). option_map_or (λ s. in_ranges a s.ranges) s false)
      (slice_get-map (asked_scope (Some asked)) scopes i) ∙ of (slice_get scopes i)
    where
      of : (o : Option ScopeRecord) → option_map_or (λ s. in_ranges a s.ranges)
          (option_map (asked_scope (Some asked)) o) false ≡ option_map_or (λ s. in_ranges a s.ranges) o false
      of None = refl
      of (Some s) = in_asked asked at s.ranges within

  scope_of_few : (few_scope : ScopeRecord) (o : Option ScopeRecord) → option_map (asked_scope (Some asked)) o
      ≡ Some few_scope → (scope : ScopeRecord) × (o ≡ Some scope) × (few_scope.entry ≡ scope.entry)
  scope_of_few few_scope None is = absurd (none-some few_scope is)
  scope_of_few few_scope (Some scope) is = (scope, refl, ap (λ (s : ScopeRecord). s.entry) (sym (same_Some (asked_scope (Some asked) scope) few_scope is)))

  same_entry : (i : ℕ) (few_scope : ScopeRecord) → slice_get few i ≡ Some few_scope → (scope : ScopeRecord)
      × (slice_get scopes i ≡ Some scope) × (few_scope.entry ≡ scope.entry)
  same_entry i few_scope is = scope_of_few few_scope (slice_get scopes i) (sym (slice_get-map (asked_scope (Some asked)) scopes i) ∙ is)

  chain_asked : (chain : List EntryRecord) → IsChain a few chain → IsChain a scopes chain
  chain_asked chain is = same_chain a a few scopes same_depth same_contains same_entry chain is

-- the links of asked addresses are those among all entries
pub links_asked : (sections : DebugSectionsRecord) (unit : UnitRecord) (asked : List ℕ) (scopes : List ScopeRecord)
    (links : List LinkRecord) (numbers : List ℕ) → AreLinksAmong sections unit (asked_scopes (Some asked) scopes) links
    asked numbers
    → AreLinksAmong sections unit scopes links asked numbers
links_asked sections unit asked scopes links numbers are = record {
  count = are.count;
  each = λ i h.
      let is = are.each i h in
      record { chain = is.chain; contain = chain_asked asked i h scopes is.chain is.contain; are_entries = is.are_entries };
  callers = are.callers;
}
