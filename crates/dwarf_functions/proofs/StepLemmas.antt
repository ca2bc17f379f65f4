-- Links of starts are those of all addresses.
use Rattle.std.proofs.Common.{◌≡◌, ℕ, zero, suc, ◌+◌, ◌-◌, ◌<◌, ◌≤◌, ◌⊎◌, cond, true, false, nat_le, nat_lt, List, [], ◌∷◌, ◌++◌}
use Rattle.std.proofs.Common.{length, get_or, reverse, slice_get, slice_index, Option, Some, None, refl, sym, ap, subst}
use Rattle.std.proofs.Common.{◌∙◌, inl, inr, arith}
use Rattle.std.specs.Prelude.{◌↔◌}
use Rattle.std.specs.List.{Contains, flat_map}
use Rattle.std.specs.Borrow.{Bor}
use Rattle.std.specs.Option.{option_map, option_map_or}
use Rattle.std.proofs.lemmas.Bool.{both_ways, cases_Bool, cases_eq, cases_lt, le-leb, le-ltb, leb-false, lt-leb, lt-ltb, ltb-false, ltb-true}
use Rattle.std.proofs.lemmas.Grind.{get_or_default_zero}
use Rattle.std.proofs.lemmas.List.{append-nil, drop_all, length-map, map-append, reverse-append, reverse-reverse}
use Rattle.std.proofs.lemmas.List.Concat.{flat_map-append}
use Rattle.std.proofs.lemmas.List.Elements.{Contains-append_left, Contains-append_right}
use Rattle.std.proofs.lemmas.Option.{none-some, same_Some, slice_get-map, slice_get_within}
use Rattle.dwarf_ranges.specs.Lists.{in_ranges}
use Rattle.dwarf_ranges.specs.declared.range.CodeRange.{CodeRange}
use Rattle.dwarf_entries.specs.Entries.{EntryRecord}
use Rattle.dwarf_functions.specs.AddressSteps.{at_step}
use Rattle.dwarf_source_frames.specs.DebugSections.{DebugSectionsRecord}
use Rattle.dwarf_source_frames.specs.DebugUnits.{UnitRecord}
use Rattle.dwarf_source_frames.specs.Names.{IsName}
use Rattle.dwarf_source_frames.specs.Scopes.{IsChain, ScopeRecord, calls_of, contains_at, is_subprogram, scopes_of}
use Rattle.dwarf_functions.specs.UnitFunctions.{AreFunctions, FunctionRecord, functions_after, functions_from}
use Rattle.dwarf_functions.specs.declared.functions.Function.{Function}
use Rattle.dwarf_asked_addresses.specs.Rising.{AreRising}
use Rattle.dwarf_asked_addresses.specs.Waiting.{Waits}
use Rattle.dwarf_functions.specs.Links.{AreCallersBefore, AreEntriesOfLink, AreLinkSteps, AreLinksAmong, IsLinkOf, LinkRecord, ends_of_ranges, link_at}
use Rattle.dwarf_functions.specs.LinkViews.{link_view, links_view}
use Rattle.dwarf_functions.specs.Making.{AreMade, caller_of, made_at}
use Rattle.dwarf_functions.specs.Taking.{AreFunctionsOfLink, AreOf, IsUpTo, chain_in, end_of}
use Rattle.dwarf_functions.specs.declared.links.Link.{Link}
use Rattle.dwarf_functions.proofs.AfterLemmas.{after_none, from_bare, from_with}
use Rattle.dwarf_functions.proofs.ChainLemmas.{entries_of, is_chain}
use Rattle.dwarf_functions.proofs.MakingLemmas.{get_there}
use Rattle.dwarf_functions.proofs.PartLemmas.{all_ranges}
use Rattle.dwarf_functions.proofs.SameChain.{same_chain}
use Rattle.dwarf_asked_addresses.proofs.RisingLists.{rising_rest}
use Rattle.dwarf_functions.proofs.RowStepLemmas.{above_first}

-- ---- where ranges begin and end

ends-append : (xs ys : List CodeRange) → ends_of_ranges (xs ++ ys) ≡ ends_of_ranges xs ++ ends_of_ranges ys
ends-append xs ys = flat_map-append (λ (range : CodeRange). range.low ∷ range.high ∷ []) xs ys

bare_ends : (ranges : List CodeRange) → nat_le 1 (length ranges) ≡ false → ends_of_ranges ranges ≡ []
bare_ends [] e = refl
bare_ends (r ∷ rs) e = let f = leb-false 1 (length (r ∷ rs)) e in absurd (omega (arith, f))

-- those of the ranges of scopes are those of functions
ends_from : (before : ℕ) (scopes : List ScopeRecord) → ends_of_ranges (all_ranges (functions_from before scopes))
    ≡ flat_map (λ scope. ends_of_ranges scope.ranges) scopes
unfolding functions_from
ends_from before [] = refl
ends_from before (scope ∷ scopes) = elim (cases_Bool (nat_le 1 (length scope.ranges))) [
  | inl has ↦
      ap (λ (fs : List FunctionRecord). ends_of_ranges (all_ranges fs)) (from_with before scope scopes has)
      ∙ (ends-append scope.ranges (all_ranges (functions_from (before + 1) scopes))
      ∙ ap (λ (xs : List ℕ). ends_of_ranges scope.ranges ++ xs) (ends_from (before + 1) scopes))
  | inr bare ↦
      ap (λ (fs : List FunctionRecord). ends_of_ranges (all_ranges fs)) (from_bare before scope scopes bare)
      ∙ (ends_from before scopes ∙ ap (λ (xs : List ℕ). xs
      ++ flat_map (λ (s : ScopeRecord). ends_of_ranges s.ranges) scopes) (sym (bare_ends scope.ranges bare)))
]

-- ---- addresses between which no range begins or ends

-- a test of ranges is the same at two addresses
abbrev AreAlike : ℕ → ℕ → List ℕ → Type 0
AreAlike a s ends = (x : ℕ) → Contains ends x → (nat_le x a ≡ nat_le x s) × (nat_lt a x ≡ nat_lt s x)

alike_in : (a s : ℕ) (ranges : List CodeRange) → AreAlike a s (ends_of_ranges ranges) → in_ranges a ranges ≡ in_ranges s ranges
alike_in a s [] alike = refl
alike_in a s (r ∷ rs) alike =
    let low = (alike r.low (0, omega arith, refl)).0 in
    let high = (alike r.high (1, omega arith, refl)).1 in
    let rest = alike_in a s rs (λ x h. alike x (Contains-append_right (r.low ∷ r.high ∷ []) (ends_of_ranges rs) x h)) in cc

-- the ends of the ranges of an entry are among those of all
ends_at : (scopes : List ScopeRecord) (i : ℕ) (scope : ScopeRecord) → slice_get scopes i ≡ Some scope → (x : ℕ)
    → Contains (ends_of_ranges scope.ranges) x → Contains (flat_map (λ s. ends_of_ranges s.ranges) scopes) x
ends_at [] i scope is x h = absurd (none-some scope is)
ends_at (s ∷ ss) zero scope is x h =
    let same : scope ≡ s = same_Some scope s (sym is) in
    Contains-append_left (ends_of_ranges s.ranges) (flat_map (λ t. ends_of_ranges t.ranges) ss) x
    (subst (λ (t : ScopeRecord). Contains (ends_of_ranges t.ranges) x) same h)
ends_at (s ∷ ss) (suc i) scope is x h = Contains-append_right (ends_of_ranges s.ranges)
    (flat_map (λ t. ends_of_ranges t.ranges) ss) x (ends_at ss i scope is x h)

alike_at : (a s : ℕ) (scopes : List ScopeRecord) → AreAlike a s (flat_map (λ t. ends_of_ranges t.ranges) scopes)
    → (i : ℕ) → contains_at a scopes i ≡ contains_at s scopes i
alike_at a s scopes alike i = of (slice_get scopes i) refl
  where
    of : (o : Option ScopeRecord) → slice_get scopes i ≡ o → option_map_or (λ t. in_ranges a t.ranges) o false
        ≡ option_map_or (λ t. in_ranges s t.ranges) o false
    of None is = refl
    of (Some scope) is = alike_in a s scope.ranges (λ x h. alike x (ends_at scopes i scope is x h))

-- no range begins up to an address
none_in : (a : ℕ) (ranges : List CodeRange) → ((x : ℕ) → Contains (ends_of_ranges ranges) x → a < x) → in_ranges a ranges ≡ false
none_in a [] above = refl
none_in a (r ∷ rs) above =
    let low : nat_le r.low a ≡ false = lt-leb r.low a (above r.low (0, omega arith, refl)) in
    let rest = none_in a rs (λ x h. above x (Contains-append_right (r.low ∷ r.high ∷ []) (ends_of_ranges rs) x h)) in rw (low, rest) refl

none_at : (a : ℕ) (scopes : List ScopeRecord) → ((x : ℕ) → Contains (flat_map (λ t. ends_of_ranges t.ranges) scopes) x
    → a < x) → (i : ℕ) → contains_at a scopes i ≡ false
none_at a scopes above i = of (slice_get scopes i) refl
  where
    of : (o : Option ScopeRecord) → slice_get scopes i ≡ o → option_map_or (λ t. in_ranges a t.ranges) o false ≡ false
    of None is = refl
    of (Some scope) is = none_in a scope.ranges (λ x h. above x (ends_at scopes i scope is x h))

-- ---- the step of an address

-- the last start that is not above an address
record IsLastStart (starts : List ℕ) (a i : ℕ) : Type 0 where
  within : i < length starts
  upto : get_or starts i 0 ≤ a
  above : (j : ℕ) → i < j → j < length starts → a < get_or starts j 0

above_later : (start : ℕ) (starts : List ℕ) (a i : ℕ) → IsLastStart starts a i → (j : ℕ) → suc i < j
    → j < length (start ∷ starts) → a < get_or (start ∷ starts) j 0
above_later start starts a i is zero less h = absurd (omega (arith, less))
above_later start starts a i is (suc j) less h = is.above j (omega (arith, less)) (omega (arith, h))

last_later : (start : ℕ) (starts : List ℕ) (a i : ℕ) → IsLastStart starts a i → IsLastStart (start ∷ starts) a (suc i)
last_later start starts a i is = record {
  within = let w = is.within in omega (arith, w);
  upto = is.upto;
  above = λ j less h. above_later start starts a i is j less h;
}

above_all : (start : ℕ) (starts : List ℕ) (a : ℕ) → ((i : ℕ) → i < length starts → a < get_or starts i 0) → (j : ℕ)
    → 0 < j → j < length (start ∷ starts) → a < get_or (start ∷ starts) j 0
above_all start starts a above zero less h = absurd (omega (arith, less))
above_all start starts a above (suc j) less h = above j (omega (arith, h))

first_last : (start : ℕ) (starts : List ℕ) (a : ℕ) → start ≤ a → ((i : ℕ) → i < length starts → a < get_or starts i 0) → IsLastStart (start ∷ starts) a 0
first_last start starts a upto above = record {
  within = omega arith;
  upto = upto;
  above = λ j less h. above_all start starts a above j less h;
}

step_of : (before : ℕ) (starts numbers : List ℕ) (a : ℕ) → length numbers ≡ length starts → AreRising starts
    → (((i : ℕ) → i < length starts → a < get_or starts i 0) × (at_step before starts numbers a ≡ before))
    ⊎ ((i : ℕ) × IsLastStart starts a i × (at_step before starts numbers a ≡ get_or numbers i 0))
unfolding at_step
step_of before [] numbers a len rising = inl (λ i h. absurd (omega (arith, h)), refl)
step_of before (start ∷ starts) [] a len rising = absurd (omega (arith, len))
step_of before (start ∷ starts) (n ∷ numbers) a len rising = elim (cases_Bool (nat_lt a start)) [
  | inl less ↦ rw less (inl (above_first a start starts rising (ltb-true a start less), refl))
  | inr not ↦ rw not (elim (step_of n starts numbers a (omega (arith, len)) (rising_rest start starts rising)) [
    | inl x ↦ inr (0, first_last start starts a (ltb-false a start not) x.0, x.1)
    | inr y ↦ inr (suc y.0, last_later start starts a y.0 y.1, y.2)
  ])
]

-- the addresses from a start on, up to the next one
alike_start : (starts : List ℕ) (a k : ℕ) (ends : List ℕ) → AreRising starts → IsLastStart starts a k
    → ((x : ℕ) → Contains ends x → Contains starts x) → AreAlike a (get_or starts k 0) ends
alike_start starts a k ends rising is from = λ x h.
    let there = from x h in
    let at : get_or starts there.0 0 ≡ x = sym (get_or_default_zero starts there.0 x there.1) ∙ there.2 in
    let up = is.upto in
    elim (cases_lt k there.0) [
      | inl more ↦
          let above = is.above there.0 more there.1 in let r = rising k there.0 0 more there.1 in (
            lt-leb x a (omega (arith, above, at)) ∙ sym (lt-leb x (get_or starts k 0) (omega (arith, r, at))),
            lt-ltb a x (omega (arith, above, at)) ∙ sym (lt-ltb (get_or starts k 0) x (omega (arith, r, at))),
          )
      | inr not ↦
          let low : x ≤ get_or starts k 0 = elim (cases_lt there.0 k) [
            | inl less ↦ let r = rising there.0 k 0 less is.within in omega (arith, r, at)
            | inr even ↦ let same : there.0 ≡ k = omega (arith, not, even) in let e : get_or starts k 0
                ≡ x = subst (λ n. get_or starts n 0 ≡ x) same at in omega (arith, e)
          ] in (
            le-leb x a (omega (arith, low, up)) ∙ sym (le-leb x (get_or starts k 0) low),
            le-ltb a x (omega (arith, low, up)) ∙ sym (le-ltb (get_or starts k 0) x low),
          )
    ]

-- ---- the entries of a link

view_at : (links : List Link) (number : ℕ) (link : Link) → made_at links number ≡ Some link → link_at (links_view links) number ≡ Some (link_view link)
view_at links zero link is = absurd (none-some link is)
view_at links (suc i) link is = slice_get-map link_view links i ∙ ap (λ (l : Option Link). option_map link_view l) is

made_function : (functions : List Function) (links : List Link) (last number : ℕ) (link : Link)
    → AreMade functions links last → made_at links number ≡ Some link
    → (f : Function) × (slice_get functions link.function ≡ Some f) × (link.name ≡ f.name) × (link.call ≡ f.call)
    × (link.caller ≡ caller_of f link.outer)
made_function functions links last zero link made is = absurd (none-some link is)
made_function functions links last (suc i) link made is = let m = made.each i link is in (m.of, m.there, m.name, m.call, m.caller)

-- a link is called by the one that it stands in, or by none
called_before : (f : Function) (outer number caller : ℕ) → caller ≡ caller_of f outer → outer < number → caller < number
called_before f outer number caller is less = elim (cases_Bool f.is_subprogram) [
  | inl t ↦ let none : caller ≡ 0 = rw t at is in omega (arith, none, less)
  | inr n ↦ let same : caller ≡ outer = rw n at is in omega (arith, same, less)
]

called_by : (sections : DebugSectionsRecord) (unit : UnitRecord) (links : List LinkRecord) (f : Function)
    (entry : EntryRecord) (entries : List EntryRecord) (outer caller : ℕ)
    → f.is_subprogram ≡ is_subprogram entry → caller ≡ caller_of f outer
    → AreEntriesOfLink sections unit links outer (calls_of entries)
    → AreEntriesOfLink sections unit links caller (cond (is_subprogram entry) [] (calls_of entries))
called_by sections unit links f entry entries outer caller kind is are = elim (cases_Bool (is_subprogram entry)) [
  | inl t ↦
      let named : f.is_subprogram ≡ true = kind ∙ t in
      let none : caller ≡ 0 = rw named at is in
      rw t none
  | inr n ↦
      let named : f.is_subprogram ≡ false = kind ∙ n in
      let same : caller ≡ outer = rw named at is in
      rw n (subst (λ c. AreEntriesOfLink sections unit links c (calls_of entries)) (sym same) are)
]

entries_of_link : (sections : DebugSectionsRecord) (unit : UnitRecord) (scopes : List ScopeRecord)
    (functions : List Function) (ranges : List CodeRange) (links : List Link) (last number : ℕ)
    (chain : List FunctionRecord)
    → AreFunctions sections unit scopes functions ranges → AreMade functions links last → AreFunctionsOfLink (functions_from 0 scopes) links number chain
    → AreEntriesOfLink sections unit (links_view links) number (calls_of (entries_of chain))
unfolding calls_of
entries_of_link sections unit scopes functions ranges links last number [] are made of = of
entries_of_link sections unit scopes functions ranges links last number (f ∷ fs) are made of =
    let link = of.0 in
    let g = made_function functions links last number link made of.1 in
    let is = are.each link.function f g.0 of.3 g.1 in (
      link_view link,
      view_at links number link of.1,
      called_before g.0 link.outer number link.caller g.4 of.2,
      subst (λ (n : Option (List ℕ)). IsName sections (record { unit = unit; entry = f.entry }) n)
          (ap (λ (l : Option (Bor (List ℕ))). option_map (λ n. n.now) l) (sym g.2)) is.name,
      g.3 ∙ is.call,
      called_by sections unit (links_view links) g.0 f.entry (entries_of fs) link.outer link.caller is.is_subprogram g.4
          (entries_of_link sections unit scopes functions ranges links last link.outer fs are made of.4),
    )

-- ---- all together

pub are_of : (sections : DebugSectionsRecord) (unit : UnitRecord) (scopes : List ScopeRecord)
    (functions : List Function) (ranges : List CodeRange) → AreFunctions sections unit scopes functions ranges
    → AreOf (functions_from 0 scopes) functions ranges
are_of sections unit scopes functions ranges are = record {
  count = are.count;
  end = λ i r f of is. (are.each i r f of is).end;
  ranges_are = are.ranges_are;
  ends = are.ends;
}

whole_chain : (of : List FunctionRecord) (links : List Link) (next : List ℕ) (i a number : ℕ)
    (is : IsUpTo of links (Waits next i) a number (length of)) → reverse is.chain ≡ chain_in of a
whole_chain of links next i a number is = elim (cases_eq (slice_index next i) i) [
  | inl w ↦
      sym (append-nil (reverse is.chain))
      ∙ (ap (λ (fs : List FunctionRecord). reverse is.chain ++ fs)
      (sym (ap (λ (fs : List FunctionRecord). functions_after (256 - length is.chain) a (end_of is.chain) (length of)
      fs) (drop_all (length of) of (omega arith)) ∙ after_none (256 - length is.chain) a (end_of is.chain)
      (length of))) ∙ is.more w)
  | inr not ↦ is.all not
]

map_reverse : (chain : List FunctionRecord) → entries_of (reverse chain) ≡ reverse (entries_of chain)
map_reverse [] = refl
map_reverse (f ∷ fs) =
    ap entries_of (reverse-append (f ∷ []) fs)
    ∙ (map-append (λ (g : FunctionRecord). g.entry) (reverse fs) (f ∷ [])
    ∙ (ap (λ (es : List EntryRecord). es ++ f.entry ∷ []) (map_reverse fs) ∙ sym (reverse-append (f.entry ∷ []) (entries_of fs))))

reverse_entries : (chain : List FunctionRecord) → reverse (entries_of (reverse chain)) ≡ entries_of chain
reverse_entries chain = ap (λ (es : List EntryRecord). reverse es) (map_reverse chain) ∙ reverse-reverse (entries_of chain)

-- each link stands in one before it
callers_before : (functions : List Function) (links : List Link) (last : ℕ) → AreMade functions links last → AreCallersBefore (links_view links)
callers_before functions links last made i link is =
    let n = length-map links link_view in let w = slice_get_within (links_view links) i link is in
    let l = get_there links i (omega (arith, n, w)) in
    let e : link_view l.0 ≡ link = same_Some (link_view l.0) link
    (sym (slice_get-map link_view links i ∙ ap (λ (o : Option Link). option_map link_view o) l.1) ∙ is) in
    let m = made.each i l.0 l.1 in
    let c = called_before m.of l.0.outer (suc i) l.0.caller m.caller (let b = m.before in omega (arith, b)) in
    subst (λ (r : LinkRecord). r.caller ≤ i) e (omega (arith, c))

-- the links of starts
module _ (sections : DebugSectionsRecord) (unit : UnitRecord) (scopes : List ScopeRecord) (functions : List Function)
    (ranges : List CodeRange) (links : List Link) (last : ℕ) (starts numbers next : List ℕ)
    (are : AreFunctions sections unit scopes functions ranges)
    (made : AreMade functions links last) (count : length numbers ≡ length starts)
    (each : (i : ℕ) → i < length starts → IsUpTo (functions_from 0 scopes) links (Waits next i) (slice_index starts i)
    (slice_index numbers i) (length (functions_from 0 scopes))) where
  pub links_among : AreLinksAmong sections unit scopes (links_view links) starts numbers
  links_among = record {
    count = count;
    each = λ i h.
        let is = each i h in
        record {
          chain = entries_of (reverse is.chain);
          contain = subst (λ (fs : List FunctionRecord). IsChain (slice_index starts i) scopes (entries_of fs))
              (sym (whole_chain (functions_from 0 scopes) links next i (slice_index starts i) (slice_index numbers i)
              is))
              (is_chain (slice_index starts i) scopes);
          are_entries = subst (λ (es : List EntryRecord). AreEntriesOfLink sections unit (links_view links)
              (slice_index numbers i) (calls_of es)) (sym (reverse_entries is.chain))
              (entries_of_link sections unit scopes functions ranges links last (slice_index numbers i) is.chain are made is.are);
        };
    callers = callers_before functions links last made;
  }

-- those of starts at which all ranges begin and end are those of all addresses
module _ (sections : DebugSectionsRecord) (unit : UnitRecord) (functions : List Function) (ranges : List CodeRange)
    (links : List LinkRecord) (starts numbers : List ℕ)
    (are : AreFunctions sections unit (scopes_of sections unit) functions ranges)
    (rising : AreRising starts) (same : (a : ℕ) → Contains starts a ↔ Contains (ends_of_ranges ranges) a)
    (among : AreLinksAmong sections unit (scopes_of sections unit) links starts numbers) where
  same_ends : (a : ℕ) → Contains starts a ↔ Contains (flat_map (λ scope. ends_of_ranges scope.ranges) (scopes_of sections unit)) a
  same_ends a = subst (λ (xs : List ℕ). Contains starts a ↔ Contains xs a) (ap ends_of_ranges are.ranges_are ∙ ends_from 0 (scopes_of sections unit)) (same a)

  link_of : (a i : ℕ) → IsLastStart starts a i → IsLinkOf sections unit links a (get_or numbers i 0)
  link_of a i at =
      let scopes = scopes_of sections unit in
      let start = get_or starts i 0 in
      let is = among.each i at.within in
      let alike = alike_start starts a i (flat_map (λ scope. ends_of_ranges scope.ranges) scopes) rising at (λ x h. (same_ends x).1 h) in
      record {
        chain = is.chain;
        contain = same_chain start a scopes scopes (λ j. refl) (λ j. sym (alike_at a start scopes alike j)) (λ j s there. (s, there, refl)) is.chain is.contain;
        are_entries = is.are_entries;
      }

  none_of : (a : ℕ) → ((i : ℕ) → i < length starts → a < get_or starts i 0) → IsLinkOf sections unit links a 0
  unfolding calls_of
  none_of a above = record {
    chain = [];
    contain = λ i within contains. both_ways (contains_at a (scopes_of sections unit) i)
        (none_at a (scopes_of sections unit) (λ x h.
        let there = (same_ends x).1 h in
        let at : get_or starts there.0 0 ≡ x = sym (get_or_default_zero starts there.0 x there.1) ∙ there.2 in
        let up = above there.0 there.1 in omega (arith, up, at)) i) contains;
    are_entries = refl;
  }

  pub link_steps : AreLinkSteps sections unit links starts numbers
  link_steps = record {
    rising = rising;
    same = same_ends;
    count = among.count;
    each = λ a. elim (step_of 0 starts numbers a among.count rising) [
      | inl x ↦ subst (λ n. IsLinkOf sections unit links a n) (sym x.1) (none_of a x.0)
      | inr y ↦ subst (λ n. IsLinkOf sections unit links a n) (sym y.2) (link_of a y.0 y.1)
    ];
    callers = among.callers;
  }
