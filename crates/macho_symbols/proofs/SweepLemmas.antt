-- The first candidates of sections, and the first of all that can stand for an address.
use Rattle.std.proofs.Common.{◌≡◌, ◌≢◌, Fits, w64, replicate, ℕ, ◌+◌, ◌-◌, ◌<◌, ◌≤◌, ◌⊎◌, inl, inr, true, false, cond}
use Rattle.std.proofs.Common.{List, length, map, get_or, set, refl, sym, ap, ◌∙◌, subst, arith, Option, Some, None}
use Rattle.std.proofs.Common.{Contains, slice_get, get_or-set_same, get_or-set_other, length-set}
use Rattle.std.specs.Prelude.{All, IfSome}
use Rattle.std.specs.Ordering.{ordering_then, nat_cmp, is_lt}
use Rattle.std.specs.Cmp.{IsTotalOrder}
use Rattle.std.specs.declared.cmp.Ordering.TheVariants.{Less}
use Rattle.std.proofs.lemmas.Bool.{cases_lt, cases_Bool}
use Rattle.std.proofs.lemmas.Bool.Decides.{nat_tests}
use Rattle.std.proofs.lemmas.Cmp.{upto, nat_cmp_total, on_total, then_total, tied_itself}
use Rattle.std.specs.List.Sorted.{IsPermutation}
use Rattle.std.proofs.lemmas.List.Sorted.{Contains-permutation, IsPermutation-sym}
use Rattle.std.proofs.Math.Facts.{Fits-lt-pow}
use Rattle.std.proofs.lemmas.List.{get_or-map, get_or-replicate, get_or_default, length-map, length-replicate}
use Rattle.std.proofs.lemmas.Option.{slice_get-get_or, slice_get_within, get_or_from_slice_get}
use Rattle.macho_image.specs.Sections.{is_inside}
use Rattle.macho_image.specs.SectionViews.{section_view}
use Rattle.macho_image.specs.declared.section.Section.{Section}
use Rattle.macho_symbols.specs.Symbols.{strings_of, is_in_section, entry_of}
use Rattle.macho_symbols.specs.Nearest.{is_eligible, tuple_cmp}
use Rattle.macho_symbols.proofs.Order.{upto_other, not_before, not_itself, earlier, tuples_total}
use Rattle.macho_symbols.specs.Steps.{AreSteps, SaysNearest}
use Rattle.macho_symbols.specs.InnerCandidates.{AreAbove, AreByValue, AreCandidates, AreFirstsOf, AreNumbered, AreTurns}
use Rattle.macho_symbols.specs.InnerCandidates.{AreUpTo, IsLeast, IsLeastOrNone, IsNoted, IsEligibleAmong, entry_cmp, first_of}
use Rattle.macho_symbols.specs.InnerCandidates.{is_before, numbered_in, row_saying}
use Rattle.macho_symbols.specs.Views.{tuple_of}
use Rattle.macho_symbols.specs.SectionNumbers.{AreSectionsOf}
use Rattle.macho_symbols.specs.declared.candidate.Candidate.{Candidate}
use Rattle.macho_symbols.specs.declared.row.Row.{Row}
use Rattle.macho_symbols.proofs.SectionLemmas.{in_no_section, inside_at, none_past}
use Rattle.macho_symbols.proofs.Numbered.{contained_at, counted, counted_from, entry_contained, member_inside, numbered, place_in, tupled}

-- ---- the order

pub entries_total : (strings : List ℕ) → IsTotalOrder (entry_cmp strings)
entries_total strings = then_total (on_total (tuple_of strings) tuples_total) (on_total (λ c. c.n_strx) nat_cmp_total)

pub least_same : (s : List ℕ) (P Q : Candidate → Type 0) (r : Option Candidate) → ((c : Candidate) → P c → Q c)
    → ((c : Candidate) → Q c → P c) → IsLeastOrNone s P r → IsLeastOrNone s Q r
least_same s P Q None there back h = λ c q. h c (back c q)
least_same s P Q (Some f) there back h = record { member = there f h.member; least = λ c q. h.least c (back c q) }

pub least_alone : (s : List ℕ) (k : Candidate) → IsLeastOrNone s (λ c. k ≡ c) (Some k)
least_alone s k = record { member = refl; least = λ c e. subst (λ x. is_before s x k ≡ false) e (not_itself (entry_cmp s) (entries_total s) k) }

-- the first of the first ones of two kinds is the first of both
pub least_of_both : (s : List ℕ) (P Q : Candidate → Type 0) (p q : Option Candidate) → IsLeastOrNone s P p
    → IsLeastOrNone s Q q → IsLeastOrNone s (λ c. P c ⊎ Q c) (first_of s p q)
least_of_both s P Q None None h k = λ c e. elim e [ inl i ↦ h c i | inr j ↦ k c j ]
least_of_both s P Q (Some f) None h k =
    least_same s P (λ c. P c ⊎ Q c) (Some f) (λ c i. inl i) (λ c e. elim e [ inl i ↦ i | inr j ↦ absurd (k c j) ]) h
least_of_both s P Q None (Some g) h k =
    least_same s Q (λ c. P c ⊎ Q c) (Some g) (λ c j. inr j) (λ c e. elim e [ inl i ↦ absurd (h c i) | inr j ↦ j ]) k
least_of_both s P Q (Some f) (Some g) h k = elim (cases_Bool (is_before s g f)) [
  | inl e ↦ subst (λ b. IsLeast s (λ c. P c ⊎ Q c) (cond b g f)) (sym e) (record {
    member = inr k.member;
    least = λ c i. elim i [ inl a ↦ earlier (entry_cmp s) (entries_total s) c f g (h.least c a) e | inr b ↦ k.least c b ];
  })
  | inr e ↦ subst (λ b. IsLeast s (λ c. P c ⊎ Q c) (cond b g f)) (sym e) (record {
    member = inl h.member;
    least = λ c i. elim i [
      | inl a ↦ h.least c a
      | inr b ↦ not_before (entry_cmp s) (entries_total s) c f
          (upto (entries_total s) f g c (upto_other (entry_cmp s) (entries_total s) g f e) (upto_other (entry_cmp s) (entries_total s) c g (k.least c b)))
    ];
  })
]

-- of two candidates the first is one of them
pub first_is_one : (s : List ℕ) (P : Candidate → Type 0) (best : Option Candidate) (k : Candidate) → IfSome best P → P k → IfSome (first_of s best (Some k)) P
first_is_one s P None k h p = p
first_is_one s P (Some b) k h p = elim (cases_Bool (is_before s k b)) [
  | inl e ↦ subst (λ t. P (cond t k b)) (sym e) p
  | inr e ↦ subst (λ t. P (cond t k b)) (sym e) h
]

-- ---- one candidate more is noted

pub noted_member : (cs : List Candidate) (n : ℕ) (c : Candidate) → IsNoted cs n c → Contains cs c
noted_member cs n c h = (h.0, slice_get_within cs h.0 c h.2, get_or_from_slice_get cs h.0 c c h.2)

pub contained : (cs : List Candidate) (n : ℕ) (k : Candidate) → slice_get cs n ≡ Some k → Contains cs k
contained cs n k e = noted_member cs (n + 1) k (n, omega arith, e)

noted_or_new : (cs : List Candidate) (n : ℕ) (k c : Candidate) → slice_get cs n ≡ Some k → IsNoted cs (n + 1) c → IsNoted cs n c ⊎ (k ≡ c)
noted_or_new cs n k c e h = elim (cases_lt h.0 n) [
  | inl l ↦ inl (h.0, l, h.2)
  | inr l ↦ let same : h.0 ≡ n = omega (arith, h.1, l) in inr (cc (e, h.2, ap (slice_get cs) same))
]

pub firsts_noted : (s : List ℕ) (cs : List Candidate) (n : ℕ) (firsts : List (Option Candidate)) (k : Candidate)
    → slice_get cs n ≡ Some k → 0 < k.sect → k.sect ≤ length firsts
    → AreFirstsOf s cs n firsts → AreFirstsOf s cs (n + 1) (set firsts (k.sect - 1) (first_of s (get_or firsts (k.sect - 1) None) (Some k)))
firsts_noted s cs n firsts k e some within are j l =
    let inside : j < length firsts = omega (arith, l, length-set firsts (k.sect - 1) (first_of s (get_or firsts (k.sect - 1) None) (Some k))) in
    at_place j inside (same_or_not j (k.sect - 1))
  where
    same_or_not : (a b : ℕ) → (a ≡ b) ⊎ (a ≢ b)
    same_or_not a b = elim (cases_lt a b) [
      | inl m ↦ inr (λ q. omega (arith, m, q))
      | inr m ↦ elim (cases_lt b a) [ inl o ↦ inr (λ q. omega (arith, o, q)) | inr o ↦ inl (omega arith) ]
    ]

    at_place : (j : ℕ) → j < length firsts → (j ≡ k.sect - 1) ⊎ (j ≢ k.sect - 1)
        → IsLeastOrNone s (λ c. IsNoted cs (n + 1) c × (c.sect ≡ j + 1))
        (get_or (set firsts (k.sect - 1) (first_of s (get_or firsts (k.sect - 1) None) (Some k))) j None)
    at_place j inside (inl here) =
        let own : k.sect ≡ j + 1 = omega (arith, here, some) in
        let found : get_or (set firsts (k.sect - 1) (first_of s (get_or firsts (k.sect - 1) None) (Some k))) j None
        ≡ first_of s (get_or firsts j None) (Some k) =
        ap (λ p. get_or (set firsts p (first_of s (get_or firsts p None) (Some k))) j None) (sym here)
        ∙ get_or-set_same firsts j (first_of s (get_or firsts j None) (Some k)) None inside in
        subst (IsLeastOrNone s (λ c. IsNoted cs (n + 1) c × (c.sect ≡ j + 1))) (sym found)
        (least_same s (λ c. (IsNoted cs n c × (c.sect ≡ j + 1)) ⊎ (k ≡ c))
        (λ c. IsNoted cs (n + 1) c × (c.sect ≡ j + 1)) (first_of s (get_or firsts j None) (Some k))
        (λ c h. elim h [
          | inl m ↦ ((m.0.0, omega (arith, m.0.1), m.0.2), m.1)
          | inr q ↦ ((n, omega arith, e ∙ ap Some q), sym (ap (λ (x : Candidate). x.sect) q) ∙ own)
        ])
        (λ c h. elim (noted_or_new cs n k c e h.0) [ inl m ↦ inl (m, h.1) | inr q ↦ inr q ])
        (least_of_both s (λ c. IsNoted cs n c × (c.sect ≡ j + 1)) (λ c. k ≡ c) (get_or firsts j None) (Some k) (are j inside) (least_alone s k)))
    at_place j inside (inr other) =
        let found : get_or (set firsts (k.sect - 1) (first_of s (get_or firsts (k.sect - 1) None) (Some k))) j None ≡ get_or firsts j None =
        get_or-set_other firsts (k.sect - 1) j (first_of s (get_or firsts (k.sect - 1) None) (Some k)) None other in
        subst (IsLeastOrNone s (λ c. IsNoted cs (n + 1) c × (c.sect ≡ j + 1))) (sym found)
        (least_same s (λ c. IsNoted cs n c × (c.sect ≡ j + 1)) (λ c. IsNoted cs (n + 1) c × (c.sect ≡ j + 1)) (get_or firsts j None)
        (λ c m. ((m.0.0, omega (arith, m.0.1), m.0.2), m.1))
        (λ c h. elim (noted_or_new cs n k c e h.0) [
          | inl m ↦ (m, h.1)
          | inr q ↦ absurd (other (omega (arith, ap (λ (x : Candidate). x.sect) q, h.1)))
        ])
        (are j inside))

pub up_to_noted : (cs : List Candidate) (n address : ℕ) (k : Candidate) → slice_get cs n ≡ Some k → k.value ≤ address
    → AreUpTo cs n address → AreUpTo cs (n + 1) address
up_to_noted cs n address k e l up i c m at = elim (cases_lt i n) [
  | inl o ↦ up i c o at
  | inr o ↦
      let same : i ≡ n = omega (arith, m, o) in
      let is : k ≡ c = cc (e, at, ap (slice_get cs) same) in
      omega (arith, l, ap (λ (x : Candidate). x.value) is)
]

-- the first one above an address has none after it that is not
pub above_from : (cs : List Candidate) (n address : ℕ) → AreByValue cs → ((c : Candidate) → slice_get cs n ≡ Some c → address < c.value) → AreAbove cs n address
above_from cs n address sorted first i c l at = elim (cases_lt n i) [
  | inl m ↦
      let within = slice_get_within cs i c at in
      let here = slice_get-get_or cs n c (omega (arith, m, within)) in
      omega (arith, first (get_or cs n c) here, sorted n i c m within, ap (λ (x : Candidate). x.value) (get_or_from_slice_get cs i c c at))
  | inr m ↦ let same : n ≡ i = omega (arith, l, m) in first c (ap (slice_get cs) same ∙ at)
]

-- candidates name sections that there are
pub names_sections : (image : List ℕ) (all : List Section) (cs : List Candidate) → AreCandidates image cs
    → AreSectionsOf image all → AreNumbered cs (length all)
names_sections image all cs are of k h =
    let inside = member_inside image cs are k h in (
      elim (cases_lt 0 k.sect) [ inl l ↦ l | inr l ↦ absurd (cc (inside, in_no_section image k.sect k.value (omega (arith, l)))) ],
      elim (cases_lt (length all) k.sect) [ inl l ↦ absurd (cc (inside, none_past image all of k.sect k.value l (are.small k h))) | inr l ↦ l ],
    )

-- ---- the first of all that can stand for an address

can_stand : (image : List ℕ) (address : ℕ) (c : Candidate) → c.value ≤ address → is_in_section image c.sect address
    ≡ true → is_eligible image address (tuple_of (strings_of image) c) ≡ true
unfolding is_eligible tuple_of
can_stand image address c l h = grind (arith, nat_tests)

stands_in : (image : List ℕ) (address : ℕ) (c : Candidate) → is_eligible image address (tuple_of (strings_of image) c)
    ≡ true → (c.value ≤ address) × (is_in_section image c.sect address ≡ true)
unfolding is_eligible tuple_of
stands_in image address c h = grind (arith, nat_tests)

module _ (image : List ℕ) (all : List Section) (cs : List Candidate) (address : ℕ) (of : AreSectionsOf image all) (are : AreCandidates image cs) where
  named : AreNumbered cs (length all)
  named = names_sections image all cs are of

  -- those of the first sections, and one more
  abbrev pub Seen : Option Candidate → ℕ → Candidate → Type 0
  Seen best k c = IsEligibleAmong image cs address c × ((c.sect ≤ k) ⊎ (best ≡ Some c))

  pub seen_none : (best : Option Candidate) → IfSome best (λ c. Contains cs c × (c.value ≡ address)) → IsLeastOrNone (strings_of image) (Seen best 0) best
  seen_none None h = λ c seen. elim seen.1 [ inl l ↦ omega (arith, l, (named c seen.0.0).0) | inr e ↦ absurd (cc e) ]
  seen_none (Some b) h = record {
    member = (
      (
        h.0,
        can_stand image address b (omega (arith, h.1)) (subst (λ a. is_in_section image b.sect a ≡ true) h.1 (member_inside image cs are b h.0)),
      ),
      inr refl,
    );
    least = λ c seen. elim seen.1 [
      | inl l ↦ absurd (omega (arith, l, (named c seen.0.0).0))
      | inr e ↦ let same : b ≡ c = cc e in subst (λ x. is_before (strings_of image) x b ≡ false) same
          (not_itself (entry_cmp (strings_of image)) (entries_total (strings_of image)) b)
    ];
  }

  pub seen_all : (first best : Option Candidate) (k : ℕ) → length all ≤ k
      → IsLeastOrNone (strings_of image) (Seen first k) best
      → IsLeastOrNone (strings_of image) (IsEligibleAmong image cs address) best
  seen_all first best k end h = least_same (strings_of image) (Seen first k) (IsEligibleAmong image cs address) best
      (λ c s. s.0) (λ c s. (s, inl (omega (arith, (named c s.0).1, end)))) h

  at_number : (k : ℕ) (d : Section) → k < length all → is_in_section image (k + 1) address ≡ is_inside address (section_view (get_or all k d))
  at_number k d l =
      let back : k + 1 - 1 ≡ k = omega arith in
      inside_at image all of (k + 1) address d (omega arith) (omega (arith, l)) ∙ ap (λ j. is_inside address (section_view (get_or all j d))) back

  pub seen_outside : (first best : Option Candidate) (k : ℕ) (d : Section) → k < length all → is_inside address (section_view (get_or all k d)) ≡ false
      → IsLeastOrNone (strings_of image) (Seen first k) best → IsLeastOrNone (strings_of image) (Seen first (k + 1)) best
  seen_outside first best k d l out h =
      least_same (strings_of image) (Seen first k) (Seen first (k + 1)) best
      (λ c s. (s.0, elim s.1 [ inl m ↦ inl (omega (arith, m)) | inr e ↦ inr e ]))
      (λ c s. (
        s.0,
        elim s.1 [
          | inl m ↦ elim (cases_lt k c.sect) [
            | inl o ↦
                let own : c.sect ≡ k + 1 = omega (arith, m, o) in
                absurd (cc ((stands_in image address c s.0.1).1, ap (λ n. is_in_section image n address) own, at_number k d l, out))
            | inr o ↦ inl o
          ]
          | inr e ↦ inr e
        ],
      ))
      h

  pub seen_inside : (first best : Option Candidate) (firsts : List (Option Candidate)) (k n : ℕ) (d : Section)
      → k < length all → length firsts ≡ length all → is_inside address (section_view (get_or all k d)) ≡ true
      → AreFirstsOf (strings_of image) cs n firsts → AreUpTo cs n address → AreAbove cs n address
      → IsLeastOrNone (strings_of image) (Seen first k) best
      → IsLeastOrNone (strings_of image) (Seen first (k + 1))
      (first_of (strings_of image) best (get_or firsts k None))
  seen_inside first best firsts k n d l long in_it firsts_of up above h =
      let here : is_in_section image (k + 1) address ≡ true = at_number k d l ∙ in_it in
      let own : IsLeastOrNone (strings_of image) (λ c. IsEligibleAmong image cs address c × (c.sect ≡ k + 1)) (get_or firsts k None) =
      least_same (strings_of image) (λ c. IsNoted cs n c × (c.sect ≡ k + 1)) (λ c. IsEligibleAmong image cs address c × (c.sect ≡ k + 1)) (get_or firsts k None)
      (λ c m. ((noted_member cs n c m.0, can_stand image address c (up m.0.0 c m.0.1 m.0.2) (ap (λ j. is_in_section image j address) m.1 ∙ here)), m.1))
      (λ c s. (noted c s.0, s.1))
      (firsts_of k (omega (arith, l, long))) in
      least_same (strings_of image) (λ c. Seen first k c ⊎ (IsEligibleAmong image cs address c × (c.sect ≡ k + 1)))
      (Seen first (k + 1)) (first_of (strings_of image) best (get_or firsts k None))
      (λ c e. elim e [
        | inl s ↦ (s.0, elim s.1 [ inl m ↦ inl (omega (arith, m)) | inr q ↦ inr q ])
        | inr s ↦ (s.0, inl (omega (arith, s.1)))
      ])
      (λ c s. elim s.1 [
        | inl m ↦ elim (cases_lt k c.sect) [ inl o ↦ inr (s.0, omega (arith, m, o)) | inr o ↦ inl (s.0, inl o) ]
        | inr q ↦ inl (s.0, inr q)
      ])
      (least_of_both (strings_of image) (Seen first k) (λ c. IsEligibleAmong image cs address c × (c.sect ≡ k + 1)) best (get_or firsts k None) h own)
    where
      noted : (c : Candidate) → IsEligibleAmong image cs address c → IsNoted cs n c
      noted c s =
          let at = slice_get-get_or cs s.0.0 c s.0.1 ∙ ap Some s.0.2 in
          elim (cases_lt s.0.0 n) [
            | inl m ↦ (s.0.0, m, at)
            | inr m ↦ absurd (omega (arith, above s.0.0 c m at, (stands_in image address c s.1).0))
          ]

-- ---- what a row says

pub tuple_less : (s : List ℕ) (c d : Candidate) → tuple_cmp (tuple_of s c) (tuple_of s d) ≡ Less → is_before s c d ≡ true
tuple_less s c d h = ap (λ o. is_lt (ordering_then o (nat_cmp c.n_strx d.n_strx))) h

same_tuple : (s : List ℕ) (c d : Candidate) → tuple_of s c ≡ tuple_of s d → is_before s c d ≡ false → d.n_strx ≤ c.n_strx
same_tuple s c d e h =
    let tied = ap (λ t. tuple_cmp (tuple_of s c) t) (sym e) ∙ tied_itself tuples_total (tuple_of s c) in
    let places : is_lt (nat_cmp c.n_strx d.n_strx) ≡ false = sym (ap (λ o. is_lt (ordering_then o (nat_cmp c.n_strx d.n_strx))) tied) ∙ h in
    grind (arith, nat_tests)

pub row_says : (image : List ℕ) (cs : List Candidate) (address : ℕ) (found : Option Candidate) → AreCandidates image cs
    → IsLeastOrNone (strings_of image) (IsEligibleAmong image cs address) found
    → SaysNearest image address (row_saying address found)
unfolding tuple_of
row_says image cs address None are h = (
  None,
  λ c s. let is = counted_from image cs are c s.0 in h is.0 (is.1, ap (is_eligible image address) is.2 ∙ s.1),
  (refl, refl, refl),
)
row_says image cs address (Some k) are h = (
  Some (tuple_of (strings_of image) k),
  record {
    member = (counted image cs are k h.member.0, h.member.1);
    first = λ c s less.
        let is = counted_from image cs are c s.0 in
        cc (
          h.least is.0 (is.1, ap (is_eligible image address) is.2 ∙ s.1),
          tuple_less (strings_of image) is.0 k (ap (λ t. tuple_cmp t (tuple_of (strings_of image) k)) is.2 ∙ less),
        );
  },
  (
    refl,
    record {
      some =
          let from = are.from k h.member.0 in (
            entry_of image from.0,
            entry_contained image from.0 from.1,
            tupled image (entry_of image from.0) k from.2,
            place_in image (entry_of image from.0) k from.2,
          );
      least = λ e m is.
          let at = contained_at image e m in
          let own = numbered image e (tuple_of (strings_of image) k) is in
          let in_list = are.each at.0 own.0 at.1 (ap (numbered_in image) at.2 ∙ own.1) in
          let not_first = h.least own.0 (in_list, ap (is_eligible image address) own.2 ∙ h.member.1) in
          omega (arith, same_tuple (strings_of image) own.0 k own.2 not_first, place_in image e own.0 own.1);
    },
    refl,
  ),
)

-- ---- candidates in another order

pub are_permuted : (image : List ℕ) (cs ds : List Candidate) → IsPermutation cs ds → AreCandidates image cs → AreCandidates image ds
are_permuted image cs ds moved are = record {
  from = λ c h. are.from c (Contains-permutation ds cs c (IsPermutation-sym cs ds moved) h);
  each = λ i c l e. Contains-permutation cs ds c moved (are.each i c l e);
  small = λ c h. are.small c (Contains-permutation ds cs c (IsPermutation-sym cs ds moved) h);
}

-- ---- the first turn, and the next ones

pub none_noted : (s : List ℕ) (cs : List Candidate) (n : ℕ) → AreFirstsOf s cs 0 (replicate n None)
none_noted s cs n k l =
    let none : Option Candidate = None in
    subst (IsLeastOrNone s (λ c. IsNoted cs 0 c × (c.sect ≡ k + 1))) (sym (get_or-replicate n k none none (omega (arith, l, length-replicate n none))))
    (λ c h. omega (arith, h.0.1))

pub start_said : (address : ℕ) (found : Option Candidate) → (row_saying address found).start ≡ address
start_said address None = refl
start_said address (Some k) = refl

-- the row of a turn says the nearest candidate there
pub turn_says : (image : List ℕ) (cs : List Candidate) (address : ℕ) (found : Option Candidate) (row : Row)
    → AreCandidates image cs → IsLeastOrNone (strings_of image) (IsEligibleAmong image cs address) found
    → row ≡ row_saying address found → SaysNearest image row.start row
turn_says image cs address found row are h is =
    subst (λ (r : Row). SaysNearest image r.start r) (sym is)
    (subst (λ a. SaysNearest image a (row_saying address found)) (sym (start_said address found)) (row_says image cs address found are h))

pub up_to_later : (cs : List Candidate) (n a b : ℕ) → a ≤ b → AreUpTo cs n a → AreUpTo cs n b
up_to_later cs n a b l up i c m e = omega (arith, l, up i c m e)

-- the rows of all turns
pub are_steps : (image turned : List ℕ) (rows : List Row) → AreTurns image turned
    → ((i : ℕ) → Fits w64 (get_or turned i 0)) → map (λ (r : Row). r.start) rows ≡ turned
    → All (λ (r : Row). SaysNearest image r.start r) rows → AreSteps image rows
are_steps image turned rows are fits is each = record {
  rising = λ i j d l m.
      let within : j < length turned = omega (arith, m, ap length is, length-map rows (λ (r : Row). r.start)) in
      omega (arith, are.rising i j d.start l within, at i d (omega (arith, l, m)), at j d m);
  exactly = λ a. (
    λ h. let in_it = subst (λ xs. Contains xs a) is h in (are.from a in_it, omega (arith, Fits-lt-pow (fits in_it.0), moved in_it.0 a in_it.1, in_it.2)),
    λ h. subst (λ xs. Contains xs a) (sym is) (are.each a h.0 h.1),
  );
  each = each;
}
  where
    at : (k : ℕ) (d : Row) → k < length rows → get_or turned k d.start ≡ (get_or rows k d).start
    at k d l = ap (λ (xs : List ℕ). get_or xs k d.start) (sym is) ∙ get_or-map (λ (r : Row). r.start) rows k d d.start l

    moved : (k a : ℕ) → k < length turned → get_or turned k 0 ≡ get_or turned k a
    moved k a l = get_or_default turned k 0 a l
