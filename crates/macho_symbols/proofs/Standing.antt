-- The entries that can stand for an address, and the first of them.
use Rattle.std.proofs.Common.{◌≡◌, ◌+◌, ◌<◌, ◌≤◌, ◌⊎◌, inl, inr, ℕ, length, true, cond, List, Option, Some, None, refl, ap, ◌∙◌, arith, slice_get}
use Rattle.std.specs.Option.{option_map, option_map_or}
use Rattle.std.proofs.lemmas.Bool.{cases_lt}
use Rattle.std.proofs.lemmas.Option.{slice_get_past, slice_get_within, get_or_from_slice_get, cond_some}
use Rattle.macho_symbols.specs.Symbols.{Tuple, strings_of, entries_of, entry_of}
use Rattle.macho_symbols.specs.Nearest.{tuple_cmp, is_eligible, IsEligible, IsNearest}
use Rattle.macho_symbols.specs.Views.{tuple_of}
use Rattle.macho_symbols.specs.InnerCandidates.{IsAt, IsLeastOrNone, first_of, numbered_at, numbered_in, eligible_at}
use Rattle.macho_symbols.specs.declared.candidate.Candidate.{Candidate}
use Rattle.macho_symbols.proofs.Members.{candidate_from, candidate_to}
use Rattle.macho_symbols.proofs.Numbered.{contained_at, entry_there, numbered, tupled}
use Rattle.macho_symbols.proofs.SweepLemmas.{least_alone, least_of_both, least_same, tuple_less}

-- where a choice gives something, there is what it is made of
chosen : {A B : Type 0} (f : A → Option B) (o : Option A) (y : B) → option_map_or f o None ≡ Some y
    → (x : A) × (o ≡ Some x) × (f x ≡ Some y)
chosen f None y h = cc h
chosen f (Some x) y h = (x, refl, h)

-- ---- one number more

-- one of the candidates that have numbers below one
abbrev pub IsBelow : (ℕ → Option Candidate) → ℕ → Candidate → Type 0
IsBelow at n c = (i : ℕ) × (i < n) × (at i ≡ Some c)

module _ (strings : List ℕ) (at : ℕ → Option Candidate) where
  pub least_none : IsLeastOrNone strings (IsBelow at 0) None
  least_none = λ c h. omega (arith, h.1)

  own_least : (o : Option Candidate) → IsLeastOrNone strings (λ c. o ≡ Some c) o
  own_least None = λ c e. cc e
  own_least (Some k) =
      least_same strings (λ c. k ≡ c) (λ c. Some k ≡ Some c) (Some k) (λ c e. ap Some e) (λ c e. cc e) (least_alone strings k)

  pub least_next : (n : ℕ) (best : Option Candidate) → IsLeastOrNone strings (IsBelow at n) best
      → IsLeastOrNone strings (IsBelow at (n + 1)) (first_of strings best (at n))
  least_next n best h =
      least_same strings (λ c. IsBelow at n c ⊎ (at n ≡ Some c)) (IsBelow at (n + 1)) (first_of strings best (at n))
      (λ c q. elim q [ inl k ↦ (k.0, omega (arith, k.1), k.2) | inr e ↦ (n, omega arith, e) ])
      (λ c k. elim (cases_lt k.0 n) [ inl l ↦ inl (k.0, l, k.2) | inr l ↦ inr (ap at (omega (arith, k.1, l)) ∙ k.2) ])
      (least_of_both strings (IsBelow at n) (λ c. at n ≡ Some c) best (at n) h (own_least (at n)))

  pub least_at_end : (n : ℕ) (best : Option Candidate) → ((i : ℕ) → n ≤ i → at i ≡ None)
      → IsLeastOrNone strings (IsBelow at n) best → IsLeastOrNone strings (IsAt at) best
  least_at_end n best none h =
      least_same strings (IsBelow at n) (IsAt at) best (λ c k. (k.0, k.2))
      (λ c k. elim (cases_lt k.0 n) [ inl l ↦ (k.0, l, k.1) | inr l ↦ absurd (cc (none k.0 l, k.1)) ]) h

-- ---- those that can stand for an address

module _ (image : List ℕ) (address : ℕ) where
  abbrev standing : Option Candidate → Option Candidate
  standing o = option_map_or (λ c. cond (is_eligible image address (tuple_of (strings_of image) c)) (Some c) None) o None

  standing_parts : (o : Option Candidate) (r : Candidate) → standing o ≡ Some r → (o ≡ Some r)
      × (is_eligible image address (tuple_of (strings_of image) r) ≡ true)
  standing_parts o r h =
      let w = chosen (λ c. cond (is_eligible image address (tuple_of (strings_of image) c)) (Some c) None) o r h in
      let p = cond_some (is_eligible image address (tuple_of (strings_of image) w.0)) w.0 r w.2 in
      (w.1 ∙ ap Some p.1, rw (← p.1) p.0)

  -- no entry comes after the last one
  pub none_past : (i : ℕ) → length (entries_of image) ≤ i → eligible_at image address i ≡ None
  none_past i l = ap (λ o. standing (option_map_or (numbered_in image) o None)) (slice_get_past (entries_of image) i l)

  standing_from : (c : Tuple) → IsEligible image address c → (r : Candidate) × IsAt (eligible_at image address) r × (tuple_of (strings_of image) r ≡ c)
  standing_from c h =
      let from = candidate_from image c h.0 in
      let is = numbered image (entry_of image from.0) c from.2 in
      let here : numbered_at image from.0 ≡ Some is.0 = ap (λ o. option_map_or (numbered_in image) o None) (entry_there image from.0 from.1) ∙ is.1 in
      (is.0, (from.0, ap standing here ∙ ap (λ t. cond t (Some is.0) None) (ap (is_eligible image address) is.2 ∙ h.1)), is.2)

  standing_to : (r : Candidate) → IsAt (eligible_at image address) r → IsEligible image address (tuple_of (strings_of image) r)
  standing_to r h =
      let p = standing_parts (numbered_at image h.0) r h.1 in
      let e = chosen (numbered_in image) (slice_get (entries_of image) h.0) r p.0 in
      let at = contained_at image e.0 (h.0, slice_get_within (entries_of image) h.0 e.0 e.1, get_or_from_slice_get (entries_of image) h.0 e.0 e.0 e.1) in
      (candidate_to image at.0 (tuple_of (strings_of image) r) at.1 (tupled image (entry_of image at.0) r (ap (numbered_in image) at.2 ∙ e.2)), p.1)

  -- the first of those that can stand for an address is the nearest candidate
  pub nearest_standing : (o : Option Candidate) → IsLeastOrNone (strings_of image) (IsAt (eligible_at image address)) o
      → IsNearest image address (option_map (tuple_of (strings_of image)) o)
  nearest_standing None none = λ c k. let w = standing_from c k in none w.0 w.1
  nearest_standing (Some r) h = record {
    member = standing_to r h.member;
    first = λ c k less.
        let w = standing_from c k in
        cc (h.least w.0 w.1, tuple_less (strings_of image) w.0 r (ap (λ t. tuple_cmp t (tuple_of (strings_of image) r)) w.2 ∙ less));
  }
