-- Entries that are candidates, and what counts of them.
use Rattle.std.proofs.Common.{◌≡◌, ◌==◌, bit_and, ℕ, ◌+◌, ◌*◌, ◌<◌, inl, inr, true, cond, List, [], ◌∷◌, ◌++◌, take}
use Rattle.std.proofs.Common.{drop, sym, ap, ◌∙◌, subst, arith, Some, None, Contains, slice_get}
use Rattle.std.proofs.lemmas.Bool.{cases_lt}
use Rattle.std.proofs.lemmas.Option.{cond_some, slice_get_within, get_or_from_slice_get}
use Rattle.std.proofs.lemmas.List.{drop-drop}
use Rattle.std.proofs.lemmas.List.Elements.{Contains-push, Contains-push_cases, Contains-append_left}
use Rattle.macho_symbols.specs.Nlist.{n_strx, n_type, n_sect, n_value}
use Rattle.macho_symbols.specs.Symbols.{Tuple, table_of, strings_of, name_in, is_in_section, is_candidate, tuple_in}
use Rattle.macho_symbols.specs.Symbols.{candidate_in, entry_of, entries_of, candidates}
use Rattle.macho_symbols.proofs.EntryLemmas.{entry_at, length-entries}
use Rattle.macho_symbols.proofs.Members.{candidate_from, candidate_to}
use Rattle.macho_symbols.specs.InnerCandidates.{AreCandidatesBelow, AreCandidates, numbered_in}
use Rattle.macho_symbols.specs.Views.{tuple_of}
use Rattle.macho_symbols.specs.declared.candidate.Candidate.{Candidate}

-- what counts of an entry is what counts of its candidate
pub tupled : (image e : List ℕ) (k : Candidate) → numbered_in image e ≡ Some k → candidate_in image e ≡ Some (tuple_of (strings_of image) k)
unfolding numbered_in candidate_in tuple_in tuple_of name_in
tupled image e k h =
    let parts = cond_some (is_candidate image e) _ k h in
    ap (λ b. cond b (Some (tuple_in image e)) None) parts.0 ∙ ap (λ x. Some (tuple_of (strings_of image) x)) parts.1

-- an entry that counts has a candidate
pub numbered : (image e : List ℕ) (c : Tuple) → candidate_in image e ≡ Some c → (k : Candidate)
    × (numbered_in image e ≡ Some k) × (tuple_of (strings_of image) k ≡ c)
unfolding numbered_in candidate_in tuple_in tuple_of name_in
numbered image e c h =
    let parts = cond_some (is_candidate image e) (tuple_in image e) c h in
    let k : Candidate = record { value = n_value e; n_strx = n_strx e; sect = n_sect e; external = bit_and (n_type e) 0x01 == 1 } in
    (k, ap (λ b. cond b (Some k) None) parts.0, parts.1)

-- the place of its name
pub place_in : (image e : List ℕ) (k : Candidate) → numbered_in image e ≡ Some k → n_strx e ≡ k.n_strx
unfolding numbered_in
place_in image e k h = ap (λ x. x.n_strx) (cond_some (is_candidate image e) _ k h).1

-- it lies in its section
pub lies_inside : (image e : List ℕ) (k : Candidate) → numbered_in image e ≡ Some k → is_in_section image k.sect k.value ≡ true
unfolding numbered_in is_candidate
lies_inside image e k h =
    let parts = cond_some (is_candidate image e) _ k h in
    let inside : is_in_section image (n_sect e) (n_value e) ≡ true = grind (arith, parts.0) in
    subst (λ (x : Candidate). is_in_section image x.sect x.value ≡ true) parts.1 inside

-- the entries by their numbers
pub entry_there : (image : List ℕ) (i : ℕ) → i < (table_of image).nsyms → slice_get (entries_of image) i ≡ Some (entry_of image i)
entry_there image i h =
    entry_at (table_of image).nsyms (drop (table_of image).symoff image) i h
    ∙ ap (λ rest. Some (take 16 rest)) (drop-drop (16 * i) (table_of image).symoff image)

pub entry_contained : (image : List ℕ) (i : ℕ) → i < (table_of image).nsyms → Contains (entries_of image) (entry_of image i)
entry_contained image i h =
    let there = entry_there image i h in
    (i, slice_get_within (entries_of image) i (entry_of image i) there, get_or_from_slice_get (entries_of image) i (entry_of image i) (entry_of image i) there)

pub contained_at : (image e : List ℕ) → Contains (entries_of image) e → (i : ℕ) × (i < (table_of image).nsyms) × (entry_of image i ≡ e)
contained_at image e h =
    let within : h.0 < (table_of image).nsyms = omega (arith, h.1, length-entries (table_of image).nsyms (drop (table_of image).symoff image)) in
    (h.0, within, sym (get_or_from_slice_get (entries_of image) h.0 (entry_of image h.0) e (entry_there image h.0 within)) ∙ h.2)

-- ---- the candidates of an image

module _ (image : List ℕ) (cs : List Candidate) (are : AreCandidates image cs) where
  pub counted : (k : Candidate) → Contains cs k → Contains (candidates image) (tuple_of (strings_of image) k)
  counted k h =
      let from = are.from k h in
      candidate_to image from.0 (tuple_of (strings_of image) k) from.1 (tupled image (entry_of image from.0) k from.2)

  pub counted_from : (c : Tuple) → Contains (candidates image) c → (k : Candidate) × Contains cs k × (tuple_of (strings_of image) k ≡ c)
  counted_from c h =
      let from = candidate_from image c h in
      let is = numbered image (entry_of image from.0) c from.2 in
      (is.0, are.each from.0 is.0 from.1 is.1, is.2)

  pub member_inside : (k : Candidate) → Contains cs k → is_in_section image k.sect k.value ≡ true
  member_inside k h = let from = are.from k h in lies_inside image (entry_of image from.0) k from.2

-- ---- one entry more

pub one_more : (image : List ℕ) (n : ℕ) (cs more : List Candidate) (k : Candidate)
    → numbered_in image (entry_of image n) ≡ Some k → k.sect < 256 → more ≡ cs ++ k ∷ []
    → AreCandidatesBelow image n cs → AreCandidatesBelow image (n + 1) more
one_more image n cs more k is byte new are = subst (AreCandidatesBelow image (n + 1)) (sym new) (record { from = from; each = each; small = small })
  where
    from : (c : Candidate) → Contains (cs ++ k ∷ []) c → (i : ℕ) × (i < n + 1) × (numbered_in image (entry_of image i) ≡ Some c)
    from c h = elim (Contains-push_cases cs k c h) [
      | inl m ↦ let f = are.from c m in (f.0, omega (arith, f.1), f.2)
      | inr e ↦ (n, omega arith, is ∙ ap Some e)
    ]

    each : (i : ℕ) (c : Candidate) → i < n + 1 → numbered_in image (entry_of image i) ≡ Some c → Contains (cs ++ k ∷ []) c
    each i c l e = elim (cases_lt i n) [
      | inl m ↦ Contains-append_left cs (k ∷ []) c (are.each i c m e)
      | inr m ↦
          let same : i ≡ n = omega (arith, l, m) in
          let here : k ≡ c = cc (is, e, ap (λ j. numbered_in image (entry_of image j)) same) in
          subst (Contains (cs ++ k ∷ [])) here (Contains-push cs k)
    ]

    small : (c : Candidate) → Contains (cs ++ k ∷ []) c → c.sect < 256
    small c h = elim (Contains-push_cases cs k c h) [ inl m ↦ are.small c m | inr e ↦ omega (arith, byte, ap (λ (x : Candidate). x.sect) e) ]

pub none_more : (image : List ℕ) (n : ℕ) (cs : List Candidate) → numbered_in image (entry_of image n) ≡ None
    → AreCandidatesBelow image n cs → AreCandidatesBelow image (n + 1) cs
none_more image n cs is are = record {
  from = λ c h. let f = are.from c h in (f.0, omega (arith, f.1), f.2);
  each = λ i c l e. elim (cases_lt i n) [
    | inl m ↦ are.each i c m e
    | inr m ↦ let same : i ≡ n = omega (arith, l, m) in absurd (cc (is, e, ap (λ j. numbered_in image (entry_of image j)) same))
  ];
  small = are.small;
}
