-- Entries of one tag under a key, with their numbers.
use Rattle.std.proofs.Common.{◌≡◌, ℕ, zero, suc, ◌+◌, ◌<◌, Bool, true, false, cond, not, List, [], ◌∷◌, ◌++◌, length}
use Rattle.std.proofs.Common.{map, take, get_or, refl, sym, ap, ◌∙◌, arith}
use Rattle.std.specs.Prelude.{filter}
use Rattle.std.specs.List.{enumerate_from, zip}
use Rattle.archive_core.proofs.Made.{by_test}
use Rattle.index_format.specs.Spread.{AreNumbered}
use Rattle.std.proofs.lemmas.List.{map_more}
use Rattle.index_lookup.specs.Among.{EntryAt, subject_of}
use Rattle.index_lookup.specs.Told.{admits_under}
use Rattle.index_lookup.specs.InnerAnswering.{entries_at, is_retired, lives_by}
use Rattle.index_lookup.proofs.Entries.{at}
use Rattle.index_lookup.proofs.Lists.{filter_passed, filter_pushed, filter_twice}

module _ (input : ℕ) where
  -- a numbered entry in the index
  abbrev numbered : ℕ × List ℕ → EntryAt
  numbered x = at input x.0 x.1

  -- entries with these numbers in the index
  abbrev pub placed_at : List ℕ → List (List ℕ) → List EntryAt
  placed_at ns es = map numbered (zip ns es)

  pub length-placed_at : (ns : List ℕ) (es : List (List ℕ)) → length ns ≡ length es → length (placed_at ns es) ≡ length es
  length-placed_at [] [] long = refl
  length-placed_at [] (e ∷ es) long = absurd (omega (arith, long))
  length-placed_at (n ∷ ns) [] long = absurd (omega (arith, long))
  length-placed_at (n ∷ ns) (e ∷ es) long = ap suc (length-placed_at ns es (omega (arith, long)))

  -- one of them
  pub placed_read : (ns : List ℕ) (es : List (List ℕ)) (i n : ℕ) (e : List ℕ) → length ns ≡ length es → i < length es → n ≡ get_or ns i n
      → e ≡ get_or es i e → at input n e ≡ get_or (placed_at ns es) i (at input n e)
  placed_read ns [] i n e long lt n_is e_is = absurd (omega (arith, lt))
  placed_read [] (y ∷ es) i n e long lt n_is e_is = absurd (omega (arith, long))
  placed_read (x ∷ ns) (y ∷ es) zero n e long lt n_is e_is = λ k. at input (n_is k) (e_is k)
  placed_read (x ∷ ns) (y ∷ es) (suc i) n e long lt n_is e_is = placed_read ns es i n e (omega (arith, long)) (omega (arith, lt)) n_is e_is

  enumerated : (n : ℕ) (es : List (List ℕ)) → map numbered (enumerate_from n es) ≡ entries_at input n es
  enumerated n [] = refl
  enumerated n (e ∷ es) = ap (λ (zs : List EntryAt). at input n e ∷ zs) (enumerated (n + 1) es)

  passing : (p : List ℕ → Bool) (xs : List (ℕ × List ℕ)) → map numbered (filter (λ x. p x.1) xs) ≡ filter (λ x. p x.entry) (map numbered xs)
  passing p [] = refl
  passing p (x ∷ xs) = by_test _ (p x.1)
      (λ yes.
      ap (λ (b : Bool). map numbered (cond b (x ∷ filter (λ y. p y.1) xs) (filter (λ y. p y.1) xs))) yes
      ∙ ap (λ (zs : List EntryAt). numbered x ∷ zs) (passing p xs)
      ∙ sym (ap (λ (b : Bool). cond b (numbered x ∷ filter (λ y. p y.entry) (map numbered xs)) (filter (λ y. p y.entry) (map numbered xs))) yes))
      (λ no.
      ap (λ (b : Bool). map numbered (cond b (x ∷ filter (λ y. p y.1) xs) (filter (λ y. p y.1) xs))) no
      ∙ passing p xs
      ∙ sym (ap (λ (b : Bool). cond b (numbered x ∷ filter (λ y. p y.entry) (map numbered xs)) (filter (λ y. p y.entry) (map numbered xs))) no))

  -- those that pass, with their numbers, are the entries of the index that pass
  numbered_at : (passes : List ℕ → Bool) (all : List (List ℕ)) (ns : List ℕ) (es : List (List ℕ)) → AreNumbered passes all ns es
      → placed_at ns es ≡ filter (λ x. passes x.entry) (entries_at input 0 all)
  numbered_at passes all ns es are =
      ap (map numbered) are.are ∙ passing passes (enumerate_from 0 all) ∙ ap (filter (λ x. passes x.entry)) (enumerated 0 all)

  -- the admissions under a prefix that are not retired live
  pub lives_of : (prefix : List ℕ) (retired all : List (List ℕ)) (ns : List ℕ) (es : List (List ℕ)) → AreNumbered (admits_under prefix) all ns es
      → filter (λ x. not (is_retired retired x.entry)) (placed_at ns es) ≡ filter (λ x. lives_by prefix retired x.entry) (entries_at input 0 all)
  lives_of prefix retired all ns es are =
      ap (filter (λ x. not (is_retired retired x.entry))) (numbered_at (admits_under prefix) all ns es are)
      ∙ filter_twice (λ x. admits_under prefix x.entry) (λ x. not (is_retired retired x.entry)) (entries_at input 0 all)

  module _ (retired : List (List ℕ)) (ns : List ℕ) (es : List (List ℕ)) (i n : ℕ) (e : List ℕ) (gone : Bool) (long : length ns ≡ length es)
      (lt : i < length es) (n_is : n ≡ get_or ns i n) (e_is : e ≡ get_or es i e) (gone_is : gone ≡ is_retired retired e) where
    abbrev lives : EntryAt → Bool
    lives x = not (is_retired retired x.entry)

    there : i < length (placed_at ns es)
    there = omega (arith, lt, length-placed_at ns es long)

    pub passed_by : gone ≡ true → filter lives (take (i + 1) (placed_at ns es)) ≡ filter lives (take i (placed_at ns es))
    passed_by so = filter_passed lives (placed_at ns es) i (at input n e) there (placed_read ns es i n e long lt n_is e_is) (ap not (sym gone_is ∙ so))

    pub picked : gone ≡ false → filter lives (take (i + 1) (placed_at ns es)) ≡ filter lives (take i (placed_at ns es)) ++ at input n e ∷ []
    picked so = filter_pushed lives (placed_at ns es) i (at input n e) there (placed_read ns es i n e long lt n_is e_is) (ap not (sym gone_is ∙ so))

-- one retirement more
pub subjects_pushed : (es : List (List ℕ)) (i : ℕ) (e : List ℕ) → i < length es → e ≡ get_or es i e
    → map subject_of (take (i + 1) es) ≡ map subject_of (take i es) ++ subject_of e ∷ []
subjects_pushed es i e lt is = map_more subject_of es i e lt ∙ ap (λ (x : List ℕ). map subject_of (take i es) ++ subject_of x ∷ []) (sym is)
