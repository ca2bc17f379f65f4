-- What answers under a key among all entries answers among those alone that are under it.
use Rattle.std.proofs.Common.{◌≡◌, ℕ, ◌≤◌, Bool, true, false, ◌&&◌, ◌||◌, eqb, not, List, [], ◌∷◌, ◌++◌, length, map, take, drop}
use Rattle.std.proofs.Common.{refl, sym, ap, ◌∙◌, arith, get_or, slice_get, Some}
use Rattle.std.specs.Prelude.{Option, None, if◌then◌else◌}
use Rattle.std.specs.Option.{option_map}
use Rattle.std.specs.List.{list_any}
use Rattle.std.specs.Str.{bytes_eq}
use mathlib.Core.Bool.{true≢false}
use Rattle.std.proofs.lemmas.List.{map-append, take-take}
use Rattle.std.proofs.lemmas.List.Concat.{flat_map-cons}
use Rattle.std.proofs.lemmas.Option.{slice_get-map}
use Rattle.std.proofs.lemmas.Slice.Eq.{bytes_eq-Decides}
use Rattle.archive_core.specs.Part.{is_under}
use Rattle.archive_core.proofs.Made.{and_left, and_right, by_test}
use Rattle.index_format.specs.Paged.{kept, only}
use Rattle.index_lookup.specs.Told.{admits_under, is_companion}
use Rattle.index_lookup.specs.Among.{AreAnsweringAmong, AreTied, EntryAt, IsAmong, all_of, answers_among, covers}
use Rattle.index_lookup.specs.Among.{has_live_companion, lives_under, subject_of}
use Rattle.index_lookup.specs.Named.{LivesAmong}

mapped : {A B : Type 0} (f : A → B) (o : Option A) (y : B) → option_map f o ≡ Some y → (x : A) × (o ≡ Some x) × (f x ≡ y)
mapped f None y h = cc
mapped f (Some x) y h = (x, refl, cc)

-- a retirement that covers an entry is under what this is under
covers_under : (prefix e r : List ℕ) → length prefix ≤ 56 → covers e r ≡ true → is_under prefix e ≡ true → is_under prefix r ≡ true
unfolding is_under
covers_under prefix e r short c h =
    let n : ℕ = length prefix in
    let same : subject_of r ≡ subject_of e =
    (bytes_eq-Decides (subject_of r) (subject_of e)).0 (and_right (eqb (get_or r 0 0) 1) (bytes_eq (subject_of r) (subject_of e)) c) in
    let front : take n (drop 1 e) ≡ take n (drop 1 r) = sym (take-take n 56 (drop 1 e) (omega (arith, short)))
    ∙ ap (take n) (sym same) ∙ take-take n 56 (drop 1 r) (omega (arith, short)) in
    ap (bytes_eq prefix) (sym front) ∙ h

module _ (passes : List ℕ → Bool) where
  kept_if : (e : List ℕ) → passes e ≡ true → kept passes e ≡ e
  kept_if e h = ap (λ (b : Bool). if b then e else []) h

  kept_not : (e : List ℕ) → passes e ≡ false → kept passes e ≡ []
  kept_not e h = ap (λ (b : Bool). if b then e else []) h

  -- a test that no others pass finds the same
  same_kept : (f : List ℕ → Bool) (e : List ℕ) → f [] ≡ false → ((x : List ℕ) → f x ≡ true → passes x ≡ true) → f (kept passes e) ≡ f e
  same_kept f e none of = by_test _ (passes e)
      (λ yes. ap f (kept_if e yes))
      (λ no.
      let fails : f e ≡ false = by_test _ (f e) (λ h. absurd (true≢false (sym (of e h) ∙ no))) (λ h. h) in
      ap f (kept_not e no) ∙ none ∙ sym fails)

  any_only : (f : List ℕ → Bool) (xs : List (List ℕ)) → f [] ≡ false → ((x : List ℕ) → f x ≡ true → passes x ≡ true)
      → list_any f (only passes xs) ≡ list_any f xs
  any_only f [] none of = refl
  any_only f (x ∷ xs) none of = λ i. same_kept f x none of i || any_only f xs none of i

  all_only : (indexes : List (List (List ℕ))) → all_of (map (only passes) indexes) ≡ only passes (all_of indexes)
  all_only [] = refl
  all_only (es ∷ rest) =
      flat_map-cons (λ (x : List (List ℕ)). x) (only passes es) (map (only passes) rest)
      ∙ ap (λ (t : List (List ℕ)). only passes es ++ t) (all_only rest)
      ∙ sym (map-append (kept passes) es (all_of rest))
      ∙ ap (only passes) (sym (flat_map-cons (λ (x : List (List ℕ)). x) es rest))

  module _ (prefix : List ℕ) (short : length prefix ≤ 56) (of : (e : List ℕ) → is_under prefix e ≡ true → passes e ≡ true) where
    pub lives_alike : (all : List (List ℕ)) (e : List ℕ) → lives_under prefix (only passes all) e ≡ lives_under prefix all e
    lives_alike all e = by_test _ (admits_under prefix e)
        (λ yes. ap (λ (b : Bool). admits_under prefix e && not b)
        (any_only (covers e) all refl (λ r c. of r (covers_under prefix e r short c (and_right _ _ yes)))))
        (λ no. ap (λ (a : Bool). a && not (list_any (covers e) (only passes all))) no
        ∙ sym (ap (λ (a : Bool). a && not (list_any (covers e) all)) no))

    companion_alike : (all : List (List ℕ)) → has_live_companion prefix (only passes all) ≡ has_live_companion prefix all
    companion_alike all =
        (λ i. list_any (λ e. lives_alike all e i && is_companion e) (only passes all))
        ∙ any_only (λ e. lives_under prefix all e && is_companion e) all refl
        (λ x h. of x (and_right _ _ (and_left _ _ (and_left _ _ h))))

    pub answers_alike : (indexes : List (List (List ℕ))) (e : List ℕ)
        → answers_among prefix (all_of (map (only passes) indexes)) e ≡ answers_among prefix (all_of indexes) e
    answers_alike indexes e =
        ap (λ (all : List (List ℕ)). answers_among prefix all e) (all_only indexes)
        ∙ (λ i. lives_alike (all_of indexes) e i && (not (companion_alike (all_of indexes) i) || is_companion e))

    admitted : (all : List (List ℕ)) (e : List ℕ) → answers_among prefix all e ≡ true → admits_under prefix e ≡ true
    admitted all e h = and_left _ _ (and_left _ _ h)

    pub among_all : (indexes : List (List (List ℕ))) (x : EntryAt) → admits_under prefix x.entry ≡ true
        → IsAmong (map (only passes) indexes) x → IsAmong indexes x
    among_all indexes x admits is =
        let index = mapped (only passes) (slice_get indexes x.input) is.entries (sym (slice_get-map (only passes) indexes x.input) ∙ is.index_is) in
        let entries : List (List ℕ) = index.0 in
        let entry = mapped (kept passes) (slice_get entries x.number) x.entry
        (sym (slice_get-map (kept passes) entries x.number)
        ∙ ap (λ (es : List (List ℕ)). slice_get es x.number) index.2 ∙ is.entry_is) in
        let same : entry.0 ≡ x.entry = by_test _ (passes entry.0)
        (λ yes. sym (kept_if entry.0 yes) ∙ entry.2)
        (λ no. absurd (true≢false (sym admits ∙ ap (admits_under prefix) (sym (sym (kept_not entry.0 no) ∙ entry.2))))) in
        record { entries = entries; index_is = index.1; entry_is = entry.1 ∙ ap Some same }

    pub among_only : (indexes : List (List (List ℕ))) (x : EntryAt) → admits_under prefix x.entry ≡ true
        → IsAmong indexes x → IsAmong (map (only passes) indexes) x
    among_only indexes x admits is = record {
      entries = only passes is.entries;
      index_is = slice_get-map (only passes) indexes x.input ∙ ap (option_map (only passes)) is.index_is;
      entry_is = slice_get-map (kept passes) is.entries x.number ∙ ap (option_map (kept passes)) is.entry_is
          ∙ ap Some (kept_if x.entry (of x.entry (and_right _ _ admits)));
    }

    -- what lives
    lives_by_part : (indexes : List (List (List ℕ))) (e : List ℕ)
        → lives_under prefix (all_of (map (only passes) indexes)) e ≡ lives_under prefix (all_of indexes) e
    lives_by_part indexes e = ap (λ (all : List (List ℕ)). lives_under prefix all e) (all_only indexes) ∙ lives_alike (all_of indexes) e

    pub living_all : (digest : List ℕ) (indexes : List (List (List ℕ))) (x : EntryAt)
        → LivesAmong prefix digest (map (only passes) indexes) x → LivesAmong prefix digest indexes x
    living_all digest indexes x l = record {
      among = among_all indexes x (and_left _ _ l.lives) l.among;
      lives = sym (lives_by_part indexes x.entry) ∙ l.lives;
      digest_is = l.digest_is;
    }

    pub living_only : (digest : List ℕ) (indexes : List (List (List ℕ))) (x : EntryAt)
        → LivesAmong prefix digest indexes x → LivesAmong prefix digest (map (only passes) indexes) x
    living_only digest indexes x l = record {
      among = among_only indexes x (and_left _ _ l.lives) l.among;
      lives = lives_by_part indexes x.entry ∙ l.lives;
      digest_is = l.digest_is;
    }

    -- what answers
    pub tied_all : (indexes : List (List (List ℕ))) → AreTied prefix (map (only passes) indexes) → AreTied prefix indexes
    tied_all indexes t =
        let somes : List (List ℕ) = all_of (map (only passes) indexes) in
        record {
          one = t.one;
          other = t.other;
          one_among = among_all indexes t.one (admitted somes t.one.entry t.one_answers) t.one_among;
          other_among = among_all indexes t.other (admitted somes t.other.entry t.other_answers) t.other_among;
          one_answers = sym (answers_alike indexes t.one.entry) ∙ t.one_answers;
          other_answers = sym (answers_alike indexes t.other.entry) ∙ t.other_answers;
          unordered = t.unordered;
        }

    pub tied_only : (indexes : List (List (List ℕ))) → AreTied prefix indexes → AreTied prefix (map (only passes) indexes)
    tied_only indexes t = record {
      one = t.one;
      other = t.other;
      one_among = among_only indexes t.one (admitted (all_of indexes) t.one.entry t.one_answers) t.one_among;
      other_among = among_only indexes t.other (admitted (all_of indexes) t.other.entry t.other_answers) t.other_among;
      one_answers = answers_alike indexes t.one.entry ∙ t.one_answers;
      other_answers = answers_alike indexes t.other.entry ∙ t.other_answers;
      unordered = t.unordered;
    }

    pub answering_all : (indexes : List (List (List ℕ))) (answering : List EntryAt)
        → AreAnsweringAmong prefix (map (only passes) indexes) answering → AreAnsweringAmong prefix indexes answering
    answering_all indexes answering a =
        let somes : List (List ℕ) = all_of (map (only passes) indexes) in
        record {
          among = λ k d lt.
              let x : EntryAt = get_or answering k d in
              among_all indexes x (admitted somes x.entry (a.each k d lt)) (a.among k d lt);
          each = λ k d lt. sym (answers_alike indexes (get_or answering k d).entry) ∙ a.each k d lt;
          whole = λ x is h.
              a.whole x (among_only indexes x (admitted (all_of indexes) x.entry h) is) (answers_alike indexes x.entry ∙ h);
          ordered = a.ordered;
          untied = λ t. a.untied (tied_only indexes t);
        }
