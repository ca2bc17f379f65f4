-- The entries of several indexes with their numbers.
use Rattle.std.proofs.Common.{◌≡◌, ◌≢◌, ℕ, zero, suc, ◌+◌, ◌<◌, Bool, List, [], ◌∷◌, ◌++◌, length, map, take, get_or}
use Rattle.std.proofs.Common.{slice_get, Some, refl, sym, ap, ◌∙◌, arith}
use Rattle.std.specs.Prelude.{All, Contains, filter}
use Rattle.std.specs.List.{AllPairs}
use Rattle.std.proofs.lemmas.List.{append-nil, append_assoc, length-take-le, map-append, take_more}
use Rattle.std.proofs.lemmas.List.Elements.{All-append, All-nil, All-weaker, Contains-append_left, Contains-append_right, filter-append}
use Rattle.std.proofs.lemmas.Option.{get_or_from_slice_get, none-some, same_Some, slice_get-get_or, slice_get_within}
use Rattle.index_lookup.specs.Among.{EntryAt, IsAmong, all_of}
use Rattle.index_lookup.specs.InnerAnswering.{all_at, entries_at}
use Rattle.index_lookup.proofs.Lists.{pairs_append}

-- ---- one index

abbrev pub at : ℕ → ℕ → List ℕ → EntryAt
at input number e = record { input = input; number = number; entry = e }

pub length-entries_at : (input k : ℕ) (es : List (List ℕ)) → length (entries_at input k es) ≡ length es
length-entries_at input k [] = refl
length-entries_at input k (e ∷ es) = ap suc (length-entries_at input (k + 1) es)

-- an entry with its numbers
pub get_or-entries_at : (input k : ℕ) (es : List (List ℕ)) (i : ℕ) (d : EntryAt) (e : List ℕ) → i < length es
    → get_or (entries_at input k es) i d ≡ at input (k + i) (get_or es i e)
get_or-entries_at input k [] i d e lt = absurd (omega (arith, lt))
get_or-entries_at input k (x ∷ es) zero d e lt = let same : k ≡ k + 0 = omega arith in ap (λ n. at input n x) same
get_or-entries_at input k (x ∷ es) (suc i) d e lt =
    let same : k + 1 + i ≡ k + suc i = omega arith in
    get_or-entries_at input (k + 1) es i d e (omega (arith, lt)) ∙ ap (λ n. at input n (get_or es i e)) same

pub map-entries_at : (input k : ℕ) (es : List (List ℕ)) → map (λ x. x.entry) (entries_at input k es) ≡ es
map-entries_at input k [] = refl
map-entries_at input k (e ∷ es) = ap (λ (zs : List (List ℕ)). e ∷ zs) (map-entries_at input (k + 1) es)

has_entry : (input : ℕ) (es : List (List ℕ)) (i : ℕ) (e : List ℕ) → slice_get es i ≡ Some e → Contains (entries_at input 0 es) (at input i e)
has_entry input es i e is =
    let lt : i < length es = slice_get_within es i e is in
    let same : 0 + i ≡ i = omega arith in (
      i,
      omega (arith, lt, length-entries_at input 0 es),
      get_or-entries_at input 0 es i (at input i e) e lt
          ∙ (λ j. at input (same j) (get_or_from_slice_get es i e e is j)),
    )

-- where an entry stands in its index
record StandsAt (input : ℕ) (es : List (List ℕ)) (x : EntryAt) : Type 0 where
  input_is : x.input ≡ input
  entry_is : slice_get es x.number ≡ Some x.entry

stands : (input : ℕ) (es : List (List ℕ)) → All (StandsAt input es) (entries_at input 0 es)
stands input es i d lt =
    let within : i < length es = omega (arith, lt, length-entries_at input 0 es) in
    let same : 0 + i ≡ i = omega arith in
    rw (get_or-entries_at input 0 es i d [] within) (record { input_is = refl; entry_is = ap (slice_get es) same ∙ slice_get-get_or es i [] within })

-- ---- several

pub map-all_at : (j : ℕ) (indexes : List (List (List ℕ))) → map (λ x. x.entry) (all_at j indexes) ≡ all_of indexes
map-all_at j [] = refl
map-all_at j (es ∷ indexes) =
    map-append (λ (x : EntryAt). x.entry) (entries_at j 0 es) (all_at (j + 1) indexes) ∙ (λ i. map-entries_at j 0 es i ++ map-all_at (j + 1) indexes i)

-- one index more
pub all_at_push : (j : ℕ) (indexes : List (List (List ℕ))) (es : List (List ℕ)) → all_at j (indexes ++ es ∷ [])
    ≡ all_at j indexes ++ entries_at (j + length indexes) 0 es
all_at_push j [] es =
    let same : j ≡ j + 0 = omega arith in append-nil (entries_at j 0 es) ∙ ap (λ n. entries_at n 0 es) same
all_at_push j (first ∷ indexes) es =
    let same : j + 1 + length indexes ≡ j + suc (length indexes) = omega arith in
    ap (λ (zs : List EntryAt). entries_at j 0 first ++ zs) (all_at_push (j + 1) indexes es ∙ ap (λ n. all_at (j + 1) indexes ++ entries_at n 0 es) same)
    ∙ sym (append_assoc (entries_at j 0 first) (all_at (j + 1) indexes) (entries_at (j + suc (length indexes)) 0 es))

has_entry_of : (j : ℕ) (indexes : List (List (List ℕ))) (i input number : ℕ) (es : List (List ℕ)) (e : List ℕ) → j + i
    ≡ input → slice_get indexes i ≡ Some es → slice_get es number ≡ Some e
    → Contains (all_at j indexes) (at input number e)
has_entry_of j [] i input number es e at_is index is = absurd (none-some es index)
has_entry_of j (first ∷ indexes) zero input number es e at_is index is =
    let same : input ≡ j = omega (arith, at_is) in
    rw (same, same_Some first es index) (Contains-append_left (entries_at j 0 es) (all_at (j + 1) indexes) (at j number e) (has_entry j es number e is))
has_entry_of j (first ∷ indexes) (suc i) input number es e at_is index is =
    Contains-append_right (entries_at j 0 first) (all_at (j + 1) indexes) (at input number e)
    (has_entry_of (j + 1) indexes i input number es e (omega (arith, at_is)) index is)

-- an entry that stands there is among all
pub has_among : (indexes : List (List (List ℕ))) (x : EntryAt) → IsAmong indexes x → Contains (all_at 0 indexes) x
has_among indexes x h = has_entry_of 0 indexes x.input x.input x.number h.entries x.entry (omega arith) h.index_is h.entry_is

-- where an entry stands among several indexes
record StandsIn (j : ℕ) (indexes : List (List (List ℕ))) (x : EntryAt) : Type 0 where
  place : ℕ
  entries : List (List ℕ)
  input_is : x.input ≡ j + place
  index_is : slice_get indexes place ≡ Some entries
  entry_is : slice_get entries x.number ≡ Some x.entry

stand_in : (j : ℕ) (indexes : List (List (List ℕ))) → All (StandsIn j indexes) (all_at j indexes)
stand_in j [] = All-nil (StandsIn j [])
stand_in j (es ∷ indexes) =
    All-append (StandsIn j (es ∷ indexes)) (entries_at j 0 es) (all_at (j + 1) indexes)
    (All-weaker (StandsAt j es) (StandsIn j (es ∷ indexes))
    (λ x s. let n = s.input_is in record {
      place = 0;
      entries = es;
      input_is = omega (arith, n);
      index_is = refl;
      entry_is = s.entry_is;
    }) (entries_at j 0 es) (stands j es))
    (All-weaker (StandsIn (j + 1) indexes) (StandsIn j (es ∷ indexes))
    (λ x s. let p = s.place in let n = s.input_is in record {
      place = suc p;
      entries = s.entries;
      input_is = omega (arith, n);
      index_is = s.index_is;
      entry_is =
          s.entry_is;
    }) (all_at (j + 1) indexes) (stand_in (j + 1) indexes))

-- each of all stands there
pub are_among : (indexes : List (List (List ℕ))) → All (IsAmong indexes) (all_at 0 indexes)
are_among indexes =
    All-weaker (StandsIn 0 indexes) (IsAmong indexes) (λ x s. let n = s.input_is in let same : x.input
    ≡ s.place = omega (arith, n) in record {
      entries = s.entries;
      index_is = ap (slice_get indexes) same
          ∙ s.index_is;
      entry_is = s.entry_is;
    }) (all_at 0 indexes) (stand_in 0 indexes)

-- ---- two entries have other numbers

abbrev pub AreApart : EntryAt → EntryAt → Type 0
AreApart x y = x.input ≡ y.input → x.number ≢ y.number

pub apart_both : (x y : EntryAt) → AreApart x y → AreApart y x
apart_both x y h = λ e n. h (sym e) (sym n)

apart_in : (input : ℕ) (es : List (List ℕ)) → AllPairs AreApart (entries_at input 0 es)
apart_in input es i j d lt le =
    let long = length-entries_at input 0 es in
    rw (
      get_or-entries_at input 0 es i d [] (omega (arith, lt, le, long)),
      get_or-entries_at input 0 es j d [] (omega (arith, le, long)),
    ) (λ _ same. omega (arith, lt, same))

apart_from : (j : ℕ) (indexes : List (List (List ℕ))) → AllPairs AreApart (all_at j indexes)
apart_from j [] = λ i k d lt le. absurd (omega (arith, lt, le))
apart_from j (es ∷ indexes) =
    pairs_append AreApart (entries_at j 0 es) (all_at (j + 1) indexes) (apart_in j es) (apart_from (j + 1) indexes)
    (All-weaker (StandsAt j es) (λ x. All (AreApart x) (all_at (j + 1) indexes)) (λ x s.
    All-weaker (StandsIn (j + 1) indexes) (AreApart x)
    (λ y t same number. let a = s.input_is in let b = t.input_is in omega (arith, a, b, same))
    (all_at (j + 1) indexes) (stand_in (j + 1) indexes)) (entries_at j 0 es) (stands j es))

pub are_apart : (indexes : List (List (List ℕ))) → AllPairs AreApart (all_at 0 indexes)
are_apart indexes = apart_from 0 indexes

-- those that pass of one index more
pub picked_more : (p : EntryAt → Bool) (indexes : List (List (List ℕ))) (i : ℕ) (es : List (List ℕ)) → i < length indexes → es ≡ get_or indexes i es
    → filter p (all_at 0 (take (i + 1) indexes)) ≡ filter p (all_at 0 (take i indexes)) ++ filter p (entries_at i 0 es)
picked_more p indexes i es lt is =
    let long : 0 + length (take i indexes) ≡ i = omega (arith, length-take-le i indexes (omega (arith, lt))) in
    ap (λ z. filter p (all_at 0 z)) (take_more indexes i es lt)
    ∙ ap (filter p) (all_at_push 0 (take i indexes) (get_or indexes i es))
    ∙ filter-append p (all_at 0 (take i indexes)) (entries_at (0 + length (take i indexes)) 0 (get_or indexes i es))
    ∙ ap (λ n. filter p (all_at 0 (take i indexes)) ++ filter p (entries_at n 0 (get_or indexes i es))) long
    ∙ ap (λ z. filter p (all_at 0 (take i indexes)) ++ filter p (entries_at i 0 z)) (sym is)
