-- What is retired under a key, and by halving.
use Rattle.std.proofs.Common.{◌≡◌, ℕ, ◌+◌, ◌<◌, ◌≤◌, Bool, true, false, ◌&&◌, ◌==◌, not, List, [], ◌∷◌, ◌++◌, length}
use Rattle.std.proofs.Common.{map, take, drop, get_or, Result, Ok, Err, is_ok, sym, ap, ◌∙◌, inl, inr, arith}
use Rattle.std.specs.Prelude.{filter, slice_index}
use Rattle.std.specs.Ordering.{nat_cmp}
use Rattle.std.specs.declared.cmp.Ordering.{Ordering}
use Rattle.std.specs.declared.cmp.Ordering.TheVariants.{Less, Equal, Greater}
use Rattle.std.specs.Cmp.{tied_itself}
use Rattle.std.specs.Cmp.Lexicographic.{slice_cmp, nat_list_cmp_total}
use Rattle.std.specs.List.{HoldsAt, list_any}
use Rattle.std.specs.List.Sorted.{IsBinarySearchResult, IsPartitionPoint, IsPermutation, IsSearchInRange, IsSortedByKey}
use Rattle.std.specs.Str.{bytes_eq}
use Rattle.std.proofs.lemmas.Bool.{and_parts, cases_Bool, cases_lt, false_from_ne_true}
use Rattle.std.proofs.lemmas.List.{append-nil, map-append, take-take, take_more}
use Rattle.std.proofs.lemmas.List.Concat.{flat_map-append}
use Rattle.std.proofs.lemmas.List.Elements.{filter-append}
use Rattle.std.proofs.lemmas.List.Folds.{Any-from_list_any, list_any_at}
use Rattle.std.proofs.lemmas.List.Sorted.{list_any-IsPermutation, searchable_from_sorted}
use Rattle.std.proofs.lemmas.Slice.Eq.{bytes_eq-Decides}
use Rattle.archive_core.specs.Part.{is_under}
use Rattle.archive_core.proofs.Made.{bytes_same}
use Rattle.index_lookup.specs.Among.{all_of, covers, lives_under, subject_of}
use Rattle.index_lookup.specs.Told.{admits_under}
use Rattle.index_lookup.specs.InnerAnswering.{is_retired, lives_by, retired_of, retires_under}
use Rattle.index_lookup.proofs.Lists.{any_filter, any_map, filter_pushed}

-- ---- in another order

pub retired_sorted : (retired sorted : List (List ℕ)) → IsPermutation retired sorted → is_retired sorted ≡ is_retired retired
retired_sorted retired sorted permuted = λ i e. sym (list_any-IsPermutation (λ subject. bytes_eq subject (subject_of e)) retired sorted permuted) i

pub retired_append : (prefix : List ℕ) (es fs : List (List ℕ)) → retired_of prefix (es ++ fs) ≡ retired_of prefix es ++ retired_of prefix fs
retired_append prefix es fs =
    ap (map subject_of) (filter-append (retires_under prefix) es fs)
    ∙ map-append subject_of (filter (retires_under prefix) es) (filter (retires_under prefix) fs)

pub retired_pushed : (prefix : List ℕ) (es : List (List ℕ)) (i : ℕ) (e : List ℕ) → i < length es → e ≡ get_or es i e → retires_under prefix e ≡ true
    → retired_of prefix (take (i + 1) es) ≡ retired_of prefix (take i es) ++ subject_of e ∷ []
retired_pushed prefix es i e lt is here =
    ap (map subject_of) (filter_pushed (retires_under prefix) es i e lt is here) ∙ map-append subject_of (filter (retires_under prefix) (take i es)) (e ∷ [])

-- one index more
pub all_of_more : (indexes : List (List (List ℕ))) (i : ℕ) (es : List (List ℕ)) → i < length indexes → es
    ≡ get_or indexes i es → all_of (take (i + 1) indexes) ≡ all_of (take i indexes) ++ es
all_of_more indexes i es lt is =
    ap all_of (take_more indexes i es lt) ∙ flat_map-append (λ (zs : List (List ℕ)). zs) (take i indexes) (get_or indexes i es ∷ [])
    ∙ ap (λ (zs : List (List ℕ)). all_of (take i indexes) ++ zs) (append-nil (get_or indexes i es) ∙ sym is)

pub retired_more : (prefix : List ℕ) (indexes : List (List (List ℕ))) (i : ℕ) (es : List (List ℕ)) → i < length indexes → es ≡ get_or indexes i es
    → retired_of prefix (all_of (take (i + 1) indexes)) ≡ retired_of prefix (all_of (take i indexes)) ++ retired_of prefix es
retired_more prefix indexes i es lt is = ap (retired_of prefix) (all_of_more indexes i es lt is) ∙ retired_append prefix (all_of (take i indexes)) es

-- ---- by halving

module _ (bytes : List ℕ) where
  abbrev pub place_of : List ℕ → Ordering
  place_of subject = slice_cmp nat_cmp subject bytes

  abbrev has : List ℕ → Bool
  has subject = bytes_eq subject bytes

  tied : (subject : List ℕ) → has subject ≡ true → place_of subject ≡ Equal
  tied subject is = ap (λ (b : List ℕ). slice_cmp nat_cmp b bytes) ((bytes_eq-Decides subject bytes).0 is) ∙ tied_itself nat_list_cmp_total bytes

  found_at : (subjects : List (List ℕ)) (i : ℕ) → i < length subjects
      → HoldsAt (λ (subject : List ℕ). place_of subject ≡ Equal) subjects i → list_any has subjects ≡ true
  found_at [] i lt at = absurd (omega (arith, lt))
  found_at (subject ∷ subjects) i lt at = list_any_at has (subject ∷ subjects) i subject lt ((bytes_eq-Decides _ bytes).1 (bytes_same _ bytes (at subject)))

  found_nowhere : (subjects : List (List ℕ)) (i : ℕ) → IsPartitionPoint (λ (subject : List ℕ). place_of subject ≡ Less)
      (λ (subject : List ℕ). place_of subject ≡ Greater) subjects i → list_any has subjects ≡ false
  found_nowhere subjects i parts = false_from_ne_true (list_any has subjects) (λ is.
      let any = Any-from_list_any has subjects is in
      elim (cases_lt any.0 i) [
        | inl below ↦ cc (tied any.1 any.4, any.3, parts.0 any.0 any.1 (omega arith) below)
        | inr above ↦ cc (tied any.1 any.4, any.3, parts.1 any.0 any.1 above any.2)
      ])

  -- what a search among keys in their order finds
  pub found : (subjects : List (List ℕ)) (r : Result ℕ ℕ)
      → IsSortedByKey (λ subject. subject) (slice_cmp nat_cmp) subjects → IsSearchInRange r (length subjects)
      → IsBinarySearchResult place_of subjects r → is_ok r ≡ list_any has subjects
  found subjects (Ok i) sorted lt at = sym (found_at subjects i lt at)
  found subjects (Err i) sorted le parted = sym (found_nowhere subjects i
      (parted (searchable_from_sorted nat_list_cmp_total (λ subject. subject) subjects bytes sorted)))

-- ---- of an admission under the same key

module _ (prefix e : List ℕ) (long : length prefix ≡ 24) (under : admits_under prefix e ≡ true) where
  same_key : (r : List ℕ) → subject_of r ≡ subject_of e → is_under prefix r ≡ true
  unfolding is_under
  same_key r same =
      let here : bytes_eq prefix (take (length prefix) (drop 1 e))
      ≡ true = (and_parts (slice_index e 0 == 2) (bytes_eq prefix (take (length prefix) (drop 1 e))) under).1 in
      let shorter : length prefix ≤ 56 = omega (arith, long) in
      let key : take (length prefix) (drop 1 r) ≡ take (length prefix) (drop 1 e) =
      sym (take-take (length prefix) 56 (drop 1 r) shorter) ∙ ap (take (length prefix)) same ∙ take-take (length prefix) 56 (drop 1 e) shorter in
      ap (bytes_eq prefix) key ∙ here

  covers_is : (r : List ℕ) → (retires_under prefix r && bytes_eq (subject_of r) (subject_of e)) ≡ covers e r
  covers_is r =
      absorbed (slice_index r 0 == 1) (is_under prefix r) (bytes_eq (subject_of r) (subject_of e))
      (λ is. same_key r ((bytes_eq-Decides (subject_of r) (subject_of e)).0 is))
    where
      absorbed : (a u s : Bool) → (s ≡ true → u ≡ true) → ((a && u) && s) ≡ (a && s)
      absorbed a u s to = grind arith

  -- it is retired where a retirement of these covers it
  pub retired_is : (all : List (List ℕ)) → is_retired (retired_of prefix all) e ≡ list_any (covers e) all
  retired_is all =
      any_map (λ subject. bytes_eq subject (subject_of e)) subject_of (filter (retires_under prefix) all)
      ∙ any_filter (retires_under prefix) (λ r. bytes_eq (subject_of r) (subject_of e)) all
      ∙ (λ i. list_any (λ r. covers_is r i) all)

-- what lives is the same by what is retired and by all entries
pub lives_is : (prefix : List ℕ) (all retired : List (List ℕ)) → length prefix ≡ 24 → is_retired retired
    ≡ is_retired (retired_of prefix all) → (e : List ℕ) → lives_by prefix retired e ≡ lives_under prefix all e
lives_is prefix all retired long same e = elim (cases_Bool (admits_under prefix e)) [
  | inl t ↦ ap (λ b. admits_under prefix e && not b) ((λ i. same i e) ∙ retired_is prefix e long t all)
  | inr f ↦ ap (λ b. b && not (is_retired retired e)) f ∙ sym (ap (λ b. b && not (list_any (covers e) all)) f)
]
