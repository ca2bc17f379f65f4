-- How texts, keys of files and keys of locations compare, and their numbers.
use Rattle.std.proofs.Common.{◌≡◌, ℕ, zero, suc, true, false, cond, List, [], ◌∷◌, ◌++◌, length, slice_get, Option, Some, None, refl, sym, ap, ◌∙◌, inl, inr}
use Rattle.std.proofs.Common.{◌⊎◌, ◌<◌, is_eq, nat_cmp, Ordering, map, subst, IfOk, OnErr, Result, Ok, Err, map-id, MatchOption, arith, get_or}
use Rattle.std.specs.Cmp.{Equal-is, IsTotalOrder, tied_then}
use Rattle.std.specs.Cmp.Lexicographic.{slice_cmp}
use Rattle.std.specs.Ordering.{ordering_then}
use Rattle.std.specs.BTreeMap as tree_map
use Rattle.std.proofs.lemmas.Bool.{and_parts, cases_Bool}
use Rattle.std.proofs.lemmas.Cmp.{tied_itself, tied_back, nat_cmp_total, nat_list_cmp_total}
use Rattle.std.proofs.lemmas.List.{get_or-map, length-map}
use Rattle.std.proofs.lemmas.Map.Lookups.{exact_bytes, exact_pairs, exact_unsigned}
use Rattle.std.proofs.lemmas.Option.{slice_get-get_or}
pub use Rattle.std.proofs.lemmas.Result.{IfOk-weaker}
use Rattle.table_source_frames_build.specs.Numbering.{IsNumber}
use Rattle.table_source_frames_build.specs.Numbers.{AreNumbered, IsFoundIn, IsNumbered}
use Rattle.table_source_frames_build.specs.Kept.{IsNumberedIn, IsText, KeptRecord, numbered_or, text_at}
use Rattle.table_source_frames_build.specs.Marks.{mark_of}
use Rattle.table_source_frames_build.specs.declared.keys.FileKey.{FileKey}
use Rattle.table_source_frames_build.specs.declared.keys.LocationKey.{LocationKey}
use Rattle.table_source_frames_build.specs.declared.keys.ScopeKey.{ScopeKey}
use Rattle.table_source_frames_build.specs.declared.keys.TextKey.{TextKey}
use Rattle.table_source_frames_build.proofs.KeptLemmas.{told_by}

-- an element of a list with one more
pub push_at : {A : Type 0} (xs : List A) (x : A) (i : ℕ) (k : A) → slice_get (xs ++ x ∷ []) i ≡ Some k → (slice_get xs i ≡ Some k) ⊎ ((i ≡ length xs) × (x ≡ k))
push_at [] x zero k e = inr (refl, cc e)
push_at [] x (suc i) k e = cc e
push_at (y ∷ ys) x zero k e = inl e
push_at (y ∷ ys) x (suc i) k e = elim (push_at ys x i k e) [
  | inl h ↦ inl h
  | inr h ↦ inr (ap suc h.0, h.1)
]

pub at_last : {A : Type 0} (xs : List A) (x : A) → slice_get (xs ++ x ∷ []) (length xs) ≡ Some x
at_last [] x = refl
at_last (y ∷ ys) x = at_last ys x

pub at_first : {A : Type 0} (xs ys : List A) (i : ℕ) (k : A) → slice_get xs i ≡ Some k → slice_get (xs ++ ys) i ≡ Some k
at_first [] ys i k e = cc e
at_first (x ∷ xs) ys zero k e = e
at_first (x ∷ xs) ys (suc i) k e = at_first xs ys i k e

module _ {K : Type 0} (cmp : K → K → Ordering) (o : IsTotalOrder cmp) where
  -- keys that compare alike are found alike
  same_get : (map : tree_map.BTreeMap K ℕ) (a b : K) → is_eq (cmp a b) ≡ true → tree_map.get cmp map a ≡ tree_map.get cmp map b
  same_get map a b e = ap (λ (compare : K → Ordering). tree_map.get_by compare map) (λ i k. o.congr a b k ((Equal-is (cmp a b)).0 e) i)

  itself : (a : K) → is_eq (cmp a a) ≡ true
  itself a = ap is_eq (tied_itself o a)

  back : (a b : K) → is_eq (cmp a b) ≡ true → is_eq (cmp b a) ≡ true
  back a b e = ap is_eq (tied_back o a b ((Equal-is (cmp a b)).0 e))

  -- a key that is not found is none of them
  pub absent : (map : tree_map.BTreeMap K ℕ) (keys : List K) (key : K) → AreNumbered cmp map keys
      → tree_map.get cmp map key ≡ None → (i : ℕ) (k : K) → slice_get keys i ≡ Some k → is_eq (cmp key k) ≡ false
  absent map keys key are none i k at = elim (cases_Bool (is_eq (cmp key k))) [
    | inl t ↦
        let gone : ◌≡◌ {A = Option ℕ} (Some (suc i)) None = sym (are.each i k at) ∙ sym (same_get map key k t) ∙ none in
        cc gone
    | inr f ↦ f
  ]

  -- what is found of a key
  pub found_by : (map : tree_map.BTreeMap K ℕ) (keys : List K) (key : K) (found : Option ℕ) → AreNumbered cmp map keys
      → found ≡ tree_map.get cmp map key → IsFoundIn cmp keys key found
  found_by map keys key None are is = absent map keys key are (sym is)
  found_by map keys key (Some number) are is = are.found key number (sym is)

  -- a key more
  pub numbered_more : (old new : tree_map.BTreeMap K ℕ) (keys next : List K) (key : K) (number : ℕ)
      → AreNumbered cmp old keys → tree_map.get cmp old key ≡ None → next ≡ keys ++ key ∷ [] → number
      ≡ suc (length keys)
      → ((q : K) → tree_map.get cmp new q ≡ cond (is_eq (cmp key q)) (Some number) (tree_map.get cmp old q)) → AreNumbered cmp new next
  numbered_more old new keys next key number are none is_next is_number updated = record {
    each = λ i k at. elim (push_at keys key i k (sym (ap (λ l. slice_get l i) is_next) ∙ at)) [
      | inl before ↦ updated k ∙ ap (λ b. cond b (Some number) (tree_map.get cmp old k)) (absent old keys key are none i k before) ∙ are.each i k before
      | inr here ↦
          let same : is_eq (cmp key k) ≡ true = ap (λ x. is_eq (cmp key x)) (sym here.1) ∙ itself key in
          updated k ∙ ap (λ b. cond b (Some number) (tree_map.get cmp old k)) same ∙ ap Some (is_number ∙ ap suc (sym here.0))
    ];
    found = λ q n at. elim (cases_Bool (is_eq (cmp key q))) [
      | inl t ↦
          let same : Some number ≡ Some n = sym (ap (λ b. cond b (Some number) (tree_map.get cmp old q)) t) ∙ sym (updated q) ∙ at in
          let is : number ≡ n = cc same in
          (length keys, key, sym is ∙ is_number, ap (λ l. slice_get l (length keys)) is_next ∙ at_last keys key, back key q t)
      | inr f ↦
          let before : tree_map.get cmp old q ≡ Some n = sym (ap (λ b. cond b (Some number) (tree_map.get cmp old q)) f) ∙ sym (updated q) ∙ at in
          let w = are.found q n before in
          (w.0, w.1, w.2, ap (λ l. slice_get l w.0) is_next ∙ at_first keys (key ∷ []) w.0 w.1 w.3, w.4)
    ];
  }

  -- what a key gets that was not there
  pub numbered_now : (old : tree_map.BTreeMap K ℕ) (keys next : List K) (key : K) (number : ℕ)
      → AreNumbered cmp old keys → tree_map.get cmp old key ≡ None → next ≡ keys ++ key ∷ [] → number
      ≡ suc (length keys)
      → IsNumbered cmp keys key number next
  numbered_now old keys next key number are none is_next is_number = record {
    there = (length keys, key, is_number, ap (λ l. slice_get l (length keys)) is_next ∙ at_last keys key, itself key);
    kept = inr (is_next, absent old keys key are none);
  }

-- ---- how texts, keys of files and keys of locations compare

-- keys of texts
abbrev pub text_cmp : TextKey → TextKey → Ordering
text_cmp a b = ordering_then (nat_cmp a.mark b.mark) (slice_cmp nat_cmp a.text.now b.text.now)

text_exact : (a b : TextKey) → is_eq (text_cmp a b) ≡ true → a.text.now ≡ b.text.now
text_exact a b e =
    exact_bytes a.text.now b.text.now
    ((Equal-is _).0 (and_parts _ _ (tied_then (nat_cmp a.mark b.mark) (slice_cmp nat_cmp a.text.now b.text.now) ∙ e)).1)

text_same : (a b : TextKey) → a.text.now ≡ b.text.now → is_eq (text_cmp a b) ≡ true
text_same a b e =
    let marks : b.mark ≡ a.mark = b.marked ∙ ap mark_of (sym e) ∙ sym a.marked in
    rw (marks, ← e, tied_itself nat_cmp_total a.mark, tied_itself nat_list_cmp_total a.text.now)

pub text_told : (old : List TextKey) (key : TextKey) (n : ℕ) (new : List TextKey) → IsNumbered text_cmp old key n new
    → IsNumberedIn [] (map (λ (t : TextKey). t.text.now) old) key.text.now n (map (λ (t : TextKey). t.text.now) new)
text_told old key n new h = told_by text_cmp (λ (t : TextKey). t.text.now) text_exact text_same [] old key n new h

-- a text that is found, or is none of them
found_among : (keys : List TextKey) (key : TextKey) (found : Option ℕ) → IsFoundIn text_cmp keys key found → MatchOption found
    ((n : ℕ) → IsNumber (length (map (λ (t : TextKey). t.text.now) keys)) n
    → numbered_or (map (λ (t : TextKey). t.text.now) keys) [] n ≡ key.text.now → ⊥)
    (λ number. IsNumber (length (map (λ (t : TextKey). t.text.now) keys)) number
    × (numbered_or (map (λ (t : TextKey). t.text.now) keys) [] number ≡ key.text.now))
found_among keys key (Some number) there =
    let told = text_told keys key number keys (record { there = there; kept = inl refl }) in (told.is_number, told.is)
found_among keys key None none = other
  where
    other : (n : ℕ) → IsNumber (length (map (λ (t : TextKey). t.text.now) keys)) n
        → numbered_or (map (λ (t : TextKey). t.text.now) keys) [] n ≡ key.text.now → ⊥
    other zero number e = omega (arith, number.some)
    other (suc i) number e =
        let within : i < length keys = omega (arith, number.within, length-map keys (λ (t : TextKey). t.text.now)) in
        let alike : key.text.now ≡ (get_or keys i key).text.now = sym e ∙ get_or-map (λ (t : TextKey). t.text.now) keys i key [] within in
        cc (text_same key (get_or keys i key) alike, none i (get_or keys i key) (slice_get-get_or keys i key within))

pub text_found : (k : KeptRecord) (keys : List TextKey) (key : TextKey) (text : List ℕ) (found : Option ℕ)
    → k.texts ≡ map (λ (t : TextKey). t.text.now) keys → key.text.now ≡ text → IsFoundIn text_cmp keys key found
    → MatchOption found ((n : ℕ) → IsNumber (length k.texts) n → text_at k n ≡ text → ⊥) (λ number. IsText k number text)
text_found k keys key text (Some number) same is h =
    let told = found_among keys key (Some number) h in
    record {
      is_number = subst (λ l. IsNumber (length l) number) (sym same) told.0;
      is = ap (λ l. numbered_or l [] number) same ∙ told.1 ∙ is;
    }
text_found k keys key text None same is h = λ n number e.
    found_among keys key None h n (subst (λ l. IsNumber (length l) n) same number) (sym (ap (λ l. numbered_or l [] n) same) ∙ e ∙ sym is)

-- keys of files
abbrev pub file_cmp : FileKey → FileKey → Ordering
file_cmp a b = ordering_then (nat_cmp a.base b.base) (ordering_then (nat_cmp a.directory b.directory) (nat_cmp a.name b.name))

file_exact : (a b : FileKey) → is_eq (file_cmp a b) ≡ true → a ≡ b
file_exact a b e =
    let both = exact_pairs nat_cmp (λ (x y : ℕ × ℕ). ordering_then (nat_cmp x.0 y.0) (nat_cmp x.1 y.1)) exact_unsigned
    (exact_pairs nat_cmp nat_cmp exact_unsigned exact_unsigned) (a.base, (a.directory, a.name))
    (b.base, (b.directory, b.name)) ((Equal-is (file_cmp a b)).0 e) in
    λ i. record { base = (both i).0; directory = (both i).1.0; name = (both i).1.1 }

file_same : (a b : FileKey) → a ≡ b → is_eq (file_cmp a b) ≡ true
file_same a b e = subst (λ (c : FileKey). is_eq (file_cmp a c) ≡ true) e (simp (tied_itself nat_cmp_total))

pub file_told : (old : List FileKey) (key : FileKey) (n : ℕ) (new : List FileKey) → IsNumbered file_cmp old key n new
    → IsNumberedIn (record { base = 0; directory = 0; name = 0 }) old key n new
file_told old key n new h =
    simp map-id at (told_by file_cmp (λ (f : FileKey). f) file_exact file_same (record { base = 0; directory = 0; name = 0 }) old key n new h)

-- keys of scopes
abbrev pub scope_cmp : ScopeKey → ScopeKey → Ordering
scope_cmp a b = ordering_then (nat_cmp a.caller b.caller) (ordering_then (nat_cmp a.name b.name) (nat_cmp a.file b.file))

scope_exact : (a b : ScopeKey) → is_eq (scope_cmp a b) ≡ true → a ≡ b
scope_exact a b e =
    let both = exact_pairs nat_cmp (λ (x y : ℕ × ℕ). ordering_then (nat_cmp x.0 y.0) (nat_cmp x.1 y.1)) exact_unsigned
    (exact_pairs nat_cmp nat_cmp exact_unsigned exact_unsigned) (a.caller, (a.name, a.file))
    (b.caller, (b.name, b.file)) ((Equal-is (scope_cmp a b)).0 e) in
    λ i. record { caller = (both i).0; name = (both i).1.0; file = (both i).1.1 }

scope_same : (a b : ScopeKey) → a ≡ b → is_eq (scope_cmp a b) ≡ true
scope_same a b e = subst (λ (c : ScopeKey). is_eq (scope_cmp a c) ≡ true) e (simp (tied_itself nat_cmp_total))

pub scope_told : (old : List ScopeKey) (key : ScopeKey) (n : ℕ) (new : List ScopeKey) → IsNumbered scope_cmp old key n new
    → IsNumberedIn (record { caller = 0; name = 0; file = 0 }) old key n new
scope_told old key n new h =
    simp map-id at (told_by scope_cmp (λ (s : ScopeKey). s) scope_exact scope_same (record { caller = 0; name = 0; file = 0 }) old key n new h)

-- keys of locations
abbrev pub location_cmp : LocationKey → LocationKey → Ordering
location_cmp a b = ordering_then (nat_cmp a.scope b.scope) (ordering_then (nat_cmp a.line b.line) (nat_cmp a.column b.column))

location_exact : (a b : LocationKey) → is_eq (location_cmp a b) ≡ true → a ≡ b
location_exact a b e =
    let both = exact_pairs nat_cmp (λ (x y : ℕ × ℕ). ordering_then (nat_cmp x.0 y.0) (nat_cmp x.1 y.1)) exact_unsigned
    (exact_pairs nat_cmp nat_cmp exact_unsigned exact_unsigned) (a.scope, (a.line, a.column))
    (b.scope, (b.line, b.column)) ((Equal-is (location_cmp a b)).0 e) in
    λ i. record { scope = (both i).0; line = (both i).1.0; column = (both i).1.1 }

location_same : (a b : LocationKey) → a ≡ b → is_eq (location_cmp a b) ≡ true
location_same a b e = subst (λ (c : LocationKey). is_eq (location_cmp a c) ≡ true) e (simp (tied_itself nat_cmp_total))

pub location_told : (old : List LocationKey) (key : LocationKey) (n : ℕ) (new : List LocationKey) → IsNumbered location_cmp old key n new
    → IsNumberedIn (record { scope = 0; line = 0; column = 0 }) old key n new
location_told old key n new h =
    simp map-id at (told_by location_cmp (λ (l : LocationKey). l) location_exact location_same
    (record { scope = 0; line = 0; column = 0 }) old key n new h)

-- ---- by what a call gave

pub either_way : {T E : Type 0} (r : Result T E) (P : T → Type 0) (Q R : Type 0) → IfOk r P → OnErr r Q → ((x : T) → P x → R) → (Q → R) → R
either_way (Ok x) P Q R h e f g = f x h
either_way (Err x) P Q R h e f g = g e
