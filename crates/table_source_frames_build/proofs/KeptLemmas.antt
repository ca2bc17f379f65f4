-- What is kept of frames: each thing once, told by number.
use Rattle.std.proofs.Common.{◌≡◌, ℕ, zero, suc, ◌<◌, ◌≤◌, true, false, List, [], ◌∷◌, ◌++◌, map, length, slice_get, get_or, Option, Some, refl, sym, ap}
use Rattle.std.proofs.Common.{◌∙◌, inl, inr, arith, ◌⊎◌, subst, is_eq, Ordering, option_map}
use Rattle.std.proofs.lemmas.Bool.{cases_eq}
use Rattle.std.proofs.lemmas.List.{append-nil, get_or-map, get_or_append_left, get_or_push, length-append, length-map, length_push, map-append}
use Rattle.std.proofs.lemmas.Option.{get_or_from_slice_get, slice_get-get_or, slice_get-map, slice_get_within}
use Rattle.dwarf_lines.specs.Paths.{PathRecord}
use Rattle.dwarf_source_frames.specs.Frames.{FrameRecord}
use Rattle.table_source_frames_build.specs.Kept.{KeptRecord, numbered_or, at_number, text_at, file_key_at, path_of_key}
use Rattle.table_source_frames_build.specs.Kept.{file_at, scope_key_at, location_key_at, caller_in, frame_in}
use Rattle.table_source_frames_build.specs.Kept.{frame_of_key, scope_numbers_within, scope_numbers_of, chain_within, chain_at}
use Rattle.table_source_frames_build.specs.Kept.{IsFileKey, IsScopeKey, IsLocationKey, IsKept, IsNumberedIn, IsScope}
use Rattle.table_source_frames_build.specs.Kept.{GoesOn, Grows, IsName, IsKeyOf, IsFile, IsLocation}
use Rattle.table_source_frames_build.specs.Numbering.{IsNumber}
use Rattle.table_source_frames_build.specs.Numbers.{IsNumbered}
use Rattle.table_source_frames_build.specs.declared.keys.FileKey.{FileKey}
use Rattle.table_source_frames_build.specs.declared.keys.LocationKey.{LocationKey}
use Rattle.table_source_frames_build.specs.declared.keys.ScopeKey.{ScopeKey}

-- ---- elements by their numbers

pub or_first : {A : Type 0} (xs ys : List A) (d : A) (n : ℕ) → n ≤ length xs → numbered_or (xs ++ ys) d n ≡ numbered_or xs d n
or_first xs ys d zero h = refl
or_first xs ys d (suc i) h = get_or_append_left xs ys d i (omega arith)

or_last : {A : Type 0} (xs : List A) (x d : A) (n : ℕ) → n ≡ suc (length xs) → numbered_or (xs ++ x ∷ []) d n ≡ x
or_last xs x d zero e = absurd (omega (arith, e))
or_last xs x d (suc i) e = get_or_push xs x d i (omega (arith, e))

longer : {A : Type 0} (xs : List A) (x : A) → length (xs ++ x ∷ []) ≡ suc (length xs)
longer xs x = omega (arith, length_push xs x)

-- a key that has its number has it among what keys tell of
module _ {K A : Type 0} (cmp : K → K → Ordering) (f : K → A) (exact : (a b : K) → is_eq (cmp a b) ≡ true → f a ≡ f b)
    (same : (a b : K) → f a ≡ f b → is_eq (cmp a b) ≡ true) where
  pub told_by : (d : A) (old : List K) (key : K) (n : ℕ) (new : List K) → IsNumbered cmp old key n new → IsNumberedIn d (map f old) (f key) n (map f new)
  told_by d old key n new h =
      let there = h.there in
      let at : slice_get (map f new) there.0 ≡ Some (f there.1) = slice_get-map f new there.0 ∙ ap (option_map f) there.3 in
      record {
        is_number = record { some = omega (arith, there.2); within = omega (arith, there.2, slice_get_within (map f new) there.0 (f there.1) at) };
        is = ap (numbered_or (map f new) d) there.2 ∙ get_or_from_slice_get (map f new) there.0 (f there.1) d at ∙ sym (exact key there.1 there.4);
        kept = elim h.kept [
          | inl e ↦ inl (ap (map f) e)
          | inr e ↦ inr (ap (map f) e.0 ∙ map-append f old (key ∷ []), other e.1)
        ];
      }
    where
      other : ((i : ℕ) (k : K) → slice_get old i ≡ Some k → is_eq (cmp key k) ≡ false) → (m : ℕ)
          → IsNumber (length (map f old)) m → numbered_or (map f old) d m ≡ f key → ⊥
      other none zero is e = omega (arith, is.some)
      other none (suc i) is e =
          let within : i < length old = omega (arith, is.within, length-map old f) in
          let alike : f key ≡ f (get_or old i key) = sym e ∙ get_or-map f old i key d within in
          cc (same key (get_or old i key) alike, none i (get_or old i key) (slice_get-get_or old i key within))

-- ---- one thing more

last_or_first : {A : Type 0} (xs : List A) (x : A) (n : ℕ) → IsNumber (length (xs ++ x ∷ [])) n → IsNumber (length xs) n ⊎ (n ≡ suc (length xs))
last_or_first xs x n h = elim (cases_eq n (suc (length xs))) [
  | inl e ↦ inr e
  | inr e ↦ inl (record { some = h.some; within = omega (arith, h.within, longer xs x, e) })
]

-- each once
pub once_more : {A : Type 0} (d : A) (old : List A) (x : A) (n : ℕ) (new : List A) → IsNumberedIn d old x n new
    → ((a b : ℕ) → IsNumber (length old) a → IsNumber (length old) b → numbered_or old d a ≡ numbered_or old d b → a ≡ b)
    → (a b : ℕ) → IsNumber (length new) a → IsNumber (length new) b → numbered_or new d a ≡ numbered_or new d b → a ≡ b
once_more d old x n new h once = elim h.kept [
  | inl e ↦ subst (λ l. (a b : ℕ) → IsNumber (length l) a → IsNumber (length l) b → numbered_or l d a ≡ numbered_or l d b → a ≡ b) (sym e) once
  | inr e ↦ subst (λ l. (a b : ℕ) → IsNumber (length l) a → IsNumber (length l) b → numbered_or l d a ≡ numbered_or l d b → a ≡ b) (sym e.0) (more e.1)
]
  where
    more : ((m : ℕ) → IsNumber (length old) m → numbered_or old d m ≡ x → ⊥)
        → (a b : ℕ) → IsNumber (length (old ++ x ∷ [])) a → IsNumber (length (old ++ x ∷ [])) b
        → numbered_or (old ++ x ∷ []) d a ≡ numbered_or (old ++ x ∷ []) d b → a ≡ b
    more none a b one two e = elim (last_or_first old x a one) [
      | inl before_a ↦ elim (last_or_first old x b two) [
        | inl before_b ↦ once a b before_a before_b (sym (or_first old (x ∷ []) d a before_a.within) ∙ e ∙ or_first old (x ∷ []) d b before_b.within)
        | inr last_b ↦ absurd (none a before_a (sym (or_first old (x ∷ []) d a before_a.within) ∙ e ∙ or_last old x d b last_b))
      ]
      | inr last_a ↦ elim (last_or_first old x b two) [
        | inl before_b ↦ absurd (none b before_b (sym (or_first old (x ∷ []) d b before_b.within) ∙ sym e ∙ or_last old x d a last_a))
        | inr last_b ↦ last_a ∙ sym last_b
      ]
    ]

-- what holds of each
pub each_more : {A : Type 0} (d : A) (old : List A) (x : A) (n : ℕ) (new : List A) (P : ℕ → A → Type 0) → IsNumberedIn d old x n new → P (suc (length old)) x
    → ((m : ℕ) → IsNumber (length old) m → P m (numbered_or old d m)) → (m : ℕ) → IsNumber (length new) m → P m (numbered_or new d m)
each_more d old x n new P h this each = elim h.kept [
  | inl e ↦ subst (λ l. (m : ℕ) → IsNumber (length l) m → P m (numbered_or l d m)) (sym e) each
  | inr e ↦ subst (λ l. (m : ℕ) → IsNumber (length l) m → P m (numbered_or l d m)) (sym e.0) more
]
  where
    more : (m : ℕ) → IsNumber (length (old ++ x ∷ [])) m → P m (numbered_or (old ++ x ∷ []) d m)
    more m is = elim (last_or_first old x m is) [
      | inl before ↦ subst (P m) (sym (or_first old (x ∷ []) d m before.within)) (each m before)
      | inr last ↦ subst (λ p. P p (numbered_or (old ++ x ∷ []) d m)) (sym last) (subst (P (suc (length old))) (sym (or_last old x d m last)) this)
    ]

pub goes_on : {A : Type 0} (d : A) (old : List A) (x : A) (n : ℕ) (new : List A) → IsNumberedIn d old x n new → GoesOn old new
goes_on d old x n new h = elim h.kept [
  | inl e ↦ record { more = []; is = e ∙ sym (append-nil old) }
  | inr e ↦ record { more = x ∷ []; is = e.0 }
]

pub stays : {A : Type 0} (old new : List A) → new ≡ old → GoesOn old new
stays old new e = record { more = []; is = e ∙ sym (append-nil old) }

-- ---- the whole grows

pub longer_on : {A : Type 0} (old new : List A) → GoesOn old new → length old ≤ length new
longer_on old new h = omega (arith, ap length h.is, length-append old h.more)

or_on : {A : Type 0} (old new : List A) (d : A) (n : ℕ) → GoesOn old new → n ≤ length old → numbered_or new d n ≡ numbered_or old d n
or_on old new d n h within = ap (λ l. numbered_or l d n) h.is ∙ or_first old h.more d n within

number_on : {A : Type 0} (old new : List A) (n : ℕ) → GoesOn old new → IsNumber (length old) n → IsNumber (length new) n
number_on old new n h is = record { some = is.some; within = omega (arith, is.within, longer_on old new h) }

at_same : {A : Type 0} (f g : ℕ → A) (n : ℕ) → (0 < n → f n ≡ g n) → at_number f n ≡ at_number g n
at_same f g zero h = refl
at_same f g (suc i) h = ap Some (h (omega arith))

module _ (old new : KeptRecord) (h : Grows old new) where
  pub text_same : (n : ℕ) → n ≤ length old.texts → text_at new n ≡ text_at old n
  text_same n within = or_on old.texts new.texts [] n h.texts within

  pub file_key_on : (key : FileKey) → IsFileKey old key → IsFileKey new key
  file_key_on key is = record {
    base = number_on old.texts new.texts key.base h.texts is.base;
    directory = number_on old.texts new.texts key.directory h.texts is.directory;
    name = number_on old.texts new.texts key.name h.texts is.name;
  }

  pub scope_key_on : (key : ScopeKey) → IsScopeKey old key → IsScopeKey new key
  scope_key_on key is = record {
    name = omega (arith, is.name, longer_on old.texts new.texts h.texts);
    file = omega (arith, is.file, longer_on old.files new.files h.files);
    caller = omega (arith, is.caller, longer_on old.locations new.locations h.locations);
  }

  pub scope_same : (n : ℕ) → n ≤ length old.scopes → scope_key_at new n ≡ scope_key_at old n
  scope_same n within = or_on old.scopes new.scopes (record { caller = 0; name = 0; file = 0 }) n h.scopes within

  pub caller_same : (key : LocationKey) → key.scope ≤ length old.scopes → caller_in new key ≡ caller_in old key
  caller_same key within = ap (λ (s : ScopeKey). s.caller) (scope_same key.scope within)

  pub location_key_on : (n : ℕ) (key : LocationKey) → IsLocationKey old n key → IsLocationKey new n key
  location_key_on n key is = record {
    scope = number_on old.scopes new.scopes key.scope h.scopes is.scope;
    caller = omega (arith, is.caller, caller_same key is.scope.within);
  }

  pub path_same : (key : FileKey) → IsFileKey old key → path_of_key new key ≡ path_of_key old key
  path_same key is = λ i. record {
    base = text_same key.base is.base.within i;
    directory = text_same key.directory is.directory.within i;
    name = text_same key.name is.name.within i;
  }

  module _ (kept : IsKept old) where
    pub file_same : (n : ℕ) → IsNumber (length old.files) n → file_at new n ≡ file_at old n
    file_same n is =
        ap (path_of_key new) (or_on old.files new.files (record { base = 0; directory = 0; name = 0 }) n h.files is.within)
        ∙ path_same (file_key_at old n) (kept.each_file n is)

    pub frame_in_same : (scope : ScopeKey) (line column : ℕ) → IsScopeKey old scope → frame_in new scope line column ≡ frame_in old scope line column
    frame_in_same scope line column is = λ i. record {
      name = at_same (text_at new) (text_at old) scope.name (λ some. text_same scope.name is.name) i;
      path = at_same (file_at new) (file_at old) scope.file (λ some. file_same scope.file (record { some = some; within = is.file })) i;
      line = line;
      column = column;
    }

    pub frame_same : (n : ℕ) (key : LocationKey) → IsLocationKey old n key → frame_of_key new key ≡ frame_of_key old key
    frame_same n key is =
        ap (λ (s : ScopeKey). frame_in new s key.line key.column) (scope_same key.scope is.scope.within)
        ∙ frame_in_same (scope_key_at old key.scope) key.line key.column (kept.each_scope key.scope is.scope)

    pub key_same : (n : ℕ) → n ≤ length old.locations → location_key_at new n ≡ location_key_at old n
    key_same n within = or_on old.locations new.locations (record { scope = 0; line = 0; column = 0 }) n h.locations within

    chain_within_same : (room n : ℕ) → n ≤ length old.locations → chain_within new room n ≡ chain_within old room n
    unfolding chain_within
    chain_within_same zero n within = refl
    chain_within_same (suc room) zero within = refl
    chain_within_same (suc room) (suc i) within =
        let key : LocationKey = location_key_at old (suc i) in
        let is : IsLocationKey old (suc i) key = kept.each_location (suc i) (record { some = omega arith; within = within }) in
        ap (λ (q : LocationKey). frame_of_key new q ∷ chain_within new room (caller_in new q)) (key_same (suc i) within)
        ∙ (λ j. frame_same (suc i) key is j ∷ chain_within new room (caller_same key is.scope.within j))
        ∙ ap (λ fs. frame_of_key old key ∷ fs) (chain_within_same room (caller_in old key) (omega (arith, is.caller, within)))

    pub chain_same : (n : ℕ) → n ≤ length old.locations → chain_at new n ≡ chain_at old n
    unfolding chain_at
    chain_same n within = chain_within_same n n within

-- ---- frames of numbers

at_some : {A : Type 0} (f : ℕ → A) (n : ℕ) → 0 < n → at_number f n ≡ Some (f n)
at_some f zero h = absurd (omega arith)
at_some f (suc i) h = refl

module _ (k : KeptRecord) (kept : IsKept k) where
  caller_below : (i : ℕ) → suc i ≤ length k.locations → caller_in k (location_key_at k (suc i)) ≤ i
  caller_below i within = omega (arith, (kept.each_location (suc i) (record { some = omega arith; within = within })).caller)

  rooms : (one two n : ℕ) → n ≤ one → n ≤ two → n ≤ length k.locations
      → (chain_within k one n ≡ chain_within k two n) × (scope_numbers_within k one n ≡ scope_numbers_within k two n)
  unfolding chain_within scope_numbers_within
  rooms zero zero zero a b within = (refl, refl)
  rooms zero (suc two) zero a b within = (refl, refl)
  rooms (suc one) zero zero a b within = (refl, refl)
  rooms (suc one) (suc two) zero a b within = (refl, refl)
  rooms zero two (suc i) a b within = absurd (omega arith)
  rooms (suc one) zero (suc i) a b within = absurd (omega arith)
  rooms (suc one) (suc two) (suc i) a b within =
      let key : LocationKey = location_key_at k (suc i) in
      let less : caller_in k key ≤ i = caller_below i within in
      let rest = rooms one two (caller_in k key) (omega (arith, less, a)) (omega (arith, less, b)) (omega (arith, less, within)) in
      (ap (λ fs. frame_of_key k key ∷ fs) rest.0, ap (λ ns. key.scope ∷ ns) rest.1)

  -- a location has its frame, and then those of the one that it is inlined into
  pub chain_step : (i : ℕ) → suc i ≤ length k.locations → chain_at k (suc i)
      ≡ frame_of_key k (location_key_at k (suc i)) ∷ chain_at k (caller_in k (location_key_at k (suc i)))
  unfolding chain_at chain_within
  chain_step i within =
      let key : LocationKey = location_key_at k (suc i) in
      let less : caller_in k key ≤ i = caller_below i within in
      ap (λ fs. frame_of_key k key ∷ fs) (rooms i (caller_in k key) (caller_in k key) less (omega arith) (omega (arith, less, within))).0

  pub scopes_step : (i : ℕ) → suc i ≤ length k.locations → scope_numbers_of k (suc i)
      ≡ (location_key_at k (suc i)).scope ∷ scope_numbers_of k (caller_in k (location_key_at k (suc i)))
  unfolding scope_numbers_of scope_numbers_within
  scopes_step i within =
      let key : LocationKey = location_key_at k (suc i) in
      let less : caller_in k key ≤ i = caller_below i within in
      ap (λ ns. key.scope ∷ ns) (rooms i (caller_in k key) (caller_in k key) less (omega arith) (omega (arith, less, within))).1

pub chain_none : (k : KeptRecord) → chain_at k 0 ≡ []
unfolding chain_at chain_within
chain_none k = refl

pub scopes_none : (k : KeptRecord) → scope_numbers_of k 0 ≡ []
unfolding scope_numbers_of scope_numbers_within
scopes_none k = refl

-- ---- a text, a file, a scope, a location more

pub grows_none : (k : KeptRecord) → Grows k k
grows_none k = record {
  texts = stays k.texts k.texts refl;
  files = stays k.files k.files refl;
  scopes = stays k.scopes k.scopes refl;
  locations = stays k.locations k.locations refl;
}

module _ (k : KeptRecord) (kept : IsKept k) where
  pub text_kept : (new : List (List ℕ)) (x : List ℕ) (n : ℕ) → IsNumberedIn [] k.texts x n new → IsKept (record k { texts = new })
  text_kept new x n h =
      let grows : Grows k (record k { texts = new }) = record {
        texts = goes_on [] k.texts x n new h;
        files = stays k.files k.files refl;
        scopes = stays k.scopes k.scopes refl;
        locations = stays k.locations k.locations refl;
      } in
      record {
        texts = once_more [] k.texts x n new h kept.texts;
        files = kept.files;
        scopes = kept.scopes;
        locations = kept.locations;
        each_file = λ m is. file_key_on k (record k { texts = new }) grows (file_key_at k m) (kept.each_file m is);
        each_scope = λ m is. scope_key_on k (record k { texts = new }) grows (scope_key_at k m) (kept.each_scope m is);
        each_location = λ m is. location_key_on k (record k { texts = new }) grows m (location_key_at k m) (kept.each_location m is);
      }

  pub file_kept : (new : List FileKey) (key : FileKey) (n : ℕ)
      → IsNumberedIn (record { base = 0; directory = 0; name = 0 }) k.files key n new → IsFileKey k key
      → IsKept (record k { files = new })
  file_kept new key n h is_key =
      let other : FileKey = record { base = 0; directory = 0; name = 0 } in
      let grows : Grows k (record k { files = new }) = record {
        texts = stays k.texts k.texts refl;
        files = goes_on other k.files key n new h;
        scopes = stays k.scopes k.scopes refl;
        locations = stays k.locations k.locations refl;
      } in
      record {
        texts = kept.texts;
        files = once_more other k.files key n new h kept.files;
        scopes = kept.scopes;
        locations = kept.locations;
        each_file = each_more other k.files key n new (λ m f. IsFileKey (record k { files = new }) f) h
            (file_key_on k (record k { files = new }) grows key is_key)
            (λ m is. file_key_on k (record k { files = new }) grows (file_key_at k m) (kept.each_file m is));
        each_scope = λ m is. scope_key_on k (record k { files = new }) grows (scope_key_at k m) (kept.each_scope m is);
        each_location = λ m is. location_key_on k (record k { files = new }) grows m (location_key_at k m) (kept.each_location m is);
      }

  pub scope_grows : (new : List ScopeKey) (key : ScopeKey) (n : ℕ)
      → IsNumberedIn (record { caller = 0; name = 0; file = 0 }) k.scopes key n new → Grows k (record k { scopes = new })
  scope_grows new key n h =
      record {
        texts = stays k.texts k.texts refl;
        files = stays k.files k.files refl;
        scopes = goes_on (record { caller = 0; name = 0; file = 0 }) k.scopes key n new h;
        locations = stays k.locations k.locations refl;
      }

  pub scope_kept : (new : List ScopeKey) (key : ScopeKey) (n : ℕ)
      → IsNumberedIn (record { caller = 0; name = 0; file = 0 }) k.scopes key n new → IsScopeKey k key
      → IsKept (record k { scopes = new })
  scope_kept new key n h is_key =
      let other : ScopeKey = record { caller = 0; name = 0; file = 0 } in
      let grows : Grows k (record k { scopes = new }) = scope_grows new key n h in
      record {
        texts = kept.texts;
        files = kept.files;
        scopes = once_more other k.scopes key n new h kept.scopes;
        locations = kept.locations;
        each_file = λ m is. file_key_on k (record k { scopes = new }) grows (file_key_at k m) (kept.each_file m is);
        each_scope = each_more other k.scopes key n new (λ m s. IsScopeKey (record k { scopes = new }) s) h
            (scope_key_on k (record k { scopes = new }) grows key is_key)
            (λ m is. scope_key_on k (record k { scopes = new }) grows (scope_key_at k m) (kept.each_scope m is));
        each_location = λ m is. location_key_on k (record k { scopes = new }) grows m (location_key_at k m) (kept.each_location m is);
      }

  pub location_kept : (new : List LocationKey) (key : LocationKey) (n : ℕ)
      → IsNumberedIn (record { scope = 0; line = 0; column = 0 }) k.locations key n new
      → IsLocationKey k (suc (length k.locations)) key → IsKept (record k { locations = new })
  location_kept new key n h is_key =
      let other : LocationKey = record { scope = 0; line = 0; column = 0 } in
      let grows : Grows k (record k { locations = new }) = record {
        texts = stays k.texts k.texts refl;
        files = stays k.files k.files refl;
        scopes = stays k.scopes k.scopes refl;
        locations = goes_on other k.locations key n new h;
      } in
      record {
        texts = kept.texts;
        files = kept.files;
        scopes = kept.scopes;
        locations = once_more other k.locations key n new h kept.locations;
        each_file = λ m is. file_key_on k (record k { locations = new }) grows (file_key_at k m) (kept.each_file m is);
        each_scope = λ m is. scope_key_on k (record k { locations = new }) grows (scope_key_at k m) (kept.each_scope m is);
        each_location = each_more other k.locations key n new (λ m l. IsLocationKey (record k { locations = new }) m l)
            h (location_key_on k (record k { locations = new }) grows (suc (length k.locations)) key is_key)
            (λ m is. location_key_on k (record k { locations = new }) grows m (location_key_at k m) (kept.each_location m is));
      }

pub is_file : (k : KeptRecord) (new : List FileKey) (key : FileKey) (n : ℕ) (path : PathRecord)
    → IsNumberedIn (record { base = 0; directory = 0; name = 0 }) k.files key n new → IsKeyOf k key path
    → IsFile (record k { files = new }) n (Some path)
is_file k new key n path h is = record {
  within = h.is_number.within;
  is = at_some (file_at (record k { files = new })) n h.is_number.some ∙ ap (λ f. Some (path_of_key k f)) h.is ∙ ap Some is.is;
}

-- a location more
module _ (k : KeptRecord) (kept : IsKept k) (key : LocationKey) (scope : IsNumber (length k.scopes) key.scope)
    (new : List LocationKey) (n : ℕ) (h : IsNumberedIn (record { scope = 0; line = 0; column = 0 }) k.locations key n new) where
  called : caller_in k key ≤ length k.locations
  called = (kept.each_scope key.scope scope).caller

  pub located_kept : IsKept (record k { locations = new })
  located_kept = location_kept k kept new key n h (record { scope = scope; caller = omega (arith, called) })

  pub located_grows : Grows k (record k { locations = new })
  located_grows = record {
    texts = stays k.texts k.texts refl;
    files = stays k.files k.files refl;
    scopes = stays k.scopes k.scopes refl;
    locations = goes_on (record { scope = 0; line = 0; column = 0 }) k.locations key n new h;
  }

  step_at : (m : ℕ) → n ≡ m → IsNumber (length new) m → chain_at (record k { locations = new }) m ≡ frame_of_key k key ∷ chain_at k (caller_in k key)
  step_at zero e is = absurd (omega (arith, is.some))
  step_at (suc i) e is =
      let here : location_key_at (record k { locations = new }) (suc i)
      ≡ key = ap (numbered_or new (record { scope = 0; line = 0; column = 0 })) (sym e) ∙ h.is
      in
      chain_step (record k { locations = new }) located_kept i is.within
      ∙ ap (λ (q : LocationKey). frame_of_key k q ∷ chain_at (record k { locations = new }) (caller_in k q)) here
      ∙ ap (λ fs. frame_of_key k key ∷ fs) (chain_same k (record k { locations = new }) located_grows kept (caller_in k key) called)

  pub located : IsLocation (record k { locations = new }) n (frame_of_key k key ∷ chain_at k (caller_in k key))
  located = record { within = h.is_number.within; is = step_at n refl h.is_number }

-- a location of a scope that has its number
pub scoped : (old mid new : KeptRecord) → IsKept old → Grows old mid → (key : ScopeKey) → IsScopeKey old key → (scope line column number : ℕ)
    → IsScope mid scope key
    → IsLocation new number (frame_of_key mid (record { scope = scope; line = line; column = column })
    ∷ chain_at mid (caller_in mid (record { scope = scope; line = line; column = column })))
    → IsLocation new number (frame_in old key line column ∷ chain_at old key.caller)
scoped old mid new kept grows key is_key scope line column number is at = record {
  within = at.within;
  is =
      at.is ∙ ap (λ (s : ScopeKey). frame_in mid s line column ∷ chain_at mid s.caller) is.is
      ∙ (λ i. frame_in_same old mid grows kept key line column is_key i ∷ chain_same old mid grows kept key.caller is_key.caller i);
}

-- ---- what numbers told of they still tell of

module _ (old new : KeptRecord) (kept : IsKept old) (grows : Grows old new) where
  pub name_stays : (number : ℕ) (name : Option (List ℕ)) → IsName old number name → IsName new number name
  name_stays number name is = record {
    within = omega (arith, is.within, longer_on old.texts new.texts grows.texts);
    is = at_same (text_at new) (text_at old) number (λ some. text_same old new grows number is.within) ∙ is.is;
  }

  pub path_stays : (number : ℕ) (path : Option PathRecord) → IsFile old number path → IsFile new number path
  path_stays number path is = record {
    within = omega (arith, is.within, longer_on old.files new.files grows.files);
    is = at_same (file_at new) (file_at old) number (λ some. file_same old new grows kept number (record { some = some; within = is.within })) ∙ is.is;
  }

  pub location_stays : (number : ℕ) (frames : List FrameRecord) → IsLocation old number frames → IsLocation new number frames
  location_stays number frames is = record {
    within = omega (arith, is.within, longer_on old.locations new.locations grows.locations);
    is = chain_same old new grows kept number is.within ∙ is.is;
  }
