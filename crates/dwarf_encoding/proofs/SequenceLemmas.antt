-- Steps over items that stand one after another.
use Rattle.std.proofs.Common.{◌≡◌, append_assoc, ℕ, zero, suc, ◌-◌, ◌<◌, ◌≤◌, ◌⊎◌, List, [], ◌∷◌, ◌++◌, length, Option}
use Rattle.std.proofs.Common.{Some, None, refl, ap, sym, ◌∙◌, inl, inr, cond, ◌==◌, arith}
use Rattle.std.specs.Option.{option_map, option_or}
use Rattle.std.proofs.lemmas.Bool.{cases_Bool}
use Rattle.std.proofs.lemmas.List.{append-nil}
use Rattle.dwarf_encoding.specs.Sequences.{counted, ended_within, ended, sequence_within, sequence, placed_within, placed_from, item_at, Shortens}

-- what an option is
pub none_or_some : {A : Type 0} (o : Option A) → (o ≡ None) ⊎ ((x : A) × (o ≡ Some x))
none_or_some None = inl refl
none_or_some (Some x) = inr (x, refl)

-- no item is left to read
pub counted_none : {A : Type 0} (item : List ℕ → Option (A × List ℕ)) (bytes : List ℕ) → counted item 0 bytes ≡ Some ([], bytes)
unfolding counted
counted_none item bytes = refl

-- one item more
pub counted_some : {A : Type 0} (item : List ℕ → Option (A × List ℕ)) (count : ℕ) (bytes : List ℕ) (x : A × List ℕ) → 0 < count → item bytes ≡ Some x
    → counted item count bytes ≡ option_map (λ y. (x.0 ∷ y.0, y.1)) (counted item (count - 1) x.1)
unfolding counted
counted_some item zero bytes x some e = absurd (omega arith)
counted_some item (suc count) bytes x some e =
    let less : count ≡ suc count - 1 = omega arith in
    rw e (ap (λ n. option_map (λ y. (x.0 ∷ y.0, y.1)) (counted item n x.1)) less)

-- one that cannot be read
pub counted_missing : {A : Type 0} (item : List ℕ → Option (A × List ℕ)) (count : ℕ) (bytes : List ℕ) → 0 < count
    → item bytes ≡ None → counted item count bytes ≡ None
unfolding counted
counted_missing item zero bytes some e = absurd (omega arith)
counted_missing item (suc count) bytes some e = rw e refl

-- what is made of an option is made of what it has
pub mapped : {A B : Type 0} (f : A → B) (o : Option A) (y : B) → option_map f o ≡ Some y → (x : A) × (o ≡ Some x) × (f x ≡ y)
mapped f None y e = cc e
mapped f (Some x) y e = (x, refl, cc e)

-- of no items there is no end
within_zero : {A : Type 0} (item : List ℕ → Option (Option A × List ℕ)) (bytes : List ℕ) → ended_within item 0 bytes ≡ None
unfolding ended_within
within_zero item bytes = refl

-- an item of none of at most so many
within_missing : {A : Type 0} (item : List ℕ → Option (Option A × List ℕ)) (count : ℕ) (bytes : List ℕ) → item bytes
    ≡ None → ended_within item count bytes ≡ None
unfolding ended_within
within_missing item zero bytes e = refl
within_missing item (suc count) bytes e = rw e refl

within_some : {A : Type 0} (item : List ℕ → Option (Option A × List ℕ)) (count : ℕ) (bytes : List ℕ) (a : A) (rest : List ℕ) → item bytes ≡ Some (Some a, rest)
    → ended_within item (suc count) bytes ≡ option_map (λ y. (a ∷ y.0, y.1)) (ended_within item count rest)
unfolding ended_within
within_some item count bytes a rest e = rw e refl

within_end : {A : Type 0} (item : List ℕ → Option (Option A × List ℕ)) (count : ℕ) (bytes rest : List ℕ) → item bytes ≡ Some (None, rest)
    → ended_within item (suc count) bytes ≡ Some ([], rest)
unfolding ended_within
within_end item count bytes rest e = rw e refl

-- no item begins no bytes
pub nothing : {A : Type 0} (item : List ℕ → Option (A × List ℕ)) → Shortens item → item [] ≡ None
nothing item h = elim (none_or_some (item [])) [
  | inl e ↦ e
  | inr x ↦ absurd (omega (arith, h.less [] x.0 x.1))
]

-- as many items as there are bytes are enough
same_within : {A : Type 0} (item : List ℕ → Option (Option A × List ℕ)) (h : Shortens item) (m n : ℕ) (bytes : List ℕ)
    → length bytes ≤ m → length bytes ≤ n → ended_within item m bytes ≡ ended_within item n bytes
same_within item h zero n [] k l = within_missing item 0 [] (nothing item h) ∙ sym (within_missing item n [] (nothing item h))
same_within item h zero n (b ∷ bytes) k l = absurd (omega arith)
same_within item h (suc m) zero [] k l = within_missing item (suc m) [] (nothing item h) ∙ sym (within_missing item 0 [] (nothing item h))
same_within item h (suc m) zero (b ∷ bytes) k l = absurd (omega arith)
same_within item h (suc m) (suc n) bytes k l = elim (none_or_some (item bytes)) [
  | inl e ↦ within_missing item (suc m) bytes e ∙ sym (within_missing item (suc n) bytes e)
  | inr x ↦ elim (none_or_some x.0.0) [
    | inl none ↦
        let e : item bytes ≡ Some (None, x.0.1) = x.1 ∙ ap (λ a. Some (a, x.0.1)) none in
        within_end item m bytes x.0.1 e ∙ sym (within_end item n bytes x.0.1 e)
    | inr a ↦
        let e : item bytes ≡ Some (Some a.0, x.0.1) = x.1 ∙ ap (λ a. Some (a, x.0.1)) a.1 in
        let less : length x.0.1 < length bytes = h.less bytes x.0 x.1 in
        within_some item m bytes a.0 x.0.1 e
        ∙ ap (option_map (λ y. (a.0 ∷ y.0, y.1))) (same_within item h m n x.0.1 (omega arith) (omega arith))
        ∙ sym (within_some item n bytes a.0 x.0.1 e)
  ]
]

pub ended_missing : {A : Type 0} (item : List ℕ → Option (Option A × List ℕ)) (bytes : List ℕ) → item bytes ≡ None → ended item bytes ≡ None
unfolding ended
ended_missing item bytes e = within_missing item (length bytes) bytes e

pub ended_end : {A : Type 0} (item : List ℕ → Option (Option A × List ℕ)) (h : Shortens item) (bytes rest : List ℕ)
    → item bytes ≡ Some (None, rest) → ended item bytes ≡ Some ([], rest)
unfolding ended
ended_end item h [] rest e = cc (nothing item h, e)
ended_end item h (b ∷ bytes) rest e = within_end item (length bytes) (b ∷ bytes) rest e

pub ended_some : {A : Type 0} (item : List ℕ → Option (Option A × List ℕ)) (h : Shortens item) (bytes : List ℕ) (a : A)
    (rest : List ℕ) → item bytes ≡ Some (Some a, rest)
    → ended item bytes ≡ option_map (λ y. (a ∷ y.0, y.1)) (ended item rest)
unfolding ended
ended_some item h [] a rest e = cc (nothing item h, e)
ended_some item h (b ∷ bytes) a rest e =
    let less : length rest < suc (length bytes) = h.less (b ∷ bytes) (Some a, rest) e in
    within_some item (length bytes) (b ∷ bytes) a rest e
    ∙ ap (option_map (λ y. (a ∷ y.0, y.1))) (same_within item h (length bytes) (length rest) rest (omega arith) (omega arith))

-- the same of sequences
first_missing : {A : Type 0} (item : List ℕ → Option (A × List ℕ)) (count : ℕ) (bytes : List ℕ) → item bytes ≡ None → sequence_within item count bytes ≡ []
unfolding sequence_within
first_missing item zero bytes e = refl
first_missing item (suc count) bytes e = rw e refl

first_some : {A : Type 0} (item : List ℕ → Option (A × List ℕ)) (count : ℕ) (bytes : List ℕ) (x : A × List ℕ) → item bytes ≡ Some x
    → sequence_within item (suc count) bytes ≡ x.0 ∷ sequence_within item count x.1
unfolding sequence_within
first_some item count bytes x e = rw e refl

same_sequence : {A : Type 0} (item : List ℕ → Option (A × List ℕ)) (h : Shortens item) (m n : ℕ) (bytes : List ℕ)
    → length bytes ≤ m → length bytes ≤ n → sequence_within item m bytes ≡ sequence_within item n bytes
same_sequence item h zero n [] k l = first_missing item 0 [] (nothing item h) ∙ sym (first_missing item n [] (nothing item h))
same_sequence item h zero n (b ∷ bytes) k l = absurd (omega arith)
same_sequence item h (suc m) zero [] k l = first_missing item (suc m) [] (nothing item h) ∙ sym (first_missing item 0 [] (nothing item h))
same_sequence item h (suc m) zero (b ∷ bytes) k l = absurd (omega arith)
same_sequence item h (suc m) (suc n) bytes k l = elim (none_or_some (item bytes)) [
  | inl e ↦ first_missing item (suc m) bytes e ∙ sym (first_missing item (suc n) bytes e)
  | inr x ↦
      let less : length x.0.1 < length bytes = h.less bytes x.0 x.1 in
      first_some item m bytes x.0 x.1
      ∙ ap (λ rest. x.0.0 ∷ rest) (same_sequence item h m n x.0.1 (omega arith) (omega arith))
      ∙ sym (first_some item n bytes x.0 x.1)
]

pub sequence_missing : {A : Type 0} (item : List ℕ → Option (A × List ℕ)) (bytes : List ℕ) → item bytes ≡ None → sequence item bytes ≡ []
unfolding sequence
sequence_missing item bytes e = first_missing item (length bytes) bytes e

pub sequence_some : {A : Type 0} (item : List ℕ → Option (A × List ℕ)) (h : Shortens item) (bytes : List ℕ) (x : A × List ℕ) → item bytes ≡ Some x
    → sequence item bytes ≡ x.0 ∷ sequence item x.1
unfolding sequence
sequence_some item h [] x e = cc (nothing item h, e)
sequence_some item h (b ∷ bytes) x e =
    let less : length x.1 < suc (length bytes) = h.less (b ∷ bytes) x e in
    first_some item (length bytes) (b ∷ bytes) x e
    ∙ ap (λ rest. x.0 ∷ rest) (same_sequence item h (length bytes) (length x.1) x.1 (omega arith) (omega arith))

-- what is read one item after another
gathered : {A : Type 0} (found : List A) (a : A) (o : Option (List A × List ℕ))
    → option_map {U = List A × List ℕ} (λ (y : List A × List ℕ). (found ++ y.0, y.1))
    (option_map {U = List A × List ℕ} (λ (y : List A × List ℕ). (a ∷ y.0, y.1)) o)
    ≡ option_map {U = List A × List ℕ} (λ (y : List A × List ℕ). ((found ++ a ∷ []) ++ y.0, y.1)) o
gathered {A = A} found a None = refl
gathered {A = A} found a (Some y) = ap (λ xs. Some (xs, y.1)) (sym (append_assoc found (a ∷ []) y.0))

-- so many items, where some were found before: one more
pub counted_step : {A : Type 0} (item : List ℕ → Option (A × List ℕ)) (n m : ℕ) (bytes rest : List ℕ)
    (found next : List A) (a : A) (whole : Option (List A × List ℕ)) → suc m ≡ n
    → ◌≡◌ {A = Option (A × List ℕ)} (Some (a, rest)) (item bytes) → next ≡ found ++ a ∷ []
    → option_map {U = List A × List ℕ} (λ (y : List A × List ℕ). (found ++ y.0, y.1)) (counted item n bytes) ≡ whole
    → option_map {U = List A × List ℕ} (λ (y : List A × List ℕ). (next ++ y.0, y.1)) (counted item m rest) ≡ whole
counted_step {A = A} item n m bytes rest found next a whole less read added before =
    let same : n - 1 ≡ m = omega (arith, less) in
    ap (λ xs. option_map {U = List A × List ℕ} (λ (y : List A × List ℕ). (xs ++ y.0, y.1)) (counted item m rest)) added
    ∙ sym (gathered found a (counted item m rest))
    ∙ ap (λ k. option_map {U = List A × List ℕ} (λ (y : List A × List ℕ). (found ++ y.0, y.1))
    (option_map {U = List A × List ℕ} (λ (y : List A × List ℕ). (a ∷ y.0, y.1)) (counted item k rest))) (sym same)
    ∙ ap (option_map {U = List A × List ℕ} (λ (y : List A × List ℕ). (found ++ y.0, y.1)))
    (sym (counted_some item n bytes (a, rest) (omega (arith, less)) (sym read)))
    ∙ before

-- one cannot be read
pub counted_fails : {A : Type 0} (item : List ℕ → Option (A × List ℕ)) (n : ℕ) (bytes : List ℕ) (found : List A)
    (whole : Option (List A × List ℕ)) → 0 < n → item bytes ≡ None
    → option_map {U = List A × List ℕ} (λ (y : List A × List ℕ). (found ++ y.0, y.1)) (counted item n bytes) ≡ whole → None ≡ whole
counted_fails {A = A} item n bytes found whole some read before =
    ap (option_map {U = List A × List ℕ} (λ (y : List A × List ℕ). (found ++ y.0, y.1))) (sym (counted_missing item n bytes some read)) ∙ before

-- all are read
pub counted_done : {A : Type 0} (item : List ℕ → Option (A × List ℕ)) (n : ℕ) (rest : List ℕ) (found : List A) (whole : Option (List A × List ℕ)) → n ≡ 0
    → option_map {U = List A × List ℕ} (λ (y : List A × List ℕ). (found ++ y.0, y.1)) (counted item n rest) ≡ whole → Some (found, rest) ≡ whole
counted_done {A = A} item n rest found whole none before =
    ap (λ xs. Some (xs, rest)) (sym (append-nil found))
    ∙ ap (option_map {U = List A × List ℕ} (λ (y : List A × List ℕ). (found ++ y.0, y.1)))
    (sym (counted_none item rest) ∙ ap (λ k. counted item k rest) (sym none))
    ∙ before

-- the same of items up to one that ends them: one more
pub ended_step : {A : Type 0} (item : List ℕ → Option (Option A × List ℕ)) (h : Shortens item) (bytes rest : List ℕ)
    (found next : List A) (a : A) (whole : Option (List A × List ℕ))
    → ◌≡◌ {A = Option (Option A × List ℕ)} (Some (Some a, rest)) (item bytes) → next ≡ found ++ a ∷ []
    → option_map {U = List A × List ℕ} (λ (y : List A × List ℕ). (found ++ y.0, y.1)) (ended item bytes) ≡ whole
    → option_map {U = List A × List ℕ} (λ (y : List A × List ℕ). (next ++ y.0, y.1)) (ended item rest) ≡ whole
ended_step {A = A} item h bytes rest found next a whole read added before =
    ap (λ xs. option_map {U = List A × List ℕ} (λ (y : List A × List ℕ). (xs ++ y.0, y.1)) (ended item rest)) added
    ∙ sym (gathered found a (ended item rest))
    ∙ ap (option_map {U = List A × List ℕ} (λ (y : List A × List ℕ). (found ++ y.0, y.1))) (sym (ended_some item h bytes a rest (sym read)))
    ∙ before

-- the one that ends them
pub ended_done : {A : Type 0} (item : List ℕ → Option (Option A × List ℕ)) (h : Shortens item) (bytes rest : List ℕ)
    (found : List A) (whole : Option (List A × List ℕ))
    → ◌≡◌ {A = Option (Option A × List ℕ)} (Some (None, rest)) (item bytes)
    → option_map {U = List A × List ℕ} (λ (y : List A × List ℕ). (found ++ y.0, y.1)) (ended item bytes) ≡ whole
    → Some (found, rest) ≡ whole
ended_done {A = A} item h bytes rest found whole read before =
    ap (λ xs. Some (xs, rest)) (sym (append-nil found))
    ∙ ap (option_map {U = List A × List ℕ} (λ (y : List A × List ℕ). (found ++ y.0, y.1))) (sym (ended_end item h bytes rest (sym read)))
    ∙ before

-- one cannot be read
pub ended_fails : {A : Type 0} (item : List ℕ → Option (Option A × List ℕ)) (bytes : List ℕ) (found : List A)
    (whole : Option (List A × List ℕ)) → item bytes ≡ None
    → option_map {U = List A × List ℕ} (λ (y : List A × List ℕ). (found ++ y.0, y.1)) (ended item bytes) ≡ whole → None ≡ whole
ended_fails {A = A} item bytes found whole read before =
    ap (option_map {U = List A × List ℕ} (λ (y : List A × List ℕ). (found ++ y.0, y.1))) (sym (ended_missing item bytes read)) ∙ before

-- items with their offsets
place_missing : {A : Type 0} (item : List ℕ → Option (A × List ℕ)) (count size : ℕ) (bytes : List ℕ) → item bytes ≡ None
    → placed_within item count size bytes ≡ []
unfolding placed_within
place_missing item zero size bytes e = refl
place_missing item (suc count) size bytes e = rw e refl

place_some : {A : Type 0} (item : List ℕ → Option (A × List ℕ)) (count size : ℕ) (bytes : List ℕ) (x : A × List ℕ) → item bytes ≡ Some x
    → placed_within item (suc count) size bytes ≡ (size - length bytes, x.0) ∷ placed_within item count size x.1
unfolding placed_within
place_some item count size bytes x e = rw e refl

same_places : {A : Type 0} (item : List ℕ → Option (A × List ℕ)) (h : Shortens item) (m n size : ℕ) (bytes : List ℕ)
    → length bytes ≤ m → length bytes ≤ n → placed_within item m size bytes ≡ placed_within item n size bytes
same_places item h zero n size [] k l = place_missing item 0 size [] (nothing item h) ∙ sym (place_missing item n size [] (nothing item h))
same_places item h zero n size (b ∷ bytes) k l = absurd (omega arith)
same_places item h (suc m) zero size [] k l = place_missing item (suc m) size [] (nothing item h) ∙ sym (place_missing item 0 size [] (nothing item h))
same_places item h (suc m) zero size (b ∷ bytes) k l = absurd (omega arith)
same_places item h (suc m) (suc n) size bytes k l = elim (none_or_some (item bytes)) [
  | inl e ↦ place_missing item (suc m) size bytes e ∙ sym (place_missing item (suc n) size bytes e)
  | inr x ↦
      let less : length x.0.1 < length bytes = h.less bytes x.0 x.1 in
      place_some item m size bytes x.0 x.1
      ∙ ap (λ rest. (size - length bytes, x.0.0) ∷ rest) (same_places item h m n size x.0.1 (omega arith) (omega arith))
      ∙ sym (place_some item n size bytes x.0 x.1)
]

pub placed_missing : {A : Type 0} (item : List ℕ → Option (A × List ℕ)) (size : ℕ) (bytes : List ℕ) → item bytes ≡ None → placed_from item size bytes ≡ []
unfolding placed_from
placed_missing item size bytes e = place_missing item (length bytes) size bytes e

pub placed_some : {A : Type 0} (item : List ℕ → Option (A × List ℕ)) (h : Shortens item) (size : ℕ) (bytes : List ℕ) (x : A × List ℕ) → item bytes ≡ Some x
    → placed_from item size bytes ≡ (size - length bytes, x.0) ∷ placed_from item size x.1
unfolding placed_from
placed_some item h size [] x e = cc (nothing item h, e)
placed_some item h size (b ∷ bytes) x e =
    let less : length x.1 < suc (length bytes) = h.less (b ∷ bytes) x e in
    place_some item (length bytes) size (b ∷ bytes) x e
    ∙ ap (λ rest. (size - length (b ∷ bytes), x.0) ∷ rest) (same_places item h (length bytes) (length x.1) size x.1 (omega arith) (omega arith))

-- what was found at an offset, or is still to be found, where one more was found
pub found_step : {A : Type 0} (old new : Option A) (q offset : ℕ) (a : A) (items : List (ℕ × A)) → new ≡ cond (q == offset) (option_or old (Some a)) old
    → option_or new (item_at q items) ≡ option_or old (item_at q ((offset, a) ∷ items))
found_step (Some x) new q offset a items h = elim (cases_Bool (q == offset)) [
  | inl t ↦ let here : new ≡ Some x = h ∙ rw t refl in rw here refl
  | inr f ↦ let here : new ≡ Some x = h ∙ rw f refl in rw here refl
]
found_step None new q offset a items h = elim (cases_Bool (q == offset)) [
  | inl t ↦ let here : new ≡ Some a = h ∙ rw t refl in rw (here, t) refl
  | inr f ↦ let here : new ≡ None = h ∙ rw f refl in rw (here, f) refl
]

-- the items up to their end have a byte
within_shorter : {A : Type 0} (item : List ℕ → Option (Option A × List ℕ)) (h : Shortens item) (count : ℕ)
    (bytes : List ℕ) (y : List A × List ℕ) → ended_within item count bytes ≡ Some y → length y.1 < length bytes
within_shorter {A = A} item h zero bytes y e =
    let gone : ◌≡◌ {A = Option (List A × List ℕ)} None (Some y) = sym (within_zero item bytes) ∙ e in
    cc gone
within_shorter {A = A} item h (suc count) bytes y e = elim (none_or_some (item bytes)) [
  | inl none ↦
      let gone : ◌≡◌ {A = Option (List A × List ℕ)} None (Some y) = sym (within_missing item (suc count) bytes none) ∙ e in
      cc gone
  | inr x ↦ elim (none_or_some x.0.0) [
    | inl none ↦
        let read : item bytes ≡ Some (None, x.0.1) = x.1 ∙ ap (λ a. Some (a, x.0.1)) none in
        let found : ◌≡◌ {A = Option (List A × List ℕ)} (Some ([], x.0.1)) (Some y) = sym (within_end item count bytes x.0.1 read) ∙ e in
        let same : ◌≡◌ {A = List A × List ℕ} ([], x.0.1) y = cc found in
        omega (arith, h.less bytes x.0 x.1, ap (λ (z : List A × List ℕ). length z.1) same)
    | inr a ↦
        let read : item bytes ≡ Some (Some a.0, x.0.1) = x.1 ∙ ap (λ a. Some (a, x.0.1)) a.1 in
        let found : option_map {U = List A × List ℕ} (λ (z : List A × List ℕ). (a.0 ∷ z.0, z.1))
        (ended_within item count x.0.1) ≡ Some y = sym (within_some item count bytes a.0 x.0.1 read) ∙ e in
        let z = mapped (λ (z : List A × List ℕ). (a.0 ∷ z.0, z.1)) (ended_within item count x.0.1) y found in
        omega (arith, h.less bytes x.0 x.1, within_shorter item h count x.0.1 z.0 z.1, ap (λ (w : List A × List ℕ). length w.1) z.2)
  ]
]

pub ended_shorter : {A : Type 0} (item : List ℕ → Option (Option A × List ℕ)) (h : Shortens item) (bytes : List ℕ)
    (y : List A × List ℕ) → ended item bytes ≡ Some y → length y.1 < length bytes
unfolding ended
ended_shorter item h bytes y e = within_shorter item h (length bytes) bytes y e
