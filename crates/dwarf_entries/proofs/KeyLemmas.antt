-- A table whose keys are the offset of a table and a code, and rows.
use Rattle.std.proofs.Common.{◌≡◌, ◌≢◌, ℕ, zero, suc, ◌+◌, ◌==◌, ◌&&◌, Bool, true, false, cond, List, [], ◌∷◌, ◌++◌}
use Rattle.std.proofs.Common.{length, Option, Some, None, slice_get, refl, sym, ap, ◌∙◌, inl, inr, arith}
use Rattle.std.specs.Option.{is_some, option_map, option_or}
use Rattle.std.specs.Result.{OnOk}
use Rattle.std.specs.declared.result.Result.{Result}
use Rattle.std.specs.declared.result.Result.TheVariants.{Ok, Err}
use Rattle.std.specs.Ordering.{is_eq, nat_cmp, ordering_then}
use Rattle.std.specs.BTreeMap as tree_map
use Rattle.std.proofs.lemmas.Bool.{cases_Bool, eqb-true, eq-eqb, ne_eqb}
use Rattle.std.proofs.lemmas.Bool.Decides.{nat_tests}
use Rattle.dwarf_entries.specs.DeclarationViews.{declaration_in, declaration_view, key_cmp, row_in, rows_or_none}
use Rattle.dwarf_entries.specs.declared.declaration.Declaration.{Declaration}
use Rattle.dwarf_entries.specs.declared.declarations.Declarations.{Declarations}

-- keys that compare alike are one
same_key : (a b c d : ℕ) → is_eq (ordering_then (nat_cmp a c) (nat_cmp b d)) ≡ ((c == a) && (d == b))
same_key a b c d = grind (arith, nat_tests)

-- tests of both parts
same_parts : (a b c d : ℕ) → ((a == c) && (b == d)) ≡ true → ◌≡◌ {A = ℕ × ℕ} (a, b) (c, d)
same_parts a b c d h =
    let first : a ≡ c = grind (arith, nat_tests) in
    let second : b ≡ d = grind (arith, nat_tests) in
    cc

-- a row more
row_at : (rows : List Declaration) (d : Declaration) → slice_get (rows ++ d ∷ []) (length rows) ≡ Some d
row_at [] d = refl
row_at (r ∷ rows) d = row_at rows d

row_not : (rows : List Declaration) (d : Declaration) (index : ℕ) → index ≢ length rows → slice_get (rows ++ d ∷ []) index ≡ slice_get rows index
row_not [] d zero h = absurd (h refl)
row_not [] d (suc index) h = refl
row_not (r ∷ rows) d zero h = refl
row_not (r ∷ rows) d (suc index) h = row_not rows d index (λ e. h (ap suc e))

row_with : (rows : List Declaration) (d : Declaration) (code c : ℕ) → code ≡ length rows + 1 → row_in (rows ++ d ∷ []) c
    ≡ cond (c == code) (Some d) (row_in rows c)
row_with rows d code zero e = rw (ne_eqb 0 code (λ same. omega (arith, same))) refl
row_with rows d code (suc index) e = elim (cases_Bool (suc index == code)) [
  | inl t ↦
      let here : index ≡ length rows = omega (arith, eqb-true (suc index) code t) in
      rw t (ap (slice_get (rows ++ d ∷ [])) here ∙ row_at rows d)
  | inr f ↦ rw f (row_not rows d index (λ same.
      let is : (suc index == code) ≡ true = eq-eqb (suc index) code (omega (arith, same)) in
      cc (is, f)))
]

-- of two answers the first one counts
first_of : (same : Bool) (d : Declaration) (row other : Option Declaration) → option_or (cond same (Some d) row) other
    ≡ cond same (Some d) (option_or row other)
first_of true d row other = refl
first_of false d row other = refl

second_of : (same : Bool) (d : Declaration) (row other : Option Declaration) → (same ≡ true → row ≡ None)
    → option_or row (cond same (Some d) other) ≡ cond same (Some d) (option_or row other)
second_of true d row other none = rw (none refl) refl
second_of false d row other none = refl

-- none of two
none_first : (row other : Option Declaration) → option_or row other ≡ None → row ≡ None
none_first None other e = refl
none_first (Some x) other e = cc e

-- a declaration more, as a row
pub put_row : (old new : Declarations) (table code : ℕ) (d : Declaration) → new.others ≡ old.others → code
    ≡ length (rows_or_none (tree_map.get nat_cmp old.rows table)) + 1
    → rows_or_none (tree_map.get nat_cmp new.rows table) ≡ rows_or_none (tree_map.get nat_cmp old.rows table) ++ d ∷ []
    → ((t : ℕ) → t ≢ table → rows_or_none (tree_map.get nat_cmp new.rows t) ≡ rows_or_none (tree_map.get nat_cmp old.rows t))
    → (t c : ℕ) → declaration_in new t c ≡ cond ((t == table) && (c == code)) (Some d) (declaration_in old t c)
put_row old new table code d same next here others t c = elim (cases_Bool (t == table)) [
  | inl is ↦
      let at : t ≡ table = eqb-true t table is in
      let row : row_in (rows_or_none (tree_map.get nat_cmp new.rows t)) c
      ≡ cond (c == code) (Some d) (row_in (rows_or_none (tree_map.get nat_cmp old.rows t)) c) =
      ap (λ k. row_in (rows_or_none (tree_map.get nat_cmp new.rows k)) c) at ∙ ap (λ rows. row_in rows c) here
      ∙ row_with (rows_or_none (tree_map.get nat_cmp old.rows table)) d code c next
      ∙ ap (λ k. cond (c == code) (Some d) (row_in (rows_or_none (tree_map.get nat_cmp old.rows k)) c)) (sym at) in
      rw (is, row, same) (first_of (c == code) d (row_in (rows_or_none (tree_map.get nat_cmp old.rows t)) c) (tree_map.get key_cmp old.others (t, c)))
  | inr not_is ↦
      let row : row_in (rows_or_none (tree_map.get nat_cmp new.rows t)) c ≡ row_in (rows_or_none (tree_map.get nat_cmp old.rows t)) c =
      ap (λ rows. row_in rows c) (others t (λ e. cc (eq-eqb t table e, not_is))) in
      rw (not_is, row, same) refl
]

-- as one of the others
pub put_other : (old new : Declarations) (table code : ℕ) (d : Declaration) → new.rows ≡ old.rows → declaration_in old table code ≡ None
    → ((q : ℕ × ℕ) → tree_map.get key_cmp new.others q ≡ cond (is_eq (key_cmp (table, code) q)) (Some d) (tree_map.get key_cmp old.others q))
    → (t c : ℕ) → declaration_in new t c ≡ cond ((t == table) && (c == code)) (Some d) (declaration_in old t c)
put_other old new table code d same none updated t c =
    let other : tree_map.get key_cmp new.others (t, c) ≡ cond ((t == table) && (c == code)) (Some d) (tree_map.get key_cmp old.others (t, c)) =
    updated (t, c) ∙ ap (λ b. cond b (Some d) (tree_map.get key_cmp old.others (t, c))) (same_key table code t c) in
    let row : row_in (rows_or_none (tree_map.get nat_cmp new.rows t)) c
    ≡ row_in (rows_or_none (tree_map.get nat_cmp old.rows t)) c =
    ap (λ rows. row_in (rows_or_none (tree_map.get nat_cmp rows t)) c) same in
    rw (other, row) (second_of ((t == table) && (c == code)) d
    (row_in (rows_or_none (tree_map.get nat_cmp old.rows t)) c) (tree_map.get key_cmp old.others (t, c))
    (λ is. ap (λ (k : ℕ × ℕ). row_in (rows_or_none (tree_map.get nat_cmp old.rows k.0)) k.1) (same_parts t c table code is) ∙ none_first _ _ none))

-- what a call ensures by two clauses, if it succeeds
pub on_both : {T E P Q S : Type 0} (r : Result T E) → OnOk r P → OnOk r Q → (P → Q → S) → OnOk r S
on_both (Ok x) p q f = f p q
on_both (Err e) p q f = tt

-- there is none
none_is : (o : Option Declaration) → is_some o ≡ false → o ≡ None
none_is None e = refl
none_is (Some x) e = cc e

-- a declaration more, where there was none
kept : (old new : Option Declaration) (d : Declaration) (same : Bool) → new ≡ cond same (Some d) old → (same ≡ true → old ≡ None)
    → option_map declaration_view new ≡ cond same (option_or (option_map declaration_view old) (Some (declaration_view d))) (option_map declaration_view old)
kept old new d true e absent = let none = absent refl in rw (e, none) refl
kept old new d false e absent = ap (option_map declaration_view) e

pub kept_first : (old new : Declarations) (table code : ℕ) (d : Declaration) → is_some (declaration_in old table code) ≡ false
    → ((t c : ℕ) → declaration_in new t c ≡ cond ((t == table) && (c == code)) (Some d) (declaration_in old t c))
    → (t c : ℕ) → option_map declaration_view (declaration_in new t c)
    ≡ cond ((t == table) && (c == code)) (option_or (option_map declaration_view (declaration_in old t c))
    (Some (declaration_view d))) (option_map declaration_view (declaration_in old t c))
kept_first old new table code d absent put t c =
    kept (declaration_in old t c) (declaration_in new t c) d ((t == table) && (c == code)) (put t c)
    (λ is. ap (λ (k : ℕ × ℕ). declaration_in old k.0 k.1) (same_parts t c table code is) ∙ none_is (declaration_in old table code) absent)
