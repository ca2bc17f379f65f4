-- What the values of attributes are in the definitions, once one is put.
use Rattle.std.proofs.Common.{◌≡◌, ◌<◌, ℕ, zero, suc, List, [], ◌∷◌, map, length, slice_index_or, slice_set, Option, Some, None, refl, sym, ap, ◌∙◌, arith}
use Rattle.std.proofs.lemmas.List.{get_or-map, length-map}
use Rattle.std.specs.Option.{option_map, option_or}
use Rattle.dwarf_encoding.specs.Values.{ValueRecord}
use Rattle.dwarf_entries.specs.Attributes.{attribute_of, with_attribute, with_value}
use Rattle.dwarf_entries.specs.AttributeViews.{of_slots, slot_of}
use Rattle.dwarf_entries.specs.declared.attributes.Attribute.{Attribute}
use Rattle.dwarf_entries.specs.declared.attributes.Attribute.TheVariants.{Name, StmtList, LowPc, HighPc, CompDir, AbstractOrigin, Specification, Ranges}
use Rattle.dwarf_entries.specs.declared.attributes.Attribute.TheVariants.{CallColumn, CallFile, CallLine, LinkageName}
use Rattle.dwarf_entries.specs.declared.attributes.Attribute.TheVariants.{StrOffsetsBase, AddrBase, RnglistsBase}
use Rattle.dwarf_entries.specs.declared.attributes.Attribute.TheVariants.{MipsLinkageName}

-- ---- a list of values

-- what holds of so many items, one after another
abbrev Over : {A : Type 0} → ℕ → (List A → Type 0) → Type 0
Over zero P = P []
Over {A = A} (suc n) P = (x : A) → Over n (λ xs. P (x ∷ xs))

-- holds of a list that has so many
over : {A : Type 0} (n : ℕ) (P : List A → Type 0) → Over n P → (xs : List A) → length xs ≡ n → P xs
over zero P holds [] long = holds
over zero P holds (x ∷ xs) long = absurd (omega (arith, long))
over (suc n) P holds [] long = absurd (omega (arith, long))
over (suc n) P holds (x ∷ xs) long = over n (λ ys. P (x ∷ ys)) (holds x) xs (omega (arith, long))

-- a value that is put at its slot is of that attribute alone
abbrev Puts : Attribute → ValueRecord → List (Option ValueRecord) → Type 0
Puts attribute value values =
    of_slots (slice_set values (slot_of attribute) (option_or (slice_index_or values (slot_of attribute) None)
    (Some value))) ≡ with_value (of_slots values) attribute value

module _ (x0 x1 x2 x3 x4 x5 x6 x7 x8 x9 x10 x11 x12 x13 x14 x15 : Option ValueRecord) (value : ValueRecord) where
  put_there : (attribute : Attribute) → Puts attribute value (x0 ∷ x1 ∷ x2 ∷ x3 ∷ x4 ∷ x5 ∷ x6 ∷ x7 ∷ x8 ∷ x9 ∷ x10 ∷ x11 ∷ x12 ∷ x13 ∷ x14 ∷ x15 ∷ [])
  unfolding of_slots
  put_there Name = refl
  put_there StmtList = refl
  put_there LowPc = refl
  put_there HighPc = refl
  put_there CompDir = refl
  put_there AbstractOrigin = refl
  put_there Specification = refl
  put_there Ranges = refl
  put_there CallColumn = refl
  put_there CallFile = refl
  put_there CallLine = refl
  put_there LinkageName = refl
  put_there StrOffsetsBase = refl
  put_there AddrBase = refl
  put_there RnglistsBase = refl
  put_there MipsLinkageName = refl

put_slot : (values : List (Option ValueRecord)) (attribute : Attribute) (value : ValueRecord) → length values ≡ 16 → Puts attribute value values
put_slot values attribute value long =
    over 16 (Puts attribute value) (λ x0 x1 x2 x3 x4 x5 x6 x7 x8 x9 x10 x11 x12 x13 x14 x15. put_there x0 x1 x2 x3 x4 x5
    x6 x7 x8 x9 x10 x11 x12 x13 x14 x15 value attribute) values long

-- ---- a list of what has views

-- the view of a list with an item put is the view of the list, with the item's view put
map_put : {A B : Type 0} (f : A → B) (xs : List A) (i : ℕ) (x : A) → map f (slice_set xs i x) ≡ slice_set (map f xs) i (f x)
map_put f [] i x = refl
map_put f (y ∷ ys) zero x = refl
map_put f (y ∷ ys) (suc i) x = ap (λ zs. f y ∷ zs) (map_put f ys i x)

or_mapped : {A B : Type 0} (g : A → B) (o : Option A) (x : A) → option_map g (option_or o (Some x)) ≡ option_or (option_map g o) (Some (g x))
or_mapped g None x = refl
or_mapped g (Some y) x = refl

-- of two values of one attribute the first is kept
pub put_is : {A : Type 0} (g : A → ValueRecord) (values : List (Option A)) (number slot : ℕ) (attribute : Attribute)
    (value : A) (new : Option A) → length values ≡ 16
    → Some attribute ≡ attribute_of number → slot ≡ slot_of attribute → slot < 16 → new ≡ option_or (slice_index_or values slot None) (Some value)
    → of_slots (map (option_map g) (slice_set values slot new)) ≡ with_attribute (of_slots (map (option_map g) values)) number (g value)
put_is g values number slot attribute value new long asked place within is =
    let was : slice_index_or (map (option_map g) values) slot None ≡ option_map g (slice_index_or values slot None) =
    get_or-map (option_map g) values slot None None (omega (arith, long)) in
    let put : option_map g new ≡ option_or (slice_index_or (map (option_map g) values) slot None) (Some (g value)) =
    rw (is, was) (or_mapped g (slice_index_or values slot None) value) in
    let there = put_slot (map (option_map g) values) attribute (g value) (length-map values (option_map g) ∙ long) in
    ap of_slots (map_put (option_map g) values slot new ∙ ap (slice_set (map (option_map g) values) slot) put) ∙ rw (sym asked) (rw (sym place) at there)
