-- Steps over the tuples of __debug_aranges.
use Rattle.std.proofs.Common.{◌≡◌, ℕ, ◌<◌, List, [], ◌∷◌, ◌++◌, length, drop, take, map, Option, Some, None, refl, ap}
use Rattle.std.proofs.Common.{◌∙◌, sym, inl, inr, arith, length-drop, nat_lt, ◌==◌, ◌&&◌, ◌||◌, Bool, true, false}
use Rattle.std.specs.List.{flat_map, list_any}
use Rattle.std.specs.Option.{option_map_or}
use Rattle.std.proofs.lemmas.Bool.{cases_Bool, ltb-false}
use Rattle.std.proofs.lemmas.Option.{none-some}
use Rattle.dwarf_encoding.specs.LittleEndian.{u64_le_at}
use Rattle.dwarf_encoding.specs.Sequences.{Shortens}
use Rattle.dwarf_encoding.specs.Units.{unit_at}
use Rattle.dwarf_encoding.proofs.SequenceLemmas.{sequence_missing, sequence_some}
use Rattle.dwarf_encoding.proofs.UnitLemmas.{unit_shortens}
use Rattle.dwarf_ranges.specs.Aranges.{aranges_of, header_of, is_named, names_unit, tuple_at, tuples_from, tuples_of}
use Rattle.dwarf_ranges.specs.declared.arange.Arange.{Arange}

tuple_shorter : (bytes : List ℕ) (x : (ℕ × ℕ) × List ℕ) → tuple_at bytes ≡ Some x → length x.1 < length bytes
unfolding tuple_at
tuple_shorter bytes x e = elim (cases_Bool (nat_lt (length bytes) 16)) [
  | inl t ↦ let gone : None ≡ Some x = rw t at e in absurd (none-some x gone)
  | inr f ↦ elim (cases_Bool ((u64_le_at bytes 0 == 0) && (u64_le_at bytes 8 == 0))) [
    | inl t ↦ absurd (none-some x (cc (e, t, f)))
    | inr g ↦
        let same : ((u64_le_at bytes 0, u64_le_at bytes 8), drop 16 bytes) ≡ x = cc (e, f, g) in
        omega (arith, ap (λ (y : (ℕ × ℕ) × List ℕ). length y.1) same, length-drop 16 bytes, ltb-false (length bytes) 16 f)
  ]
]

tuples_shorten : Shortens tuple_at
tuples_shorten = record { less = tuple_shorter }

-- no tuple is left
pub tuples_end : (unit : ℕ) (bytes : List ℕ) → tuple_at bytes ≡ None → tuples_from unit bytes ≡ []
unfolding tuples_from
tuples_end unit bytes e = ap (map _) (sequence_missing tuple_at bytes e)

-- one tuple more
pub tuples_more : (unit : ℕ) (bytes : List ℕ) (address size : ℕ) (rest : List ℕ) → tuple_at bytes ≡ Some ((address, size), rest)
    → tuples_from unit bytes ≡ record { debug_info_offset = unit; address = address; length = size } ∷ tuples_from unit rest
unfolding tuples_from
tuples_more unit bytes address size rest e = ap (map _) (sequence_some tuple_at tuples_shorten bytes ((address, size), rest) e)

-- no set is left
pub sets_end : (bytes : List ℕ) → unit_at bytes ≡ None → aranges_of bytes ≡ []
unfolding aranges_of
sets_end bytes e = ap (flat_map tuples_of) (sequence_missing unit_at bytes e)

-- one set more
pub sets_more : (bytes set rest : List ℕ) → unit_at bytes ≡ Some (set, rest) → aranges_of bytes ≡ tuples_of set ++ aranges_of rest
unfolding aranges_of
sets_more bytes set rest e = ap (flat_map tuples_of) (sequence_some unit_at unit_shortens bytes (set, rest) e)

pub set_less : (bytes set rest : List ℕ) → unit_at bytes ≡ Some (set, rest) → length rest < length bytes
set_less bytes set rest e = unit_shortens.less bytes (set, rest) e

-- no tuple begins no bytes
nothing_begins : tuple_at [] ≡ None
unfolding tuple_at
nothing_begins = refl

pub no_tuples : (unit : ℕ) → tuples_from unit [] ≡ []
no_tuples unit = tuples_end unit [] nothing_begins

pub read_set : (set : List ℕ) (unit : ℕ) (tuples : List ℕ) → header_of set ≡ Some (unit, tuples) → tuples_from unit tuples ≡ tuples_of set
unfolding tuples_of
read_set set unit tuples e = ap (λ h. option_map_or (λ x. tuples_from x.0 x.1) h []) (sym e)

pub other_set : (set : List ℕ) → header_of set ≡ None → tuples_from 0 [] ≡ tuples_of set
unfolding tuples_of
other_set set e = no_tuples 0 ∙ ap (λ h. option_map_or (λ x. tuples_from x.0 x.1) h []) (sym e)

-- what begins with no tuples is the sets
pub no_first_tuples : (unit : ℕ) (bytes sets : List ℕ) → tuple_at bytes ≡ None → tuples_from unit bytes ++ aranges_of sets ≡ aranges_of sets
no_first_tuples unit bytes sets e = ap (λ t. t ++ aranges_of sets) (tuples_end unit bytes e)

-- a tuple is given
pub one_tuple : (unit : ℕ) (bytes sets : List ℕ) (address size : ℕ) (rest : List ℕ) (all : List Arange)
    → ◌≡◌ {A = Option ((ℕ × ℕ) × List ℕ)} (Some ((address, size), rest)) (tuple_at bytes)
    → tuples_from unit bytes ++ aranges_of sets ≡ all → all
    ≡ record { debug_info_offset = unit; address = address; length = size }
    ∷ (tuples_from unit rest ++ aranges_of sets)
one_tuple unit bytes sets address size rest all read before = sym before ∙ ap (λ t. t ++ aranges_of sets) (tuples_more unit bytes address size rest (sym read))

-- a set is begun
pub one_set : (unit : ℕ) (bytes sets set rest : List ℕ) (tuples all : List Arange) → tuple_at bytes ≡ None
    → ◌≡◌ {A = Option (List ℕ × List ℕ)} (Some (set, rest)) (unit_at sets)
    → tuples ≡ tuples_of set → tuples_from unit bytes ++ aranges_of sets ≡ all → tuples ++ aranges_of rest ≡ all
one_set unit bytes sets set rest tuples all none read are before =
    ap (λ t. t ++ aranges_of rest) are ∙ sym (sets_more sets set rest (sym read)) ∙ sym (no_first_tuples unit bytes sets none) ∙ before

pub all_sets : (sets : List ℕ) → tuples_from 0 [] ++ aranges_of sets ≡ aranges_of sets
all_sets sets = ap (λ t. t ++ aranges_of sets) (no_tuples 0)

-- no set is left to name a unit
pub named_end : (bytes : List ℕ) (offset : ℕ) → ◌≡◌ {A = Option (List ℕ × List ℕ)} None (unit_at bytes) → is_named bytes offset ≡ false
unfolding is_named
named_end bytes offset e = ap (list_any (names_unit offset)) (sequence_missing unit_at bytes (sym e))

named_more : (bytes set rest : List ℕ) (offset : ℕ) → unit_at bytes ≡ Some (set, rest) → is_named bytes offset ≡ (names_unit offset set || is_named rest offset)
unfolding is_named
named_more bytes set rest offset e = ap (list_any (names_unit offset)) (sequence_some unit_at unit_shortens bytes (set, rest) e)

in_order : (set rest named whole : Bool) → ((set || rest) || named) ≡ whole → (rest || (set || named)) ≡ whole
in_order true true named whole e = e
in_order true false named whole e = e
in_order false true named whole e = e
in_order false false named whole e = e

-- the unit of a set is added to those that are named
pub named_step : (bytes set rest : List ℕ) (offset : ℕ) (named more whole : Bool) → ◌≡◌ {A = Option (List ℕ × List ℕ)} (Some (set, rest)) (unit_at bytes)
    → more ≡ (names_unit offset set || named) → (is_named bytes offset || named) ≡ whole → (is_named rest offset || more) ≡ whole
named_step bytes set rest offset named more whole read added before =
    ap (λ m. is_named rest offset || m) added
    ∙ in_order (names_unit offset set) (is_named rest offset) named whole (ap (λ n. n || named) (sym (named_more bytes set rest offset (sym read))) ∙ before)
