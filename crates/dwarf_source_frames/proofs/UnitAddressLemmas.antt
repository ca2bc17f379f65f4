-- Steps over the units that have addresses in ranges of their own.
use Rattle.std.proofs.Common.{◌≡◌, ℕ, ◌-◌, List, length, Bool, true, false, cond, Option, Some, None, refl, sym, ap, ◌∙◌}
use Rattle.std.specs.Prelude.{IfOk, Result, Ok, Err}
use Rattle.std.specs.List.{find}
use Rattle.std.specs.Option.{option_map, option_or}
use Rattle.dwarf_encoding.specs.Sequences.{placed_from}
use Rattle.dwarf_encoding.specs.Units.{unit_at}
use Rattle.dwarf_encoding.proofs.SequenceLemmas.{placed_missing, placed_some}
use Rattle.dwarf_encoding.proofs.UnitLemmas.{unit_shortens}
use Rattle.dwarf_ranges.specs.Lists.{in_ranges}
use Rattle.dwarf_source_frames.specs.DebugSections.{DebugSectionsRecord}
use Rattle.dwarf_source_frames.specs.UnitAddresses.{IsUnitOf, own_ranges, place_by_ranges, place_by_tuple}
use Rattle.dwarf_ranges.proofs.TupleLemmas.{one_first_tuple}

-- of those from some bytes on
abbrev pub place_from : DebugSectionsRecord → ℕ → ℕ → List ℕ → Option ℕ
place_from sections a size bytes =
    option_map (λ u. u.0) (find (λ u. in_ranges a (own_ranges sections u.0 u.1)) (placed_from unit_at size bytes))

one_unit : (sections : DebugSectionsRecord) (a size : ℕ) (bytes unit rest : List ℕ) → ◌≡◌ {A = Option (List ℕ × List ℕ)} (Some (unit, rest)) (unit_at bytes)
    → place_from sections a size bytes ≡ option_map (λ u. u.0)
    (cond (in_ranges a (own_ranges sections (size - length bytes) unit)) (Some (size - length bytes, unit))
    (find (λ u. in_ranges a (own_ranges sections u.0 u.1)) (placed_from unit_at size rest)))
one_unit sections a size bytes unit rest read =
    ap (λ units. option_map (λ u. u.0) (find (λ u. in_ranges a (own_ranges sections u.0 u.1)) units))
    (placed_some unit_at unit_shortens size bytes (unit, rest) (sym read))

-- a unit has the address
pub unit_hit : (sections : DebugSectionsRecord) (a size : ℕ) (bytes unit rest : List ℕ) → ◌≡◌ {A = Option (List ℕ × List ℕ)} (Some (unit, rest)) (unit_at bytes)
    → in_ranges a (own_ranges sections (size - length bytes) unit) ≡ true → place_from sections a size bytes ≡ Some (size - length bytes)
unit_hit sections a size bytes unit rest read has =
    one_unit sections a size bytes unit rest read
    ∙ ap (λ b. option_map (λ (u : ℕ × List ℕ). u.0) (cond b (Some (size - length bytes, unit))
    (find (λ u. in_ranges a (own_ranges sections u.0 u.1)) (placed_from unit_at size rest)))) has

-- a unit has it not
pub unit_miss : (sections : DebugSectionsRecord) (a size : ℕ) (bytes unit rest : List ℕ)
    → ◌≡◌ {A = Option (List ℕ × List ℕ)} (Some (unit, rest)) (unit_at bytes)
    → in_ranges a (own_ranges sections (size - length bytes) unit) ≡ false → place_from sections a size bytes ≡ place_from sections a size rest
unit_miss sections a size bytes unit rest read not =
    one_unit sections a size bytes unit rest read
    ∙ ap (λ b. option_map (λ (u : ℕ × List ℕ). u.0) (cond b (Some (size - length bytes, unit))
    (find (λ u. in_ranges a (own_ranges sections u.0 u.1)) (placed_from unit_at size rest)))) not

-- no unit is left
pub no_unit : (sections : DebugSectionsRecord) (a size : ℕ) (bytes : List ℕ)
    → ◌≡◌ {A = Option (List ℕ × List ℕ)} None (unit_at bytes) → place_from sections a size bytes ≡ None
no_unit sections a size bytes read =
    ap (λ units. option_map (λ u. u.0) (find (λ u. in_ranges a (own_ranges sections u.0 u.1)) units)) (placed_missing unit_at size bytes (sym read))

-- the place by the tuple, and else that by ranges: an address waits if its tuple names none
pub joined : (by_tuple by_ranges before after : Option ℕ) (waiting : Bool) → before ≡ by_tuple
    → (by_tuple ≡ None → waiting ≡ true) → (waiting ≡ true → by_tuple ≡ None)
    → (waiting ≡ true → after ≡ by_ranges) → (waiting ≡ false → after ≡ before) → after ≡ option_or by_tuple by_ranges
joined by_tuple by_ranges before after true placed waits only found others = found refl ∙ ap (λ p. option_or p by_ranges) (sym (only refl))
joined None by_ranges before after false placed waits only found others = absurd (cc (waits refl))
joined (Some p) by_ranges before after false placed waits only found others = others refl ∙ placed

-- two things that are said of what a call gives
pub both_said : {T E : Type 0} (r : Result T E) (P Q R : T → Type 0) → ((x : T) → P x → Q x → R x) → IfOk r P → IfOk r Q → IfOk r R
both_said (Ok x) P Q R f p q = f x p q
both_said (Err e) P Q R f p q = tt

-- an address has at most one place
pub one_place : (sections : DebugSectionsRecord) (a : ℕ) (one other : Option ℕ) → IsUnitOf sections a one → IsUnitOf sections a other → one ≡ other
one_place sections a one other h k =
    h.2
    ∙ ap (λ t. option_or (place_by_tuple sections t) (place_by_ranges sections a)) (one_first_tuple _ a h.0 k.0 h.1 k.1)
    ∙ sym k.2
