-- Numbers that are collected one after another.
use Rattle.std.proofs.Common.{◌≡◌, ℕ, ◌-◌, List, [], ◌∷◌, ◌++◌, length, Option, Some, None, sym, ap, ◌∙◌, append_assoc, flat_map, append-nil}
use Rattle.dwarf_ranges.specs.Aranges.{aranges_of}
use Rattle.dwarf_ranges.specs.declared.arange.Arange.{Arange}
use Rattle.dwarf_encoding.specs.Sequences.{placed, placed_from}
use Rattle.dwarf_encoding.specs.Units.{unit_at}
use Rattle.dwarf_encoding.proofs.SequenceLemmas.{placed_missing, placed_some}
use Rattle.dwarf_encoding.proofs.UnitLemmas.{unit_shortens}
use Rattle.dwarf_source_frames.specs.DebugSections.{DebugSectionsRecord}
use Rattle.dwarf_source_frames.specs.UnitAddresses.{own_ranges}
use Rattle.dwarf_frame_changes.specs.Turns.{boundaries, ends_of, ends_of_tuple}

-- what is pushed comes off what is left
pub pushed : (xs ys rest next all : List ℕ) → next ≡ xs ++ ys → xs ++ (ys ++ rest) ≡ all → next ++ rest ≡ all
pushed xs ys rest next all e h = ap (λ (zs : List ℕ). zs ++ rest) e ∙ append_assoc xs ys rest ∙ h

pub pushed_all : (xs rest all : List ℕ) → rest ≡ [] → xs ++ rest ≡ all → xs ≡ all
pushed_all xs rest all none h = sym (append-nil xs) ∙ ap (λ (zs : List ℕ). xs ++ zs) (sym none) ∙ h

-- the units of a section, one after another
pub units_step : (size : ℕ) (bytes unit rest : List ℕ)
    → ◌≡◌ {A = Option (List ℕ × List ℕ)} (Some (unit, rest)) (unit_at bytes) → placed_from unit_at size bytes
    ≡ (size - length bytes, unit) ∷ placed_from unit_at size rest
units_step size bytes unit rest read = placed_some unit_at unit_shortens size bytes (unit, rest) (sym read)

pub units_end : (size : ℕ) (bytes : List ℕ) → ◌≡◌ {A = Option (List ℕ × List ℕ)} None (unit_at bytes) → placed_from unit_at size bytes ≡ []
units_end size bytes read = placed_missing unit_at size bytes (sym read)

abbrev pub own_ends : DebugSectionsRecord → ℕ × List ℕ → List ℕ
own_ends s u = ends_of (own_ranges s u.0 u.1)

pub units_more : (s : DebugSectionsRecord) (size : ℕ) (bytes unit rest starts next all : List ℕ)
    → ◌≡◌ {A = Option (List ℕ × List ℕ)} (Some (unit, rest)) (unit_at bytes)
    → next ≡ starts ++ ends_of (own_ranges s (size - length bytes) unit)
    → starts ++ flat_map (own_ends s) (placed_from unit_at size bytes) ≡ all → next ++ flat_map (own_ends s) (placed_from unit_at size rest) ≡ all
units_more s size bytes unit rest starts next all read e before =
    pushed starts (ends_of (own_ranges s (size - length bytes) unit)) (flat_map (own_ends s) (placed_from unit_at size rest)) next all e
    (ap (λ (zs : List ℕ). starts ++ zs) (sym (ap (flat_map (own_ends s)) (units_step size bytes unit rest read))) ∙ before)

pub units_all : (s : DebugSectionsRecord) (size : ℕ) (bytes starts all : List ℕ) → ◌≡◌ {A = Option (List ℕ × List ℕ)} None (unit_at bytes)
    → starts ++ flat_map (own_ends s) (placed_from unit_at size bytes) ≡ all → starts ≡ all
units_all s size bytes starts all read before =
    pushed_all starts (flat_map (own_ends s) (placed_from unit_at size bytes)) all (ap (flat_map (own_ends s)) (units_end size bytes read)) before

pub boundaries_are : (s : DebugSectionsRecord) (first second third : List ℕ) (tuples : List Arange) → first ≡ []
    → tuples ≡ aranges_of s.debug_aranges → second ≡ first ++ flat_map ends_of_tuple tuples
    → third ≡ second ++ flat_map (own_ends s) (placed unit_at s.debug_info) → third ≡ boundaries s
unfolding boundaries
boundaries_are s first second third tuples none all more last =
    last
    ∙ ap (λ (xs : List ℕ). xs ++ flat_map (own_ends s) (placed unit_at s.debug_info))
    (more ∙ ap (λ (xs : List ℕ). xs ++ flat_map ends_of_tuple tuples) none ∙ ap (flat_map ends_of_tuple) all)
