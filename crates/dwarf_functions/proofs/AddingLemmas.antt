-- An entry is added, if it has ranges.
use Rattle.std.proofs.Common.{◌≡◌, ◌≢◌, ℕ, ◌+◌, false, List, [], ◌∷◌, ◌++◌, length, Option, refl, sym, ap, subst, ◌∙◌, arith}
use Rattle.std.specs.Option.{option_map}
use Rattle.std.proofs.lemmas.List.{append-nil}
use Rattle.dwarf_ranges.specs.EntryRanges.{UnitRangesRecord}
use Rattle.dwarf_ranges.specs.declared.range.CodeRange.{CodeRange}
use Rattle.dwarf_entries.specs.Entries.{EntryRecord}
use Rattle.dwarf_source_frames.specs.DebugSections.{DebugSectionsRecord}
use Rattle.dwarf_source_frames.specs.DebugUnits.{UnitRecord}
use Rattle.dwarf_source_frames.specs.Frames.{location_of_call}
use Rattle.dwarf_source_frames.specs.Names.{IsName}
use Rattle.dwarf_source_frames.specs.Scopes.{ScopeRecord, is_function, is_subprogram, scope_of, scope_ranges}
use Rattle.dwarf_functions.specs.Asked.{asked_ranges, asked_scope}
use Rattle.dwarf_functions.specs.OpenFunctions.{Adds, Closes, Takes}
use Rattle.dwarf_functions.specs.declared.functions.Function.{Function}
use Rattle.dwarf_functions.specs.declared.functions.Open.{Open}
use Rattle.dwarf_source_frames.proofs.ScopeLemmas.{no_ranges}

-- a function of the entry
pub adds_one : (s : DebugSectionsRecord) (unit : UnitRecord) (scope : ScopeRecord) (ranges next : List CodeRange)
    (opened now_open : List Open) (functions after : List Function) (f : Function) (index : ℕ) → next ≡ ranges
    ++ scope.ranges → length next ≢ length ranges → index ≡ length functions
    → IsName s (record { unit = unit; entry = scope.entry }) (option_map (λ n. n.now) f.name) → f.call
    ≡ location_of_call scope.entry → f.is_subprogram ≡ is_subprogram scope.entry → f.end ≡ index + 1 → f.ranges_end ≡ length next
    → after ≡ functions ++ f ∷ [] → now_open ≡ opened ++ record { depth = scope.depth; index = index } ∷ []
    → Adds s unit scope (length next) opened now_open functions after
adds_one s unit scope ranges next opened now_open functions after f index more other last name call kind end ranges_end pushed opens = record {
  without = λ none. absurd (other (ap (λ (rs : List CodeRange). length rs) (more ∙ ap (λ (rs : List CodeRange). ranges ++ rs) none ∙ append-nil ranges)));
  with_ranges = λ some. (
    f,
    pushed,
    ranges_end,
    record { name = name; call = call; is_subprogram = kind; end = end ∙ ap (λ n. n + 1) last },
    opens ∙ ap (λ (n : ℕ). opened ++ record { depth = scope.depth; index = n } ∷ []) last,
  );
}

no_asked : (asked : Option (List ℕ)) (unit : UnitRangesRecord) (left : ℕ) (entry : EntryRecord) → is_function entry
    ≡ false → asked_ranges asked (scope_ranges unit left entry) ≡ []
no_asked asked unit left entry e = ap (asked_ranges asked) (no_ranges unit left entry e)

pub none_pushed : (asked : Option (List ℕ)) (unit : UnitRangesRecord) (left : ℕ) (entry : EntryRecord)
    (ranges : List CodeRange) → is_function entry ≡ false → ranges ≡ ranges
    ++ asked_ranges asked (scope_ranges unit left entry)
none_pushed asked unit left entry ranges e = sym (ap (λ (rs : List CodeRange). ranges ++ rs) (no_asked asked unit left entry e) ∙ append-nil ranges)

pub takes_none : (s : DebugSectionsRecord) (unit : UnitRecord) (asked : Option (List ℕ)) (u : UnitRangesRecord)
    (left depth : ℕ) (entry : EntryRecord) (ranges_end : ℕ) (opened now_open : List Open) (before after : List Function)
    → is_function entry ≡ false
    → Closes depth opened now_open before after → Takes s unit (asked_scope asked (scope_of u left depth entry)) ranges_end opened now_open before after
takes_none s unit asked u left depth entry ranges_end opened now_open before after e closes = record {
  left = now_open;
  closed = after;
  closes = closes;
  adds = record {
    without = λ none. (refl, refl);
    with_ranges = λ some. absurd (omega (arith, some, ap (λ (rs : List CodeRange). length rs) (no_asked asked u left entry e)));
  };
}

-- an entry is taken by closing what it does not stand in, and adding it
pub takes_added : (s : DebugSectionsRecord) (unit : UnitRecord) (asked : Option (List ℕ)) (u : UnitRangesRecord)
    (left depth : ℕ) (entry read : EntryRecord) {own : List CodeRange} {ranges_end : ℕ}
    {opened stay now_open : List Open} {before closed after : List Function} → read ≡ entry → own
    ≡ scope_ranges u left read
    → Closes depth opened stay before closed → Adds s unit
    (asked_scope asked (record { depth = depth; entry = read; ranges = own })) ranges_end stay now_open closed after
    → Takes s unit (asked_scope asked (scope_of u left depth entry)) ranges_end opened now_open before after
takes_added s unit asked u left depth entry read {own = own} {ranges_end = ranges_end} {opened = opened} {stay = stay} {now_open = now_open}
    {before = before} {closed = closed} {after = after} same ranges closes adds =
    let as_read : Adds s unit (asked_scope asked (scope_of u left depth read)) ranges_end stay now_open closed after =
    subst (λ (rs : List CodeRange). Adds s unit (asked_scope asked
    (record { depth = depth; entry = read; ranges = rs })) ranges_end stay now_open closed after) ranges adds in
    record {
      left = stay;
      closed = closed;
      closes = closes;
      adds = subst (λ (e : EntryRecord). Adds s unit (asked_scope asked (scope_of u left depth e)) ranges_end stay now_open closed after) same as_read;
    }

pub ranges_added : (asked : Option (List ℕ)) (u : UnitRangesRecord) (left : ℕ) (entry read : EntryRecord)
    (own before ranges after : List CodeRange) → read ≡ entry → own ≡ scope_ranges u left read → ranges ≡ before → after
    ≡ ranges ++ asked_ranges asked own
    → after ≡ before ++ asked_ranges asked (scope_ranges u left entry)
ranges_added asked u left entry read own before ranges after same is kept more =
    more ∙ ap (λ (rs : List CodeRange). rs ++ asked_ranges asked own) kept
    ∙ ap (λ (rs : List CodeRange). before ++ asked_ranges asked rs) (is ∙ ap (scope_ranges u left) same)
