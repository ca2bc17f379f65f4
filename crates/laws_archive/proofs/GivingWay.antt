-- What is at OUT and gives way begins as what the command writes.
use Rattle.std.proofs.Common.{◌≡◌, ◌⊎◌, ◌∙◌, ℕ, Contains, zero, suc, List, [], ◌∷◌, get_or, sym, ap, inl, inr, subst, arith, refl}
use Rattle.archive_records.specs.Kind.{kind_of, magic_of}
use Rattle.archive_records.specs.declared.format.Format.{Format}
use Rattle.archive_records.specs.declared.format.Format.TheVariants as format
use Rattle.archive_records.specs.declared.kind.TextKind.TheVariants.{Archive, Summary}
use Rattle.index_format.specs.Text.{earlier_magic, index_magic}
use Rattle.cli_files.specs.FileCalls.{FileCall, Begins, Compares, Finds, FindsNothing}
use Rattle.cli_files.specs.Publishing.{BeginsSo, IsReplaced, IsTested, both_give}
use Rattle.cli_files.specs.Replacing.{GivesWay, IsMagicOf}
use Rattle.cli_files.specs.declared.found.Found.{Found}
use Rattle.cli_files.specs.declared.replaceable.ReplaceRule.{ReplaceRule}
use Rattle.cli_files.specs.declared.replaceable.ReplaceRule.TheVariants.{ArchivesBelow, Summaries, Indexes, SameBytes}

-- the fifth byte distinguishes the magics
of_archive : (one : Format) → kind_of one ≡ Archive → get_or (magic_of one) 4 0 ≡ 0x41
of_archive format.Archive kind = refl
of_archive format.OldArchive kind = refl
of_archive one kind = cc

of_summary : (one : Format) → kind_of one ≡ Summary → get_or (magic_of one) 4 0 ≡ 0x53
of_summary format.Summary kind = refl
of_summary one kind = cc

fifth : (bytes : List ℕ) → IsMagicOf Archive bytes → get_or bytes 4 0 ≡ 0x41
fifth bytes (one, kind, is) = ap (λ b. get_or b 4 0) is ∙ of_archive one kind

fifth_of : (a b : List ℕ) → a ≡ b → get_or a 4 0 ≡ 0x41 → get_or b 4 0 ≡ 0x41
fifth_of a b is at = ap (λ l. get_or l 4 0) (sym is) ∙ at

-- what the file at a path begins with, where it is asked
begins_with : (path bytes other : List ℕ) (calls : List FileCall) → BeginsSo path bytes calls
    → Contains calls (Begins path other) → bytes ≡ other
begins_with path bytes other calls (inl (none, is)) there =
    absurd (nowhere (subst (λ cs. Contains cs (Begins path other)) is there))
  where
    nowhere : Contains (FindsNothing path ∷ []) (Begins path other) → ⊥
    nowhere (zero, lt, at) = cc at
    nowhere (suc i, lt, at) = omega arith
begins_with path bytes other calls (inr (found, size, is)) there =
    second (subst (λ cs. Contains cs (Begins path other)) is there)
  where
    second : Contains (Finds path found ∷ Begins path bytes ∷ []) (Begins path other) → bytes ≡ other
    second (zero, lt, at) = cc at
    second (suc zero, lt, at) = cc at
    second (suc (suc i), lt, at) = absurd (omega arith)

-- what begins as an archive is no summary, no index and not empty
no_summary : (bytes : List ℕ) → GivesWay Summaries bytes → IsMagicOf Archive bytes → ⊥
no_summary bytes (inl none) archive = let h = fifth_of bytes [] none (fifth bytes archive) in grind (arith, h)
no_summary bytes (inr (one, kind, is)) archive =
    let h = fifth_of bytes (magic_of one) is (fifth bytes archive) in
    let other = of_summary one kind in grind (arith, h, other)

no_index : (bytes : List ℕ) → GivesWay Indexes bytes → IsMagicOf Archive bytes → ⊥
no_index bytes (inl none) archive = let h = fifth_of bytes [] none (fifth bytes archive) in grind (arith, h)
no_index bytes (inr (inl is)) archive = let h = fifth_of bytes index_magic is (fifth bytes archive) in grind (arith, h)
no_index bytes (inr (inr is)) archive = let h = fifth_of bytes earlier_magic is (fifth bytes archive) in grind (arith, h)

-- files that are the same are not asked for their kind
same_unasked : (draft target bytes : List ℕ) (pieces : List (List ℕ))
    → Contains (both_give draft target pieces) (Begins target bytes) → ⊥
same_unasked draft target bytes [] (i, lt, at) = omega arith
same_unasked draft target bytes (piece ∷ pieces) (zero, lt, at) = cc at
same_unasked draft target bytes (piece ∷ pieces) (suc zero, lt, at) = cc at
same_unasked draft target bytes (piece ∷ pieces) (suc (suc i), lt, at) =
    same_unasked draft target bytes pieces (i, omega arith, at)

unasked : (draft target bytes : List ℕ) (tests : List FileCall) → IsTested SameBytes draft target tests
    → Contains tests (Begins target bytes) → ⊥
unasked draft target bytes tests (inl (inl is)) there = one (subst (λ ts. Contains ts (Begins target bytes)) is there)
  where
    one : Contains (FindsNothing target ∷ []) (Begins target bytes) → ⊥
    one (zero, lt, at) = cc at
    one (suc i, lt, at) = omega arith
unasked draft target bytes tests (inl (inr (found, size, is))) there =
    one (subst (λ ts. Contains ts (Begins target bytes)) is there)
  where
    one : Contains (Finds target found ∷ []) (Begins target bytes) → ⊥
    one (zero, lt, at) = cc at
    one (suc i, lt, at) = omega arith
unasked draft target bytes tests (inr same) there =
    later (subst (λ ts. Contains ts (Begins target bytes)) same.calls_are there)
  where
    later : Contains (Finds target same.of_target ∷ Finds draft same.of_draft ∷ both_give draft target same.pieces)
        (Begins target bytes) → ⊥
    later (zero, lt, at) = cc at
    later (suc zero, lt, at) = cc at
    later (suc (suc i), lt, at) = same_unasked draft target bytes same.pieces (i, omega arith, at)

-- an archive there is compared with the draft
covered : (replaces : ReplaceRule) (draft target bytes : List ℕ) (tests : List FileCall)
    → IsTested replaces draft target tests → Contains tests (Begins target bytes) → IsMagicOf Archive bytes
    → Contains tests (Compares draft target 0)
covered SameBytes draft target bytes tests is there archive = absurd (unasked draft target bytes tests is there)
covered ArchivesBelow draft target bytes tests (inl is) there archive =
    let h = fifth_of bytes [] (sym (begins_with target [] bytes tests is there)) (fifth bytes archive) in
    absurd (grind (arith, h))
covered ArchivesBelow draft target bytes tests (inr (found, first, kind, is)) there archive =
    subst (λ ts. Contains ts (Compares draft target 0)) (sym is) (2, grind arith, refl)
covered Summaries draft target bytes tests (first, gives, is) there archive =
    absurd (no_summary first gives
    (subst (IsMagicOf Archive) (sym (begins_with target first bytes tests is there)) archive))
covered Indexes draft target bytes tests (first, gives, is) there archive =
    absurd (no_index first gives
    (subst (IsMagicOf Archive) (sym (begins_with target first bytes tests is there)) archive))

-- a file there that begins with no byte has none
size_there : (found other : Found) (path : List ℕ) → Finds path found ≡ Finds path other → found.size ≡ 0 → other.size ≡ 0
size_there found other path same none = let is : found ≡ other = cc in ap (λ f. f.size) (sym is) ∙ none

found_empty : (path bytes : List ℕ) (found : Found) (calls : List FileCall) → BeginsSo path bytes calls
    → Contains calls (Finds path found) → bytes ≡ [] → found.size ≡ 0
found_empty path bytes found calls (inl (none, is)) there empty =
    absurd (nowhere (subst (λ cs. Contains cs (Finds path found)) is there))
  where
    nowhere : Contains (FindsNothing path ∷ []) (Finds path found) → ⊥
    nowhere (zero, lt, at) = cc at
    nowhere (suc i, lt, at) = omega arith
found_empty path bytes found calls (inr (other, size, is)) there empty =
    first (subst (λ cs. Contains cs (Finds path found)) is there)
  where
    first : Contains (Finds path other ∷ Begins path bytes ∷ []) (Finds path found) → found.size ≡ 0
    first (zero, lt, at) = size_there other found path at (size empty)
    first (suc zero, lt, at) = cc at
    first (suc (suc i), lt, at) = absurd (omega arith)

no_archive : (bytes : List ℕ) → IsMagicOf Archive bytes → bytes ≡ [] → ⊥
no_archive bytes archive none = let h = fifth_of bytes [] none (fifth bytes archive) in grind (arith, h)

-- where an archive there is compared, it begins as one
compared_begins : (draft target first bytes : List ℕ) (found : Found)
    → Contains (Finds target found ∷ Begins target first ∷ Compares draft target 0 ∷ []) (Begins target bytes)
    → first ≡ bytes
compared_begins draft target first bytes found (zero, lt, at) = cc at
compared_begins draft target first bytes found (suc zero, lt, at) = cc at
compared_begins draft target first bytes found (suc (suc zero), lt, at) = cc at
compared_begins draft target first bytes found (suc (suc (suc i)), lt, at) = absurd (omega arith)

empty_tested : (replaces : ReplaceRule) (draft target : List ℕ) (tests : List FileCall) (found : Found)
    → IsTested replaces draft target tests → Contains tests (Finds target found) → Contains tests (Begins target [])
    → found.size ≡ 0
empty_tested SameBytes draft target tests found is there begins = absurd (unasked draft target [] tests is begins)
empty_tested ArchivesBelow draft target tests found (inl is) there begins =
    found_empty target [] found tests is there refl
empty_tested ArchivesBelow draft target tests found (inr (other, bytes, kind, is)) there begins =
    absurd (no_archive bytes kind
    (compared_begins draft target bytes [] other (subst (λ ts. Contains ts (Begins target [])) is begins)))
empty_tested Summaries draft target tests found (bytes, gives, is) there begins =
    found_empty target bytes found tests is there (begins_with target bytes [] tests is begins)
empty_tested Indexes draft target tests found (bytes, gives, is) there begins =
    found_empty target bytes found tests is there (begins_with target bytes [] tests is begins)

pub empty_there : (path text : List ℕ) (replaces : ReplaceRule) (calls : List FileCall) (found : Found)
    (is : IsReplaced path replaces text calls) → Contains is.tests (Finds is.target found)
    → Contains is.tests (Begins is.target []) → found.size ≡ 0
empty_there path text replaces calls found is there begins =
    empty_tested replaces is.draft is.target is.tests found is.tested there begins

-- a file is there, which begins so that it gives way, and with no byte only if it has none
abbrev Gives : ReplaceRule → List ℕ → List FileCall → Type 0
Gives replaces target tests =
    (found : Found) × (bytes : List ℕ) × GivesWay replaces bytes × (bytes ≡ [] → found.size ≡ 0)
    × Contains tests (Finds target found) × Contains tests (Begins target bytes)

-- and what is there is of the kind that is written, unless a slice is
begun_there : (replaces : ReplaceRule) (target bytes : List ℕ) (tests : List FileCall) → GivesWay replaces bytes
    → BeginsSo target bytes tests
    → Contains tests (FindsNothing target) ⊎ Gives replaces target tests
begun_there replaces target bytes tests gives (inl (none, is)) =
    inl (subst (λ ts. Contains ts (FindsNothing target)) (sym is) (0, grind arith, refl))
begun_there replaces target bytes tests gives (inr (found, size, is)) = inr (
  found,
  bytes,
  gives,
  size,
  subst (λ ts. Contains ts (Finds target found)) (sym is) (0, grind arith, refl),
  subst (λ ts. Contains ts (Begins target bytes)) (sym is) (1, grind arith, refl),
)

of_kind : (replaces : ReplaceRule) (draft target : List ℕ) (tests : List FileCall) → IsTested replaces draft target tests
    → (replaces ≡ SameBytes) ⊎ Contains tests (FindsNothing target) ⊎ Gives replaces target tests
of_kind SameBytes draft target tests is = inl refl
of_kind ArchivesBelow draft target tests (inl is) = inr (begun_there ArchivesBelow target [] tests (inl refl) is)
of_kind ArchivesBelow draft target tests (inr (found, bytes, kind, is)) =
    inr (inr (
      found,
      bytes,
      inr kind,
      (λ none. absurd (no_archive bytes kind none)),
      subst (λ ts. Contains ts (Finds target found)) (sym is) (0, grind arith, refl),
      subst (λ ts. Contains ts (Begins target bytes)) (sym is) (1, grind arith, refl),
    ))
of_kind Summaries draft target tests (bytes, gives, is) = inr (begun_there Summaries target bytes tests gives is)
of_kind Indexes draft target tests (bytes, gives, is) = inr (begun_there Indexes target bytes tests gives is)

pub archives_covered : (path text bytes : List ℕ) (replaces : ReplaceRule) (calls : List FileCall)
    (is : IsReplaced path replaces text calls) → Contains is.tests (Begins is.target bytes) → IsMagicOf Archive bytes
    → Contains is.tests (Compares is.draft is.target 0)
archives_covered path text bytes replaces calls is there archive =
    covered replaces is.draft is.target bytes is.tests is.tested there archive

pub kind_there : (path text : List ℕ) (replaces : ReplaceRule) (calls : List FileCall)
    (is : IsReplaced path replaces text calls)
    → (replaces ≡ SameBytes) ⊎ Contains is.tests (FindsNothing is.target) ⊎ Gives replaces is.target is.tests
kind_there path text replaces calls is = of_kind replaces is.draft is.target is.tests is.tested
