-- Archives that are read once more, with the bytes that they had.
use Rattle.std.proofs.Common.{◌≡◌, ℕ, zero, suc, ◌+◌, Bool, true, List, [], ◌∷◌, length, take, drop, map, arith}
use Rattle.std.proofs.Common.{Option, Some, None, refl, sym, ap, ◌∙◌, subst, inl, inr}
use Rattle.std.specs.Prelude.{IfSome, slice_get}
use Rattle.std.specs.List.{AllZip}
use Rattle.archive_core.specs.Content.{Operations}
use Rattle.archive_core.specs.Key.{key_bytes}
use Rattle.archive_core.specs.Lookup.{AnswerRecord}
use Rattle.archive_core.specs.declared.keys.SliceKey.{SliceKey}
use Rattle.archive_core.specs.declared.lookup.Where.{Where}
use Rattle.dwarf_source_frames.specs.Frames.{FrameRecord}
use Rattle.std.proofs.lemmas.Option.{IfSome_then}
use Rattle.index_format.specs.Text.{placed_in}
use Rattle.command_common.specs.Inputs.{EachUnfailed, EachUntouched, Reader, Unfailed, readers}
use Rattle.command_common.specs.declared.faults.InputName.{InputName}
use Rattle.command_common.specs.declared.faults.Why.{Why}
use Rattle.command_common.specs.declared.faults.Why.TheVariants.{Stale}
use Rattle.command_given_indexes.specs.Prefixes.{AreNamedUnder, IsReadFor, IsStaleFor, IsUnnamedUnder}
use Rattle.command_given_indexes.specs.Indexes.{IsUnreadAt}
use Rattle.command_given_indexes.specs.Together.{AreAllKept, AreNamedBy, HaveSameBytes, HoldNamed, IsFirstRefusedAtPlaces, IsRefusedAtPlaces}
use Rattle.command_frames.specs.Asking.{IsAnsweredBySlices, is_stale_entry}
use Rattle.command_frames.specs.Refusals.{IsStaleAt}

-- ---- archives that have the same bytes

module _ {P : Type 0} where
  abbrev HasBytesOf : Reader P → Reader P → Type 0
  HasBytesOf a b = b.left b.old ≡ a.left a.old

  abbrev pub HaveBytesOf : List (Reader P) → List (Reader P) → Type 0
  HaveBytesOf xs ys = AllZip HasBytesOf xs ys

  take_same : (n : ℕ) (xs ys : List (Reader P)) → HaveBytesOf xs ys → HaveBytesOf (take n xs) (take n ys)
  take_same zero xs ys same = tt
  take_same (suc n) [] [] same = tt
  take_same (suc n) (a ∷ xs) (b ∷ ys) same = (same.0, take_same n xs ys same.1)
  take_same (suc n) xs ys same = absurd same

  get_same : (n : ℕ) (xs ys : List (Reader P)) (a : Reader P) → HaveBytesOf xs ys → slice_get xs n ≡ Some a
      → (b : Reader P) × (slice_get ys n ≡ Some b) × HasBytesOf a b
  get_same n [] [] a same at = absurd (cc at)
  get_same zero (x ∷ xs) (y ∷ ys) a same at =
      let is : x ≡ a = cc at in
      (y, refl, subst (λ (z : Reader P). HasBytesOf z y) is same.0)
  get_same (suc n) (x ∷ xs) (y ∷ ys) a same at = get_same n xs ys a same.1 at
  get_same n xs ys a same at = absurd same

  named_same : (prefixes : List (List ℕ)) (xs ys : List (Reader P)) (all : List (List (List ℕ))) (groups : List (List Operations))
      → HaveBytesOf xs ys → AreNamedBy prefixes xs all groups → AreNamedBy prefixes ys all groups
  named_same prefixes [] [] all groups same named = named
  named_same prefixes (a ∷ xs) (b ∷ ys) (es ∷ all) (ps ∷ groups) same named = (
    subst (λ (w : Option (List ℕ)). IfSome w (λ text. AreNamedUnder prefixes (placed_in es) text ps)) (sym same.0) named.0,
    named_same prefixes xs ys all groups same.1 named.1,
  )
  named_same prefixes [] (b ∷ ys) all groups same named = absurd same
  named_same prefixes (a ∷ xs) [] all groups same named = absurd same
  named_same prefixes (a ∷ xs) (b ∷ ys) all groups same named = absurd named

  held_same : (prefixes : List (List ℕ)) (xs ys : List (Reader P)) (all : List (List (List ℕ))) (p : Operations)
      → HaveBytesOf xs ys → HoldNamed prefixes xs all p → HoldNamed prefixes ys all p
  held_same prefixes xs ys all p same held =
      record { groups = held.groups; named = named_same prefixes xs ys all held.groups same held.named; content_is = held.content_is }

  pub slices_same : (xs ys : List (Reader P)) (all : List (List (List ℕ))) (lines : Bool) (key : SliceKey) (asked : Where)
      (answer : AnswerRecord) (frames : List (List FrameRecord)) → HaveBytesOf xs ys
      → IsAnsweredBySlices xs all lines key asked answer frames → IsAnsweredBySlices ys all lines key asked answer frames
  slices_same xs ys all lines key asked answer frames same is = record {
    tied = is.tied;
    content = is.content;
    held = held_same _ xs ys all is.content same is.held;
    answered = is.answered;
  }

  pub stale_same : (xs ys : List (Reader P)) (all : List (List (List ℕ))) (key : List ℕ) (at : InputName) (why : Why)
      → HaveBytesOf xs ys → IsStaleAt xs all key at why → IsStaleAt ys all key at why
  stale_same xs ys all key at why same is =
      let other = get_same is.number xs ys is.archive same is.archive_is in
      record {
        number = is.number;
        groups = is.groups;
        before = named_same (key ∷ []) (take is.number xs) (take is.number ys) (take is.number all) is.groups (take_same is.number xs ys same) is.before;
        archive = other.0;
        archive_is = other.1;
        entries = is.entries;
        entries_are = is.entries_are;
        entry = is.entry;
        at_is = is.at_is;
        why_is = is.why_is;
        stale = subst (λ (w : Option (List ℕ)). IfSome w (λ text. IsUnnamedUnder (key ∷ []) (placed_in is.entries) text is.entry)) (sym other.2) is.stale;
      }

  -- ---- which did not fail

  untouched_unfailed : (xs : List (Reader P)) → EachUntouched xs → EachUnfailed xs
  untouched_unfailed [] each = tt
  untouched_unfailed (a ∷ xs) each = (ap a.failures each.0, untouched_unfailed xs each.1)

  unfailed_besides : (n : ℕ) (xs : List (Reader P)) (a : Reader P) → EachUnfailed (take n xs) → slice_get xs n ≡ Some a
      → Unfailed a → EachUntouched (drop (n + 1) xs) → EachUnfailed xs
  unfailed_besides n [] a before at own after = tt
  unfailed_besides zero (x ∷ xs) a before at own after =
      let is : x ≡ a = cc at in
      (subst Unfailed (sym is) own, untouched_unfailed xs after)
  unfailed_besides (suc n) (x ∷ xs) a before at own after =
      let next : suc n + 1 ≡ suc (n + 1) = omega arith in
      (before.0, unfailed_besides n xs a before.1 at own (subst (λ (m : ℕ). EachUntouched (drop m (x ∷ xs))) next after))

  -- an entry that names no record: no device failed, and it is the first one
  stale_first : (key : List ℕ) (xs : List (Reader P)) (all : List (List (List ℕ))) (sizes : List ℕ) (at : InputName) (why : Why)
      → IsFirstRefusedAtPlaces (key ∷ []) xs all sizes at why → is_stale_entry why ≡ true → IsStaleAt xs all key at why × EachUnfailed xs
  stale_first key xs all sizes at why r entry = by r.refused
    where
      by : IsRefusedAtPlaces (key ∷ []) r.number r.archive r.entries r.size at why → IsStaleAt xs all key at why × EachUnfailed xs
      by (inl unread) = absurd (none (IsReadFor (key ∷ []) (placed_in r.entries)) why unread.1 entry)
        where
          none : (IsRead : ℕ → Type 0) (w : Why) → IsUnreadAt IsRead r.archive w → is_stale_entry w ≡ true → ⊥
          none IsRead (Stale e) u stale = absurd u
          none IsRead w u stale = absurd (cc stale)
      by (inr stale) = by_entry stale.2.0 stale.2.1 stale.2.2
        where
          by_entry : (e : Option ℕ) → why ≡ Stale e → IsStaleFor (key ∷ []) r.archive (placed_in r.entries) r.size e
              → IsStaleAt xs all key at why × EachUnfailed xs
          by_entry None is h = absurd (cc (is, entry))
          by_entry (Some e) is h = (
            record {
              number = r.number;
              groups = r.groups;
              before = r.before;
              archive = r.archive;
              archive_is = r.archive_is.is;
              entries = r.entries;
              entries_are = r.entries_are;
              entry = e;
              at_is = stale.0;
              why_is = is;
              stale = IfSome_then (r.archive.left r.archive.old) h (λ text named. named.1);
            },
            unfailed_besides r.number xs r.archive r.archive_is.unfailed r.archive_is.is stale.1 r.archive_is.behind,
          )

-- ---- from one state to another

module _ {P : Type 0} (whole : P → Option (List ℕ)) (failures : P → ℕ) where
  abbrev between : List P → List P → List (Reader P)
  between old new = readers whole failures old new

  -- whatever the last states are
  pub same_bytes : (old new mid now : List P) → length new ≡ length old → length now ≡ length mid → HaveSameBytes whole old mid
      → HaveBytesOf (between old new) (between mid now)
  same_bytes [] new [] now long more same = tt
  same_bytes (x ∷ xs) (y ∷ ys) (z ∷ zs) (w ∷ ws) long more same =
      let here : whole z ≡ whole x = cc same in
      let rest : map whole zs ≡ map whole xs = cc same in
      (here, same_bytes xs ys zs ws (omega (arith, long)) (omega (arith, more)) rest)
  same_bytes [] new (z ∷ zs) now long more same = absurd (cc same)
  same_bytes (x ∷ xs) new [] now long more same = absurd (cc same)
  same_bytes (x ∷ xs) [] (z ∷ zs) now long more same = absurd (omega (arith, long))
  same_bytes (x ∷ xs) (y ∷ ys) (z ∷ zs) [] long more same = absurd (omega (arith, more))

  pub kept_then : (old mid new : List P) → AreAllKept whole failures old mid → AreAllKept whole failures mid new → AreAllKept whole failures old new
  kept_then [] [] new first second = second
  kept_then (x ∷ xs) (y ∷ ys) (z ∷ zs) first second =
      ((second.0.0 ∙ first.0.0, second.0.1 ∙ first.0.1), kept_then xs ys zs first.1 second.1)
  kept_then (x ∷ xs) (y ∷ ys) [] first second = absurd second
  kept_then [] (y ∷ ys) new first second = absurd first
  kept_then (x ∷ xs) [] new first second = absurd first

  pub kept_unfailed : (old new : List P) → AreAllKept whole failures old new → EachUnfailed (between old new)
  kept_unfailed [] new kept = tt
  kept_unfailed (x ∷ xs) (y ∷ ys) kept = (kept.0.1, kept_unfailed xs ys kept.1)
  kept_unfailed (x ∷ xs) [] kept = absurd kept

  pub all_kept_of : (old new : List P) → length new ≡ length old → HaveSameBytes whole old new → EachUnfailed (between old new)
      → AreAllKept whole failures old new
  all_kept_of [] [] long same each = tt
  all_kept_of [] (y ∷ ys) long same each = absurd (omega (arith, long))
  all_kept_of (x ∷ xs) [] long same each = absurd (omega (arith, long))
  all_kept_of (x ∷ xs) (y ∷ ys) long same each =
      let here : whole y ≡ whole x = cc same in
      let rest : map whole ys ≡ map whole xs = cc same in
      ((here, each.0), all_kept_of xs ys (omega (arith, long)) rest each.1)

  pub bytes_kept : (old new : List P) → AreAllKept whole failures old new → HaveSameBytes whole old new
  bytes_kept [] [] kept = refl
  bytes_kept (x ∷ xs) (y ∷ ys) kept = (λ i. kept.0.0 i ∷ bytes_kept xs ys kept.1 i)
  bytes_kept [] (y ∷ ys) kept = absurd kept
  bytes_kept (x ∷ xs) [] kept = absurd kept

  -- a key whose slice is not there any more is refused alone, and the archives are kept
  pub stale_key : (key : SliceKey) (all : List (List (List ℕ))) (sizes : List ℕ) (old new : List P) (at : InputName) (why : Why)
      → length new ≡ length old → HaveSameBytes whole old new
      → IsFirstRefusedAtPlaces (key_bytes key ∷ []) (between old new) all sizes at why → is_stale_entry why ≡ true
      → IsStaleAt (between old old) all (key_bytes key) at why × AreAllKept whole failures old new
  stale_key key all sizes old new at why long same refused entry =
      let found = stale_first (key_bytes key) (between old new) all sizes at why refused entry in (
        stale_same (between old new) (between old old) all (key_bytes key) at why (same_bytes old new old old long refl refl) found.0,
        all_kept_of old new long same found.1,
      )
