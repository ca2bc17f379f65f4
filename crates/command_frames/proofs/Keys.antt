-- Keys that are asked one after another.
use Rattle.std.proofs.Common.{◌≡◌, ℕ, ◌⊎◌, Bool, List, [], ◌∷◌, length, Contains, Option, refl, sym, ◌∙◌, inl, inr}
use Rattle.std.proofs.Common.{Result, Ok, Err}
use Rattle.std.proofs.lemmas.Slice.Zip.{AllZip-long}
use Rattle.archive_core.specs.Key.{key_bytes}
use Rattle.archive_core.specs.Lookup.{AnswerRecord}
use Rattle.archive_core.specs.declared.keys.SliceKey.{SliceKey}
use Rattle.archive_core.specs.declared.lookup.Where.{Where}
use Rattle.dwarf_source_frames.specs.Frames.{FrameRecord}
use Rattle.command_common.specs.Inputs.{EachUnfailed, IsRefusal, Reader, readers}
use Rattle.command_common.specs.declared.faults.CommandFault.{CommandFault}
use Rattle.command_common.specs.declared.faults.CommandFault.TheVariants.{Input, Output, OutOfMemory, Report}
use Rattle.command_common.specs.declared.faults.InputName.{InputName}
use Rattle.command_common.specs.declared.faults.Why.{Why}
use Rattle.command_given_indexes.specs.Together.{AreAllKept, IsKept}
use Rattle.command_given_indexes.proofs.Groups.{unfailed_through}
use Rattle.index_lookup.specs.AmongAsked.{HaveTexts, each_known}
use Rattle.command_frames.specs.Asking.{IsAnsweredAt, IsAnsweredBySlices, IsAnsweredByTables}
use Rattle.command_frames.specs.InnerAsking.{AsksKeys, AsksSlices, IsKeyFault, IsUnreadBy, IsUntoldBy, NoneFailed}
use Rattle.command_frames.specs.InnerKeyReplies.{IsKeyStale, IsKeyReply, IsRefusedAt, IsToldUnder}
use Rattle.command_frames.specs.declared.tables.KeyReply.{KeyReply}
use Rattle.command_frames.specs.declared.key_answers.KeyAnswers.{KeyAnswers}
use Rattle.command_frames.proofs.Archives.{HaveBytesOf, bytes_kept, kept_then, kept_unfailed, same_bytes, slices_same, stale_same}
use Rattle.command_frames.proofs.Shown.{fault_first, key_as, tables_first, under_as, untold_first}

-- from the states to which the devices came, which were kept
module _ {D P : Type 0} (whole : D → Option (List ℕ)) (failures : D → ℕ) (whole_at : P → Option (List ℕ)) (failures_at : P → ℕ)
    (lines slices : Bool) (all : List (List (List ℕ))) (first mid : List D) (first_at mid_at : List P)
    (texts_kept : each_known whole mid ≡ each_known whole first) (counts_kept : each_known failures mid ≡ each_known failures first)
    (kept : AreAllKept whole_at failures_at first_at mid_at) where
  long_at : length mid_at ≡ length first_at
  long_at = AllZip-long (IsKept whole_at failures_at) first_at mid_at kept

  same_first : HaveBytesOf (readers whole_at failures_at mid_at mid_at) (readers whole_at failures_at first_at first_at)
  same_first = same_bytes whole_at failures_at mid_at mid_at first_at first_at refl refl (sym (bytes_kept whole_at failures_at first_at mid_at kept))

  said_first : (key : SliceKey) (place : Where) (told : AnswerRecord) (frames : List (List FrameRecord))
      → IsAnsweredAt (HaveTexts whole mid) (readers whole_at failures_at mid_at mid_at) all lines key place told frames
      → IsAnsweredAt (HaveTexts whole first) (readers whole_at failures_at first_at first_at) all lines key place told frames
  said_first key place told frames (inl is) = inl (tables_first whole failures lines all first mid texts_kept key place told frames is)
  said_first key place told frames (inr is) =
      inr (slices_same (readers whole_at failures_at mid_at mid_at)
      (readers whole_at failures_at first_at first_at) all lines key place told frames same_first is)

  refused_first : (key : SliceKey) (places : List Where) (at : InputName) (why : Why)
      → IsRefusedAt (HaveTexts whole mid) (readers whole_at failures_at mid_at mid_at) all lines key places at why
      → IsRefusedAt (HaveTexts whole first) (readers whole_at failures_at first_at first_at) all lines key places at why
  refused_first key places at why (inl is) = inl (fault_first whole failures lines all first mid texts_kept (key_bytes key) places at why is)
  refused_first key places at why (inr (tied, is)) =
      inr (
        tied,
        stale_same (readers whole_at failures_at mid_at mid_at) (readers whole_at failures_at first_at first_at) all
            (key_bytes key) at why same_first is,
      )

  -- what is told of the later ones is told of the first
  pub true_first : (one : KeyAnswers)
      → IsToldUnder (IsAnsweredAt (HaveTexts whole mid) (readers whole_at failures_at mid_at mid_at) all lines)
      (IsRefusedAt (HaveTexts whole mid) (readers whole_at failures_at mid_at mid_at) all lines) slices one
      → IsToldUnder (IsAnsweredAt (HaveTexts whole first) (readers whole_at failures_at first_at first_at) all lines)
      (IsRefusedAt (HaveTexts whole first) (readers whole_at failures_at first_at first_at) all lines) slices one
  true_first one is = under_as _ _ _ _ said_first refused_first slices one is

  -- and what is refused under some of these keys is refused under all
  pub refused_among : (sizes : List ℕ) (new : List D) (new_at : List P) (keys others : List (List ℕ)) (places : List Where) (fault : CommandFault)
      → length new_at ≡ length mid_at
      → ((key : List ℕ) → Contains keys key → Contains others key)
      → IsRefusal (λ at why. (EachUnfailed (readers whole_at failures_at mid_at new_at)
      × IsUntoldBy whole failures lines slices keys places all mid new at why)
      ⊎ (NoneFailed failures mid new × IsUnreadBy whole_at failures_at slices keys all sizes mid_at new_at at why))
      (NoneFailed failures mid new × EachUnfailed (readers whole_at failures_at mid_at new_at)) fault
      → IsRefusal (λ at why. (EachUnfailed (readers whole_at failures_at first_at new_at)
      × IsUntoldBy whole failures lines slices others places all first new at why)
      ⊎ (NoneFailed failures first new × IsUnreadBy whole_at failures_at slices others all sizes first_at new_at at why))
      (NoneFailed failures first new × EachUnfailed (readers whole_at failures_at first_at new_at)) fault
  refused_among sizes new new_at keys others places (Input at why) more among (inl (each, r)) = inl (
    unfailed_through whole_at failures_at first_at mid_at new_at long_at (more ∙ long_at) (kept_unfailed whole_at failures_at first_at mid_at kept) each,
    untold_first whole failures lines all first mid texts_kept slices counts_kept new keys others places at why among r,
  )
  refused_among sizes new new_at keys others places (Input at why) more among (inr (none, r)) = inr (
    none ∙ counts_kept,
    record {
      key = r.key;
      key_is = among r.key r.key_is;
      tied = r.tied;
      mid = r.mid;
      kept = kept_then whole_at failures_at first_at mid_at r.mid kept r.kept;
      refused = r.refused;
      of_all = r.of_all;
    },
  )
  refused_among sizes new new_at keys others places OutOfMemory more among (none, each) = (
    none ∙ counts_kept,
    unfailed_through whole_at failures_at first_at mid_at new_at long_at (more ∙ long_at) (kept_unfailed whole_at failures_at first_at mid_at kept) each,
  )
  refused_among sizes new new_at keys others places fault more among r = absurd r

-- ---- slices after tables, of which two are tied

module _ {D P : Type 0} (whole : D → Option (List ℕ)) (failures : D → ℕ) (whole_at : P → Option (List ℕ)) (failures_at : P → ℕ)
    (lines slices : Bool) (all : List (List (List ℕ))) (sizes : List ℕ) (old new : List D) (old_at new_at : List P) (key : SliceKey) (places : List Where) where
  abbrev known : List (Reader P)
  known = readers whole_at failures_at old_at old_at

  abbrev IsTold : KeyReply → Type 0
  IsTold told = IsKeyReply (IsAnsweredAt (HaveTexts whole old) known all lines key)
      (IsRefusedAt (HaveTexts whole old) known all lines key places) slices places told

  pub by_tables : (told : KeyReply) → IsKeyReply (IsAnsweredByTables (HaveTexts whole old) all lines key)
      (IsKeyFault (HaveTexts whole old) all lines (key_bytes key) places) slices places told → IsTold told
  by_tables told is = key_as (IsAnsweredByTables (HaveTexts whole old) all lines key) (IsAnsweredAt (HaveTexts whole old) known all lines key)
      (IsKeyFault (HaveTexts whole old) all lines (key_bytes key) places) (IsRefusedAt (HaveTexts whole old) known all lines key places)
      (λ place answer frames is. inl is) (λ at why is. inl is) slices places told is

  by_slices : (told : KeyReply) → IsKeyReply (IsAnsweredBySlices known all lines key) (IsKeyStale known all key) slices places told → IsTold told
  by_slices told is = key_as (IsAnsweredBySlices known all lines key) (IsAnsweredAt (HaveTexts whole old) known all lines key)
      (IsKeyStale known all key) (IsRefusedAt (HaveTexts whole old) known all lines key places)
      (λ place answer frames is. inr is) (λ at why is. inr is) slices places told is

  pub slices_asked : (result : Result KeyReply CommandFault) → each_known whole new ≡ each_known whole old → NoneFailed failures old new
      → AsksSlices whole_at failures_at slices (key_bytes key ∷ []) all sizes old_at new_at result
      (IsKeyReply (IsAnsweredBySlices known all lines key) (IsKeyStale known all key) slices places)
      → AsksKeys whole failures whole_at failures_at lines slices (key_bytes key ∷ []) places all sizes old new old_at new_at result IsTold
  slices_asked (Ok told) texts none r = record { is = (by_slices told r.is.0, texts, r.is.1); unfailed = (none, r.unfailed) }
  slices_asked (Err (Input at why)) texts none r = inr (none, r)
  slices_asked (Err OutOfMemory) texts none r = (none, r)
  slices_asked (Err (Output n)) texts none r = absurd r
  slices_asked (Err (Report n)) texts none r = absurd r
