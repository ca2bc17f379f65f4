-- What comes of reading the slices of a key under which two are tied.
use Rattle.std.proofs.Common.{◌≡◌, ℕ, ◌&&◌, if◌then◌else◌, Bool, true, false, List, [], ◌∷◌, length, Option, refl}
use Rattle.std.proofs.Common.{Ok, Err}
use Rattle.std.specs.List.{AllZip}
use Rattle.std.proofs.lemmas.Bool.{and_parts}
use Rattle.archive_core.specs.Content.{Operations}
use Rattle.archive_core.specs.Key.{key_bytes}
use Rattle.archive_core.specs.declared.keys.SliceKey.{SliceKey}
use Rattle.archive_core.specs.declared.lookup.Where.{Where}
use Rattle.command_common.specs.Inputs.{AreRead, EachUnfailed, IsRefusal, readers}
use Rattle.command_common.specs.declared.faults.CommandFault.{CommandFault}
use Rattle.command_common.specs.declared.faults.CommandFault.TheVariants.{Input, Output, OutOfMemory, Report}
use Rattle.command_queries.specs.Places.{IsPlaceTold}
use Rattle.command_queries.specs.SourceFrames.{IsAnswerWithFrames}
use Rattle.command_queries.specs.declared.places.PlaceAnswer.{PlaceAnswer}
use Rattle.command_given_indexes.specs.Together.{AreAllKept, HaveSameBytes, HoldNamed, IsFirstRefusedAtPlaces}
use Rattle.command_given_indexes.proofs.Groups.{kept_none}
use Rattle.index_lookup.specs.Among.{AreTied}
use Rattle.command_frames.specs.Asking.{IsAnsweredBySlices, is_stale_entry}
use Rattle.command_frames.specs.InnerAsking.{AsksSlices}
use Rattle.command_frames.specs.InnerKeyReplies.{IsKeyStale, IsKeyReply, reply_to_unread}
use Rattle.command_frames.specs.declared.tables.KeyReply.{KeyReply}
use Rattle.command_frames.specs.declared.tables.KeyReply.TheVariants.{Refused}
use Rattle.command_frames.proofs.Archives.{all_kept_of, kept_unfailed, same_bytes, slices_same, stale_key}
use Rattle.command_frames.proofs.Shown.{one_key, places_as}

module _ {P : Type 0} (whole : P → Option (List ℕ)) (failures : P → ℕ) (key : SliceKey) (all : List (List (List ℕ)))
    (sizes : List ℕ) (old new : List P) (lines slices : Bool) (places : List Where) (tied : AreTied (key_bytes key) all)
    (long : length new ≡ length old) (same : HaveSameBytes whole old new) where
  abbrev IsTold : KeyReply → Type 0
  IsTold told = IsKeyReply (IsAnsweredBySlices (readers whole failures old old) all lines key)
      (IsKeyStale (readers whole failures old old) all key) slices places told

  -- what they hold answers
  pub slices_tell : (content : Operations) (told : List PlaceAnswer)
      → AreRead (HoldNamed (key_bytes key ∷ []) (readers whole failures old new) all content) (EachUnfailed (readers whole failures old new))
      → AllZip (IsPlaceTold (IsAnswerWithFrames content key lines)) places told
      → AllZip (IsPlaceTold (IsAnsweredBySlices (readers whole failures old old) all lines key)) places told × AreAllKept whole failures old new
  slices_tell content told read zip = (
    places_as (IsAnswerWithFrames content key lines) (IsAnsweredBySlices (readers whole failures old old) all lines key)
        (λ place answer frames is. slices_same (readers whole failures old new) (readers whole failures old old) all lines key place answer frames
        (same_bytes whole failures old new old old long refl refl)
        (record { tied = tied; content = content; held = read.is; answered = is })) places told zip,
    all_kept_of whole failures old new long same read.unfailed,
  )

  -- one of them refuses all keys, or the key alone if slices are wanted
  pub unread_told : (fault : CommandFault)
      → IsRefusal (IsFirstRefusedAtPlaces (key_bytes key ∷ []) (readers whole failures old new) all sizes) (EachUnfailed (readers whole failures old new)) fault
      → AsksSlices whole failures slices (key_bytes key ∷ []) all sizes old new (reply_to_unread slices fault) IsTold
  unread_told (Input at why) r = by (slices && is_stale_entry why) refl
    where
      by : (alone : Bool) → (slices && is_stale_entry why) ≡ alone
          → AsksSlices whole failures slices (key_bytes key ∷ []) all sizes old new (if alone then Ok (Refused at why) else Err (Input at why)) IsTold
      by true is =
          let parts = and_parts slices (is_stale_entry why) is in
          let found = stale_key whole failures key all sizes old new at why long same r parts.1 in
          record { is = ((parts.0, (tied, found.0)), found.1); unfailed = kept_unfailed whole failures old new found.1 }
      by false is = record {
        key = key_bytes key;
        key_is = one_key (key_bytes key);
        tied = tied;
        mid = old;
        kept = kept_none whole failures old;
        refused = r;
        of_all = is;
      }
  unread_told OutOfMemory r = r
  unread_told (Output n) r = absurd r
  unread_told (Report n) r = absurd r
