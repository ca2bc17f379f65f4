-- Contents that are alike under a key answer as one another.
use Rattle.std.proofs.Common.{◌≡◌, ℕ, List, [], ◌++◌, ◌+◌, sym, ap, ◌∙◌}
use Rattle.std.proofs.lemmas.List.{append-nil}
use Rattle.sha2.specs.Sha256.{sha256}
use Rattle.archive_core.specs.Content.{Operations, IsLive, IsAnswering}
use Rattle.archive_core.specs.Key.{key_bytes}
use Rattle.archive_core.specs.Part.{AreAlikeUnder}
use Rattle.archive_core.specs.Record.{admission_record, retirement_record}
use Rattle.archive_core.specs.declared.keys.SliceKey.{SliceKey}
use Rattle.archive_core.proofs.Picked.{admission_under, alike_back, retirement_under}
use Rattle.archive_from_records.specs.Keys.{AnswersAs}

module _ (o p : Operations) (key : SliceKey) (same : AreAlikeUnder (key_bytes key) o p) where
  whole : key_bytes key ≡ key_bytes key ++ []
  whole = sym (append-nil (key_bytes key))

  live_alike : (slice : List ℕ) → IsLive o key slice → IsLive p key slice
  live_alike slice live = record {
    admitted = sym (same (admission_record slice) (admission_under (key_bytes key) [] slice (ap key_bytes live.under ∙ whole))) ∙ live.admitted;
    under = live.under;
    kept = sym (same (retirement_record key (sha256 slice)) (retirement_under (key_bytes key) [] key (sha256 slice) whole)) ∙ live.kept;
  }

answering_alike : (o p : Operations) (key : SliceKey) → AreAlikeUnder (key_bytes key) o p → (slice : List ℕ) → IsAnswering o key slice → IsAnswering p key slice
answering_alike o p key same slice is = record {
  live = live_alike o p key same slice is.live;
  companions_first = λ companion live. is.companions_first companion (live_alike p o key (alike_back (key_bytes key) o p same) companion live);
}

pub answers_alike : (o p : Operations) (key : SliceKey) → AreAlikeUnder (key_bytes key) o p → AnswersAs key o p
answers_alike o p key same slices is = record {
  ascending = is.ascending;
  exactly = λ slice. (
    λ h. answering_alike o p key same slice ((is.exactly slice).0 h),
    λ h. (is.exactly slice).1 (answering_alike p o key (alike_back (key_bytes key) o p same) slice h),
  );
}
