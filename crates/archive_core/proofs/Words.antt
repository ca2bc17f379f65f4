-- Contents and their order, in the words of slices.
use Rattle.std.proofs.Common.{◌≡◌, ℕ, List, true, false, ◌||◌, refl, sym, ap, ◌∙◌, inl, inr}
use Rattle.std.specs.Prelude.{◌⊎◌}
use Rattle.std.specs.FinSet.{contains}
use Rattle.sha2.specs.Sha256.{sha256}
use Rattle.archive_core.specs.Valid.{key_of, IsValid}
use Rattle.archive_core.specs.Record.{IsRecord, admission_record, retirement_record}
use Rattle.archive_core.specs.Content.{Operations, is_admission, covering, is_covered, content_of, IsContent, IsBelow, IsLive}
use Rattle.archive_core.specs.declared.keys.SliceKey.{SliceKey}
use Rattle.archive_core.proofs.Made.{either, or_left, or_right, from_made, made_again, uncovered_of_made}
use Rattle.archive_core.proofs.Entries.{covering_admission}

-- a valid slice is covered just where the retirement of its key and digest is there
pub covered_slice : (o : Operations) (slice : List ℕ) → IsValid slice → is_covered o (admission_record slice)
    ≡ contains o (retirement_record (key_of slice) (sha256 slice))
covered_slice o slice valid = ap (contains o) (covering_admission slice valid)

-- what a set of records makes is a content
pub made_content : (o : Operations) → ((r : List ℕ) → contains o r ≡ true → IsRecord r) → IsContent (content_of o)
made_content o records = record { itself = made_again o; records = λ r h. records r (from_made o r h) }

-- in a content each slice that is admitted is live
pub live_in_content : (o : Operations) (slice : List ℕ) → IsContent o → IsValid slice
    → contains o (admission_record slice) ≡ true → IsLive o (key_of slice) slice
live_in_content o slice content valid there = record {
  admitted = there;
  under = refl;
  kept = sym (covered_slice o slice valid) ∙ uncovered_of_made o content.itself (admission_record slice) there;
}

-- a live slice is live in a content above, or covered there
pub live_above : (o p : Operations) (slice : List ℕ) → IsContent p → IsValid slice → IsBelow o p → IsLive o (key_of slice) slice
    → IsLive p (key_of slice) slice ⊎ (contains p (retirement_record (key_of slice) (sha256 slice)) ≡ true)
live_above o p slice content valid below live =
    let free : contains o (covering (admission_record slice)) ≡ false = ap (contains o) (covering_admission slice valid) ∙ live.kept in
    either (IsLive p (key_of slice) slice ⊎ (contains p (retirement_record (key_of slice) (sha256 slice)) ≡ true))
    (contains p (admission_record slice)) (contains p (covering (admission_record slice)))
    (λ there. inl (live_in_content p slice content valid there))
    (λ covered. inr (ap (contains p) (sym (covering_admission slice valid)) ∙ covered))
    (below.live (admission_record slice) refl live.admitted free)

-- and these words say that a content is below
pub below_of_words : (o p : Operations) → IsContent o
    → ((key : SliceKey) (digest : List ℕ) → contains o (retirement_record key digest) ≡ true → contains p (retirement_record key digest) ≡ true)
    → ((slice : List ℕ) → IsLive o (key_of slice) slice → IsLive p (key_of slice) slice ⊎ (contains p (retirement_record (key_of slice) (sha256 slice)) ≡ true))
    → IsBelow o p
below_of_words o p content retired lives = record {
  retirements = λ r n h. elim (content.records r h) [
    | inl admits ↦ cc (ap is_admission admits.is)
    | inr retires ↦ ap (contains p) retires.is ∙ retired retires.key retires.digest (ap (contains o) (sym retires.is) ∙ h)
  ];
  live = λ r a h _. elim (content.records r h) [
    | inl admits ↦
        ap (λ x. contains p x || contains p (covering x)) admits.is
        ∙ of_live admits.slice admits.valid (lives admits.slice (live_in_content o admits.slice content admits.valid (ap (contains o) (sym admits.is) ∙ h)))
    | inr retires ↦ cc (ap is_admission retires.is)
  ];
}
  where
    of_live : (slice : List ℕ) → IsValid slice → IsLive p (key_of slice) slice
        ⊎ (contains p (retirement_record (key_of slice) (sha256 slice)) ≡ true)
        → (contains p (admission_record slice) || contains p (covering (admission_record slice))) ≡ true
    of_live slice valid (inl live) = or_left _ _ live.admitted
    of_live slice valid (inr covered) = or_right _ _ (ap (contains p) (covering_admission slice valid) ∙ covered)
