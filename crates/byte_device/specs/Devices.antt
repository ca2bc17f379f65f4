-- A device during a call, and how a call changes its count of failures.
use Rattle.std.specs.Prelude.{◌≡◌, ℕ, ◌+◌, ◌-◌, ◌^◌, ◌<◌, ◌≤◌, min, MatchResult, Result, List, Option}

-- the greatest count of failures
abbrev pub most_failures : ℕ
most_failures = 2 ^ 64 - 1

-- A device failed once between the two counts: the count rose by one, or stayed at its greatest, at which every call
-- fails.
abbrev pub FailedIn : ℕ → ℕ → Type 0
FailedIn old new = new ≡ min (old + 1) most_failures

-- A call that returns `Ok` leaves the count, which was not at its greatest. Each other call fails once.
abbrev pub CountsFailure : {T E : Type 0} → ℕ → ℕ → Result T E → Type 0
CountsFailure old new r = MatchResult r (λ _. (old < most_failures) × (new ≡ old)) (λ _. FailedIn old new)

-- A device before and after a call. The functions are its bytes, if known, and its number of failures.
pub record Stream (D : Type 0) : Type 0 where
  pub bytes : D → Option (List ℕ)
  pub failures : D → ℕ
  pub old : D
  pub new : D

-- the device between these two states
abbrev pub stream : {D : Type 0} → (D → Option (List ℕ)) → (D → ℕ) → D → D → Stream D
stream bytes failures old new = record { bytes = bytes; failures = failures; old = old; new = new }

-- A read within this number of bytes from the offset failed, on a device that had its bytes and had not failed before.
pub record FailsWithin {D : Type 0} (whole : D → Option (List ℕ)) (failures : D → ℕ) (unread : D → D → ℕ → Type 0)
    (old new : D) (start count : ℕ) : Type 0 where
  pub mid : D
  pub keeps : whole mid ≡ whole old
  pub unfailed : failures mid ≡ failures old
  pub place : ℕ
  pub from : start ≤ place
  pub below : place < start + count
  pub fails : unread mid new place
