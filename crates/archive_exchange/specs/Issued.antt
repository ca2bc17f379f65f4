-- The operations that were issued, and the message that an event sent.
use Rattle.std.specs.Prelude.{◌≡◌, ℕ, List, true, length, slice_get, ◌<◌, ◌≤◌, ◌≢◌, Bool, false, ◌&&◌, ◌==◌, [], ◌∷◌}
use Rattle.std.specs.declared.option.Option.{Option}
use Rattle.std.specs.declared.option.Option.TheVariants.{Some}
use Rattle.std.specs.declared.result.Result.TheVariants.{Ok}
use Rattle.std.specs.FinSet as set
use Rattle.sha2.specs.Sha256.{sha256}
use Rattle.archive_core.specs.Content.{Operations}
use Rattle.archive_core.specs.Record.{IsRecord, admission_record}
use Rattle.archive_core.specs.Summary.{entry}
use Rattle.archive_exchange.specs.World.{Event, Take, Retire, Ask, Reply, Deliver, Stop, records, state}
use Rattle.archive_exchange.specs.Reached.{is_accepted, senders, site_or}

-- the operations that an event issues, a Take or a Retire
abbrev pub issues : {F : Type 0} → Option (Event F) → Operations
issues (Some (Take i (Ok parts))) = set.from_list (records parts)
issues (Some (Retire i r)) = set.from_list (r ∷ [])
issues _ = set.empty

-- an accepted Take or Retire of the list issued it
pub record IsIssued {F : Type 0} (sites : ℕ) (events : List (Event F)) (r : List ℕ) : Type 0 where
  pub number : ℕ
  pub accepted : is_accepted sites events (senders sites events number) (slice_get events number) ≡ true
  pub gives : set.contains (issues (slice_get events number)) r ≡ true

-- each operation of the set was issued
abbrev pub AreIssued : {F : Type 0} → ℕ → List (Event F) → Operations → Type 0
AreIssued sites events o = (r : List ℕ) → set.contains o r ≡ true → IsIssued sites events r

-- no two different issued operations share an entry
abbrev pub EntriesDiffer : {F : Type 0} → ℕ → List (Event F) → Type 0
EntriesDiffer sites events = (r s : List ℕ) → IsIssued sites events r → IsIssued sites events s → entry r ≡ entry s
    → r ≡ s

-- the number of the message that event n sends, if it sends one: the number of messages sent before
abbrev pub message_number : {F : Type 0} → ℕ → List (Event F) → ℕ → ℕ
message_number sites events n = length (state sites events n).messages

-- event a is an Ask of site i, event r a Reply of site x to its summary, event k delivers that delta to i
pub record IsExchange {F : Type 0} (sites : ℕ) (events : List (Event F)) (i x a r k : ℕ) : Type 0 where
  pub asker : i < sites
  pub replier : x < sites
  pub first : a < r
  pub second : r < k
  pub ask : slice_get events a ≡ Some (Ask i)
  pub reply : slice_get events r ≡ Some (Reply x (message_number sites events a))
  pub deliver : slice_get events k ≡ Some (Deliver i (message_number sites events r))

-- whether an event is a Take, Retire, Deliver or Stop
abbrev pub is_changing : {F : Type 0} → Option (Event F) → Bool
is_changing (Some (Take i file)) = true
is_changing (Some (Retire i r)) = true
is_changing (Some (Deliver i m)) = true
is_changing (Some (Stop i)) = true
is_changing _ = false

-- from event low to event high site i has no Take, Retire, Deliver or Stop except event d
pub record IsQuiet {F : Type 0} (events : List (Event F)) (i low high d : ℕ) : Type 0 where
  pub quiet : (n : ℕ) → low ≤ n → n ≤ high → n ≢ d
      → (is_changing (slice_get events n) && i == site_or (slice_get events n)) ≡ false

-- each issued operation is a record
abbrev pub AreRecords : {F : Type 0} → ℕ → List (Event F) → Type 0
AreRecords sites events = (r : List ℕ) → IsIssued sites events r → IsRecord r

-- no two different issued slices have the same SHA-256
abbrev pub DigestsDiffer : {F : Type 0} → ℕ → List (Event F) → Type 0
DigestsDiffer sites events =
    (a b : List ℕ) → IsIssued sites events (admission_record a) → IsIssued sites events (admission_record b)
    → sha256 a ≡ sha256 b → a ≡ b
