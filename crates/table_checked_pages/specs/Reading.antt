-- The results of calls that read stored bytes.
use Rattle.std.specs.Prelude.{◌≡◌, ℕ, List, Option, Some, Result, MatchResult}
use Rattle.byte_device.specs.Devices.{FailedIn}
use Rattle.table_checked_pages.specs.declared.fault.CheckFault.{CheckFault}
use Rattle.table_checked_pages.specs.declared.fault.CheckFault.TheVariants.{Changed, Device, OutOfMemory}

-- the number of the device's failures after a call with this error
abbrev pub Blames : ℕ → ℕ → CheckFault → Type 0
Blames old new Changed = new ≡ old
Blames old new Device = FailedIn old new
Blames old new OutOfMemory = new ≡ old

-- the meaning of an error: only `Changed` states that something is absent from the text
abbrev pub IsRefused : Type 0 → CheckFault → Type 0
IsRefused Absent Changed = Absent
IsRefused Absent Device = Unit {0}
IsRefused Absent OutOfMemory = Unit {0}

-- A call reads from a device. Its result is true of the text that the device is known to have; its error is `Changed`
-- only if something is absent from that text. The device keeps its bytes.
pub record ReadsStored {D T : Type 0} (whole : D → Option (List ℕ)) (failures : D → ℕ) (old new : D)
    (result : Result T CheckFault) (IsTrue : List ℕ → T → Type 0) (IsAbsent : List ℕ → Type 0) : Type 0 where
  pub says : (text : List ℕ) → whole old ≡ Some text → MatchResult result (IsTrue text) (IsRefused (IsAbsent text))
  pub keeps : whole new ≡ whole old
  pub counts : MatchResult result (λ _. failures new ≡ failures old) (Blames (failures old) (failures new))
