-- The result of reading an index.
use Rattle.std.specs.Prelude.{◌≡◌, ℕ, List, ◌⊎◌, Option, Some, Result, MatchResult}
use Rattle.byte_device.specs.Devices.{FailedIn}
use Rattle.index_format.specs.Fault.{IsIndexFault, IsOfMachine, IsPartOffset}
use Rattle.index_format.specs.Text.{IsIndexText}
use Rattle.index_format.specs.declared.index_fault.IndexFault.{IndexFault}
use Rattle.index_format.specs.declared.index_fault.IndexFaultKind.{IndexFaultKind}
use Rattle.index_format.specs.declared.index_fault.IndexFaultKind.TheVariants.{Device}

-- the number of failures of the device after a call that was refused
abbrev pub Blames : ℕ → ℕ → IndexFaultKind → Type 0
Blames old new Device = FailedIn old new
Blames old new _ = new ≡ old

-- A fault outside the text at the beginning of a part, or this fault of the text.
abbrev pub IsRefused : (List ℕ → IndexFault → Type 0) → List ℕ → IndexFault → Type 0
IsRefused IsFaulty text fault = (IsOfMachine fault.kind × IsPartOffset text fault.offset) ⊎ IsFaulty text fault

-- A call reads from a device. Its value has the first property for the text that the device is known to have, or the
-- text has this fault. The device keeps its bytes.
pub record ReadsText {D T : Type 0} (whole : D → Option (List ℕ)) (failures : D → ℕ) (old new : D)
    (result : Result T IndexFault) (IsTrue : List ℕ → T → Type 0) (IsFaulty : List ℕ → IndexFault → Type 0)
    : Type 0 where
  pub says : (text : List ℕ) → whole old ≡ Some text → MatchResult result (IsTrue text) (IsRefused IsFaulty text)
  pub keeps : whole new ≡ whole old
  pub counts : MatchResult result (λ _. failures new ≡ failures old)
      (λ fault. Blames (failures old) (failures new) fault.kind)

-- The result of reading an index: the text is one with these entries, or it is none and has this fault.
abbrev pub ReadsIndex : {D : Type 0} → (D → Option (List ℕ)) → (D → ℕ) → D → D → Result (List (List ℕ)) IndexFault
    → Type 0
ReadsIndex whole failures old new result = ReadsText whole failures old new result IsIndexText IsIndexFault
