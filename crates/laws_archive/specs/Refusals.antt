-- Two calls whose inputs have the same bytes: which input is refused, and the results of the calls. Definitions for
-- laws.
use Rattle.std.specs.Prelude.{◌≡◌, ℕ, List, Result, Ok, Err}
use Rattle.std.specs.List.{AllZip}
use Rattle.command_common.specs.declared.faults.CommandFault.{CommandFault}
use Rattle.command_common.specs.declared.faults.CommandFault.TheVariants.{Input, Output, Report, OutOfMemory}
use Rattle.command_common.specs.declared.faults.InputName.{InputName}
use Rattle.command_common.specs.declared.faults.Status.{Status}
use Rattle.command_common.specs.declared.faults.Why.{Why}
use Rattle.command_common.specs.Ends.{EndsReport, Query}
use Rattle.command_common.specs.Inputs.{IsDeviceFault, IsGiven, Reader}
use Rattle.command_common.specs.Outputs.{Takes, Writer}

-- The bytes of both inputs are known, and are the same.
abbrev pub HoldAlike : {R S : Type 0} → Reader R → Reader S → Type 0
HoldAlike input other = (bytes : List ℕ) × IsGiven input bytes × IsGiven other bytes

-- The two lists have one length, and inputs with one number have the same bytes.
abbrev pub EachHoldAlike : {R S : Type 0} → List (Reader R) → List (Reader S) → Type 0
EachHoldAlike inputs others = AllZip HoldAlike inputs others

-- The same holds for the archives of two calls.
abbrev pub ArchivesHoldAlike : {Q R S T : Type 0} → Reader Q → List (Reader R) → Reader S → List (Reader T) → Type 0
ArchivesHoldAlike archive others also more = HoldAlike archive also × EachHoldAlike others more

-- Two calls that refuse an input, neither for its device, refuse the same input for the same reason.
abbrev pub RefuseOne : (InputName → Why → Type 0) → (InputName → Why → Type 0) → Type 0
RefuseOne Refuses Others = (at other : InputName) (why another : Why) → Refuses at why → Others other another
    → (IsDeviceFault why → ⊥) → (IsDeviceFault another → ⊥) → (at ≡ other) × (why ≡ another)

-- The machine ended the call: a reader or a writer failed, or memory ran out.
abbrev pub IsEndedByMachine : Result Status CommandFault → Type 0
IsEndedByMachine (Ok _) = ⊥
IsEndedByMachine (Err (Input _ why)) = IsDeviceFault why
IsEndedByMachine (Err (Output _)) = Unit {0}
IsEndedByMachine (Err (Report _)) = Unit {0}
IsEndedByMachine (Err OutOfMemory) = Unit {0}

-- Two calls that only report, neither of which the machine ends, have one result, and their reports receive one text.
abbrev pub EndAlike : Query → Query → Type 0
EndAlike query other = (report another : Writer) (result ended : Result Status CommandFault)
    → EndsReport query report result → EndsReport other another ended
    → (IsEndedByMachine result → ⊥) → (IsEndedByMachine ended → ⊥)
    → (result ≡ ended) × ((text : List ℕ) × Takes report text × Takes another text)
