-- The events of a rehearsal and their outcomes, in the definitions of sites (`World`).
use Rattle.std.specs.Prelude.{◌≡◌, ◌≢◌, ℕ, List, drop, map, if◌then◌else◌}
use Rattle.std.specs.declared.option.Option.{Option}
use Rattle.std.specs.declared.option.Option.TheVariants.{None, Some}
use Rattle.std.specs.declared.result.Result.TheVariants.{Ok, Err}
use Rattle.std.specs.List.{AllZip}
use Rattle.sha2.specs.Sha256.{sha256}
use Rattle.archive_core.specs.Valid.{key_of}
use Rattle.archive_core.specs.Record.{admission_record, retirement_record}
use Rattle.archive_records.specs.declared.fault.RecordFault.{RecordFault}
use Rattle.archive_records.specs.declared.fault.RecordFaultKind.TheVariants.{BadMagic}
use Rattle.archive_exchange.specs.World as model
use Rattle.archive_image_admission.specs.File.{IsAcceptedFile, IsTakeFault, is_admissible, parts}
use Rattle.archive_image_admission.specs.declared.fault.TakeFault.{TakeFault}
use Rattle.archive_image_admission.specs.declared.fault.TakeFault.TheVariants.{OutOfMemory}
use Rattle.archive_image_admission.specs.declared.taken.Taken.{Taken}
use Rattle.archive_image_admission.specs.declared.taken.Taken.TheVariants.{Added, Known, Skipped}
use Rattle.text_input_files.specs.declared.event.Event.{Event}
use Rattle.text_input_files.specs.declared.event.Event.TheVariants.{Take, Retire, Full, Ask, Reply, Deliver}
use Rattle.text_input_files.specs.declared.event.Event.TheVariants.{Save, Stop}
use Rattle.archive_exchange.specs.declared.outcome.EventFault.{EventFault}
use Rattle.archive_exchange.specs.declared.outcome.EventFault.TheVariants.{NoSite, NoMessage, NotASummary}
use Rattle.archive_exchange.specs.declared.outcome.EventFault.TheVariants.{Refused as Text_refused, File}
use Rattle.archive_exchange.specs.declared.outcome.Outcome.{Outcome}
use Rattle.archive_exchange.specs.declared.outcome.Outcome.TheVariants.{Took, Retired, Sent, Delivered}
use Rattle.archive_exchange.specs.declared.outcome.Outcome.TheVariants.{Saved, Stopped, Refused}

-- an event in the definitions of sites; a file is refused with a TakeFault
abbrev pub ModelEvent : Type 0
ModelEvent = model.Event TakeFault

-- the record of a part's admission, or none if the part is skipped
abbrev pub part_record : List ℕ → Option (List ℕ)
part_record part = if is_admissible part then Some (admission_record part) else None

-- a file in the model: the records of its parts if it is accepted, otherwise its fault
abbrev pub IsFile : List ℕ → model.File TakeFault → Type 0
IsFile file (Ok records) = IsAcceptedFile file × (records ≡ map part_record (parts file))
IsFile file (Err fault) = IsTakeFault file fault × (fault ≢ OutOfMemory)

-- an event in the model: its file is a file of the model, and its retirement is a record
abbrev pub IsSeen : Event → model.Event TakeFault → Type 0
IsSeen (Take site file) seen = (is : model.File TakeFault) × IsFile file.items is × (seen ≡ model.Take site is)
IsSeen (Retire site key digest) seen = seen ≡ model.Retire site (retirement_record key digest.0)
IsSeen (Full site) seen = seen ≡ model.Full site
IsSeen (Ask site) seen = seen ≡ model.Ask site
IsSeen (Reply site message) seen = seen ≡ model.Reply site message
IsSeen (Deliver site message) seen = seen ≡ model.Deliver site message
IsSeen (Save site) seen = seen ≡ model.Save site
IsSeen (Stop site) seen = seen ≡ model.Stop site

-- the events of a list in the model, in order; laws.one_meaning says that each list has exactly one such list
abbrev pub AreSeen : List Event → List (model.Event TakeFault) → Type 0
AreSeen events seen = AllZip IsSeen events seen

-- the predicate holds for the events in the model
abbrev pub OfEvents : List Event → (List (model.Event TakeFault) → Type 0) → Type 0
OfEvents events Holds = (seen : List (model.Event TakeFault)) → AreSeen events seen → Holds seen

-- the row for the result of a part
abbrev pub row_told : model.Row → Taken
row_told (model.Added r) = Added (key_of (drop 33 r)) (record { 0 = sha256 (drop 33 r) })
row_told (model.Known r) = Known (key_of (drop 33 r)) (record { 0 = sha256 (drop 33 r) })
row_told model.Skipped = Skipped

-- the fault of a text that begins with the magic of another kind of file
abbrev pub other_magic : RecordFault
other_magic = record { kind = BadMagic; offset = 0 }

-- the fault for why an event is refused
abbrev pub fault_told : model.Fault TakeFault → EventFault
fault_told model.NoSite = NoSite
fault_told model.NoMessage = NoMessage
fault_told model.NotASummary = NotASummary other_magic
fault_told model.NotAContent = Text_refused other_magic
fault_told (model.FileRefused fault) = File fault

-- the outcome is that of the model
abbrev pub OutcomeIs : Outcome → model.Outcome TakeFault → Type 0
OutcomeIs (Took rows) answer = (told : List model.Row) × (rows.items ≡ map row_told told) × (answer ≡ model.Took told)
OutcomeIs (Retired new) answer = answer ≡ model.Retired new
OutcomeIs (Sent message) answer = answer ≡ model.Sent message
OutcomeIs Delivered answer = answer ≡ model.Delivered
OutcomeIs Saved answer = answer ≡ model.Saved
OutcomeIs Stopped answer = answer ≡ model.Stopped
OutcomeIs (Refused fault) answer = (why : model.Fault TakeFault) × (fault ≡ fault_told why)
    × (answer ≡ model.Refused why)
