-- The choice by the entries of indexes, and the result of sending it: definitions for private functions. No public
-- contract uses them.
use Rattle.std.specs.Prelude.{◌≡◌, ℕ, List, Option, None, Some, Result, Ok, Err, slice_index_or, slice_set}
use Rattle.std.specs.List.{AllZip}
use Rattle.archive_core.specs.Key.{key_bytes}
use Rattle.archive_core.specs.declared.keys.Digest.{Digest}
use Rattle.archive_core.specs.declared.keys.SliceKey.{SliceKey}
use Rattle.archive_records.specs.declared.fault.RecordFaultKind.TheVariants.{Device as DeviceFailed}
use Rattle.command_common.specs.Inputs.{Reader, Unfailed, reader}
use Rattle.command_common.specs.Outputs.{Takes, Writer}
use Rattle.command_common.specs.declared.faults.CommandFault.{CommandFault}
use Rattle.command_common.specs.declared.faults.CommandFault.TheVariants.{Input, Output}
use Rattle.command_common.specs.declared.faults.InputName.TheVariants as inputs
use Rattle.command_common.specs.declared.faults.Why.{Why}
use Rattle.command_common.specs.declared.faults.Why.TheVariants as why
use Rattle.command_extract.specs.declared.tested_copy.SendFault.{SendFault}
use Rattle.command_extract.specs.declared.tested_copy.SendFault.TheVariants.{Other, Device, Sink}
use Rattle.index_lookup.specs.Among.{AreTied, EntryAt}
use Rattle.index_lookup.specs.Named.{IsRowAt, Names}
use Rattle.command_extract.specs.Entries.{AreUnchosen, HoldsSlice, IsChosen, StopsSlice}
use Rattle.command_extract.specs.declared.entries.EntryChoice.{EntryChoice}
use Rattle.command_extract.specs.declared.entries.EntryChoice.TheVariants.{One, Undecided, Tied}

-- the choice is the wanted slice, by its entry; or there is none, and these are the rows of those that answer; or
-- entries that answer are tied
abbrev pub IsEntryChoice : SliceKey → Option Digest → List (List (List ℕ)) → EntryChoice → Type 0
IsEntryChoice key digest all (One named) = (x : EntryAt) × IsChosen key digest all x × Names x named
IsEntryChoice key digest all (Undecided rows) =
    (xs : List EntryAt) × AreUnchosen key digest all xs × AllZip IsRowAt xs rows.items
IsEntryChoice key digest all Tied = (digest ≡ None) × AreTied (key_bytes key) all

-- why the record at this offset was not read, if its device failed
abbrev pub unread_record : ℕ → Why
unread_record offset = why.Record (record { kind = DeviceFailed; offset = offset })

-- the fault that a command reports if the bytes of the record at this offset were not sent
abbrev pub told_fault : ℕ → ℕ → ℕ → SendFault → CommandFault
told_fault input number offset Other = Input (inputs.Index input) (why.Stale (Some number))
told_fault input number offset Device = Input (inputs.Archive input) (unread_record offset)
told_fault input number offset (Sink written) = Output written

-- the result of sending the slice of an entry: the draft received it, or the reason why not
abbrev pub SendsSlice : {P : Type 0} → Reader P → EntryAt → Writer → Result (Unit {0}) CommandFault → Type 0
SendsSlice archive x draft (Ok _) =
    (slice : List ℕ) × HoldsSlice archive x slice × Takes draft slice × Unfailed archive
SendsSlice archive x draft (Err fault) = StopsSlice archive x draft fault

-- The same from its archive among several; no other is read.
abbrev pub SendsFrom : {P : Type 0} → (P → Option (List ℕ)) → (P → ℕ) → List P → List P → EntryAt → Writer
    → Result (Unit {0}) CommandFault → Type 0
SendsFrom {P} whole failures old new x draft result =
    (before : P) × (after : P) × (before ≡ slice_index_or old x.input before)
    × (new ≡ slice_set old x.input after) × SendsSlice (reader whole failures before after) x draft result
