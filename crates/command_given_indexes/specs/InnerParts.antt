-- Parts that are joined one after another: definitions for private functions. No public contract uses them.
use Rattle.std.specs.Prelude.{◌≡◌, ℕ, List, ◌++◌, Option, Some, None, IfSome, flat_map}
use Rattle.std.specs.List.{AllZip}
use Rattle.archive_core.specs.Content.{Operations}
use Rattle.index_format.specs.declared.fault.PlaceFault.{PlaceFault}
use Rattle.index_format.specs.declared.fault.PlaceFault.TheVariants.{Stale, Device, OutOfMemory}
use Rattle.index_format.specs.Places.{IsNamedBy, entries_under}
use Rattle.archive_records.specs.declared.fault.RecordFaultKind.TheVariants.{Device as DeviceFailed}
use Rattle.command_common.specs.Archives.{merged}
use Rattle.command_common.specs.Inputs.{Reader}
use Rattle.command_common.specs.declared.faults.CommandFault.{CommandFault}
use Rattle.command_common.specs.declared.faults.CommandFault.TheVariants as command
use Rattle.command_common.specs.declared.faults.InputName.TheVariants as inputs
use Rattle.command_common.specs.declared.faults.Why.TheVariants as why
use Rattle.command_given_indexes.specs.Prefixes.{AreNamedUnder, HoldsNamed, IsStaleUnder, IsUnnamedUnder}
use Rattle.command_given_indexes.specs.Together.{AreNamedBy, merged_each}

-- each entry under each of these prefixes names one of the records of its group, in order, and the groups follow the
-- records that were gathered before
pub record HaveGathered (whole : Option (List ℕ)) (prefixes : List (List ℕ)) (entries : List (List ℕ))
    (old new : List (List ℕ)) : Type 0 where
  pub groups : List (List (List ℕ))
  pub named : IfSome whole (λ text. AllZip (λ prefix records.
      AllZip (IsNamedBy text) (entries_under prefix entries) records) prefixes groups)
  pub behind : new ≡ old ++ flat_map (λ records. records) groups

-- why no records were gathered: an entry names no record
abbrev pub IsFaultAmong : List (List ℕ) → List (List ℕ) → List ℕ → PlaceFault → Type 0
IsFaultAmong prefixes entries text (Stale None) = ⊥
IsFaultAmong prefixes entries text (Stale (Some entry)) = IsUnnamedUnder prefixes entries text entry
IsFaultAmong prefixes entries text (Device offset) = Unit {0}
IsFaultAmong prefixes entries text OutOfMemory = Unit {0}

-- the records that the entries under these prefixes name were joined to the content
pub record HasJoinedNamed (whole : Option (List ℕ)) (prefixes : List (List ℕ)) (entries : List (List ℕ))
    (old new : Operations) : Type 0 where
  pub parts : List Operations
  pub content : new ≡ merged old parts
  pub named : IfSome whole (λ text. AreNamedUnder prefixes entries text parts)

-- the same for an input
pub record IsNamedIn {S : Type 0} (archive : Reader S) (prefixes : List (List ℕ)) (entries : List (List ℕ))
    (old new : Operations) : Type 0 where
  pub parts : List Operations
  pub content : new ≡ merged old parts
  pub named : HoldsNamed prefixes archive entries parts

-- why they were not
abbrev pub IsFaultUnder : List (List ℕ) → List (List ℕ) → ℕ → List ℕ → PlaceFault → Type 0
IsFaultUnder prefixes entries size text (Stale entry) = IsStaleUnder prefixes entries size text entry
IsFaultUnder prefixes entries size text (Device offset) = Unit {0}
IsFaultUnder prefixes entries size text OutOfMemory = Unit {0}

-- the same, as a fault of the archive with this number
abbrev pub told_fault : ℕ → PlaceFault → CommandFault
told_fault number (Stale entry) = command.Input (inputs.Index number) (why.Stale entry)
told_fault number (Device offset) =
    command.Input (inputs.Archive number) (why.Record (record { kind = DeviceFailed; offset = offset }))
told_fault number OutOfMemory = command.OutOfMemory

-- the records that entries name in each of these archives were joined
pub record HaveJoinedGroups {P : Type 0} (prefixes : List (List ℕ)) (archives : List (Reader P))
    (all : List (List (List ℕ))) (old new : Operations) : Type 0 where
  pub groups : List (List Operations)
  pub named : AreNamedBy prefixes archives all groups
  pub content : new ≡ merged_each old groups
