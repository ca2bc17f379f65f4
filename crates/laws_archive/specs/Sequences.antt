-- Archives that commands write in any order and number, each from archives that earlier commands wrote, with the
-- operations from which each is made.
use Rattle.std.specs.Prelude.{◌≡◌, ℕ, List, [], ◌∷◌, Some, map}
use Rattle.std.specs.List.{AllZip}
use Rattle.std.specs.FinSet as set
use Rattle.archive_core.specs.Content.{Operations, content_of}
use Rattle.archive_core.specs.Record.{IsOperation, record_bytes}
use Rattle.archive_core.specs.Summary as exchange
use Rattle.archive_core.specs.Summary.{Entries}
use Rattle.archive_core.specs.declared.keys.Digest.{Digest}
use Rattle.archive_core.specs.declared.keys.SliceKey.{SliceKey}
use Rattle.archive_core.specs.declared.operations.Operation.{Operation}
use Rattle.archive_core.specs.declared.operations.Operation.TheVariants.{Admit, Retire}
use Rattle.archive_records.specs.Entry.{AreEntries}
use Rattle.archive_records.specs.Text.{AreOperations, IsOperationsText, old_written, summary_text, written}
use Rattle.byte_lazy_inputs.specs.declared.openings.Opening.{Opening}
use Rattle.command_common.specs.Ends.{Command}
use Rattle.command_common.specs.Inputs.{IsGiven, Reader}
use Rattle.command_common.specs.Outputs.{Out}
use Rattle.command_archives.specs.Admit.{admit, images_of}
use Rattle.command_archives.specs.Apply.{apply}
use Rattle.command_archives.specs.Delta.{delta}
use Rattle.command_archives.specs.Merge.{merge}
use Rattle.command_archives.specs.Migrate.{migrate}
use Rattle.command_archives.specs.PassedOver.{Becomes, EachCounted, Outcome, admit_passing, images_from}
use Rattle.command_archives.specs.Retire.{retire}

-- the set of the records of these operations
abbrev pub as_set : List Operation → Operations
as_set operations = set.from_list (map record_bytes operations)

-- the command makes this text of OUT, with some report
abbrev pub Writes : Command → List ℕ → Type 0
Writes command text = (told : List ℕ) × command.Makes text told

-- OUT was new before a call, and has this text after it
abbrev pub HasAtOut : Out → List ℕ → Type 0
HasAtOut out text = (out.draft.old ≡ Some []) × (out.published_new ≡ Some text)

mutual
  -- A command wrote this text to OUT from these operations: those of its archives and those that it adds. R is the type
  -- of the inputs.
  pub data IsOutOf (R : Type 0) : List ℕ → Operations → Type 0 where
    -- `new`: none
    ByNew : IsOutOf R (written set.empty) set.empty
    -- `admit`: those of IN, and the admissions of the files' images
    ByAdmit : (input : Reader R) (files : List (Reader R)) (o : Operations) (texts : List (List ℕ)) (text : List ℕ)
        → IsInputOf R input o
        → AllZip IsGiven files texts
        → Writes (admit input files) text
        → IsOutOf R text (set.union o (as_set (map Admit (images_of texts))))
    -- `admit --keep-going`: those of IN, and the admissions of the images of the accepted files
    ByAdmitPassing : (opening : R → Opening) (input : Reader R) (files : List (Reader R)) (o : Operations)
        (outcomes : List Outcome) (text : List ℕ)
        → IsInputOf R input o
        → EachCounted files
        → AllZip (Becomes opening) files outcomes
        → Writes (admit_passing opening input files) text
        → IsOutOf R text (set.union o (as_set (map Admit (images_from outcomes))))
    -- `retire`: those of IN, and the retirement
    ByRetire : (input : Reader R) (key : SliceKey) (digest : Digest) (o : Operations) (text : List ℕ)
        → IsInputOf R input o
        → IsOperation (Retire key digest)
        → Writes (retire input key digest) text
        → IsOutOf R text (set.union o (as_set (Retire key digest ∷ [])))
    -- `apply`: those of IN, and those of OPS
    ByApply : (input ops : Reader R) (o : Operations) (listed : List ℕ) (operations : List Operation) (text : List ℕ)
        → IsInputOf R input o
        → IsGiven ops listed
        → IsOperationsText listed operations
        → Writes (apply input ops) text
        → IsOutOf R text (set.union o (as_set operations))
    -- `merge`: those of IN and of each FILE
    ByMerge : (input : Reader R) (files : List (Reader R)) (o : Operations) (text : List ℕ)
        → AreInputsOf R (input ∷ files) o
        → Writes (merge input files) text
        → IsOutOf R text o
    -- `migrate`: those of IN
    ByMigrate : (input : Reader R) (o : Operations) (text : List ℕ)
        → IsInputOf R input o
        → Writes (migrate input) text
        → IsOutOf R text o
    -- `delta`: those of the operations in ARCHIVE's content that SUMMARY does not name
    ByDelta : (archive summary : Reader R) (o : Operations) (entries : Entries) (text : List ℕ)
        → IsInputOf R archive o
        → AreEntries entries
        → IsGiven summary (summary_text entries)
        → Writes (delta archive summary) text
        → IsOutOf R text (exchange.delta (content_of o) entries)

  -- An archive that a command reads: the OUT of a command, or the text of version 1 for these operations.
  pub data IsInputOf (R : Type 0) : Reader R → Operations → Type 0 where
    OfCommand : (input : Reader R) (o : Operations) (text : List ℕ)
        → IsOutOf R text o
        → IsGiven input text
        → IsInputOf R input o
    OfVersion1 : (input : Reader R) (o : Operations)
        → AreOperations o
        → IsGiven input (old_written o)
        → IsInputOf R input o

  -- Archives that a command reads, and the operations of all of them.
  pub data AreInputsOf (R : Type 0) : List (Reader R) → Operations → Type 0 where
    None : AreInputsOf R [] set.empty
    More : (input : Reader R) (inputs : List (Reader R)) (o p : Operations)
        → IsInputOf R input o
        → AreInputsOf R inputs p
        → AreInputsOf R (input ∷ inputs) (set.union o p)
