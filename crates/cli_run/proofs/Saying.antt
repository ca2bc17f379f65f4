-- What is said, from what its parts did.
use Rattle.std.proofs.Common.{◌≡◌, ◌⊎◌, ℕ, true, List, [], ◌∷◌, ◌++◌, Option, None, refl, string_bytes, inl, inr}
use Rattle.clap.specs.Words.{IsAmong, Text}
use Rattle.clap.specs.declared.error.kind.ErrorKind.TheVariants.{DisplayHelp, DisplayVersion}
use Rattle.cli_files.specs.{FileCalls.FileCall, OutFiles.publishing_calls, declared.published.Published.Published}
use Rattle.cli_arguments.specs.LineFaults.{IsHelpUnlessMemory, IsRefusalUnlessMemory, IsRefusedBy, refusal_of}
use Rattle.cli_arguments.specs.Lines.{error_kinds, is_in_order, named_command}
use Rattle.cli_arguments.specs.declared.line_faults.LineFault.{LineFault}
use Rattle.cli_arguments.specs.declared.line_faults.LineFault.TheVariants.{Help, Refused, OutOfMemory}
use Rattle.command_common.specs.Outputs.{Writer}
use Rattle.cli_standard_error.specs.Ending.{EndsLine, WantsMemory}
use Rattle.cli_run.specs.Ends.{IsHelped, IsRefused}

-- ---- words that give no plan

pub no_plan : (words : List Text) (fault : LineFault) (told standard_error : Writer) (status : ℕ) → EndsLine fault told standard_error status
    → (error_kinds words ≡ [] → is_in_order words ≡ true → fault ≡ OutOfMemory)
    → (error_kinds words ≡ DisplayHelp ∷ [] → IsHelpUnlessMemory fault)
    → (error_kinds words ≡ DisplayVersion ∷ [] → IsHelpUnlessMemory fault)
    → (¬ IsAmong DisplayHelp (error_kinds words) → ¬ IsAmong DisplayVersion (error_kinds words)
    → IsRefusalUnlessMemory fault)
    → (error_kinds words ≡ [] → IsRefusedBy (refusal_of (named_command words)) fault)
    → IsRefused words told standard_error status ⊎ IsHelped words told standard_error status ⊎ WantsMemory told standard_error status
no_plan words OutOfMemory told standard_error status is memory help version refusal telling = inr (inr is)
no_plan words (Refused text) told standard_error status is memory help version refusal telling = inl (record {
  no_plan = λ accepted ordered. cc (memory accepted ordered);
  no_help = help;
  no_version = version;
  text = text;
  accepted = telling;
  refuses = is;
})
no_plan words (Help text) told standard_error status is memory help version refusal telling = inr (inl (record {
  no_plan = λ accepted ordered. cc (memory accepted ordered);
  asked = refusal;
  text = string_bytes text;
  whole = is.0;
  tells = is.1;
  nothing_said = is.2;
  status_is = is.3;
}))

-- nothing was called for an OUT that is as it was
pub none_called : (published : Option Published) (calls : List FileCall) → published ≡ None → calls ≡ []
    → publishing_calls published ++ calls ≡ []
none_called published calls none empty = rw (none, empty) refl
