-- The answers for addresses under a key, each with its lines.
use Rattle.std.specs.Prelude.{◌≡◌, ℕ, List, if◌then◌else◌, string_bytes}
use Rattle.archive_core.specs.Lookup.{AnswerRecord, answer_view}
use Rattle.archive_core.specs.declared.lookup.Where.{Where}
use Rattle.archive_core.specs.declared.lookup.Where.TheVariants.{File, Loaded}
use Rattle.dwarf_source_frames.specs.Frames.{FrameRecord}
use Rattle.text_reports.specs.Answers.{answer_lines}
use Rattle.command_common.specs.declared.faults.Status.TheVariants.{Done, Partial}
use Rattle.command_queries.specs.Symbolicate.{Answered, is_symbol}
use Rattle.command_queries.specs.declared.places.PlaceAnswer.{PlaceAnswer}

-- the address itself
abbrev pub address_in : Where → ℕ
address_in (File address) = address
address_in (Loaded load address) = address

-- The answer for an address: the status of a command that prints only it, and its lines. The answer satisfies `IsSaid`.
pub record IsPlaceTold (IsSaid : Where → AnswerRecord → List (List FrameRecord) → Type 0) (place : Where)
    (told : PlaceAnswer) : Type 0 where
  pub row : Answered
  pub address_is : row.address ≡ address_in place
  pub is_said : IsSaid place (answer_view row.answer) row.frames
  pub status_is : told.status ≡ if is_symbol row.answer then Done else Partial
  pub text_is : string_bytes told.text ≡ answer_lines row.address row.answer row.frames
