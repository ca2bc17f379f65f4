-- An archive that keeps slices while it is read: the terms of the inner functions of `keeping`.
use Rattle.std.specs.Prelude.{ℕ, List, Option, Some, None}
use Rattle.archive_core.specs.Content.{Operations, with_record}
use Rattle.archive_core.specs.Record.{admission_record}

-- a content with the slice of the last record, if that was moved out of the reader
abbrev pub with_last : Operations → Option (List ℕ) → Operations
with_last o None = o
with_last o (Some slice) = with_record o (admission_record slice)
