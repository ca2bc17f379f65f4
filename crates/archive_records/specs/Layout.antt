-- The layout of records in a file: a tag, the other fields of the head, and an admission's slice. Each number is
-- big-endian.
use Rattle.std.specs.Prelude.{ℕ, ◌+◌, List, length, take, drop, slice_index, nat_lt, ◌==◌}
use Rattle.std.specs.Prelude.{if◌then◌else◌, Option, Some, None, Result, Ok, Err}
use Rattle.std.specs.Int.{w64, from_be_bytes}
use Rattle.archive_records.specs.declared.format.Format.{Format}
use Rattle.archive_records.specs.declared.format.Format.TheVariants.{Summary}
use Rattle.archive_records.specs.Kind.{admission_length, end_length}
use Rattle.archive_records.specs.declared.fault.RecordFaultKind.{RecordFaultKind}
use Rattle.archive_records.specs.declared.fault.RecordFaultKind.TheVariants.{Truncated, BadTag, TooLarge}

-- The length of the head, by its tag: a retirement is tag, UUID, cputype, cpusubtype and digest; an admission's head is
-- tag, UUID, cputype, cpusubtype and the length of its slice; an end record is tag and number of records.
unfoldable pub head_length : Format → ℕ → Option ℕ
head_length file tag = if tag == 1 then Some 57 else if tag == 2 then Some (admission_length file)
    else if tag == 3 then end_length file else None

-- the length of the slice in an admission's head
unfoldable pub slice_length : List ℕ → ℕ
slice_length bytes = from_be_bytes w64 (take 8 (drop 25 bytes))

-- the number in an end record
unfoldable pub record_count : List ℕ → ℕ
record_count bytes = from_be_bytes w64 (take 8 (drop 1 bytes))

-- the number of bytes after the head of an admission: those of its slice; nothing follows an entry
abbrev pub admission_body : Format → List ℕ → ℕ
admission_body Summary bytes = 0
admission_body _ bytes = slice_length bytes

-- the number of bytes after the head; only an admission has any
unfoldable pub body_length : Format → List ℕ → ℕ
body_length file bytes = if slice_index bytes 0 == 2 then admission_body file bytes else 0

-- the greatest length of a slice
abbrev pub largest_slice : ℕ
largest_slice = 4294967295

-- the length of the record with a head of this length at the front of the bytes, or its first fault
unfoldable pub framed_after : Format → ℕ → List ℕ → Result ℕ RecordFaultKind
framed_after file head bytes =
    if nat_lt (length bytes) head then Err Truncated
    else if nat_lt largest_slice (body_length file bytes) then Err TooLarge
    else if nat_lt (length bytes) (head + body_length file bytes) then Err Truncated
    else Ok (head + body_length file bytes)

abbrev pub framed_by : Format → Option ℕ → List ℕ → Result ℕ RecordFaultKind
framed_by file None bytes = Err BadTag
framed_by file (Some head) bytes = framed_after file head bytes

-- the length of the whole record or end record at the front of the bytes, or the first fault of its form
unfoldable pub framed : Format → List ℕ → Result ℕ RecordFaultKind
framed file bytes = if nat_lt (length bytes) 1 then Err Truncated
    else framed_by file (head_length file (slice_index bytes 0)) bytes
