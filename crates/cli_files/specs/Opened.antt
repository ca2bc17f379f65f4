-- A file that is open, or closed at its end.
use Rattle.std.specs.Prelude.{ℕ, List, [], ◌++◌, ◌+◌, drop, length, max, min, take, Option, Some, None}
use Rattle.std.specs.declared.io.Error.{Error}
use Rattle.byte_device.specs.declared.streams.Reading.{Reading}

-- the bytes that an open file has left; none if it is closed
abbrev pub left_of : {R : Type 0} → (R → Option (List ℕ)) → Option R → Option (List ℕ)
left_of left (Some reading) = left reading
left_of left None = Some []

-- the last error of an open file, if it had one; none if it is closed
abbrev pub reason_of : {R : Type 0} → Option (Reading R) → Option Error
reason_of (Some reading) = reading.reason
reason_of None = None

-- the kept first eight bytes of a file, after `bytes` were read at offset `read`
abbrev pub kept : List ℕ → ℕ → List ℕ → List ℕ
kept leading read bytes = take 8 (take read leading ++ (bytes ++ drop (read + length bytes) leading))

-- the number of the first eight bytes that were read by then
abbrev pub kept_count : ℕ → ℕ → ℕ
kept_count read count = max read (min 8 (read + count))
