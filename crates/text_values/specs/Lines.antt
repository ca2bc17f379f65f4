-- The lines of an input file, and their fields.
use Rattle.std.specs.Prelude.{ℕ, Bool, false, not, ◌+◌, ◌-◌, ◌==◌, ◌&&◌, nat_lt, if◌then◌else◌}
use Rattle.std.specs.Prelude.{List, [], ◌∷◌, filter, length, map, slice_get, slice_index, Option, Some, None, unwrap_or}
use Rattle.std.specs.List.{count_by, enumerate_from, slice_split}
use Rattle.std.specs.Str.{is_utf8}
use Rattle.std.specs.Borrow.{Bor}

-- a line, without the newline that ends it
abbrev pub Line : Type 0
Line = List ℕ

-- the bytes between single spaces
abbrev pub Field : Type 0
Field = List ℕ

-- the bytes `\n`, a space and `#`
abbrev pub newline : ℕ
newline = 10

abbrev pub space : ℕ
space = 32

abbrev pub hash : ℕ
hash = 35

-- the lines: a newline ends each but the last. So an empty line follows a newline that is the last byte; it is skipped
-- like every empty line
abbrev pub lines : List ℕ → List Line
lines bytes = slice_split (λ b. b == newline) bytes

-- whether a line counts: empty lines are skipped, and lines that begin with `#`
abbrev pub counts : Line → Bool
counts [] = false
counts (first ∷ rest) = not (first == hash)

-- the lines that count, each after the number of the lines before it
abbrev pub counting : List ℕ → List (ℕ × Line)
counting bytes = filter (λ l. counts l.1) (enumerate_from 0 (lines bytes))

-- the line with this number, counted from 1; an empty one if there is none
abbrev pub line_at : List ℕ → ℕ → Line
line_at bytes number = unwrap_or (slice_get (lines bytes) (number - 1)) []

-- such lines, as values of the program
abbrev pub seen : List (ℕ × Bor (List ℕ)) → List (ℕ × Line)
seen lines = map (λ l. (l.0, l.1.now)) lines

-- whether bytes follow the last newline
abbrev pub ends_open : List ℕ → Bool
ends_open bytes = nat_lt 0 (length bytes) && not (slice_index bytes (length bytes - 1) == newline)

-- the number of lines: one for each newline, and one more if bytes follow the last of them
abbrev pub line_count : List ℕ → ℕ
line_count bytes = count_by (λ b. b == newline) bytes + (if ends_open bytes then 1 else 0)

-- the parts of a text between its spaces
abbrev pub parts : List ℕ → List Field
parts text = slice_split (λ b. b == space) text

-- the fields after a field: those of the text after the next space, if there is one
abbrev pub fields_after : Option (List ℕ) → List Field
fields_after None = []
fields_after (Some text) = parts text

-- the fields of a line. A line that is not UTF-8 has none
abbrev pub fields : Line → List Field
fields line = if is_utf8 line then parts line else []
