-- The flaws by which a line has no fields with one space between two.
use Rattle.std.specs.Prelude.{ℕ, Bool, true, false, not, ◌==◌, nat_eq, if◌then◌else◌, List, [], ◌∷◌, Option, Some, None}
use Rattle.std.specs.List.{list_any, starts_with}
use Rattle.std.specs.Str.{is_utf8}
use Rattle.text_values.specs.Lines.{Field, Line, parts}
use Rattle.text_values.specs.declared.flaws.LineFlaw.{LineFlaw}
use Rattle.text_values.specs.declared.flaws.LineFlaw.TheVariants.{ByteOrderMark, Tab, CarriageReturn, NotText, Spaces}

-- the byte-order mark of UTF-8
abbrev pub byte_order_mark : List ℕ
byte_order_mark = 0xef ∷ 0xbb ∷ 0xbf ∷ []

-- the bytes `\t` and `\r`
abbrev pub tab : ℕ
tab = 9

abbrev pub carriage_return : ℕ
carriage_return = 13

-- whether a line has this byte
abbrev pub has : ℕ → Line → Bool
has byte line = list_any (λ b. b == byte) line

abbrev pub is_empty : Field → Bool
is_empty [] = true
is_empty (_ ∷ _) = false

-- whether a line has an empty part: two adjacent spaces, or a space at an end
abbrev pub has_empty_part : Line → Bool
has_empty_part line = list_any is_empty (parts line)

-- the flaw of a line, if it has one of these; an empty line has none
abbrev pub line_flaw : Line → Option LineFlaw
line_flaw [] = None
line_flaw line =
    if starts_with nat_eq line byte_order_mark then Some ByteOrderMark
    else if has tab line then Some Tab
    else if has carriage_return line then Some CarriageReturn
    else if not (is_utf8 line) then Some NotText
    else if has_empty_part line then Some Spaces
    else None
