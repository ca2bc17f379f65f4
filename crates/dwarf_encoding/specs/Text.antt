-- Texts that end with a NUL (DWARF 5, section 7.5.5, class string).
use Rattle.std.specs.Prelude.{ℕ, List, Bool, ◌==◌, nat_lt, length, drop, if◌then◌else◌, Option, Some, None}
use Rattle.std.specs.List.{position_or_len, before_first, after_first}

abbrev pub is_nul : ℕ → Bool
is_nul byte = byte == 0

-- the text that begins the bytes, and the bytes after its NUL; None if there is no NUL
abbrev pub text_at : List ℕ → Option (List ℕ × List ℕ)
text_at bytes =
    if nat_lt (position_or_len is_nul bytes) (length bytes)
    then Some (before_first is_nul bytes, after_first is_nul bytes)
    else None

-- the text at an offset of a section of texts; it ends before its NUL or at the end of the section; None past the
-- section
abbrev pub text_in : List ℕ → ℕ → Option (List ℕ)
text_in section offset =
    if nat_lt offset (length section) then Some (before_first is_nul (drop offset section)) else None
