-- Numbers in scripts, and the flaws of other fields.
use Rattle.std.specs.Prelude.{ℕ, Bool, ◌==◌, ◌&&◌, ◌||◌, ◌^◌, not, nat_lt, if◌then◌else◌, length, slice_index}
use Rattle.std.specs.Prelude.{Option, Some, None}
use Rattle.std.specs.Char.{is_ascii_digit}
use Rattle.std.specs.List.{list_all}
use Rattle.std.specs.Str.{all_ascii_digits}
use Rattle.std.specs.Str.Parse.{digits_value}
use Rattle.text_values.specs.Lines.{Field}
use Rattle.text_input_files.specs.declared.numbers.NumberFlaw.{NumberFlaw}
use Rattle.text_input_files.specs.declared.numbers.NumberFlaw.TheVariants.{NotDecimal, LeadingZeros, TooLarge}

-- decimal digits: at least one, and the first of several is not `0`
abbrev pub is_decimal : Field → Bool
is_decimal field = all_ascii_digits field && nat_lt 0 (length field)
    && (length field == 1 || not (slice_index field 0 == 48))

-- a number of at most 4,294,967,295, in decimal digits without leading zeros
abbrev pub number_of : Field → Option ℕ
number_of field =
    if is_decimal field && nat_lt (digits_value 10 field) (2 ^ 32) then Some (digits_value 10 field) else None

-- at least one digit
abbrev pub are_digits : Field → Bool
are_digits field = list_all is_ascii_digit field && not (length field == 0)

-- a `0` is before other bytes
abbrev pub leads_with_zero : Field → Bool
leads_with_zero field = nat_lt 1 (length field) && (slice_index field 0 == 48)

-- the flaw of a field that is no number; if no other flaw applies, it is too large
abbrev pub number_flaw : Field → NumberFlaw
number_flaw field =
    if not (are_digits field) then NotDecimal
    else if leads_with_zero field then LeadingZeros
    else TooLarge
