-- The printed forms of architectures, UUIDs, digests and addresses. UUIDs are those of the crate `uuid`:
-- `hyphenated_text lower` is printed, and `parsed` defines which texts are read.
use Rattle.std.specs.Prelude.{ℕ, zero, suc, ◌/◌, ◌%◌, Bool, false, ◌==◌, ◌&&◌, nat_eq, nat_le, if◌then◌else◌, codes}
use Rattle.std.specs.Prelude.{List, [], ◌∷◌, ◌++◌, Option, Some, None, option_map, unwrap_or, drop, length, slice_range}
use Rattle.std.specs.Char.{is_digit}
use Rattle.std.specs.Fmt.{digit_glyph}
use Rattle.std.specs.List.{find, list_all, starts_with}
use Rattle.std.specs.Option.{option_or}
use Rattle.std.specs.Result.{result_ok}
use Rattle.std.specs.Str.{bytes_eq}
use Rattle.std.specs.Str.Parse.{digits_value}
use Rattle.hex.specs.Hex.{decode_sized, encode_lower}
use Rattle.archive_core.specs.Find.{is_arch}
use Rattle.archive_core.specs.declared.keys.ArchKey.{ArchKey}
use Rattle.archive_core.specs.declared.keys.Digest.{Digest}

-- ---- hex digits

-- the last `width` hex digits of a number, in lower case
unfoldable pub hex_digits : ℕ → ℕ → List ℕ
hex_digits zero n = []
hex_digits (suc width) n = hex_digits width (n / 16) ++ digit_glyph false (n % 16) ∷ []

-- the number in a text of hex digits, in either case; none if another byte is in it
abbrev pub number_of : List ℕ → Option ℕ
number_of text = if list_all (λ c. is_digit c 16) text then Some (digits_value 16 text) else None

-- ---- addresses

-- an address as it is printed: `0x` and sixteen digits
unfoldable pub address_text : ℕ → List ℕ
address_text address = codes "0x" ++ hex_digits 16 address

-- the text after an optional `0x`
abbrev pub without_0x : List ℕ → List ℕ
without_0x text = if starts_with nat_eq text (codes "0x") then drop 2 text else text

-- the number in one to sixteen hex digits
abbrev pub short_number_of : List ℕ → Option ℕ
short_number_of digits =
    if nat_le 1 (length digits) && nat_le (length digits) 16 then number_of digits else None

-- the address, or load address, in a text: an optional `0x`, then one to sixteen hex digits
abbrev pub address_of : List ℕ → Option ℕ
address_of text = short_number_of (without_0x text)

-- ---- digests

-- a SHA-256 as it is printed: 64 hex digits in lower case
unfoldable pub digest_text : Digest → List ℕ
digest_text digest = encode_lower digest.0

-- the digest in a text: 64 hex digits, two for each byte
abbrev pub digest_of : List ℕ → Option Digest
digest_of text = option_map (λ bytes. record { 0 = bytes }) (result_ok (decode_sized text 32))

-- ---- architectures

-- an architecture by these numbers of `mach_header_64`
abbrev pub arch_key : ℕ → ℕ → ArchKey
arch_key cputype cpusubtype = record { cputype = cputype; cpusubtype = cpusubtype }

-- an architecture with a name
pub record NamedArch : Type 0 where
  pub name : List ℕ
  pub arch : ArchKey

abbrev pub named_arch : List ℕ → ℕ → ℕ → NamedArch
named_arch name cputype cpusubtype = record { name = name; arch = arch_key cputype cpusubtype }

-- the architectures with a name, by their numbers in mach/machine.h: CPU_TYPE_X86_64 with CPU_SUBTYPE_X86_64_ALL and
-- CPU_SUBTYPE_X86_64_H, and CPU_TYPE_ARM64 with CPU_SUBTYPE_ARM64_ALL and CPU_SUBTYPE_ARM64E
abbrev pub named_archs : List NamedArch
named_archs =
    named_arch (codes "x86_64") 0x0100_0007 3
    ∷ named_arch (codes "x86_64h") 0x0100_0007 8
    ∷ named_arch (codes "arm64") 0x0100_000c 0
    ∷ named_arch (codes "arm64e") 0x0100_000c 2
    ∷ []

-- the name of an architecture
abbrev pub name_of : ArchKey → Option (List ℕ)
name_of arch = option_map (λ named. named.name) (find (λ named. is_arch named.arch arch) named_archs)

-- the architecture with a name
abbrev pub arch_named : List ℕ → Option ArchKey
arch_named name = option_map (λ named. named.arch) (find (λ named. bytes_eq named.name name) named_archs)

-- an architecture by its numbers: `cpu:` CPUTYPE `/` CPUSUBTYPE, eight hex digits each
abbrev pub cpu_text : ArchKey → List ℕ
cpu_text arch = codes "cpu:" ++ hex_digits 8 arch.cputype ++ codes "/" ++ hex_digits 8 arch.cpusubtype

-- an architecture as it is printed: its name, or else its numbers
unfoldable pub arch_text : ArchKey → List ℕ
arch_text arch = unwrap_or (name_of arch) (cpu_text arch)

-- the architecture, if both numbers are there
abbrev pub arch_key_of : Option ℕ → Option ℕ → Option ArchKey
arch_key_of (Some cputype) (Some cpusubtype) = Some (arch_key cputype cpusubtype)
arch_key_of _ _ = None

-- `cpu:`, eight bytes, `/00` and six bytes
abbrev pub is_cpu_form : List ℕ → Bool
is_cpu_form text = (length text == 21) && (starts_with nat_eq text (codes "cpu:")
    && bytes_eq (slice_range text 12 15) (codes "/00"))

-- the architecture in a text of its numbers: eight hex digits each, and the high byte of CPUSUBTYPE is clear
abbrev pub arch_in_cpu_form : List ℕ → Option ArchKey
arch_in_cpu_form text =
    if is_cpu_form text
    then arch_key_of (number_of (slice_range text 4 12)) (number_of (slice_range text 13 21))
    else None

-- the architecture in a text: its name, or else its numbers
abbrev pub arch_of : List ℕ → Option ArchKey
arch_of text = option_or (arch_named text) (arch_in_cpu_form text)
