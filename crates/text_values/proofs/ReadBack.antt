-- What is printed is read back.
use Rattle.std.proofs.Common.{◌≡◌, ◌∙◌, ◌<◌, ◌/◌, ◌%◌, ◌^◌, ℕ, zero, suc, true, false, Some, List, [], ◌∷◌, ◌++◌, All}
use Rattle.std.proofs.Common.{codes, length, length-append, refl, sym, ap, arith, pow-suc, inl, inr, slice_index}
use Rattle.std.proofs.Common.{unwrap_or}
use Rattle.std.proofs.lemmas.Bool.{cases_lt, cond_both}
use Rattle.std.proofs.lemmas.Bool.Decides.{nat_tests}
use Rattle.std.proofs.lemmas.Int.Digits.{digits_value_push}
use Rattle.std.proofs.lemmas.List.{get_or_past}
use Rattle.std.proofs.lemmas.List.Folds.{list_all-append}
use Rattle.std.specs.Char.{digit_value, is_digit}
use Rattle.std.specs.Fmt.{digit_glyph}
use Rattle.std.specs.List.{AllByRecursion, find, list_all, slice_range}
use Rattle.std.specs.Option.{option_map}
use Rattle.std.specs.Result.{result_ok}
use Rattle.std.specs.Str.Parse.{digits_value}
use Rattle.hex.proofs.HexLemmas.{decode_sized-encode_lower}
use Rattle.uuid.specs.Text.{hyphenated_text, lower, parsed}
use Rattle.uuid.proofs.RoundTrips.{parses_hyphenated}
use Rattle.archive_core.proofs.Answering.{one_arch}
use Rattle.archive_core.specs.Find.{is_arch}
use Rattle.archive_core.specs.declared.keys.ArchKey.{ArchKey}
use Rattle.archive_core.specs.declared.keys.Digest.{Digest}
use Rattle.text_values.specs.Words.{NamedArch, address_of, address_text, arch_of, arch_text, arch_in_cpu_form, cpu_text}
use Rattle.text_values.specs.Words.{digest_of, digest_text, hex_digits, named_archs, number_of}

-- ---- digits

glyph_value : (d : ℕ) → d < 16 → digit_value (digit_glyph false d) ≡ d
glyph_value d small = grind (arith, nat_tests)

glyph_is_digit : (d : ℕ) → d < 16 → is_digit (digit_glyph false d) 16 ≡ true
glyph_is_digit d small = grind (arith, nat_tests)

pub length-hex_digits : (width n : ℕ) → length (hex_digits width n) ≡ width
unfolding hex_digits
length-hex_digits zero n = refl
length-hex_digits (suc width) n =
    omega (arith, length-append (hex_digits width (n / 16)) (digit_glyph false (n % 16) ∷ []), length-hex_digits width (n / 16))

digits_are : (width n : ℕ) → list_all (λ c. is_digit c 16) (hex_digits width n) ≡ true
unfolding hex_digits
digits_are zero n = refl
digits_are (suc width) n =
    list_all-append (λ c. is_digit c 16) (hex_digits width (n / 16)) (digit_glyph false (n % 16) ∷ [])
    ∙ rw (digits_are width (n / 16), glyph_is_digit (n % 16) (omega arith)) refl

digits_spell : (width n : ℕ) → n < 16 ^ width → digits_value 16 (hex_digits width n) ≡ n
unfolding hex_digits
digits_spell zero n small = omega arith
digits_spell (suc width) n small =
    let high = digits_spell width (n / 16) (omega (arith, pow-suc 16 width)) in
    digits_value_push 16 (hex_digits width (n / 16)) (digit_glyph false (n % 16))
    ∙ rw (high, glyph_value (n % 16) (omega arith)) (omega arith)

-- the digits of a number spell it
number_back : (width n : ℕ) → n < 16 ^ width → number_of (hex_digits width n) ≡ Some n
number_back width n small = rw (digits_are width n, digits_spell width n small) refl

-- ---- addresses

bare_back : (digits : List ℕ) → length digits ≡ 16 → address_of (codes "0x" ++ digits) ≡ number_of digits
bare_back digits sized = rw sized refl

pub address_back : (address : ℕ) → address < 2 ^ 64 → address_of (address_text address) ≡ Some address
unfolding address_text
address_back address small =
    bare_back (hex_digits 16 address) (length-hex_digits 16 address) ∙ number_back 16 address (omega arith)

-- ---- UUIDs and digests

pub uuid_back : (uuid : List ℕ) → length uuid ≡ 16 → All (λ byte. byte < 256) uuid
    → parsed (hyphenated_text lower uuid) ≡ Some uuid
uuid_back uuid sized bytes = sym (parses_hyphenated lower uuid (inl refl) sized bytes)

are_bytes : (xs : List ℕ) → All (λ byte. byte < 256) xs → (i : ℕ) → slice_index xs i < 256
are_bytes xs bytes i = elim (cases_lt i (length xs)) [
  | inl within ↦ bytes i 0 within
  | inr past ↦ rw (get_or_past xs i 0 past) (omega arith)
]

pub digest_back : (digest : Digest) → length digest.0 ≡ 32 → All (λ byte. byte < 256) digest.0
    → digest_of (digest_text digest) ≡ Some digest
unfolding digest_text
digest_back digest sized bytes =
    ap (λ r. option_map (λ xs. record { 0 = xs }) (result_ok r))
    (decode_sized-encode_lower digest.0 32 sized (are_bytes digest.0 bytes))

-- ---- architectures

-- what is printed of the numbers, in its parts
sized_cpu : (arch : ArchKey) → length (cpu_text arch) ≡ 21
unfolding hex_digits
sized_cpu arch = refl

cputype_part : (arch : ArchKey) → slice_range (cpu_text arch) 4 12 ≡ hex_digits 8 arch.cputype
unfolding hex_digits
cputype_part arch = refl

subtype_part : (arch : ArchKey) → slice_range (cpu_text arch) 13 21 ≡ hex_digits 8 arch.cpusubtype
unfolding hex_digits
subtype_part arch = refl

middle_part : (arch : ArchKey) → arch.cpusubtype < 2 ^ 24 → slice_range (cpu_text arch) 12 15 ≡ codes "/00"
unfolding hex_digits
middle_part arch small =
    let first : arch.cpusubtype / 16 / 16 / 16 / 16 / 16 / 16 / 16 ≡ 0 = omega arith in
    let second : arch.cpusubtype / 16 / 16 / 16 / 16 / 16 / 16 ≡ 0 = omega arith in
    rw (first, second) refl

cpu_back : (arch : ArchKey) → arch.cputype < 2 ^ 32 → arch.cpusubtype < 2 ^ 24 → arch_in_cpu_form (cpu_text arch) ≡ Some arch
cpu_back arch cputype cpusubtype =
    rw (
      sized_cpu arch,
      middle_part arch cpusubtype,
      cputype_part arch,
      subtype_part arch,
      number_back 8 arch.cputype (omega arith),
      number_back 8 arch.cpusubtype (omega arith),
    ) refl

-- the word of an architecture, where these have a name
abbrev word_among : List NamedArch → ArchKey → List ℕ
word_among named arch =
    unwrap_or (option_map (λ n. n.name) (find (λ n. is_arch n.arch arch) named)) (cpu_text arch)

among_back : (arch : ArchKey) (named : List NamedArch) → AllByRecursion (λ n. arch_of n.name ≡ Some n.arch) named
    → arch_of (cpu_text arch) ≡ Some arch → arch_of (word_among named arch) ≡ Some arch
among_back arch [] read cpu = cpu
among_back arch (n ∷ named) read cpu =
    cond_both (is_arch n.arch arch) _ _
    (λ o. arch_of (unwrap_or (option_map (λ m. m.name) o) (cpu_text arch)) ≡ Some arch)
    (λ is. read.0 ∙ ap Some (one_arch n.arch arch is)) (λ _. among_back arch named read.1 cpu)

named_back : AllByRecursion (λ n. arch_of n.name ≡ Some n.arch) named_archs
named_back = (refl, (refl, (refl, (refl, tt))))

pub arch_back : (arch : ArchKey) → arch.cputype < 2 ^ 32 → arch.cpusubtype < 2 ^ 24 → arch_of (arch_text arch) ≡ Some arch
unfolding arch_text
arch_back arch cputype cpusubtype =
    among_back arch named_archs named_back (cpu_back arch cputype cpusubtype)
