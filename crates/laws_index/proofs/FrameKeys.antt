-- The key of a frame that is read has parts of their widths.
use Rattle.std.proofs.Common.{◌≡◌, ℕ, ◌<◌, ◌≤◌, ◌^◌, ◌==◌, ◌&&◌, zero, suc, Bool, true, false, cond, List, [], ◌∷◌}
use Rattle.std.proofs.Common.{length, Contains, Option, Some, None, Result, Ok, Err, refl, sym, ap, ◌∙◌, ◌⊎◌, subst}
use Rattle.std.proofs.Common.{inl, inr, arith, length-append}
use Rattle.std.specs.Char.{digit_value, is_digit}
use Rattle.std.specs.List.{AllByRecursion, find, list_all, slice_range}
use Rattle.std.specs.Option.{option_or}
use Rattle.std.specs.Prelude.{drop, nat_lt, option_map, slice_index, take}
use Rattle.std.specs.Str.{bytes_eq}
use Rattle.std.specs.Str.Parse.{AllDigits, digits_value}
use Rattle.std.proofs.Math.Nat.{pow-le-pow_right}
use Rattle.std.proofs.lemmas.Bool.{and_parts}
use Rattle.std.proofs.lemmas.Int.Digits.{digits_value-lt}
use Rattle.std.proofs.lemmas.List.{length-take}
use Rattle.std.proofs.lemmas.Option.{cond_some, same_Some}
use Rattle.uuid.specs.Text.{by_index, byte_of_digits, close_brace, digits_of, has_urn_prefix, open_brace, parsed, parsed_hyphenated, parsed_simple, parsed_urn}
use Rattle.archive_core.specs.Key.{IsKey}
use Rattle.archive_core.specs.declared.keys.ArchKey.{ArchKey}
use Rattle.archive_core.proofs.Members.{in_cons}
use Rattle.text_values.specs.Lines.{Field, Line, counting, fields}
use Rattle.text_values.specs.Words.{NamedArch, arch_key, arch_key_of, arch_named, arch_of, arch_in_cpu_form, named_archs, number_of}
use Rattle.text_input_files.specs.Frames.{fields_frame, frame_then, frame_with, frames_in, frames_of, line_frame}
use Rattle.text_input_files.specs.declared.frame.Frame.{Frame}

-- ---- architectures

-- both numbers of 32 bits
record IsArch (arch : ArchKey) : Type 0 where
  cputype : arch.cputype < 2 ^ 32
  cpusubtype : arch.cpusubtype < 2 ^ 32

below_sixteen : (n : ℕ) → nat_lt n 16 ≡ true → n < 16
below_sixteen n h = grind arith

all_digits : (cs : List ℕ) → list_all (λ c. is_digit c 16) cs ≡ true → AllDigits 16 cs
all_digits [] h = tt
all_digits (c ∷ cs) h =
    let parts = and_parts (is_digit c 16) (list_all (λ d. is_digit d 16) cs) h in
    (below_sixteen (digit_value c) parts.0, all_digits cs parts.1)

short_number : (text : List ℕ) (n : ℕ) → length text ≤ 8 → number_of text ≡ Some n → n < 2 ^ 32
short_number text n short h =
    let found = cond_some (list_all (λ c. is_digit c 16) text) (digits_value 16 text) n h in
    let below = digits_value-lt 16 text (all_digits text found.0) in
    let most : 16 ^ length text ≤ 16 ^ 8 = pow-le-pow_right {n = 16} (omega arith) {i = length text} {j = 8} short in
    omega (arith, below, most, found.1)

two_numbers : (a b : Option ℕ) (arch : ArchKey) → ((n : ℕ) → a ≡ Some n → n < 2 ^ 32)
    → ((n : ℕ) → b ≡ Some n → n < 2 ^ 32) → arch_key_of a b ≡ Some arch → IsArch arch
two_numbers (Some m) (Some n) arch first second h = subst IsArch (same_Some (arch_key m n) arch h)
    (record { cputype = first m refl; cpusubtype = second n refl })
two_numbers a b arch first second h = absurd cc

eight : (text : List ℕ) → length (take 8 text) ≤ 8
eight text = omega (arith, length-take 8 text)

-- what is given only if a test is passed
passed : {X : Type 0} (b : Bool) (x : Option X) (y : X) → cond b x None ≡ Some y → x ≡ Some y
passed true x y h = h
passed false x y h = absurd cc

either : {X : Type 0} (b : Bool) (x z : Option X) (y : X) → cond b x z ≡ Some y → (x ≡ Some y) ⊎ (z ≡ Some y)
either true x z y h = inl h
either false x z y h = inr h

numbered : (text : List ℕ) (arch : ArchKey) → arch_in_cpu_form text ≡ Some arch → IsArch arch
numbered text arch h =
    two_numbers (number_of (slice_range text 4 12)) (number_of (slice_range text 13 21)) arch
    (λ n is. short_number (slice_range text 4 12) n (eight (drop 4 text)) is)
    (λ n is. short_number (slice_range text 13 21) n (eight (drop 13 text)) is) (passed _ _ arch h)

found_arch : (test : NamedArch → Bool) (xs : List NamedArch) (arch : ArchKey) → AllByRecursion (λ n. IsArch n.arch) xs
    → option_map (λ n. n.arch) (find test xs) ≡ Some arch → IsArch arch
found_arch test [] arch all h = absurd cc
found_arch test (x ∷ xs) arch all h = by (test x) (found_arch test xs arch all.1) h
  where
    by : (b : Bool) → (option_map (λ n. n.arch) (find test xs) ≡ Some arch → IsArch arch)
        → option_map (λ n. n.arch) (cond b (Some x) (find test xs)) ≡ Some arch → IsArch arch
    by true later is = subst IsArch (same_Some x.arch arch is) all.0
    by false later is = later is

small : (cputype cpusubtype : ℕ) → cputype < 2 ^ 32 → cpusubtype < 2 ^ 32 → IsArch (arch_key cputype cpusubtype)
small cputype cpusubtype a b = record { cputype = a; cpusubtype = b }

named : (text : List ℕ) (arch : ArchKey) → arch_named text ≡ Some arch → IsArch arch
named text arch h = found_arch (λ n. bytes_eq n.name text) named_archs arch (
  small 0x0100_0007 3 (omega arith) (omega arith),
  (small 0x0100_0007 8 (omega arith) (omega arith), (small 0x0100_000c 0 (omega arith) (omega arith), (small 0x0100_000c 2 (omega arith) (omega arith), tt))),
) h

one_of : (a b : Option ArchKey) (arch : ArchKey) → (a ≡ Some arch → IsArch arch) → (b ≡ Some arch → IsArch arch) → option_or a b ≡ Some arch → IsArch arch
one_of (Some x) b arch f g h = f h
one_of None b arch f g h = g h

arch_read : (text : List ℕ) (arch : ArchKey) → arch_of text ≡ Some arch → IsArch arch
arch_read text arch h = one_of (arch_named text) (arch_in_cpu_form text) arch (named text arch) (numbered text arch) h

-- ---- UUIDs

by_index_long : {X : Type 0} (n : ℕ) (f : ℕ → X) → length (by_index n f) ≡ n
unfolding by_index
by_index_long zero f = refl
by_index_long (suc n) f = omega (arith, by_index_long n f, length-append (by_index n f) (f n ∷ []))

simple_long : (s uuid : List ℕ) → parsed_simple s ≡ Some uuid → length uuid ≡ 16
simple_long s uuid h =
    let is = (cond_some _ (by_index 16 (byte_of_digits s)) uuid h).1 in
    ap length (sym is) ∙ by_index_long 16 (byte_of_digits s)

hyphenated_long : (s uuid : List ℕ) → parsed_hyphenated s ≡ Some uuid → length uuid ≡ 16
hyphenated_long s uuid h = simple_long (digits_of s) uuid (passed _ (parsed_simple (digits_of s)) uuid h)

uuid_read : (s uuid : List ℕ) → parsed s ≡ Some uuid → length uuid ≡ 16
uuid_read s uuid h = elim (either (length s == 32) _ _ uuid h) [
  | inl simple ↦ simple_long s uuid simple
  | inr first ↦ elim (either (length s == 36) _ _ uuid first) [
    | inl hyphenated ↦ hyphenated_long s uuid hyphenated
    | inr second ↦ elim (either (length s == 38) _ _ uuid second) [
      | inl braced ↦ hyphenated_long (take 36 (drop 1 s)) uuid
          (passed ((length s == 38) && (slice_index s 0 == open_brace) && (slice_index s 37 == close_brace))
          (parsed_hyphenated (take 36 (drop 1 s))) uuid braced)
      | inr third ↦ hyphenated_long (drop 9 s) uuid (passed ((length s == 45) && has_urn_prefix s)
          (parsed_hyphenated (drop 9 s)) uuid (passed (length s == 45) (parsed_urn s) uuid third))
    ]
  ]
]

-- ---- frames

frame_read : (u : Option (List ℕ)) (a : Option ArchKey) (l : Option (Option ℕ)) (d : Option ℕ) (frame : Frame)
    → ((x : List ℕ) → u ≡ Some x → length x ≡ 16) → ((x : ArchKey) → a ≡ Some x → IsArch x) → frame_with u a l d
    ≡ Some frame → IsKey frame.key
frame_read (Some u) (Some a) (Some l) (Some d) frame f g h =
    subst (λ (fr : Frame). IsKey fr.key) (same_Some (record { key = record { uuid = u; arch = a }; load = l; address = d }) frame h)
    (record { uuid = f u refl; cputype = (g a refl).cputype; cpusubtype = (g a refl).cpusubtype })
frame_read u a l d frame f g h = absurd cc

fields_read : (fs : List Field) (frame : Frame) → fields_frame fs ≡ Some frame → IsKey frame.key
fields_read (u ∷ a ∷ l ∷ d ∷ []) frame h = frame_read (parsed u) (arch_of a) _ _ frame (uuid_read u) (arch_read a) h
fields_read fs frame h = absurd cc

frames_read : (lines : List (ℕ × Line)) (listed : List Frame) (frame : Frame) → frames_in lines ≡ Ok listed → Contains listed frame → IsKey frame.key
frames_read [] listed frame h there =
    let none : [] ≡ listed = cc in
    absurd (omega (arith, there.1, ap length none))
frames_read (line ∷ lines) listed frame h there = by (line_frame line.1) (frames_in lines) (fields_read (fields line.1))
    (λ rest is fr among. frames_read lines rest fr is among) h
  where
    by : (o : Option Frame) (r : Result (List Frame) ℕ) → ((fr : Frame) → o ≡ Some fr → IsKey fr.key)
        → ((rest : List Frame) → r ≡ Ok rest → (fr : Frame) → Contains rest fr → IsKey fr.key) → frame_then line.0 o r
        ≡ Ok listed → IsKey frame.key
    by (Some first) (Ok rest) f g is =
        let same : first ∷ rest ≡ listed = cc in
        elim (in_cons first rest frame (subst (λ (fs : List Frame). Contains fs frame) (sym same) there)) [
          | inl e ↦ subst (λ (fr : Frame). IsKey fr.key) e (f first refl)
          | inr later ↦ g rest refl frame later
        ]
    by (Some first) (Err n) f g is = absurd cc
    by None r f g is = absurd cc

pub frame_keys : (bytes : List ℕ) (listed : List Frame) (frame : Frame) → frames_of bytes ≡ Ok listed → Contains listed frame → IsKey frame.key
frame_keys bytes listed frame h there = frames_read (counting bytes) listed frame h there
