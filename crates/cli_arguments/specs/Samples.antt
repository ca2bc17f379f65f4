-- For each command a command line, and its meaning.
use Rattle.std.specs.Prelude.{◌≡◌, ⊤, ℕ, true, false, List, [], ◌∷◌, Some, None, codes}
use Rattle.clap.specs.Words.{Text}
use Rattle.text_values.specs.Words.{arch_key}
use Rattle.cli_arguments.specs.Arguments.{archs, digests, flag, numbers, one, perhaps, several, text, texts, uuids}
use Rattle.cli_arguments.specs.Lines.{Line, error_kinds, is_in_order, line_of, line_with}
use Rattle.cli_arguments.specs.Table as table

-- words after the program's name, and their line
pub record Sample : Type 0 where
  pub words : List Text
  pub line : Line

abbrev pub sample : List Text → Line → Sample
sample words line = record { words = codes "symarch" ∷ words; line = line }

-- The words have no kind of error and are in order, and their line is this one.
pub record Asks (s : Sample) : Type 0 where
  pub accepted : error_kinds s.words ≡ []
  pub in_order : is_in_order s.words ≡ true
  pub line_is : line_of s.words ≡ Some s.line

abbrev pub EachAsks : List Sample → Type 0
EachAsks [] = ⊤
EachAsks (s ∷ rest) = Asks s × EachAsks rest

-- a UUID in one of its forms, and its bytes
abbrev pub uuid_text : Text
uuid_text = codes "00112233-4455-6677-8899-AABBCCDDEEFF"

abbrev pub uuid_bytes : List ℕ
uuid_bytes = 0 ∷ 17 ∷ 34 ∷ 51 ∷ 68 ∷ 85 ∷ 102 ∷ 119 ∷ 136 ∷ 153 ∷ 170 ∷ 187 ∷ 204 ∷ 221 ∷ 238 ∷ 255 ∷ []

-- the SHA-256 of no bytes
abbrev pub digest_text : Text
digest_text = codes "e3b0c44298fc1c149afbf4c8996fb92427ae41e4649b934ca495991b7852B855"

abbrev pub digest_bytes : List ℕ
digest_bytes =
    0xe3 ∷ 0xb0 ∷ 0xc4 ∷ 0x42 ∷ 0x98 ∷ 0xfc ∷ 0x1c ∷ 0x14 ∷ 0x9a ∷ 0xfb ∷ 0xf4 ∷ 0xc8 ∷ 0x99 ∷ 0x6f ∷ 0xb9 ∷ 0x24
    ∷ 0x27 ∷ 0xae ∷ 0x41 ∷ 0xe4 ∷ 0x64 ∷ 0x9b ∷ 0x93 ∷ 0x4c ∷ 0xa4 ∷ 0x95 ∷ 0x99 ∷ 0x1b ∷ 0x78 ∷ 0x52 ∷ 0xb8 ∷ 0x55 ∷ []

abbrev pub samples : List Sample
samples =
    sample (codes "new" ∷ codes "o" ∷ []) (line_with table.new_command (text (codes "o") ∷ []))
    ∷ sample (codes "admit" ∷ codes "i" ∷ codes "o" ∷ codes "--keep-going" ∷ codes "f" ∷ codes "g" ∷ [])
    (line_with table.admit_command (text (codes "i") ∷ text (codes "o") ∷ texts (flag true)
    ∷ texts (several (codes "f" ∷ codes "g" ∷ [])) ∷ []))
    ∷ sample (codes "retire" ∷ codes "i" ∷ codes "o" ∷ uuid_text ∷ codes "arm64e" ∷ digest_text ∷ [])
    (line_with table.retire_command (text (codes "i") ∷ text (codes "o") ∷ uuids (one uuid_bytes)
    ∷ archs (one (arch_key 0x0100_000c 2)) ∷ digests (one (record { 0 = digest_bytes })) ∷ []))
    ∷ sample (codes "merge" ∷ codes "i" ∷ codes "o" ∷ codes "f" ∷ codes "g" ∷ [])
    (line_with table.merge_command
    (text (codes "i") ∷ text (codes "o") ∷ texts (several (codes "f" ∷ codes "g" ∷ [])) ∷ []))
    ∷ sample (codes "migrate" ∷ codes "i" ∷ codes "o" ∷ [])
    (line_with table.migrate_command (text (codes "i") ∷ text (codes "o") ∷ []))
    ∷ sample (codes "apply" ∷ codes "i" ∷ codes "o" ∷ codes "p" ∷ [])
    (line_with table.apply_command (text (codes "i") ∷ text (codes "o") ∷ text (codes "p") ∷ []))
    ∷ sample (codes "find" ∷ codes "--with" ∷ codes "b" ∷ codes "a" ∷ codes "--with=c" ∷ uuid_text ∷ codes "--index"
    ∷ codes "i" ∷ [])
    (line_with table.find_command (text (codes "a") ∷ uuids (one uuid_bytes)
    ∷ texts (several (codes "b" ∷ codes "c" ∷ []))
    ∷ texts (several (codes "i" ∷ [])) ∷ []))
    ∷ sample (codes "list" ∷ codes "a" ∷ codes "--index" ∷ codes "i" ∷ [])
    (line_with table.list_command (text (codes "a") ∷ texts (perhaps (Some (codes "i"))) ∷ []))
    ∷ sample (codes "extract" ∷ codes "a" ∷ uuid_text ∷ codes "--digest" ∷ digest_text ∷ codes "arm64e" ∷ codes "o"
    ∷ codes "--index=i" ∷ [])
    (line_with table.extract_command (text (codes "a") ∷ uuids (one uuid_bytes) ∷ archs (one (arch_key 0x0100_000c 2))
    ∷ text (codes "o") ∷ digests (perhaps (Some (record { 0 = digest_bytes }))) ∷ texts (several [])
    ∷ texts (several (codes "i" ∷ [])) ∷ []))
    ∷ sample (codes "name" ∷ codes "a" ∷ codes "--" ∷ codes "-n" ∷ [])
    (line_with table.name_command (text (codes "a") ∷ text (codes "-n") ∷ texts (several []) ∷ []))
    ∷ sample (codes "symbolicate" ∷ codes "a" ∷ uuid_text ∷ codes "x86_64h" ∷ codes "10" ∷ codes "--load=0xfF"
    ∷ codes "--with" ∷ codes "b" ∷ codes "--lines" ∷ codes "0x20" ∷ [])
    (line_with table.symbolicate_command (text (codes "a") ∷ uuids (one uuid_bytes)
    ∷ archs (one (arch_key 0x0100_0007 8))
    ∷ numbers (perhaps (Some 255)) ∷ texts (flag true) ∷ texts (flag false) ∷ texts (several (codes "b" ∷ []))
    ∷ texts (several []) ∷ numbers (several (0x10 ∷ 0x20 ∷ [])) ∷ []))
    ∷ sample (codes "frames" ∷ codes "f" ∷ codes "a" ∷ codes "b" ∷ codes "--index" ∷ codes "i" ∷ codes "--slices"
    ∷ codes "--index" ∷ codes "j" ∷ [])
    (line_with table.frames_command (text (codes "f") ∷ texts (flag false) ∷ texts (flag true)
    ∷ texts (several (codes "i" ∷ codes "j" ∷ [])) ∷ texts (several (codes "a" ∷ codes "b" ∷ [])) ∷ []))
    ∷ sample (codes "summary" ∷ codes "a" ∷ codes "o" ∷ [])
    (line_with table.summary_command (text (codes "a") ∷ text (codes "o") ∷ texts (perhaps None) ∷ []))
    ∷ sample (codes "index" ∷ codes "a" ∷ codes "o" ∷ [])
    (line_with table.index_command (text (codes "a") ∷ text (codes "o") ∷ []))
    ∷ sample (codes "delta" ∷ codes "a" ∷ codes "s" ∷ codes "o" ∷ [])
    (line_with table.delta_command (text (codes "a") ∷ text (codes "s") ∷ text (codes "o") ∷ []))
    ∷ sample (codes "rehearse" ∷ codes "s" ∷ []) (line_with table.rehearse_command (text (codes "s") ∷ [])) ∷ []
