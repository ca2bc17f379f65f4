-- Which files a command replaces, by their first bytes.
use Rattle.std.specs.Prelude.{◌≡◌, ◌⊎◌, ℕ, List, []}
use Rattle.archive_records.specs.Kind.{kind_of, magic_of}
use Rattle.archive_records.specs.declared.format.Format.{Format}
use Rattle.archive_records.specs.declared.kind.TextKind.{TextKind}
use Rattle.archive_records.specs.declared.kind.TextKind.TheVariants.{Archive, Summary}
use Rattle.index_format.specs.Text.{earlier_magic, index_magic}
use Rattle.cli_files.specs.declared.replaceable.ReplaceRule.{ReplaceRule}
use Rattle.cli_files.specs.declared.replaceable.ReplaceRule.TheVariants.{ArchivesBelow, Summaries, Indexes, SameBytes}

-- A magic of this kind of file, in one of its formats.
abbrev pub IsMagicOf : TextKind → List ℕ → Type 0
IsMagicOf kind bytes = (format : Format) × (kind_of format ≡ kind) × (bytes ≡ magic_of format)

-- A file with these first bytes is of the kind that the command writes. A slice may have any first bytes.
abbrev pub IsOfKind : ReplaceRule → List ℕ → Type 0
IsOfKind ArchivesBelow bytes = IsMagicOf Archive bytes
IsOfKind Summaries bytes = IsMagicOf Summary bytes
IsOfKind Indexes bytes = (bytes ≡ index_magic) ⊎ (bytes ≡ earlier_magic)
IsOfKind SameBytes bytes = Unit {0}

-- A file with these first bytes may be replaced: it is empty, or of that kind.
abbrev pub GivesWay : ReplaceRule → List ℕ → Type 0
GivesWay replaces bytes = (bytes ≡ []) ⊎ IsOfKind replaces bytes
