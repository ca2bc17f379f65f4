-- The files of the system before a command runs.
use Rattle.std.specs.Prelude.{◌≡◌, [], None, option_map, string_bytes}
use Rattle.std.specs.declared.io.traits.Read.{Ghosts as Reads}
use Rattle.std.specs.declared.io.traits.Seek.{Ghosts as Seeks}
use Rattle.std.specs.declared.io.traits.Write.{Ghosts as Writes}
use Rattle.cli_files.specs.OutFiles.{Untouched, stage_of}
use Rattle.cli_files.specs.declared.replaceable.ReplaceRule.TheVariants.{ArchivesBelow}
use Rattle.cli_files.specs.declared.system_files.SystemFiles.{SystemFiles}

-- No input was compared with OUT. OUT has no path, replaces `ArchivesBelow`, did not fail, has no calls, and was not
-- published.
abbrev pub AreFresh : {F T E : Type 0} {reads : Reads T} {writes : Writes T} {seeks : Seeks T} {lists : Reads E}
    → SystemFiles F T E reads writes seeks lists → Type 0
AreFresh files =
    (files.compared.entries ≡ []) × (option_map string_bytes files.out.draft.path ≡ None)
    × (files.out.draft.replaces ≡ ArchivesBelow)
    × (stage_of files.out.draft.state ≡ Untouched) × (files.out.draft.failures ≡ 0)
    × (files.out.draft.calls.entries ≡ []) × (files.out.target.published ≡ None)
