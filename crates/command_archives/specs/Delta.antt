-- The archive that `delta` makes from an archive and a summary.
use Rattle.std.specs.Prelude.{◌≡◌, ℕ, List, []}
use Rattle.archive_core.specs.Content.{Operations, IsContent}
use Rattle.archive_core.specs.Summary as exchange
use Rattle.archive_core.specs.Summary.{Entries}
use Rattle.archive_records.specs.Entry.{AreEntries}
use Rattle.archive_records.specs.Text.{summary_text}
use Rattle.command_common.specs.Ends.{Command, MakesArchive, Streamed, writes_in_turn}
use Rattle.command_common.specs.Inputs.{Reader, Holds, Unfailed, IsRefusedSummary, IsRefusedInTurn, IsWantedInTurn}
use Rattle.command_common.specs.Inputs.{HoldsArchive, IsKnown}
use Rattle.command_common.specs.Outputs.{Writer}
use Rattle.command_archives.specs.Begun.{begins_after}

-- ARCHIVE is the text of a content and SUMMARY that of entries; `content` is that of the operations that the entries do
-- not name. The only lines are the sizes.
pub record MakesDelta {R S : Type 0} (archive : Reader R) (summary : Reader S) (content : Operations)
    (lines : List ℕ) : Type 0 where
  pub before : Operations
  pub entries : Entries
  pub is_content : IsContent before
  pub are_entries : AreEntries entries
  pub archive_is : HoldsArchive archive before
  pub summary_is : Holds summary (summary_text entries)
  pub content_is : content ≡ exchange.delta before entries
  pub lines_are : lines ≡ []

-- `delta`, over these inputs
abbrev pub delta : {R S : Type 0} → Reader R → Reader S → Command
delta archive summary = record {
  Makes = MakesArchive (MakesDelta archive summary);
  Refuses = IsRefusedInTurn archive (IsRefusedSummary summary);
  Unfailed = Unfailed archive × Unfailed summary;
}

-- SUMMARY is the text of entries
abbrev pub GivesSummary : {S : Type 0} → Reader S → Type 0
GivesSummary summary = (entries : Entries) × AreEntries entries × Holds summary (summary_text entries)

-- the same while ARCHIVE is read; SUMMARY is read before ARCHIVE
abbrev pub delta_as_it_comes : {R S : Type 0} → Reader R → Reader S → Writer → Streamed
delta_as_it_comes archive summary draft =
    begins_after archive (GivesSummary summary × Unfailed summary) (λ given. delta given summary) (IsKnown summary)
    draft
    (writes_in_turn (delta archive summary) (IsWantedInTurn archive (IsRefusedSummary summary))
    (IsKnown archive × IsKnown summary) draft)
