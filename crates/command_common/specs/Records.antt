-- Rows and summaries of archives, from their records.
use Rattle.std.specs.Prelude.{◌≡◌, ℕ, List}
use Rattle.archive_core.specs.Content.{Operations}
use Rattle.archive_core.specs.Find.{IsFinds}
use Rattle.archive_core.specs.Lists.{IsList}
use Rattle.archive_core.specs.Summary as exchange
use Rattle.archive_core.specs.Summary.{Entries}
use Rattle.archive_core.specs.declared.find.FindRow.{FindRow}
use Rattle.text_reports.specs.Finds.{find_lines, list_lines}
use Rattle.command_common.specs.Archives.{AreRefused, AreUnfailed, HoldTogether}
use Rattle.command_common.specs.Asked.{Asked, PrintsRows}
use Rattle.command_common.specs.Inputs.{HoldsContent, IsRefusedArchive, Reader, Unfailed}
use Rattle.command_common.specs.declared.faults.Status.{Status}

-- the rows under a UUID in the join of the archives
abbrev pub rows_found : {R S : Type 0} → Reader R → List (Reader S) → List ℕ → Asked (List FindRow)
rows_found archive others uuid = record {
  Has = λ rows. HoldTogether archive others (λ o. IsFinds o uuid rows);
  Refuses = AreRefused archive others;
  Unfailed = AreUnfailed archive others;
}

-- all rows of an archive
abbrev pub rows_listed : {R : Type 0} → Reader R → Asked (List FindRow)
rows_listed archive = record {
  Has = λ rows. HoldsContent archive (λ o. IsList o rows);
  Refuses = IsRefusedArchive 0 archive;
  Unfailed = Unfailed archive;
}

-- the summary of an archive
abbrev pub summary_held : {R : Type 0} → Reader R → Asked Entries
summary_held archive = record {
  Has = λ summary. HoldsContent archive (λ o. summary ≡ exchange.summary o);
  Refuses = IsRefusedArchive 0 archive;
  Unfailed = Unfailed archive;
}

-- a content has rows under a UUID, which have this status and these lines
abbrev pub TellsFound : Operations → List ℕ → Status → List ℕ → Type 0
TellsFound o uuid = PrintsRows (IsFinds o uuid) find_lines

-- the same for all rows of a content
abbrev pub TellsListed : Operations → Status → List ℕ → Type 0
TellsListed o = PrintsRows (IsList o) list_lines
