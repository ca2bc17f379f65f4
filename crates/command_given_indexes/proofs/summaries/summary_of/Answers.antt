use Rattle.std.proofs.Common.{◌∙◌, ap, sym, map, take, subst}
use Rattle.std.specs.List.{AllByRecursion}
use Rattle.std.specs.Ordering.{nat_cmp}
use Rattle.std.specs.Cmp.Lexicographic.{slice_cmp}
use Rattle.std.specs.FinSet as set
use Rattle.archive_records.specs.Entry.{IsEntry}
use Rattle.index_format.specs.Entry.{placed_bytes}
use Rattle.command_given_indexes.proofs.Entries.{are_entries}
use Rattle.command_given_indexes.proofs.summaries.summary_of.Goals as goal

pub of_entries-requires : goal.of_entries-requires
of_entries-requires c = subst (AllByRecursion IsEntry) (sym c.in_ok-entries.ensures)
    (are_entries (map placed_bytes c.entries.result.now) c.entries.ensures.indexed.are)

pub returns : goal.returns
returns c = c.of_entries.ensures ∙ ap (set.from_list {R = slice_cmp nat_cmp}) (c.in_ok-entries.ensures ∙ ap (map (take 57)) c.entries.ensures.placed)
