use Rattle.std.proofs.Common.{List, ℕ, map, subst, sym}
use Rattle.std.specs.List.{AllZip}
use Rattle.std.specs.List.Sorted.{IsPermutation}
use Rattle.index_format.specs.declared.entry.IndexEntry.{IndexEntry}
use Rattle.index_format.specs.Entry.{placed_bytes}
use Rattle.command_given_indexes.specs.Rows.{IsEntryRow}
use Rattle.command_given_indexes.proofs.UnderRows.{all_under}
use Rattle.command_given_indexes.proofs.rows.sorted_rows.Goals as goal

pub returns : goal.returns
returns c =
    let placed = c.sort_by_offset.new.entries.items in
    record {
      placed = map placed_bytes placed;
      moved = subst (λ (es : List (List ℕ)). IsPermutation es (map placed_bytes placed)) (sym (all_under (map placed_bytes c.args.entries.items)))
          c.sort_by_offset.ensures.moved;
      by_offset = c.sort_by_offset.ensures.sorted;
      told = c.in_ok-rows.rows.items;
      each = subst (λ (es : List IndexEntry). AllZip IsEntryRow (map placed_bytes es) c.in_ok-rows.rows.items) c.deref.ensures.value c.in_ok-rows.ensures;
      by_key = c.in_ok-put_by_key.ensures.sorted;
      stable = c.in_ok-put_by_key.ensures.stable;
    }
