-- What is told over bytes of an index that are not those of its tables.
use Rattle.std.proofs.Common.{ℕ, List, Option, drop}
use Rattle.table_checked_pages.specs.Pages.{DigestsDecidePages, MayBeStored}
use Rattle.macho_symbols.specs.Found.{FoundRecord}
use Rattle.dwarf_source_frames.specs.Frames.{FrameRecord}
use Rattle.table_symbols.specs.Steps.{AreBytes}
use Rattle.table_source_frames.specs.SliceTable.{HasNoLines}
use Rattle.archive_core.specs.Lookup.{IsOwn}
use Rattle.archive_core.specs.declared.lookup.Where.{Where}
use Rattle.index_format.specs.Entry.{claim_in}
use Rattle.index_lookup.specs.Told.{AreFramesOfPlace, AreFramesToldBy, HasNoLinesBy, IsToldBy}
use Rattle.index_build.specs.Content.{HasTable}

may_still : (index text r : List ℕ) (entries : List (List ℕ)) (table : HasTable index entries r)
    → DigestsDecidePages text (claim_in table.e) table.table → MayBeStored text (claim_in table.e) table.table
may_still index text r entries table tell = record {
  size = table.stored.size;
  root = table.stored.root;
  tells = tell;
}

module _ (index text r : List ℕ) (entries : List (List ℕ)) (table : HasTable index entries r)
    (tell : DigestsDecidePages text (claim_in table.e) table.table) (bytes : AreBytes (drop 33 r)) where
  pub symbols_over : (asked : Where) (own : Option FoundRecord) → IsToldBy text (claim_in table.e) asked own → IsOwn (drop 33 r) asked own
  symbols_over asked own told = told.of_slice (drop 33 r) table.table bytes table.is_table (may_still index text r entries table tell)

  pub frames_over : (asked : Where) (frames : List FrameRecord) → AreFramesToldBy text (claim_in table.e) asked frames
      → AreFramesOfPlace asked (drop 33 r) frames
  frames_over asked frames told = told.of_slice (drop 33 r) table.table bytes table.is_table (may_still index text r entries table tell)

  pub no_lines_over : HasNoLinesBy text (claim_in table.e) → HasNoLines (drop 33 r)
  no_lines_over told = told.of_slice (drop 33 r) table.table bytes table.is_table (may_still index text r entries table tell)
