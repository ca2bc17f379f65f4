use Rattle.std.proofs.Common.{◌≡◌, [], map, take}
use Rattle.std.specs.Prelude.{All}
use Rattle.archive_records.specs.Text.{last_of}
use Rattle.index_format.specs.Entry.{HasItsFields, entry_bytes}
use Rattle.index_format.specs.InnerPaged.{PassInPart, bytes_of}
use Rattle.index_format.proofs.part_checking.checked.Given as goal

abbrev pub invariant-reading : goal.invariant-reading
invariant-reading l = record {
  bytes : map entry_bytes l.entries.items ≡ take l.entry-index (bytes_of l.read);
  fields : All HasItsFields l.entries.items;
  pass : PassInPart l.end [] (take l.entry-index (bytes_of l.read));
  last_is : l.last ≡ last_of [] (take l.entry-index (bytes_of l.read));
}
