use Rattle.std.proofs.Common.{◌≡◌, ◌*◌, [], map, take}
use Rattle.std.specs.Prelude.{All}
use Rattle.std.specs.List.{concat}
use Rattle.archive_records.specs.Text.{last_of}
use Rattle.index_format.specs.Entry.{HasItsFields, entry_bytes}
use Rattle.index_format.specs.Text.{PassChecks}
use Rattle.index_format.proofs.checking.entries_in.Given as goal

abbrev pub invariant-reading : goal.invariant-reading
invariant-reading l = record {
  whole : concat (map entry_bytes l.entries.items) ≡ take (122 * l.index) l.bytes;
  fields : All HasItsFields l.entries.items;
  pass : PassChecks l.end [] (map entry_bytes l.entries.items);
  last_is : l.last ≡ last_of [] (map entry_bytes l.entries.items);
}
