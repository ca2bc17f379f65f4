use Rattle.std.proofs.Common.{◌≡◌, map, take}
use Rattle.text_reports.specs.FrameLists.{lists_view}
use Rattle.index_lookup.specs.Views.{borrowed_in}
use Rattle.command_frames.proofs.tables.borrowed_lists.Given as goal

abbrev pub invariant-lists : goal.invariant-lists
invariant-lists l = lists_view l.borrowed.items ≡ map borrowed_in (take l.list-index l.lists)
