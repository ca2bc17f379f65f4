use Rattle.std.proofs.Common.{◌≡◌, ◌++◌, length}
use Rattle.std.specs.List.{filter_map, flat_map}
use Rattle.macho_image.specs.Kinds.{segment_of}
use Rattle.macho_image.specs.Sections.{sections_in}
use Rattle.macho_image.proofs.sections.SectionsIterator.next.Given as goal

abbrev pub invariant-commands : goal.invariant-commands
invariant-commands l =
    l.self-inside.of_segment ++ flat_map sections_in (filter_map segment_of l.self-inside.commands) ≡ l.fn.self

abbrev pub decreases-commands : goal.decreases-commands
decreases-commands l = length l.self-inside.commands
