use Rattle.std.proofs.Common.{◌≡◌}
use Rattle.std.specs.List.{find, filter_map}
use Rattle.macho_image.specs.Kinds.{segment_of, segments}
use Rattle.macho_image.specs.Sections.{is_text}
use Rattle.macho_image.proofs.image.Image.text_base.Given as goal

abbrev pub invariant-loop-command : goal.invariant-loop-command
invariant-loop-command l =
    find is_text (filter_map segment_of l.command-iterator) ≡ find is_text (segments l.self)
