-- The search for a section of a name.
use Rattle.std.proofs.Common.{ℕ, List, []}
use Rattle.std.specs.List.{find}
use Rattle.std.specs.Option.{option_map_or}
use Rattle.macho_image.specs.Sections.{SectionRecord}
use Rattle.dwarf_source_frames.specs.DebugSections.{is_named, section_bytes}

-- the bytes of the first of some sections that has a name
abbrev pub bytes_of : List ℕ → List ℕ → List SectionRecord → List ℕ
bytes_of image name items = option_map_or (λ s. section_bytes image s) (find (is_named name) items) []
