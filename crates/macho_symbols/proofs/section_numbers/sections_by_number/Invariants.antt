use Rattle.std.proofs.Common.{◌≡◌, ℕ, ◌-◌, ◌<◌, length, drop, None, slice_index_or}
use Rattle.std.specs.Option.{option_map}
use Rattle.macho_image.specs.Sections.{sections, section_of}
use Rattle.macho_image.specs.SectionViews.{section_view}
use Rattle.macho_symbols.proofs.section_numbers.sections_by_number.Given as goal

abbrev pub invariant-loop-number : goal.invariant-loop-number
invariant-loop-number l = record {
  size : length l.by_number ≡ 256;
  rest : l.sections ≡ drop (l.number - 1) (sections l.image);
  told : (k : ℕ) → k < l.number → option_map section_view (slice_index_or l.by_number k None) ≡ section_of l.image k;
}
