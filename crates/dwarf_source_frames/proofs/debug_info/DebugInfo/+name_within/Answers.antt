use Rattle.std.proofs.Common.{◌≡◌, ◌<◌, arith, ap, sym, ◌∙◌, Bor, None, List, ℕ}
use Rattle.std.specs.Option.{option_map, option_or}
use Rattle.dwarf_source_frames.specs.Names.{linkage_name, text_in}
use Rattle.dwarf_source_frames.specs.SectionsViews.{sections_view}
use Rattle.dwarf_source_frames.specs.UnitViews.{unit_entry_view}
use Rattle.dwarf_source_frames.proofs.NameLemmas.{name_next, mapped_or}
use Rattle.dwarf_source_frames.proofs.debug_info.DebugInfo.+name_within.Goals as goal

pub returns-in-Some-origin : goal.returns-in-Some-origin
returns-in-Some-origin t c =
    let s = sections_view c.args.self.now.sections in
    let e = unit_entry_view c.args.of.now in
    let some : 0 < c.args.count = omega arith in
    let none : linkage_name s e ≡ None = sym c.in_default.ensures in
    name_next c.args.count c.args.room c.in-Some-origin.left s e (unit_entry_view c.in-Some-origin.origin) (option_map (λ b. b.now) c.args.before)
    (option_map (λ b. b.now) c.or-name.result) (option_map (λ b. b.now) c.name_within.result)
    some none c.in-Some-origin.ensures
    (ap (option_map (λ (b : Bor (List ℕ)). b.now)) c.or-name.ensures
    ∙ mapped_or (λ (b : Bor (List ℕ)). b.now) c.args.before c.text_in-own.result
    ∙ ap (option_or (option_map (λ (b : Bor (List ℕ)). b.now) c.args.before))
    (c.text_in-own.ensures ∙ ap (text_in s e) c.get.ensures))
    c.name_within.ensures
