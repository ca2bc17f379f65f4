use Rattle.std.proofs.Common.{rules, refl, ◌++◌, ◌≡◌, ◌∙◌, ◌+◌, ◌<◌, ◌^◌, length, ap, subst}
use Rattle.std.specs.Prelude.{All, flat_map}
use Rattle.macho_image.specs.SectionViews.{section_view}
use Rattle.macho_symbols.specs.Steps.{AreSteps}
use Rattle.table_symbols.specs.Rows.{IsRow, rows_bytes}
use Rattle.table_symbols.specs.Table.{names_of, section_bytes}
use Rattle.table_symbols.proofs.MakingLemmas.{text_is}
use Rattle.table_symbols.proofs.making.TableText.new.Goals as goal

pub returns : goal.returns
returns c =
    let image = c.args.image.now in
    let sections = c.in_ok-sections.sections.items in
    let small : length c.push_rows.new.text.items + length c.strings_of-strings.result.now + length c.args.lines.items < 2 ^ 64 = search rules in
    let counted : c.len.result ≡ length sections = search rules in
    let long : c.len-2.result ≡ length c.in_ok-rows.rows.items = search rules in
    let lines : c.len-3.result ≡ length c.args.lines.items = search rules in
    text_is image sections c.in_ok-rows.rows.items c.text_base.result c.len.result c.len-2.result _ c.len-3.result _ _ _ _ _
    c.args.lines.items
    c.in_ok-sections.ensures
    (subst (λ b. AreSteps b c.in_ok-rows.rows.items) c.of_read.ensures c.in_ok-rows.ensures) c.text_base.ensures
    c.strings_of-strings.ensures.is counted long refl lines c.in_ok-push_head.ensures.base
    (subst (All IsRow) c.deref-2.ensures.value c.in_ok-push_rows.ensures.fit) c.new-own.ensures.items c.in_ok-push_head.ensures.pushed
    (c.in_ok-push_sections.ensures ∙ ap (λ ss. c.push_head.new.text.items
    ++ flat_map (λ s. section_bytes (names_of (section_view s))) ss) c.deref.ensures.value)
    (c.in_ok-push_rows.ensures.pushed ∙ ap (λ rows. c.push_sections.new.text.items ++ rows_bytes rows) c.deref-2.ensures.value) small
