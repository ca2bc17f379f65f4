use Rattle.std.proofs.Common.{◌≡◌, ◌∙◌, ◌++◌, ap, arith, length}
use Rattle.std.specs.List.{concat}
use Rattle.table_source_frames.specs.LineText.{text_rows}
use Rattle.table_source_frames_build.specs.KeptViews.{kept_view}
use Rattle.table_source_frames_build.specs.PartBytes.{file_rows, scope_rows, text_numbers, texts_at}
use Rattle.table_source_frames_build.specs.WholeText.{head_of}
use Rattle.table_source_frames_build.proofs.LoopLemmas.{all_pushed}
use Rattle.table_source_frames_build.proofs.kept.Kept.table_text.Goals as goal

pub returns : goal.returns
returns c =
    let k = kept_view c.args.self.now in
    let p = c.args.parts.now in
    let long : c.len.result ≡ length c.args.rows.now.bytes.items = omega (arith, c.len.ensures, c.args.rows.now.bytes.ok.0) in
    all_pushed k c.args.steps.now p c.args.len c.args.rows.now.groups.items c.args.rows.now.bytes.items
    c.new-text.result.items c.push_head.new.text.items c.extend_from_slice.new.self.items c.extend_from_slice-2.new.self.items
    c.push_scope_rows.new.text.items c.push_files.new.text.items c.push_text_rows.new.bytes.items
    c.push_texts.new.bytes.items c.requires.len c.requires.groups c.requires.bytes c.new-text.ensures.items
    (c.in_ok-push_head.ensures ∙ ap (λ n. c.new-text.result.items ++ head_of (length c.args.steps.now) n (length p.scopes.order.items)
    (length p.files.order.items) (length p.texts.uses.order.items) c.args.len) long)
    (c.in_ok-extend_from_slice.ensures.items ∙ ap (λ l. c.push_head.new.text.items ++ l) c.deref.ensures.value)
    (c.in_ok-extend_from_slice-2.ensures.items ∙ ap (λ l. c.extend_from_slice.new.self.items ++ l) c.deref-2.ensures.value)
    (c.in_ok-push_scope_rows.ensures ∙ ap (λ l. c.extend_from_slice-2.new.self.items
    ++ scope_rows k p.scopes.order.items p.files.order.items (text_numbers p) l) c.order.ensures)
    (c.in_ok-push_files.ensures ∙ ap (λ l. c.push_scope_rows.new.text.items ++ file_rows k (text_numbers p) l) c.order-2.ensures)
    (c.in_ok-push_text_rows.ensures ∙ ap (λ l. c.push_files.new.text.items ++ text_rows 0 (texts_at k l)) c.order-3.ensures)
    (c.in_ok-push_texts.ensures ∙ ap (λ l. c.push_text_rows.new.bytes.items ++ concat (texts_at k l)) c.order-4.ensures)
