use Rattle.std.proofs.Common.{◌∙◌, ◌++◌, ap, length}
use Rattle.std.specs.Int.{w64, to_be_bytes}
use Rattle.table_source_frames_build.proofs.LoopLemmas.{head_pushed, on_ok_weaker}
use Rattle.table_source_frames_build.proofs.parts.Parts.push_head.Goals as goal

pub returns : goal.returns
returns c =
    on_ok_weaker c.push_u64-7.result
    (head_pushed c.args.steps c.args.step_bytes
    (length c.args.self.now.scopes.order.items) (length c.args.self.now.files.order.items)
    (length c.args.self.now.texts.uses.order.items) c.args.len c.args.text.now.items c.push_u64.new.text.items
    c.push_u64-2.new.text.items c.push_u64-3.new.text.items c.push_u64-4.new.text.items c.push_u64-5.new.text.items
    c.push_u64-6.new.text.items c.push_u64-7.new.text.items c.in_ok-push_u64.ensures
    c.in_ok-push_u64-2.ensures c.in_ok-push_u64-3.ensures
    (c.in_ok-push_u64-4.ensures ∙ ap (λ l. c.push_u64-3.new.text.items ++ to_be_bytes w64 (length l)) c.order.ensures)
    (c.in_ok-push_u64-5.ensures ∙ ap (λ l. c.push_u64-4.new.text.items ++ to_be_bytes w64 (length l))
    c.order-2.ensures)
    (c.in_ok-push_u64-6.ensures ∙ ap (λ l. c.push_u64-5.new.text.items ++ to_be_bytes w64 (length l)) c.order-3.ensures)) c.push_u64-7.ensures
