use Rattle.table_source_frames_build.specs.KeptViews.{kept_view}
use Rattle.table_source_frames_build.specs.PartBytes.{text_numbers}
use Rattle.table_source_frames_build.proofs.LoopLemmas.{on_ok_weaker, scope_pushed}
use Rattle.table_source_frames_build.proofs.kept.Kept.push_scope.Goals as goal

pub returns : goal.returns
returns c =
    on_ok_weaker c.push_u32-5.result
    (scope_pushed (kept_view c.args.self.now) c.args.parts.now.scopes.order.items c.args.parts.now.files.order.items
    (text_numbers c.args.parts.now) c.scope_key_of-key.result _ c.location_key_of-call.result c.number_of.result c.number_of-2.result
    c.number_of-3.result c.args.text.now.items c.push_u32.new.text.items
    c.push_u32-2.new.text.items c.push_u32-3.new.text.items c.push_u32-4.new.text.items c.push_u32-5.new.text.items
    c.scope_key_of-key.ensures c.location_key_of-call.ensures c.number_of.ensures c.number_of-2.ensures c.number_of-3.ensures
    c.in_ok-push_u32.ensures c.in_ok-push_u32-2.ensures
    c.in_ok-push_u32-3.ensures c.in_ok-push_u32-4.ensures) c.push_u32-5.ensures
