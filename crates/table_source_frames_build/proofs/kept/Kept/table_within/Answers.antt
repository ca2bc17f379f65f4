use Rattle.std.proofs.Common.{◌∙◌, ◌≡◌, ◌≤◌, ◌<◌, ap, arith, length, min, subst, List, ℕ}
use Rattle.std.specs.List.{concat}
use Rattle.table_source_frames_build.specs.KeptViews.{kept_view}
use Rattle.table_source_frames_build.specs.PartBytes.{texts_at}
use Rattle.table_source_frames_build.proofs.WithinLemmas.{fitting, long_none, many_none, steps_none, text_none}
use Rattle.table_source_frames_build.proofs.kept.Kept.table_within.Goals as goal

pub returns-then-not-has_numbers : goal.returns-then-not-has_numbers
returns-then-not-has_numbers c =
    many_none (kept_view c.args.self.now) c.args.self.now.right c.args.strings.now c.args.steps.now c.requires.steps c.in_ok-parts.parts
    c.in_ok-parts.ensures.before c.in_ok-parts.ensures.orders c.args.room c.has_numbers.result c.if-not-has_numbers.true c.has_numbers.ensures.1

pub returns-in_default : goal.returns-in_default
returns-in_default c =
    let k = kept_view c.args.self.now in
    text_none k c.args.self.now.right c.args.strings.now c.args.steps.now c.requires.steps c.in_ok-parts.parts
    c.in_ok-parts.ensures.before c.in_ok-parts.ensures.orders c.args.room c.min-most.result
    (c.min-most.ensures ∙ ap (min c.args.room) c.from-2.ensures)
    (subst (λ (l : List ℕ). c.min-most.result < length (concat (texts_at k l))) c.order.ensures c.in_default.ensures)

pub returns-then-len-from : goal.returns-then-len-from
returns-then-len-from c =
    steps_none (kept_view c.args.self.now) c.args.self.now.right c.args.strings.now c.args.steps.now c.requires.steps c.in_ok-parts.parts
    c.in_ok-parts.ensures.before c.in_ok-parts.ensures.orders c.args.room c.in_ok-rows.rows.bytes.items c.in_ok-rows.ensures.bytes
    (omega (arith, c.if-len-from.true, c.len.ensures, c.from-3.ensures, c.in_ok-rows.rows.bytes.ok.0))

pub returns-then-len-room : goal.returns-then-len-room
returns-then-len-room c =
    long_none (kept_view c.args.self.now) c.args.self.now.right c.args.strings.now c.args.steps.now c.requires.steps c.in_ok-parts.parts
    c.in_ok-parts.ensures.before c.in_ok-parts.ensures.orders c.args.room c.in_ok-text.text.items c.in_ok-text.ensures
    (omega (arith, c.if-len-room.true, c.len-2.ensures, c.in_ok-text.text.ok.0))

pub returns : goal.returns
returns c =
    let k = kept_view c.args.self.now in
    let texts = subst (λ (l : List ℕ). (c.in-Some.len ≡ length (concat (texts_at k l)))
    × (c.in-Some.len ≤ c.min-most.result)) c.order.ensures c.in-Some.ensures in
    fitting k c.args.self.now.right c.args.strings.now c.args.steps.now c.requires.steps c.in_ok-parts.parts
    c.in_ok-parts.ensures.before c.in_ok-parts.ensures.orders c.args.room c.in_ok-rows.rows.bytes.items c.in_ok-text.text.items
    (omega (arith, c.if-steps-from.false, c.from.ensures)) c.in_ok-rows.ensures.bytes
    (omega (arith, c.if-len-from.false, c.len.ensures, c.from-3.ensures, c.in_ok-rows.rows.bytes.ok.0)) (c.has_numbers.ensures.0 c.if-not-has_numbers.false)
    (omega (arith, texts.0, texts.1, c.min-most.ensures, c.from-2.ensures)) c.in_ok-text.ensures
    (omega (arith, c.if-len-room.false, c.len-2.ensures, c.in_ok-text.text.ok.0))
