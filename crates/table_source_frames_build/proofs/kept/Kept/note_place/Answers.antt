use Rattle.std.proofs.Common.{arith, subst, sym, ◌∙◌, ◌+◌, ◌-◌, List, ℕ, set}
use Rattle.std.proofs.lemmas.List.{get_or_read}
use Rattle.table_source_frames_build.specs.Kept.{KeptRecord}
use Rattle.table_source_frames_build.specs.KeptViews.{kept_view}
use Rattle.table_source_frames_build.specs.Places.{AreNoted}
use Rattle.table_source_frames_build.proofs.NoteLemmas.{note_has, note_none, note_now}
use Rattle.table_source_frames_build.proofs.kept.Kept.note_place.Goals as goal

pub returns-in_default : goal.returns-in_default
returns-in_default c =
    let k : KeptRecord = kept_view c.args.self.now in
    subst (λ (name : List ℕ). AreNoted k name c.args.place c.args.places.now.items c.args.places.now.items) c.string_at.ensures
    (note_none k c.args.self.now.right c.string_at.result.now c.args.place c.args.places.now.items c.requires.count c.in_default.ensures)

pub returns-then-index-ne0 : goal.returns-then-index-ne0
returns-then-index-ne0 c =
    let k : KeptRecord = kept_view c.args.self.now in
    subst (λ (name : List ℕ). AreNoted k name c.args.place c.args.places.now.items c.args.places.now.items) c.string_at.ensures
    (note_has k c.args.self.now.right c.string_at.result.now c.args.place c.args.places.now.items c.requires.count
    c.in-Some.number c.in-Some.ensures
    (λ e. c.if-index-ne0.true (get_or_read c.args.places.now.items (c.in-Some.number - 1) c.index.result.now
    (omega (arith, c.in-Some.ensures.is_number.some, c.in-Some.ensures.is_number.within, c.requires.count)) c.index.ensures 0 ∙ e)))

pub returns : goal.returns
returns c =
    let k : KeptRecord = kept_view c.args.self.now in
    subst (λ (name : List ℕ). AreNoted k name c.args.place c.args.places.now.items
    (set c.args.places.now.items (c.in-Some.number - 1) (c.args.place + 1))) c.string_at.ensures
    (note_now k c.args.self.now.right c.string_at.result.now c.args.place c.args.places.now.items c.requires.count
    c.in-Some.number c.in-Some.ensures (c.args.place + 1) (omega arith)
    (sym (get_or_read c.args.places.now.items (c.in-Some.number - 1) c.index.result.now
    (omega (arith, c.in-Some.ensures.is_number.some, c.in-Some.ensures.is_number.within, c.requires.count)) c.index.ensures 0)
    ∙ c.if-index-ne0.false))
