use Rattle.std.proofs.Common.{◌+◌, ◌∙◌, arith, refl, sym, length}
use Rattle.std.proofs.lemmas.Bool.{false≢true}
use Rattle.table_source_frames.specs.LineText.{string_at}
use Rattle.table_source_frames_build.specs.KeptViews.{kept_view}
use Rattle.table_source_frames_build.proofs.NoteLemmas.{string_one, string_two}
use Rattle.table_source_frames_build.proofs.kept.Kept.note_string.Goals as goal

pub returns-then-not-has_second : goal.returns-then-not-has_second
returns-then-not-has_second c =
    string_one (kept_view c.args.self.now) c.args.strings.now c.args.from (c.args.from + length (string_at c.args.strings.now c.args.from) + 1)
    c.args.places.now.items c.note_place.new.places.items c.requires.begins c.requires.inside refl c.requires.places c.note_place.ensures
    (λ both. false≢true (sym c.if-not-has_second.true ∙ c.has_second.ensures.1 (both.0, omega (arith, both.1))))

pub returns : goal.returns
returns c =
    let second = c.has_second.ensures.0 c.if-not-has_second.false in
    string_two (kept_view c.args.self.now) c.args.strings.now c.args.from (c.args.from + length (string_at c.args.strings.now c.args.from) + 1)
    c.args.places.now.items c.note_place.new.places.items c.requires.begins c.requires.inside refl c.requires.places c.note_place.ensures
    c.note_place-2.new.places.items (c.args.from + 1) (omega arith) second.0 second.1 c.note_place-2.ensures
