use Rattle.std.proofs.Common.{ap, arith, length, refl}
use Rattle.table_source_frames_build.specs.Kept.{text_at}
use Rattle.table_source_frames_build.specs.KeptViews.{kept_view}
use Rattle.table_source_frames_build.proofs.LoopLemmas.{rest_long, text_row_next, text_rows_end}
use Rattle.table_source_frames_build.proofs.kept.Kept.push_text_rows.Goals as goal

pub overflow_cast-len : goal.overflow_cast-len
overflow_cast-len c =
    omega (
      arith,
      c.loop-text.invariant.place,
      rest_long (text_at (kept_view c.args.self.now)) c.args.texts.now
          c.loop-text.text-index c.loop-text-test.true,
      c.requires.fits,
      ap length c.text_of.ensures,
    )

pub overflow_add-place : goal.overflow_add-place
overflow_add-place c =
    omega (
      arith,
      c.loop-text.invariant.place,
      rest_long (text_at (kept_view c.args.self.now)) c.args.texts.now
          c.loop-text.text-index c.loop-text-test.true,
      c.requires.fits,
      ap length c.text_of.ensures,
    )

pub loop-text-preserved : goal.loop-text-preserved
loop-text-preserved c = record {
  place = omega (
    arith,
    c.loop-text.invariant.place,
    rest_long (text_at (kept_view c.args.self.now)) c.args.texts.now
        c.loop-text.text-index c.loop-text-test.true,
    ap length c.text_of.ensures,
  );
  rows =
      text_row_next (text_at (kept_view c.args.self.now)) c.args.texts.now c.loop-text.text-index c.loop-text.place
      (length c.text_of.result.now) _ c.loop-text.bytes.items c.push_u32.new.text.items
      c.push_u32-in-loop-text.new.text.items _ c.loop-text-test.true (ap length c.text_of.ensures) refl
      c.in_ok-push_u32.ensures c.in_ok-push_u32-2.ensures c.loop-text.invariant.rows;
}

pub returns : goal.returns
returns c = text_rows_end (text_at (kept_view c.args.self.now)) c.args.texts.now c.loop-text.text-index
    c.loop-text.place c.loop-text.bytes.items _ (omega arith) c.loop-text.invariant.rows
