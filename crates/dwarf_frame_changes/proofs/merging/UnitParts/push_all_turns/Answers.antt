use Rattle.std.proofs.Common.{◌≡◌, ◌∙◌, ◌++◌, [], get_or, refl, subst, sym, arith}
use Rattle.dwarf_functions.specs.declared.links.Links.{Links}
use Rattle.dwarf_source_frames.specs.FrameViews.{lines_view}
use Rattle.dwarf_frame_changes.specs.Between.{AreSteps, AreTurnsBetween, IsNextAbove, parts_of}
use Rattle.dwarf_frame_changes.proofs.GivenLemmas.{takes_more, takes_none}
use Rattle.dwarf_frame_changes.proofs.MergeLemmas.{all_turns_given, below_after, no_turns_yet, turns_so_far_more}
use Rattle.dwarf_frame_changes.proofs.merging.UnitParts.push_all_turns.Goals as goal

pub loop-from-init : goal.loop-from-init
loop-from-init g c = record {
  links = refl;
  told = c.requires.told;
  given = (
    [],
    takes_none (g.T.FrameSink.has_received c.args.sink.now),
    no_turns_yet (parts_of (lines_view c.args.lines.now) c.args.rows.now c.args.self.now.links)
        c.args.steps.now.starts.items c.args.boundaries.now,
  );
}

pub loop-from-preserved : goal.loop-from-preserved
loop-from-preserved g c =
    let lines = lines_view c.args.lines.now in
    let rows = c.args.rows.now in
    let J = c.args.self.now.links in
    let parts = parts_of lines rows J in
    let starts = c.args.steps.now.starts.items in
    let froms = c.args.boundaries.now in
    let i = c.loop-from.from-index in
    let from = get_or froms i 0 in
    let same : ◌≡◌ {A = Links} c.loop-from.self.links J = c.loop-from.invariant.links in
    let given = c.in_ok-push_turns_between.ensures.given in
    let are : AreTurnsBetween parts from c.after-end.result given.0 =
    subst (λ (l : Links). AreTurnsBetween (parts_of lines rows l) from c.after-end.result given.0) same given.2 in
    let next : IsNextAbove starts from c.after-end.result = c.after-end.ensures c.requires.starts in
    record {
      links = c.in_ok-push_turns_between.ensures.links ∙ same;
      told = c.in_ok-push_turns_between.ensures.told;
      given = (
        c.loop-from.invariant.given.0 ++ given.0,
        takes_more (g.T.FrameSink.has_received c.args.sink.now) (g.T.FrameSink.has_received c.loop-from.sink)
            (g.T.FrameSink.has_received c.push_turns_between.new.sink) c.loop-from.invariant.given.0 given.0
            c.loop-from.invariant.given.1 given.1,
        turns_so_far_more parts starts froms i c.loop-from.invariant.given.0 given.0 from c.after-end.result
            (omega (arith, c.loop-from-test.true)) refl c.requires.rising c.requires.stand c.loop-from.invariant.given.2
            next are,
      );
    }

pub push_turns_between-requires : goal.push_turns_between-requires
push_turns_between-requires g c = λ κs.
    let lines = lines_view c.args.lines.now in
    let same : ◌≡◌ {A = Links} c.args.self.now.links c.loop-from.self.links = sym c.loop-from.invariant.links in (
      (refl, tt),
      (
        below_after c.args.steps.now.starts.items (get_or c.args.boundaries.now c.loop-from.from-index 0)
            c.after-end.result (c.after-end.ensures c.requires.starts),
        (
          subst (λ (l : Links). AreSteps (parts_of lines c.args.rows.now l)) same c.requires.steps,
          c.loop-from.invariant.told,
        ),
      ),
    )

pub returns : goal.returns
returns g c = (
  c.loop-from.invariant.given.0,
  c.loop-from.invariant.given.1,
  all_turns_given (parts_of (lines_view c.args.lines.now) c.args.rows.now c.args.self.now.links)
      c.args.steps.now.starts.items c.args.boundaries.now c.loop-from.from-index c.loop-from.invariant.given.0
      (omega (arith, c.loop-from-test.false)) c.loop-from.invariant.given.2,
)
