use Rattle.std.proofs.Common.{◌≡◌, ℕ, List, [], Option, length, refl, ap, arith}
use Rattle.std.proofs.lemmas.Option.{none-some}
use Rattle.dwarf_functions.specs.LinkViews.{links_view}
use Rattle.dwarf_functions.specs.Links.{LinkRecord}
use Rattle.dwarf_source_frames.specs.Frames.{FrameRecord}
use Rattle.dwarf_source_frames.specs.FrameViews.{lines_view}
use Rattle.dwarf_source_frames.specs.UnitLines.{LinesRecord}
use Rattle.dwarf_frame_changes.specs.UnitNumbers.{AreLinked}
use Rattle.dwarf_frame_changes.specs.declared.numbers.Linked.{Linked}
use Rattle.dwarf_frame_changes.proofs.GivenLemmas.{takes_none}
use Rattle.dwarf_frame_changes.proofs.NumberLemmas.{no_names, takes_nothing}
use Rattle.dwarf_frame_changes.proofs.numbers.number_links.Goals as goal

none_linked : (P : ℕ → Option (List ℕ) → Type 0) (F : ℕ → List FrameRecord → Type 0) (lines : LinesRecord)
    (links : List LinkRecord) (all : List Linked) → all ≡ [] → AreLinked P F lines links (length all) all
none_linked P F lines links all none = rw none (record { count_is = refl; each = λ i linked there. absurd (none-some linked there) })

pub links-init : goal.links-init
links-init g c = record {
  within = let e = ap (λ (l : List Linked). length l) c.new-all.ensures.items in omega (arith, e);
  names = no_names (g.T.FrameSink.numbers_name c.args.sink.now) c.args.links.now c.in_ok-names.names c.in_ok-names.ensures.count c.in_ok-names.ensures.none;
  paths = c.requires.paths;
  linked = none_linked (g.T.FrameSink.numbers_name c.args.sink.now) (g.T.FrameSink.numbers_frames c.args.sink.now)
      (lines_view c.args.lines.now) (links_view c.args.links.now.links.items) c.new-all.result.items
      c.new-all.ensures.items;
  taken = takes_none (g.T.FrameSink.has_received c.args.sink.now);
}

pub links-preserved : goal.links-preserved
links-preserved g c = record {
  within = omega (arith, c.in_ok-push_linked.ensures.count, c.links-test.true);
  names = c.in_ok-push_linked.ensures.names;
  paths = c.in_ok-push_linked.ensures.kept;
  linked = c.in_ok-push_linked.ensures.linked;
  taken = takes_nothing (g.T.FrameSink.has_received c.args.sink.now) (g.T.FrameSink.has_received c.links.sink)
      (g.T.FrameSink.has_received c.push_linked.new.sink) c.links.invariant.taken c.push_linked.ensures.taken;
}
