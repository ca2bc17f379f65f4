use Rattle.std.proofs.Common.{◌≡◌, ◌≤◌, ◌<◌, ◌-◌, [], suc, List, length, refl, sym, subst, arith}
use Rattle.std.proofs.lemmas.Option.{slice_get_read}
use Rattle.dwarf_functions.specs.LinkViews.{link_view, links_view}
use Rattle.dwarf_source_frames.specs.FrameViews.{lines_view}
use Rattle.dwarf_source_frames.specs.Frames.{path_in}
use Rattle.dwarf_frame_changes.specs.UnitNumbers.{AreLinked}
use Rattle.dwarf_frame_changes.specs.declared.numbers.Linked.{Linked}
use Rattle.dwarf_frame_changes.proofs.NumberLemmas.{frames_of_link, link_there, linked_at, linked_more, linked_still, names_still, numbers_of, still_more}
use Rattle.dwarf_frame_changes.proofs.numbers.push_linked.Goals as goal

pub returns-then-link-eq0-clause-linked : goal.returns-then-link-eq0-clause-linked
returns-then-link-eq0-clause-linked g c =
    let N = g.T.FrameSink.numbers_name c.number_of_name.new.sink in
    let F = g.T.FrameSink.numbers_frames c.number_of_name.new.sink in
    let lines = lines_view c.args.lines.now in
    let links = links_view c.args.links.now.links.items in
    let link = c.index-link.result.now in
    let all : List Linked = c.args.all.now.items in
    let next : Linked = record { name = c.in_ok-name.name; callers = c.no_frames-callers.result } in
    let count : c.len-index.result ≡ length all = omega (arith, c.len-index.ensures, c.args.all.now.ok.0) in
    let there = link_there c.args.links.now.links.items all c.len-index.result link count c.requires.within c.index-link.ensures in
    let told = c.in_ok-name.ensures.is link (slice_get_read c.args.links.now.links.items
    (length c.args.links.now.links.items) c.len-index.result link refl (omega (arith, count, c.requires.within))
    c.index-link.ensures) in
    let is = linked_at N F lines links (length all) (link_view link) next there
    (record { name = told; outer = []; are_outer = c.if-link-eq0.true; callers = c.no_frames-callers.ensures }) in
    let before = linked_still (g.T.FrameSink.numbers_name c.args.sink.now) N
    (g.T.FrameSink.numbers_frames c.args.sink.now) F c.number_of_name.ensures.names c.number_of_name.ensures.frames lines links
    (length all) all c.requires.linked in
    subst (λ (xs : List Linked). AreLinked N F lines links (length xs) xs) (sym c.in_ok-push.ensures.items) (linked_more N F lines links all next before is)

pub index-outer-requires : goal.index-outer-requires
index-outer-requires g c =
    let link = c.index-link.result.now in
    let all : List Linked = c.args.all.now.items in
    let count : c.len-index.result ≡ length all = omega (arith, c.len-index.ensures, c.args.all.now.ok.0) in
    let there = link_there c.args.links.now.links.items all c.len-index.result link count c.requires.within c.index-link.ensures in
    let low : link.caller ≤ length all = c.requires.callers (length all) (link_view link) there in
    omega (arith, low, c.if-link-eq0.false, c.args.all.now.ok.0)

pub frames-requires : goal.frames-requires
frames-requires g c = λ κs.
    let lines = lines_view c.args.lines.now in
    let link = c.index-link.result.now in
    let all : List Linked = c.args.all.now.items in
    let count : c.len-index.result ≡ length all = omega (arith, c.len-index.ensures, c.args.all.now.ok.0) in
    let there = link_there c.args.links.now.links.items all c.len-index.result link count c.requires.within c.index-link.ensures in
    let low : link.caller ≤ length all = c.requires.callers (length all) (link_view link) there in
    let n = link.caller - 1 in
    let within : n < length all = omega (arith, low, c.if-link-eq0.false) in
    let inside : n < length c.args.links.now.links.items = omega (arith, within, c.requires.within) in
    let of = numbers_of (g.T.FrameSink.numbers_name c.args.sink.now) (g.T.FrameSink.numbers_frames c.args.sink.now)
    lines c.args.links.now.links.items (length all) all n c.index-outer.result.now c.requires.linked within
    c.index-outer.ensures inside in
    let named = c.number.ensures.names _ _ (c.number_of_name.ensures.names _ _ of.2.name) in
    let called = c.number.ensures.frames _ _ (c.number_of_name.ensures.frames _ _ of.2.callers) in
    ((refl, tt), ((of.0.name, named), ((path_in lines link.call.file, c.in_ok-path.ensures.is), (of.2.outer, called))))

pub returns-clause-linked : goal.returns-clause-linked
returns-clause-linked g c =
    let P = g.T.FrameSink.numbers_name in
    let Q = g.T.FrameSink.numbers_frames in
    let N = g.T.FrameSink.numbers_name c.frames.new.self in
    let F = g.T.FrameSink.numbers_frames c.frames.new.self in
    let lines = lines_view c.args.lines.now in
    let links = links_view c.args.links.now.links.items in
    let link = c.index-link.result.now in
    let all : List Linked = c.args.all.now.items in
    let next : Linked = record { name = c.in_ok-name.name; callers = c.in_ok-callers.callers } in
    let count : c.len-index.result ≡ length all = omega (arith, c.len-index.ensures, c.args.all.now.ok.0) in
    let there = link_there c.args.links.now.links.items all c.len-index.result link count c.requires.within c.index-link.ensures in
    let low : link.caller ≤ length all = c.requires.callers (length all) (link_view link) there in
    let n = link.caller - 1 in
    let within : n < length all = omega (arith, low, c.if-link-eq0.false) in
    let inside : n < length c.args.links.now.links.items = omega (arith, within, c.requires.within) in
    let some : link.caller ≡ suc n = omega (arith, c.if-link-eq0.false) in
    let of = numbers_of (P c.args.sink.now) (Q c.args.sink.now) lines c.args.links.now.links.items (length all) all n
    c.index-outer.result.now c.requires.linked within c.index-outer.ensures inside in
    let told = c.in_ok-callers.ensures.is of.0.name (path_in lines link.call.file) of.2.outer
    (c.number.ensures.names _ _ (c.number_of_name.ensures.names _ _ of.2.name)) c.in_ok-path.ensures.is
    (c.number.ensures.frames _ _ (c.number_of_name.ensures.frames _ _ of.2.callers)) in
    let named = c.in_ok-name.ensures.is link (slice_get_read c.args.links.now.links.items
    (length c.args.links.now.links.items) c.len-index.result link refl (omega (arith, count, c.requires.within))
    c.index-link.ensures) in
    let is = linked_at N F lines links (length all) (link_view link) next there
    (record {
      name = c.frames.ensures.names _ _ (c.number.ensures.names _ _ named);
      outer = _;
      are_outer = frames_of_link lines links link.call link.caller n of.0 of.2.outer some of.1 (c.requires.callers n of.0 of.1) of.2.are_outer;
      callers = told;
    }) in
    let names = still_more (P c.args.sink.now) (P c.number.new.sink) N
    (still_more (P c.args.sink.now) (P c.number_of_name.new.sink) (P c.number.new.sink) c.number_of_name.ensures.names
    c.number.ensures.names) c.frames.ensures.names in
    let frames = still_more (Q c.args.sink.now) (Q c.number.new.sink) F
    (still_more (Q c.args.sink.now) (Q c.number_of_name.new.sink) (Q c.number.new.sink) c.number_of_name.ensures.frames
    c.number.ensures.frames) c.frames.ensures.frames in
    let before = linked_still (P c.args.sink.now) N (Q c.args.sink.now) F names frames lines links (length all) all c.requires.linked in
    subst (λ (xs : List Linked). AreLinked N F lines links (length xs) xs) (sym c.in_ok-push-2.ensures.items) (linked_more N F lines links all next before is)

pub returns-clause-names : goal.returns-clause-names
returns-clause-names g c =
    let P = g.T.FrameSink.numbers_name in
    names_still (P c.number_of_name.new.sink) (P c.frames.new.self) c.args.links.now c.number_of_name.new.self
    (still_more (P c.number_of_name.new.sink) (P c.number.new.sink) (P c.frames.new.self) c.number.ensures.names c.frames.ensures.names)
    c.in_ok-name.ensures.known
