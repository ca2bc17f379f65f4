use Rattle.std.proofs.Common.{Some, arith, refl}
use Rattle.std.specs.Vec.{with_item}
use Rattle.dwarf_frame_changes.specs.declared.names.Names.{Names}
use Rattle.dwarf_frame_changes.proofs.GivenLemmas.{takes_none}
use Rattle.dwarf_frame_changes.proofs.NumberLemmas.{known_name, link_read, names_more, same_link, slot_within}
use Rattle.dwarf_frame_changes.proofs.names.Names.number_of_name.Goals as goal

pub index-requires : goal.index-requires
index-requires g c =
    let links = c.args.links.now in
    let names = c.args.self.now in
    let there = link_read links c.args.index c.index-link.result.now c.requires.index c.index-link.ensures in
    let w = slot_within (g.T.FrameSink.numbers_name c.args.sink.now) links names c.args.index c.index-link.result.now
    c.requires.numbered c.requires.known there in omega (arith, w, names.by_number.ok.0)

pub returns-in-Some : goal.returns-in-Some
returns-in-Some g c =
    let P = g.T.FrameSink.numbers_name c.args.sink.now in
    let links = c.args.links.now in
    let names = c.args.self.now in
    let link = c.index-link.result.now in
    let there = link_read links c.args.index link c.requires.index c.index-link.ensures in
    record {
      is = λ other is. same_link P links c.args.index c.in-Some.known link other there is
          (known_name P links names c.args.index c.in-Some.known link c.index.result.now c.requires.numbered
          c.requires.known there c.index.ensures c.in-Some.is);
      known = c.requires.known;
      names = λ number told h. h;
      paths = λ number told h. h;
      frames = λ number told h. h;
      taken = takes_none (g.T.FrameSink.has_received c.args.sink.now);
    }

pub index_mut-requires : goal.index_mut-requires
index_mut-requires g c =
    let links = c.args.links.now in
    let names = c.args.self.now in
    let there = link_read links c.args.index c.index-link.result.now c.requires.index c.index-link.ensures in
    let w = slot_within (g.T.FrameSink.numbers_name c.args.sink.now) links names c.args.index c.index-link.result.now
    c.requires.numbered c.requires.known there in omega (arith, w, names.by_number.ok.0)

pub returns : goal.returns
returns g c =
    let P = g.T.FrameSink.numbers_name c.args.sink.now in
    let Q = g.T.FrameSink.numbers_name c.name.new.self in
    let links = c.args.links.now in
    let names = c.args.self.now in
    let link = c.index-link.result.now in
    let number = c.in_ok-number.number in
    let there = link_read links c.args.index link c.requires.index c.index-link.ensures in
    let next : Names = record { by_number = with_item names.by_number link.name_number (Some number) } in
    record {
      is = λ other is. same_link Q links c.args.index number link other there is c.in_ok-number.ensures.is;
      known = names_more P Q links names next c.args.index number link c.requires.numbered c.name.ensures.names
          c.requires.known there c.in_ok-number.ensures.is refl;
      names = c.name.ensures.names;
      paths = c.name.ensures.paths;
      frames = c.name.ensures.frames;
      taken = c.name.ensures.taken;
    }
