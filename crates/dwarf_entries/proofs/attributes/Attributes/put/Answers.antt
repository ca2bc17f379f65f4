use Rattle.dwarf_encoding.specs.Views.{value_view}
use Rattle.dwarf_entries.proofs.AttributeLemmas.{put_is}
use Rattle.dwarf_entries.proofs.attributes.Attributes.put.Goals as goal

pub returns-in-Some : goal.returns-in-Some
returns-in-Some c =
    put_is value_view c.args.self.now.values c.args.number c.slot-slot.result c.in-Some.attribute c.args.value
    c.or.result c.args.self.now.long c.in-Some.ensures c.slot-slot.ensures.is c.slot-slot.ensures.within
    c.or.ensures
