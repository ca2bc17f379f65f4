use Rattle.std.proofs.Common.{rules}
use Rattle.dwarf_functions.proofs.MakingLemmas.{found_link, found_within, kept_refl}
use Rattle.dwarf_functions.proofs.making.Making.link.Goals as goal

pub index-requires : goal.index-requires
index-requires c =
    let w = found_within c.args.self.now.all.now.functions.items c.args.self.now.links.items c.args.self.now.last
    c.args.outer c.child_of-child.result c.requires.made c.requires.outer c.child_of-child.ensures
    c.if-child-ne0.true in search rules

pub returns-then-index-clause-kept : goal.returns-then-index-clause-kept
returns-then-index-clause-kept c = kept_refl c.args.self.now.links.items

pub returns-then-index-clause-link : goal.returns-then-index-clause-link
returns-then-index-clause-link c =
    found_link c.args.self.now.all.now.functions.items c.args.self.now.links.items c.args.self.now.last c.args.outer
    c.args.index c.child_of-child.result c.index.result.now c.requires.made c.requires.outer
    c.child_of-child.ensures c.if-child-ne0.true c.index.ensures c.if-index.true
