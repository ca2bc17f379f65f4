use Rattle.std.proofs.Common.{rules}
use Rattle.dwarf_functions.proofs.MakingLemmas.{inner_kept_all, inner_link, inner_made, is_pushed, outermost_pushed, pushed_kept, pushed_link}
use Rattle.dwarf_functions.proofs.making.Making.push.Goals as goal

pub returns-then-outer-eq0-clause-made : goal.returns-then-outer-eq0-clause-made
returns-then-outer-eq0-clause-made c =
    outermost_pushed c.args.self.now.all.now.functions.items c.args.self.now.links.items c.push.new.self.items
    c.args.self.now.last c.args.outer c.args.index c.len-number.result
    (is_pushed c.args.self.now.all.now.functions.items c.args.self.now.links.items c.push.new.self.items
    c.args.self.now.last c.args.outer c.args.index c.len-number.result c.count_of-count.result
    c.index-function.result.now c.caller_of-caller.result
    c.requires.made c.requires.outer c.requires.index c.index-function.ensures c.count_of-count.ensures c.caller_of-caller.ensures
    c.in_ok-push.ensures.items (search rules)) c.if-outer-eq0.true

pub returns-then-outer-eq0-clause-kept : goal.returns-then-outer-eq0-clause-kept
returns-then-outer-eq0-clause-kept c =
    pushed_kept c.args.self.now.all.now.functions.items c.args.self.now.links.items c.push.new.self.items
    c.args.self.now.last c.args.outer c.args.index c.len-number.result
    (is_pushed c.args.self.now.all.now.functions.items c.args.self.now.links.items c.push.new.self.items
    c.args.self.now.last c.args.outer c.args.index c.len-number.result c.count_of-count.result
    c.index-function.result.now c.caller_of-caller.result
    c.requires.made c.requires.outer c.requires.index c.index-function.ensures c.count_of-count.ensures
    c.caller_of-caller.ensures c.in_ok-push.ensures.items (search rules))

pub returns-then-outer-eq0-clause-link : goal.returns-then-outer-eq0-clause-link
returns-then-outer-eq0-clause-link c =
    pushed_link c.args.self.now.all.now.functions.items c.args.self.now.links.items c.push.new.self.items
    c.args.self.now.last c.args.outer c.args.index c.len-number.result
    (is_pushed c.args.self.now.all.now.functions.items c.args.self.now.links.items c.push.new.self.items
    c.args.self.now.last c.args.outer c.args.index c.len-number.result c.count_of-count.result
    c.index-function.result.now c.caller_of-caller.result
    c.requires.made c.requires.outer c.requires.index c.index-function.ensures c.count_of-count.ensures
    c.caller_of-caller.ensures c.in_ok-push.ensures.items (search rules))

pub returns-else-outer-eq0-clause-made : goal.returns-else-outer-eq0-clause-made
returns-else-outer-eq0-clause-made c =
    inner_made c.args.self.now.all.now.functions.items c.args.self.now.links.items c.push.new.self.items
    c.args.self.now.last c.args.outer c.args.index c.len-number.result c.index_mut.result.now
    (is_pushed c.args.self.now.all.now.functions.items c.args.self.now.links.items c.push.new.self.items
    c.args.self.now.last c.args.outer c.args.index c.len-number.result c.count_of-count.result
    c.index-function.result.now c.caller_of-caller.result
    c.requires.made c.requires.outer c.requires.index c.index-function.ensures c.count_of-count.ensures c.caller_of-caller.ensures
    c.in_ok-push.ensures.items (search rules)) c.if-outer-eq0.false c.index_mut.ensures.value

pub returns-else-outer-eq0-clause-kept : goal.returns-else-outer-eq0-clause-kept
returns-else-outer-eq0-clause-kept c =
    inner_kept_all c.args.self.now.all.now.functions.items c.args.self.now.links.items c.push.new.self.items
    c.args.self.now.last c.args.outer c.args.index c.len-number.result c.index_mut.result.now
    (is_pushed c.args.self.now.all.now.functions.items c.args.self.now.links.items c.push.new.self.items
    c.args.self.now.last c.args.outer c.args.index c.len-number.result c.count_of-count.result
    c.index-function.result.now c.caller_of-caller.result
    c.requires.made c.requires.outer c.requires.index c.index-function.ensures c.count_of-count.ensures c.caller_of-caller.ensures
    c.in_ok-push.ensures.items (search rules)) c.if-outer-eq0.false c.index_mut.ensures.value

pub returns-else-outer-eq0-clause-link : goal.returns-else-outer-eq0-clause-link
returns-else-outer-eq0-clause-link c =
    inner_link c.args.self.now.all.now.functions.items c.args.self.now.links.items c.push.new.self.items
    c.args.self.now.last c.args.outer c.args.index c.len-number.result c.index_mut.result.now
    (is_pushed c.args.self.now.all.now.functions.items c.args.self.now.links.items c.push.new.self.items
    c.args.self.now.last c.args.outer c.args.index c.len-number.result c.count_of-count.result
    c.index-function.result.now c.caller_of-caller.result
    c.requires.made c.requires.outer c.requires.index c.index-function.ensures c.count_of-count.ensures c.caller_of-caller.ensures
    c.in_ok-push.ensures.items (search rules)) c.if-outer-eq0.false c.index_mut.ensures.value
