use Rattle.command_frames.proofs.Runs.{keys_are, keys_in_order, sorted_keys}
use Rattle.command_frames.proofs.places.asked_keys.Goals as goal

pub under_keys-requires : goal.under_keys-requires
under_keys-requires c = rw c.deref.ensures.value c.in_ok-asked.ensures.sorted

pub returns-clause-are : goal.returns-clause-are
returns-clause-are c = keys_are c.args.frames.now c.in_ok-asked.asked.items _ c.in_ok-asked.ensures.are (rw c.deref.ensures.value at c.in_ok-keys.ensures)

pub returns-clause-order : goal.returns-clause-order
returns-clause-order c = keys_in_order _ c.in_ok-keys.ensures.order

pub returns-clause-sorted : goal.returns-clause-sorted
returns-clause-sorted c = sorted_keys _ c.in_ok-keys.ensures.order
