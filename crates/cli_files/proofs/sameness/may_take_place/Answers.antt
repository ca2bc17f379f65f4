use Rattle.cli_files.proofs.Same.{if_false, other_behind}
use Rattle.cli_files.proofs.sameness.may_take_place.Goals as goal

pub returns-clause-differs : goal.returns-clause-differs
returns-clause-differs g c = if_false c.have_same.result
    (other_behind c.args.draft.now c.args.target.now c.in-Ok.there c.in_ok-metadata.field-0 c.args.calls.now.entries
    c.metadata.new.calls.entries c.metadata-2.new.calls.entries c.«open».new.calls.entries c.open-2.new.calls.entries
    c.have_same.new.calls.entries c.in-Ok.ensures c.in_ok-metadata.ensures c.in_ok-first.ensures.calls
    c.in_ok-second.ensures.calls)
    (rw (c.in_ok-first.ensures.path, c.in_ok-second.ensures.path) at c.have_same.ensures.differs)
