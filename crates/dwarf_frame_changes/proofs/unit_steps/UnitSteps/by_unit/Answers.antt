use Rattle.dwarf_frame_changes.proofs.unit_steps.UnitSteps.by_unit.Goals as goal

pub returns-clause-without : goal.returns-clause-without
returns-clause-without c = rw (c.deref.ensures.value, c.deref-2.ensures.value) at c.by_unit.ensures.without

pub returns-clause-under : goal.returns-clause-under
returns-clause-under c = rw (c.deref.ensures.value, c.deref-2.ensures.value) at c.by_unit.ensures.under
