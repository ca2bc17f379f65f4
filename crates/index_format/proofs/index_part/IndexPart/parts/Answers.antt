use Rattle.std.proofs.Common.{sym}
use Rattle.index_format.proofs.index_part.IndexPart.parts.Goals as goal

pub returns : goal.returns
returns c =
    rw (c.deref.ensures.value, c.deref-2.ensures.value) (c.self.inside.count, c.self.invariant, sym c.self.view_is)
