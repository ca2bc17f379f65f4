use Rattle.std.proofs.Common.{arith, subst, sym}
use Rattle.table_source_frames_build.specs.Numbers.{IsNumbered}
use Rattle.table_source_frames_build.proofs.KeyLemmas.{numbered_more, numbered_now}
use Rattle.table_source_frames_build.proofs.numbers.Numbers.number.Goals as goal

pub invariant_of-self-in_default-insert : goal.invariant_of-self-in_default-insert
invariant_of-self-in_default-insert g c =
    numbered_more g.K.Ord.cmp g.met.K.Ord.total c.self.inside.by_key c.insert.new.self c.self.inside.keys.items
    c.push.new.self.items c.args.key c.in-Ok.number c.self.invariant (sym c.in_default.ensures.value)
    c.in_ok-push.ensures.items (omega arith) (λ q. c.in_default-insert.ensures.updates.0 q)

pub returns-clause-numbered : goal.returns-clause-numbered
returns-clause-numbered g c =
    subst (λ l. IsNumbered g.K.Ord.cmp l c.args.key c.in-Ok.number c.push.new.self.items) c.self.view_is
    (numbered_now g.K.Ord.cmp g.met.K.Ord.total c.self.inside.by_key c.self.inside.keys.items c.push.new.self.items
    c.args.key c.in-Ok.number c.self.invariant (sym c.in_default.ensures.value) c.in_ok-push.ensures.items
    (omega arith))
