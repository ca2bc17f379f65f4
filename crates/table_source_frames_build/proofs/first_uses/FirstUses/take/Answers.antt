use Rattle.std.proofs.Common.{arith, sym, subst, ◌∙◌, ◌-◌, List, ℕ, set}
use Rattle.std.proofs.lemmas.List.{get_or_read}
use Rattle.table_source_frames_build.specs.FirstUses.{AreGiven}
use Rattle.table_source_frames_build.proofs.FirstUsesLemmas.{taken_same, taken_more, given_more}
use Rattle.table_source_frames_build.proofs.first_uses.FirstUses.take.Goals as goal

pub returns-then-index-ne0-clause-taken : goal.returns-then-index-ne0-clause-taken
returns-then-index-ne0-clause-taken c =
    taken_same c.args.self.now.given.items c.args.self.now.order.items (c.args.number - 1) c.args.number c.args.self.now.are_given (omega arith) (omega arith)
    (λ e. c.if-index-ne0.true (get_or_read c.args.self.now.given.items (c.args.number - 1) c.index.result.now (omega arith) c.index.ensures 0 ∙ e))

pub invariant_of-self-2 : goal.invariant_of-self-2
invariant_of-self-2 c =
    record {
      are_given =
          subst (λ (l : List ℕ). AreGiven (set c.args.self.now.given.items (c.args.number - 1) c.in-Ok.next) l) (sym c.in_ok-push.ensures.items)
          (given_more c.args.self.now.given.items c.args.self.now.order.items (c.args.number - 1) c.args.number
          c.args.self.now.are_given (omega arith) (omega arith)
          (sym (get_or_read c.args.self.now.given.items (c.args.number - 1) c.index.result.now (omega arith)
          c.index.ensures 0) ∙ c.if-index-ne0.false) c.in-Ok.next (omega arith) (omega arith));
    }

pub returns-clause-taken : goal.returns-clause-taken
returns-clause-taken c =
    c.in_ok-push.ensures.items
    ∙ taken_more c.args.self.now.given.items c.args.self.now.order.items (c.args.number - 1) c.args.number c.args.self.now.are_given (omega arith) (omega arith)
    (sym (get_or_read c.args.self.now.given.items (c.args.number - 1) c.index.result.now (omega arith) c.index.ensures 0) ∙ c.if-index-ne0.false)
