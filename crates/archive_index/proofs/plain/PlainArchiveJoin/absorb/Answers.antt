use Rattle.std.proofs.Common.{◌∙◌, ap, map, subst}
use Rattle.std.proofs.lemmas.Result.{MatchResult-weaker, on_ok_weaker, on_err_weaker}
use Rattle.archive_core.specs.Content.{IsContent, content_of, joined as joined_of}
use Rattle.archive_core.specs.Record.{record_bytes}
use Rattle.archive_index.proofs.Held.{content_of_held}
use Rattle.archive_core.proofs.Joined.{joined, unmoved, taken_towards}
use Rattle.archive_core.proofs.Taken.{taken_are_joined}
use Rattle.archive_index.proofs.plain.PlainArchiveJoin.absorb.Goals as goal

pub take_in_turn-requires : goal.take_in_turn-requires
take_in_turn-requires c = subst IsContent c.self.view_is (content_of_held c.self.inside.operations.items c.self.invariant)

pub returns-then-len-min : goal.returns-then-len-min
returns-then-len-min c =
    let theirs = c.other.inside.operations.items in
    let mine_is = subst IsContent c.self.view_is (content_of_held c.self.inside.operations.items c.self.invariant) in
    let theirs_is = subst IsContent c.other.view_is (content_of_held theirs c.other.invariant) in
    record {
      joined = MatchResult-weaker c.take_in_turn.result c.take_in_turn.ensures
          (λ _ taken. joined c.args.self.now c.args.other _ mine_is theirs_is
          (taken ∙ taken_are_joined c.args.self.now (map record_bytes theirs) mine_is.itself
          ∙ ap (λ s. joined_of c.args.self.now (content_of s)) c.other.view_is
          ∙ ap (joined_of c.args.self.now) theirs_is.itself)) (λ _ _. tt);
      refused = MatchResult-weaker c.take_in_turn.result c.take_in_turn.ensures (λ _ _. tt)
          (λ _. taken_towards c.args.self.now c.args.other _ (map record_bytes theirs) mine_is theirs_is.itself
          c.other.view_is);
    }

pub returns : goal.returns
returns c =
    let mine_is = subst IsContent c.self.view_is (content_of_held c.self.inside.operations.items c.self.invariant) in
    let theirs_is = subst IsContent c.other.view_is (content_of_held c.other.inside.operations.items c.other.invariant) in
    record {
      joined = on_ok_weaker c.merge.result (joined c.args.self.now c.args.other _ mine_is theirs_is) c.merge.ensures.merged;
      refused = on_err_weaker c.merge.result (λ same. rw same (unmoved c.args.self.now c.args.other mine_is)) c.merge.ensures.refused;
    }
