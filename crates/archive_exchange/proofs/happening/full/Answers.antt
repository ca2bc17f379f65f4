use Rattle.std.proofs.Common.{◌∙◌, ap, ◌++◌, ◌∷◌, []}
use Rattle.archive_exchange.proofs.Followed.{sent_full, follows_as}
use Rattle.archive_exchange.proofs.happening.full.Goals as goal

pub returns : goal.returns
returns g c = λ i. follows_as _ _ _ _ _ _ _ c.in_ok-outcome.ensures.number
    (sent_full i _ c.args.messages.now.items _ (c.in_ok-outcome.ensures.sent
    ∙ ap (λ t. c.args.messages.now.items ++ t ∷ []) c.in_ok-text.ensures.is))
