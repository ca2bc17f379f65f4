use Rattle.std.proofs.Common.{ap, ◌∙◌}
use Rattle.archive_core.specs.Summary.{delta}
use Rattle.archive_records.specs.Text.{written}
use Rattle.archive_exchange.specs.SiteState.{SiteState}
use Rattle.archive_exchange.proofs.site.Site.reply.Goals as goal

pub returns-clause-replies : goal.returns-clause-replies
returns-clause-replies g c = record {
  named = c.in_ok-summary.summary;
  names = c.in_ok-summary.ensures.names;
  alone = c.in_ok-summary.ensures.alone;
  is = c.in_ok-text.ensures ∙ ap (λ (k : SiteState). written (delta k.held c.in_ok-summary.summary)) c.self.view_is;
}
