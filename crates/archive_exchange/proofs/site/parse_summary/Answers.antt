use Rattle.archive_records.specs.Fault.{IsSummaryFault}
use Rattle.archive_exchange.specs.SiteState.{IsSummaryText}
use Rattle.archive_exchange.proofs.Texts.{refused_by}
use Rattle.archive_exchange.proofs.site.parse_summary.Goals as goal

pub returns-in_default : goal.returns-in_default
returns-in_default c = record {
  names = tt;
  alone = tt;
  refused = refused_by IsSummaryFault IsSummaryText c.new-input.result.rest.now c.args.text.now c.in-Err.fault
      c.new-input.ensures.left c.in-Err.ensures.0.blames.0 c.in_default.not-OutOfMemory c.in-Err.ensures.0.faulty
      (λ text. c.in-Err.ensures.1 text.0 text.1.entries text.1.is);
}
