use Rattle.std.proofs.Common.{sym, ◌∙◌, subst}
use Rattle.archive_core.specs.Content.{Operations}
use Rattle.archive_exchange.specs.SiteState.{IsArchiveTextOf}
use Rattle.laws_archive.proofs.sequence_laws.sites_as_commands.Goals as goal

pub returns : goal.returns
returns g c = λ sites events i text o is same.
    subst (λ (q : Operations). IsArchiveTextOf text q) (sym (c.reached_is_held.ensures.end sites events i ∙ same))
    (c.any_sequence_of_commands.ensures.text text o is)
