use Rattle.std.proofs.Common.{ap, ◌∙◌}
use Rattle.archive_core.specs.Content.{joined}
use Rattle.archive_exchange.specs.SiteState.{SiteState}
use Rattle.archive_exchange.proofs.Texts.{on_err, towards_by}
use Rattle.archive_core.proofs.Made.{joined_content}
use Rattle.archive_exchange.proofs.site.Site.deliver.Goals as goal

pub returns-in_err-take_all-clause-stopped : goal.returns-in_err-take_all-clause-stopped
returns-in_err-take_all-clause-stopped g c = on_err _ c.from_residual-in_err-take_all.result
    (towards_by c.args.message.now c.args.self.now (g.A.Join.content c.self.inside.archive) c.self.inside.saved.items
    (g.A.Join.content c.take_all.new.archive) (g.A.Join.content c.in_ok-other.other)
    c.self.view_is c.self.invariant.held c.in_ok-other.ensures.gives c.in_err-take_all.ensures.refused)

pub returns-clause-joined : goal.returns-clause-joined
returns-clause-joined g c = record {
  message = g.A.Join.content c.in_ok-other.other;
  gives = c.in_ok-other.ensures.gives;
  held = c.in_ok-take_all.ensures.joined ∙ ap (λ (k : SiteState). joined k.held (g.A.Join.content c.in_ok-other.other)) c.self.view_is;
  saved = ap (λ (k : SiteState). k.saved) c.self.view_is;
}

pub invariant_of-self-2 : goal.invariant_of-self-2
invariant_of-self-2 g c = record {
  held = rw c.in_ok-take_all.ensures.joined (joined_content (g.A.Join.content c.self.inside.archive)
      (g.A.Join.content c.in_ok-other.other) c.self.invariant.held c.in_ok-other.ensures.gives.content);
  saved = c.self.invariant.saved;
}

pub returns-clause-whole : goal.returns-clause-whole
returns-clause-whole g c = record {
  held = rw c.in_ok-take_all.ensures.joined (joined_content (g.A.Join.content c.self.inside.archive)
      (g.A.Join.content c.in_ok-other.other) c.self.invariant.held c.in_ok-other.ensures.gives.content);
  saved = c.self.invariant.saved;
}
