use Rattle.archive_image_admission.specs.File.{admissible}
use Rattle.archive_exchange.specs.SiteState.{SiteState, IsBetween}
use Rattle.archive_image_admission.specs.Take.{admitted}
use Rattle.std.proofs.Common.{subst}
use Rattle.archive_exchange.proofs.Gained.{content_of_file, between_parts, if_err}
use Rattle.archive_exchange.proofs.site.Site.take_file.Goals as goal

pub returns-in_err-rows-clause-whole : goal.returns-in_err-rows-clause-whole
returns-in_err-rows-clause-whole g c = record {
  held = (between_parts c.args.file.now c.in_ok-accepted.accepted (g.A.Join.content c.self.inside.archive)
      (g.A.Join.content c.take_accepted.new.archive) c.self.invariant.held c.in_ok-accepted.ensures.accepted
      c.in_ok-accepted.ensures.found c.in_err-rows.ensures.stopped).content;
  saved = c.self.invariant.saved;
}

pub returns-in_err-rows-clause-between : goal.returns-in_err-rows-clause-between
returns-in_err-rows-clause-between g c =
    let P : SiteState → Type 0 = λ k. IsBetween k.held (g.A.Join.content c.take_accepted.new.archive) (admitted k.held (admissible c.args.file.now)) in
    if_err _ c.from_residual-in_err-rows.result (λ fault _. subst P c.self.view_is
    (between_parts c.args.file.now c.in_ok-accepted.accepted (g.A.Join.content c.self.inside.archive)
    (g.A.Join.content c.take_accepted.new.archive) c.self.invariant.held c.in_ok-accepted.ensures.accepted
    c.in_ok-accepted.ensures.found c.in_err-rows.ensures.stopped))

pub invariant_of-self-2 : goal.invariant_of-self-2
invariant_of-self-2 g c = record {
  held = content_of_file c.args.file.now c.in_ok-accepted.accepted (g.A.Join.content c.self.inside.archive)
      (g.A.Join.content c.take_accepted.new.archive) c.self.invariant.held c.in_ok-accepted.ensures.accepted
      c.in_ok-accepted.ensures.found c.in_ok-rows.ensures.content;
  saved = c.self.invariant.saved;
}

pub returns-clause-whole : goal.returns-clause-whole
returns-clause-whole g c = record {
  held = content_of_file c.args.file.now c.in_ok-accepted.accepted (g.A.Join.content c.self.inside.archive)
      (g.A.Join.content c.take_accepted.new.archive) c.self.invariant.held c.in_ok-accepted.ensures.accepted
      c.in_ok-accepted.ensures.found c.in_ok-rows.ensures.content;
  saved = c.self.invariant.saved;
}

pub invariant_of-self : goal.invariant_of-self
invariant_of-self g c = record {
  held = (between_parts c.args.file.now c.in_ok-accepted.accepted (g.A.Join.content c.self.inside.archive)
      (g.A.Join.content c.take_accepted.new.archive) c.self.invariant.held c.in_ok-accepted.ensures.accepted
      c.in_ok-accepted.ensures.found c.in_err-rows.ensures.stopped).content;
  saved = c.self.invariant.saved;
}
