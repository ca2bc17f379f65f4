use Rattle.std.proofs.Common.{sym, ◌∙◌}
use Rattle.join_core.proofs.Listing.{listed, one_listing, length_listing}
use Rattle.join_core.proofs.laws.one_listing.Goals as goal

pub returns-clause-listed : goal.returns-clause-listed
returns-clause-listed g c = λ R s total same. listed total same s

pub returns-clause-one : goal.returns-clause-one
returns-clause-one g c = λ R s members others total same a b. sym (one_listing total same s members a) ∙ one_listing total same s others b

pub returns-clause-number : goal.returns-clause-number
returns-clause-number g c = λ R s total same. length_listing total same s
