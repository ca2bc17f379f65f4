use Rattle.std.proofs.Common.{refl}
use Rattle.archive_exchange.proofs.model_laws.refused_changes_nothing.Goals as goal

pub returns : goal.returns
returns g c = record {
  unchanged = λ sites w e f is. rw is refl;
  told = λ sites w e f is. rw is refl;
  accepted = λ sites w e is. rw is refl;
  answered = λ sites w e is. rw is refl;
}
