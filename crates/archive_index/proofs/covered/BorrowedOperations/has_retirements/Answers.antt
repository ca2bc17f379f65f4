use Rattle.std.proofs.Common.{Some, sym, ◌∙◌, ap}
use Rattle.std.specs.Option.{option_copied}
use Rattle.archive_index.proofs.Uncovered.{covers_none}
use Rattle.archive_index.proofs.covered.BorrowedOperations.has_retirements.Goals as goal

pub returns-in-Admit : goal.returns-in-Admit
returns-in-Admit c =
    let operations = c.self.inside.operations.now in
    let first = sym c.first.ensures.value ∙ ap option_copied c.in-Some.is ∙ (λ i. Some (c.in-Admit.is i)) in
    record { none = λ _ r. rw (← c.self.view_is) (covers_none operations c.self.invariant (λ key digest h. cc (sym first ∙ h)) r) }

pub returns-in_default : goal.returns-in_default
returns-in_default c =
    let operations = c.self.inside.operations.now in
    let first = sym c.first.ensures.value ∙ ap option_copied c.in_default.is in
    record { none = λ _ r. rw (← c.self.view_is) (covers_none operations c.self.invariant (λ key digest h. cc (sym first ∙ h)) r) }
