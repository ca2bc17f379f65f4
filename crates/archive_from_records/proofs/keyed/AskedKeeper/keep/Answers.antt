use Rattle.std.proofs.Common.{Some, ap, arith, length, sym, ◌∙◌}
use Rattle.archive_from_records.specs.InnerKeys.{prefix_of}
use Rattle.archive_records.proofs.Forms.{long-admission}
use Rattle.std.proofs.lemmas.Result.{on_ok_weaker}
use Rattle.archive_from_records.proofs.Questioned.{admission_held, admission_other, asked_before, borrowed_admits, borrowed_retires, retirement_more}
use Rattle.archive_from_records.proofs.keyed.AskedKeeper.keep.Goals as goal

pub returns-in_default-clause-kept : goal.returns-in_default-clause-kept
returns-in_default-clause-kept g c = λ start records apart asked.
    let last = c.args.reader.now.last in
    let told = c.record.ensures in
    rw c.requires.none (retirement_more (g.Q.Questions.left c.args.self.now.0)
    (λ o. g.Q.Questions.answered start.0 o c.args.self.now.0) (g.A.Join.content c.args.kept.now.archive)
    records last
    (borrowed_retires last c.in_default.field-0 c.in_default.field-1 (rw c.in_default.is at told.operation) (rw c.in_default.is at told.bytes)) asked)

pub slice_bounds-prefix-end : goal.slice_bounds-prefix-end
slice_bounds-prefix-end g c =
    let last = c.args.reader.now.last in
    let told = c.record.ensures in
    omega (
      arith,
      ap length c.last.ensures,
      long-admission last
          (borrowed_admits last c.in-Admit.field-0 (rw c.in-Admit.is at told.operation) (rw c.in-Admit.is at told.bytes)),
    )

pub returns-then-not-is_next-clause-kept : goal.returns-then-not-is_next-clause-kept
returns-then-not-is_next-clause-kept g c = λ start records apart asked.
    let last = c.args.reader.now.last in
    let told = c.record.ensures in
    let passed = rw c.last.ensures at c.in_ok-answer_passed.ensures in
    let now = c.answer_passed.new.questions in
    let held = g.A.Join.content c.answer_passed.new.held in
    rw c.requires.none (admission_other (g.Q.Questions.left now) (λ o. g.Q.Questions.answered start.0 o now) held records last
    (borrowed_admits last c.in-Admit.field-0 (rw c.in-Admit.is at told.operation) (rw c.in-Admit.is at told.bytes))
    (passed.asked start.0 records (asked_before (g.Q.Questions.left c.args.self.now.0)
    (λ o. g.Q.Questions.answered start.0 o c.args.self.now.0) (g.A.Join.content c.args.kept.now.archive)
    records (Some (prefix_of last)) asked))
    passed.passed (sym (rw c.last.ensures at c.is_next.ensures) ∙ c.if-not-is_next.true))

pub returns-clause-kept : goal.returns-clause-kept
returns-clause-kept g c = on_ok_weaker c.keep_last.result (λ more start records apart asked.
    let last = c.args.reader.now.last in
    let told = c.record.ensures in
    let passed = rw c.last.ensures at c.in_ok-answer_passed.ensures in
    let now = c.answer_passed.new.questions in
    let held = g.A.Join.content c.answer_passed.new.held in
    admission_held (g.Q.Questions.left now) (λ o. g.Q.Questions.answered start.0 o now) held records last
    (borrowed_admits last c.in-Admit.field-0 (rw c.in-Admit.is at told.operation) (rw c.in-Admit.is at told.bytes))
    (passed.asked start.0 records (asked_before (g.Q.Questions.left c.args.self.now.0)
    (λ o. g.Q.Questions.answered start.0 o c.args.self.now.0) (g.A.Join.content c.args.kept.now.archive)
    records (Some (prefix_of last)) asked))
    passed.passed (sym (rw c.last.ensures at c.is_next.ensures) ∙ c.if-not-is_next.false) apart _ more)
    c.keep_last.ensures.kept
