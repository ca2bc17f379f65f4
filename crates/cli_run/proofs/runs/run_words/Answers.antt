use Rattle.std.proofs.Common.{inl, inr, map, string_bytes, refl}
use Rattle.cli_arguments.specs.LineView.{line_view}
use Rattle.cli_arguments.proofs.Exactly.{accepted_if_faultless}
use Rattle.cli_run.proofs.{Noting.ran, Saying.no_plan, Saying.none_called}
use Rattle.cli_run.proofs.runs.run_words.Goals as goal

pub returns-in-Ok : goal.returns-in-Ok
returns-in-Ok g c = inl (ran (λ notes. notes.items) _ (line_view c.in-Ok.line) (map string_bytes c.args.words.now) _ _ _
    c.in-Ok.ensures.accepted c.in-Ok.ensures.ok c.execute_line-ended.result c.execute_line-ended.ensures c.end.ensures.says c.end.ensures.status)

pub returns-in-Err : goal.returns-in-Err
returns-in-Err g c =
    let words = map string_bytes c.args.words.now in inr (
      record { asked = refl; uncalled = none_called _ _ c.requires.6 c.requires.5 },
      no_plan words c.in-Err.fault _ _ _ c.end_with_line_fault.ensures
          (λ faultless ordered. c.in-Err.ensures.err (accepted_if_faultless words faultless) ordered)
          c.in-Err.ensures.help c.in-Err.ensures.version c.in-Err.ensures.refusal c.in-Err.ensures.told,
    )
