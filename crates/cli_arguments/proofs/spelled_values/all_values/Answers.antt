use Rattle.std.proofs.Common.{arith, ◌+◌, drop, map, subst, sym}
use Rattle.std.proofs.lemmas.{Grind.common_steps, List.at_drop_more}
use Rattle.clap.specs.Words.{found_of, rows_of}
use Rattle.cli_arguments.specs.{LineFaults.IsRefusedBy, LineFaults.refusal_among, TableView.argument_in}
use Rattle.cli_arguments.proofs.LineFaultLemmas.{among_next}
use Rattle.cli_arguments.proofs.spelled_values.all_values.Goals as goal

pub arguments-preserved : goal.arguments-preserved
arguments-preserved c =
    let rows = rows_of (found_of c.args.matches.now) in
    let index = c.arguments.argument-index in (
      grind (arith, common_steps),
      λ fault left. c.arguments.invariant.1 fault (subst (λ o. IsRefusedBy o fault)
          (sym (at_drop_more (λ rest. refusal_among (map argument_in rest) rows) c.args.arguments.now index _ (omega arith)))
          (among_next _ (map argument_in (drop (index + 1) c.args.arguments.now)) rows _ fault
          c.in_ok-values_at.ensures.ok left)),
    )
