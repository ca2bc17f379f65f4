use Rattle.std.proofs.Common.{◌≡◌, ◌++◌, drop, map, option_map}
use Rattle.clap.specs.Words.{found_of, rows_of}
use Rattle.cli_arguments.specs.{TableView.argument_in, Lines.all_values, ValuesView.values_view}
use Rattle.cli_arguments.specs.LineFaults.{IsRefusedBy, refusal_among}
use Rattle.cli_arguments.specs.declared.line_faults.LineFault.{LineFault}
use Rattle.cli_arguments.proofs.spelled_values.all_values.Given as goal

-- what is left gives what all of them give, and what is told of what is left is told of all
abbrev pub invariant-arguments : goal.invariant-arguments
invariant-arguments l =
    (option_map (λ vs. map values_view l.all.items ++ vs)
    (all_values (map argument_in (drop l.argument-index l.arguments)) (rows_of (found_of l.matches)))
    ≡ all_values (map argument_in l.arguments) (rows_of (found_of l.matches)))
    × ((fault : LineFault)
    → IsRefusedBy (refusal_among (map argument_in (drop l.argument-index l.arguments)) (rows_of (found_of l.matches))) fault
    → IsRefusedBy (refusal_among (map argument_in l.arguments) (rows_of (found_of l.matches))) fault)
