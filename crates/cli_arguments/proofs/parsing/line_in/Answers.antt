use Rattle.std.proofs.Common.{◌≡◌, map, subst, sym, true}
use Rattle.clap.specs.Words.{found_of, rows_of}
use Rattle.cli_arguments.specs.{TableView.signature_in, Table.is_listed, ValuesView.values_view}
use Rattle.cli_arguments.proofs.Listed.{listed}
use Rattle.cli_arguments.proofs.parsing.line_in.Goals as goal

pub invariant_of-result : goal.invariant_of-result
invariant_of-result c = record {
  of_table = subst (λ name. is_listed name (map values_view c.in_ok-values.values.items) ≡ true)
      (sym c.in_ok-name.ensures.ok)
      (listed c.args.name.now (signature_in c.in-Some.row) (rows_of (found_of c.args.matches.now))
      (map values_view c.in_ok-values.values.items) c.in-Some.ensures c.in_ok-values.ensures.ok);
}
