use Rattle.std.proofs.Common.{◌≡◌, List, take, drop}
use Rattle.std.specs.List.{list_any}
use Rattle.command_archives.specs.InnerArriving.{HasCome, is_passed}
use Rattle.command_archives.specs.PassedOver.{Outcome}
use Rattle.command_common.specs.Inputs.{readers}
use Rattle.command_archives.proofs.admit.take_files.Given as goal

abbrev pub invariant-files : goal.invariant-files
invariant-files g l = record {
  taken : (outcomes : List Outcome) × HasCome g.S.Opens.opening_of
      (take l.index (readers g.S.Source.left g.S.Source.failures l.fn.files l.files)) outcomes l.arrivals.came
      l.arrivals.first_rows.items l.arrivals.rows.items
      × (l.passed ≡ list_any is_passed outcomes);
  rest : drop l.index l.files ≡ drop l.index l.fn.files;
}
