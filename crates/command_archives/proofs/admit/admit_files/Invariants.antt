use Rattle.std.proofs.Common.{◌≡◌, ℕ, List, Ok, map, take, drop}
use Rattle.byte_lazy_inputs.specs.declared.openings.Opening.TheVariants.{Fine}
use Rattle.command_archives.specs.InnerArriving.{HasCome}
use Rattle.command_common.specs.Inputs.{EachUnfailed, readers}
use Rattle.command_archives.proofs.admit.admit_files.Given as goal

abbrev pub invariant-files : goal.invariant-files
invariant-files g l = record {
  taken : (texts : List (List ℕ)) × HasCome (λ _. Fine)
      (take l.index (readers g.S.Source.left g.S.Source.failures l.fn.files l.files)) (map Ok texts) l.arrivals.came
      l.arrivals.first_rows.items l.arrivals.rows.items;
  unfailed : EachUnfailed (readers g.S.Source.left g.S.Source.failures l.fn.files l.files);
  rest : drop l.index l.files ≡ drop l.index l.fn.files;
}
