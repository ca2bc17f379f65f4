use Rattle.std.proofs.Common.{arith}
use Rattle.command_archives.proofs.apply.read_new.Goals as goal

pub returns : goal.returns
returns g c = record {
  is = record {
    operations = c.in_ok-operations.operations.items;
    ops_are = c.in_ok-operations.ensures.is;
    sorted_is = c.in_ok-sorted.ensures;
    number_is = omega (arith, c.len-number.ensures, c.in_ok-operations.operations.ok.0);
  };
  unfailed = c.in_ok-operations.ensures.unfailed;
}
