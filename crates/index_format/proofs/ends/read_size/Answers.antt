use Rattle.std.proofs.Common.{◌≡◌, length, inl, refl, sym}
use Rattle.index_format.proofs.EndLemmas.{some_is}
use Rattle.index_format.proofs.ends.read_size.Goals as goal

pub returns-in-Ok : goal.returns-in-Ok
returns-in-Ok g c = record {
  says = λ text known. sym (some_is (g.P.Placed.whole c.args.device.now) text (λ all. length all ≡ c.in-Ok.size) known c.in-Ok.ensures.size);
  keeps = c.in-Ok.ensures.keeps;
  counts = c.in-Ok.ensures.count.1;
}

pub returns-in-Err : goal.returns-in-Err
returns-in-Err g c = record { says = λ text known. inl (inl refl, inl refl); keeps = c.in-Err.ensures.keeps; counts = c.in-Err.ensures.count }
