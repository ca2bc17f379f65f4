use Rattle.command_archives.proofs.admit.read_slices.Goals as goal

pub returns : goal.returns
returns g c = record {
  is = (c.in_ok-bytes.bytes.items, c.in_ok-slices.ensures.accepted, c.in_ok-bytes.ensures.is, c.in_ok-slices.ensures.slices);
  unfailed = c.in_ok-bytes.ensures.unfailed;
}
