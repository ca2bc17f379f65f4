use Rattle.laws_index.proofs.Accepted.{by_device, by_part_device, together_by_device}
use Rattle.laws_index.proofs.command_laws.right_index_is_accepted.Goals as goal

pub returns : goal.returns
returns g c = record {
  alone = by_device;
  part = by_part_device;
  together = λ uuids prefixes inputs archives os at why are some refused.
      together_by_device uuids prefixes inputs archives os at why are some refused;
}
