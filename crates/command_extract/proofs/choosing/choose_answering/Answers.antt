use Rattle.std.proofs.Common.{ap, length}
use Rattle.archive_core.proofs.Records.{length-key_of}
use Rattle.command_extract.proofs.choosing.choose_answering.Goals as goal

pub returns : goal.returns
returns g c = record {
  admitted = record {
    within = c.number_of.ensures.within;
    record_is = c.number_of.ensures.is;
    long = length-key_of c.args.slice.now c.digest.ensures.valid;
  };
  digest_is = c.digest.ensures.digest;
  size_is = ap length c.bytes.ensures.bytes;
}
