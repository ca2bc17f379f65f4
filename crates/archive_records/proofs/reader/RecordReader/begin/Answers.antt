use Rattle.std.proofs.Common.{[], inr, refl, sym, subst, arith, ◌∙◌}
use Rattle.std.specs.Io.KnownBytes.{Consumes}
use Rattle.std.proofs.lemmas.List.{append-nil}
use Rattle.byte_device.proofs.Known.{Consumes-none}
use Rattle.archive_records.specs.Kind.{magic_of}
use Rattle.archive_records.specs.Reader.{bytes_so_far}
use Rattle.archive_records.proofs.Apart.{apart_none, retired_none, drops_none}
use Rattle.archive_records.proofs.Blamed.{filled_first}
use Rattle.archive_records.proofs.FaultKinds.{memory_blames}
use Rattle.archive_records.proofs.reader.RecordReader.begin.Goals as goal

pub returns-clause-read : goal.returns-clause-read
returns-clause-read g c =
    let file = c.in-Ok-read_magic.format in
    let magic = c.in-Ok-read_magic.ensures.magic.1 in
    record {
      file_is = refl;
      taken = subst (Consumes (g.R.Source.left c.args.r.now) (g.R.Source.left c.read_magic.new.r))
          (magic ∙ sym (append-nil (magic_of file))) (filled_first refl c.read_magic.ensures.fills);
      ordered = tt;
      apart = apart_none file;
      last_is = c.clear.ensures.items;
      count_is = refl;
      offset_is = refl;
      retired_are = retired_none file c.none-retired.result c.none-retired.ensures;
      dropped_is = drops_none file _ refl;
    }

pub returns-in_default : goal.returns-in_default
returns-in_default g c =
    rw c.out_of_memory.ensures (record {
      read = tt;
      kind = tt;
      start = refl;
      stops =
          ([], Consumes-none (g.R.Source.left c.args.r.now), λ format is. inr (inr (refl, omega arith)));
      reader =
          memory_blames g.R.Source.left g.R.Source.failures c.args.r.now c.args.r.now refl;
    })

pub returns-in-Err-clause-stops : goal.returns-in-Err-clause-stops
returns-in-Err-clause-stops g c = (bytes_so_far c.read_magic.new.buffer, filled_first refl c.read_magic.ensures.fills, c.in-Err.ensures.stops)
