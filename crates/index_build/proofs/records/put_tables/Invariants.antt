use Rattle.std.proofs.Common.{◌≡◌, ◌-◌, ◌<◌, ◌^◌, List, ℕ, Option, []}
use Rattle.byte_device.specs.Writes.{IsPut}
use Rattle.archive_records.specs.Reader.{HasRead}
use Rattle.archive_records.specs.declared.format.Format.TheVariants.{Archive}
use Rattle.index_build.specs.Content.{front_of}
use Rattle.index_build.specs.InnerMaking.{HasPut}
use Rattle.index_build.proofs.records.put_tables.Given as goal

abbrev pub invariant-taking : goal.invariant-taking
invariant-taking g l = record {
  gathers : (a : Option (List ℕ)) (first : g.row.W.Denot)
      → HasRead Archive a (g.R.Source.left l.initial.r) [] l.initial.reader
      → IsPut g.W.Sink.held g.W.Sink.failures first l.initial.w 0 (front_of []) l.initial.done
      → HasPut a (g.R.Source.left l.r) g.W.Sink.held g.W.Sink.failures first l.w l.entries.items l.reader l.done;
  file : l.reader.file ≡ Archive;
  unfailed : g.R.Source.failures l.r ≡ g.R.Source.failures l.initial.r;
  short : l.done < 2 ^ 80;
  near : l.reader.offset < 2 ^ 65;
}

abbrev pub decreases-taking : goal.decreases-taking
decreases-taking g l = 2 ^ 63 - l.reader.count
