use Rattle.std.proofs.Common.{◌≤◌, false, List, ◌||◌, length, subst, ap, arith, sym}
use Rattle.table_checked_pages.proofs.ReadLemmas.{after_ok}
use Rattle.index_format.specs.InnerPaged.{bytes_of, is_tagged_one, numbers_of}
use Rattle.index_format.specs.Spread.{AreNumbers, entry_with}
use Rattle.index_format.specs.declared.paged_entry.PagedEntry.{PagedEntry}
use Rattle.index_format.proofs.ReadRuns.{all_read, seeks_first, seeks_second}
use Rattle.index_format.proofs.SpreadLemmas.{numbers_none}
use Rattle.index_format.proofs.paged_entries.read_paged.Goals as goal

pub read_tagged-requires-clause-numbers : goal.read_tagged-requires-clause-numbers
read_tagged-requires-clause-numbers g c =
    subst (λ (read : List PagedEntry). AreNumbers 0 (numbers_of read)) (sym c.new-read.ensures.items) (numbers_none 0)

pub returns-clause-read : goal.returns-clause-read
returns-clause-read g c =
    let first = c.in_ok-read_tagged.ensures in
    let second = after_ok first.read.keeps first.read.counts c.in_ok-read_tagged-2.ensures.read in
    record {
      says = λ text known all entries pages fill tags.
          let within : c.args.retired ≤ length entries = omega (arith, c.requires.within, fill.many) in
          let one = first.read.says text known all entries (λ _. false) pages fill tags.ascending
          (seeks_first c.args.uuids.now entries c.args.retired tags within)
          (λ k. ap (λ (read : List PagedEntry). entry_with (numbers_of read) (bytes_of read) k) c.new-read.ensures.items) in
          let two = second.says text known all entries (λ e. false || is_tagged_one 1 c.args.uuids.now e) (first.keeps text all known pages) fill
          tags.ascending (seeks_second c.args.uuids.now entries c.args.retired tags c.args.count fill.many c.requires.within) one in
          all_read c.args.uuids.now entries c.args.retired tags c.args.count (numbers_of c.read_tagged-2.new.read.items)
          (bytes_of c.read_tagged-2.new.read.items) fill.many two;
      keeps = second.keeps;
      counts = second.counts;
    }
