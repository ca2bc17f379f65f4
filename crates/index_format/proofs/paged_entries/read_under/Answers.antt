use Rattle.std.proofs.Common.{subst, arith, sym}
use Rattle.table_checked_pages.specs.Pages.{AreStored}
use Rattle.table_checked_pages.specs.Views.{claim_view}
use Rattle.table_checked_pages.proofs.ReadLemmas.{after_ok, passed_on}
use Rattle.index_format.specs.InnerPaged.{bytes_of, numbers_of}
use Rattle.index_format.proofs.ReadRuns.{many_of, numbers_after, under_read}
use Rattle.index_format.proofs.paged_entries.read_under.Goals as goal

pub returns-in_err-read_run-clause-read : goal.returns-in_err-read_run-clause-read
returns-in_err-read_run-clause-read g c =
    let run = c.in_ok-start.ensures in
    passed_on c.in_err-read_run.was c.from_residual-in_err-read_run.ensures.1
    (λ text known absent all stored pages held.
    absent all (subst (λ claim. AreStored text (claim_view claim) all) (sym run.claim) stored)
    (run.keeps text all known pages) (omega (arith, held, run.within.2, c.requires.within)))
    (after_ok run.read.keeps run.read.counts c.read_run.ensures.read)

pub returns-clause-numbers : goal.returns-clause-numbers
returns-clause-numbers g c =
    let within = c.in_ok-start.ensures.within in
    numbers_after c.args.from c.in_ok-start.start c.in_ok-start.stop (numbers_of c.args.read.now.items) (numbers_of c.read_run.new.read.items)
    within.0 within.1 c.requires.numbers c.in_ok-read_run.ensures.numbers

pub returns-clause-read : goal.returns-clause-read
returns-clause-read g c =
    let run = c.in_ok-start.ensures in
    let more = after_ok run.read.keeps run.read.counts c.in_ok-read_run.ensures.read in
    record {
      says = λ text known all entries passes pages fill ascending sought are.
          let is = run.read.says text known all entries pages fill ascending in
          let within = run.within in (
            (c.in_ok-start.start, is),
            under_read passes c.args.tag c.args.uuid.now entries c.args.from c.args.to c.in_ok-start.start c.in_ok-start.stop
                (numbers_of c.args.read.now.items) (numbers_of c.read_run.new.read.items)
                (bytes_of c.args.read.now.items) (bytes_of c.read_run.new.read.items)
                c.told-uuid fill.long (omega (arith, c.requires.within, fill.many)) (many_of c.args.read.now.items)
                c.requires.numbers sought is c.in_ok-read_run.ensures.numbers
                (more.says text known all entries c.args.count (run.keeps text all known pages) fill (omega (arith, within.2, c.requires.within)))
                are,
          );
      keeps = more.keeps;
      counts = more.counts;
    }
