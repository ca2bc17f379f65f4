use Rattle.std.proofs.Common.{ap, sym, subst, ◌∙◌, arith}
use Rattle.table_checked_pages.specs.Pages.{AreStored}
use Rattle.table_checked_pages.specs.Views.{ArePagesOf, claim_view}
use Rattle.table_checked_pages.proofs.PageLemmas.{may_be}
use Rattle.table_checked_pages.proofs.ReadLemmas.{passed_on, unread}
use Rattle.table_symbols.specs.Table.{table_bytes}
use Rattle.table_symbols.proofs.HeadedLemmas.{counted, headed}
use Rattle.table_symbols.proofs.TableLemmas.{head_in, length-table, table_has_size}
use Rattle.table_symbols.proofs.table.Table.open.Goals as goal

pub returns-in_err-pages-clause-read : goal.returns-in_err-pages-clause-read
returns-in_err-pages-clause-read g c =
    unread _ _ _ _ _ _ _ c.from_residual.ensures.1 c.in_err-pages.ensures.fault
    (λ text known long t fits stored. c.in_err-pages.ensures.absent text long (table_bytes t) stored)

pub returns-in_err-read-clause-read : goal.returns-in_err-read-clause-read
returns-in_err-read-clause-read g c =
    passed_on c.in_err-read.was c.from_residual-in_err-read.ensures.1
    (λ text known absent long t fits stored.
    absent (table_bytes t) (subst (λ claim. AreStored text (claim_view claim) (table_bytes t)) (sym c.in_ok-pages.ensures.claim) stored)
    (c.in_ok-pages.ensures.opened text (table_bytes t) (may_be text (table_bytes t) (claim_view c.args.claim) stored))
    (omega (arith, length-table t fits, c.read.auto.buf)))
    c.read.ensures.read

pub returns-then-not-has_size-clause-read : goal.returns-then-not-has_size-clause-read
returns-then-not-has_size-clause-read g c =
    let read = c.in_ok-read.ensures.read in
    record {
      says = λ text known long t fits stored.
          let pages = c.in_ok-pages.ensures.opened text (table_bytes t) (may_be text (table_bytes t) (claim_view c.args.claim) stored) in
          let head = c.head_of-head.ensures.is t fits (head_in t _ _ c.read.auto.buf (read.says text known (table_bytes t) pages)) in
          absurd (cc (c.if-not-has_size.ensures.1 (table_has_size t c.head_of-head.result c.args.claim.size fits head stored.size)));
      keeps = read.keeps;
      counts = read.counts;
    }

pub returns-clause-read : goal.returns-clause-read
returns-clause-read g c =
    let read = c.in_ok-read.ensures.read in
    record {
      says = λ text known t fits may.
          let pages : ArePagesOf c.in_ok-pages.pages text (table_bytes t) = c.in_ok-pages.ensures.opened text (table_bytes t) may in
          record {
            fits = fits;
            pages = c.in_ok-read.ensures.keeps text (table_bytes t) known pages;
            head = c.head_of-head.ensures.is t fits (head_in t _ _ c.read.auto.buf (read.says text known (table_bytes t) pages));
          };
      keeps = read.keeps;
      counts = read.counts;
    }

pub returns-clause-bytes : goal.returns-clause-bytes
returns-clause-bytes g c = λ text all known may.
    let pages : ArePagesOf c.in_ok-pages.pages text all = c.in_ok-pages.ensures.opened text all may in
    let came = c.in_ok-read.ensures.read.says text known all pages in
    let counts = counted all c.read.new.buf _ c.head_of-head.result c.read.auto.buf came c.head_of-head.ensures.counts in
    record {
      headed = headed all c.head_of-head.result c.args.claim.size counts may.size
          (omega (arith, c.read.auto.buf, c.in_ok-read.ensures.within (omega (arith, c.read.auto.buf)), ap (λ claim. claim.size) c.in_ok-pages.ensures.claim))
          (c.if-not-has_size.ensures.0 (cc));
      counts = counts;
      pages = c.in_ok-read.ensures.keeps text all known pages;
    }
