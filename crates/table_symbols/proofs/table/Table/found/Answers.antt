use Rattle.std.proofs.Common.{subst, sym}
use Rattle.table_checked_pages.specs.Pages.{AreStored}
use Rattle.table_checked_pages.specs.Views.{claim_view}
use Rattle.table_checked_pages.proofs.ReadLemmas.{after_ok, passed_on}
use Rattle.table_symbols.specs.Found.{IsSaid}
use Rattle.table_symbols.specs.Table.{table_bytes}
use Rattle.table_symbols.proofs.FoundLemmas.{found_said}
use Rattle.table_symbols.proofs.table.Table.found.Goals as goal

pub returns-clause-read : goal.returns-clause-read
returns-clause-read g c =
    let symbol = c.in_ok-symbol.ensures.read in
    let names = after_ok symbol.keeps symbol.counts c.in_ok-names.ensures.read in
    record {
      says = λ text known image t bytes is opened.
          let said = subst (IsSaid image c.args.address) c.in-Some.is (symbol.says text known image t bytes is opened) in
          let mid = c.in_ok-symbol.ensures.keeps text t known opened in
          found_said image c.args.address t (record {
            symbol = c.in-Some.symbol;
            offset =
                c.saturating_sub-offset.result;
            names = c.in_ok-names.names;
          }) is said c.in_ok-names.ensures.fits
          (names.says text known t mid) c.saturating_sub-offset.ensures;
      keeps = names.keeps;
      counts = names.counts;
    }

pub returns-in_err-names-clause-read : goal.returns-in_err-names-clause-read
returns-in_err-names-clause-read g c =
    let symbol = c.in_ok-symbol.ensures.read in
    passed_on c.in_err-names.was c.from_residual-in_err-names.ensures.1
    (λ text known absent t opened stored.
    absent t (c.in_ok-symbol.ensures.keeps text t known opened)
    (subst (λ claim. AreStored text (claim_view claim) (table_bytes t)) (sym c.in_ok-symbol.ensures.claim) stored))
    (after_ok symbol.keeps symbol.counts c.section_names.ensures.read)
