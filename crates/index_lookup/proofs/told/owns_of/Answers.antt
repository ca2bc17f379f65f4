use Rattle.std.proofs.Common.{map, subst, sym, get_or, ◌∙◌, arith}
use Rattle.std.specs.List.{AllZip}
use Rattle.std.proofs.lemmas.List.{get_or_default, take_all}
use Rattle.table_checked_pages.specs.Pages.{AreStored}
use Rattle.table_checked_pages.specs.Views.{claim_view}
use Rattle.table_checked_pages.proofs.ReadLemmas.{after_ok, passed_on}
use Rattle.table_symbols.specs.Table.{table_bytes}
use Rattle.archive_core.specs.declared.lookup.Where.TheVariants.{File}
use Rattle.index_lookup.specs.Views.{told_view}
use Rattle.index_lookup.specs.InnerAnswering.{IsOwnOpened}
use Rattle.index_lookup.proofs.Columns.{zip_viewed}
use Rattle.index_lookup.proofs.told.owns_of.Goals as goal

pub asked-preserved : goal.asked-preserved
asked-preserved g c =
    let own = c.in_ok-found.ensures in
    record {
      claim = own.claim ∙ c.asked.invariant.claim;
      whole = own.read.keeps ∙ c.asked.invariant.whole;
      unfailed = own.read.counts ∙ c.asked.invariant.unfailed;
      keeps = λ text t known opened. own.keeps text t (c.asked.invariant.whole ∙ known) (c.asked.invariant.keeps text t known opened);
      bytes = λ text all known opened. own.bytes text all (c.asked.invariant.whole ∙ known) (c.asked.invariant.bytes text all known opened);
      told = λ text known.
          zip_viewed (IsOwnOpened c.args.table.now text) told_view c.args.asked.now c.asked.place-index
          (get_or c.args.asked.now c.asked.place-index (File 0)) c.asked.owns.items c.push.new.self.items
          c.in_ok-found.found c.asked-test.true (get_or_default c.args.asked.now c.asked.place-index (File 0) _
          c.asked-test.true) c.in_default.ensures.items
          (c.asked.invariant.told text known)
          (λ slice t bytes is opened. own.read.says text (c.asked.invariant.whole ∙ known) slice t bytes is (c.asked.invariant.keeps text t known opened));
    }

pub returns-in_err-found-clause-read : goal.returns-in_err-found-clause-read
returns-in_err-found-clause-read g c =
    passed_on c.in_err-found.was c.from_residual.ensures.1
    (λ text known absent t opened stored.
    absent t (c.asked.invariant.keeps text t known opened)
    (subst (λ claim. AreStored text (claim_view claim) (table_bytes t)) (sym c.asked.invariant.claim) stored))
    (after_ok c.asked.invariant.whole c.asked.invariant.unfailed c.own_of.ensures.read)

pub returns-clause-read : goal.returns-clause-read
returns-clause-read g c = record {
  says = λ text known. subst (λ xs. AllZip (IsOwnOpened c.args.table.now text) xs (map told_view c.asked.owns.items))
      (take_all c.asked.place-index c.args.asked.now (omega (arith, c.asked-test.false)))
      (c.asked.invariant.told text known);
  keeps = c.asked.invariant.whole;
  counts = c.asked.invariant.unfailed;
}
