use Rattle.std.proofs.Common.{sym, subst, ◌∙◌}
use Rattle.table_checked_pages.specs.Pages.{AreStored, MayBeStored}
use Rattle.table_checked_pages.specs.Views.{claim_view}
use Rattle.table_checked_pages.proofs.PageLemmas.{may_be}
use Rattle.table_checked_pages.proofs.ReadLemmas.{after_ok, passed_on}
use Rattle.table_symbols.specs.Table.{table_bytes}
use Rattle.index_lookup.proofs.Columns.{zip_as}
use Rattle.index_lookup.proofs.told.owns_by_claim.Goals as goal

pub returns-in_err-table-clause-read : goal.returns-in_err-table-clause-read
returns-in_err-table-clause-read g c =
    passed_on c.in_err-table.was c.from_residual.ensures.1
    (λ text known absent long slice all is stored. absent long is.is_table.0 is.is_table.2
    (subst (AreStored text (claim_view c.args.claim)) is.is_table.3 stored)) c.open.ensures.read

pub returns-in_err-owns-clause-read : goal.returns-in_err-owns-clause-read
returns-in_err-owns-clause-read g c =
    let opened = c.in_ok-table.ensures.read in
    passed_on c.in_err-owns.was c.from_residual-in_err-owns.ensures.1
    (λ text known absent long slice all is stored.
    let here = subst (AreStored text (claim_view c.args.claim)) is.is_table.3 stored in
    absent is.is_table.0 (opened.says text known is.is_table.0 is.is_table.2 (may_be text (table_bytes is.is_table.0) (claim_view c.args.claim) here))
    (subst (λ claim. AreStored text (claim_view claim) (table_bytes is.is_table.0)) (sym c.in_ok-table.ensures.claim) here))
    (after_ok opened.keeps opened.counts c.owns_of.ensures.read)

pub returns-clause-read : goal.returns-clause-read
returns-clause-read g c =
    let opened = c.in_ok-table.ensures.read in
    let asked = after_ok opened.keeps opened.counts c.in_ok-owns.ensures.read in
    record {
      says = λ text known. (
        record {
          opened = λ t fits may. c.in_ok-owns.ensures.keeps text t (opened.keeps ∙ known) (opened.says text known t fits may);
          of_bytes = λ all may. c.in_ok-owns.ensures.bytes text all (opened.keeps ∙ known) (c.in_ok-table.ensures.bytes text all known may);
        },
        λ slice all bytes is may.
            let here = opened.says text known is.is_table.0 is.is_table.2 (subst (MayBeStored text (claim_view c.args.claim)) is.is_table.3 may) in
            c.text_base-base.ensures ∙ here.head.base ∙ is.is_table.1.base,
        zip_as _ _ c.args.asked.now _ (λ place own told. record {
          of_slice = λ slice all bytes is may. told slice is.is_table.0 bytes is.is_table.1
              (opened.says text known is.is_table.0 is.is_table.2
              (subst (MayBeStored text (claim_view c.args.claim)) is.is_table.3 may));
          of_bytes = λ all may. (c.in_ok-table.ensures.bytes text all known may).headed;
        }) (asked.says text known),
      );
      keeps = asked.keeps;
      counts = asked.counts;
    }

pub returns-clause-claim : goal.returns-clause-claim
returns-clause-claim g c = c.in_ok-owns.ensures.claim ∙ c.in_ok-table.ensures.claim
