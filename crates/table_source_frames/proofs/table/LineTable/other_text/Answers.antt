use Rattle.std.proofs.Common.{refl, sym, subst, ◌∙◌, arith}
use Rattle.std.proofs.lemmas.Option.{same_Some}
use Rattle.table_checked_pages.specs.Pages.{AreStored}
use Rattle.table_checked_pages.specs.Views.{claim_view}
use Rattle.table_checked_pages.proofs.ReadLemmas.{after_ok, passed_on}
use Rattle.table_source_frames.proofs.OpenedLemmas.{kept, other_at, other_within}
use Rattle.table_source_frames.proofs.ByteLemmas.{stored_text}
use Rattle.table_source_frames.proofs.table.LineTable.other_text.Goals as goal

pub returns-in_default-clause-read : goal.returns-in_default-clause-read
returns-in_default-clause-read g c = record {
  says = λ text known all strings steps told stored opened is. c.index_of.ensures.none c.in_default.is is.some
      (other_within _ _ _ _ _ _ opened c.args.number told is);
  keeps = refl;
  counts = refl;
}

pub returns-in_err-row-clause-read : goal.returns-in_err-row-clause-read
returns-in_err-row-clause-read g c =
    passed_on c.in_err-row.was c.from_residual.ensures.1
    (λ text known absent all strings steps told stored opened is. absent all strings steps stored opened)
    c.text_row.ensures.read

pub returns-in_err-bytes-clause-read : goal.returns-in_err-bytes-clause-read
returns-in_err-bytes-clause-read g c =
    let row = c.in_ok-row.ensures.read in
    passed_on c.in_err-bytes.was c.from_residual-in_err-bytes.ensures.1
    (λ text known absent all strings steps told stored opened is.
    absent all strings steps c.in-Some.index (subst (λ claim. AreStored text (claim_view claim) all) (sym c.in_ok-row.ensures.claim) stored)
    (kept _ _ _ _ _ _ _ opened (c.in_ok-row.ensures.keeps text all known opened.are_pages)) (omega (arith, c.in-Some.ensures.inside, opened.head.texts))
    (row.says text known all strings steps opened))
    (after_ok row.keeps row.counts c.text_of.ensures.read)

pub returns-clause-read : goal.returns-clause-read
returns-clause-read g c =
    let row = c.in_ok-row.ensures.read in
    let bytes = after_ok row.keeps row.counts c.in_ok-bytes.ensures.read in
    record {
      says = λ text known all strings steps told opened is.
          let there = bytes.says text known all strings steps c.in-Some.index
          (kept _ _ _ _ _ _ _ opened (c.in_ok-row.ensures.keeps text all known opened.are_pages))
          (omega (arith, c.in-Some.ensures.inside, opened.head.texts)) (row.says text known all strings steps opened) in
          same_Some _ told (sym there ∙ other_at _ _ _ c.in-Some.index is c.in-Some.ensures.is);
      keeps = bytes.keeps;
      counts = bytes.counts;
    }

pub returns-clause-bytes : goal.returns-clause-bytes
returns-clause-bytes g c = λ text all known pages.
    stored_text c.args.self.now all c.args.number c.in-Some.index c.in_ok-row.row c.in_ok-bytes.bytes.items
    c.in-Some.ensures.is c.in-Some.ensures.inside (c.in_ok-row.ensures.bytes text all known pages)
    c.in_ok-bytes.ensures.inside
    (c.in_ok-bytes.ensures.bytes text all (c.in_ok-row.ensures.read.keeps ∙ known)
    (c.in_ok-row.ensures.keeps text all known pages))
