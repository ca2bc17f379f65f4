use Rattle.std.proofs.Common.{sym, subst, ◌∙◌}
use Rattle.table_checked_pages.specs.Pages.{AreStored}
use Rattle.table_checked_pages.specs.Views.{claim_view}
use Rattle.table_checked_pages.proofs.ReadLemmas.{after_ok, passed_on}
use Rattle.table_source_frames.proofs.OpenedLemmas.{kept, same_path_parts}
use Rattle.table_source_frames.proofs.table.LineTable.path_of.Goals as goal

pub returns-in_err-base-clause-read : goal.returns-in_err-base-clause-read
returns-in_err-base-clause-read g c =
    passed_on c.in_err-base.was c.from_residual.ensures.1
    (λ text known absent all strings steps told stored opened is. absent all strings steps told.base stored opened is.base)
    c.text.ensures.read

pub returns-in_err-directory-clause-read : goal.returns-in_err-directory-clause-read
returns-in_err-directory-clause-read g c =
    let base = c.in_ok-base.ensures.read in
    passed_on c.in_err-directory.was c.from_residual-in_err-directory.ensures.1
    (λ text known absent all strings steps told stored opened is.
    absent all strings steps told.directory (subst (λ claim. AreStored text (claim_view claim) all) (sym c.in_ok-base.ensures.claim) stored)
    (kept _ _ _ _ _ _ _ opened (c.in_ok-base.ensures.keeps text all known opened.are_pages)) is.directory)
    (after_ok base.keeps base.counts c.text-2.ensures.read)

pub returns-in_err-name-clause-read : goal.returns-in_err-name-clause-read
returns-in_err-name-clause-read g c =
    let base = c.in_ok-base.ensures.read in
    let directory = after_ok base.keeps base.counts c.in_ok-directory.ensures.read in
    passed_on c.in_err-name.was c.from_residual-in_err-name.ensures.1
    (λ text known absent all strings steps told stored opened is.
    absent all strings steps told.name (subst (λ claim. AreStored text (claim_view claim) all)
    (sym (c.in_ok-directory.ensures.claim ∙ c.in_ok-base.ensures.claim)) stored)
    (kept _ _ _ _ _ _ _ opened (c.in_ok-directory.ensures.keeps text all (base.keeps ∙ known)
    (c.in_ok-base.ensures.keeps text all known opened.are_pages))) is.name)
    (after_ok directory.keeps directory.counts c.text-3.ensures.read)

pub returns-clause-read : goal.returns-clause-read
returns-clause-read g c =
    let base = c.in_ok-base.ensures.read in
    let directory = after_ok base.keeps base.counts c.in_ok-directory.ensures.read in
    let name = after_ok directory.keeps directory.counts c.in_ok-name.ensures.read in
    record {
      says = λ text known all strings steps told opened is.
          let second = kept _ _ _ _ _ _ _ opened (c.in_ok-base.ensures.keeps text all known opened.are_pages) in
          let third = kept _ _ _ _ _ _ _ second (c.in_ok-directory.ensures.keeps text all (base.keeps ∙ known) second.are_pages) in
          same_path_parts _ _ _ told (base.says text known all strings steps told.base opened is.base)
          (directory.says text known all strings steps told.directory second is.directory)
          (name.says text known all strings steps told.name third is.name);
      keeps = name.keeps;
      counts = name.counts;
    }

pub returns-clause-bytes : goal.returns-clause-bytes
returns-clause-bytes g c = λ text all known pages.
    let second = c.in_ok-base.ensures.keeps text all known pages in
    let first_kept = c.in_ok-base.ensures.read.keeps in
    let third = c.in_ok-directory.ensures.keeps text all (first_kept ∙ known) second in
    record {
      base = c.in_ok-base.ensures.bytes text all known pages;
      directory = c.in_ok-directory.ensures.bytes text all (first_kept ∙ known) second;
      name = c.in_ok-name.ensures.bytes text all (c.in_ok-directory.ensures.read.keeps ∙ first_kept ∙ known) third;
    }
