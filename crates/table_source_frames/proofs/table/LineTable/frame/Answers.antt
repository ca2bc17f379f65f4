use Rattle.std.proofs.Common.{refl, sym, subst, ◌∙◌}
use Rattle.table_checked_pages.specs.Pages.{AreStored}
use Rattle.table_checked_pages.specs.Views.{claim_view}
use Rattle.table_checked_pages.proofs.ReadLemmas.{after_ok, passed_on}
use Rattle.table_source_frames.proofs.OpenedLemmas.{kept, same_frame_parts}
use Rattle.table_source_frames.proofs.table.LineTable.frame.Goals as goal

pub returns-in_err-name-clause-read : goal.returns-in_err-name-clause-read
returns-in_err-name-clause-read g c =
    passed_on c.in_err-name.was c.from_residual.ensures.1
    (λ text known absent all strings steps told callers stored opened is. absent all strings steps told.name stored opened is.name)
    c.maybe_text.ensures.read

pub returns-in_err-path-clause-read : goal.returns-in_err-path-clause-read
returns-in_err-path-clause-read g c =
    let name = c.in_ok-name.ensures.read in
    passed_on c.in_err-path.was c.from_residual-in_err-path.ensures.1
    (λ text known absent all strings steps told callers stored opened is.
    absent all strings steps told.path (subst (λ claim. AreStored text (claim_view claim) all) (sym c.in_ok-name.ensures.claim) stored)
    (kept _ _ _ _ _ _ _ opened (c.in_ok-name.ensures.keeps text all known opened.are_pages)) is.file)
    (after_ok name.keeps name.counts c.maybe_path.ensures.read)

pub returns-clause-read : goal.returns-clause-read
returns-clause-read g c =
    let name = c.in_ok-name.ensures.read in
    let path = after_ok name.keeps name.counts c.in_ok-path.ensures.read in
    record {
      says = λ text known all strings steps told callers opened is line column.
          same_frame_parts _ _ _ _ told (name.says text known all strings steps told.name opened is.name)
          (path.says text known all strings steps told.path (kept _ _ _ _ _ _ _ opened (c.in_ok-name.ensures.keeps text all known opened.are_pages)) is.file)
          line column;
      keeps = path.keeps;
      counts = path.counts;
    }

pub returns-clause-bytes : goal.returns-clause-bytes
returns-clause-bytes g c = λ text all known pages. record {
  name = c.in_ok-name.ensures.bytes text all known pages;
  path = c.in_ok-path.ensures.bytes text all (c.in_ok-name.ensures.read.keeps ∙ known)
      (c.in_ok-name.ensures.keeps text all known pages);
  line = refl;
  column = refl;
}
