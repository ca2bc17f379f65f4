use Rattle.std.proofs.Common.{Some, refl, ap, sym, subst, ◌∙◌}
use Rattle.table_checked_pages.specs.Pages.{AreStored}
use Rattle.table_checked_pages.specs.Views.{claim_view}
use Rattle.table_checked_pages.proofs.ReadLemmas.{after_ok, passed_on}
use Rattle.table_source_frames.proofs.OpenedLemmas.{kept, no_file, some_file}
use Rattle.table_source_frames.specs.LineText.{parts_of}
use Rattle.table_source_frames.proofs.ByteLemmas.{stored_path}
use Rattle.table_source_frames.proofs.table.LineTable.maybe_path.Goals as goal

pub returns-then-number-eq0-clause-read : goal.returns-then-number-eq0-clause-read
returns-then-number-eq0-clause-read g c = record {
  says = λ text known all strings steps told opened is. no_file (parts_of strings steps) c.args.number told c.if-number-eq0.true is;
  keeps = refl;
  counts = refl;
}

pub returns-in_err-row-clause-read : goal.returns-in_err-row-clause-read
returns-in_err-row-clause-read g c =
    passed_on c.in_err-row.was c.from_residual.ensures.1
    (λ text known absent all strings steps told stored opened is.
    let some = some_file (parts_of strings steps) c.args.number told c.if-number-eq0.false is in
    absent all strings steps some.0 stored opened some.2)
    c.file_row.ensures.read

pub returns-in_err-path-clause-read : goal.returns-in_err-path-clause-read
returns-in_err-path-clause-read g c =
    let row = c.in_ok-row.ensures.read in
    passed_on c.in_err-path.was c.from_residual-in_err-path.ensures.1
    (λ text known absent all strings steps told stored opened is.
    let some = some_file (parts_of strings steps) c.args.number told c.if-number-eq0.false is in
    absent all strings steps some.0 (subst (λ claim. AreStored text (claim_view claim) all) (sym c.in_ok-row.ensures.claim) stored)
    (kept _ _ _ _ _ _ _ opened (c.in_ok-row.ensures.keeps text all known opened.are_pages)) (row.says text known all strings steps some.0 opened some.2))
    (after_ok row.keeps row.counts c.path_of.ensures.read)

pub returns-clause-read : goal.returns-clause-read
returns-clause-read g c =
    let row = c.in_ok-row.ensures.read in
    let path = after_ok row.keeps row.counts c.in_ok-path.ensures.read in
    record {
      says = λ text known all strings steps told opened is.
          let some = some_file (parts_of strings steps) c.args.number told c.if-number-eq0.false is in
          ap Some (path.says text known all strings steps some.0
          (kept _ _ _ _ _ _ _ opened (c.in_ok-row.ensures.keeps text all known opened.are_pages))
          (row.says text known all strings steps some.0 opened some.2)) ∙ sym some.1;
      keeps = path.keeps;
      counts = path.counts;
    }

pub returns-clause-bytes : goal.returns-clause-bytes
returns-clause-bytes g c = λ text all known pages.
    stored_path c.args.self.now all c.args.number c.in_ok-row.row _ (c.in_ok-row.ensures.bytes text all known pages)
    (c.in_ok-path.ensures.bytes text all (c.in_ok-row.ensures.read.keeps ∙ known)
    (c.in_ok-row.ensures.keeps text all known pages))

pub returns-then-number-eq0-clause-bytes : goal.returns-then-number-eq0-clause-bytes
returns-then-number-eq0-clause-bytes g c = λ text all known pages. c.if-number-eq0.true
