use Rattle.std.proofs.Common.{◌≡◌, sym, subst, arith}
use Rattle.table_checked_pages.specs.Pages.{MayBeStored, level_of, page_of}
use Rattle.table_checked_pages.specs.Views.{claim_view}
use Rattle.table_checked_pages.proofs.LevelLemmas.{level_within}
use Rattle.table_checked_pages.proofs.PageLemmas.{page_is, page_is_there}
use Rattle.table_checked_pages.proofs.ReadLemmas.{passed_on}
use Rattle.table_checked_pages.proofs.pages.Pages.fetch.Goals as goal

pub read_checked-requires : goal.read_checked-requires
read_checked-requires g c =
    let claim = c.args.self.now.claim in
    omega (
      arith,
      c.page_offset-offset.ensures,
      c.page_len-len.ensures,
      level_within c.args.level claim.size c.requires.level,
      c.args.self.now.fits,
      c.requires.page,
    )

pub returns-in_err-page-clause-read : goal.returns-in_err-page-clause-read
returns-in_err-page-clause-read g c =
    passed_on c.in_err-page.was c.from_residual.ensures.1
    (λ text known absent all stored is. page_is_there text all c.args.digest.now (claim_view c.args.self.now.claim)
    c.args.level c.args.index c.page_offset-offset.result c.page_len-len.result stored c.requires.level c.requires.page
    c.page_offset-offset.ensures c.page_len-len.ensures is absent) c.read_checked.ensures.read

pub returns-in-Ok-clause-keeps : goal.returns-in-Ok-clause-keeps
returns-in-Ok-clause-keeps g c = λ text all known is are.
    let read = c.in_ok-page.ensures.read.says text known in
    let page : c.in_ok-page.page.items ≡ page_of (level_of c.args.level all) c.args.index =
    page_is text all c.in_ok-page.page.items c.args.digest.now (claim_view c.args.self.now.claim) c.args.level c.args.index
    c.page_offset-offset.result c.page_len-len.result are.stored c.requires.level c.requires.page c.page_offset-offset.ensures
    c.page_len-len.ensures read.0 read.1 is in
    record {
      stored = subst (λ claim. MayBeStored text (claim_view claim) all) (sym c.keep.ensures.claim) are.stored;
      kept = c.keep.ensures.keeps all page are.kept;
    }

pub returns-in-Err-clause-keeps : goal.returns-in-Err-clause-keeps
returns-in-Err-clause-keeps g c = λ text all known is are.
    let read = c.in_ok-page.ensures.read.says text known in
    let page : c.in_ok-page.page.items ≡ page_of (level_of c.args.level all) c.args.index =
    page_is text all c.in_ok-page.page.items c.args.digest.now (claim_view c.args.self.now.claim) c.args.level c.args.index
    c.page_offset-offset.result c.page_len-len.result are.stored c.requires.level c.requires.page c.page_offset-offset.ensures
    c.page_len-len.ensures read.0 read.1 is in
    record {
      stored = subst (λ claim. MayBeStored text (claim_view claim) all) (sym c.keep.ensures.claim) are.stored;
      kept = c.keep.ensures.keeps all page are.kept;
    }
