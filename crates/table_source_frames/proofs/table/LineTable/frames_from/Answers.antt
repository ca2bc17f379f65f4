use Rattle.std.proofs.Common.{refl, sym, subst, ◌∙◌, arith}
use Rattle.table_checked_pages.specs.Pages.{AreStored}
use Rattle.table_checked_pages.specs.Views.{claim_view}
use Rattle.table_checked_pages.proofs.ReadLemmas.{after_ok, passed_on}
use Rattle.table_source_frames.specs.LineText.{parts_of}
use Rattle.table_source_frames.proofs.OpenedLemmas.{kept}
use Rattle.table_source_frames.proofs.SearchLemmas.{all_told, maybe_cons, maybe_nil, none_yet, pushed, too_long}
use Rattle.table_source_frames.proofs.ByteLemmas.{AreFrom, frame_before, frames_end}
use Rattle.table_source_frames.proofs.table.LineTable.frames_from.Goals as goal

pub callers-init : goal.callers-init
callers-init g c = record {
  claim = refl;
  whole = refl;
  unfailed = refl;
  keeps = λ text all known pages. pages;
  told = λ text all strings steps chain known opened is few. (chain, is, none_yet c.new-frames.result.items chain c.new-frames.ensures.items);
  bytes = λ text all known pages rest after.
      subst (AreFrom c.args.self.now all c.args.from) (sym (none_yet c.new-frames.result.items rest c.new-frames.ensures.items)) after;
}

pub returns-then-len-eq-MOST_FRAMES-clause-read : goal.returns-then-len-eq-MOST_FRAMES-clause-read
returns-then-len-eq-MOST_FRAMES-clause-read g c = record {
  says = λ text known all strings steps chain stored opened is few.
      let told = c.callers.invariant.told text all strings steps chain known opened is few in
      let next = maybe_cons (parts_of strings steps) c.callers.position.scope c.callers.position.line
      c.callers.position.column told.0 c.callers-test.true told.1 in
      too_long c.callers.frames.items next.0 next.1 told.0 chain (omega (arith, c.if-len-eq-MOST_FRAMES.true, c.len.ensures)) next.2 told.2 few;
  keeps = c.callers.invariant.whole;
  counts = c.callers.invariant.unfailed;
}

pub returns-in_err-row-clause-read : goal.returns-in_err-row-clause-read
returns-in_err-row-clause-read g c =
    passed_on c.in_err-row.was c.from_residual.ensures.1
    (λ text known absent all strings steps chain stored opened is few.
    let told = c.callers.invariant.told text all strings steps chain known opened is few in
    let next = maybe_cons (parts_of strings steps) c.callers.position.scope c.callers.position.line
    c.callers.position.column told.0 c.callers-test.true told.1 in
    absent all strings steps next.0 next.1 (subst (λ claim. AreStored text (claim_view claim) all) (sym c.callers.invariant.claim) stored)
    (kept _ _ _ _ _ _ _ opened (c.callers.invariant.keeps text all known opened.are_pages)) next.3)
    (after_ok c.callers.invariant.whole c.callers.invariant.unfailed c.scope.ensures.read)

pub returns-then-row-position-clause-read : goal.returns-then-row-position-clause-read
returns-then-row-position-clause-read g c =
    let row = after_ok c.callers.invariant.whole c.callers.invariant.unfailed c.in_ok-row.ensures.read in
    record {
      says = λ text known all strings steps chain stored opened is few.
          let told = c.callers.invariant.told text all strings steps chain known opened is few in
          let next = maybe_cons (parts_of strings steps) c.callers.position.scope c.callers.position.line
          c.callers.position.column told.0 c.callers-test.true told.1 in
          let here = row.says text known all strings steps next.0 next.1
          (kept _ _ _ _ _ _ _ opened (c.callers.invariant.keeps text all known opened.are_pages)) next.3 in
          omega (arith, here.1, c.if-row-position.true);
      keeps = row.keeps;
      counts = row.counts;
    }

pub returns-in_err-frame-clause-read : goal.returns-in_err-frame-clause-read
returns-in_err-frame-clause-read g c =
    let row = after_ok c.callers.invariant.whole c.callers.invariant.unfailed c.in_ok-row.ensures.read in
    passed_on c.in_err-frame.was c.from_residual-in_err-frame.ensures.1
    (λ text known absent all strings steps chain stored opened is few.
    let told = c.callers.invariant.told text all strings steps chain known opened is few in
    let next = maybe_cons (parts_of strings steps) c.callers.position.scope c.callers.position.line
    c.callers.position.column told.0 c.callers-test.true told.1 in
    let mid = kept _ _ _ _ _ _ _ opened (c.callers.invariant.keeps text all known opened.are_pages) in
    let here = row.says text known all strings steps next.0 next.1 mid next.3 in
    absent all strings steps next.0 next.1
    (subst (λ claim. AreStored text (claim_view claim) all) (sym (c.in_ok-row.ensures.claim ∙ c.callers.invariant.claim)) stored)
    (kept _ _ _ _ _ _ _ mid (c.in_ok-row.ensures.keeps text all (c.callers.invariant.whole ∙ known) mid.are_pages)) here.0)
    (after_ok row.keeps row.counts c.frame.ensures.read)

pub callers-preserved : goal.callers-preserved
callers-preserved g c =
    let row = after_ok c.callers.invariant.whole c.callers.invariant.unfailed c.in_ok-row.ensures.read in
    let frame = after_ok row.keeps row.counts c.in_ok-frame.ensures.read in
    record {
      claim = c.in_ok-frame.ensures.claim ∙ c.in_ok-row.ensures.claim ∙ c.callers.invariant.claim;
      whole = frame.keeps;
      unfailed = frame.counts;
      keeps = λ text all known pages.
          c.in_ok-frame.ensures.keeps text all (row.keeps ∙ known)
          (c.in_ok-row.ensures.keeps text all (c.callers.invariant.whole ∙ known)
          (c.callers.invariant.keeps text all known pages));
      told = λ text all strings steps chain known opened is few.
          let told = c.callers.invariant.told text all strings steps chain known opened is few in
          let next = maybe_cons (parts_of strings steps) c.callers.position.scope c.callers.position.line
          c.callers.position.column told.0 c.callers-test.true told.1 in
          let mid = kept _ _ _ _ _ _ _ opened (c.callers.invariant.keeps text all known opened.are_pages) in
          let here = row.says text known all strings steps next.0 next.1 mid next.3 in
          let view = frame.says text known all strings steps next.0 next.1
          (kept _ _ _ _ _ _ _ mid (c.in_ok-row.ensures.keeps text all (c.callers.invariant.whole ∙ known)
          mid.are_pages)) here.0 next.4 next.5 in (
            next.1,
            here.0.caller,
            pushed c.callers.frames.items _ c.in_ok-frame.frame next.0 next.1 told.0 chain
                c.in_ok-push.ensures.pushed view next.2 told.2,
          );
      bytes = λ text all known pages rest after.
          let mid = c.callers.invariant.keeps text all known pages in
          let is = c.in_ok-row.ensures.bytes text all (c.callers.invariant.whole ∙ known) mid in
          let has = c.in_ok-frame.ensures.bytes text all (row.keeps ∙ known)
          (c.in_ok-row.ensures.keeps text all (c.callers.invariant.whole ∙ known) mid) in
          frame_before c.args.self.now all c.callers.frames.items _ c.args.from c.callers.position c.in_ok-row.row
          c.in_ok-frame.frame rest (c.callers.invariant.bytes text all known pages) is
          (omega (arith, c.if-row-position.false)) has c.in_ok-push.ensures.pushed after;
    }

pub returns-clause-read : goal.returns-clause-read
returns-clause-read g c = record {
  says = λ text known all strings steps chain opened is few.
      let told = c.callers.invariant.told text all strings steps chain known opened is few in
      all_told c.callers.frames.items told.0 chain
      (maybe_nil (parts_of strings steps) c.callers.position.scope c.callers.position.line c.callers.position.column told.0
      c.callers-test.false told.1) told.2;
  keeps = c.callers.invariant.whole;
  counts = c.callers.invariant.unfailed;
}

pub returns-clause-bytes : goal.returns-clause-bytes
returns-clause-bytes g c = λ text all known pages.
    frames_end c.args.self.now all c.callers.frames.items c.args.from c.callers.position c.callers-test.false
    (c.callers.invariant.bytes text all known pages)
