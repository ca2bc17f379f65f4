use Rattle.std.proofs.Common.{sym, subst, ◌∙◌}
use Rattle.table_checked_pages.specs.Pages.{AreStored}
use Rattle.table_checked_pages.specs.Views.{claim_view}
use Rattle.table_checked_pages.proofs.ReadLemmas.{after_ok, passed_on}
use Rattle.dwarf_source_frames.specs.AddressFrames.{AreFramesOf}
use Rattle.table_source_frames.specs.Steps.{frames_at}
use Rattle.table_source_frames.proofs.CountLemmas.{few_frames}
use Rattle.table_source_frames.proofs.ByteLemmas.{frames_of_step}
use Rattle.table_source_frames.proofs.OpenedLemmas.{kept}
use Rattle.table_source_frames.proofs.table.LineTable.frames_at.Goals as goal

pub returns-in_err-position-clause-read : goal.returns-in_err-position-clause-read
returns-in_err-position-clause-read g c =
    passed_on c.in_err-position.was c.from_residual.ensures.1
    (λ text known absent image all strings steps stored are opened. absent all strings steps stored opened)
    c.position_for.ensures.read

pub returns-in_err-frames-clause-read : goal.returns-in_err-frames-clause-read
returns-in_err-frames-clause-read g c =
    let position = c.in_ok-position.ensures.read in
    passed_on c.in_err-frames.was c.from_residual-in_err-frames.ensures.1
    (λ text known absent image all strings steps stored are opened.
    let found = position.says text known all strings steps are.rising opened in
    let right = c.frames_by_step.ensures image steps c.args.address found.0 c.ranges.address.fits are found.1 in
    absent all strings steps (frames_at steps found.0) (subst (λ claim. AreStored text (claim_view claim) all) (sym c.in_ok-position.ensures.claim) stored)
    (kept _ _ _ _ _ _ _ opened (c.in_ok-position.ensures.keeps text all known opened.are_pages)) found.2
    (few_frames image c.args.address (frames_at steps found.0) right))
    (after_ok position.keeps position.counts c.frames_from.ensures.read)

pub returns-clause-read : goal.returns-clause-read
returns-clause-read g c =
    let position = c.in_ok-position.ensures.read in
    let frames = after_ok position.keeps position.counts c.in_ok-frames.ensures.read in
    record {
      says = λ text known. (
        λ image all strings steps are opened.
            let found = position.says text known all strings steps are.rising opened in
            let right = c.frames_by_step.ensures image steps c.args.address found.0 c.ranges.address.fits are found.1 in
            let told = frames.says text known all strings steps (frames_at steps found.0)
            (kept _ _ _ _ _ _ _ opened (c.in_ok-position.ensures.keeps text all known opened.are_pages)) found.2
            (few_frames image c.args.address (frames_at steps found.0) right) in
            subst (AreFramesOf image c.args.address) (sym told) right,
        λ all pages.
            frames_of_step c.args.self.now all c.in_ok-position.position _ (c.in_ok-position.ensures.bytes text all known pages)
            (c.in_ok-frames.ensures.bytes text all (position.keeps ∙ known) (c.in_ok-position.ensures.keeps text all known pages)),
      );
      keeps = frames.keeps;
      counts = frames.counts;
    }
