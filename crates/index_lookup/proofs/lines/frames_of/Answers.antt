use Rattle.std.proofs.Common.{◌≡◌, Option, Some, None, ℕ, [], refl, sym, ap, subst, ◌∙◌}
use Rattle.std.specs.Prelude.{MatchOption}
use Rattle.table_checked_pages.proofs.ReadLemmas.{read_as}
use Rattle.dwarf_source_frames.specs.AddressFrames.{AreFramesOf}
use Rattle.table_source_frames.specs.FrameViews.{owned_frames}
use Rattle.table_source_frames.specs.OfBytes.{AreFramesOfStep}
use Rattle.archive_core.specs.Lookup.{address_by, file_address}
use Rattle.index_lookup.proofs.OpenedLines.{no_frames}
use Rattle.index_lookup.proofs.lines.frames_of.Goals as goal

pub returns-in-Some-clause-read : goal.returns-in-Some-clause-read
returns-in-Some-clause-read g c =
    read_as
    (λ text known frames says. record {
      of_slice = λ slice all strings steps are base opened.
          let at : file_address slice c.args.asked ≡ Some c.in-Some.address =
          ap (λ (b : Option ℕ). address_by b c.args.asked) (sym base) ∙ sym c.address_by.ensures ∙ c.in-Some.is in
          subst (λ (o : Option ℕ). MatchOption o (owned_frames frames.items ≡ [])
          (λ address. AreFramesOf slice address (owned_frames frames.items))) (sym at) (says.0 slice all strings steps are opened);
      of_bytes = says.1;
    })
    (λ text known absent slice all strings steps stored are opened. absent slice all strings steps stored are opened)
    c.frames_at.ensures.read

pub returns-in-None-clause-read : goal.returns-in-None-clause-read
returns-in-None-clause-read g c =
    let none : owned_frames c.new.result.items ≡ [] = ap owned_frames c.new.ensures.items in
    record {
      says = λ text known. record {
        of_slice = λ slice all strings steps are base opened.
            let at : file_address slice c.args.asked ≡ None =
            ap (λ (b : Option ℕ). address_by b c.args.asked) (sym base) ∙ sym c.address_by.ensures ∙ c.in-None.is in
            subst (λ (o : Option ℕ). MatchOption o (owned_frames c.new.result.items ≡ [])
            (λ address. AreFramesOf slice address (owned_frames c.new.result.items))) (sym at) none;
        of_bytes = λ all pages. subst (AreFramesOfStep c.args.table.now all) (sym none) (no_frames c.args.table.now all);
      };
      keeps = refl;
      counts = refl;
    }
