use Rattle.std.proofs.Common.{ℕ, List, map, subst, sym, get_or, ◌∙◌, arith}
use Rattle.std.specs.List.{AllZip}
use Rattle.std.proofs.lemmas.List.{get_or_default, take_all}
use Rattle.table_checked_pages.specs.Pages.{AreStored}
use Rattle.table_checked_pages.specs.Views.{ArePagesOf, claim_view}
use Rattle.table_checked_pages.specs.declared.pages.Pages.{Pages}
use Rattle.table_checked_pages.proofs.ReadLemmas.{after_ok, passed_on}
use Rattle.table_source_frames.specs.Opened.{IsOpened}
use Rattle.table_source_frames.specs.Steps.{StepRecord}
use Rattle.table_source_frames.specs.declared.table.LineTable.{LineTable}
use Rattle.archive_core.specs.declared.lookup.Where.TheVariants.{File}
use Rattle.index_lookup.specs.InnerAnswering.{AreFramesOpened}
use Rattle.index_lookup.specs.Views.{list_in}
use Rattle.index_lookup.proofs.Columns.{zip_viewed}
use Rattle.index_lookup.proofs.lines.frames_of_each.Goals as goal

-- a table that is opened stays so while its pages are kept
still : (table : LineTable) (old new : Pages) (text all strings : List ℕ) (steps : List StepRecord)
    → (ArePagesOf old text all → ArePagesOf new text all) → IsOpened table old text all strings steps
    → IsOpened table new text all strings steps
still table old new text all strings steps keeps opened = record
    { are_pages = keeps opened.are_pages; stands = opened.stands; widths = opened.widths; head = opened.head }

pub asked-preserved : goal.asked-preserved
asked-preserved g c =
    let own = c.in_ok-frames.ensures in
    record {
      claim = own.claim ∙ c.asked.invariant.claim;
      whole = own.read.keeps ∙ c.asked.invariant.whole;
      unfailed = own.read.counts ∙ c.asked.invariant.unfailed;
      keeps = λ text all known pages. own.keeps text all (c.asked.invariant.whole ∙ known) (c.asked.invariant.keeps text all known pages);
      told = λ text known.
          zip_viewed (AreFramesOpened c.args.table.now c.args.pages.now c.args.base text) list_in c.args.asked.now
          c.asked.place-index (get_or c.args.asked.now c.asked.place-index (File 0)) c.asked.lists.items
          c.push.new.self.items c.in_ok-frames.frames c.asked-test.true
          (get_or_default c.args.asked.now c.asked.place-index (File 0) _ c.asked-test.true)
          c.in_default.ensures.items
          (c.asked.invariant.told text known)
          (record {
            of_slice = λ slice all strings steps are base opened.
                (own.read.says text (c.asked.invariant.whole ∙ known)).of_slice slice all strings steps are
                base (still c.args.table.now c.args.pages.now c.asked.pages text all strings steps
                (c.asked.invariant.keeps text all known) opened);
            of_bytes = λ all pages. (own.read.says text (c.asked.invariant.whole ∙ known)).of_bytes all
                (c.asked.invariant.keeps text all known pages);
          });
    }

pub returns-in_err-frames : goal.returns-in_err-frames
returns-in_err-frames g c =
    passed_on c.in_err-frames.was c.from_residual.ensures.1
    (λ text known absent slice all strings steps stored are opened.
    absent slice all strings steps (subst (λ claim. AreStored text (claim_view claim) all) (sym c.asked.invariant.claim) stored)
    are (still c.args.table.now c.args.pages.now c.asked.pages text all strings steps
    (c.asked.invariant.keeps text all known) opened))
    (after_ok c.asked.invariant.whole c.asked.invariant.unfailed c.frames_of.ensures.read)

pub returns : goal.returns
returns g c = record {
  says = λ text known. subst (λ xs. AllZip (AreFramesOpened c.args.table.now c.args.pages.now c.args.base text) xs
      (map list_in c.asked.lists.items)) (take_all c.asked.place-index c.args.asked.now
      (omega (arith, c.asked-test.false))) (c.asked.invariant.told text known);
  keeps = c.asked.invariant.whole;
  counts = c.asked.invariant.unfailed;
}
