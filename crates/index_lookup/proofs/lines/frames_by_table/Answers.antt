use Rattle.std.proofs.Common.{sym, subst, ◌∙◌}
use Rattle.table_checked_pages.specs.Pages.{AreStored}
use Rattle.table_checked_pages.specs.Views.{claim_view}
use Rattle.table_checked_pages.proofs.ReadLemmas.{after_ok, passed_on}
use Rattle.table_checked_pages.proofs.PageLemmas.{may_be}
use Rattle.macho_symbols.specs.Symbols.{strings_of}
use Rattle.table_source_frames.specs.LineTable.{IsLineTable}
use Rattle.table_source_frames.proofs.OpeningLemmas.{found_none, found_some}
use Rattle.index_lookup.proofs.Columns.{zip_as}
use Rattle.index_lookup.proofs.OpenedLines.{bytes_here, frames_in, lines_here, no_lines_in}
use Rattle.index_lookup.proofs.lines.frames_by_table.Goals as goal

pub returns-in_err-lines : goal.returns-in_err-lines
returns-in_err-lines g c =
    let claim = claim_view c.args.table.pages.claim in
    passed_on c.in_err-lines.was c.from_residual.ensures.1
    (λ text known absent opened slice all is stored.
    let here = lines_here c.args.table c.into_lines-pages.result.0 c.into_lines-pages.result.1 c.into_lines-pages.result.2 claim text slice all is
    c.into_lines-pages.ensures.lines opened (may_be text all claim stored) in
    absent slice all is.lines (subst (λ fields. AreStored text (claim_view fields) all)
    (sym c.into_lines-pages.ensures.claim) stored) here.pages_of is.are_lines here.stands here.next)
    c.open.ensures.read

pub returns-in_default : goal.returns-in_default
returns-in_default g c =
    let claim = claim_view c.args.table.pages.claim in
    let lines = c.in_ok-lines.ensures.read in
    record {
      says = λ text known opened. record {
        of_slice = λ slice all bytes is may.
            let here = lines_here c.args.table c.into_lines-pages.result.0 c.into_lines-pages.result.1 c.into_lines-pages.result.2 claim text slice
            all is c.into_lines-pages.ensures.lines opened may in
            subst (IsLineTable slice) (found_none slice all is.lines text c.open.new.pages _ c.in_default.is
            (lines.says text known slice all is.lines here.pages_of is.are_lines here.stands here.next)) is.are_lines;
        of_bytes = λ all may.
            let here = bytes_here c.args.table c.into_lines-pages.result.0 c.into_lines-pages.result.1 c.into_lines-pages.result.2 claim text all
            c.into_lines-pages.ensures.bytes opened may in
            no_lines_in c.args.table c.into_lines-pages.result.1 c.into_lines-pages.result.2 claim text all _ opened may here.first_is
            (c.in_ok-lines.ensures.bytes text all known here.pages_of) c.in_default.is;
      };
      keeps = lines.keeps;
      counts = lines.counts;
    }

pub returns-in_err-lists : goal.returns-in_err-lists
returns-in_err-lists g c =
    let claim = claim_view c.args.table.pages.claim in
    let lines = c.in_ok-lines.ensures.read in
    passed_on c.in_err-lists.was c.from_residual-in_err-lists.ensures.1
    (λ text known absent opened slice all is stored.
    let here = lines_here c.args.table c.into_lines-pages.result.0 c.into_lines-pages.result.1 c.into_lines-pages.result.2 claim text slice all is
    c.into_lines-pages.ensures.lines opened (may_be text all claim stored) in
    let found = found_some slice all is.lines text c.open.new.pages _ c.in-Some.lines c.in-Some.is
    (lines.says text known slice all is.lines here.pages_of is.are_lines here.stands here.next) in
    absent slice all (strings_of slice) found.0 (subst (λ fields. AreStored text (claim_view fields) all)
    (sym (c.in_ok-lines.ensures.claim ∙ c.into_lines-pages.ensures.claim)) stored) found.1 found.2)
    (after_ok lines.keeps lines.counts c.frames_of_each.ensures)

pub returns : goal.returns
returns g c =
    let claim = claim_view c.args.table.pages.claim in
    let lines = c.in_ok-lines.ensures.read in
    let lists = after_ok lines.keeps lines.counts c.in_ok-lists.ensures in
    record {
      says = λ text known opened.
          zip_as _ _ c.args.asked.now _ (λ place frames told. record {
            of_slice = λ slice all bytes base is may.
                let here = lines_here c.args.table c.into_lines-pages.result.0 c.into_lines-pages.result.1 c.into_lines-pages.result.2 claim text slice
                all is c.into_lines-pages.ensures.lines opened may in
                let found = found_some slice all is.lines text c.open.new.pages _ c.in-Some.lines c.in-Some.is
                (lines.says text known slice all is.lines here.pages_of is.are_lines here.stands here.next) in
                told.of_slice slice all (strings_of slice) found.0 found.1 base found.2;
            of_bytes = λ all may.
                let here = bytes_here c.args.table c.into_lines-pages.result.0 c.into_lines-pages.result.1 c.into_lines-pages.result.2 claim text all
                c.into_lines-pages.ensures.bytes opened may in
                frames_in c.args.table c.into_lines-pages.result.1 c.into_lines-pages.result.2 claim text all _ c.in-Some.lines frames
                opened may here.strings_is here.first_is (c.in_ok-lines.ensures.bytes text all known here.pages_of) c.in-Some.is
                (told.of_bytes all (c.in_ok-lines.ensures.keeps text all known here.pages_of));
          }) (lists.says text known);
      keeps = lists.keeps;
      counts = lists.counts;
    }
