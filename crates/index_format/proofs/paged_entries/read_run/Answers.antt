use Rattle.std.proofs.Common.{◌≡◌, ℕ, ◌-◌, [], ◌∷◌, ◌++◌, take, drop, sym, ap, ◌∙◌, subst, arith, refl}
use Rattle.std.specs.List.{range_with_len}
use Rattle.std.proofs.lemmas.List.{append-nil, map-append}
use Rattle.table_checked_pages.specs.Pages.{AreStored}
use Rattle.table_checked_pages.specs.Views.{claim_view}
use Rattle.table_checked_pages.proofs.ReadLemmas.{after_ok, passed_on}
use Rattle.index_format.specs.InnerPaged.{bytes_of, numbers_of}
use Rattle.index_format.specs.declared.paged_entry.PagedEntry.{PagedEntry}
use Rattle.index_format.proofs.ReadRuns.{row_pushed, run_pushed}
use Rattle.index_format.proofs.paged_entries.read_run.Goals as goal

pub run-init : goal.run-init
run-init g c =
    let none : 0 ≡ c.args.start - c.args.start = omega arith in
    record {
      claim = refl;
      whole = refl;
      unfailed = refl;
      keeps = λ text all known pages. pages;
      least = omega arith;
      last = omega arith;
      numbers = sym (append-nil (numbers_of c.args.read.now.items))
          ∙ ap (λ (n : ℕ). numbers_of c.args.read.now.items ++ range_with_len c.args.start n) none;
      entries = λ text all entries count known pages fill within. sym (append-nil (bytes_of c.args.read.now.items))
          ∙ ap (λ (n : ℕ). bytes_of c.args.read.now.items ++ take n (drop c.args.start entries)) none;
    }

pub run-preserved : goal.run-preserved
run-preserved g c =
    let one = c.in_ok-entry.ensures in
    let inv = c.run.invariant in
    record {
      claim = one.claim ∙ inv.claim;
      whole = one.read.keeps ∙ inv.whole;
      unfailed = one.read.counts ∙ inv.unfailed;
      keeps = λ text all known pages. one.keeps text all (inv.whole ∙ known) (inv.keeps text all known pages);
      least = omega (arith, inv.least);
      last = omega (arith, inv.least, c.run-test.true);
      numbers = ap numbers_of c.in-Ok.ensures.items
          ∙ map-append (λ (e : PagedEntry). e.number) c.run.read.items (c.in_ok-entry.entry ∷ [])
          ∙ (λ i. numbers_of c.run.read.items ++ one.number i ∷ [])
          ∙ row_pushed (numbers_of c.args.read.now.items) (numbers_of c.run.read.items) c.args.start c.run.number inv.least inv.numbers;
      entries = λ text all entries count known pages fill within.
          ap bytes_of c.in-Ok.ensures.items
          ∙ map-append (λ (e : PagedEntry). e.bytes) c.run.read.items (c.in_ok-entry.entry ∷ [])
          ∙ run_pushed entries (bytes_of c.args.read.now.items) (bytes_of c.run.read.items) c.args.start c.run.number c.in_ok-entry.entry.bytes
          inv.least (omega (arith, c.run-test.true, within, fill.many)) (inv.entries text all entries count known pages fill within)
          (one.read.says text (inv.whole ∙ known) all entries count (inv.keeps text all known pages) fill (omega (arith, c.run-test.true, within)));
    }

pub returns-in_err-entry-clause-read : goal.returns-in_err-entry-clause-read
returns-in_err-entry-clause-read g c =
    passed_on c.in_err-entry.was c.from_residual.ensures.1
    (λ text known absent all stored pages held.
    absent all (subst (λ claim. AreStored text (claim_view claim) all) (sym c.run.invariant.claim) stored)
    (c.run.invariant.keeps text all known pages) (omega (arith, held, c.run-test.true)))
    (after_ok c.run.invariant.whole c.run.invariant.unfailed c.entry_at.ensures.read)

pub returns-in_err-entry-clause-keeps : goal.returns-in_err-entry-clause-keeps
returns-in_err-entry-clause-keeps g c = λ text all known pages.
    c.entry_at.ensures.keeps text all (c.run.invariant.whole ∙ known) (c.run.invariant.keeps text all known pages)

pub returns-clause-numbers : goal.returns-clause-numbers
returns-clause-numbers g c =
    let all : c.run.number - c.args.start ≡ c.args.stop - c.args.start = omega (arith, c.run.invariant.last, c.run-test.false) in
    c.run.invariant.numbers ∙ ap (λ (n : ℕ). numbers_of c.args.read.now.items ++ range_with_len c.args.start n) all

pub returns-clause-read : goal.returns-clause-read
returns-clause-read g c =
    let count_is : c.run.number - c.args.start ≡ c.args.stop - c.args.start = omega (arith, c.run.invariant.last, c.run-test.false) in
    record {
      says = λ text known all entries count pages fill within.
          c.run.invariant.entries text all entries count known pages fill within
          ∙ ap (λ (n : ℕ). bytes_of c.args.read.now.items ++ take n (drop c.args.start entries)) count_is;
      keeps = c.run.invariant.whole;
      counts = c.run.invariant.unfailed;
    }
