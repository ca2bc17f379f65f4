use Rattle.std.proofs.Common.{◌∙◌, List, ℕ, Err, ap, inl, inr, arith, map}
use Rattle.std.proofs.lemmas.Result.{err_from_is_err_and}
use Rattle.index_format.specs.Entry.{entry_bytes}
use Rattle.index_format.specs.Fault.{IsIndexFault}
use Rattle.index_format.specs.InnerReading.{FailsAfterEnds, FailsInEnds}
use Rattle.index_format.specs.declared.index_fault.IndexFault.{IndexFault}
use Rattle.index_format.proofs.Decided.{index_of}
use Rattle.index_format.proofs.ReadLemmas.{after_ok, flat, passed_on, refused_as}
use Rattle.index_format.proofs.reading.read_index.Goals as goal

in_ends : (text : List ℕ) (f : IndexFault) → FailsInEnds text f → IsIndexFault text f
in_ends text f (inl beginning) = inl beginning
in_ends text f (inr end) = inr (inl end)

behind_ends : (text : List ℕ) (f : IndexFault) → FailsAfterEnds text f → IsIndexFault text f
behind_ends text f fault = inr (inr fault)

pub returns-in_err-ends : goal.returns-in_err-ends
returns-in_err-ends g c =
    let p = err_from_is_err_and c.from_residual.result c.from_residual.ensures.1 in
    passed_on c.in_err-ends.was (p.1 ∙ ap Err p.2)
    (λ text known refused. refused_as FailsInEnds IsIndexFault text _ (in_ends text _) refused)
    c.read_ends.ensures.read

pub returns-in_err-entries : goal.returns-in_err-entries
returns-in_err-entries g c =
    let p = err_from_is_err_and c.from_residual-in_err-entries.result c.from_residual-in_err-entries.ensures.1 in
    let ends = c.in_ok-ends.ensures.read in
    passed_on c.in_err-entries.was (p.1 ∙ ap Err p.2)
    (λ text known refused. refused_as FailsAfterEnds IsIndexFault text _ (behind_ends text _)
    (flat FailsAfterEnds text _ refused (λ under. under (ends.says text known))))
    (after_ok ends.keeps ends.counts c.read_entries.ensures.read)

pub returns : goal.returns
returns g c =
    let ends = c.in_ok-ends.ensures.read in
    let read = after_ok ends.keeps ends.counts c.in_ok-entries.ensures.read in
    record {
      says = λ text known.
          let are = ends.says text known in
          let of = read.says text known are in
          rw c.of_entries.ensures (index_of text c.in_ok-ends.ends (map entry_bytes c.in_ok-entries.entries.items) are
          (omega (arith, c.in_ok-ends.ensures.fits)) c.in_ok-ends.ensures.short of.digest of.checked.whole of.checked.pass
          of.laid of.numbers);
      keeps = read.keeps;
      counts = read.counts;
    }
