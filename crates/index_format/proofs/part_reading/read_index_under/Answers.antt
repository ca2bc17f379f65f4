use Rattle.std.proofs.Common.{◌∙◌, ◌<◌, ◌^◌, List, ℕ, Err, ap, arith, inl, inr, length}
use Rattle.std.proofs.lemmas.Result.{err_from_is_err_and}
use Rattle.index_format.specs.InnerPaged.{IsUnreadPart}
use Rattle.index_format.specs.InnerReading.{AreEndsOf, FailsInEnds}
use Rattle.index_format.specs.Part.{IsPartFault}
use Rattle.index_format.specs.Reading.{IsRefused}
use Rattle.index_format.specs.declared.ends.Ends.{Ends}
use Rattle.index_format.specs.declared.index_fault.IndexFault.{IndexFault}
use Rattle.index_format.proofs.IndexTexts.{ends_fill}
use Rattle.index_format.proofs.PartTexts.{claim_of, may_hold, part_fault}
use Rattle.index_format.proofs.ReadLemmas.{after_ok, passed_on, refused_as}
use Rattle.index_format.proofs.part_reading.read_index_under.Goals as goal

in_ends : (text : List ℕ) (f : IndexFault) → FailsInEnds text f → IsPartFault text f
in_ends text f h = inl h

-- a part that is not read
unread : (text : List ℕ) (ends : Ends) (f : IndexFault) → AreEndsOf text ends → length text < 2 ^ 64
    → IsRefused (λ t fault. IsUnreadPart t (claim_of ends) ends.count ends.retired ends.first fault) text f
    → IsRefused IsPartFault text f
unread text ends f are short (inl machine) = inl machine
unread text ends f are short (inr fault) = part_fault text ends f are short fault

pub returns-in_err-ends : goal.returns-in_err-ends
returns-in_err-ends g c =
    let p = err_from_is_err_and c.from_residual.result c.from_residual.ensures.1 in
    passed_on c.in_err-ends.was (p.1 ∙ ap Err p.2)
    (λ text known refused. refused_as FailsInEnds IsPartFault text _ (in_ends text _) refused)
    c.read_ends.ensures.read

pub returns-in_err-part : goal.returns-in_err-part
returns-in_err-part g c =
    let p = err_from_is_err_and c.from_residual-in_err-part.result c.from_residual-in_err-part.ensures.1 in
    let ends = c.in_ok-ends.ensures.read in
    passed_on c.in_err-part.was (p.1 ∙ ap Err p.2)
    (λ text known refused.
    let are = ends.says text known in
    unread text c.in_ok-ends.ends _ are (omega (arith, c.in_ok-ends.ensures.fits, ends_fill text c.in_ok-ends.ends are)) refused)
    (after_ok ends.keeps ends.counts c.read_part.ensures)

pub returns : goal.returns
returns g c =
    let ends = c.in_ok-ends.ensures.read in
    let read = after_ok ends.keeps ends.counts c.in_ok-part.ensures in
    record {
      says = λ text known.
          let are = ends.says text known in
          let of = read.says text known in
          record {
            ends = are.has;
            read = λ entries may. of entries (may_hold text c.in_ok-ends.ends entries are may);
            size_is = are.length_is;
          };
      keeps = read.keeps;
      counts = read.counts;
    }
