use Rattle.std.proofs.Common.{◌≡◌, ◌∙◌, List, ℕ, Err, ap, inl, inr, refl, arith, length, min, take, drop}
use Rattle.std.proofs.lemmas.Result.{err_from_is_err_and}
use Rattle.archive_records.proofs.Blamed.{failed}
use Rattle.index_format.specs.Fault.{FailsInBeginning}
use Rattle.index_format.proofs.EndLemmas.{first_eight, part_unread}
use Rattle.index_format.proofs.ReadLemmas.{after_ok, passed_on, refused_as, unfailed_blames}
use Rattle.index_format.proofs.ends.read_beginning.Goals as goal

pub returns-in_err-size-clause-read : goal.returns-in_err-size-clause-read
returns-in_err-size-clause-read g c =
    let p = err_from_is_err_and c.from_residual.result c.from_residual.ensures.1 in
    passed_on c.in_err-size.was (p.1 ∙ ap Err p.2)
    (λ text known refused. refused_as (λ t f. ⊥) FailsInBeginning text _ (λ none. absurd none) refused)
    c.read_size.ensures

pub returns-in_err-beginning-clause-read : goal.returns-in_err-beginning-clause-read
returns-in_err-beginning-clause-read g c =
    let p = err_from_is_err_and c.from_residual-in_err-beginning.result c.from_residual-in_err-beginning.ensures.1 in
    let sized = c.in_ok-size.ensures in
    passed_on c.in_err-beginning.was (p.1 ∙ ap Err p.2)
    (λ text known refused. part_unread FailsInBeginning 0 _ text _ (inl refl) (omega (arith, sized.says text known, c.min.ensures)) refused)
    (after_ok sized.keeps sized.counts c.read_part.ensures.read)

-- the bytes of the front
front_bytes : (text beginning : List ℕ) (size n : ℕ) → size ≡ length text → n ≡ min size 8 → beginning ≡ take n (drop 0 text) → beginning ≡ take 8 text
front_bytes text beginning size n same least is = is ∙ ap (λ (k : ℕ). take k text) (least ∙ ap (λ (k : ℕ). min k 8) same) ∙ first_eight text

pub returns-in_err-check_beginning-clause-read : goal.returns-in_err-check_beginning-clause-read
returns-in_err-check_beginning-clause-read g c =
    let sized = c.in_ok-size.ensures in
    let read = after_ok sized.keeps sized.counts c.in_ok-beginning.ensures.read in
    let faulty = c.in_err-check_beginning.ensures in
    rw (failed c.from_residual-in_err-check_beginning.result c.in_err-check_beginning.field-0.0 c.from_residual-in_err-check_beginning.ensures.1)
    (record {
      says = λ text known. inr (faulty.checked text (sized.says text known)
          (c.deref.ensures.value ∙ front_bytes text _ _ _ (sized.says text known) c.min.ensures
          (read.says text known)));
      keeps = read.keeps;
      counts = unfailed_blames _ _ c.in_err-check_beginning.field-0.0.kind faulty.faulty read.counts;
    })

pub returns-clause-read : goal.returns-clause-read
returns-clause-read g c =
    let sized = c.in_ok-size.ensures in
    let read = after_ok sized.keeps sized.counts c.in_ok-beginning.ensures.read in
    record {
      says = λ text known. record {
        size_is = sized.says text known;
        beginning = c.in_ok-check_beginning.ensures.checked text (sized.says text known)
            (c.deref.ensures.value ∙ front_bytes text _ _ _ (sized.says text known) c.min.ensures
            (read.says text known));
      };
      keeps = read.keeps;
      counts = read.counts;
    }
