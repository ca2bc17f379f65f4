use Rattle.std.proofs.Common.{◌≡◌, ◌-◌, ◌∙◌, List, ℕ, Err, ap, inl, inr, arith, length, take, drop, length-drop}
use Rattle.std.proofs.lemmas.List.{take_all}
use Rattle.std.proofs.lemmas.Result.{err_from_is_err_and}
use Rattle.index_format.specs.Fault.{FailsAtEnd}
use Rattle.index_format.specs.InnerReading.{AreEndsOf, HasBeginning}
use Rattle.index_format.specs.Reading.{IsRefused}
use Rattle.index_format.proofs.EndLemmas.{part_unread}
use Rattle.index_format.proofs.ReadLemmas.{as_refused, passed_on, checked, under}
use Rattle.index_format.proofs.ends.read_end.Goals as goal

-- the last bytes are those from there on
last_part : (text : List ℕ) (size n : ℕ) → size ≡ length text → take n (drop (size - n) text) ≡ drop (length text - n) text
last_part text size n same = ap (λ (k : ℕ). take n (drop (k - n) text)) same
    ∙ take_all n (drop (length text - n) text) (omega (arith, length-drop (length text - n) text))

pub returns-in_err-end-clause-read : goal.returns-in_err-end-clause-read
returns-in_err-end-clause-read g c =
    let p = err_from_is_err_and c.from_residual.result c.from_residual.ensures.1 in
    passed_on c.in_err-end.was (p.1 ∙ ap Err p.2)
    (λ text known refused. inr (λ fronted. part_unread FailsAtEnd (c.args.size - 57) 57 text _
    (inr (inl (ap (λ (n : ℕ). n - 57) fronted.size_is))) (omega (arith, fronted.size_is, c.requires)) refused))
    c.read_part.ensures.read

pub returns-clause-read : goal.returns-clause-read
returns-clause-read g c =
    let read = c.in_ok-end.ensures.read in
    checked _ _ _ _ _ _ _ read.keeps read.counts
    (λ text known.
    under c.ends_in.result (AreEndsOf text) (IsRefused FailsAtEnd text) (λ (fronted : HasBeginning text c.args.size).
    as_refused c.ends_in.result (AreEndsOf text) FailsAtEnd text
    (c.ends_in.ensures.checked text fronted (c.deref.ensures.value ∙ read.says text known
    ∙ last_part text c.args.size 57 fronted.size_is))))
    c.ends_in.ensures.faulty
