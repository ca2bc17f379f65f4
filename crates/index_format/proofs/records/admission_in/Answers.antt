use Rattle.std.proofs.Common.{ℕ, List, drop, refl, arith, sym, ◌∙◌, ap}
use Rattle.std.proofs.lemmas.Bool.{false≢true}
use Rattle.std.proofs.lemmas.List.{take_rest}
use Rattle.archive_core.specs.Key.{key_bytes}
use Rattle.archive_core.specs.Valid.{key_of}
use Rattle.archive_records.specs.Layout.{slice_length}
use Rattle.archive_records.proofs.Forms.{admits, parts-of, admitted_is, admitted_valid}
use Rattle.archive_records.proofs.SliceFacts.{no_slice_fault}
use Rattle.index_format.proofs.records.admission_in.Goals as goal

pub returns-then-has_key-clause-admits : goal.returns-then-has_key-clause-admits
unfolding slice_length
returns-then-has_key-clause-admits c =
    let v = rw take_rest at c.in-Ok.ensures.valid in
    let k = c.key.ensures ∙ ap key_of (rw take_rest at c.in-Ok.ensures.slice) in
    admits c.args.bytes.now (c.has_head.ensures.yes c.if-not-has_head.false) v
    (c.if-has_key.ensures.0 refl ∙ ap key_bytes k) (λ i. omega (arith, c.type_inv.bytes i))

pub returns-then-has_key-clause-found : goal.returns-then-has_key-clause-found
returns-then-has_key-clause-found c = admitted_is c.args.bytes.now _ (returns-then-has_key-clause-admits c) (rw take_rest at c.in-Ok.ensures.slice)

pub returns-else-has_key-clause-none : goal.returns-else-has_key-clause-none
returns-else-has_key-clause-none c = λ a.
    let p = parts-of c.args.bytes.now a in
    let k = c.key.ensures ∙ ap key_of (rw take_rest at c.in-Ok.ensures.slice) in
    false≢true (c.if-has_key.ensures.1 (p.key ∙ ap (λ (s : List ℕ). key_bytes (key_of s)) (sym p.slice_is) ∙ sym (ap key_bytes k)))

pub returns-in-Err-clause-none : goal.returns-in-Err-clause-none
returns-in-Err-clause-none c = λ a.
    no_slice_fault (drop 33 c.args.bytes.now) _ (admitted_valid c.args.bytes.now a) (rw take_rest at c.in-Err.ensures.faulty)
