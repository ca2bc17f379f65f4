use Rattle.std.proofs.Common.{◌≡◌, ◌-◌, ◌∙◌, ℕ, List, Bool, false, ap, eqb, get_or, length, take, drop, rules}
use Rattle.std.specs.Bool.{Decides}
use Rattle.std.specs.Str.{bytes_eq}
use Rattle.std.proofs.lemmas.Bool.{ne_eqb}
use Rattle.std.proofs.lemmas.Bool.Decides.{Decides-eqb}
use Rattle.std.proofs.lemmas.List.{take_rest}
use Rattle.std.proofs.lemmas.Slice.Eq.{bytes_eq-Decides, slice_eq-Decides}
use Rattle.index_format.specs.Entry.{zeros}
use Rattle.index_format.proofs.checking.has_claim.Goals as goal

checked : (xs ys : List ℕ) (r : Bool) → Decides r (xs ≡ ys) → r ≡ bytes_eq xs ys
checked xs ys r h = search (rules, bytes_eq-Decides)

pub returns-else-bytes-eq-ADMISSION : goal.returns-else-bytes-eq-ADMISSION
unfolding zeros
returns-else-bytes-eq-ADMISSION c =
    let bytes = c.args.bytes.now in
    let rest : List ℕ = take (length bytes - 74) (drop 74 bytes) in
    let retired : eqb (get_or bytes 0 0) 2 ≡ false = ne_eqb (get_or bytes 0 0) 2 c.if-bytes-eq-ADMISSION.false in
    rw retired (checked rest (zeros 48) c.eq.result (slice_eq-Decides Decides-eqb rest (zeros 48) c.eq.result
    c.eq.ensures) ∙ ap (λ (t : List ℕ). bytes_eq t (zeros 48)) (take_rest bytes 74))
