use Rattle.std.proofs.Common.{◌≡◌, ℕ, ◌≤◌, ◌<◌, min, List, [], ◌∷◌, ◌++◌, length, take, drop, refl, sym, ap, arith, length-take, take-append-drop, ◌∙◌}
use Rattle.std.specs.Int.{w64, to_be_bytes}
use Rattle.std.specs.Ordering.{nat_cmp, ordering_then}
use Rattle.std.specs.Cmp.Lexicographic.{slice_cmp}
use Rattle.std.proofs.Math.ListN.{drop_of_length-le}
use Rattle.archive_core.specs.Key.{key_bytes}
use Rattle.archive_core.specs.Valid.{key_of}
use Rattle.archive_core.specs.Record.{admission_record}
use Rattle.archive_records.proofs.Fills.{cmp_front, then_differs}
use Rattle.archive_records.proofs.Puts.{head_and_slice}
use Rattle.archive_records.proofs.next.compare_admission.Goals as goal

-- a record is compared by its first 33 bytes, and by what follows them
by_parts : (slice bytes head front rest : List ℕ) (n : ℕ) → head ≡ 2
    ∷ (key_bytes (key_of slice) ++ to_be_bytes w64 (length slice)) → length head ≡ 33 → n ≡ min (length bytes) 33
    → front ≡ take n bytes → rest ≡ drop n bytes
    → ordering_then (slice_cmp nat_cmp head front) (slice_cmp nat_cmp slice rest) ≡ slice_cmp nat_cmp (admission_record slice) bytes
by_parts slice bytes head front rest n is long most first after =
    let size : length front ≡ min n (length bytes) = ap length first ∙ length-take n bytes in
    sym (cmp_front head slice front rest (omega (arith, size)) (λ short. after ∙ drop_of_length-le bytes (omega (arith, size))))
    ∙ ap (λ (t : List ℕ). slice_cmp nat_cmp t (front ++ rest)) (head_and_slice head slice slice is refl)
    ∙ ap (slice_cmp nat_cmp (admission_record slice)) (ap (λ (t : List ℕ). t ++ rest) first
    ∙ ap (λ (t : List ℕ). take n bytes ++ t) after ∙ take-append-drop n bytes)

pub returns-in-Equal : goal.returns-in-Equal
returns-in-Equal c =
    let slice = c.args.slice.now in
    let head = c.admission_head-head.result in
    let long : length head ≡ 33 = omega arith in
    let front = c.split_at.result.0.now in
    let rest = c.split_at.result.1.now in
    c.compare_bytes-in-Equal.ensures ∙ ap (λ (t : List ℕ). slice_cmp nat_cmp t rest) c.bytes.ensures.bytes
    ∙ ap (λ o. ordering_then o (slice_cmp nat_cmp slice rest)) (sym c.in-Equal.is ∙ c.compare_bytes.ensures)
    ∙ by_parts slice c.args.bytes.now head front rest _
    (c.admission_head-head.ensures.head ∙ ap (λ (s : List ℕ). 2
    ∷ (key_bytes (key_of s) ++ to_be_bytes w64 (length s))) c.lend.ensures) long (omega (arith, c.min.ensures))
    c.split_at.ensures.front c.split_at.ensures.back

pub returns-in_default : goal.returns-in_default
returns-in_default c =
    let slice = c.args.slice.now in
    let head = c.admission_head-head.result in
    let long : length head ≡ 33 = omega arith in
    let front = c.split_at.result.0.now in
    let rest = c.split_at.result.1.now in
    then_differs c.compare_bytes.result (slice_cmp nat_cmp slice rest) c.in_default.not-Equal
    ∙ ap (λ o. ordering_then o (slice_cmp nat_cmp slice rest)) c.compare_bytes.ensures
    ∙ by_parts slice c.args.bytes.now head front rest _
    (c.admission_head-head.ensures.head ∙ ap (λ (s : List ℕ). 2
    ∷ (key_bytes (key_of s) ++ to_be_bytes w64 (length s))) c.lend.ensures) long (omega (arith, c.min.ensures))
    c.split_at.ensures.front c.split_at.ensures.back
