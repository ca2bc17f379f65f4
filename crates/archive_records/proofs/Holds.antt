-- A whole record at the front of bytes, and what follows from it.
use Rattle.std.proofs.Common.{◌≡◌, ℕ, ◌+◌, ◌≤◌, Bool, true, false, eqb, List, length, get_or, take, Some, Result, Ok, Err, refl, ap, ◌∙◌, arith}
use Rattle.std.proofs.lemmas.Bool.Decides.{nat_tests}
use Rattle.archive_records.specs.declared.fault.RecordFaultKind.{RecordFaultKind}
use Rattle.archive_records.specs.Layout.{head_length, admission_body, body_length, record_count, largest_slice, framed, framed_after}
use Rattle.archive_records.specs.Reader.{seen_as}
use Rattle.archive_records.specs.Kind.{may_follow, admission_length}
use Rattle.archive_records.specs.Fault.{is_end, tested, next, next_by}
use Rattle.std.specs.Prelude.{MatchResult}
use Rattle.archive_records.specs.declared.format.Format.{Format}

abbrev pub done : {A : Type 0} → A → Result A RecordFaultKind
done x = Ok x

pub body_one : (file : Format) (bytes : List ℕ) → get_or bytes 0 0 ≡ 1 → body_length file bytes ≡ 0
unfolding body_length
body_one file bytes e = rw (ap (λ (t : ℕ). eqb t 2) e) refl

pub body_two : (file : Format) (bytes : List ℕ) → get_or bytes 0 0 ≡ 2 → body_length file bytes ≡ admission_body file bytes
unfolding body_length
body_two file bytes e = rw (ap (λ (t : ℕ). eqb t 2) e) refl

module _ (file : Format) where
  -- a record of n bytes stands at the front of the bytes
  pub record Holds (bytes : List ℕ) (n : ℕ) : Type 0 where
    pub head : ℕ
    pub one : 1 ≤ length bytes
    pub tag : head_length file (get_or bytes 0 0) ≡ Some head
    pub long : head ≤ length bytes
    pub small : body_length file bytes ≤ largest_slice
    pub fits : n ≤ length bytes
    pub is : n ≡ head + body_length file bytes

  pub holds : (bytes : List ℕ) (n : ℕ) → framed file bytes ≡ Ok n → Holds bytes n
  unfolding framed framed_after
  holds bytes n e = grind (arith, nat_tests)

  pub Holds-nine : (bytes : List ℕ) (n : ℕ) → Holds bytes n → 9 ≤ n
  unfolding head_length
  Holds-nine bytes n h =
      let tag = h.tag in
      let is = h.is in
      grind arith

  pub Holds-end : (bytes : List ℕ) (n : ℕ) → Holds bytes n → get_or bytes 0 0 ≡ 3 → n ≡ 9
  unfolding head_length body_length
  Holds-end bytes n h three =
      let tag = h.tag in
      let is = h.is in
      grind (arith, nat_tests)

  pub next-is : (bytes : List ℕ) (n : ℕ) (last : List ℕ) (count : ℕ) → framed file bytes ≡ Ok n → next file last count bytes ≡ tested file last count bytes n
  unfolding next
  next-is bytes n last count e = ap (λ r. next_by file r last count bytes) e

  pub next_from_test : (r : Result Bool RecordFaultKind) (last : List ℕ) (count : ℕ) (bytes same : List ℕ)
      → framed file bytes ≡ Ok (length bytes) → same ≡ bytes
      → MatchResult r (λ _. tested file last count same (length same) ≡ Ok (length same))
      (λ kind. tested file last count same (length same) ≡ Err (seen_as kind))
      → MatchResult r (λ _. next file last count bytes ≡ Ok (length bytes)) (λ kind. next file last count bytes ≡ Err (seen_as kind))
  next_from_test (Ok end) last count bytes same e is t = next-is bytes (length bytes) last count e ∙ (rw is at t)
  next_from_test (Err kind) last count bytes same e is t = next-is bytes (length bytes) last count e ∙ (rw is at t)

  pub next-framed : (last : List ℕ) (count : ℕ) (rest : List ℕ) (n : ℕ) → next file last count rest ≡ Ok n → framed file rest ≡ Ok n
  unfolding next tested
  next-framed last count rest n e = grind arith

  pub next-above : (last : List ℕ) (count : ℕ) (rest : List ℕ) (n : ℕ) → next file last count rest ≡ Ok n → is_end rest
      ≡ false → may_follow file last (take n rest) ≡ true
  unfolding next tested
  next-above last count rest n e item = grind arith

  pub next-counts : (last : List ℕ) (count : ℕ) (rest : List ℕ) (n : ℕ) → next file last count rest ≡ Ok n → is_end rest ≡ true → record_count rest ≡ count
  unfolding next tested
  next-counts last count rest n e end = grind (arith, nat_tests)

  -- a record by its tag

  pub tag_two : (tag head : ℕ) → tag ≡ 2 → head_length file tag ≡ Some head → head ≡ admission_length file
  unfolding head_length
  tag_two tag head two e = grind (arith, nat_tests)

  pub whole-retirement : (bytes : List ℕ) → framed file bytes ≡ Ok (length bytes) → get_or bytes 0 0 ≡ 1 → length bytes ≡ 57
  unfolding head_length body_length
  whole-retirement bytes e one =
      let h = holds bytes (length bytes) e in
      let tag = h.tag in
      let is = h.is in
      grind (arith, nat_tests)

  pub whole-admission : (bytes : List ℕ) → framed file bytes ≡ Ok (length bytes) → is_end bytes ≡ false
      → (get_or bytes 0 0 ≡ 1 → ⊥) → (get_or bytes 0 0 ≡ 2)
      × (admission_body file bytes + admission_length file ≡ length bytes)
  unfolding is_end head_length body_length
  whole-admission bytes e item not_one =
      let h = holds bytes (length bytes) e in
      let tag = h.tag in
      let is = h.is in
      grind (arith, nat_tests)
