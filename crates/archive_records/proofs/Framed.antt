-- What stands at the front of bytes, test by test.
use Rattle.std.proofs.Common.{◌≡◌, ◌⊎◌, ℕ, ◌+◌, ◌<◌, ◌≤◌, List, ◌++◌, length, get_or, take, drop, Some, None, Ok, Err}
use Rattle.std.proofs.Common.{refl, sym, ap, ◌∙◌, arith, length-append, length-drop}
use Rattle.std.proofs.lemmas.List.{get_or_append_left, drop-append-le, take-append-le}
use Rattle.std.specs.Int.{w64, from_be_bytes}
use Rattle.std.proofs.lemmas.Bool.Decides.{nat_tests}
use Rattle.std.proofs.lemmas.Bool.{le-ltb, lt-ltb}
use Rattle.archive_records.specs.declared.fault.RecordFaultKind.TheVariants.{Truncated, BadTag, TooLarge}
use Rattle.archive_records.specs.Layout.{head_length, admission_body, body_length, slice_length, largest_slice, framed, framed_after}
use Rattle.archive_records.specs.Kind.{admission_length}
use Rattle.archive_records.specs.declared.format.Format.{Format}
use Rattle.archive_records.specs.declared.format.Format.TheVariants.{Archive, OldArchive, Operations, Summary}

pub same_tag : (bytes more : List ℕ) → 1 ≤ length bytes → get_or (bytes ++ more) 0 0 ≡ get_or bytes 0 0
same_tag bytes more le = get_or_append_left bytes more 0 0 le

slice_kept : (bytes more : List ℕ) → 33 ≤ length bytes → slice_length (bytes ++ more) ≡ slice_length bytes
unfolding slice_length
slice_kept bytes more le =
    ap (λ (t : List ℕ). from_be_bytes w64 (take 8 t)) (drop-append-le 25 bytes more (omega arith))
    ∙ ap (from_be_bytes w64) (take-append-le 8 (drop 25 bytes) more (omega (arith, length-drop 25 bytes)))

-- the number in an admission's head, where its slice stands after it
pub slice_body : (file : Format) → (file ≡ Archive) ⊎ (file ≡ OldArchive) ⊎ (file ≡ Operations)
    → (bytes : List ℕ) (n : ℕ) → n ≡ slice_length bytes → n ≡ admission_body file bytes
slice_body file is bytes n e = grind arith

admission_kept : (file : Format) (bytes more : List ℕ) → admission_length file ≤ length bytes → admission_body file (bytes ++ more) ≡ admission_body file bytes
admission_kept Summary bytes more le = refl
admission_kept _ bytes more le = slice_kept bytes more le

module _ (file : Format) where
  pub framed-empty : (bytes : List ℕ) → length bytes < 1 → framed file bytes ≡ Err Truncated
  unfolding framed
  framed-empty bytes lt = rw (lt-ltb _ _ lt) refl

  pub framed-bad : (bytes : List ℕ) → 1 ≤ length bytes → head_length file (get_or bytes 0 0) ≡ None → framed file bytes ≡ Err BadTag
  unfolding framed
  framed-bad bytes le h = rw (le-ltb _ _ le, h) refl

  pub framed-tag : (bytes : List ℕ) (head : ℕ) → 1 ≤ length bytes → head_length file (get_or bytes 0 0) ≡ Some head
      → framed file bytes ≡ framed_after file head bytes
  unfolding framed
  framed-tag bytes head le h = rw (le-ltb _ _ le, h) refl

  pub framed-large : (bytes : List ℕ) (head : ℕ) → 1 ≤ length bytes → head_length file (get_or bytes 0 0) ≡ Some head
      → head ≤ length bytes → largest_slice < body_length file bytes → framed file bytes ≡ Err TooLarge
  unfolding framed_after
  framed-large bytes head le h long large = framed-tag bytes head le h ∙ rw (le-ltb _ _ long, lt-ltb _ _ large) refl

  pub framed-whole : (bytes : List ℕ) (head : ℕ) → 1 ≤ length bytes → head_length file (get_or bytes 0 0) ≡ Some head
      → head ≤ length bytes → body_length file bytes ≤ largest_slice → head + body_length file bytes ≤ length bytes
      → framed file bytes ≡ Ok (head + body_length file bytes)
  unfolding framed_after
  framed-whole bytes head le h long small le' = framed-tag bytes head le h ∙ rw (le-ltb _ _ long, le-ltb _ _ small, le-ltb _ _ le') refl

  pub same_body : (bytes more : List ℕ) (head : ℕ) → 1 ≤ length bytes → head_length file (get_or bytes 0 0) ≡ Some head
      → head ≤ length bytes → body_length file (bytes ++ more) ≡ body_length file bytes
  unfolding head_length body_length
  same_body bytes more head le h long =
      let tag : get_or (bytes ++ more) 0 0 ≡ get_or bytes 0 0 = same_tag bytes more le in
      let kept : admission_length file ≤ length bytes → admission_body file (bytes ++ more) ≡ admission_body file bytes = admission_kept file bytes more in
      grind (arith, nat_tests)

  -- a part of a record that came

  module _ (bytes more grown : List ℕ) (head : ℕ) (grows : grown ≡ bytes ++ more) (le : 1 ≤ length bytes)
      (h : head_length file (get_or bytes 0 0) ≡ Some head) where
    pub tag_kept : head_length file (get_or grown 0 0) ≡ Some head
    tag_kept = rw grows (ap (head_length file) (same_tag bytes more le) ∙ h)

    long_kept : 1 ≤ length grown
    long_kept = rw grows (omega (arith, length-append bytes more))

    pub grown-head : length grown < head → framed file grown ≡ Err Truncated
    unfolding framed_after
    grown-head lt = framed-tag grown head long_kept tag_kept ∙ rw (lt-ltb _ _ lt) refl

    body_kept : head ≤ length bytes → body_length file grown ≡ body_length file bytes
    body_kept long = ap (body_length file) grows ∙ same_body bytes more head le h long

    pub grown-body : head ≤ length bytes → body_length file bytes ≤ largest_slice
        → length grown < head + body_length file bytes → framed file grown ≡ Err Truncated
    unfolding framed_after
    grown-body long small lt =
        let b : body_length file grown ≡ body_length file bytes = body_kept long in
        let all : head ≤ length grown = rw grows (omega (arith, length-append bytes more)) in
        framed-tag grown head long_kept tag_kept ∙ rw (le-ltb _ _ all, b, le-ltb _ _ small, lt-ltb _ _ lt) refl

    pub grown-whole : head ≤ length bytes → body_length file bytes ≤ largest_slice → length grown
        ≡ head + body_length file bytes → framed file grown ≡ Ok (length grown)
    grown-whole long small len =
        let b : body_length file grown ≡ body_length file bytes = body_kept long in
        framed-whole grown head long_kept tag_kept (rw grows (omega (arith, length-append bytes more))) (rw b small)
        (rw b (omega arith)) ∙ ap (λ (n : ℕ). Ok n) (rw b (sym len))
