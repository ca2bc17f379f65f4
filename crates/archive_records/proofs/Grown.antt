-- What is found at the front of bytes stands, whatever bytes follow.
use Rattle.std.proofs.Common.{◌≡◌, ◌≢◌, ℕ, ◌<◌, ◌≤◌, List, ◌++◌, length, get_or, take, drop, Some, None, Result, Ok}
use Rattle.std.proofs.Common.{Err, refl, sym, ap, ◌∙◌, subst, arith, inl, inr, ◌⊎◌, length-append, length-drop}
use Rattle.std.proofs.lemmas.List.{take-append-le, drop-append-le}
use Rattle.std.proofs.lemmas.Bool.{eqb-true, cases_Bool}
use Rattle.std.proofs.lemmas.Bool.Decides.{nat_tests}
use Rattle.std.specs.Int.{w64, from_be_bytes}
use Rattle.archive_records.specs.declared.fault.RecordFaultKind.{RecordFaultKind}
use Rattle.archive_records.specs.declared.fault.RecordFaultKind.TheVariants.{Truncated, BadTag, TooLarge}
use Rattle.archive_records.specs.Layout.{head_length, body_length, record_count, largest_slice, framed, framed_after}
use Rattle.archive_records.specs.Fault.{is_end, tested, next, next_by, FailsNext, IsTrailing, Refuses}
use Rattle.archive_records.proofs.Framed.{same_tag, same_body, framed-bad, framed-large}
use Rattle.archive_records.proofs.Holds.{holds, Holds-end, done, next-is, next-framed}
use Rattle.archive_records.proofs.Longest.{framed-grows, is_end-grows}
use Rattle.archive_records.specs.declared.format.Format.{Format}

abbrev pub failed : RecordFaultKind → Result ℕ RecordFaultKind
failed kind = Err kind

pub no_both : (n : ℕ) (k : RecordFaultKind) → done n ≡ failed k → ⊥
no_both n k e = cc

number-grows : (bytes more : List ℕ) → 9 ≤ length bytes → record_count (bytes ++ more) ≡ record_count bytes
unfolding record_count
number-grows bytes more le =
    ap (λ (t : List ℕ). from_be_bytes w64 (take 8 t)) (drop-append-le 1 bytes more (omega arith))
    ∙ ap (from_be_bytes w64) (take-append-le 8 (drop 1 bytes) more (omega (arith, length-drop 1 bytes)))

module _ (file : Format) where
  -- why the form of a record is refused
  framed_why : (bytes : List ℕ) (kind : RecordFaultKind) → framed file bytes ≡ failed kind
      → (kind ≡ Truncated) ⊎ ((kind ≡ BadTag) × (1 ≤ length bytes) × (head_length file (get_or bytes 0 0) ≡ None))
      ⊎ ((kind ≡ TooLarge) × (head : ℕ) × (1 ≤ length bytes) × (head_length file (get_or bytes 0 0) ≡ Some head)
      × (head ≤ length bytes) × (largest_slice < body_length file bytes))
  unfolding framed framed_after
  framed_why bytes kind e = grind (arith, nat_tests)

  framed-stays : (bytes more : List ℕ) (kind : RecordFaultKind) → kind ≢ Truncated → framed file bytes ≡ failed kind → framed file (bytes ++ more) ≡ failed kind
  framed-stays bytes more kind known e = elim (framed_why bytes kind e) [
    | inl t ↦ absurd (known t)
    | inr (inl b) ↦ framed-bad file (bytes ++ more) (omega (arith, length-append bytes more, b.1))
        (ap (head_length file) (same_tag bytes more b.1) ∙ b.2) ∙ ap failed (sym b.0)
    | inr (inr (is, head, one, tag, long, large)) ↦
        framed-large file (bytes ++ more) head (omega (arith, length-append bytes more))
        (ap (head_length file) (same_tag bytes more one) ∙ tag) (omega (arith, length-append bytes more))
        (rw (same_body file bytes more head one tag long) large) ∙ ap failed (sym is)
  ]

  tested-grows : (low : List ℕ) (count : ℕ) (bytes more : List ℕ) (n : ℕ) → framed file bytes ≡ Ok n
      → tested file low count (bytes ++ more) n ≡ tested file low count bytes n
  unfolding tested is_end
  tested-grows low count bytes more n e =
      let h = holds file bytes n e in
      let i : is_end (bytes ++ more) ≡ is_end bytes = is_end-grows bytes more h.one in
      elim (cases_Bool (is_end bytes)) [
        | inl yes' ↦
            let nine : n ≡ 9 = Holds-end file bytes n h (eqb-true _ _ yes') in
            let fit = h.fits in
            rw (i, yes', number-grows bytes more (omega arith)) refl
        | inr no' ↦ rw (i, no', take-append-le n bytes more h.fits) refl
      ]

  -- a whole record or end record stays
  pub next-ok-grows : (low : List ℕ) (count : ℕ) (bytes more : List ℕ) (n : ℕ) → next file low count bytes ≡ Ok n → next file low count (bytes ++ more) ≡ Ok n
  next-ok-grows low count bytes more n e =
      let f = next-framed file low count bytes n e in
      next-is file (bytes ++ more) n low count (framed-grows file bytes more n f)
      ∙ tested-grows low count bytes more n f ∙ sym (next-is file bytes n low count f) ∙ e

  next_why : (low : List ℕ) (count : ℕ) (bytes : List ℕ) (kind : RecordFaultKind) → next file low count bytes
      ≡ failed kind → (framed file bytes ≡ failed kind)
      ⊎ ((n : ℕ) × (framed file bytes ≡ Ok n) × (tested file low count bytes n ≡ failed kind))
  unfolding next
  next_why low count bytes kind e = grind arith

  next-err-grows : (low : List ℕ) (count : ℕ) (bytes more : List ℕ) (kind : RecordFaultKind) → kind ≢ Truncated
      → next file low count bytes ≡ failed kind → next file low count (bytes ++ more) ≡ failed kind
  unfolding next
  next-err-grows low count bytes more kind known e = elim (next_why low count bytes kind e) [
    | inl f ↦ ap (λ r. next_by file r low count (bytes ++ more)) (framed-stays bytes more kind known f)
    | inr (n, f, t) ↦ next-is file (bytes ++ more) n low count (framed-grows file bytes more n f) ∙ tested-grows low count bytes more n f ∙ t
  ]

  -- each fault but Truncated stays
  pub Fails-grows : (low : List ℕ) (count : ℕ) (bytes more : List ℕ) (kind : RecordFaultKind) → kind ≢ Truncated
      → FailsNext file low count bytes kind → FailsNext file low count (bytes ++ more) kind
  Fails-grows low count bytes more kind known (inl e) = inl (next-err-grows low count bytes more kind known e)
  Fails-grows low count bytes more kind known (inr f) =
      let h = holds file bytes f.0 (next-framed file low count bytes f.0 f.1) in
      inr (f.0, next-ok-grows low count bytes more f.0 f.1, subst (λ (t : List ℕ). Refuses file t kind) (sym (take-append-le f.0 bytes more h.fits)) f.2)

  pub IsTrailing-grows : (low : List ℕ) (count : ℕ) (bytes more : List ℕ) → IsTrailing file low count bytes → IsTrailing file low count (bytes ++ more)
  IsTrailing-grows low count bytes more t = record {
    whole = next-ok-grows low count bytes more 9 t.whole;
    end = is_end-grows bytes more (omega (arith, t.more)) ∙ t.end;
    more = omega (arith, length-append bytes more, t.more);
  }
