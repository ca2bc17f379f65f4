-- End records.
use Rattle.std.proofs.Common.{◌≡◌, ℕ, suc, ◌<◌, ◌^◌, true, List, [], ◌∷◌, length, get_or, take, Option, Some, Ok, refl}
use Rattle.std.proofs.Common.{sym, ap, ◌∙◌, subst, arith, eq-eqb, lit≤}
use Rattle.std.proofs.lemmas.List.{take_all}
use Rattle.std.proofs.lemmas.Nat.{be_bytes_8, from_be_bytes-to_be_bytes_8}
use Rattle.std.proofs.lemmas.Bool.{eqb-true}
use Rattle.std.proofs.lemmas.Bool.Decides.{nat_tests}
use Rattle.std.specs.Int.{w64, from_be_bytes}
use Rattle.archive_records.specs.Kind.{end_length}
use Rattle.archive_records.specs.Layout.{head_length, body_length, framed, record_count}
use Rattle.archive_records.specs.Fault.{is_end, tested, next, IsUnended}
use Rattle.std.specs.Io.KnownBytes.{IsAtEnd}
use Rattle.archive_records.specs.declared.buffer.Buffer.{Buffer}
use Rattle.archive_records.specs.Reader.{bytes_so_far, IsEnded}
use Rattle.archive_records.specs.Text.{end_record, ending}
use Rattle.archive_records.proofs.Framed.{framed-whole}
use Rattle.archive_records.proofs.Holds.{holds, Holds-end, next-is}
use Rattle.archive_records.proofs.Forms.{IsBytes}
use Rattle.archive_records.specs.declared.format.Format.{Format}
use Rattle.archive_records.specs.declared.format.Format.TheVariants.{Operations}

pub is_three : (bytes : List ℕ) → is_end bytes ≡ true → get_or bytes 0 0 ≡ 3
unfolding is_end
is_three bytes e = eqb-true _ _ e

pub end-is_end : (n : ℕ) → is_end (end_record n) ≡ true
unfolding is_end end_record
end-is_end n = refl

pub length-end_record : (n : ℕ) → length (end_record n) ≡ 9
unfolding end_record
length-end_record n = refl

number_of_end : (n : ℕ) → n < 2 ^ 64 → record_count (end_record n) ≡ n
unfolding record_count end_record
number_of_end n lt = from_be_bytes-to_be_bytes_8 n lt

-- a file with an end record
module _ (file : Format) (end : end_length file ≡ Some 9) where
  pub framed_end : (n : ℕ) → framed file (end_record n) ≡ Ok 9
  unfolding head_length body_length end_record
  framed_end n = framed-whole file (end_record n) 9 (lit≤ tt) end (lit≤ tt) (lit≤ tt) (lit≤ tt)

  pub next_end : (low : List ℕ) (n : ℕ) → n < 2 ^ 64 → next file low n (end_record n) ≡ Ok 9
  unfolding tested
  next_end low n lt = next-is file (end_record n) 9 low n (framed_end n) ∙ rw (end-is_end n, eq-eqb _ _ (number_of_end n lt)) refl

pub counted : (file : Format) → end_length file ≡ Some 9 → (n : ℕ) → ending file n ≡ end_record n
counted file end n = grind arith

pub counted_unended : (file : Format) → end_length file ≡ Some 9 → (rest : List ℕ) → IsUnended file rest
counted_unended Operations end rest = absurd (cc end)
counted_unended _ end rest = tt

-- an operations file has none
pub no_end : (bytes : List ℕ) (n : ℕ) → framed Operations bytes ≡ Ok n → get_or bytes 0 0 ≡ 3 → ⊥
unfolding head_length
no_end bytes n e three = let tag = (holds Operations bytes n e).tag in grind (arith, nat_tests)

is_end_record : (bytes : List ℕ) (count : ℕ) → length bytes ≡ 9 → get_or bytes 0 0 ≡ 3 → record_count bytes ≡ count → IsBytes bytes → bytes ≡ end_record count
unfolding record_count end_record
is_end_record [] count len tag n fits = absurd (omega arith)
is_end_record (b ∷ bs) count len tag n fits =
    cc (tag, be_bytes_8 bs count (omega arith) (λ i. fits (suc i)) (sym n ∙ ap (from_be_bytes w64) (take_all 8 bs (omega arith))))

module _ (file : Format) where
  -- a whole end record is that of the number it has
  pub ends : (bytes : List ℕ) (count : ℕ) → framed file bytes ≡ Ok (length bytes) → get_or bytes 0 0 ≡ 3
      → record_count bytes ≡ count → IsBytes bytes → bytes ≡ end_record count
  ends bytes count e three n fits = is_end_record bytes count (Holds-end file bytes (length bytes) (holds file bytes (length bytes) e) three) three n fits

-- an end record is what ends a file, where it may stand there
pub ending_is : (file : Format) (rest : List ℕ) (n count : ℕ) → framed file rest ≡ Ok n → get_or rest 0 0 ≡ 3 → rest
    ≡ end_record count → rest ≡ ending file count
ending_is Operations rest n count whole three e = absurd (no_end rest n whole three)
ending_is _ rest n count whole three e = e

pub ended_is : (file : Format) (left : Option (List ℕ)) (rest : List ℕ) (n : ℕ) → framed file rest ≡ Ok n → get_or rest 0 0 ≡ 3 → IsEnded file left
ended_is Operations left rest n whole three = absurd (no_end rest n whole three)
ended_is _ left rest n whole three = tt

-- where nothing is left, an operations file ends
pub open_end : (file : Format) (count : ℕ) (b : Buffer) → b.at ≡ 0 → file ≡ Operations → bytes_so_far b ≡ ending file count
open_end file count b at is = ap (λ (n : ℕ). take n b.bytes.items) at ∙ sym (ap (λ (f : Format). ending f count) is)

pub open_ended : (file : Format) (left : Option (List ℕ)) → file ≡ Operations → IsAtEnd left → IsEnded file left
open_ended file left is end = subst (λ (f : Format). IsEnded f left) (sym is) end
