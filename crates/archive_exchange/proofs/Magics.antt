-- An archive's text is no summary's, and is refused where one has to stand; and the other way.
use Rattle.std.proofs.Common.{◌≡◌, ◌≢◌, ℕ, ◌≤◌, List, ◌++◌, length, take, refl, sym, ap, ◌∙◌, arith, length-append, inl, inr, slice_index}
use Rattle.std.specs.List.{concat}
use Rattle.std.specs.FinSet as set
use Rattle.join_core.specs.Listing.{listing}
use Rattle.archive_core.specs.Content.{Operations}
use Rattle.archive_core.specs.Summary.{Entries}
use Rattle.archive_records.specs.declared.fault.RecordFault.{RecordFault}
use Rattle.archive_records.specs.declared.format.Format.TheVariants.{Summary}
use Rattle.archive_records.specs.Kind.{magic, old_magic, summary_magic, archive_format}
use Rattle.archive_records.specs.Text.{written, old_written, IsArchiveOf, summary_text, end_record}
use Rattle.archive_records.specs.Fault.{IsFault, IsSummaryFault}
use Rattle.archive_records.proofs.Exact.{one_fault}
use Rattle.archive_records.proofs.Magics.{is_bad}
use Rattle.archive_exchange.specs.ModelEvent.{other_magic}

apart : (a b : ℕ) → a ≡ b → a ≡ 65 → b ≡ 83 → ⊥
apart a b e p q = omega arith

texts_differ : (o : Operations) (s : Entries) → written o ≡ summary_text s → ⊥
unfolding written summary_text
texts_differ o s e = apart 65 83 (ap (λ (t : List ℕ). slice_index t 4) e) refl refl

old_differ : (p : Operations) (s : Entries) → old_written p ≡ summary_text s → ⊥
unfolding old_written summary_text
old_differ p s e = apart 65 83 (ap (λ (t : List ℕ). slice_index t 4) e) refl refl

-- no archive's text, of whichever version, is a summary's
pub gives_no_summary : (o : Operations) (text : List ℕ) (s : Entries) → IsArchiveOf o text → text ≡ summary_text s → ⊥
gives_no_summary o text s (inl e) same = texts_differ o s (sym e ∙ same)
gives_no_summary o text s (inr old) same = old_differ old.operations s (sym old.whole ∙ same)

long : (s : Entries) → 5 ≤ length (summary_text s)
unfolding summary_text
long s = omega (arith, length-append summary_magic (concat (listing s) ++ end_record (set.len s)))

other : (s : Entries) → take 5 (summary_text s) ≢ take 5 magic
unfolding summary_text
other s e = apart 65 83 (sym (ap (λ (t : List ℕ). slice_index t 4) e)) refl refl

other_old : (s : Entries) → take 5 (summary_text s) ≢ take 5 old_magic
unfolding summary_text
other_old s e = apart 65 83 (sym (ap (λ (t : List ℕ). slice_index t 4) e)) refl refl

pub not_an_archive : (s : Entries) (fault : RecordFault) → IsFault (summary_text s) fault → fault ≡ other_magic
not_an_archive s fault is = one_fault (archive_format (summary_text s)) (summary_text s) fault other_magic is
    (is_bad (summary_text s) (5, omega arith, long s, other s, other_old s))

long_archive : (o : Operations) → 5 ≤ length (written o)
unfolding written
long_archive o = omega (arith, length-append magic (concat (listing o) ++ end_record (set.len o)))

other_archive : (o : Operations) → take 5 (written o) ≢ take 5 summary_magic
unfolding written
other_archive o e = apart 65 83 (ap (λ (t : List ℕ). slice_index t 4) e) refl refl

pub not_a_summary : (o : Operations) (fault : RecordFault) → IsSummaryFault (written o) fault → fault ≡ other_magic
not_a_summary o fault is = one_fault Summary (written o) fault other_magic is (inl ((5, omega arith, long_archive o, other_archive o), refl))
