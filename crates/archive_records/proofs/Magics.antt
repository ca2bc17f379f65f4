-- First bytes that are no archive's.
use Rattle.std.proofs.Common.{◌≡◌, ◌≢◌, ℕ, ◌<◌, ◌≤◌, List, ◌++◌, length, refl, sym, ap, ◌∙◌, subst, arith, inl, inr}
use Rattle.std.specs.Prelude.{take, drop}
use Rattle.std.proofs.lemmas.Bool.{cases_lt}
use Rattle.std.proofs.lemmas.List.{take-append-drop, take_all}
use Rattle.archive_records.specs.declared.fault.RecordFault.{RecordFault}
use Rattle.archive_records.specs.declared.fault.RecordFaultKind.TheVariants.{BadMagic, Truncated}
use Rattle.archive_records.specs.declared.format.Format.{Format}
use Rattle.archive_records.specs.declared.format.Format.TheVariants.{Archive, OldArchive}
use Rattle.archive_records.specs.declared.kind.TextKind.TheVariants.{Archive as Archive_text}
use Rattle.archive_records.specs.Kind.{magic, old_magic, magic_of, kind_of, archive_format}
use Rattle.archive_records.specs.Fault.{IsFault, IsFaultOf, IsFaultAfter, IsMagicFault}
use Rattle.archive_records.proofs.Formats.{format_magic, kind_archive, same_fronts, length-magic}

-- no fault after a magic stands at its beginning
behind : (file : Format) (records : List (List ℕ)) (rest : List ℕ) (fault : RecordFault) → fault.offset ≡ 0 → IsFaultAfter file records rest fault → ⊥
behind file records rest fault e (inl f) = omega (arith, e, f.1)
behind file records rest fault e (inr f) = omega (arith, e, f.2)

-- a fault at the beginning is one of the magic
at_start : (file : Format) (text : List ℕ) (fault : RecordFault) → fault.offset ≡ 0 → IsFaultOf file text fault → IsMagicFault file text fault.kind
at_start file text fault e (inl m) = m.0
at_start file text fault e (inr f) = absurd (behind file f.0 f.1.rest fault e f.3)

module _ (text : List ℕ) where
  abbrev format : Format
  format = archive_format text

  -- first bytes that are not those of the one magic are not those of another
  no_other : (n : ℕ) → n ≤ 8 → take n text ≢ take n (magic_of format) → (g : Format) → kind_of g ≡ Archive_text → take n text ≢ take n (magic_of g)
  no_other n few other g is e = elim (cases_lt n 8) [
    | inl short ↦ other (e ∙ same_fronts g format (is ∙ sym (kind_archive text)) n short)
    | inr long ↦
        let eight : n ≡ 8 = omega (arith, few, long) in
        let magic_is : take 8 text ≡ magic_of g = subst (λ (k : ℕ). take k text ≡ take k (magic_of g)) eight e
        ∙ take_all 8 (magic_of g) (omega (arith, length-magic g)) in
        let whole : text ≡ magic_of g ++ drop 8 text = sym (take-append-drop 8 text) ∙ ap (λ (t : List ℕ). t ++ drop 8 text) magic_is in
        other (e ∙ ap (λ (f : Format). take n (magic_of f)) (sym (format_magic g is text (drop 8 text) whole)))
  ]

  pub bad_is : IsFault text (record { kind = BadMagic; offset = 0 }) → (n : ℕ) × (n ≤ 8) × (n ≤ length text)
      × (take n text ≢ take n magic) × (take n text ≢ take n old_magic)
  bad_is f =
      let b = at_start format text (record { kind = BadMagic; offset = 0 }) refl f in
      (b.0, b.1, b.2, no_other b.0 b.1 b.3 Archive refl, no_other b.0 b.1 b.3 OldArchive refl)

  bad_in : (f : Format) → kind_of f ≡ Archive_text → (n : ℕ) → take n text ≢ take n magic → take n text ≢ take n old_magic → take n text ≢ take n (magic_of f)
  bad_in f is n a b = grind arith

  pub is_bad : (n : ℕ) × (n ≤ 8) × (n ≤ length text) × (take n text ≢ take n magic) × (take n text ≢ take n old_magic)
      → IsFault text (record { kind = BadMagic; offset = 0 })
  is_bad b = inl ((b.0, b.1, b.2, bad_in format (kind_archive text) b.0 b.3 b.4), refl)

  pub truncated_is : IsFault text (record { kind = Truncated; offset = 0 }) → (length text < 8)
      × (text ≡ take (length text) magic) × (text ≡ take (length text) old_magic)
  truncated_is f =
      let b = at_start format text (record { kind = Truncated; offset = 0 }) refl f in
      (b.0, b.1 ∙ same_fronts format Archive (kind_archive text) (length text) b.0, b.1 ∙ same_fronts format OldArchive (kind_archive text) (length text) b.0)

  pub is_truncated : (length text < 8) × (text ≡ take (length text) magic) × (text ≡ take (length text) old_magic)
      → IsFault text (record { kind = Truncated; offset = 0 })
  is_truncated b = inl ((b.0, b.1 ∙ same_fronts Archive format (sym (kind_archive text)) (length text) b.0), refl)
