-- The good records of two inputs, and which of the two stops their merge.
use Rattle.std.proofs.Common.{◌≡◌, ℕ, List, [], ◌++◌, length, refl, sym, ap, ◌∙◌, subst, inl, inr, ◌⊎◌}
use Rattle.std.proofs.lemmas.Bool.{cases_Bool}
use Rattle.std.specs.List.{concat}
use Rattle.std.specs.FinSet as set
use Rattle.join_core.specs.Listing.{listing}
use Rattle.archive_core.specs.Content.{Operations, IsContent, joined, content_of}
use Rattle.archive_core.proofs.Made.{joined_made}
use Rattle.archive_records.specs.declared.fault.RecordFault.{RecordFault}
use Rattle.archive_records.specs.declared.format.Format.{Format}
use Rattle.archive_records.specs.declared.format.Format.TheVariants.{Archive, OldArchive}
use Rattle.archive_records.specs.Kind.{archive_format, may_follow}
use Rattle.archive_records.specs.Text.{written, old_written, ending, text_of, AreOperations, IsArchiveOf, last_of}
use Rattle.archive_records.specs.Fault.{IsFault, IsMagicFault}
use Rattle.archive_records.specs.Front.{IsLongestFront}
use Rattle.archive_merge.specs.Merging.{HasMagic, IsArchiveText, AreGoodRecords, EndsBelow, LeftStops, RightStops, of_both}
use Rattle.archive_records.proofs.Forms.{IsBytes}
use Rattle.archive_records.proofs.Apart.{apart_listing}
use Rattle.archive_records.proofs.Contents.{InOrder-listing, InOrder-set, written_text, content_is}
use Rattle.archive_records.proofs.Formats.{old_in_order, format_magic, kind_archive}
use Rattle.archive_records.proofs.Versions.{old_written_text, formed}
use Rattle.archive_records.proofs.Exact.{no_magic_fault, fault_longest}
use Rattle.laws_archive.proofs.Complete.{same_or_not, content_or_fault}
use Rattle.command_archives.proofs.Beginnings.{good_formed}
use Rattle.archive_merge.proofs.Fronts.{archive_text, formed_of, text_magic, front_magic, whole_front}

-- ---- good records

-- those of the text of a content are its records
pub good_text : (o : Operations) → IsContent o → AreGoodRecords (written o) (listing o)
good_text o c = good_formed Archive refl (written o) (listing o) (InOrder-listing o c) (apart_listing o c) (written_text o)

-- and those of a text of version 1 its operations'
pub good_old : (p : Operations) → AreOperations p → AreGoodRecords (old_written p) (listing p)
good_old p are = good_formed OldArchive refl (old_written p) (listing p) (old_in_order [] (listing p) (InOrder-set p are)) tt (old_written_text p)

by_text : (text : List ℕ) → ((o : Operations) × IsContent o × IsArchiveOf o text)
    ⊎ ((fault : RecordFault) × IsFault text fault) → (records : List (List ℕ)) × AreGoodRecords text records
by_text text (inl c) =
    let s = formed c.0 text c.1 c.2 in
    (s.records, good_formed s.format s.archive text s.records s.ordered s.apart s.whole)
by_text text (inr (fault, inl m)) = ([], inr (no, refl))
  where
    no : HasMagic text → ⊥
    no h = no_magic_fault h.0 text h.2 fault.kind h.3 (subst (λ (f : Format). IsMagicFault f text fault.kind) (format_magic h.0 h.1 text h.2 h.3) m.0)
by_text text (inr (fault, inr f)) = (f.0, inl (fault_longest (archive_format text) text f.0 f.1 fault f.3))

pub good_records : (text : List ℕ) → IsBytes text → (records : List (List ℕ)) × AreGoodRecords text records
good_records text fits = by_text text (content_or_fault text fits)

-- ---- both are texts, or one side stops

-- an archive's text is that of its good records
text_is : (t : List ℕ) (xs : List (List ℕ)) → IsLongestFront (archive_format t) t xs → IsArchiveText t → t ≡ text_of (archive_format t) xs
text_is t xs l x =
    let s = formed_of t x in
    let same : archive_format t ≡ s.format = format_magic s.format s.archive t (concat s.records ++ ending s.format (length s.records)) s.whole in
    let all : xs ≡ s.records = whole_front s.format s.archive t s.records xs s.ordered s.apart s.whole (subst (λ (f : Format). IsLongestFront f t xs) same l) in
    s.whole ∙ ap (text_of s.format) (sym all) ∙ ap (λ (f : Format). text_of f xs) (sym same)

text_or_not : (t : List ℕ) (xs : List (List ℕ)) → IsLongestFront (archive_format t) t xs → IsArchiveText t ⊎ (IsArchiveText t → ⊥)
text_or_not t xs l = elim (same_or_not t (text_of (archive_format t) xs)) [
  | inl same ↦ inl (archive_text (archive_format t) (kind_archive t) t xs l.front.ordered l.front.apart same)
  | inr other ↦ inr (λ x. other (text_is t xs l x))
]

below_or_not : (xs ys : List (List ℕ)) → EndsBelow xs ys ⊎ (EndsBelow xs ys → ⊥)
below_or_not xs ys = elim (cases_Bool (may_follow Archive (last_of [] xs) (last_of [] ys))) [
  | inl below ↦ inl below
  | inr above ↦ inr (λ below. cc)
]

module _ (t u : List ℕ) (xs ys : List (List ℕ)) where
  abbrev TextsOrStopped : Type 0
  TextsOrStopped = (IsArchiveText t × IsArchiveText u) ⊎ LeftStops t u xs ys ⊎ RightStops t u xs ys

  by_texts : HasMagic t → HasMagic u → IsArchiveText t ⊎ (IsArchiveText t → ⊥) → IsArchiveText u ⊎ (IsArchiveText u → ⊥) → TextsOrStopped
  by_texts m n (inl x) (inl y) = inl (x, y)
  by_texts m n (inl x) (inr q) = inr (inr (record { faulty = q; magic_left = m; first = inr (inl x) }))
  by_texts m n (inr p) (inl y) = inr (inl (record { faulty = p; first = inr (n, inl y) }))
  by_texts m n (inr p) (inr q) = elim (below_or_not ys xs) [
    | inl below ↦ inr (inr (record { faulty = q; magic_left = m; first = inr (inr below) }))
    | inr above ↦ inr (inl (record { faulty = p; first = inr (n, inr above) }))
  ]

  pub texts_or_stopped : AreGoodRecords t xs → AreGoodRecords u ys → TextsOrStopped
  texts_or_stopped (inl l) (inl k) = by_texts (front_magic t xs l) (front_magic u ys k) (text_or_not t xs l) (text_or_not u ys k)
  texts_or_stopped (inl l) (inr n) = inr (inr (record { faulty = λ y. n.0 (text_magic u y); magic_left = front_magic t xs l; first = inl n.0 }))
  texts_or_stopped (inr n) k = inr (inl (record { faulty = λ x. n.0 (text_magic t x); first = inl n.0 }))

-- ---- two archives

-- the good records of both make their join
pub of_both_is : (o p : Operations) → of_both (listing o) (listing p) ≡ joined o p
of_both_is o p = ap (λ (x : Operations). joined x (set.from_list (listing p))) (sym (content_is o)) ∙ ap (joined o) (sym (content_is p))

-- and it is that of the contents that they make
pub of_both_made : (o p : Operations) → of_both (listing o) (listing p) ≡ joined (content_of o) (content_of p)
of_both_made o p = of_both_is o p ∙ sym (joined_made o p)
