-- The texts of archives, of both versions: of which records each is, and what it gives.
use Rattle.std.proofs.Common.{◌≡◌, ℕ, ◌<◌, ◌≤◌, ◌^◌, Bool, not, List, [], ◌∷◌, ◌++◌, length, refl, sym, ap, ◌∙◌, subst, arith, inl, inr, append_assoc}
use Rattle.std.proofs.lemmas.List.{append-nil}
use Rattle.std.specs.List.{concat, filter}
use Rattle.std.specs.Cmp.Lexicographic.{nat_list_cmp_total}
use Rattle.std.specs.FinSet as set
use Rattle.join_core.specs.Listing.{listing}
use Rattle.join_core.proofs.Listing.{listing_ascending}
use Rattle.join_core.proofs.Retain.{listing_retain}
use Rattle.archive_core.specs.Content.{Operations, IsContent, is_covered, content_of}
use Rattle.archive_core.proofs.Made.{made_again, from_made, bytes_same}
use Rattle.archive_records.specs.declared.fault.RecordFault.{RecordFault}
use Rattle.archive_records.specs.declared.format.Format.{Format}
use Rattle.archive_records.specs.declared.format.Format.TheVariants.{Archive, OldArchive, Operations as Operations_file}
use Rattle.archive_records.specs.declared.kind.TextKind.TheVariants.{Archive as Archive_text}
use Rattle.archive_records.specs.Kind.{old_magic, magic_of, kind_of, archive_format}
use Rattle.archive_records.specs.Text.{end_record, ending, text_of, written, old_written, AreOperations, IsArchiveOf, InOrder, AreApart, kept, taken_of}
use Rattle.archive_records.specs.Fault.{IsFault, IsFaultOf}
use Rattle.archive_records.specs.Reader.{set_of}
use Rattle.archive_records.proofs.Formats.{in_order_old, old_in_order, format_magic}
use Rattle.archive_records.proofs.Puts.{length_written}
use Rattle.archive_records.proofs.Contents.{sorted-InOrder, InOrder-listing, InOrder-set, IsContent-records}
use Rattle.archive_records.proofs.Contents.{are_records, written_text, written-records, content_is}
use Rattle.archive_records.proofs.Apart.{apart_listing}
use Rattle.archive_records.proofs.Exact.{same_records, no_fault}

-- ---- what is kept of records

pub listing_of : (xs : List (List ℕ)) → InOrder Archive [] xs → listing (set_of xs) ≡ xs
listing_of xs a = listing_ascending nat_list_cmp_total bytes_same xs (sorted-InOrder [] xs a).1

-- those that are kept are the members of what they make
pub kept_records : (xs : List (List ℕ)) → InOrder Archive [] xs → listing (content_of (set_of xs)) ≡ kept xs
unfolding kept
kept_records xs a =
    listing_retain nat_list_cmp_total bytes_same (λ r. not (is_covered (set_of xs) r)) (set_of xs)
    ∙ ap (λ (t : List (List ℕ)). filter (λ r. not (is_covered (set_of xs) r)) t) (listing_of xs a)

pub kept_set : (xs : List (List ℕ)) → InOrder Archive [] xs → set_of (kept xs) ≡ content_of (set_of xs)
kept_set xs a = ap set_of (sym (kept_records xs a)) ∙ sym (content_is (content_of (set_of xs)))

filter_long : (p : List ℕ → Bool) (xs : List (List ℕ)) → length (filter p xs) ≤ length xs
filter_long p [] = omega arith
filter_long p (x ∷ xs) = let rest = filter_long p xs in grind arith

pub kept_long : (xs : List (List ℕ)) → length (kept xs) ≤ length xs
unfolding kept
kept_long xs = filter_long (λ r. not (is_covered (set_of xs) r)) xs

-- ---- texts of version 1

pub old_written_text : (p : Operations) → old_written p ≡ text_of OldArchive (listing p)
unfolding old_written
old_written_text p = ap (λ n. old_magic ++ (concat (listing p) ++ end_record n)) (sym (length_written p))

pub old_written-records : (xs : List (List ℕ)) → InOrder Archive [] xs → old_written (set_of xs) ≡ text_of OldArchive xs
old_written-records xs a = old_written_text (set_of xs) ∙ ap (text_of OldArchive) (listing_of xs a)

-- what operations make is a content
pub made_content : (p : Operations) → AreOperations p → IsContent (content_of p)
made_content p are = record { itself = made_again p; records = λ r h. are r (from_made p r h) }

-- ---- a text of either version

-- The text is that of these records in this format, and those of them that are taken make the content.
pub record Formed (o : Operations) (text : List ℕ) : Type 0 where
  pub format : Format
  pub archive : kind_of format ≡ Archive_text
  pub records : List (List ℕ)
  pub ordered : InOrder format [] records
  pub apart : AreApart format records
  pub whole : text ≡ text_of format records
  pub content : o ≡ set.from_list (taken_of format records)

pub formed : (o : Operations) (text : List ℕ) → IsContent o → IsArchiveOf o text → Formed o text
formed o text c (inl e) = record {
  format = Archive;
  archive = refl;
  records = listing o;
  ordered = InOrder-listing o c;
  apart = apart_listing o c;
  whole = e ∙ written_text o;
  content = content_is o;
}
formed o text c (inr old) =
    let p = old.operations in
    let a : InOrder Archive [] (listing p) = InOrder-set p old.are in
    record {
      format = OldArchive;
      archive = refl;
      records = listing p;
      ordered = old_in_order [] (listing p) a;
      apart = tt;
      whole = old.whole ∙ old_written_text p;
      content = old.makes ∙ ap content_of (content_is p) ∙ sym (kept_set (listing p) a);
    }

content_in : (f : Format) → kind_of f ≡ Archive_text → (xs : List (List ℕ)) → InOrder f [] xs → AreApart f xs → IsContent (set.from_list (taken_of f xs))
content_in Archive is xs a apart = IsContent-records xs a apart
content_in OldArchive is xs a apart =
    let b = in_order_old [] xs a in
    subst IsContent (sym (kept_set xs b)) (made_content (set_of xs) (are_records xs b))
content_in _ is xs a apart = absurd (cc is)

text_in : (f : Format) → kind_of f ≡ Archive_text → (xs : List (List ℕ)) → InOrder f [] xs → (text : List ℕ) → text
    ≡ text_of f xs → IsArchiveOf (set.from_list (taken_of f xs)) text
text_in Archive is xs a text e = inl (e ∙ sym (written-records xs a))
text_in OldArchive is xs a text e =
    let b = in_order_old [] xs a in
    inr (record { operations = set_of xs; are = are_records xs b; whole = e ∙ sym (old_written-records xs b); makes = kept_set xs b })
text_in _ is xs a text e = absurd (cc is)

pub formed_content : (o : Operations) (text : List ℕ) → Formed o text → IsContent o
formed_content o text f = subst IsContent (sym f.content) (content_in f.format f.archive f.records f.ordered f.apart)

pub formed_text : (o : Operations) (text : List ℕ) → Formed o text → IsArchiveOf o text
formed_text o text f = subst (λ (c : Operations). IsArchiveOf c text) (sym f.content) (text_in f.format f.archive f.records f.ordered text f.whole)

-- its first bytes tell the format
pub formed_format : (o : Operations) (text : List ℕ) (f : Formed o text) (t more : List ℕ) → t ≡ text ++ more → archive_format t ≡ f.format
formed_format o text f t more e = format_magic f.format f.archive t
    ((concat f.records ++ ending f.format (length f.records)) ++ more)
    (e ∙ ap (λ (x : List ℕ). x ++ more) f.whole ∙ append_assoc (magic_of f.format)
    (concat f.records ++ ending f.format (length f.records)) more)

pub no_operations : (f : Format) → kind_of f ≡ Archive_text → f ≡ Operations_file → ⊥
no_operations f is e = grind arith

-- two texts of archives that begin the same bytes are one
module _ (t : List ℕ) (o p : Operations) (u v m n : List ℕ) (f : Formed o u) (g : Formed p v) (e : t ≡ u ++ m) (h : t ≡ v ++ n) where
  same_format : g.format ≡ f.format
  same_format = sym (formed_format p v g t n h) ∙ formed_format o u f t m e

  one_form : (file : Format) → file ≡ f.format → InOrder file [] g.records → AreApart file g.records → v
      ≡ text_of file g.records → p ≡ set.from_list (taken_of file g.records) → (o ≡ p) × (m ≡ n)
  one_form file is ordered apart whole content =
      let first : t ≡ text_of file f.records ++ m = e ∙ ap (λ (x : List ℕ). x ++ m) (f.whole ∙ ap (λ (k : Format). text_of k f.records) (sym is)) in
      let other : t ≡ text_of file g.records ++ n = h ∙ ap (λ (x : List ℕ). x ++ n) whole in
      let closed : file ≡ Operations_file → ⊥ = λ k. no_operations f.format f.archive (sym is ∙ k) in
      let same = same_records file t g.records n ordered apart other (λ k. absurd (closed k)) f.records m
      (subst (λ (k : Format). InOrder k [] f.records) (sym is) f.ordered)
      (subst (λ (k : Format). AreApart k f.records) (sym is) f.apart) (λ k. absurd (closed k)) first in (
        f.content ∙ ap (λ (k : Format). set.from_list (taken_of k f.records)) (sym is)
            ∙ ap (λ (xs : List (List ℕ)). set.from_list (taken_of file xs)) same.0 ∙ sym content,
        same.1,
      )

  pub one_front : (o ≡ p) × (m ≡ n)
  one_front = one_form g.format same_format g.ordered g.apart g.whole g.content

pub one_content : (text : List ℕ) (o p : Operations) → IsContent o → IsContent p → IsArchiveOf o text → IsArchiveOf p text → o ≡ p
one_content text o p c d i j = (one_front text o p text text [] [] (formed o text c i) (formed p text d j) (sym (append-nil text)) (sym (append-nil text))).0

pub no_text_begins : (o p : Operations) (text other more : List ℕ) → IsContent o → IsContent p → IsArchiveOf o text
    → IsArchiveOf p other → text ++ more ≡ other → more ≡ []
no_text_begins o p text other more c d i j e = (one_front other o p text other more [] (formed o text c i)
    (formed p other d j) (sym e) (sym (append-nil other))).1

-- ---- a text has no fault

no_fault_in : (f : Format) → kind_of f ≡ Archive_text → (t : List ℕ) (xs : List (List ℕ)) → InOrder f [] xs
    → AreApart f xs → t ≡ text_of f xs → (fault : RecordFault) → length xs < 2 ^ 64 → IsFault t fault → ⊥
no_fault_in f is t xs a apart e fault few h =
    let same : archive_format t ≡ f = format_magic f is t (concat xs ++ ending f (length xs)) e in
    no_fault f t xs a apart e fault few (subst (λ (k : Format). IsFaultOf k t fault) same h)

pub written_no_fault : (o : Operations) (fault : RecordFault) → IsContent o → set.len o < 2 ^ 64 → IsFault (written o) fault → ⊥
written_no_fault o fault c few h = no_fault_in Archive refl (written o) (listing o) (InOrder-listing o c)
    (apart_listing o c) (written_text o) fault (omega (arith, length_written o)) h

pub old_no_fault : (p : Operations) (fault : RecordFault) → AreOperations p → set.len p < 2 ^ 64 → IsFault (old_written p) fault → ⊥
old_no_fault p fault are few h = no_fault_in OldArchive refl (old_written p) (listing p)
    (old_in_order [] (listing p) (InOrder-set p are)) tt (old_written_text p) fault (omega (arith, length_written p)) h
