-- Formats of one kind: the two versions of archives differ in their magics alone, as far as records go.
use Rattle.std.proofs.Common.{◌≡◌, ◌≢◌, ℕ, ◌<◌, List, [], ◌∷◌, ◌++◌, length, refl, sym, ◌∙◌, arith, inl, lit≤}
use Rattle.std.specs.Prelude.{take}
use Rattle.archive_records.specs.declared.fault.RecordFaultKind.{RecordFaultKind}
use Rattle.archive_records.specs.declared.fault.RecordFaultKind.TheVariants.{BadMagic, Trailing}
use Rattle.archive_records.specs.Reader.{StopsInMagic, StopsInMagicOf}
use Rattle.std.proofs.lemmas.List.{take_all, take-append-le}
use Rattle.archive_records.specs.declared.format.Format.{Format}
use Rattle.archive_records.specs.declared.format.Format.TheVariants.{Archive, OldArchive, Operations, Summary}
use Rattle.archive_records.specs.declared.kind.TextKind.{TextKind}
use Rattle.archive_records.specs.declared.kind.TextKind.TheVariants.{Archive as Archive_text, Operations as Operations_text, Summary as Summary_text}
use Rattle.archive_records.specs.Kind.{magic, old_magic, magic_of, kind_of, archive_format, format_for, allows, may_follow}
use Rattle.archive_records.specs.Text.{end_record, ending, InOrder}

-- ---- records

pub follows_old : (a b : List ℕ) → may_follow OldArchive a b ≡ may_follow Archive a b
unfolding may_follow allows
follows_old a b = refl

pub in_order_old : (low : List ℕ) (xs : List (List ℕ)) → InOrder OldArchive low xs → InOrder Archive low xs
in_order_old low [] a = a
in_order_old low (x ∷ xs) a = (a.0, sym (follows_old low x) ∙ a.1, in_order_old x xs a.2)

pub old_in_order : (low : List ℕ) (xs : List (List ℕ)) → InOrder Archive low xs → InOrder OldArchive low xs
old_in_order low [] a = a
old_in_order low (x ∷ xs) a = (a.0, follows_old low x ∙ a.1, old_in_order x xs a.2)

-- ---- of archives

pub no_operations_text : Operations_text ≡ Archive_text → ⊥
no_operations_text e = cc

pub no_summary_text : Summary_text ≡ Archive_text → ⊥
no_summary_text e = cc

pub in_order_of : (f : Format) → kind_of f ≡ Archive_text → (low : List ℕ) (xs : List (List ℕ)) → InOrder f low xs → InOrder Archive low xs
in_order_of Archive is low xs a = a
in_order_of OldArchive is low xs a = in_order_old low xs a
in_order_of _ is low xs a = absurd (cc is)

pub follows_of : (f : Format) → kind_of f ≡ Archive_text → (a b : List ℕ) → may_follow f a b ≡ may_follow Archive a b
follows_of OldArchive is a b = follows_old a b
follows_of _ is a b = cc

pub ending_of : (f : Format) → kind_of f ≡ Archive_text → (n : ℕ) → ending f n ≡ end_record n
ending_of f is n = grind arith

-- ---- magics

-- both magics of archives begin so
pub same_front : (n : ℕ) → n < 8 → take n magic ≡ take n old_magic
same_front n h = take-append-le n (take 7 magic) (0x32 ∷ []) (omega arith) ∙ sym (take-append-le n (take 7 magic) (0x31 ∷ []) (omega arith))

pub same_fronts : (f g : Format) → kind_of f ≡ kind_of g → (n : ℕ) → n < 8 → take n (magic_of f) ≡ take n (magic_of g)
same_fronts f g e n h = grind (arith, same_front)

pub length-magic : (f : Format) → length (magic_of f) ≡ 8
length-magic f = grind arith

-- bytes that are no magic, or not as one begins, are no file's first
pub other_magic : (f : Format) (bytes : List ℕ) → length bytes ≡ 8 → bytes ≢ magic_of f → StopsInMagic f bytes BadMagic
other_magic f bytes long other = inl (
  8,
  lit≤ tt,
  omega (arith, long),
  λ e. other (sym (take_all 8 bytes (omega (arith, long))) ∙ e
      ∙ take_all 8 (magic_of f) (omega (arith, length-magic f))),
)

pub other_front : (f : Format) (bytes : List ℕ) → length bytes < 8 → bytes ≢ take (length bytes) (magic_of f) → StopsInMagic f bytes BadMagic
other_front f bytes short other = inl (length bytes, omega (arith, short), omega arith, λ e. other (sym (take_all (length bytes) bytes (omega arith)) ∙ e))

-- the eighth byte of a magic tells its format
pub format_magic : (f : Format) → kind_of f ≡ Archive_text → (text rest : List ℕ) → text ≡ magic_of f ++ rest → archive_format text ≡ f
unfolding archive_format
format_magic f is text rest e = grind arith

-- operations and summaries have one format each
pub operations_form : (f : Format) → kind_of f ≡ Operations_text → f ≡ Operations
operations_form f is = grind arith

pub summary_form : (f : Format) → kind_of f ≡ Summary_text → f ≡ Summary
summary_form f is = grind arith

pub format_read : (kind : TextKind) (f : Format) → kind_of f ≡ kind → (text rest : List ℕ) → text ≡ magic_of f ++ rest → format_for kind text ≡ f
format_read Archive_text f is text rest e = format_magic f is text rest e
format_read Operations_text f is text rest e = sym (operations_form f is)
format_read Summary_text f is text rest e = sym (summary_form f is)

pub kind_archive : (text : List ℕ) → kind_of (archive_format text) ≡ Archive_text
unfolding archive_format
kind_archive text = grind arith

pub kind_read : (kind : TextKind) (text : List ℕ) → kind_of (format_for kind text) ≡ kind
kind_read Archive_text text = kind_archive text
kind_read _ text = refl

-- what stops in the magic is no byte after a text
no_trailing : (f : Format) (bytes : List ℕ) (why : RecordFaultKind) → StopsInMagic f bytes why → why ≢ Trailing
no_trailing f bytes why stops = grind arith

pub begun_no_trailing : (kind : TextKind) (bytes : List ℕ) (why : RecordFaultKind) → StopsInMagicOf kind bytes why → why ≢ Trailing
begun_no_trailing kind bytes why stops = no_trailing (format_for kind bytes) bytes why (stops (format_for kind bytes) (kind_read kind bytes))
