-- What a merge that was stopped has written of the join of two archives.
use Rattle.std.proofs.Common.{◌≡◌, ℕ, true, List, [], ◌++◌, length, Option, Some, sym, ap, ◌∙◌, subst, inl}
use Rattle.std.specs.Prelude.{IfSome}
use Rattle.std.specs.List.{concat}
use Rattle.std.specs.FinSet as set
use Rattle.byte_device.specs.Writes.{WritesFirst}
use Rattle.archive_core.specs.Content.{Operations, IsContent, content_of, joined}
use Rattle.archive_core.proofs.Made.{joined_made}
use Rattle.archive_records.proofs.Contents.{are_records}
use Rattle.archive_merge.proofs.Places.{good_order}
use Rattle.archive_records.specs.declared.format.Format.{Format}
use Rattle.archive_records.specs.declared.kind.TextKind.TheVariants.{Archive as Archive_text}
use Rattle.archive_records.specs.Kind.{kind_of}
use Rattle.archive_records.specs.Text.{written, ending, text_of, taken_of, InOrder, AreApart, IsArchiveOf, last_of}
use Rattle.archive_records.specs.Fault.{is_end}
use Rattle.archive_records.specs.Front.{IsGoodFront}
use Rattle.archive_merge.specs.Merging.{AreGoodRecords, of_both}
use Rattle.archive_records.proofs.Ends.{end-is_end}
use Rattle.archive_records.proofs.Longest.{is_longest, end-stops}
use Rattle.archive_records.proofs.Formats.{ending_of, format_magic, in_order_of}
use Rattle.archive_records.proofs.Versions.{formed, made_content}
use Rattle.archive_merge.proofs.Fronts.{taken_made}

-- the good records of the text of records are these
pub good_formed : (f : Format) → kind_of f ≡ Archive_text → (t : List ℕ) (xs : List (List ℕ)) → InOrder f [] xs
    → AreApart f xs → t ≡ text_of f xs → AreGoodRecords t xs
good_formed f k t xs a p e =
    let end : List ℕ = ending f (length xs) in
    let is : is_end end ≡ true = ap is_end (ending_of f k (length xs)) ∙ end-is_end (length xs) in
    let front : IsGoodFront f t xs = record { ordered = a; apart = p; rest = end; whole = e } in
    inl (rw (format_magic f k t (concat xs ++ end) e) (is_longest f t xs front (λ g. end-stops f (last_of [] xs) end is g.next)))

abbrev ForBoth : Option (List ℕ) → Option (List ℕ) → (List (List ℕ) → List (List ℕ) → Type 0) → Type 0
ForBoth a b P = IfSome a (λ t. IfSome b (λ u. (xs ys : List (List ℕ)) → AreGoodRecords t xs → AreGoodRecords u ys → P xs ys))

-- the good records of a text make a content
pub good_content : (t : List ℕ) (xs : List (List ℕ)) → AreGoodRecords t xs → IsContent (content_of (set.from_list xs))
good_content t xs g = made_content (set.from_list xs) (are_records xs (good_order t xs g))

-- and those of an archive make its own
pub records_of : (o : Operations) (t : List ℕ) → IsContent o → IsArchiveOf o t
    → (xs : List (List ℕ)) × AreGoodRecords t xs × (content_of (set.from_list xs) ≡ o)
records_of o t c i =
    let f = formed o t c i in (
      f.records,
      good_formed f.format f.archive t f.records f.ordered f.apart f.whole,
      sym (f.content ∙ taken_made f.format f.archive f.records (in_order_of f.format f.archive [] f.records f.ordered) f.apart),
    )

-- a first part of what the good records of two texts make, of which the right one is an archive's, is one of the text of
-- the join of what the left ones make with its content
pub first_of_good : (a b w0 w1 : Option (List ℕ)) (n : ℕ) (xs : List (List ℕ)) (p : Operations) (t u : List ℕ)
    → IsContent p → IsArchiveOf p u → a ≡ Some t → b ≡ Some u → AreGoodRecords t xs
    → ForBoth a b (λ xs ys. WritesFirst w0 w1 (written (of_both xs ys)) n)
    → WritesFirst w0 w1 (written (joined (content_of (set.from_list xs)) p)) n
first_of_good a b w0 w1 n xs p t u d j e f g h =
    let both = rw (e, f) at h in
    let r = records_of p u d j in
    let join : of_both xs r.0 ≡ joined (content_of (set.from_list xs)) p =
    sym (joined_made (set.from_list xs) (set.from_list r.0)) ∙ ap (joined (content_of (set.from_list xs))) r.2 in
    subst (λ (q : Operations). WritesFirst w0 w1 (written q) n) join (both xs r.0 g r.1)

-- a first part of what the good records of two archives make is one of the text of their join
pub first_of_join : (a b w0 w1 : Option (List ℕ)) (n : ℕ) (o p : Operations) (t u : List ℕ) → IsContent o → IsContent p
    → IsArchiveOf o t → IsArchiveOf p u → a ≡ Some t → b ≡ Some u
    → ForBoth a b (λ xs ys. WritesFirst w0 w1 (written (of_both xs ys)) n) → WritesFirst w0 w1 (written (joined o p)) n
first_of_join a b w0 w1 n o p t u c d i j e f h =
    let l = records_of o t c i in
    subst (λ (q : Operations). WritesFirst w0 w1 (written (joined q p)) n) l.2
    (first_of_good a b w0 w1 n l.0 p t u d j e f l.1 h)
