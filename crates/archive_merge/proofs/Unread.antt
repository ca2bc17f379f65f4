-- What a merge that is refused has written is no archive's text.
use Rattle.std.proofs.Common.{◌≡◌, ℕ, ◌+◌, ◌<◌, List, [], ◌∷◌, ◌++◌, length, take, drop, Option, Some, None, refl, sym}
use Rattle.std.proofs.Common.{ap, ◌∙◌, subst, arith, inl, inr, length-take, take-append-drop, IfSome}
use Rattle.std.proofs.lemmas.Bool.{cases_Bool}
use Rattle.std.proofs.lemmas.List.{append-nil, append_cancel_left}
use Rattle.std.specs.List.{concat}
use Rattle.std.specs.FinSet as set
use Rattle.std.specs.Cmp.Lexicographic.{nat_list_cmp_total}
use Rattle.std.specs.Io.KnownBytes.{Appends}
use Rattle.join_core.specs.Listing.{listing}
use Rattle.join_core.proofs.Unions.{union_members}
use Rattle.byte_device.specs.Writes.{WritesFirst}
use Rattle.archive_core.specs.Record.{IsRecord}
use Rattle.archive_core.specs.Content.{Operations, IsContent, content_of}
use Rattle.archive_records.specs.declared.format.Format.TheVariants.{Archive}
use Rattle.archive_records.specs.Kind.{magic, may_follow}
use Rattle.archive_records.specs.Text.{text_of, InOrder, written, kept}
use Rattle.archive_records.specs.Reader.{set_of}
use Rattle.archive_merge.specs.Merging.{IsArchiveText, AreGoodRecords, all_of, of_both, up_to, IsWrittenBefore}
use Rattle.archive_records.proofs.Ascending.{all_above}
use Rattle.archive_records.proofs.Contents.{InOrder-listing, are_records, written_text}
use Rattle.archive_records.proofs.Versions.{kept_records, made_content, no_text_begins}
use Rattle.archive_merge.proofs.Places.{up_to-none, begun, begun_all, begun_none, good_order}

-- no beginning of a text is one but the whole
pub no_text : (o : Operations) (n : ℕ) → IsContent o → n < length (written o) → IsArchiveText (take n (written o)) → ⊥
no_text o n content lt t =
    let none : drop n (written o) ≡ [] = no_text_begins t.0 o (take n (written o)) (written o) (drop n (written o)) t.1
    content t.2 (inl refl) (take-append-drop n (written o)) in
    let short : take n (written o) ≡ written o = sym (append-nil (take n (written o)))
    ∙ ap (λ (x : List ℕ). take n (written o) ++ x) (sym none) ∙ take-append-drop n (written o) in
    omega (arith, ap length short, length-take n (written o))

-- ---- contents of good records

pub good_content : (left right : List ℕ) (lefts rights : List (List ℕ)) → AreGoodRecords left lefts
    → AreGoodRecords right rights → IsContent (of_both lefts rights)
good_content left right lefts rights l r =
    made_content (all_of lefts rights) (union_members nat_list_cmp_total IsRecord (set.from_list lefts)
    (set.from_list rights) (are_records lefts (good_order left lefts l))
    (are_records rights (good_order right rights r)))

-- ---- records up to one

-- those that are not above low stand first
abbrev Begins : List ℕ → List (List ℕ) → Type 0
Begins low xs = (more : List (List ℕ)) × (xs ≡ up_to low xs ++ more)

begins : (low prev : List ℕ) (xs : List (List ℕ)) → InOrder Archive prev xs → Begins low xs
begins low prev [] a = ([], refl)
begins low prev (x ∷ xs) a = elim (cases_Bool (may_follow Archive low x)) [
  | inl e ↦ (x ∷ xs, rw (up_to-none low (x ∷ xs) (λ z c. all_above low z (x ∷ xs) (a.0, e, a.2) c)) refl)
  | inr e ↦ let n = begins low x xs a.2 in (n.0, rw e (ap (λ (t : List (List ℕ)). x ∷ t) n.1))
]

-- what is written where a side stops a merge is a beginning of the text, and not all of it
pub written_first : (left right : List ℕ) (o : Operations) (low bytes : List ℕ) → IsContent o
    → IsWrittenBefore left right o low bytes → (n : ℕ) × (n < length (written o)) × (bytes ≡ take n (written o))
written_first left right o low bytes content (inl w) =
    let first = begun (Some []) (Some []) [] 0 (begun_none (Some []) (Some []) [] 0 refl refl) o (listing o) refl in
    (0, first.within, w.1 ∙ first.gained)
written_first left right o low bytes content (inr w) =
    let front : List (List ℕ) = up_to low (listing o) in
    let n = 8 + length (concat front) in
    let text = Some (magic ++ concat front) in
    let more = begins low [] (listing o) (InOrder-listing o content) in
    let first = begun (Some []) text front n (begun_all (Some []) text front n refl refl) o more.0 more.1 in
    (n, first.within, w.2 ∙ first.gained)

pub written_none : (left right : List ℕ) (o : Operations) (low bytes : List ℕ) → IsContent o → IsWrittenBefore left right o low bytes → IsArchiveText bytes → ⊥
written_none left right o low bytes content w t =
    let first = written_first left right o low bytes content w in
    no_text o first.0 content first.1 (subst IsArchiveText first.2 t)

-- ---- what a writer gained

abbrev NoText : Option (List ℕ) → Option (List ℕ) → Type 0
NoText w0 w1 = IfSome w0 (λ _. (bytes : List ℕ) → Appends w0 w1 bytes → IsArchiveText bytes → ⊥)

-- nor is the beginning that a writer gained
pub first_no_text : (w0 w1 : Option (List ℕ)) (o : Operations) (n : ℕ) → IsContent o → WritesFirst w0 w1 (written o) n → NoText w0 w1
first_no_text None w1 o n content w = tt
first_no_text (Some x) None o n content w = λ bytes gained t. gained
first_no_text (Some x) (Some y) o n content w = λ bytes gained t.
    no_text o n content w.within (subst IsArchiveText (append_cancel_left x bytes (take n (written o)) (sym gained ∙ w.gained)) t)

pub text_none : (w0 w1 : Option (List ℕ)) (out : List (List ℕ)) (n : ℕ) → InOrder Archive [] out
    → WritesFirst w0 w1 (text_of Archive (kept out)) n → NoText w0 w1
text_none w0 w1 out n ordered w =
    let made : Operations = content_of (set_of out) in
    let text : text_of Archive (kept out) ≡ written made = sym (written_text made ∙ ap (text_of Archive) (kept_records out ordered)) in
    first_no_text w0 w1 made n (made_content (set_of out) (are_records out ordered)) (subst (λ (t : List ℕ). WritesFirst w0 w1 t n) text w)
