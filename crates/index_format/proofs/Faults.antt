-- The fault of a text is one, and the text of an index has none.
use Rattle.std.proofs.Common.{◌≡◌, ℕ, ◌+◌, ◌*◌, List, [], ◌++◌, length, take, refl, sym, ap, ◌∙◌, subst, inl, inr, arith}
use Rattle.std.specs.Prelude.{◌⊎◌, Ok}
use Rattle.std.specs.List.{concat}
use Rattle.std.proofs.lemmas.List.{append-nil}
use Rattle.archive_records.specs.Text.{last_of}
use Rattle.index_format.specs.Fault.{FailsAfter, FailsAtEnd, FailsDigest, FailsInEntries, FailsInBeginning}
use Rattle.index_format.specs.Fault.{FailsInPlaces, HasDigest, IsIndexFault, beginning_offset, check_end}
use Rattle.index_format.specs.Fault.{check_beginning}
use Rattle.index_format.specs.Text.{AreLaid, HasNumbers, IsIndexText, PassChecks, check_entry, count_in, entries_in, first_in, start_in}
use Rattle.index_format.specs.declared.index_fault.IndexFault.{IndexFault}
use Rattle.index_format.proofs.Checks.{IsStop, long_entries, one_front}
use Rattle.index_format.proofs.IndexTexts.{count_is, entries_are, has_digest, numbers_are, start_is}

same_fault : (f g : IndexFault) → f.kind ≡ g.kind → f.offset ≡ g.offset → f ≡ g
same_fault f g p q = λ i. record { kind = p i; offset = q i }

-- ---- entries

none_left : (end : ℕ) (last : List ℕ) → IsStop end last []
none_left end last long h = absurd (omega (arith, long))

whole_rest : (bytes : List ℕ) (xs : List (List ℕ)) → bytes ≡ concat xs → bytes ≡ concat xs ++ []
whole_rest bytes xs e = e ∙ sym (append-nil (concat xs))

stops_there : (end first : ℕ) (bytes : List ℕ) (xs : List (List ℕ)) (f : IndexFault) → (a : FailsAfter end first bytes xs f) → IsStop end (last_of [] xs) a.rest
stops_there end first bytes xs f a long h = cc (a.fails, h)

one_after : (end first : ℕ) (bytes : List ℕ) (xs ys : List (List ℕ)) (f g : IndexFault) → FailsAfter end first bytes xs f
    → FailsAfter end first bytes ys g → f ≡ g
one_after end first bytes xs ys f g a b =
    let same = one_front end [] xs ys bytes a.rest b.rest a.pass b.pass a.whole b.whole (stops_there end first bytes xs f a)
    (stops_there end first bytes ys g b) in
    let checked : check_entry end (last_of [] xs) (take 122 a.rest)
    ≡ check_entry end (last_of [] ys) (take 122 b.rest) =
    λ i. check_entry end (last_of [] (same.0 i)) (take 122 (same.1 i)) in
    let kinds : f.kind ≡ g.kind = cc (a.fails, checked, b.fails) in
    same_fault f g kinds (a.offset_is ∙ (λ i. first + length (concat (same.0 i))) ∙ sym b.offset_is)

not_both : (end first : ℕ) (bytes : List ℕ) (xs ys : List (List ℕ)) (f : IndexFault) → FailsAfter end first bytes xs f
    → PassChecks end [] ys → bytes ≡ concat ys → ⊥
not_both end first bytes xs ys f a pass whole =
    let same = one_front end [] xs ys bytes a.rest [] a.pass pass a.whole (whole_rest bytes ys whole)
    (stops_there end first bytes xs f a) (none_left end (last_of [] ys)) in
    omega (arith, a.long, ap length same.1)

pub same_entries : (end : ℕ) (xs ys : List (List ℕ)) → PassChecks end [] xs → PassChecks end [] ys → concat xs ≡ concat ys → xs ≡ ys
same_entries end xs ys a b e =
    (one_front end [] xs ys (concat xs) [] [] a b (whole_rest (concat xs) xs refl) (whole_rest (concat xs) ys e)
    (none_left end (last_of [] xs)) (none_left end (last_of [] ys))).0

-- ---- the text of an index

module _ (text : List ℕ) (xs : List (List ℕ)) (is : IsIndexText text xs) where
  each : length (concat xs) ≡ 122 * length xs
  each = long_entries (8 + length is.tables) [] xs is.pass

  pub digest_there : HasDigest text
  digest_there = subst HasDigest (sym is.whole) (has_digest is.tables xs is.few is.short each)

  pub start_there : start_in text ≡ 8 + length is.tables
  start_there = ap start_in is.whole ∙ start_is is.tables xs is.few is.short each

  pub count_there : count_in text ≡ length xs
  count_there = ap count_in is.whole ∙ count_is is.tables xs is.few is.short each

  pub entries_there : entries_in text ≡ concat xs
  entries_there = ap entries_in is.whole ∙ entries_are is.tables xs is.few is.short each

  pub pass_there : PassChecks (start_in text) [] xs
  pass_there = subst (λ (n : ℕ). PassChecks n [] xs) (sym start_there) is.pass

  pub numbers_there : HasNumbers text xs
  numbers_there = subst (λ (t : List ℕ). HasNumbers t xs) (sym is.whole) (numbers_are is.tables xs is.few is.short each)

  pub laid_there : AreLaid (start_in text) xs
  laid_there = subst (λ (n : ℕ). AreLaid n xs) (sym start_there) is.laid

no_front : (text : List ℕ) (f : IndexFault) → FailsInBeginning text f → check_beginning text ≡ Ok tt → ⊥
no_front text f a h = cc (a.fails, h)

no_end : (text : List ℕ) (f : IndexFault) → FailsAtEnd text f → check_end text ≡ Ok tt → ⊥
no_end text f a h = cc (a.fails, h)

pub no_fault : (text : List ℕ) (xs : List (List ℕ)) (f : IndexFault) → IsIndexText text xs → IsIndexFault text f → ⊥
no_fault text xs f is (inl a) = no_front text f a (digest_there text xs is).ends.beginning
no_fault text xs f is (inr (inl a)) = no_end text f a (digest_there text xs is).ends.end
no_fault text xs f is (inr (inr (inl a))) = a.other (digest_there text xs is).stored
no_fault text xs f is (inr (inr (inr (inl a)))) = not_both (start_in text) (first_in text) (entries_in text) a.before xs f a.after
    (pass_there text xs is) (entries_there text xs is)
no_fault text xs f is (inr (inr (inr (inr a)))) =
    let same = same_entries (start_in text) xs a.entries (pass_there text xs is) a.pass (sym (entries_there text xs is) ∙ a.whole) in
    a.unlaid (subst (AreLaid (start_in text)) same (laid_there text xs is)) (subst (HasNumbers text) same (numbers_there text xs is))

-- a text is the index with one list of entries
pub one_list : (text : List ℕ) (xs ys : List (List ℕ)) → IsIndexText text xs → IsIndexText text ys → xs ≡ ys
one_list text xs ys a b = same_entries (start_in text) xs ys (pass_there text xs a) (pass_there text ys b)
    (sym (entries_there text xs a) ∙ entries_there text ys b)

-- ---- one fault

abbrev InEntries : List ℕ → IndexFault → Type 0
InEntries text f = FailsInEntries text f ⊎ FailsInPlaces text f

abbrev BehindEnds : List ℕ → IndexFault → Type 0
BehindEnds text f = FailsDigest text f ⊎ InEntries text f

abbrev BehindBeginning : List ℕ → IndexFault → Type 0
BehindBeginning text f = FailsAtEnd text f ⊎ BehindEnds text f

digest_of : (text : List ℕ) (f : IndexFault) → InEntries text f → HasDigest text
digest_of text f (inl a) = a.digest
digest_of text f (inr a) = a.digest

one_in_entries : (text : List ℕ) (f g : IndexFault) → InEntries text f → InEntries text g → f ≡ g
one_in_entries text f g (inl a) (inl b) = one_after (start_in text) (first_in text) (entries_in text) a.before b.before f g a.after b.after
one_in_entries text f g (inl a) (inr b) = absurd (not_both (start_in text) (first_in text) (entries_in text) a.before b.entries f a.after b.pass b.whole)
one_in_entries text f g (inr a) (inl b) = absurd (not_both (start_in text) (first_in text) (entries_in text) b.before a.entries g b.after a.pass a.whole)
one_in_entries text f g (inr a) (inr b) = same_fault f g (a.kind_is ∙ sym b.kind_is) (a.offset_is ∙ sym b.offset_is)

end_of_later : (text : List ℕ) (f : IndexFault) → BehindEnds text f → check_end text ≡ Ok tt
end_of_later text f (inl a) = a.ends.end
end_of_later text f (inr a) = (digest_of text f a).ends.end

one_behind_ends : (text : List ℕ) (f g : IndexFault) → BehindEnds text f → BehindEnds text g → f ≡ g
one_behind_ends text f g (inl a) (inl b) = same_fault f g (a.kind_is ∙ sym b.kind_is) (a.offset_is ∙ sym b.offset_is)
one_behind_ends text f g (inl a) (inr b) = absurd (a.other (digest_of text g b).stored)
one_behind_ends text f g (inr a) (inl b) = absurd (b.other (digest_of text f a).stored)
one_behind_ends text f g (inr a) (inr b) = one_in_entries text f g a b

front_of_later : (text : List ℕ) (f : IndexFault) → BehindBeginning text f → check_beginning text ≡ Ok tt
front_of_later text f (inl a) = a.beginning
front_of_later text f (inr (inl a)) = a.ends.beginning
front_of_later text f (inr (inr a)) = (digest_of text f a).ends.beginning

one_behind_front : (text : List ℕ) (f g : IndexFault) → BehindBeginning text f → BehindBeginning text g → f ≡ g
one_behind_front text f g (inl a) (inl b) =
    let kinds : f.kind ≡ g.kind = cc (a.fails, b.fails) in
    same_fault f g kinds (a.offset_is ∙ sym b.offset_is)
one_behind_front text f g (inl a) (inr b) = absurd (no_end text f a (end_of_later text g b))
one_behind_front text f g (inr a) (inl b) = absurd (no_end text g b (end_of_later text f a))
one_behind_front text f g (inr a) (inr b) = one_behind_ends text f g a b

pub one_fault : (text : List ℕ) (f g : IndexFault) → IsIndexFault text f → IsIndexFault text g → f ≡ g
one_fault text f g (inl a) (inl b) =
    let kinds : f.kind ≡ g.kind = cc (a.fails, b.fails) in
    same_fault f g kinds (a.offset_is ∙ ap (beginning_offset text) kinds ∙ sym b.offset_is)
one_fault text f g (inl a) (inr b) = absurd (no_front text f a (front_of_later text g b))
one_fault text f g (inr a) (inl b) = absurd (no_front text g b (front_of_later text f a))
one_fault text f g (inr a) (inr b) = one_behind_front text f g a b
