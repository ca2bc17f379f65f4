-- What a merge told of its sides, once it ended.
use Rattle.std.proofs.Common.{◌≡◌, ℕ, Bool, not, ◌&&◌, List, [], ◌∷◌, ◌++◌, map, arith, Option, Some, None, refl, sym, ap, ◌∙◌, subst, inl, inr, IfSome}
use Rattle.std.proofs.lemmas.List.{append-nil}
use Rattle.std.specs.List.{filter, list_any}
use Rattle.std.specs.FinSet as set
use Rattle.std.specs.Io.KnownBytes.{Consumes, IsAtEnd}
use Rattle.join_core.specs.Listing.{listing}
use Rattle.byte_device.specs.Devices.{Stream}
use Rattle.archive_core.specs.Content.{Operations, IsContent, IsMade, content_of, is_admission, is_covered}
use Rattle.archive_core.proofs.Made.{contains_made, covers_same}
use Rattle.archive_records.specs.declared.format.Format.{Format}
use Rattle.archive_records.specs.declared.format.Format.TheVariants.{Archive, OldArchive, Operations as Operations_file, Summary as Summary_file}
use Rattle.archive_records.specs.declared.kind.TextKind.TheVariants.{Archive as Archive_text}
use Rattle.archive_records.specs.declared.writing.Sizes.{Sizes}
use Rattle.archive_records.specs.Kind.{kind_of}
use Rattle.archive_records.specs.Reader.{set_of}
use Rattle.archive_records.specs.Text.{text_of, InOrder, AreApart, IsArchiveOf, kept, taken_of}
use Rattle.archive_records.proofs.Contents.{InOrder-set, are_records, content_is, written-records, written_text}
use Rattle.archive_records.proofs.Exact.{same_records}
use Rattle.archive_records.proofs.Formats.{format_magic, in_order_of, old_in_order}
use Rattle.archive_records.proofs.Versions.{kept_records, listing_of, no_operations, old_written-records, old_written_text}
use Rattle.archive_merge.specs.Merging.{IsUnfailed}
use Rattle.archive_merge.specs.ArrivalMerge.{HasOperations, IsMergedWithArrivals}
use Rattle.archive_merge.specs.declared.arrivals.Arrival.{Arrival}
use Rattle.archive_merge.specs.ArrivalSteps.{ReportsAllArrivals, is_withdrawn}
use Rattle.archive_merge.specs.Arrivals.{arrival_by, arrival_of}
use Rattle.archive_merge.proofs.Fronts.{taken_made, taken_rest}
use Rattle.archive_merge.proofs.Merges.{merged}
use Rattle.archive_merge.proofs.ArrivalTurns.{same_answers}

-- ---- a record is the same to what is made of records

same_arrival : (a b : Bool) → arrival_by b (a && not b) ≡ arrival_by b a
same_arrival a b = grind arith

arrival_made : (o : Operations) (r : List ℕ) → arrival_of (content_of o) r ≡ arrival_of o r
unfolding arrival_of
arrival_made o r = (λ i. arrival_by (is_admission r && covers_same o r i) (contains_made o r i)) ∙ same_arrival (set.contains o r) (is_covered o r)

-- what is retired among what is kept of records
any_kept : (p q : List ℕ → Bool) (xs : List (List ℕ)) → list_any (λ r. p r && q r) xs ≡ list_any p (filter q xs)
any_kept p q [] = refl
any_kept p q (x ∷ xs) = grind (arith, any_kept p q xs)

withdrawn_kept : (xs : List (List ℕ)) (p : Operations) → InOrder Archive [] xs
    → list_any (is_withdrawn (set_of xs) p) xs ≡ list_any (is_covered p) (listing (content_of (set_of xs)))
unfolding kept
withdrawn_kept xs p a = any_kept (is_covered p) (λ r. not (is_covered (set_of xs) r)) xs ∙ ap (list_any (is_covered p)) (sym (kept_records xs a))

-- ---- the operations of a text

of_text : (f : Format) → kind_of f ≡ Archive_text → (xs : List (List ℕ)) → InOrder Archive [] xs → AreApart f xs → HasOperations (set_of xs) (text_of f xs)
of_text Archive k xs a apart = record { are = are_records xs a; whole = inl (apart, sym (written-records xs a)) }
of_text OldArchive k xs a apart = record { are = are_records xs a; whole = inr (sym (old_written-records xs a)) }
of_text Operations_file k xs a apart = cc
of_text Summary_file k xs a apart = cc

of_taken : (a b : Option (List ℕ)) (o : Operations) (text : List ℕ) → Consumes a b text → IsAtEnd b → HasOperations o text → IfSome a (HasOperations o)
of_taken None b o text taken end has = tt
of_taken (Some t) b o text taken end has =
    let k = taken_rest t text b taken in
    subst (HasOperations o) (sym (k.1 ∙ ap (λ (x : List ℕ). text ++ x) (k.2 end) ∙ append-nil text)) has

-- a text that is read in this format has these records
record Formed (o : Operations) (text : List ℕ) : Type 0 where
  format : Format
  archive : kind_of format ≡ Archive_text
  ordered : InOrder format [] (listing o)
  apart : AreApart format (listing o)
  whole : text ≡ text_of format (listing o)

formed : (o : Operations) (text : List ℕ) → HasOperations o text → Formed o text
formed o text has = elim has.whole [
  | inl w ↦ record { format = Archive; archive = refl; ordered = InOrder-set o has.are; apart = subst IsMade (content_is o) w.0; whole = w.1 ∙ written_text o }
  | inr old ↦ record {
    format = OldArchive;
    archive = refl;
    ordered =
        old_in_order [] (listing o) (InOrder-set o has.are);
    apart = tt;
    whole = old ∙ old_written_text o;
  }
]

-- so it has one set of operations
pub one_set : (text : List ℕ) (o p : Operations) → HasOperations o text → HasOperations p text → o ≡ p
one_set text o p has other =
    let f = formed o text has in
    let g = formed p text other in
    let is : f.format ≡ g.format = sym (format_magic f.format f.archive text _ f.whole) ∙ format_magic g.format g.archive text _ g.whole in
    let mine : text ≡ text_of g.format (listing o) ++ [] = f.whole ∙ ap (λ (k : Format). text_of k (listing o)) is
    ∙ sym (append-nil (text_of g.format (listing o))) in
    let others : text ≡ text_of g.format (listing p) ++ [] = g.whole ∙ sym (append-nil (text_of g.format (listing p))) in
    let lists = same_records g.format text (listing p) [] g.ordered g.apart others
    (λ k. absurd (no_operations g.format g.archive k)) (listing o) [] (rw (← is) f.ordered) (rw (← is) f.apart)
    (λ k. absurd (no_operations g.format g.archive k)) mine in
    content_is o ∙ ap set_of lists.0 ∙ sym (content_is p)

-- ---- what was told

module _ {R S W : Type 0} (left : Stream R) (right : Stream S) (out : Stream W) (sizes : Sizes) (arrivals : List Arrival) (withdraws : Bool) where
  pub merged_telling : ReportsAllArrivals (left.bytes left.old) (left.bytes left.new) (right.bytes right.old)
      (right.bytes right.new) (out.bytes out.old) (out.bytes out.new) sizes arrivals withdraws
      → IsUnfailed left × IsUnfailed right × IsUnfailed out → IsMergedWithArrivals left right out sizes arrivals withdraws
  unfolding merged
  merged_telling t unfailed =
      let m = t.merged.merging.both in
      let f : Format = t.merged.sides.left.reader.file in
      let l = m.left.ended t.merged.ended.left in
      let r = m.right.ended t.merged.ended.right in
      let lefts_in : InOrder Archive [] m.lefts = in_order_of f m.left.archive [] m.lefts l.0.ordered in
      let rights_in : InOrder Archive [] m.rights = in_order_of t.merged.sides.right.reader.file m.right.archive [] m.rights r.0.ordered in
      let taken : set_of (taken_of f m.lefts) ≡ content_of (set_of m.lefts) = taken_made f m.left.archive m.lefts lefts_in l.0.apart in
      record {
        merged = merged left right out sizes t.merged unfailed;
        operations = set_of m.rights;
        are = are_records m.rights rights_in;
        right_is = of_taken (right.bytes right.old) (right.bytes right.new) (set_of m.rights)
            (text_of t.merged.sides.right.reader.file m.rights) r.0.taken r.1
            (of_text t.merged.sides.right.reader.file m.right.archive m.rights rights_in r.0.apart);
        makes = taken_made t.merged.sides.right.reader.file m.right.archive m.rights rights_in r.0.apart;
        arrivals_are = t.arrivals_are
            ∙ same_answers (arrival_of (set_of m.lefts)) (arrival_of (set_of (taken_of f m.lefts))) m.rights
            (λ x _. sym (arrival_made (set_of m.lefts) x) ∙ ap (λ (o : Operations). arrival_of o x) (sym taken))
            ∙ ap (map (arrival_of (set_of (taken_of f m.lefts)))) (sym (listing_of m.rights rights_in));
        withdraws_is = t.withdraws_is ∙ withdrawn_kept m.lefts (set_of m.rights) lefts_in
            ∙ ap (λ (o : Operations). list_any (is_covered (set_of m.rights)) (listing o)) (sym taken);
      }

-- of texts that are known it was told of their operations
module _ (P : Operations → Operations → Type 0) where
  abbrev ToldOfTexts : Option (List ℕ) → Option (List ℕ) → Type 0
  ToldOfTexts a1 a2 = IfSome a1 (λ t. IfSome a2 (λ u. (o p : Operations) → IsContent o → IsArchiveOf o t → HasOperations p u → P o p))

  told_by : (o operations : Operations) → P o operations → (a1 a2 : Option (List ℕ))
      → IfSome a1 (λ t. (other : Operations) → IsContent other → IsArchiveOf other t → o ≡ other)
      → IfSome a2 (HasOperations operations) → ToldOfTexts a1 a2
  told_by o operations is None a2 alone has = tt
  told_by o operations is (Some t) None alone has = tt
  told_by o operations is (Some t) (Some u) alone has = λ q p content text other. rw (← alone q content text, ← one_set u operations p has other) is

module _ {R S W : Type 0} (left : Stream R) (right : Stream S) (out : Stream W) (sizes : Sizes)
    (arrivals : List Arrival) (withdraws : Bool) (told : ReportsAllArrivals (left.bytes left.old) (left.bytes left.new)
    (right.bytes right.old) (right.bytes right.new) (out.bytes out.old) (out.bytes out.new) sizes arrivals withdraws)
    (unfailed : IsUnfailed left × IsUnfailed right × IsUnfailed out) where
  pub arrivals_of_texts : ToldOfTexts (λ o p. arrivals ≡ map (arrival_of o) (listing p)) (left.bytes left.old) (right.bytes right.old)
  arrivals_of_texts =
      let t = merged_telling left right out sizes arrivals withdraws told unfailed in
      told_by (λ o p. arrivals ≡ map (arrival_of o) (listing p)) t.merged.o t.operations t.arrivals_are
      (left.bytes left.old) (right.bytes right.old) t.merged.left_is.alone t.right_is

  pub withdraws_of_texts : ToldOfTexts (λ o p. withdraws ≡ list_any (is_covered p) (listing o)) (left.bytes left.old) (right.bytes right.old)
  withdraws_of_texts =
      let t = merged_telling left right out sizes arrivals withdraws told unfailed in
      told_by (λ o p. withdraws ≡ list_any (is_covered p) (listing o)) t.merged.o t.operations t.withdraws_is
      (left.bytes left.old) (right.bytes right.old) t.merged.left_is.alone t.right_is
