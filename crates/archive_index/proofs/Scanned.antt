-- What a plain archive tells as it goes through its operations.
use Rattle.std.proofs.Common.{◌≡◌, ◌+◌, ℕ, Bool, true, false, List, [], ◌∷◌, ◌<◌, length, take, slice_index_or, map, filter, ◌++◌, refl, sym, ap, ◌∙◌, subst}
use Rattle.std.specs.List.Sorted.{IsSorted, IsPermutation}
use Rattle.std.specs.FinSet.{from_list, contains}
use Rattle.std.proofs.lemmas.Slice.Eq.{bytes_eq-Decides}
use Rattle.std.proofs.lemmas.List.Elements.{filter-append}
use Rattle.std.proofs.lemmas.List.{append-nil, take_more}
use Rattle.archive_core.specs.Valid.{key_of}
use Rattle.archive_core.specs.Record.{record_bytes, IsOperation}
use Rattle.archive_core.specs.Content.{Operations, IsContent}
use Rattle.archive_core.specs.Find.{find_cmp, IsFoundUnder, row_of, IsFinds}
use Rattle.archive_index.specs.InnerScan.{is_found_under}
use Rattle.archive_core.specs.InnerHeld.{IsHeld}
use Rattle.archive_core.specs.declared.find.FindRow.{FindRow}
use Rattle.archive_core.specs.declared.operations.Operation.{Operation}
use Rattle.archive_core.specs.declared.operations.Operation.TheVariants.{Admit, Retire}
use Rattle.archive_index.proofs.Held.{content_of_held}
use Rattle.archive_core.proofs.Words.{live_in_content}
use Rattle.archive_core.proofs.Members.{one_with_members}
use Rattle.archive_core.proofs.Told.{find_total, untied_records, told_sorted}

-- the first ones, and one more
pub take_one_more : (operations : List Operation) (i : ℕ) (a : Operation) → i < length operations → a
    ≡ slice_index_or operations i a → take (i + 1) operations ≡ take i operations ++ a ∷ []
take_one_more operations i a lt is = take_more operations i a lt ∙ ap (λ (x : Operation). take i operations ++ x ∷ []) (sym is)

-- the first ones that pass a test, and one more
module _ (test : Operation → Bool) (operations : List Operation) (i : ℕ) (a : Operation) (lt : i < length operations)
    (is : a ≡ slice_index_or operations i a) where
  pub one_kept : (old new : List Operation) (copy : Operation) → test a ≡ true → old ≡ filter test (take i operations)
      → copy ≡ a → new ≡ old ++ copy ∷ [] → new ≡ filter test (take (i + 1) operations)
  one_kept old new copy h old_is copy_is new_is = rw (
    new_is,
    old_is,
    copy_is,
    take_one_more operations i a lt is,
    filter-append test (take i operations) (a ∷ []),
    h,
  ) refl

  pub one_left_out : (old new : List Operation) → test a ≡ false → old ≡ filter test (take i operations) → new ≡ old
      → new ≡ filter test (take (i + 1) operations)
  one_left_out old new h old_is new_is = rw (
    new_is,
    old_is,
    take_one_more operations i a lt is,
    filter-append test (take i operations) (a ∷ []),
    h,
  ) (sym (append-nil (filter test (take i operations))))

-- what is held under the UUID is what a search tells
found_by_test : (o : Operations) (uuid : List ℕ) (a : Operation) → IsContent o → IsOperation a
    → contains o (record_bytes a) ≡ true → is_found_under uuid a ≡ true → IsFoundUnder o uuid a
found_by_test o uuid (Admit slice) content valid there h = ((bytes_eq-Decides (key_of slice).uuid uuid).0 h, live_in_content o slice content valid there)
found_by_test o uuid (Retire key digest) content is there h = ((bytes_eq-Decides key.uuid uuid).0 h, there)

test_of_found : (o : Operations) (uuid : List ℕ) (a : Operation) → IsFoundUnder o uuid a → (contains o (record_bytes a) ≡ true) × (is_found_under uuid a ≡ true)
test_of_found o uuid (Admit slice) h = (h.1.admitted, (bytes_eq-Decides (key_of slice).uuid uuid).1 h.0)
test_of_found o uuid (Retire key digest) h = (h.1, (bytes_eq-Decides key.uuid uuid).1 h.0)

-- the told operations of a plain archive, sorted, are those that a search tells
pub finds_sorted : (o : Operations) (uuid : List ℕ) (operations told : List Operation) → IsHeld operations → from_list (map record_bytes operations) ≡ o
    → IsPermutation (filter (is_found_under uuid) operations) told → IsSorted find_cmp told → IsFinds o uuid (map row_of told)
finds_sorted o uuid operations told held is permuted sorted =
    let are = told_sorted o find_cmp find_total untied_records (is_found_under uuid) (IsFoundUnder o uuid)
    (λ a. found_by_test o uuid a (subst IsContent is (content_of_held operations held))) (test_of_found o uuid)
    operations told held is permuted sorted in
    record { operations = told; ascending = are.ascending; exactly = are.exactly; rows_are = refl }

-- a content and a UUID have one list of rows
pub one_list_of_rows : (o : Operations) (uuid : List ℕ) (rows others : List FindRow) → IsFinds o uuid rows → IsFinds o uuid others → rows ≡ others
one_list_of_rows o uuid rows others f g =
    let one = one_with_members find_total f.operations g.operations f.ascending g.ascending
    (λ a h. (g.exactly a).1 ((f.exactly a).0 h)) (λ a h. (f.exactly a).1 ((g.exactly a).0 h)) in
    f.rows_are ∙ ap (map row_of) one ∙ sym g.rows_are
