-- Ascending records and the set of them.
use Rattle.std.proofs.Common.{◌≡◌, ◌↔◌, ℕ, true, false, ◌||◌, List, [], ◌∷◌, ◌++◌, Some, refl, sym, ap, ◌∙◌, subst, arith}
use Rattle.std.specs.declared.cmp.Ordering.{Ordering}
use Rattle.std.specs.declared.cmp.Ordering.TheVariants.{Less}
use Rattle.std.specs.Ordering.{nat_cmp, is_eq, eq_by_cmp}
use Rattle.std.specs.Cmp.{tied_itself, Equal-is, both_ways}
use Rattle.std.specs.Cmp.Lexicographic.{slice_cmp, nat_list_cmp_total}
use Rattle.std.specs.List.{concat, list_any, AllByRecursion, Contains}
use Rattle.std.specs.List.Sorted.{IsStrictlySortedBy}
use Rattle.std.specs.FinSet as set
use Rattle.std.specs.FinSet.{contains-from_list, same_set}
use Rattle.std.proofs.lemmas.Cmp.{eq_by_cmp_equiv}
use Rattle.std.proofs.lemmas.Map.Views.{list_any-from_Contains, Contains-from_any}
use Rattle.std.proofs.lemmas.Bool.{or_right}
use Rattle.join_core.specs.Listing.{listing}
use Rattle.join_core.proofs.Listing.{listed, listing_ascending, one_listing, any_listing}
use Rattle.join_core.proofs.Members.{one_key}
use Rattle.archive_core.specs.Record.{IsRecord}
use Rattle.archive_core.specs.Summary.{Entries}
use Rattle.archive_records.specs.Entry.{AreEntries}
use Rattle.archive_core.specs.Content.{Operations, IsContent}
use Rattle.archive_core.proofs.Made.{bytes_same}
use Rattle.archive_records.specs.Kind.{magic, summary_magic, IsItem, end_length, allows, may_follow}
use Rattle.archive_records.specs.Text.{end_record, text_of, IsWritten, written, IsSummaryText, summary_text, InOrder, AreApart}
use Rattle.archive_records.proofs.Holds.{holds}
use Rattle.archive_records.proofs.Forms.{item-framed}
use Rattle.archive_records.proofs.Puts.{length_written}
use Rattle.archive_records.specs.declared.format.Format.{Format}
use Rattle.archive_records.specs.declared.format.Format.TheVariants.{Archive, Summary}

abbrev pub order : List ℕ → List ℕ → Ordering
order = slice_cmp nat_cmp

all_below : (low x : List ℕ) (xs : List (List ℕ)) → order low x ≡ Less → AllByRecursion (λ y. order x y ≡ Less) xs → AllByRecursion (λ y. order low y ≡ Less) xs
all_below low x [] e h = tt
all_below low x (y ∷ ys) e h = (nat_list_cmp_total.trans low x y e h.0, all_below low x ys e h.1)

-- what holds of each member holds along the list
pub along : (P : List ℕ → Type 0) (xs : List (List ℕ)) → ((q : List ℕ) → list_any (eq_by_cmp order q) xs ≡ true → P q) → AllByRecursion P xs
along P [] h = tt
along P (x ∷ xs) h = (
  h x (ap (λ r. is_eq r || list_any (eq_by_cmp order x) xs) (tied_itself nat_list_cmp_total x)),
  along P xs (λ q e. h q (or_right (eq_by_cmp order q x) (list_any (eq_by_cmp order q) xs) e)),
)

-- and of each member, where it holds along the list
pub each : (P : List ℕ → Type 0) (xs : List (List ℕ)) (q : List ℕ) → AllByRecursion P xs → list_any (eq_by_cmp order q) xs ≡ true → P q
each P [] q all e = absurd cc
each P (x ∷ xs) q all e = elim (eq_by_cmp order q x) as (λ b. eq_by_cmp order q x ≡ b → (b || list_any (eq_by_cmp order q) xs) ≡ true → P q) [
  | true ↦ λ h _. subst P (sym (bytes_same q x ((Equal-is (order q x)).0 h))) all.0
  | false ↦ λ _ rest. each P xs q all.1 rest
] refl e

pub items_of : (file : Format) (low : List ℕ) (xs : List (List ℕ)) → InOrder file low xs → AllByRecursion (IsItem file) xs
items_of file low [] a = tt
items_of file low (x ∷ xs) a = (a.0, items_of file x xs a.2)

-- a file whose items ascend
module _ (file : Format) (end : end_length file ≡ Some 9) where
  below_is : (a b : List ℕ) → may_follow file a b ≡ true → order a b ≡ Less
  unfolding may_follow allows
  below_is a b e = grind arith

  is_below : (a b : List ℕ) → order a b ≡ Less → may_follow file a b ≡ true
  unfolding may_follow allows
  is_below a b e = grind arith

  -- items that ascend are strictly sorted, and above what they are above
  sorted_items : (low : List ℕ) (xs : List (List ℕ)) → InOrder file low xs → AllByRecursion (λ y. order low y ≡ Less) xs × IsStrictlySortedBy order xs
  unfolding IsStrictlySortedBy
  sorted_items low [] a = (tt, tt)
  sorted_items low (x ∷ xs) a =
      let rest = sorted_items x xs a.2 in
      let lt = below_is low x a.1 in
      ((lt, all_below low x xs lt rest.0), rest)

  -- strictly sorted items ascend
  InOrder-sorted : (low : List ℕ) (xs : List (List ℕ)) → AllByRecursion (IsItem file) xs
      → AllByRecursion (λ y. order low y ≡ Less) xs → IsStrictlySortedBy order xs → InOrder file low xs
  unfolding IsStrictlySortedBy
  InOrder-sorted low [] r b s = tt
  InOrder-sorted low (x ∷ xs) r b s = (r.0, is_below low x b.0, InOrder-sorted x xs r.1 s.0 s.1)

  above_empty : (x : List ℕ) → IsItem file x → order [] x ≡ Less
  above_empty [] r = absurd (omega (arith, (holds file [] 0 (item-framed file [] r)).one))
  above_empty (b ∷ bs) r = refl

  all_above_empty : (xs : List (List ℕ)) → AllByRecursion (IsItem file) xs → AllByRecursion (λ y. order [] y ≡ Less) xs
  all_above_empty [] r = tt
  all_above_empty (x ∷ xs) r = (above_empty x r.0, all_above_empty xs r.1)

  -- the members of a set of items, in their order
  InOrder-members : (s : Operations) → ((q : List ℕ) → set.contains s q ≡ true → IsItem file q) → InOrder file [] (listing s)
  InOrder-members s items =
      let each : AllByRecursion (IsItem file) (listing s) = along (IsItem file) (listing s) (λ q e. items q (sym (any_listing nat_list_cmp_total s q) ∙ e)) in
      InOrder-sorted [] (listing s) each (all_above_empty (listing s) each) (listed nat_list_cmp_total bytes_same s).ascending

  members_are_items : (xs : List (List ℕ)) → InOrder file [] xs → (q : List ℕ) → set.contains (set.from_list {R = order} xs) q ≡ true → IsItem file q
  members_are_items xs a q e = each (IsItem file) xs q (items_of file [] xs a) (sym (contains-from_list nat_list_cmp_total xs q) ∙ e)

pub sorted-InOrder : (low : List ℕ) (xs : List (List ℕ)) → InOrder Archive low xs → AllByRecursion (λ y. order low y ≡ Less) xs × IsStrictlySortedBy order xs
sorted-InOrder = sorted_items Archive refl

pub sorted-entries : (low : List ℕ) (xs : List (List ℕ)) → InOrder Summary low xs → AllByRecursion (λ y. order low y ≡ Less) xs × IsStrictlySortedBy order xs
sorted-entries = sorted_items Summary refl

-- the records of a content ascend
pub InOrder-listing : (o : Operations) → IsContent o → InOrder Archive [] (listing o)
InOrder-listing o c = InOrder-members Archive refl o c.records

pub IsContent-records : (xs : List (List ℕ)) → InOrder Archive [] xs → AreApart Archive xs → IsContent (set.from_list xs)
IsContent-records xs a apart = record { itself = apart; records = members_are_items Archive refl xs a }

-- the same of a set that need not make itself
pub InOrder-set : (o : Operations) → ((r : List ℕ) → set.contains o r ≡ true → IsRecord r) → InOrder Archive [] (listing o)
InOrder-set o are = InOrder-members Archive refl o are

pub are_records : (xs : List (List ℕ)) → InOrder Archive [] xs → (r : List ℕ) → set.contains (set.from_list {R = order} xs) r ≡ true → IsRecord r
are_records xs a = members_are_items Archive refl xs a

-- and so do the entries of a summary
pub InOrder-entries : (s : Entries) → AreEntries s → InOrder Summary [] (listing s)
InOrder-entries s are = InOrder-members Summary refl s are

pub AreEntries-entries : (xs : List (List ℕ)) → InOrder Summary [] xs → AreEntries (set.from_list xs)
AreEntries-entries xs a = members_are_items Summary refl xs a

pub summary_text_is : (s : Entries) → summary_text s ≡ text_of Summary (listing s)
unfolding summary_text
summary_text_is s = ap (λ n. summary_magic ++ (concat (listing s) ++ end_record n)) (sym (length_written s))

pub summary_text-entries : (xs : List (List ℕ)) → InOrder Summary [] xs → summary_text (set.from_list xs) ≡ text_of Summary xs
summary_text-entries xs a = summary_text_is (set.from_list xs)
    ∙ ap (text_of Summary) (listing_ascending nat_list_cmp_total bytes_same xs (sorted-entries [] xs a).1)

-- the text of the set is that of the records
pub written_text : (o : Operations) → written o ≡ text_of Archive (listing o)
unfolding written
written_text o = ap (λ n. magic ++ (concat (listing o) ++ end_record n)) (sym (length_written o))

pub written-records : (xs : List (List ℕ)) → InOrder Archive [] xs → written (set.from_list xs) ≡ text_of Archive xs
written-records xs a = written_text (set.from_list xs) ∙ ap (text_of Archive) (listing_ascending nat_list_cmp_total bytes_same xs (sorted-InOrder [] xs a).1)

-- a content is the set of its records
pub content_is : (o : Operations) → o ≡ set.from_list (listing o)
content_is o = (listed nat_list_cmp_total bytes_same o).same

-- ---- the one text

pub same_bytes : (x y : List ℕ) → eq_by_cmp order x y ≡ true → x ≡ y
same_bytes = one_key nat_list_cmp_total bytes_same

pub contained : (xs : List (List ℕ)) (q : List ℕ) → Contains xs q → list_any (eq_by_cmp order q) xs ≡ true
contained xs q h = list_any-from_Contains (eq_by_cmp_equiv nat_list_cmp_total) q xs h

pub containing : (xs : List (List ℕ)) (q : List ℕ) → list_any (eq_by_cmp order q) xs ≡ true → Contains xs q
containing xs q h = Contains-from_any same_bytes q xs h

-- an ascending list with the members of a set is its listing
pub listing_is : (o : Operations) (records : List (List ℕ)) → IsStrictlySortedBy order records
    → ((r : List ℕ) → Contains records r ↔ (set.contains o r ≡ true)) → listing o ≡ records
listing_is o records ascending members =
    let same : o ≡ set.from_list records = same_set nat_list_cmp_total bytes_same o (set.from_list records) (λ q.
    both_ways (set.contains o q) (list_any (eq_by_cmp order q) records) (λ h. contained records q ((members q).1 h))
    (λ h. (members q).0 (containing records q h)) ∙ sym (contains-from_list nat_list_cmp_total records q)) in
    one_listing nat_list_cmp_total bytes_same o records (record { ascending = ascending; same = same })

pub members_listed : (o : Operations) (q : List ℕ) → Contains (listing o) q ↔ (set.contains o q ≡ true)
members_listed o q = (
  λ h. sym (any_listing nat_list_cmp_total o q) ∙ contained (listing o) q h,
  λ h. containing (listing o) q (any_listing nat_list_cmp_total o q ∙ h),
)

pub one_text : (o : Operations) (text : List ℕ) → IsWritten o text → text ≡ written o
one_text o text w = w.whole ∙ sym (ap (text_of Archive) (listing_is o w.records w.ascending w.members)) ∙ sym (written_text o)

pub text_written : (o : Operations) (text : List ℕ) → text ≡ written o → IsWritten o text
text_written o text e = record {
  records = listing o;
  ascending = (listed nat_list_cmp_total bytes_same o).ascending;
  members = members_listed o;
  whole = e ∙ written_text o;
}

pub one_summary_text : (s : Entries) (text : List ℕ) → IsSummaryText s text → text ≡ summary_text s
one_summary_text s text w = w.whole ∙ sym (ap (text_of Summary) (listing_is s w.entries w.ascending w.members)) ∙ sym (summary_text_is s)

pub text_of_summary : (s : Entries) (text : List ℕ) → text ≡ summary_text s → IsSummaryText s text
text_of_summary s text e = record {
  entries = listing s;
  ascending = (listed nat_list_cmp_total bytes_same s).ascending;
  members = members_listed s;
  whole = e ∙ summary_text_is s;
}
