-- What is held by the indexes of contents is what the contents have.
use Rattle.std.proofs.Common.{◌≡◌, ℕ, ◌<◌, ◌≤◌, ◌^◌, Bool, true, false, ◌||◌, ◌&&◌, List, [], ◌∷◌, length, Contains}
use Rattle.std.proofs.Common.{refl, sym, ap, ◌∙◌, subst, inl, inr, ◌⊎◌, arith}
use Rattle.std.specs.Prelude.{fold}
use Rattle.std.specs.List.{AllByRecursion, AllZip, list_any}
use Rattle.std.specs.List.Sorted.{IsPermutation}
use Rattle.std.specs.Cmp.Lexicographic.{nat_list_cmp_total}
use Rattle.std.proofs.lemmas.List.Elements.{All-contains, All-from_recursion}
use Rattle.std.specs.FinSet as set
use Rattle.std.specs.FinSet.{contains-union, same_set}
use Rattle.archive_core.specs.Content.{IsContent, Operations, content_of, joined}
use Rattle.archive_core.specs.Part.{AreAlikeUnder, is_under, part}
use Rattle.archive_core.specs.Record.{admission_record}
use Rattle.archive_core.specs.declared.find.FindRow.{FindRow}
use Rattle.archive_core.proofs.Made.{alike_union, bytes_same, joined_content, joined_made_right, made_alike, made_is_alike, union_assoc}
use Rattle.archive_core.proofs.Picked.{contains_part, part_alike, part_content}
use Rattle.archive_records.specs.Text.{written}
use Rattle.index_format.specs.Index.{index}
use Rattle.index_format.specs.Paged.{only}
use Rattle.index_format.specs.Places.{AreNamed, IsNamedBy, TellsFound, entries_under}
use Rattle.index_format.proofs.Named.{of_the_index, right}
use Rattle.index_format.specs.Text.{placed_in}
use Rattle.index_format.specs.Tree.{is_under_one}
use Rattle.join_core.specs.Listing.{listing}
use Rattle.command_common.proofs.Parts.{joined_alike}
use Rattle.command_common.specs.Archives.{merged}
use Rattle.command_common.specs.Inputs.{IsGiven, Reader}
use Rattle.laws_index.specs.Indexes.{AreUnderOne, IsIndexFile, all_joined}
use Rattle.laws_index.proofs.Joined.{empty_content, to_any}
use Rattle.laws_index.proofs.IndexesAreRight.{zip_right}
use Rattle.command_given_indexes.specs.Prefixes.{AreNamedUnder, HoldsNamed}
use Rattle.command_given_indexes.specs.Rows.{AreIndexRows}
use Rattle.command_given_indexes.specs.Several.{HoldTogether}
use Rattle.command_given_indexes.specs.Together.{IsLater, IsReadWith, merged_each}
use Rattle.laws_index.specs.Contents.{AreIndexed, DigestsDifferOver, IsIndexGiven, IsIndexed}
use Rattle.laws_index.proofs.Accepted.{for_first, held_part, of_given, still_given, third_fourth, with_fourth}
use Rattle.laws_index.proofs.Parts.{part_of, placed_whole, under_only, whole_of}

-- a record is under one of these prefixes
abbrev is_under_any : List (List ℕ) → List ℕ → Bool
is_under_any prefixes r = list_any (λ (prefix : List ℕ). is_under prefix r) prefixes

-- ---- parts of a content, joined

both_and : (c p q : Bool) → ((c && p) || (c && q)) ≡ (c && (p || q))
both_and c p q = grind arith

or_assoc : (a b c : Bool) → ((a || b) || c) ≡ (a || (b || c))
or_assoc a b c = grind arith

or_none : (a : Bool) → (a || false) ≡ a
or_none a = grind arith

module _ (o : Operations) (content : IsContent o) where
  part_same : (p q : List ℕ → Bool) → ((r : List ℕ) → p r ≡ q r) → part o p ≡ part o q
  part_same p q same = same_set nat_list_cmp_total bytes_same (part o p) (part o q)
      (λ r. contains_part o p r ∙ ap (λ (b : Bool). set.contains o r && b) (same r) ∙ sym (contains_part o q r))

  parts_joined : (p q : List ℕ → Bool) → joined (part o p) (part o q) ≡ part o (λ r. p r || q r)
  parts_joined p q =
      let picks : List ℕ → Bool = λ (r : List ℕ). p r || q r in
      let one : set.union (part o p) (part o q) ≡ part o picks = same_set nat_list_cmp_total bytes_same (set.union (part o p) (part o q)) (part o picks) (λ r.
      contains-union nat_list_cmp_total (part o p) (part o q) r ∙ (λ i. contains_part o p r i || contains_part o q r i)
      ∙ both_and (set.contains o r) (p r) (q r) ∙ sym (contains_part o picks r)) in
      ap content_of one ∙ (part_content o picks content).itself

-- ---- what was named is what the content has

found_tells : (o : Operations) (prefix bytes : List ℕ) (entries : List (List ℕ)) (p : Operations) → DigestsDifferOver o bytes
    → (n : AreNamed prefix entries bytes p) → TellsFound o n.records
found_tells o prefix bytes entries p tells n = λ a b in_o found same.
    let named = zip_right (IsNamedBy bytes) _ n.records (admission_record b) n.named found in
    tells a b named.1.offset in_o (named.1.stands refl) same

module _ (o : Operations) (content : IsContent o) where
  zip_along : (P Q : List ℕ → Operations → Type 0) (prefixes : List (List ℕ)) (parts : List Operations)
      → AllByRecursion (λ (f : List ℕ). length f ≤ 24) prefixes
      → ((f : List ℕ) (q : Operations) → length f ≤ 24 → P f q → Q f q) → AllZip P prefixes parts
      → AllZip Q prefixes parts
  zip_along P Q [] [] short more zip = tt
  zip_along P Q (f ∷ fs) (q ∷ qs) short more zip = (more f q short.0 zip.0, zip_along P Q fs qs short.1 more zip.1)
  zip_along P Q prefixes parts short more zip = absurd zip

  -- in the text that the index is of
  pub parts_right : (prefixes : List (List ℕ)) (parts : List Operations) → length (written o) < 2 ^ 64
      → AllByRecursion (λ (f : List ℕ). length f ≤ 24) prefixes → AreNamedUnder prefixes (listing (index o)) (written o) parts
      → AllZip (λ (f : List ℕ) (q : Operations). q ≡ part o (is_under f)) prefixes parts
  parts_right prefixes parts fits short named = zip_along (λ f q. AreNamed f (listing (index o)) (written o) q)
      (λ f q. q ≡ part o (is_under f)) prefixes parts short (λ f q le n. right f o q le content fits n) named

  -- in any bytes
  pub parts_told : (prefixes : List (List ℕ)) (parts : List Operations) (bytes : List ℕ) → DigestsDifferOver o bytes
      → AllByRecursion (λ (f : List ℕ). length f ≤ 24) prefixes → AreNamedUnder prefixes (listing (index o)) bytes parts
      → AllZip (λ (f : List ℕ) (q : Operations). q ≡ part o (is_under f)) prefixes parts
  parts_told prefixes parts bytes tells short named = zip_along (λ f q. AreNamed f (listing (index o)) bytes q)
      (λ f q. q ≡ part o (is_under f)) prefixes parts short
      (λ f q le n. of_the_index f bytes o q le content n (found_tells o f bytes (listing (index o)) q tells n)) named

-- ---- joined to others

joined_assoc : (a b c : Operations) → joined (joined a b) c ≡ joined a (joined b c)
joined_assoc a b c =
    made_alike (set.union (content_of (set.union a b)) c) (set.union (set.union a b) c)
    (alike_union (content_of (set.union a b)) (set.union a b) c (made_is_alike (set.union a b)))
    ∙ ap content_of (union_assoc a b c) ∙ sym (joined_made_right a (set.union b c))

module _ (w : Operations) (content : IsContent w) where
  abbrev IsPart : List ℕ → Operations → Type 0
  IsPart f q = q ≡ part w (is_under f)

  merged_after : (few : Operations) (p picks : List ℕ → Bool) (prefixes : List (List ℕ)) (parts : List Operations) → AllZip IsPart prefixes parts
      → ((r : List ℕ) → picks r ≡ (p r || list_any (λ (prefix : List ℕ). is_under prefix r) prefixes))
      → merged (joined few (part w p)) parts ≡ joined few (part w picks)
  merged_after few p picks [] [] are same = ap (joined few) (part_same w content p picks (λ r. sym (same r ∙ or_none (p r))))
  merged_after few p picks (f ∷ fs) (q ∷ qs) are same =
      let both : List ℕ → Bool = λ (r : List ℕ). p r || is_under f r in
      ap (λ (m : Operations). merged m qs) (joined_assoc few (part w p) q
      ∙ ap (joined few) (ap (joined (part w p)) are.0 ∙ parts_joined w content p (is_under f)))
      ∙ merged_after few both picks fs qs are.1 (λ r. same r ∙ sym (or_assoc (p r) (is_under f r) (list_any (λ (prefix : List ℕ). is_under prefix r) fs)))
  merged_after few p picks prefixes parts are same = absurd are

  merged_some : (few : Operations) (prefixes : List (List ℕ)) (parts : List Operations) (prefix : List ℕ)
      → Contains prefixes prefix → AllZip IsPart prefixes parts → merged few parts
      ≡ joined few (part w (is_under_any prefixes))
  merged_some few [] parts prefix in_prefixes are = absurd (omega (arith, in_prefixes.1))
  merged_some few (f ∷ fs) [] prefix in_prefixes are = absurd are
  merged_some few (f ∷ fs) (q ∷ qs) prefix in_prefixes are =
      ap (λ (m : Operations). merged (joined few m) qs) are.0 ∙ merged_after few (is_under f) (is_under_any (f ∷ fs)) fs qs are.1 (λ r. refl)

  group_alike : (prefix : List ℕ) (prefixes : List (List ℕ)) (few o : Operations) (parts : List Operations)
      → length prefix ≤ 24 → Contains prefixes prefix → IsContent o → AllZip IsPart prefixes parts
      → AreAlikeUnder prefix few o → AreAlikeUnder prefix (merged few parts) (joined o w)
  group_alike prefix prefixes few o parts short in_prefixes is are same =
      subst (λ (m : Operations). AreAlikeUnder prefix m (joined o w)) (sym (merged_some few prefixes parts prefix in_prefixes are))
      (joined_alike prefix short o w few (part w (is_under_any prefixes)) is content same
      (part_alike w (is_under_any prefixes) prefix (λ r under. to_any (λ (f : List ℕ). is_under f r) prefixes prefix in_prefixes under)))

-- ---- the archive of an index

-- prefixes of at most 24 bytes, of which each entry is under one of these UUIDs
abbrev pub AreAskedUnder : List (List ℕ) → List (List ℕ) → Type 0
AreAskedUnder uuids prefixes = AllByRecursion (λ (f : List ℕ). (length f ≤ 24) × AreUnderOne uuids f) prefixes

short_each : (uuids prefixes : List (List ℕ)) → AreAskedUnder uuids prefixes → AllByRecursion (λ (f : List ℕ). length f ≤ 24) prefixes
short_each uuids [] asked = tt
short_each uuids (f ∷ fs) asked = (asked.0.0, short_each uuids fs asked.1)

-- of the entries of the index of a content these were read, and its archive is its text, or has bytes over which digests
-- tell
record IsHeldAs {P : Type 0} (uuids : List (List ℕ)) (archive : Reader P) (all : List (List ℕ)) (o : Operations) : Type 0 where
  text : List ℕ
  file : IsIndexFile o text
  some : all ≡ only (is_under_one uuids) (whole_of o text file)
  known : IsGiven archive (written o) ⊎ ((bytes : List ℕ) × IsGiven archive bytes × DigestsDifferOver o bytes)

held_as : {I P : Type 0} (uuids : List (List ℕ)) (input : Reader I) (archive : Reader P) (o : Operations) (all : List (List ℕ))
    → IsIndexed input archive o → IsReadWith uuids input archive all → IsHeldAs uuids archive all o
held_as uuids input archive o all ((text, given, file), known) read =
    record {
      text = text;
      file = file;
      some = part_of o text file uuids all (held_part input uuids text all read.size given read.index_is).read;
      known = known;
    }

module _ {P : Type 0} (uuids : List (List ℕ)) (archive later : Reader P) (all : List (List ℕ)) (o : Operations) (is : IsLater archive later) where
  still_known : IsGiven archive (written o) ⊎ ((bytes : List ℕ) × IsGiven archive bytes × DigestsDifferOver o bytes)
      → IsGiven later (written o) ⊎ ((bytes : List ℕ) × IsGiven later bytes × DigestsDifferOver o bytes)
  still_known (inl own) = inl (still_given archive later (written o) is own)
  still_known (inr (bytes, given, tells)) = inr (bytes, still_given archive later bytes is given, tells)

  held_later : IsHeldAs uuids archive all o → IsHeldAs uuids later all o
  held_later held = record { text = held.text; file = held.file; some = held.some; known = still_known held.known }

-- what such entries name is of the content
record IsGroupOf (prefixes : List (List ℕ)) (w : Operations) (parts : List Operations) : Type 0 where
  content : IsContent w
  parts_are : AllZip (λ (f : List ℕ) (q : Operations). q ≡ part w (is_under f)) prefixes parts

-- what the entries that were read name under such prefixes, all entries do
named_by_all : (passes : List ℕ → Bool) (es : List (List ℕ)) (prefix text : List ℕ) (p : Operations) → length prefix ≤ 24
    → ((e : List ℕ) → is_under prefix e ≡ true → passes e ≡ true) → AreNamed prefix (placed_in (only passes es)) text p
    → AreNamed prefix (placed_in es) text p
named_by_all passes es prefix text p short under named = record {
  records = named.records;
  named = subst (λ (xs : List (List ℕ)). AllZip (IsNamedBy text) xs named.records) (under_only passes prefix short under es) named.named;
  made = named.made;
}

named_under_all : (uuids es prefixes : List (List ℕ)) (text : List ℕ) (parts : List Operations) → AreAskedUnder uuids prefixes
    → AreNamedUnder prefixes (placed_in (only (is_under_one uuids) es)) text parts → AreNamedUnder prefixes (placed_in es) text parts
named_under_all uuids es [] text [] asked named = tt
named_under_all uuids es [] text (q ∷ qs) asked named = absurd named
named_under_all uuids es (f ∷ fs) text [] asked named = absurd named
named_under_all uuids es (f ∷ fs) text (q ∷ qs) asked named = (
  named_by_all (is_under_one uuids) es f text q asked.0.0 asked.0.1 named.0,
  named_under_all uuids es fs text qs asked.1 named.1,
)

module _ (uuids prefixes : List (List ℕ)) (asked : AreAskedUnder uuids prefixes) where
  -- of the index of a content
  named_whole : (w : Operations) (text : List ℕ) (file : IsIndexFile w text) (all : List (List ℕ)) (bytes : List ℕ) (parts : List Operations)
      → all ≡ only (is_under_one uuids) (whole_of w text file) → AreNamedUnder prefixes (placed_in all) bytes parts
      → AreNamedUnder prefixes (listing (index w)) bytes parts
  named_whole w text file all bytes parts is named =
      subst (λ (es : List (List ℕ)). AreNamedUnder prefixes es bytes parts) (placed_whole w text file)
      (named_under_all uuids (whole_of w text file) prefixes bytes parts asked
      (subst (λ (es : List (List ℕ)). AreNamedUnder prefixes (placed_in es) bytes parts) is named))

  group_of : {P : Type 0} (archive : Reader P) (all : List (List ℕ)) (w : Operations) (parts : List Operations)
      → IsHeldAs uuids archive all w → HoldsNamed prefixes archive (placed_in all) parts → IsGroupOf prefixes w parts
  group_of archive all w parts held named = record { content = held.file.content; parts_are = by held.known }
    where
      by : IsGiven archive (written w) ⊎ ((bytes : List ℕ) × IsGiven archive bytes × DigestsDifferOver w bytes)
          → AllZip (λ (f : List ℕ) (q : Operations). q ≡ part w (is_under f)) prefixes parts
      by (inl own) =
          let there = of_given archive (written w) (λ t. AreNamedUnder prefixes (placed_in all) t parts) own named in
          parts_right w held.file.content prefixes parts held.file.archive_fits (short_each uuids prefixes asked)
          (named_whole w held.text held.file all (written w) parts held.some there)
      by (inr (bytes, given, tells)) =
          let there = of_given archive bytes (λ t. AreNamedUnder prefixes (placed_in all) t parts) given named in
          parts_told w held.file.content prefixes parts bytes tells (short_each uuids prefixes asked)
          (named_whole w held.text held.file all bytes parts held.some there)

-- ---- one after another

record AreAlikeAfter (prefix : List ℕ) (few o : Operations) : Type 0 where
  alike : AreAlikeUnder prefix few o
  content : IsContent o

module _ (prefix : List ℕ) (prefixes : List (List ℕ)) (le : length prefix ≤ 24) (in_prefixes : Contains prefixes prefix) where
  groups_alike : (os : List Operations) (groups : List (List Operations)) (few o : Operations)
      → AllZip (IsGroupOf prefixes) os groups → AreAlikeAfter prefix few o
      → AreAlikeAfter prefix (merged_each few groups) (fold joined o os)
  groups_alike [] [] few o are same = same
  groups_alike (w ∷ os) (parts ∷ groups) few o are same =
      groups_alike os groups (merged few parts) (joined o w) are.1 (record {
        alike = group_alike w are.0.content prefix prefixes few o parts le in_prefixes same.content are.0.parts_are same.alike;
        content = joined_content o w same.content are.0.content;
      })
  groups_alike os groups few o are same = absurd are

-- what is held together has what the join of the contents has, under each of the prefixes
pub held_alike : {I P : Type 0} (uuids prefixes : List (List ℕ)) (inputs : List (Reader I)) (archives : List (Reader P))
    (os : List Operations) (p : Operations) → AreAskedUnder uuids prefixes
    → AreIndexed inputs archives os → HoldTogether uuids prefixes inputs archives p → (prefix : List ℕ)
    → Contains prefixes prefix → AreAlikeUnder prefix p (all_joined os)
held_alike uuids prefixes inputs archives os p asked are h prefix in_prefixes =
    let le = All-contains (λ (f : List ℕ). length f ≤ 24) prefixes prefix
    (All-from_recursion (λ (f : List ℕ). length f ≤ 24) prefixes (short_each uuids prefixes asked)) in_prefixes in
    let held = with_fourth IsIndexed (IsReadWith uuids) (IsHeldAs uuids) inputs archives os h.all
    (λ x y z w is read. held_as uuids x y z w is read) are h.read in
    let there = for_first (IsHeldAs uuids) IsLater (IsHeldAs uuids) archives h.all os h.later
    (λ x y z w is later. held_later uuids x w y z later is) held h.are_later in
    let groups = third_fourth (IsHeldAs uuids) (λ archive entries parts. HoldsNamed prefixes archive (placed_in entries) parts)
    (IsGroupOf prefixes) h.later h.all os h.named.groups
    (λ x y z w is named. group_of uuids prefixes asked x y z w is named) there h.named.named in
    let whole = groups_alike prefix prefixes le in_prefixes os h.named.groups set.empty set.empty groups
    (record { alike = λ r under. refl; content = empty_content }) in
    subst (λ (m : Operations). AreAlikeUnder prefix m (all_joined os)) (sym h.named.content_is) whole.alike

-- ---- the rows of one index

-- those of the entries that were read under a UUID are those of all entries under it
pub rows_whole : {I P : Type 0} (uuids : List (List ℕ)) (uuid : List ℕ) (input : Reader I) (archive : Reader P) (o : Operations)
    (all : List (List ℕ)) (rows : List FindRow) → length uuid ≤ 24 → AreUnderOne uuids uuid → IsIndexGiven input o
    → IsReadWith uuids input archive all → AreIndexRows uuid (placed_in all) rows → AreIndexRows uuid (listing (index o)) rows
rows_whole uuids uuid input archive o all rows short under (text, given, file) read is =
    let some = part_of o text file uuids all (held_part input uuids text all read.size given read.index_is).read in
    let same : entries_under uuid (placed_in all) ≡ entries_under uuid (listing (index o)) =
    ap (λ (es : List (List ℕ)). entries_under uuid (placed_in es)) some
    ∙ under_only (is_under_one uuids) uuid short under (whole_of o text file)
    ∙ ap (λ (es : List (List ℕ)). entries_under uuid es) (placed_whole o text file) in
    record {
      placed = is.placed;
      moved = subst (λ (es : List (List ℕ)). IsPermutation es is.placed) same is.moved;
      by_offset = is.by_offset;
      told = is.told;
      each = is.each;
      by_key = is.by_key;
      stable = is.stable;
    }
