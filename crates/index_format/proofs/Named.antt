-- Records that the entries of a content's index name.
use Rattle.std.proofs.Common.{◌≡◌, ℕ, zero, suc, ◌+◌, ◌<◌, ◌≤◌, ◌^◌, true, ◌&&◌, List, [], ◌∷◌, ◌++◌, length, take}
use Rattle.std.proofs.Common.{drop, get_or, refl, sym, ap, ◌∙◌, subst, inl, inr, arith, length-append, length-drop}
use Rattle.std.proofs.Common.{append_assoc}
use Rattle.std.specs.List.{AllZip, Contains, concat}
use Rattle.std.specs.Str.{bytes_eq}
use Rattle.std.specs.Cmp.{both_ways}
use Rattle.std.specs.Cmp.Lexicographic.{nat_list_cmp_total}
use Rattle.std.specs.FinSet as set
use Rattle.std.specs.FinSet.{same_set}
use Rattle.std.proofs.Math.Seq.{take-append_seam, drop-append_seam}
use Rattle.std.proofs.lemmas.Bool.{and_parts}
use Rattle.std.proofs.lemmas.List.Elements.{Contains-get_or, AllZip-get_or, length_all_zip}
use Rattle.std.proofs.lemmas.List.{take-append-le, drop-append-le, take-append-drop, get_or_default}
use Rattle.std.specs.Int.{w64, to_be_bytes}
use Rattle.sha2.specs.Sha256.{sha256}
use Rattle.join_core.specs.Listing.{listing}
use Rattle.archive_core.specs.Key.{key_bytes}
use Rattle.archive_core.specs.Valid.{IsValid, key_of}
use Rattle.archive_core.specs.Record.{IsRecord, admission, admission_record}
use Rattle.archive_core.specs.Content.{Operations, IsContent, is_admission, content_of}
use Rattle.archive_core.specs.Part.{is_under, part}
use Rattle.archive_core.specs.Summary.{Entries, entry}
use Rattle.archive_core.proofs.Made.{bytes_same}
use Rattle.archive_core.proofs.Members.{in_filter, to_filter, in_listing}
use Rattle.archive_core.proofs.Entries.{entry_tells, retirement_of_entry, admission_entry, retirement_entry, length-entry}
use Rattle.archive_core.proofs.Records.{length-key_of}
use Rattle.archive_core.proofs.Picked.{contains_part, part_content}
use Rattle.archive_records.specs.Kind.{magic}
use Rattle.archive_records.specs.Text.{written, end_record}
use Rattle.index_format.specs.Entry.{placed_entry, length_in, offset_in}
use Rattle.index_format.specs.Index.{index, placed_entries}
use Rattle.index_format.specs.Places.{IsNamedBy, AreNamed, entries_under, TellsFound}
use Rattle.index_format.proofs.Kept.{in_made}
use Rattle.index_format.proofs.Placed.{entry_front, length_is, offset_is}
use Rattle.index_format.proofs.Sums.{nonempty}

-- ---- what an entry of an index is of

stands_there : (front r more text : List ℕ) → text ≡ front ++ (r ++ more) → take (length r) (drop (length front) text) ≡ r
stands_there front r more text e =
    ap (λ (t : List ℕ). take (length r) (drop (length front) t)) e
    ∙ ap (take (length r)) (drop-append_seam front (r ++ more))
    ∙ take-append_seam r more

module _ (text rest : List ℕ) where
  step_text : (front r : List ℕ) (rs : List (List ℕ)) → text ≡ front ++ (concat (r ∷ rs) ++ rest) → text ≡ front ++ (r ++ (concat rs ++ rest))
  step_text front r rs e = e ∙ ap (λ (t : List ℕ). front ++ t) (append_assoc r (concat rs) rest)

  next_text : (front r : List ℕ) (rs : List (List ℕ)) → text ≡ front ++ (concat (r ∷ rs) ++ rest) → text ≡ (front ++ r) ++ (concat rs ++ rest)
  next_text front r rs e = step_text front r rs e ∙ sym (append_assoc front r (concat rs ++ rest))

  -- where a record stands, and its entry
  placed_at : (k : ℕ) (front : List ℕ) (rs : List (List ℕ)) (j : ℕ) → k ≡ length front → text ≡ front ++ (concat rs ++ rest) → j < length rs
      → (offset : ℕ) × (get_or (placed_entries k rs) j [] ≡ placed_entry offset (get_or rs j []))
      × (take (length (get_or rs j [])) (drop offset text) ≡ get_or rs j [])
      × (offset + length (get_or rs j []) ≤ length text)
  placed_at k front [] j at whole lt = absurd (omega arith)
  placed_at k front (r ∷ rs) zero at whole lt = (
    k,
    refl,
    ap (λ (n : ℕ). take (length r) (drop n text)) at ∙ stands_there front r (concat rs ++ rest) text (step_text front r rs whole),
    omega (arith, at, ap length (step_text front r rs whole), length-append front (r ++ (concat rs ++ rest)), length-append r (concat rs ++ rest)),
  )
  placed_at k front (r ∷ rs) (suc j) at whole lt = placed_at (k + length r) (front ++ r) rs j
      (omega (arith, at, length-append front r)) (next_text front r rs whole) (omega arith)

length_placed : (k : ℕ) (rs : List (List ℕ)) → length (placed_entries k rs) ≡ length rs
length_placed k [] = refl
length_placed k (r ∷ rs) = ap suc (length_placed (k + length r) rs)

written_is : (o : Operations) → written o ≡ magic ++ (concat (listing o) ++ end_record (set.len o))
unfolding written
written_is o = refl

-- an entry of the index of a content
pub record IsEntryIn (o : Operations) (e : List ℕ) : Type 0 where
  pub r : List ℕ
  pub offset : ℕ
  pub member : set.contains o r ≡ true
  pub entry_is : e ≡ placed_entry offset r
  pub stands : take (length r) (drop offset (written o)) ≡ r
  pub within : offset + length r ≤ length (written o)

pub entry_in : (o : Operations) (e : List ℕ) → set.contains (index o) e ≡ true → IsEntryIn o e
unfolding index
entry_in o e h =
    let there = (in_made (placed_entries 8 (listing o)) e).1 h in
    let within : there.0 < length (listing o) = omega (arith, there.1, length_placed 8 (listing o)) in
    let p = placed_at (written o) (end_record (set.len o)) 8 magic (listing o) there.0 refl (written_is o) within in
    record {
      r = get_or (listing o) there.0 [];
      offset = p.0;
      member = (in_listing nat_list_cmp_total bytes_same o (get_or (listing o) there.0 [])).0 (Contains-get_or (listing o) there.0 [] within);
      entry_is = sym there.2 ∙ get_or_default (placed_entries 8 (listing o)) there.0 e [] there.1 ∙ p.1;
      stands = p.2;
      within = p.3;
    }

-- the entry of a record of the content
pub entry_for : (o : Operations) (r : List ℕ) → set.contains o r ≡ true
    → (e : List ℕ) × (set.contains (index o) e ≡ true) × (offset : ℕ) × (e ≡ placed_entry offset r)
    × (take (length r) (drop offset (written o)) ≡ r) × (offset + length r ≤ length (written o))
unfolding index
entry_for o r h =
    let there = (in_listing nat_list_cmp_total bytes_same o r).1 h in
    let es = placed_entries 8 (listing o) in
    let p = placed_at (written o) (end_record (set.len o)) 8 magic (listing o) there.0 refl (written_is o) there.1 in
    let is : get_or (listing o) there.0 [] ≡ r = get_or_default (listing o) there.0 [] r there.1 ∙ there.2 in
    let within : there.0 < length es = omega (arith, there.1, length_placed 8 (listing o)) in (
      get_or es there.0 [],
      (in_made es (get_or es there.0 [])).0 (Contains-get_or es there.0 [] within),
      p.0,
      p.1
          ∙ ap (placed_entry p.0) is,
      rw is at p.2,
      rw is at p.3,
    )

-- each names a record that is there
pub named_there : (o : Operations) (e : List ℕ) → IsContent o → length (written o) < 2 ^ 64 → set.contains (index o) e
    ≡ true → (r : List ℕ) × IsNamedBy (written o) e r
named_there o e content fits h =
    let p = entry_in o e h in (
      p.r,
      record {
        is = content.records p.r p.member;
        offset = p.offset;
        fits =
            omega (arith, p.within, nonempty p.r (content.records p.r p.member));
        entry_is = p.entry_is;
        stands =
            λ _. p.stands;
      },
    )

-- ---- the record that an entry names is its own

-- with the text that the index is of
pub right_record : (o : Operations) (e r : List ℕ) → IsContent o → length (written o) < 2 ^ 64 → (p : IsEntryIn o e) → IsNamedBy (written o) e r → r ≡ p.r
right_record o e r content fits p n = elim n.is [
  | inl a ↦
      let isp = content.records p.r p.member in
      let same : placed_entry n.offset r ≡ placed_entry p.offset p.r = sym n.entry_is ∙ p.entry_is in
      let offsets : n.offset ≡ p.offset = sym (offset_is n.offset r n.is n.fits) ∙ ap offset_in same
      ∙ offset_is p.offset p.r isp (omega (arith, p.within, nonempty p.r isp)) in
      let lengths : length r ≡ length p.r = sym (length_is n.offset r n.is) ∙ ap length_in same ∙ length_is p.offset p.r isp in
      sym (n.stands (ap is_admission a.is)) ∙ (λ i. take (lengths i) (drop (offsets i) (written o))) ∙ p.stands
  | inr b ↦
      let isp = content.records p.r p.member in
      let same : entry p.r ≡ entry r = sym (entry_front p.offset p.r isp) ∙ ap (take 57) (sym p.entry_is ∙ n.entry_is) ∙ entry_front n.offset r n.is in
      b.is ∙ sym (retirement_of_entry b.key b.digest p.r isp (same ∙ ap entry b.is))
]

-- with any text, where digests tell
pub own_record : (o : Operations) (text e r : List ℕ) → IsContent o → (p : IsEntryIn o e) → IsNamedBy text e r
    → ((a b : List ℕ) → set.contains o (admission_record a) ≡ true → r ≡ admission_record b → sha256 a ≡ sha256 b → a ≡ b) → r ≡ p.r
own_record o text e r content p n tells =
    let isp = content.records p.r p.member in
    let same : entry p.r ≡ entry r = sym (entry_front p.offset p.r isp) ∙ ap (take 57) (sym p.entry_is ∙ n.entry_is) ∙ entry_front n.offset r n.is in
    sym (entry_tells p.r r isp n.is same (λ a b pa rb. tells a b (sym (ap (set.contains o) pa) ∙ p.member) rb))

-- ---- what is named together

zip_left : (P : List ℕ → List ℕ → Type 0) (xs ys : List (List ℕ)) (e : List ℕ) → AllZip P xs ys → Contains xs e → (y : List ℕ) × Contains ys y × P e y
zip_left P xs ys e z (k, lt, is) = (
  get_or ys k [],
  Contains-get_or ys k [] (omega (arith, length_all_zip P xs ys z)),
  subst (λ (x : List ℕ). P x (get_or ys k [])) is (AllZip-get_or P xs ys k e [] z lt),
)

zip_right : (P : List ℕ → List ℕ → Type 0) (xs ys : List (List ℕ)) (q : List ℕ) → AllZip P xs ys → Contains ys q → (x : List ℕ) × Contains xs x × P x q
zip_right P xs ys q z (k, lt, is) =
    let within : k < length xs = omega (arith, length_all_zip P xs ys z) in
    (get_or xs k [], Contains-get_or xs k [] within, subst (P (get_or xs k [])) is (AllZip-get_or P xs ys k [] q z within))

-- an entry under a front
in_under : (front : List ℕ) (s : Entries) (e : List ℕ) → Contains (entries_under front (listing s)) e → (set.contains s e ≡ true) × (is_under front e ≡ true)
in_under front s e h =
    let kept = in_filter (is_under front) (listing s) e h in
    ((in_listing nat_list_cmp_total bytes_same s e).0 kept.0, kept.1)

key_prefix : (n : ℕ) (slice : List ℕ) → n ≤ 24 → IsValid slice → take n (drop 1 (admission_record slice)) ≡ take n (key_bytes (key_of slice))
unfolding admission
key_prefix n slice short valid = take-append-le n (key_bytes (key_of slice)) (to_be_bytes w64 (length slice) ++ slice)
    (omega (arith, length-key_of slice valid))

entry_key : (n : ℕ) (r : List ℕ) → n ≤ 24 → IsRecord r → take n (drop 1 (entry r)) ≡ take n (drop 1 r)
entry_key n r short (inl a) =
    ap (λ (x : List ℕ). take n (drop 1 x)) (ap entry a.is ∙ admission_entry a.slice a.valid)
    ∙ take-append-le n (key_bytes (key_of a.slice)) (sha256 a.slice) (omega (arith, length-key_of a.slice a.valid))
    ∙ sym (ap (λ (x : List ℕ). take n (drop 1 x)) a.is ∙ key_prefix n a.slice short a.valid)
entry_key n r short (inr b) = ap (λ (x : List ℕ). take n (drop 1 x)) (ap entry b.is ∙ retirement_entry b.key b.digest ∙ sym b.is)

front_same : (n offset : ℕ) (r : List ℕ) → n ≤ 24 → IsRecord r → take n (drop 1 (placed_entry offset r)) ≡ take n (drop 1 r)
front_same n offset r short is =
    let e = placed_entry offset r in
    let long : length (entry r) ≡ 57 = length-entry r is in
    let parts : e ≡ entry r ++ drop 57 e = sym (take-append-drop 57 e) ∙ ap (λ (t : List ℕ). t ++ drop 57 e) (entry_front offset r is) in
    ap (λ (t : List ℕ). take n (drop 1 t)) parts
    ∙ ap (take n) (drop-append-le 1 (entry r) (drop 57 e) (omega (arith, long)))
    ∙ take-append-le n (drop 1 (entry r)) (drop 57 e) (omega (arith, long, length-drop 1 (entry r)))
    ∙ entry_key n r short is

-- an entry is under a front of a key as its record is
pub under_same : (front : List ℕ) (offset : ℕ) (r : List ℕ) → length front ≤ 24 → IsRecord r → is_under front (placed_entry offset r) ≡ is_under front r
unfolding is_under
under_same front offset r short is = ap (bytes_eq front) (front_same (length front) offset r short is)

module _ (front : List ℕ) (o : Operations) (text : List ℕ) (records : List (List ℕ)) (short : length front ≤ 24) (content : IsContent o)
    (named : AllZip (IsNamedBy text) (entries_under front (listing (index o))) records)
    (own : (e r : List ℕ) → Contains records r → (p : IsEntryIn o e) → IsNamedBy text e r → r ≡ p.r) where
  into_part : (q : List ℕ) → Contains records q → set.contains (part o (is_under front)) q ≡ true
  into_part q h =
      let found = zip_right (IsNamedBy text) (entries_under front (listing (index o))) records q named h in
      let e = found.0 in
      let there = in_under front (index o) e found.1 in
      let p = entry_in o e there.0 in
      let is : q ≡ p.r = own e q h p found.2 in
      let under : is_under front q ≡ true = ap (is_under front) is
      ∙ sym (under_same front p.offset p.r short (content.records p.r p.member))
      ∙ ap (is_under front) (sym p.entry_is) ∙ there.1 in
      contains_part o (is_under front) q ∙ (λ i. (ap (set.contains o) is ∙ p.member) i && under i)

  from_part : (q : List ℕ) → set.contains (part o (is_under front)) q ≡ true → Contains records q
  from_part q h =
      let both = and_parts (set.contains o q) (is_under front q) (sym (contains_part o (is_under front) q) ∙ h) in
      let found = entry_for o q both.0 in
      let e = found.0 in
      let under : is_under front e ≡ true = ap (is_under front) found.3 ∙ under_same front found.2 q short (content.records q both.0) ∙ both.1 in
      let there = to_filter (is_under front) (listing (index o)) e ((in_listing nat_list_cmp_total bytes_same (index o) e).1 found.1) under in
      let zipped = zip_left (IsNamedBy text) (entries_under front (listing (index o))) records e named there in
      let p : IsEntryIn o e = record { r = q; offset = found.2; member = both.0; entry_is = found.3; stands = found.4; within = found.5 } in
      subst (Contains records) (own e zipped.0 zipped.1 p zipped.2) zipped.1

  pub records_are : set.from_list records ≡ part o (is_under front)
  records_are = same_set nat_list_cmp_total bytes_same (set.from_list records) (part o (is_under front)) (λ q.
      both_ways _ _ (λ h. into_part q ((in_made records q).1 h)) (λ h. (in_made records q).0 (from_part q h)))

  pub content_is : content_of (set.from_list records) ≡ part o (is_under front)
  content_is = ap content_of records_are ∙ (part_content o (is_under front) content).itself

-- with the index of the archive whose text this is
pub right : (front : List ℕ) (o p : Operations) → length front ≤ 24 → IsContent o → length (written o) < 2 ^ 64
    → AreNamed front (listing (index o)) (written o) p → p ≡ part o (is_under front)
right front o p short content fits n = n.made ∙ content_is front o (written o) n.records short content n.named
    (λ e r _ q named. right_record o e r content fits q named)

-- over any text, where digests tell
pub of_the_index : (front text : List ℕ) (o p : Operations) → length front ≤ 24 → IsContent o
    → (n : AreNamed front (listing (index o)) text p) → TellsFound o n.records → p ≡ part o (is_under front)
of_the_index front text o p short content n tells = n.made ∙ content_is front o text n.records short content n.named (λ e r there q named.
    own_record o text e r content q named (λ a b in_o rb same. tells a b in_o (subst (Contains n.records) rb there) same))
