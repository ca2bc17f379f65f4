-- The rows of the slices that answer, and the keys that are without.
use Rattle.std.proofs.Common.{◌≡◌, ◌↔◌, ℕ, Bool, true, false, arith, List, refl, sym, ap, ◌∙◌, inl, inr}
use Rattle.std.specs.Cmp.{IsTotalOrder, tied_itself}
use Rattle.std.specs.Cmp.Lexicographic.{slice_cmp, nat_list_cmp_total}
use Rattle.std.specs.List.{All, Contains}
use Rattle.std.specs.List.Sorted.{IsSorted, IsSortedBy, IsStrictlySortedBy}
use Rattle.std.specs.Ordering.{is_lt, nat_cmp, ordering_then}
use Rattle.std.specs.declared.cmp.Ordering.{Ordering}
use Rattle.std.specs.declared.cmp.Ordering.TheVariants.{Equal}
use Rattle.std.proofs.lemmas.Cmp.{on_total, then_total}
use Rattle.std.proofs.lemmas.List.Elements.{All-contains}
use Rattle.archive_core.specs.Key.{IsKey, key_bytes}
use Rattle.archive_core.specs.declared.keys.SliceKey.{SliceKey}
use Rattle.archive_core.specs.declared.find.FindRow.{FindRow}
use Rattle.archive_core.specs.declared.find.FindState.{FindState}
use Rattle.archive_core.specs.declared.find.FindState.TheVariants.{Retired, Image, Dsym}
use Rattle.archive_core.proofs.Made.{bytes_same}
use Rattle.archive_core.proofs.Records.{one_key}
use Rattle.text_reports.specs.Slices.{AnswersAmong, AreOfOneSlice, LivesAmong, TellsSlices, slice_key_cmp, slice_row_cmp, slices_lines}
use Rattle.text_reports.specs.InnerSlices.{AnswersBeside, AnswersIn, AreExactly, HasKey, HasSlice, LivesBeside, own_key, row_key}
use Rattle.text_reports.proofs.Kept.{neighbours}

-- ---- orders

pub keys_total : IsTotalOrder slice_key_cmp
keys_total = on_total (λ (key : SliceKey). key_bytes key) nat_list_cmp_total

pub rows_total : IsTotalOrder slice_row_cmp
rows_total = then_total (on_total (λ (row : FindRow). row.key) keys_total) (on_total (λ (row : FindRow). row.digest.0) nat_list_cmp_total)

no_less_first : (a b : Ordering) → is_lt (ordering_then a b) ≡ false → is_lt a ≡ false
no_less_first a b h = grind arith

both_equal : (a b : Ordering) → ordering_then a b ≡ Equal → (a ≡ Equal) × (b ≡ Equal)
both_equal Equal b e = (refl, e)
both_equal a b e = absurd (cc e)

-- rows in the order of their slices are in that of their keys
pub by_keys : (rows : List FindRow) → IsSorted slice_row_cmp rows → IsSortedBy (λ (a b : FindRow). is_lt (slice_key_cmp a.key b.key)) rows
by_keys rows sorted = λ j d below within. no_less_first _ _ (sorted j d below within)

pub ascending_sorted : (rows : List FindRow) → IsStrictlySortedBy slice_row_cmp rows → IsSorted slice_row_cmp rows
ascending_sorted rows up = neighbours rows_total (λ (row : FindRow). row) rows up

-- keys of their widths that are neither below nor above one another are one
pub one_key_same : (a b : SliceKey) → IsKey a → IsKey b → slice_key_cmp a b ≡ Equal → a ≡ b
one_key_same a b is_a is_b e = one_key a b is_a is_b (bytes_same (key_bytes a) (key_bytes b) e)

same_slice : (a b : FindRow) → IsKey a.key → IsKey b.key → slice_row_cmp a b ≡ Equal → AreOfOneSlice a b
same_slice a b is_a is_b e =
    let same = both_equal _ _ e in
    let digest = bytes_same a.digest.0 b.digest.0 same.1 in
    (one_key_same a.key b.key is_a is_b same.0, λ i. record { 0 = digest i })

tied_keys : (a b : SliceKey) → a ≡ b → slice_key_cmp a b ≡ Equal
tied_keys a b e = ap (λ (k : SliceKey). slice_key_cmp k b) e ∙ tied_itself keys_total b

tied_slice : (a b : FindRow) → AreOfOneSlice a b → slice_row_cmp a b ≡ Equal
tied_slice a b same =
    ap (λ (first : Ordering). ordering_then first (slice_cmp nat_cmp a.digest.0 b.digest.0)) (tied_keys a.key b.key same.0)
    ∙ ap (λ (bytes : List ℕ). slice_cmp nat_cmp bytes b.digest.0) (λ i. (same.1 i).0) ∙ tied_itself nat_list_cmp_total b.digest.0

-- ---- what was found

pub slice_found : (rows : List FindRow) (row : FindRow) (found : Bool) → All (λ (other : FindRow). IsKey other.key) rows → IsKey row.key
    → (found ≡ true) ↔ ((other : FindRow) × Contains rows other × (slice_row_cmp other row ≡ Equal)) → (found ≡ true) ↔ HasSlice rows row
slice_found rows row found keyed key is = (
  λ e. let there = is.0 e in (
    there.0,
    there.1,
    same_slice there.0 row
        (All-contains (λ (other : FindRow). IsKey other.key) rows there.0 keyed there.1) key there.2,
  ),
  λ has. is.1 (has.0, has.1, tied_slice has.0 row has.2),
)

pub key_found : (rows : List FindRow) (key : SliceKey) (found : Bool) → All (λ (row : FindRow). IsKey row.key) rows → IsKey key
    → (found ≡ true) ↔ ((row : FindRow) × Contains rows row × (slice_key_cmp row.key key ≡ Equal)) → (found ≡ true) ↔ HasKey rows key
key_found rows key found keyed is_key is = (
  λ e. let there = is.0 e in (
    there.0,
    there.1,
    one_key_same there.0.key key
        (All-contains (λ (row : FindRow). IsKey row.key) rows there.0 keyed there.1) is_key there.2,
  ),
  λ has. is.1 (has.0, has.1, tied_keys has.0.key key has.2),
)

-- ---- live, and answering

pub lives : (pool retired : List FindRow) → AreExactly row_key (λ row. Contains pool row × (row.state ≡ Retired)) retired → (row : FindRow)
    → (Contains pool row × LivesBeside retired row) ↔ LivesAmong pool row
lives pool retired are row = (
  λ h. (h.0, h.1.0, λ r. h.1.1 (r.0, (are.exactly r.0).1 (r.1, r.2), r.3)),
  λ h. (h.0, (h.1, λ r. let of = (are.exactly r.0).0 r.1 in h.2 (r.0, of.0, of.1, r.2))),
)

pub beside_companions : (live companions : List FindRow) → AreExactly row_key (λ row. Contains live row × (row.state ≡ Dsym)) companions → (row : FindRow)
    → (Contains live row × AnswersBeside companions row) ↔ (Contains live row × AnswersIn live row)
beside_companions live companions are row = (
  λ h. (
    h.0,
    elim h.1 [
      | inl dsym ↦ inl dsym
      | inr none ↦ inr (λ other there same dsym. none (other, (are.exactly other).1 (there, dsym), same))
    ],
  ),
  λ h. (
    h.0,
    elim h.1 [
      | inl dsym ↦ inl dsym
      | inr none ↦ inr (λ has. let of = (are.exactly has.0).0 has.1 in none has.0 of.0 has.2 of.1)
    ],
  ),
)

pub answers : (pool live : List FindRow) → AreExactly row_key (LivesAmong pool) live → (row : FindRow)
    → (Contains live row × AnswersIn live row) ↔ AnswersAmong pool row
answers pool live are row = (
  λ h. (
    (are.exactly row).0 h.0,
    elim h.1 [
      | inl dsym ↦ inl dsym
      | inr none ↦ inr (λ other lives same. none other ((are.exactly other).1 lives) same)
    ],
  ),
  λ h. (
    (are.exactly row).1 h.0,
    elim h.1 [
      | inl dsym ↦ inl dsym
      | inr none ↦ inr (λ other there same. none other ((are.exactly other).0 there) same)
    ],
  ),
)

one_state : (a b : FindState) → (a ≡ Retired → ⊥) → (b ≡ Retired → ⊥) → (a ≡ Dsym → b ≡ Dsym) → (b ≡ Dsym → a ≡ Dsym) → a ≡ b
one_state Retired b live_a live_b to from = absurd (live_a refl)
one_state Image Retired live_a live_b to from = absurd (live_b refl)
one_state Image Image live_a live_b to from = refl
one_state Image Dsym live_a live_b to from = from refl
one_state Dsym b live_a live_b to from = sym (to refl)

-- under one key companions answer or images do
companions_both : (pool : List FindRow) (a b : FindRow) → AnswersAmong pool a → AnswersAmong pool b → a.key ≡ b.key → a.state ≡ Dsym → b.state ≡ Dsym
companions_both pool a b is_a is_b key dsym = elim is_b.1 [
  | inl is ↦ is
  | inr none ↦ absurd (none a is_a.0 key dsym)
]

-- so a slice that answers has one row
pub one_answer : (pool : List FindRow) (a b : FindRow) → AnswersAmong pool a → AnswersAmong pool b → IsKey a.key
    → IsKey b.key → slice_row_cmp a b ≡ Equal → a ≡ b
one_answer pool a b is_a is_b key_a key_b e =
    let same = same_slice a b key_a key_b e in
    let state = one_state a.state b.state is_a.0.1 is_b.0.1 (companions_both pool a b is_a is_b same.0) (companions_both pool b a is_b is_a (sym same.0)) in
    λ i. record { key = same.0 i; digest = same.1 i; state = state i }

pub tells : (IsRow : FindRow → Type 0) (rows : List FindRow) (keys absent : List SliceKey) (text : List ℕ)
    → AreExactly row_key IsRow rows → IsStrictlySortedBy slice_row_cmp rows
    → AreExactly own_key (λ key. Contains keys key × (HasKey rows key → ⊥)) absent → IsStrictlySortedBy slice_key_cmp absent
    → text ≡ slices_lines rows absent → TellsSlices IsRow keys text
tells IsRow rows keys absent text are up without absent_up is = record {
  rows = rows;
  absent = absent;
  ascending = up;
  exactly = are.exactly;
  absent_ascending = absent_up;
  absent_exactly = λ key. (
    λ there. let of = (without.exactly key).0 there in (of.0, λ row is_row same. of.1 (row, (are.exactly row).1 is_row, same)),
    λ h. (without.exactly key).1 (h.0, λ has. h.1 has.0 ((are.exactly has.0).0 has.1) has.2),
  );
  text_is = is;
}
