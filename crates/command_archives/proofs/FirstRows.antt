-- The numbers of the rows of which the records that came are: with one part more, and as these rows are told again.
use Rattle.std.proofs.Common.{◌≡◌, ◌⊎◌, ◌≤◌, ℕ, zero, suc, false, List, [], ◌∷◌, ◌++◌, length, Some, slice_get, refl, sym, ap, ◌∙◌, inl, inr, arith}
use Rattle.std.proofs.Common.{length-append, ◌≢◌, ◌<◌, ◌+◌, Bool, get_or, set}
use Rattle.std.proofs.lemmas.Option.{same_Some, get_or_from_slice_get, slice_get-get_or, slice_get_within}
use Rattle.std.specs.List.{AllZip, insert}
use Rattle.std.specs.List.Sorted.{IsStrictlySortedBy}
use Rattle.std.specs.Ordering.{nat_cmp}
use Rattle.std.specs.Cmp.Lexicographic.{nat_list_cmp_total, slice_cmp}
use Rattle.std.specs.FinSet.{empty}
use Rattle.join_core.specs.Listing.{listing}
use Rattle.join_core.proofs.Listing.{listing_ascending}
use Rattle.command_archives.specs.declared.file_rows.FileRow.{FileRow}
use Rattle.command_archives.specs.declared.file_rows.FileRow.TheVariants.{Part, PassedOver}
use Rattle.command_common.proofs.Readers.{pairs_long}
use Rattle.archive_core.proofs.Made.{bytes_same}
use Rattle.command_archives.specs.InnerArriving.{AreFirstRows, adds, updated_row, updated_rows}
use Rattle.std.proofs.lemmas.Bool.{cases_Bool, cases_eq, cases_lt}
use Rattle.std.proofs.lemmas.List.{ext_get_or, get_or-set_other, get_or-set_same, length-set}
use Rattle.archive_image_admission.specs.declared.taken.Taken.TheVariants.{Skipped}

-- ---- lists

pub kept_at : {X : Type 0} (xs ys : List X) (i : ℕ) (x : X) → slice_get xs i ≡ Some x → slice_get (xs ++ ys) i ≡ Some x
kept_at [] ys i x h = cc
kept_at (y ∷ xs) ys zero x h = h
kept_at (y ∷ xs) ys (suc i) x h = kept_at xs ys i x h

pub last_at : {X : Type 0} (xs : List X) (x : X) → slice_get (xs ++ x ∷ []) (length xs) ≡ Some x
last_at [] x = refl
last_at (y ∷ xs) x = last_at xs x

-- what stands in a list with one more stood there, or is that one
last_or : {X : Type 0} (xs : List X) (x y : X) (i : ℕ) → slice_get (xs ++ x ∷ []) i ≡ Some y → (slice_get xs i ≡ Some y) ⊎ ((i ≡ length xs) × (x ≡ y))
last_or [] x y zero h = inr (refl, same_Some x y h)
last_or [] x y (suc i) h = cc
last_or (z ∷ xs) x y zero h = inl h
last_or (z ∷ xs) x y (suc i) h = elim (last_or xs x y i h) [
  | inl before ↦ inl before
  | inr last ↦ inr (ap suc last.0, last.1)
]

along_pairs : {X Y : Type 0} (P Q : X → Y → Type 0) (xs : List X) (ys : List Y) → ((x : X) (y : Y) → P x y → Q x y) → AllZip P xs ys → AllZip Q xs ys
along_pairs P Q [] [] step all = tt
along_pairs P Q (x ∷ xs) (y ∷ ys) step all = (step x y all.0, along_pairs P Q xs ys step all.1)
along_pairs P Q xs ys step all = absurd all

pairs_insert : {X Y : Type 0} (R : X → Y → Type 0) (xs : List X) (ys : List Y) (i : ℕ) (x : X) (y : Y) → AllZip R xs ys
    → R x y → AllZip R (insert xs i x) (insert ys i y)
pairs_insert R [] [] zero x y all one = (one, tt)
pairs_insert R [] [] (suc i) x y all one = (one, tt)
pairs_insert R [] (_ ∷ _) i x y all one = absurd all
pairs_insert R (_ ∷ _) [] i x y all one = absurd all
pairs_insert R (a ∷ xs) (b ∷ ys) zero x y all one = (one, all)
pairs_insert R (a ∷ xs) (b ∷ ys) (suc i) x y all one = (all.0, pairs_insert R xs ys i x y all.1 one)

-- what stood in a list stands in it with one more
moved : (xs : List ℕ) (i p m n : ℕ) → slice_get xs i ≡ Some n → (j : ℕ) × (slice_get (insert xs p m) j ≡ Some n)
moved [] i p m n h = cc
moved (x ∷ xs) i zero m n h = (suc i, h)
moved (x ∷ xs) zero (suc p) m n h = (zero, h)
moved (x ∷ xs) (suc i) (suc p) m n h = let rest = moved xs i p m n h in (suc rest.0, rest.1)

put_at : (xs : List ℕ) (p m : ℕ) → p ≤ length xs → slice_get (insert xs p m) p ≡ Some m
put_at [] (suc p) m le = absurd (omega (arith, le))
put_at (x ∷ xs) (suc p) m le = let less : p ≤ length xs = omega (arith, le) in put_at xs p m less
put_at xs zero m le = refl

-- ---- one row more

pub no_listing : listing {R = slice_cmp nat_cmp} empty ≡ []
unfolding IsStrictlySortedBy
no_listing = listing_ascending nat_list_cmp_total bytes_same [] tt

pub first_none : (came : List (List ℕ)) (first_rows : List ℕ) (rows : List FileRow) → came ≡ [] → first_rows ≡ [] → rows
    ≡ [] → AreFirstRows came first_rows rows []
first_none came first_rows rows no_records no_first_rows no_rows =
    rw (no_records, no_first_rows, no_rows) (record { long = refl; beside = tt; each = λ place row at added. cc })

module _ (came : List (List ℕ)) (first_rows : List ℕ) (rows : List FileRow) (records : List (List ℕ)) (row : FileRow)
    (r : List ℕ) (are_first : AreFirstRows came first_rows rows records) where
  longer : length (records ++ r ∷ []) ≡ length (rows ++ row ∷ [])
  longer = omega (arith, are_first.long, length-append records (r ∷ []), length-append rows (row ∷ []))

  beside_more : AllZip (λ (place : ℕ) (x : List ℕ). slice_get (records ++ r ∷ []) place ≡ Some x) first_rows came
  beside_more = along_pairs _ _ first_rows came (λ place x h. kept_at records (r ∷ []) place x h) are_first.beside

  -- of one that was not added
  pub first_known : adds row ≡ false → AreFirstRows came first_rows (rows ++ row ∷ []) (records ++ r ∷ [])
  first_known known = record {
    long = longer;
    beside = beside_more;
    each = λ place other at added. elim (last_or rows row other place at) [
      | inl before ↦ are_first.each place other before added
      | inr last ↦ cc (ap (λ (x : FileRow). adds x) last.1)
    ];
  }

  -- of one that was added, at its place among those that came
  pub first_added : (more : List (List ℕ)) (more_first_rows : List ℕ) (place number : ℕ) → more ≡ insert came place r
      → place ≤ length came → more_first_rows ≡ insert first_rows place number → number ≡ length rows
      → AreFirstRows more more_first_rows (rows ++ row ∷ []) (records ++ r ∷ [])
  first_added more more_first_rows place number more_is within first_rows_is number_is = rw (more_is, first_rows_is) (record {
    long = longer;
    beside = pairs_insert _ first_rows came place number r beside_more (rw (number_is ∙ sym are_first.long) (last_at records r));
    each = λ n other at added. elim (last_or rows row other n at) [
      | inl before ↦ let old = are_first.each n other before added in moved first_rows old.0 place number n old.1
      | inr last ↦
          let long = pairs_long _ first_rows came are_first.beside in
          (place, rw (last.0 ∙ sym number_is) (put_at first_rows place number (omega (arith, within, long))))
    ];
  })

abbrev pub no_row : FileRow
no_row = Part (record { file = 0; slice = 0; taken = Skipped })

abbrev pub row_at : List FileRow → ℕ → FileRow
row_at rows n = get_or rows n no_row

-- ---- one row

row_twice : (new : Bool) (row : FileRow) → updated_row new (updated_row new row) ≡ updated_row new row
row_twice new (Part row) = grind arith
row_twice new (PassedOver file why) = refl

row_kept : (new : Bool) (row : FileRow) → adds row ≡ false → updated_row new row ≡ row
row_kept new (Part row) is = grind arith
row_kept new (PassedOver file why) is = refl

-- ---- the rows of the first of the records

-- a row, told again by its record
abbrev goal_at : (List ℕ → Bool) → List FileRow → List (List ℕ) → ℕ → FileRow
goal_at f was records n = updated_row (f (get_or records n [])) (row_at was n)

-- The rows of the first k records are told again, and no other one is changed but so.
pub record AreMarked (f : List ℕ → Bool) (was : List FileRow) (records : List (List ℕ)) (first_rows : List ℕ) (k : ℕ) (now : List FileRow) : Type 0 where
  pub long : length now ≡ length was
  pub first : (i n : ℕ) → i < k → slice_get first_rows i ≡ Some n → n < length was → row_at now n ≡ goal_at f was records n
  pub all : (n : ℕ) → n < length was → (row_at now n ≡ row_at was n) ⊎ (row_at now n ≡ goal_at f was records n)

module _ (f : List ℕ → Bool) (was : List FileRow) (records : List (List ℕ)) where
  pub marked_none : (first_rows : List ℕ) (now : List FileRow) → now ≡ was → AreMarked f was records first_rows 0 now
  marked_none first_rows now is = record {
    long = ap length is;
    first = λ i n lt. absurd (omega (arith, lt));
    all = λ n lt. inl (ap (λ (rows : List FileRow). row_at rows n) is);
  }

  pub marked_more : (first_rows : List ℕ) (k p : ℕ) (now more : List FileRow) (new : Bool)
      → AreMarked f was records first_rows k now → slice_get first_rows k ≡ Some p → p < length was → new
      ≡ f (get_or records p [])
      → more ≡ set now p (updated_row new (row_at now p)) → AreMarked f was records first_rows (k + 1) more
  marked_more first_rows k p now more new before at within new_is more_is = record {
    long = ap length more_is ∙ length-set now p (updated_row new (row_at now p)) ∙ before.long;
    first = λ i n lt is inside. elim (cases_lt i k) [
      | inl low ↦ by_same n (before.first i n low is inside)
      | inr high ↦
          let e : i ≡ k = omega (arith, lt, high) in
          let same : n ≡ p = cc (ap (slice_get first_rows) e) in
          rw same here
    ];
    all = λ n inside. elim (cases_eq n p) [
      | inl same ↦ inr (rw same here)
      | inr apart ↦ elim (before.all n inside) [
        | inl old ↦ inl (other n apart ∙ old)
        | inr told ↦ inr (other n apart ∙ told)
      ]
    ];
  }
    where
      here : row_at more p ≡ goal_at f was records p
      here =
          let written : row_at more p ≡ updated_row new (row_at now p) = rw more_is (get_or-set_same now p _ no_row (omega (arith, within, before.long))) in
          elim (before.all p within) [
            | inl same ↦ cc
            | inr told ↦ cc (row_twice (f (get_or records p [])) (row_at was p))
          ]

      other : (n : ℕ) → n ≢ p → row_at more n ≡ row_at now n
      other n apart = rw more_is (get_or-set_other now p n _ no_row apart)

      by_same : (n : ℕ) → row_at now n ≡ goal_at f was records n → row_at more n ≡ goal_at f was records n
      by_same n is = elim (cases_eq n p) [
        | inl same ↦ rw same here
        | inr apart ↦ other n apart ∙ is
      ]

-- ---- all of them

again_long : (f : List ℕ → Bool) (rows : List FileRow) (records : List (List ℕ)) → length (updated_rows f rows records) ≡ length rows
unfolding updated_rows
again_long f (row ∷ rows) (r ∷ records) = ap suc (again_long f rows records)
again_long f rows records = refl

again_at : (f : List ℕ → Bool) (rows : List FileRow) (records : List (List ℕ)) (n : ℕ) → length records ≡ length rows
    → n < length rows → row_at (updated_rows f rows records) n ≡ updated_row (f (get_or records n [])) (row_at rows n)
unfolding updated_rows
again_at f [] records n long inside = absurd (omega (arith, inside))
again_at f (row ∷ rows) [] n long inside = absurd (omega (arith, long))
again_at f (row ∷ rows) (r ∷ records) zero long inside = refl
again_at f (row ∷ rows) (r ∷ records) (suc n) long inside = again_at f rows records n (omega (arith, long)) (omega (arith, inside))

pair_at : (records : List (List ℕ)) (first_rows : List ℕ) (came : List (List ℕ)) (k p : ℕ)
    → AllZip (λ (place : ℕ) (r : List ℕ). slice_get records place ≡ Some r) first_rows came → slice_get first_rows k
    ≡ Some p → slice_get records p ≡ Some (get_or came k [])
pair_at records [] came k p all at = cc
pair_at records (x ∷ xs) [] k p all at = absurd all
pair_at records (x ∷ xs) (y ∷ ys) zero p all at = rw (← same_Some x p at) all.0
pair_at records (x ∷ xs) (y ∷ ys) (suc k) p all at = pair_at records xs ys k p all.1 at

module _ (came : List (List ℕ)) (first_rows : List ℕ) (rows : List FileRow) (records : List (List ℕ))
    (are_first : AreFirstRows came first_rows rows records) where
  -- a number that stands beside a record is that of a row
  pub row_inside : (k p : ℕ) → slice_get first_rows k ≡ Some p → p < length rows
  row_inside k p at = let within = slice_get_within records p (get_or came k [])
      (pair_at records first_rows came k p are_first.beside at) in omega (arith, within, are_first.long)

  -- and the record is that of the row
  pub record_at : (k p : ℕ) → slice_get first_rows k ≡ Some p → get_or came k [] ≡ get_or records p []
  record_at k p at = sym (get_or_from_slice_get records p (get_or came k []) [] (pair_at records first_rows came k p are_first.beside at))

  pub as_many : length came ≡ length first_rows
  as_many = pairs_long (λ (place : ℕ) (r : List ℕ). slice_get records place ≡ Some r) first_rows came are_first.beside

  pub all_marked : (f : List ℕ → Bool) (k : ℕ) (now : List FileRow) → AreMarked f rows records first_rows k now → k
      ≡ length first_rows → now ≡ updated_rows f rows records
  all_marked f k now marked end =
      ext_get_or no_row now (updated_rows f rows records) (marked.long ∙ sym (again_long f rows records)) (λ n lt.
      let inside : n < length rows = omega (arith, lt, marked.long) in
      by_row n inside ∙ sym (again_at f rows records n are_first.long inside))
    where
      by_row : (n : ℕ) → n < length rows → row_at now n ≡ updated_row (f (get_or records n [])) (row_at rows n)
      by_row n inside = elim (cases_Bool (adds (row_at rows n))) [
        | inl is ↦
            let at = are_first.each n (row_at rows n) (slice_get-get_or rows n no_row inside) is in
            marked.first at.0 n (omega (arith, slice_get_within first_rows at.0 n at.1, end)) at.1 inside
        | inr is ↦ elim (marked.all n inside) [
          | inl same ↦ same ∙ sym (row_kept (f (get_or records n [])) (row_at rows n) is)
          | inr told ↦ told
        ]
      ]
