-- Files that are accepted, and the fault of each other one.
use Rattle.std.proofs.Common.{◌≡◌, ◌≢◌, ℕ, ◌+◌, ◌<◌, Bool, true, false, List, [], ◌∷◌, length, take, Some, slice_get, ◌||◌, refl, sym, ap, ◌∙◌, subst, arith}
use Rattle.std.specs.Prelude.{All, Contains, filter}
use Rattle.std.proofs.lemmas.List.{get_or-take, length-take}
use Rattle.std.proofs.lemmas.List.Elements.{All-nil, All-contains, All-filter, All-more, filter_passes}
use Rattle.std.proofs.lemmas.Option.{get_or_from_slice_get, slice_get_within}
use Rattle.archive_core.proofs.Members.{to_filter}
use Rattle.archive_core.specs.Valid.{IsValid, IsSliceFault}
use Rattle.archive_core.specs.declared.faults.SliceFault.{SliceFault}
use Rattle.archive_image_admission.specs.File.{is_admissible, parts, HasParts, IsAcceptedFile, IsTakeFault}
use Rattle.archive_image_admission.specs.declared.fault.TakeFault.TheVariants.{Slice, NothingToAdmit}

-- no slice has a fault
abbrev pub NoneFaulty : Type 0
NoneFaulty = (bytes : List ℕ) (f : SliceFault) → IsValid bytes → IsSliceFault bytes f → ⊥

-- a slice, if it is admissible
abbrev pub IsGood : List ℕ → Type 0
IsGood x = is_admissible x ≡ true → IsValid x

abbrev pub IsOut : List ℕ → Type 0
IsOut x = is_admissible x ≡ false

-- an admissible one is among them
abbrev pub HasOne : List (List ℕ) → Type 0
HasOne xs = (x : List ℕ) × Contains xs x × (is_admissible x ≡ true)

-- what stands at a place is among them
pub there : (xs : List (List ℕ)) (j : ℕ) (x : List ℕ) → slice_get xs j ≡ Some x → Contains xs x
there xs j x is = (j, slice_get_within xs j x is, get_or_from_slice_get xs j x x is)

pub all_valid : (xs : List (List ℕ)) → All IsGood xs → All IsValid (filter is_admissible xs)
all_valid xs good = λ k d lt. All-filter is_admissible IsGood xs good k d lt (filter_passes is_admissible xs k d lt)

-- what is said of all that a filter keeps holds of each
pub kept_is : (P : List ℕ → Type 0) (xs : List (List ℕ)) (j : ℕ) (x : List ℕ) → All P (filter is_admissible xs)
    → slice_get xs j ≡ Some x → is_admissible x ≡ true → P x
kept_is P xs j x all is begins =
    All-contains P (filter is_admissible xs) x all (to_filter is_admissible xs x (there xs j x is) begins)

pub one_kept : (xs : List (List ℕ)) → HasOne xs → filter is_admissible xs ≢ []
one_kept xs (x, has, begins) none = let kept = to_filter is_admissible xs x has begins in omega (arith, ap length none, kept.1)

pub none_kept : (xs : List (List ℕ)) → All IsOut xs → filter is_admissible xs ≡ []
none_kept xs out =
    go (filter is_admissible xs) (λ k d lt. All-filter is_admissible IsOut xs out k d lt)
    (filter_passes is_admissible xs)
  where
    go : (kept : List (List ℕ)) → All IsOut kept → All (λ x. is_admissible x ≡ true) kept → kept ≡ []
    go [] out in' = refl
    go (x ∷ kept) out in' = let a = out 0 x (omega arith) in let b = in' 0 x (omega arith) in cc

pub accepted_by : (file : List ℕ) → HasParts file → All IsGood (parts file) → HasOne (parts file) → IsAcceptedFile file
accepted_by file has valid one = record { parts_are = has; valid = all_valid (parts file) valid; some = one_kept (parts file) one }

pub refused_by : (file : List ℕ) (i : ℕ) (x : List ℕ) (why : SliceFault) → NoneFaulty → HasParts file
    → All IsGood (take i (parts file)) → slice_get (parts file) i ≡ Some x → is_admissible x ≡ true → IsSliceFault x why
    → IsTakeFault file (Slice i why)
refused_by file i x why sound has valid is begins wrong = (
  has,
  record {
    here = record { part = x; is = is; begins = begins; refused = wrong };
    first = λ j other lt refused. sound refused.part other (before j refused.part lt refused.is refused.begins) refused.refused;
  },
)
  where
    before : (j : ℕ) (y : List ℕ) → j < i → slice_get (parts file) j ≡ Some y → IsGood y
    before j y lt at =
        let low : j < length (take i (parts file)) =
        omega (arith, length-take i (parts file), slice_get_within (parts file) j y at) in
        subst IsGood (get_or-take i (parts file) j y lt ∙ get_or_from_slice_get (parts file) j y y at) (valid j y low)

pub nothing_by : (file : List ℕ) → HasParts file → All IsOut (parts file) → IsTakeFault file NothingToAdmit
nothing_by file has none = (has, none_kept (parts file) none)

-- what is known of the first i slices, where one was found or none
pub record IsChecked (xs : List (List ℕ)) (i : ℕ) (found : Bool) : Type 0 where
  pub valid : All IsGood (take i xs)
  pub some : found ≡ true → HasOne xs
  pub none : found ≡ false → All IsOut (take i xs)

pub checked_none : (xs : List (List ℕ)) → IsChecked xs 0 false
checked_none xs = record { valid = All-nil IsGood; some = λ e. cc; none = λ e. All-nil IsOut }

-- one more is looked at
one_more : (P : List ℕ → Type 0) (xs : List (List ℕ)) (i : ℕ) (x : List ℕ) → slice_get xs i ≡ Some x → All P (take i xs)
    → P x → All P (take (i + 1) xs)
one_more P xs i x is before here =
    All-more P xs i x (slice_get_within xs i x is) before (subst P (sym (get_or_from_slice_get xs i x x is)) here)

pub checked_more : (xs : List (List ℕ)) (i : ℕ) (x : List ℕ) (found begins : Bool) → IsChecked xs i found
    → slice_get xs i ≡ Some x → begins ≡ is_admissible x → (is_admissible x ≡ true → IsValid x)
    → IsChecked xs (i + 1) (found || begins)
checked_more xs i x found begins before is begins_is valid = record {
  valid = one_more IsGood xs i x is before.valid valid;
  some = some found begins before.some begins_is;
  none = λ none. one_more IsOut xs i x is (before.none (grind arith)) (grind arith);
}
  where
    some : (a b : Bool) → (a ≡ true → HasOne xs) → b ≡ is_admissible x → (a || b) ≡ true → HasOne xs
    some true b had b_is e = had refl
    some false b had b_is e = (x, there xs i x is, sym b_is ∙ e)
