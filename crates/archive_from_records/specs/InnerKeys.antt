-- The part of an archive that is held while queries by key are answered: the terms of inner functions. No contract of a
-- public function has them.
use Rattle.std.specs.Prelude.{◌≡◌, ℕ, List, [], ◌∷◌, ◌++◌, Bool, true, false, ◌&&◌, take, drop, Contains}
use Rattle.std.specs.Prelude.{Option, Some, None}
use Rattle.std.specs.Option.{ForSome}
use Rattle.std.specs.Ordering.{nat_cmp, is_lt}
use Rattle.std.specs.Str.{bytes_eq}
use Rattle.std.specs.Cmp.Lexicographic.{slice_cmp}
use Rattle.archive_core.specs.declared.keys.SliceKey.{SliceKey}
use Rattle.archive_core.specs.Key.{key_bytes}
use Rattle.archive_core.specs.Content.{Operations, is_admission}
use Rattle.archive_core.specs.Part.{part}
use Rattle.archive_records.specs.declared.kind.TextKind.TheVariants.{Archive}
use Rattle.archive_from_records.specs.Keys.{AreInOrder, first_key}
use Rattle.archive_records.specs.Reader.{MakeThemselves, set_of}

-- the bytes of a record's key
abbrev pub prefix_of : List ℕ → List ℕ
prefix_of r = take 24 (drop 1 r)

-- an admission with the key of these bytes
abbrev pub admits_under : List ℕ → List ℕ → Bool
admits_under prefix r = is_admission r && bytes_eq prefix (prefix_of r)

-- the first of the keys has these bytes
abbrev pub is_first : List ℕ → List SliceKey → Bool
is_first prefix [] = false
is_first prefix (key ∷ keys) = bytes_eq (key_bytes key) prefix

-- the key is below that of these bytes; without bytes, each key is
abbrev pub is_passed : SliceKey → Option (List ℕ) → Bool
is_passed key None = true
is_passed key (Some prefix) = is_lt (slice_cmp nat_cmp (key_bytes key) prefix)

-- records that begin with an admission with the key of these bytes; without bytes, no records
abbrev pub Begins : Option (List ℕ) → List (List ℕ) → Type 0
Begins None records = records ≡ []
Begins (Some prefix) records =
    (x : List ℕ) × (more : List (List ℕ)) × (records ≡ x ∷ more) × (is_admission x ≡ true) × (prefix_of x ≡ prefix)

-- The admissions among these records with the key of these bytes are held, and no admission has a greater key.
pub record IsHeldUnder (prefix : List ℕ) (records : List (List ℕ)) (held : Operations) : Type 0 where
  pub held_is : held ≡ part (set_of records) (admits_under prefix)
  pub none_above : (r : List ℕ) → Contains records r → is_admission r ≡ true
      → is_lt (slice_cmp nat_cmp prefix (prefix_of r)) ≡ false

-- Queries with these keys are left, the admissions with the first key are held, and the answers so far are those of the
-- records together with any that may follow them.
pub record AreAsked (MayCome : List (List ℕ) → Type 0) (left : List SliceKey) (Answered : Operations → Type 0)
    (held : Operations) (records : List (List ℕ)) : Type 0 where
  pub in_order : AreInOrder left
  pub holds : ForSome (first_key left) (λ key. IsHeldUnder (key_bytes key) records held)
  pub answered : (behind : List (List ℕ)) → MayCome behind → MakeThemselves Archive (records ++ behind)
      → Answered (set_of (records ++ behind))
