-- The keys of frames, and the addresses of the frames under these, in order: definitions for private functions. No
-- public contract uses them.
use Rattle.std.specs.Prelude.{◌≡◌, ◌⊎◌, ℕ, Bool, List, [], ◌∷◌, All, Contains, drop, map, take}
use Rattle.std.specs.List.{list_any}
use Rattle.std.specs.List.Sorted.{IsStrictlySortedBy}
use Rattle.std.specs.Str.{bytes_eq}
use Rattle.std.specs.Ordering.{eq_by_cmp, nat_cmp, ordering_then}
use Rattle.std.specs.Cmp.Lexicographic.{slice_cmp}
use Rattle.std.specs.declared.cmp.Ordering.{Ordering}
use Rattle.std.specs.declared.cmp.Ordering.TheVariants.{Less}
use Rattle.archive_core.specs.Key.{key_bytes}
use Rattle.command_queries.specs.Symbolicate.{asked_of}
use Rattle.archive_core.specs.declared.keys.SliceKey.{SliceKey}
use Rattle.text_input_files.specs.declared.frame.Frame.{Frame}
use Rattle.archive_core.specs.declared.lookup.Where.{Where}
use Rattle.archive_core.specs.declared.lookup.Where.TheVariants.{File, Loaded}
use Rattle.command_frames.specs.declared.places.AskedKey.{AskedKey}
use Rattle.command_frames.specs.declared.places.AskedPlace.{AskedPlace}
use Rattle.command_frames.specs.Asking.{keys_of}

-- an address as numbers; different addresses have different numbers
abbrev pub numbers_of : Where → List ℕ
numbers_of (File address) = 0 ∷ (0 ∷ (address ∷ []))
numbers_of (Loaded load address) = 1 ∷ (load ∷ (address ∷ []))

-- the order of keys, by their bytes
abbrev pub key_cmp : SliceKey → SliceKey → Ordering
key_cmp a b = slice_cmp nat_cmp (key_bytes a) (key_bytes b)

-- the order of addresses
abbrev pub place_cmp : Where → Where → Ordering
place_cmp a b = slice_cmp nat_cmp (numbers_of a) (numbers_of b)

-- the order in which addresses are asked: by key, and under one key by address
abbrev pub asked_cmp : AskedPlace → AskedPlace → Ordering
asked_cmp a b = ordering_then (key_cmp a.key b.key) (place_cmp a.place b.place)

-- the address of a frame, under its key
abbrev pub place_of : Frame → AskedPlace
place_of frame = record { key = frame.key; place = asked_of frame.load frame.address }

-- the address is asked under a key with these bytes
abbrev pub has_key : SliceKey → AskedPlace → Bool
has_key key one = eq_by_cmp (slice_cmp nat_cmp) (key_bytes one.key) (key_bytes key)

-- These are the addresses of frames: each is that of a frame, and each frame has one.
pub record AreAskedOf (frames : List Frame) (asked : List AskedPlace) : Type 0 where
  pub of_frames : (one : AskedPlace) → Contains asked one → (frame : Frame) × Contains frames frame
      × (one ≡ place_of frame)
  pub whole : (frame : Frame) → Contains frames frame → (one : AskedPlace) × Contains asked one
      × (key_bytes one.key ≡ key_bytes frame.key) × (one.place ≡ asked_of frame.load frame.address)

-- ---- under keys

-- The keys ascend, each once, and so do the addresses under each.
pub record AreInOrder (asked : List AskedKey) : Type 0 where
  pub keys : IsStrictlySortedBy (λ a b. key_cmp a.key b.key) asked
  pub places : All (λ one. IsStrictlySortedBy place_cmp one.places.items) asked

-- One of these keys has these bytes, and the address is under it.
pub record HasAsked (asked : List AskedKey) (bytes : List ℕ) (place : Where) : Type 0 where
  pub one : AskedKey
  pub is_one : Contains asked one
  pub key_is : key_bytes one.key ≡ bytes
  pub place_in : Contains one.places.items place

-- these are keys of the addresses
abbrev pub AreOfPlaces : List AskedPlace → List AskedKey → Type 0
AreOfPlaces asked keys = All (λ one. Contains (map (λ place. key_bytes place.key) asked) (key_bytes one.key)) keys

-- These are the keys of the addresses, in order, each with its addresses.
pub record AreGrouped (asked : List AskedPlace) (keys : List AskedKey) : Type 0 where
  pub order : AreInOrder keys
  pub of_places : AreOfPlaces asked keys
  pub whole : (one : AskedPlace) → Contains asked one → HasAsked keys (key_bytes one.key) one.place

-- Each address is left, or under its key. Those that are left ascend, and have higher keys.
pub record AreGroupedSoFar (asked left : List AskedPlace) (keys : List AskedKey) : Type 0 where
  pub up : IsStrictlySortedBy asked_cmp left
  pub of_asked : (one : AskedPlace) → Contains left one → Contains asked one
  pub order : AreInOrder keys
  pub of_places : AreOfPlaces asked keys
  pub below : (one : AskedKey) (next : AskedPlace) → Contains keys one → Contains left next
      → key_cmp one.key next.key ≡ Less
  pub each : (one : AskedPlace) → Contains asked one → Contains left one ⊎ HasAsked keys (key_bytes one.key) one.place

-- These are the keys of frames, in order, with the address of each frame.
pub record AreKeysOf (frames : List Frame) (asked : List AskedKey) : Type 0 where
  pub order : AreInOrder asked
  pub of_frames : All (λ one. Contains (keys_of frames) (key_bytes one.key)) asked
  pub whole : (frame : Frame) → Contains frames frame
      → HasAsked asked (key_bytes frame.key) (asked_of frame.load frame.address)

-- the bytes after the tag of a record begin with one of the keys
abbrev pub is_asked : List AskedKey → List ℕ → Bool
is_asked asked r = list_any (λ one. bytes_eq (key_bytes one.key) (take 24 (drop 1 r))) asked
