-- The frames at the turns of an image, as a sink receives them.
use Rattle.std.specs.Prelude.{ℕ, List, [], ◌++◌, ◌≡◌, ◌<◌, length, map, slice_index_or, Option, Some, All, Contains}
use Rattle.dwarf_source_frames.specs.AddressFrames.{AreFramesBy}
use Rattle.dwarf_source_frames.specs.DebugSections.{DebugSectionsRecord, debug_sections}
use Rattle.dwarf_source_frames.specs.Frames.{FrameRecord}
use Rattle.dwarf_source_frames.specs.UnitAddresses.{IsUnitOf}
use Rattle.dwarf_asked_addresses.specs.Rising.{AreRising}
use Rattle.dwarf_frame_changes.specs.Turns.{IsTurnBy}

-- an address and its frames
pub record TurnRecord : Type 0 where
  pub address : ℕ
  pub frames : List FrameRecord

-- a receiver that had received some turns has then received these too
abbrev pub Takes : (List TurnRecord → Type 0) → (List TurnRecord → Type 0) → List TurnRecord → Type 0
Takes has_before has_now given = (before : List TurnRecord) → has_before before → has_now (before ++ given)

-- an address without frames
abbrev pub without_frames : ℕ → TurnRecord
without_frames address = record { address = address; frames = [] }

-- the addresses of these turns
abbrev pub addresses : List TurnRecord → List ℕ
addresses turns = map (λ turn. turn.address) turns

-- no two numbers of a list are equal
abbrev pub AreDistinct : List ℕ → Type 0
AreDistinct all = (i j d : ℕ) → i < j → j < length all → slice_index_or all i d ≡ slice_index_or all j d → ⊥

-- a turn with its frames
abbrev pub IsTurnWithFrames : DebugSectionsRecord → TurnRecord → Type 0
IsTurnWithFrames sections turn = IsTurnBy sections turn.address × AreFramesBy sections turn.address turn.frames

-- an address has a unit
abbrev pub HasUnit : DebugSectionsRecord → ℕ → Type 0
HasUnit sections address = (place : ℕ) × IsUnitOf sections address (Some place)

-- each turn, once, with its frames
pub record AreTurnsBy (sections : DebugSectionsRecord) (turns : List TurnRecord) : Type 0 where
  pub each : All (IsTurnWithFrames sections) turns
  pub all : (a : ℕ) → IsTurnBy sections a → Contains (addresses turns) a
  pub once : AreDistinct (addresses turns)

-- each turn of an image, once, with its frames
abbrev pub AreTurnsOf : List ℕ → List TurnRecord → Type 0
AreTurnsOf image turns = AreTurnsBy (debug_sections image) turns

-- each turn that has a unit, once, with its frames
pub record AreTurnsWithUnits (sections : DebugSectionsRecord) (turns : List TurnRecord) : Type 0 where
  pub each : All (λ turn. HasUnit sections turn.address × IsTurnWithFrames sections turn) turns
  pub all : (a place : ℕ) → IsUnitOf sections a (Some place) → IsTurnBy sections a → Contains (addresses turns) a
  pub once : AreDistinct (addresses turns)

-- each turn whose unit is at this offset, or each that has no unit, ascending, with its frames
pub record AreTurnsIn (sections : DebugSectionsRecord) (place : Option ℕ) (turns : List TurnRecord) : Type 0 where
  pub each : All (λ turn. IsUnitOf sections turn.address place × IsTurnWithFrames sections turn) turns
  pub all : (a : ℕ) → IsUnitOf sections a place → IsTurnBy sections a → Contains (addresses turns) a
  pub rising : AreRising (addresses turns)
