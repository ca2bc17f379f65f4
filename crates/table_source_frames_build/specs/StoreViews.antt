-- A line store, as the definitions have it.
use Rattle.std.specs.Prelude.{List}
use Rattle.table_source_frames.specs.Steps.{StepRecord}
use Rattle.table_source_frames_build.specs.Kept.{KeptRecord}

-- a store: the frames of addresses in the order of arrival, and the numbered texts, files and locations
pub record StoreRecord : Type 0 where
  pub taken : List StepRecord
  pub kept : KeptRecord
