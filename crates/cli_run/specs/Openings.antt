-- Inputs that were not opened, and how that is reported.
use Rattle.std.specs.Prelude.{◌≡◌, ◌≢◌, ◌⊎◌, ℕ, List, [], ◌∷◌, Some}
use Rattle.std.specs.IoError.{error_kind}
use Rattle.std.specs.declared.io.ErrorKind.TheVariants.{OutOfMemory as WantsMemory}
use Rattle.cli_files.specs.InputStates.{Told, Unopened}
use Rattle.cli_files.specs.declared.input_state.Unopened.TheVariants.{Refused}
use Rattle.byte_device.specs.Disks.{At, FileAt, Holding, Missing, Path}
use Rattle.byte_device.specs.declared.disks.CannotOpen.{CannotOpen}

-- The input was read, and its disk refused it: only its own path was opened, once; memory did not run out, as far as
-- the disk reports; and no file is known to be there.
pub record IsRefusedByDisk {S : Type 0} (told : Told S) (input : S) : Type 0 where
  pub refused : CannotOpen
  pub stage_is : told.stage input ≡ Unopened (Refused refused)
  pub opened : (paths : List Path) → told.opened input ≡ Some paths → paths ≡ told.path input ∷ []
  pub wanting : (paths : List Path) → told.wanting input ≡ Some paths → paths ≡ []
  pub reason : (path : Path) → told.file input ≡ At path → error_kind refused.reason ≢ WantsMemory
  pub absent : (bytes : List ℕ) → told.file input ≡ Holding bytes → ⊥

-- The disks of both inputs have the same file for them, or neither has one.
pub record HaveOneFile {R S : Type 0} (told : Told R) (also : Told S) (input : R) (other : S) : Type 0 where
  pub file : FileAt
  pub known : (file ≡ Missing) ⊎ ((bytes : List ℕ) × (file ≡ Holding bytes))
  pub here : told.file input ≡ file
  pub there : also.file other ≡ file
