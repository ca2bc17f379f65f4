-- Files by their paths.
use Rattle.std.specs.Prelude.{◌≡◌, ◌≢◌, ℕ, List, [], ◌∷◌, ◌++◌, Option, Some, None, Result, IsErr, MatchResult, ⊤}
use Rattle.std.specs.Prelude.{option_map, codes}
use Rattle.std.specs.IoError.{error_kind}
use Rattle.std.specs.declared.io.ErrorKind.TheVariants.{OutOfMemory}
use Rattle.byte_device.specs.declared.disks.CannotOpen.{CannotOpen}

-- the path of a file, as it is passed to the system
abbrev pub Path : Type 0
Path = List ℕ

-- the known state of the file at a path: unknown; the file of the system at this path; absent; or present, with its
-- bytes
pub data FileAt : Type 0 where
  Unknown : FileAt
  At : (path : Path) → FileAt
  Missing : FileAt
  Holding : (bytes : List ℕ) → FileAt

-- the known state of a file with these bytes, or of an absent one
abbrev pub file_of : Option (List ℕ) → FileAt
file_of None = Missing
file_of (Some bytes) = Holding bytes

-- The result of opening a file with this known state. For a file of the system it is the file that was opened at this
-- path, or a failure for another reason than memory.
abbrev pub IsOpened : {S : Type 0} → (S → Option (List ℕ)) → (S → ℕ) → (S → List Path) → FileAt → Result S CannotOpen
    → Type 0
IsOpened left failures path_of Unknown input = ⊤
IsOpened left failures path_of (At path) input =
    MatchResult input (λ source. path_of source ≡ path ∷ []) (λ refused. error_kind refused.reason ≢ OutOfMemory)
IsOpened left failures path_of Missing input = IsErr input
IsOpened left failures path_of (Holding bytes) input =
    MatchResult input (λ source. (left source ≡ Some bytes) × (failures source ≡ 0)) (λ _. ⊥)

-- the paths that were opened, if known, followed by these
abbrev pub opened_with : Option (List Path) → List Path → Option (List Path)
opened_with opened paths = option_map (λ before. before ++ paths) opened

-- the text for an output whose file cannot be created
unfoldable pub cannot_create_text : List ℕ
cannot_create_text = codes "output: cannot create"
