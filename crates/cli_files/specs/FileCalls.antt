-- The calls to the system for an output.
use Rattle.std.specs.Prelude.{ℕ, Bool, true, false, ◌&&◌, ◌==◌, if◌then◌else◌, List, [], ◌∷◌, ◌++◌, map, string_bytes}
use Rattle.std.specs.Prelude.{◌≡◌, Option, Some, None, Result, Ok, Err, drop, length, min, replicate}
use Rattle.std.specs.Io.KnownBytes.{Consumes}
use Rattle.std.specs.IoError.{error_kind}
use Rattle.std.specs.declared.io.Error.{Error}
use Rattle.std.specs.declared.io.ErrorKind.{ErrorKind}
use Rattle.std.specs.declared.io.ErrorKind.TheVariants.{AlreadyExists, NotFound, OutOfMemory}
use Rattle.std.specs.declared.string.String.{String}
use Rattle.cli_files.specs.declared.found.Found.{Found}

-- A call with the reply of the system. A path was resolved to a file or to nothing; a path was found to be a link; a
-- link was resolved to a path; the first bytes of a file were read (none if it is empty), or its next bytes. Two
-- archives were compared: the first neither has nor covers a number of records of the second. A new file was created
-- with a mode, or an existing one was opened and truncated; bytes were written to it and synced to the disk; it was
-- renamed and the folder synced; or it was removed. Or a call on a path failed: memory ran out, the file to be created
-- exists, or another error occurred.
pub data FileCall : Type 0 where
  Finds : (path : List ℕ) → (found : Found) → FileCall
  FindsNothing : (path : List ℕ) → FileCall
  FindsLink : (path : List ℕ) → FileCall
  FindsNoLink : (path : List ℕ) → FileCall
  FindsTaken : (path : List ℕ) → FileCall
  Leads : (path : List ℕ) → (target : List ℕ) → FileCall
  Begins : (path : List ℕ) → (bytes : List ℕ) → FileCall
  Gives : (path : List ℕ) → (bytes : List ℕ) → FileCall
  Compares : (draft : List ℕ) → (target : List ℕ) → (lost : ℕ) → FileCall
  Creates : (path : List ℕ) → (mode : ℕ) → FileCall
  Opens : (path : List ℕ) → FileCall
  Writes : (bytes : List ℕ) → FileCall
  Syncs : FileCall
  Renames : (draft : List ℕ) → (target : List ℕ) → FileCall
  SyncsFolder : (path : List ℕ) → FileCall
  Removes : (path : List ℕ) → FileCall
  WantsMemory : (path : List ℕ) → FileCall
  Refuses : (path : List ℕ) → FileCall

-- the call with this number, as the log notes it, with the numbers of the reply
abbrev pub call_of : List ℕ → List ℕ → List ℕ → FileCall
call_of (call ∷ mode ∷ []) path other = if call == 0 then Creates path mode else Compares path other mode
call_of (call ∷ size ∷ device ∷ number ∷ mode ∷ user ∷ group ∷ []) path other = Finds path (record {
  is_file = call == 7;
  size = size;
  device = device;
  number = number;
  mode = mode;
  user = user;
  group = group;
})
call_of (call ∷ []) path other =
    if call == 1 then Opens path
    else if call == 2 then Writes path
    else if call == 3 then Syncs
    else if call == 4 then Renames path other
    else if call == 5 then SyncsFolder path
    else if call == 6 then Removes path
    else if call == 9 then FindsLink path
    else if call == 10 then FindsNoLink path
    else if call == 11 then Leads path other
    else if call == 12 then Begins path other
    else if call == 13 then Gives path other
    else if call == 15 then FindsNothing path
    else if call == 16 then WantsMemory path
    else if call == 18 then FindsTaken path
    else Refuses path
call_of _ path other = Refuses path

-- ---- entries

-- the entry for a call on a path that failed with this kind of error
abbrev pub failed : List ℕ → ErrorKind → FileCall
failed path NotFound = FindsNothing path
failed path OutOfMemory = WantsMemory path
failed path kind = Refuses path

-- the entries for a call that was done, or failed
abbrev pub answered : {T : Type 0} → FileCall → List ℕ → Result T Error → List FileCall
answered call path (Ok done) = call ∷ []
answered call path (Err error) = failed path (error_kind error) ∷ []

-- the entries for a call of which only a failure is noted
abbrev pub refused : {T : Type 0} → List ℕ → Result T Error → List FileCall
refused path (Ok done) = []
refused path (Err error) = failed path (error_kind error) ∷ []

-- the entries for the file that a path leads to
abbrev pub found : List ℕ → Result Found Error → List FileCall
found path (Ok file) = Finds path file ∷ []
found path (Err error) = failed path (error_kind error) ∷ []

-- the entries for whether a path is itself a link
abbrev pub linked : List ℕ → Bool → List FileCall
linked path true = FindsLink path ∷ []
linked path false = FindsNoLink path ∷ []

-- the entries for the path that a path leads to
abbrev pub led : {A : Type 0} → List ℕ → Result (String A) Error → List FileCall
led path (Ok target) = Leads path (string_bytes target) ∷ []
led path (Err error) = failed path (error_kind error) ∷ []

-- the first bytes of a file, from the result of reading them: no bytes if it is empty
abbrev pub first_bytes : Option (List ℕ) → List ℕ
first_bytes None = []
first_bytes (Some bytes) = bytes

-- The result of reading a file of this size, with the bytes left before and after: its next eight bytes, padded with
-- zeros if fewer are left; `None` if the file is empty.
abbrev pub HasRead : Option (List ℕ) → Option (List ℕ) → ℕ → Option (List ℕ) → Type 0
HasRead before after size None = (size ≡ 0) × (after ≡ before)
HasRead before after size (Some bytes) =
    (read : List ℕ) × (length read ≡ min 8 size) × Consumes before after read
    × (bytes ≡ read ++ drop (length read) (replicate 8 0))

-- the entries for the first bytes of the file at a path
abbrev pub begun : List ℕ → Result (Option (List ℕ)) Error → List FileCall
begun path (Ok beginning) = Begins path (first_bytes beginning) ∷ []
begun path (Err error) = failed path (error_kind error) ∷ []

-- the entry for a file that was not created at a path, perhaps because one exists there
abbrev pub uncreated : List ℕ → ErrorKind → FileCall
uncreated path AlreadyExists = FindsTaken path
uncreated path kind = failed path kind

-- the entries for the creation of a file with this mode
abbrev pub created : {T : Type 0} → List ℕ → ℕ → Result T Error → List FileCall
created path mode (Ok done) = Creates path mode ∷ []
created path mode (Err error) = uncreated path (error_kind error) ∷ []

-- ---- lists of calls

-- the bytes that the calls write
abbrev pub bytes_in : List FileCall → List ℕ
bytes_in [] = []
bytes_in (Writes bytes ∷ calls) = bytes ++ bytes_in calls
bytes_in (_ ∷ calls) = bytes_in calls

-- a call that only reads, or failed
abbrev pub is_probe : FileCall → Bool
is_probe (Creates path mode) = false
is_probe (Opens path) = false
is_probe (Writes bytes) = false
is_probe Syncs = false
is_probe (Renames draft target) = false
is_probe (SyncsFolder path) = false
is_probe (Removes path) = false
is_probe _ = true

-- the calls only read, or failed
abbrev pub are_probes : List FileCall → Bool
are_probes [] = true
are_probes (call ∷ calls) = is_probe call && are_probes calls

-- the calls that find these paths in use
abbrev pub taking : List (List ℕ) → List FileCall
taking paths = map FindsTaken paths

-- the pieces of a text are written to a draft with this mode
abbrev pub drafting : List ℕ → ℕ → List (List ℕ) → List FileCall
drafting draft mode pieces = Creates draft mode ∷ map Writes pieces

-- the draft replaces the target
abbrev pub publishing : List ℕ → List ℕ → List ℕ → List FileCall
publishing draft target folder = Syncs ∷ Renames draft target ∷ SyncsFolder folder ∷ []

-- the pieces of a text are written to the file at a path
abbrev pub writing : List ℕ → List (List ℕ) → List FileCall
writing path pieces = Opens path ∷ map Writes pieces
