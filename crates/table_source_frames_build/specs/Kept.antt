-- The locations, scopes, files and texts of frames, each once, with its number from 1 on. A scope is a frame without
-- its line and column, and the location that it is inlined into; a location is a scope with a line and a column.
use Rattle.std.specs.Prelude.{ℕ, zero, suc, List, [], ◌∷◌, ◌++◌, ◌≡◌, ◌<◌, ◌≤◌, ◌⊎◌, length, slice_index_or}
use Rattle.std.specs.Prelude.{Option, Some, None}
use Rattle.dwarf_lines.specs.Paths.{PathRecord}
use Rattle.dwarf_source_frames.specs.Frames.{FrameRecord}
use Rattle.table_source_frames_build.specs.Numbering.{IsNumber}
use Rattle.table_source_frames_build.specs.declared.keys.FileKey.{FileKey}
use Rattle.table_source_frames_build.specs.declared.keys.LocationKey.{LocationKey}
use Rattle.table_source_frames_build.specs.declared.keys.ScopeKey.{ScopeKey}

-- texts; files, scopes and locations by the numbers of their parts
pub record KeptRecord : Type 0 where
  pub texts : List (List ℕ)
  pub files : List FileKey
  pub scopes : List ScopeKey
  pub locations : List LocationKey

-- the element with a number, or another element
abbrev pub numbered_or : {A : Type 0} → List A → A → ℕ → A
numbered_or all other zero = other
numbered_or all other (suc index) = slice_index_or all index other

-- the value of a number; 0 has none
abbrev pub at_number : {A : Type 0} → (ℕ → A) → ℕ → Option A
at_number told zero = None
at_number told (suc index) = Some (told (suc index))

-- the text with a number
abbrev pub text_at : KeptRecord → ℕ → List ℕ
text_at k number = numbered_or k.texts [] number

-- the key of the file with a number
abbrev pub file_key_at : KeptRecord → ℕ → FileKey
file_key_at k number = numbered_or k.files (record { base = 0; directory = 0; name = 0 }) number

-- the path with a key
abbrev pub path_of_key : KeptRecord → FileKey → PathRecord
path_of_key k key = record { base = text_at k key.base; directory = text_at k key.directory; name = text_at k key.name }

-- the path of the file with a number
abbrev pub file_at : KeptRecord → ℕ → PathRecord
file_at k number = path_of_key k (file_key_at k number)

-- the key of the scope with a number
abbrev pub scope_key_at : KeptRecord → ℕ → ScopeKey
scope_key_at k number = numbered_or k.scopes (record { caller = 0; name = 0; file = 0 }) number

-- the key of the location with a number
abbrev pub location_key_at : KeptRecord → ℕ → LocationKey
location_key_at k number = numbered_or k.locations (record { scope = 0; line = 0; column = 0 }) number

-- the number of the location that the location with a key is inlined into, or 0
abbrev pub caller_in : KeptRecord → LocationKey → ℕ
caller_in k key = (scope_key_at k key.scope).caller

-- the frame of a scope at a line and a column
abbrev pub frame_in : KeptRecord → ScopeKey → ℕ → ℕ → FrameRecord
frame_in k scope line column =
    record {
      name = at_number (text_at k) scope.name;
      path = at_number (file_at k) scope.file;
      line = line;
      column = column;
    }

-- the frame with a key
abbrev pub frame_of_key : KeptRecord → LocationKey → FrameRecord
frame_of_key k key = frame_in k (scope_key_at k key.scope) key.line key.column

-- the numbers of the scopes of a location and of those that it is inlined into, the innermost first; at most `room` of
-- them
unfoldable pub scope_numbers_within : KeptRecord → ℕ → ℕ → List ℕ
scope_numbers_within k zero number = []
scope_numbers_within k (suc room) zero = []
scope_numbers_within k (suc room) (suc index) =
    (location_key_at k (suc index)).scope ∷ scope_numbers_within k room (caller_in k (location_key_at k (suc index)))

-- the numbers of the scopes of a location and of those that it is inlined into, the innermost first
unfoldable pub scope_numbers_of : KeptRecord → ℕ → List ℕ
scope_numbers_of k number = scope_numbers_within k number number

-- the frames of a location, the innermost first; at most `room` of them
unfoldable pub chain_within : KeptRecord → ℕ → ℕ → List FrameRecord
chain_within k zero number = []
chain_within k (suc room) zero = []
chain_within k (suc room) (suc index) =
    frame_of_key k (location_key_at k (suc index))
    ∷ chain_within k room (caller_in k (location_key_at k (suc index)))

-- the frames of a location, the innermost first; 0 has none
unfoldable pub chain_at : KeptRecord → ℕ → List FrameRecord
chain_at k number = chain_within k number number

-- each part of a file's key is the number of a text
pub record IsFileKey (k : KeptRecord) (key : FileKey) : Type 0 where
  pub base : IsNumber (length k.texts) key.base
  pub directory : IsNumber (length k.texts) key.directory
  pub name : IsNumber (length k.texts) key.name

-- each part of the key of a scope is the number of a kept thing, or 0
pub record IsScopeKey (k : KeptRecord) (key : ScopeKey) : Type 0 where
  pub name : key.name ≤ length k.texts
  pub file : key.file ≤ length k.files
  pub caller : key.caller ≤ length k.locations

-- the location with a number has a kept scope, and is not inlined into itself or a later one
pub record IsLocationKey (k : KeptRecord) (number : ℕ) (key : LocationKey) : Type 0 where
  pub scope : IsNumber (length k.scopes) key.scope
  pub caller : caller_in k key < number

-- each thing is kept once, and each number in a key is that of a kept thing
pub record IsKept (k : KeptRecord) : Type 0 where
  pub texts : (m n : ℕ) → IsNumber (length k.texts) m → IsNumber (length k.texts) n
      → text_at k m ≡ text_at k n → m ≡ n
  pub files : (m n : ℕ) → IsNumber (length k.files) m → IsNumber (length k.files) n
      → file_key_at k m ≡ file_key_at k n → m ≡ n
  pub scopes : (m n : ℕ) → IsNumber (length k.scopes) m → IsNumber (length k.scopes) n
      → scope_key_at k m ≡ scope_key_at k n → m ≡ n
  pub locations : (m n : ℕ) → IsNumber (length k.locations) m → IsNumber (length k.locations) n
      → location_key_at k m ≡ location_key_at k n → m ≡ n
  pub each_file : (n : ℕ) → IsNumber (length k.files) n → IsFileKey k (file_key_at k n)
  pub each_scope : (n : ℕ) → IsNumber (length k.scopes) n → IsScopeKey k (scope_key_at k n)
  pub each_location : (n : ℕ) → IsNumber (length k.locations) n → IsLocationKey k n (location_key_at k n)

-- an element has this number in the new list, which is the old list, or the old list and the element, if it was missing
pub record IsNumberedIn {A : Type 0} (other : A) (old : List A) (x : A) (number : ℕ) (new : List A) : Type 0 where
  pub is_number : IsNumber (length new) number
  pub is : numbered_or new other number ≡ x
  pub kept : (new ≡ old)
      ⊎ ((new ≡ old ++ x ∷ []) × ((n : ℕ) → IsNumber (length old) n → numbered_or old other n ≡ x → ⊥))

-- the new list begins with the old one
pub record GoesOn {A : Type 0} (old new : List A) : Type 0 where
  pub more : List A
  pub is : new ≡ old ++ more

-- nothing is removed or changed
pub record Grows (old new : KeptRecord) : Type 0 where
  pub texts : GoesOn old.texts new.texts
  pub files : GoesOn old.files new.files
  pub scopes : GoesOn old.scopes new.scopes
  pub locations : GoesOn old.locations new.locations

-- the number of a text
pub record IsText (k : KeptRecord) (number : ℕ) (text : List ℕ) : Type 0 where
  pub is_number : IsNumber (length k.texts) number
  pub is : text_at k number ≡ text

-- the number of a name, or 0
pub record IsName (k : KeptRecord) (number : ℕ) (name : Option (List ℕ)) : Type 0 where
  pub within : number ≤ length k.texts
  pub is : at_number (text_at k) number ≡ name

-- the key of a path
pub record IsKeyOf (k : KeptRecord) (key : FileKey) (path : PathRecord) : Type 0 where
  pub is_key : IsFileKey k key
  pub is : path_of_key k key ≡ path

-- the number of a file, or 0
pub record IsFile (k : KeptRecord) (number : ℕ) (path : Option PathRecord) : Type 0 where
  pub within : number ≤ length k.files
  pub is : at_number (file_at k) number ≡ path

-- the number of the scope with a key
pub record IsScope (k : KeptRecord) (number : ℕ) (key : ScopeKey) : Type 0 where
  pub is_number : IsNumber (length k.scopes) number
  pub is : scope_key_at k number ≡ key

-- the number of a location with these frames
pub record IsLocation (k : KeptRecord) (number : ℕ) (frames : List FrameRecord) : Type 0 where
  pub within : number ≤ length k.locations
  pub is : chain_at k number ≡ frames

-- each number still has its name, path or frames
pub record KeepsNumbers (old new : KeptRecord) : Type 0 where
  pub names : (number : ℕ) (name : Option (List ℕ)) → IsName old number name → IsName new number name
  pub paths : (number : ℕ) (path : Option PathRecord) → IsFile old number path → IsFile new number path
  pub frames : (number : ℕ) (frames : List FrameRecord) → IsLocation old number frames → IsLocation new number frames
