-- The file at the path of an output after a crash that follows some of the calls for it. A rename replaces a file in
-- one step, and synced bytes survive.
use Rattle.std.specs.Prelude.{◌≡◌, ℕ, Bool, true, false, ◌||◌, List, [], ◌++◌, fold, Option, Some}
use Rattle.std.specs.Str.{bytes_eq}
use Rattle.cli_files.specs.FileCalls.{FileCall, Creates, Opens, Writes, Syncs, Renames, SyncsFolder, Removes}
use Rattle.cli_files.specs.FileCalls.{Finds, FindsNothing, FindsLink, FindsNoLink, FindsTaken, Leads, Begins, Gives}
use Rattle.cli_files.specs.FileCalls.{Compares, WantsMemory, Refuses}

-- The draft after some calls: its bytes, whether they are synced, whether it was renamed to the target, whether the
-- rename is synced, and whether a call was made on the target itself.
pub record DraftState : Type 0 where
  pub bytes : List ℕ
  pub synced : Bool
  pub renamed : Bool
  pub kept : Bool
  pub touched : Bool

-- there is no draft
abbrev pub no_draft : DraftState
no_draft = record { bytes = []; synced = false; renamed = false; kept = false; touched = false }

-- the draft after one more call; a call that only reads, or failed, changes nothing
abbrev pub behind : List ℕ → DraftState → FileCall → DraftState
behind target d (Finds path found) = d
behind target d (FindsNothing path) = d
behind target d (FindsLink path) = d
behind target d (FindsNoLink path) = d
behind target d (FindsTaken path) = d
behind target d (Leads path to) = d
behind target d (Begins path bytes) = d
behind target d (Gives path bytes) = d
behind target d (Compares draft to lost) = d
behind target d (WantsMemory path) = d
behind target d (Refuses path) = d
behind target d (Creates path mode) = record d {
  bytes = [];
  synced = false;
  touched = d.touched
      || bytes_eq path target;
}
behind target d (Opens path) = record d { touched = d.touched || bytes_eq path target }
behind target d (Writes bytes) = record d { bytes = d.bytes ++ bytes; synced = false }
behind target d Syncs = record d { synced = true }
behind target d (Renames draft to) = record d { renamed = d.renamed || bytes_eq to target }
behind target d (SyncsFolder path) = record d { kept = d.renamed }
behind target d (Removes path) = record d { touched = d.touched || bytes_eq path target }

-- the draft after all calls
abbrev pub replay : List ℕ → List FileCall → DraftState
replay target calls = fold (behind target) no_draft calls

-- The possible content of the target after a crash: the earlier file, unless the rename is synced; the draft, if it was
-- renamed and its bytes are synced; and anything, if it was renamed and they are not synced, or if the target itself
-- was changed.
pub data MayBeAt (before : Option (List ℕ)) (d : DraftState) : Option (List ℕ) → Type 0 where
  Old : d.kept ≡ false → MayBeAt before d before
  New : d.renamed ≡ true → d.synced ≡ true → MayBeAt before d (Some d.bytes)
  Torn : d.renamed ≡ true → d.synced ≡ false → (left : Option (List ℕ)) → MayBeAt before d left
  Touched : d.touched ≡ true → (left : Option (List ℕ)) → MayBeAt before d left
