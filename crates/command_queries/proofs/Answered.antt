-- What is told of addresses under a key.
use Rattle.std.proofs.Common.{◌≡◌, ℕ, Bool, true, false, List, [], ◌∷◌, map, Option, Result, Ok, Err, refl, ap}
use Rattle.std.specs.List.{AllByRecursion, AllZip, Contains}
use Rattle.archive_core.specs.Content.{Operations}
use Rattle.archive_core.specs.declared.keys.SliceKey.{SliceKey}
use Rattle.archive_core.proofs.Members.{in_map}
use Rattle.text_input_files.specs.declared.frame.Frame.{Frame}
use Rattle.command_common.proofs.Parts.{together_tells}
use Rattle.command_common.specs.declared.faults.CommandFault.{CommandFault}
use Rattle.command_common.specs.declared.faults.CommandFault.TheVariants.{Input, Output, Report, OutOfMemory}
use Rattle.command_common.specs.declared.faults.Status.{Status}
use Rattle.command_common.specs.Ends.{CarriesReport, EndsReport, Query}
use Rattle.command_common.specs.Inputs.{Reader}
use Rattle.command_common.specs.Outputs.{Writer}
use Rattle.command_queries.specs.Frames.{IsFrameAnswered, TellsFrames, frames_held, frames_under_key, prints_addresses}
use Rattle.command_queries.specs.Slices.{IsAnsweringRow, WithSlices}
use Rattle.command_queries.specs.Symbolicate.{Answered, IsAnswered, TellsAddresses, TellsAddressesWith, symbolicate}

-- ---- the frames of one key

-- each is under the key
pub under_key : (key : SliceKey) (load : Option ℕ) (addresses : List ℕ) (frame : Frame)
    → Contains (frames_under_key key load addresses) frame → frame.key ≡ key
under_key key load addresses frame there =
    let at : ℕ → Frame = λ address. record { key = key; load = load; address = address } in
    ap (λ (f : Frame). f.key) (in_map at addresses frame there).2

rows_at : (o : Operations) (key : SliceKey) (load : Option ℕ) (lines : Bool) (addresses : List ℕ) (rows : List Answered)
    → AllZip (IsFrameAnswered lines o) (frames_under_key key load addresses) rows
    → (map (λ (row : Answered). row.address) rows ≡ addresses) × AllByRecursion (IsAnswered o key load lines) rows
rows_at o key load lines [] [] all = (refl, tt)
rows_at o key load lines (address ∷ addresses) (row ∷ rows) all =
    let behind = rows_at o key load lines addresses rows all.1 in
    ((λ i. all.0.0 i ∷ behind.0 i), (all.0.1, behind.1))
rows_at o key load lines [] (row ∷ rows) all = absurd all
rows_at o key load lines (address ∷ addresses) [] all = absurd all

-- what is told of them is told of the addresses
pub addresses_told : (o : Operations) (key : SliceKey) (load : Option ℕ) (lines : Bool) (addresses : List ℕ)
    (status : Status) (text : List ℕ) → TellsFrames lines o (frames_under_key key load addresses) status text
    → TellsAddresses o key load lines addresses status text
addresses_told o key load lines addresses status text told =
    let are = rows_at o key load lines addresses told.rows told.answered in
    record { rows = told.rows; addresses_are = are.0; answered = are.1; status_is = told.status_is; text_is = told.text_is }

-- and so it is with the lines of the slices that answer
pub addresses_told_with : (slices : Bool) (o : Operations) (key : SliceKey) (load : Option ℕ) (lines : Bool) (addresses : List ℕ)
    (status : Status) (text : List ℕ)
    → WithSlices slices (TellsFrames lines o (frames_under_key key load addresses)) (IsAnsweringRow o (key ∷ [])) (key ∷ []) status text
    → TellsAddressesWith o key load lines slices addresses status text
addresses_told_with false o key load lines addresses status text told = addresses_told o key load lines addresses status text told
addresses_told_with true o key load lines addresses status text after = record {
  answers = after.answers;
  told = addresses_told o key load lines addresses status after.answers after.told;
  slices = after.slices;
  tells_slices = after.tells_slices;
  text_is = after.text_is;
}

-- ---- how `symbolicate` ends over archives by their records

module _ {R S : Type 0} (archive : Reader R) (others : List (Reader S)) (key : SliceKey) (load : Option ℕ) (lines slices : Bool) (addresses : List ℕ)
    (report : Writer) where
  abbrev asked : Query
  asked = prints_addresses (frames_held lines slices archive others) key load addresses

  abbrev told : Query
  told = symbolicate archive others key load lines slices addresses

  carried : (result : Result Status CommandFault) → CarriesReport asked.Makes report result → CarriesReport told.Makes report result
  carried result by = record {
    status = by.status;
    text = by.text;
    makes = together_tells archive others _ _ (λ o. addresses_told_with slices o key load lines addresses by.status by.text) by.makes;
    reported = by.reported;
  }

  pub symbolicated : (result : Result Status CommandFault) → EndsReport asked report result → EndsReport told report result
  symbolicated (Ok status) ends = (ends.0, carried (Ok status) ends.1)
  symbolicated (Err (Input at why)) ends = ends
  symbolicated (Err (Output n)) ends = ends
  symbolicated (Err (Report n)) ends = (ends.0, carried (Err (Report n)) ends.1)
  symbolicated (Err OutOfMemory) ends = ends
