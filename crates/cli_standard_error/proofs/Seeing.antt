-- What is seen of an input that was opened.
use Rattle.std.proofs.Common.{◌≡◌, Some, ap}
use Rattle.cli_files.specs.InputStates.{input_in, places_in}
use Rattle.cli_files.specs.declared.input_state.InputState.{InputState}
use Rattle.cli_files.specs.declared.input_state.InputState.TheVariants as state
use Rattle.cli_files.specs.declared.{opened_file.OpenedFile.OpenedFile, placed_file.PlacedFile.PlacedFile}
use Rattle.cli_standard_error.specs.Seen.{seen_in, seen_open, seen_placed}

-- one that is read from its start
pub seen_in_open : {R P : Type 0} (s : InputState (OpenedFile R) (PlacedFile P)) (file : OpenedFile R)
    → Some file ≡ input_in s → seen_open file ≡ seen_in s
seen_in_open (state.Open opened) file is = let same : file ≡ opened = cc in ap seen_open same
seen_in_open state.Waiting file is = cc
seen_in_open (state.Placed placed) file is = cc
seen_in_open (state.Unopened why) file is = cc

-- one that is read from any place
pub seen_in_placed : {R P : Type 0} (s : InputState (OpenedFile R) (PlacedFile P)) (file : PlacedFile P)
    → Some file ≡ places_in s → seen_placed file ≡ seen_in s
seen_in_placed (state.Placed placed) file is = let same : file ≡ placed = cc in ap seen_placed same
seen_in_placed state.Waiting file is = cc
seen_in_placed (state.Open opened) file is = cc
seen_in_placed (state.Unopened why) file is = cc
