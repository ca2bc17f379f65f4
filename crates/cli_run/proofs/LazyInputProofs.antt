-- Inputs that are opened at their turn.
use Rattle.std.proofs.Common.{List, [], ◌∷◌}
use Rattle.byte_device.specs.declared.{Source.Ghosts as Sources, Placed.Ghosts as Places}
use Rattle.cli_files.specs.declared.{disks.Disk.Ghosts as Disks, input_state.LazyInput.LazyInput}
use Rattle.cli_files.specs.{LazyInputs.told_by, InputStates.AreLazyInputs}

-- each input keeps its rules
pub are_lazy : {D I P : Type 0} (disk : Disks D I P) (input : Sources I) (places : Places P)
    (xs : List (LazyInput D I P disk input places)) → AreLazyInputs (told_by disk input places) xs
are_lazy disk input places [] = tt
are_lazy disk input places (s ∷ xs) =
    (record { log = s.log; wants = s.wants; fits = s.fits; failed = s.failed }, are_lazy disk input places xs)
