-- The status of a search.
use Rattle.std.specs.Prelude.{List, [], ◌∷◌}
use Rattle.command_common.specs.declared.faults.Status.{Status}
use Rattle.command_common.specs.declared.faults.Status.TheVariants.{Done, Partial}

-- the status of a search that returned these rows: an empty answer has a status of its own
abbrev pub found_status : {T : Type 0} → List T → Status
found_status [] = Partial
found_status (_ ∷ _) = Done
