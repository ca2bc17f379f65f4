-- Archives that are not asked are as they were, and no reader of theirs fails.
use Rattle.std.proofs.Common.{ℕ, Bool, List, [], ◌∷◌, Option, refl}
use Rattle.command_common.proofs.Readers.{none_failed, none_touched}
use Rattle.command_common.specs.Inputs.{readers}
use Rattle.command_queries.specs.Frames.{frames_by_records}

pub records_unread : {S : Type 0} (left : S → Option (List ℕ)) (failures : S → ℕ) (lines slices : Bool) (archives : List S)
    → (frames_by_records lines slices (readers left failures archives archives)).Untouched
    × (frames_by_records lines slices (readers left failures archives archives)).Unfailed
records_unread left failures lines slices [] = (tt, tt)
records_unread left failures lines slices (archive ∷ others) =
    ((refl, none_touched left failures others), (refl, none_failed left failures others))
