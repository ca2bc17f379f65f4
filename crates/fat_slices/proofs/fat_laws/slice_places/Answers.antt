use Rattle.fat_slices.proofs.SlicePlaces.{length-slices, slice_at, whole_part}
use Rattle.fat_slices.proofs.fat_laws.slice_places.Goals as goal

pub returns : goal.returns
returns c = record { number = length-slices; places = slice_at; whole = whole_part }
