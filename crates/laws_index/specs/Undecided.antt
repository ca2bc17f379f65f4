-- The report if no slice of a content is wanted.
use Rattle.std.specs.Prelude.{◌≡◌, ℕ, List, Option}
use Rattle.archive_core.specs.Content.{Operations}
use Rattle.archive_core.specs.declared.keys.Digest.{Digest}
use Rattle.archive_core.specs.declared.keys.SliceKey.{SliceKey}
use Rattle.command_extract.specs.Wanted.{AreUndecided, slices_text}

-- No slice of the content is wanted, and `told` has the lines of those that answer.
pub record TellsUndecided (o : Operations) (key : SliceKey) (digest : Option Digest) (told : List ℕ) : Type 0 where
  pub slices : List (List ℕ)
  pub undecided : AreUndecided o key digest slices
  pub told_is : told ≡ slices_text slices
