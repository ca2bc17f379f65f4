-- Parts of several archives, joined: definitions for private functions. No public contract uses them.
use Rattle.std.specs.Prelude.{◌≡◌, ℕ, List, Bool, map}
use Rattle.std.specs.List.{AllByRecursion, AllZip}
use Rattle.archive_core.specs.Content.{Operations, IsContent}
use Rattle.archive_core.specs.Part.{part}
use Rattle.command_common.specs.Archives.{merged}
use Rattle.command_common.specs.Inputs.{Reader, HoldsArchive}

-- The archives are the texts of contents; `new` is the join of `old` with the selected parts of these.
pub record HasJoinedParts {R : Type 0} (archives : List (Reader R)) (picks : List ℕ → Bool) (old new : Operations)
    : Type 0 where
  pub contents : List Operations
  pub are_contents : AllByRecursion IsContent contents
  pub archives_are : AllZip HoldsArchive archives contents
  pub content : new ≡ merged old (map (λ o. part o picks) contents)
