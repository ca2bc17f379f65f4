-- The reports of commands over several archives with their indexes.
use Rattle.std.specs.Prelude.{ℕ, List, ◌⊎◌}
use Rattle.archive_core.specs.Content.{Operations}
use Rattle.command_common.specs.Inputs.{Reader, EachUnfailed}
use Rattle.command_common.specs.declared.faults.InputName.{InputName}
use Rattle.command_common.specs.declared.faults.Status.{Status}
use Rattle.command_common.specs.declared.faults.Why.{Why}
use Rattle.command_given_indexes.specs.Together.{AreLater, AreReadWith, HaveLengths, HoldNamed}
use Rattle.command_given_indexes.specs.Together.{IsFirstRefusedAtPlaces, IsFirstRefusedByIndex}

-- The entries under these UUIDs were read of the indexes, and the archives, in the states after that, have this content
-- under these prefixes.
pub record HoldTogether {I P : Type 0} (uuids prefixes : List (List ℕ)) (indexes : List (Reader I))
    (archives : List (Reader P)) (p : Operations) : Type 0 where
  pub all : List (List (List ℕ))
  pub read : AreReadWith uuids indexes archives all
  pub later : List (Reader P)
  pub are_later : AreLater archives later
  pub named : HoldNamed prefixes later all p

-- The entries under these UUIDs were read of the indexes, and then one of the archives is refused, as far as these
-- prefixes and the lengths that the indexes tell show.
pub record AreRefusedLater {I P : Type 0} (uuids prefixes : List (List ℕ)) (indexes : List (Reader I))
    (archives : List (Reader P)) (at : InputName) (why : Why) : Type 0 where
  pub all : List (List (List ℕ))
  pub read : AreReadWith uuids indexes archives all
  pub sizes : List ℕ
  pub lengths : HaveLengths archives sizes
  pub unfailed : EachUnfailed indexes
  pub later : List (Reader P)
  pub are_later : AreLater archives later
  pub refused : IsFirstRefusedAtPlaces prefixes later all sizes at why

-- the first refusal: an index or the length of its archive; or, after these, an archive
abbrev pub AreRefusedTogether : {I P : Type 0} → List (List ℕ) → List (List ℕ) → List (Reader I) → List (Reader P)
    → InputName → Why → Type 0
AreRefusedTogether uuids prefixes indexes archives at why =
    IsFirstRefusedByIndex uuids indexes archives at why ⊎ AreRefusedLater uuids prefixes indexes archives at why

-- none of their readers and devices failed
abbrev pub AreUnfailedTogether : {I P : Type 0} → List (Reader I) → List (Reader P) → Type 0
AreUnfailedTogether indexes archives = EachUnfailed indexes × EachUnfailed archives

-- `Tells` holds for the joined content under these prefixes
pub record MakesTogether {I P : Type 0} (uuids prefixes : List (List ℕ)) (indexes : List (Reader I))
    (archives : List (Reader P)) (Tells : Operations → Status → List ℕ → Type 0) (status : Status) (text : List ℕ)
    : Type 0 where
  pub content : Operations
  pub held : HoldTogether uuids prefixes indexes archives content
  pub tells : Tells content status text
