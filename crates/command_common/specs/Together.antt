-- The facts that the joined parts of several archives share with the join of the archives.
use Rattle.std.specs.Prelude.{◌≡◌, ℕ, ◌≤◌, List, Bool, true, length}
use Rattle.archive_core.specs.Content.{Operations}
use Rattle.archive_core.specs.Part.{AreAlikeUnder, is_under}

-- the two have the same records under each key prefix all of whose records are selected
abbrev pub AreAlikeWhere : (List ℕ → Bool) → Operations → Operations → Type 0
AreAlikeWhere picks o p =
    (prefix : List ℕ) → length prefix ≤ 24 → ((r : List ℕ) → is_under prefix r ≡ true → picks r ≡ true)
    → AreAlikeUnder prefix o p
