-- The index at which an operation is inserted into the list of a content.
use Rattle.std.specs.Prelude.{◌≡◌, ◌≤◌, ℕ, List, true, false, length, Option, Some, None}
use Rattle.std.specs.List.{insert}
use Rattle.join_core.specs.Listing.{listing}
use Rattle.archive_core.specs.Content.{Operations, changes}

-- none, since the operation changes nothing; or this index in the list of records, from which the others are shifted
abbrev pub IsPutAt : Operations → Operations → List ℕ → Option ℕ → Type 0
IsPutAt old new r None = (changes old r ≡ false) × (new ≡ old)
IsPutAt old new r (Some index) = (changes old r ≡ true) × (index ≤ length (listing old))
    × (listing new ≡ insert (listing old) index r)
