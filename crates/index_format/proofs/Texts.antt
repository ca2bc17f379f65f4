-- The bytes of entries.
use Rattle.std.proofs.Common.{◌≡◌, ℕ, ◌<◌, List, [], length, map, get_or, sym, ap, ◌∙◌}
use Rattle.std.proofs.lemmas.List.{get_or-map}
use Rattle.index_format.specs.declared.entry.IndexEntry.{IndexEntry}
use Rattle.index_format.specs.Entry.{placed_bytes}

-- the bytes of an entry among those of all
pub bytes_at : (entries : List IndexEntry) (i : ℕ) (e : IndexEntry) (bytes : List ℕ) → i < length entries → e
    ≡ get_or entries i e → bytes ≡ placed_bytes e → bytes ≡ get_or (map placed_bytes entries) i []
bytes_at entries i e bytes lt at of = of ∙ ap placed_bytes at ∙ sym (get_or-map placed_bytes entries i e [] lt)
