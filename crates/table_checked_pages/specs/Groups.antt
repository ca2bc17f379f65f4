-- Rows of any size in groups, each of which is read on its own. A group is found by the key of its first row.
use Rattle.std.specs.Prelude.{◌≡◌, ◌<◌, ◌≤◌, ◌+◌, ◌-◌, ◌*◌, ◌/◌, ◌^◌, ◌++◌, ℕ, List, [], ◌∷◌, All, length, take, drop}
use Rattle.std.specs.Prelude.{flat_map, map, nat_lt, if◌then◌else◌, slice_index_or}
use Rattle.std.specs.Int.{w64, from_be_bytes, to_be_bytes}
use Rattle.std.specs.List.{range_with_len}
use Rattle.table_checked_pages.specs.Standing.{Stands}

-- the number of groups of so many rows
abbrev pub groups_in : ℕ → ℕ
groups_in rows = (rows + 127) / 128

-- a group of rows: 128 of them, or the rest for the last group
abbrev pub group_at : {A : Type 0} → List A → ℕ → List A
group_at rows i = take 128 (drop (128 * i) rows)

-- the groups of rows
abbrev pub groups_of : {A : Type 0} → List A → List (List A)
groups_of rows = map (group_at rows) (range_with_len 0 (groups_in (length rows)))

-- a group as it is stored: the key of its first row, and the bytes of its rows
pub record GroupRecord : Type 0 where
  pub key : ℕ
  pub bytes : List ℕ

-- the keys of groups, and their bytes
abbrev pub keys_of : List GroupRecord → List ℕ
keys_of groups = map (λ g. g.key) groups

abbrev pub bytes_of : List GroupRecord → List ℕ
bytes_of groups = flat_map (λ g. g.bytes) groups

-- each group in 16 bytes: its key, and the number of bytes of the groups before it; `before` bytes precede these groups
unfoldable pub group_rows : ℕ → List GroupRecord → List ℕ
group_rows before [] = []
group_rows before (group ∷ groups) =
    (to_be_bytes w64 group.key ++ to_be_bytes w64 before) ++ group_rows (before + length group.bytes) groups

-- groups whose keys fit eight bytes, of at most 40 bytes for each of 128 rows
abbrev pub AreGroups : List GroupRecord → Type 0
AreGroups groups = All (λ g. (g.key < 2 ^ 64) × (length g.bytes ≤ 5120)) groups

-- where groups are stored: the offset of their rows, which their bytes follow, their number, and that of all bytes
pub record GroupsPlace : Type 0 where
  pub offset : ℕ
  pub count : ℕ
  pub size : ℕ

-- these groups are stored there
pub record AreGroupsIn (all : List ℕ) (place : GroupsPlace) (groups : List GroupRecord) : Type 0 where
  pub stands : Stands all place.offset (group_rows 0 groups ++ bytes_of groups)
  pub count : place.count ≡ length groups
  pub size : place.size ≡ length (bytes_of groups)
  pub fit : AreGroups groups

-- groups are stored there
abbrev pub HoldsGroups : List ℕ → GroupsPlace → Type 0
HoldsGroups all place = (groups : List GroupRecord) × AreGroupsIn all place groups

-- the bytes of the group at an index are so many from an offset on
pub record IsBytesOf (all : List ℕ) (groups : List GroupRecord) (index offset size : ℕ) : Type 0 where
  pub inside : offset + size ≤ length all
  pub are : (d : GroupRecord) → take size (drop offset all) ≡ (slice_index_or groups index d).bytes

-- ---- of any bytes

-- the number of bytes before a group, as its row states it; before the end all of them
abbrev pub stored_before : List ℕ → GroupsPlace → ℕ → ℕ
stored_before all place i =
    if nat_lt i place.count then from_be_bytes w64 (take 8 (drop (place.offset + 16 * i + 8) all)) else place.size

-- the bytes of a group
abbrev pub stored_group : List ℕ → GroupsPlace → ℕ → List ℕ
stored_group all place i =
    take (stored_before all place (i + 1) - stored_before all place i)
    (drop (place.offset + 16 * place.count + stored_before all place i) all)
