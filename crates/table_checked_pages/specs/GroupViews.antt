-- Groups in the code, as the definitions have them.
use Rattle.table_checked_pages.specs.Groups.{GroupsPlace}
use Rattle.table_checked_pages.specs.declared.groups.Groups.{Groups}

-- the place of groups
abbrev pub groups_view : Groups → GroupsPlace
groups_view g = record { offset = g.offset; count = g.count; size = g.size }
