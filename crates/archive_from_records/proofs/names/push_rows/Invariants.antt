use Rattle.std.proofs.Common.{◌≡◌, ◌++◌, map}
use Rattle.archive_core.specs.Names.{name_row, names_in, owned_name_view}
use Rattle.archive_from_records.proofs.names.push_rows.Given as goal

-- the rows of those that were found, and of those that are left
abbrev pub invariant-names : goal.invariant-names
invariant-names l = map owned_name_view l.rows.items ++ map (name_row l.slice) l.found-iterator ≡ map owned_name_view l.fn.rows.items ++ names_in l.name l.slice
