use Rattle.std.proofs.Common.{◌≡◌, drop, find, map}
use Rattle.std.specs.Str.{bytes_eq}
use Rattle.cli_arguments.specs.{TableView.signature_in, Table.signature_named}
use Rattle.cli_arguments.proofs.commands.signature_named.Given as goal

-- the first of this name is not yet passed
abbrev pub invariant-table : goal.invariant-table
invariant-table l =
    find (λ s. bytes_eq l.name s.name) (map signature_in (drop l.row-index l.row-items)) ≡ signature_named l.name
