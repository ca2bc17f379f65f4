use Rattle.std.proofs.Common.{◌≡◌, drop, false, map}
use Rattle.clap.specs.{Words.app_of, declared.builder.command.Command.TheViews.out-Command}
use Rattle.cli_arguments.specs.{Commands.command_for, Commands.with_commands, TableView.signature_in}
use Rattle.cli_arguments.proofs.clap_commands.with_table.Given as goal

-- what is left to add gives what all of them give
abbrev pub invariant-table : goal.invariant-table
invariant-table l = (with_commands (app_of l.command) (map command_for (map signature_in (drop l.row-index l.table)))
    ≡ with_commands (app_of l.initial.command) (map command_for (map signature_in l.table)))
    × ((out-Command l.initial.command).has_globals ≡ false → (out-Command l.command).has_globals ≡ false)
