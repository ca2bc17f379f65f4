use Rattle.std.proofs.Common.{◌≡◌, drop, false, map}
use Rattle.clap.specs.{Words.app_of, declared.builder.command.Command.TheViews.out-Command}
use Rattle.cli_arguments.specs.{Commands.rule_for, Commands.with_rules, TableView.argument_in}
use Rattle.cli_arguments.proofs.clap_commands.with_arguments.Given as goal

-- what is left to add gives what all of them give
abbrev pub invariant-arguments : goal.invariant-arguments
invariant-arguments l = (with_rules (app_of l.command)
    (map rule_for (map argument_in (drop l.argument-index l.arguments)))
    ≡ with_rules (app_of l.initial.command) (map rule_for (map argument_in l.arguments)))
    × ((out-Command l.initial.command).has_globals ≡ false → (out-Command l.command).has_globals ≡ false)
