-- A table of commands, as definitions of `clap`.
use Rattle.std.specs.Prelude.{List, [], ◌∷◌, codes, map, Some, true}
use Rattle.clap.specs.Words.{App, Rule, Text, new_app, new_rule, with_rule, with_subcommand}
use Rattle.clap.specs.declared.builder.action.ArgAction.TheVariants.{Append, SetTrue}
use Rattle.cli_arguments.specs.Arguments.{Argument, Count, Flag, Often, Once, Perhaps, Several}
use Rattle.cli_arguments.specs.Table.{Signature, commands}

-- an argument with one value; the last argument, with one value or more, each a word of its own; an option `--name`
-- with one value, which may be omitted; one that may be repeated, each time with one more value; or a flag
abbrev pub rule_by : Count → Text → Rule
rule_by Once id = record (new_rule id) { required = true }
rule_by Several id = record (new_rule id) { required = true; action = Some Append }
rule_by (Perhaps option) id = record (new_rule id) { long = Some option }
rule_by (Often option) id = record (new_rule id) { long = Some option; action = Some Append }
rule_by (Flag option) id = record (new_rule id) { long = Some option; action = Some SetTrue }

abbrev pub rule_for : Argument → Rule
rule_for a = rule_by a.count a.name

-- with these arguments, in this order
abbrev pub with_rules : App → List Rule → App
with_rules a [] = a
with_rules a (r ∷ rs) = with_rules (with_rule a r) rs

-- with these subcommands
abbrev pub with_commands : App → List App → App
with_commands a [] = a
with_commands a (c ∷ cs) = with_commands (with_subcommand a c.top) cs

-- a subcommand is required
abbrev pub needing_command : App → App
needing_command a = record a { top = record a.top { subcommand_required = true } }

-- it has `--version`
abbrev pub with_version : App → App
with_version a = record a { top = record a.top { has_version = true } }

abbrev pub command_for : Signature → App
command_for s = with_rules (new_app s.name) (map rule_for s.arguments)

abbrev pub program_for : Text → List Signature → App
program_for name table = needing_command (with_version (with_commands (new_app name) (map command_for table)))

-- the command of the program
unfoldable pub symarch_command : App
symarch_command = program_for (codes "symarch") commands
