use Rattle.std.proofs.Common.{◌∙◌, ◌+◌, ◌||◌, ap, ap₂, arith, drop, map, sym}
use Rattle.std.proofs.lemmas.List.{at_drop_more}
use Rattle.clap.specs.Words.{app_of, with_subcommand}
use Rattle.cli_arguments.specs.{Commands.command_for, Commands.with_commands, TableView.signature_in}
use Rattle.cli_arguments.proofs.clap_commands.with_table.Goals as goal

pub table-preserved : goal.table-preserved
table-preserved c =
    let added = c.in_ok-command.ensures in
    let local = c.in_ok-command_in.ensures.local in
    let app = added.shape local
    ∙ ap (λ a. with_subcommand (app_of c.table.command) a.top) c.in_ok-command_in.ensures.app in (
      ap (λ a. with_commands a (map command_for (map signature_in (drop (c.table.row-index + 1) c.args.table.now)))) app
          ∙ sym (at_drop_more (λ rows. with_commands (app_of c.table.command) (map command_for (map signature_in rows)))
          c.args.table.now c.table.row-index _ (omega arith))
          ∙ c.table.invariant.0,
      λ none. added.globals ∙ ap₂ (λ x y. x || y) (c.table.invariant.1 none) local,
    )
