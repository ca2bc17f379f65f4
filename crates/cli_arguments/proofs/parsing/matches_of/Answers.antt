use Rattle.std.proofs.Common.{◌∙◌, ap, map, sym}
use Rattle.clap.specs.Words.{fault_of, is_simple, is_simple_and_free, subcommand_of, takes}
use Rattle.cli_arguments.specs.Lines.{are_accepted, error_kinds, named_command}
use Rattle.cli_arguments.proofs.SimpleCommand.{symarch_free, symarch_simple}
use Rattle.cli_arguments.proofs.LineFaultLemmas.{asked_is_help, other_is_refusal, symarch_kinds}
use Rattle.cli_arguments.proofs.parsing.matches_of.Goals as goal

pub returns-in-Ok-clause-ok : goal.returns-in-Ok-clause-ok
unfolding named_command
returns-in-Ok-clause-ok g c =
    let is = c.in_ok-command.ensures.app in
    (c.in-Ok.ensures.matches (ap is_simple is ∙ symarch_simple)).1
    ∙ ap (λ a. subcommand_of a (map g.S.AsStr.text c.args.words.now)) is

pub returns-in-Ok-clause-accepted : goal.returns-in-Ok-clause-accepted
unfolding error_kinds
returns-in-Ok-clause-accepted g c =
    let is = c.in_ok-command.ensures.app in
    sym (ap (λ a. fault_of a (map g.S.AsStr.text c.args.words.now)) is)
    ∙ c.in-Ok.ensures.kinds (ap is_simple_and_free is ∙ symarch_free)

pub returns-in-Ok-clause-help : goal.returns-in-Ok-clause-help
returns-in-Ok-clause-help g c = λ alone. cc (returns-in-Ok-clause-accepted g c)

pub returns-in-Ok-clause-version : goal.returns-in-Ok-clause-version
returns-in-Ok-clause-version g c = λ alone. cc (returns-in-Ok-clause-accepted g c)

pub returns-in-Err-clause-err : goal.returns-in-Err-clause-err
unfolding are_accepted
returns-in-Err-clause-err g c = λ accepted.
    let is = c.in_ok-command.ensures.app in
    c.parse_fault.ensures.memory
    (c.in-Err.ensures.passes (ap (λ a. takes a (map g.S.AsStr.text c.args.words.now)) is ∙ accepted))

pub returns-in-Err-clause-help : goal.returns-in-Err-clause-help
returns-in-Err-clause-help g c = λ alone.
    asked_is_help c.in-Err.error c.parse_fault.result _ _
    (symarch_kinds _ _ c.in-Err.error c.in_ok-command.ensures.app c.in-Err.ensures.kinds) alone
    c.parse_fault.ensures.memory c.parse_fault.ensures.help

pub returns-in-Err-clause-version : goal.returns-in-Err-clause-version
returns-in-Err-clause-version g c = λ alone.
    asked_is_help c.in-Err.error c.parse_fault.result _ _
    (symarch_kinds _ _ c.in-Err.error c.in_ok-command.ensures.app c.in-Err.ensures.kinds) alone
    c.parse_fault.ensures.memory c.parse_fault.ensures.version

pub returns-in-Err-clause-refusal : goal.returns-in-Err-clause-refusal
returns-in-Err-clause-refusal g c = λ no_help no_version.
    other_is_refusal c.in-Err.error c.parse_fault.result _
    (symarch_kinds _ _ c.in-Err.error c.in_ok-command.ensures.app c.in-Err.ensures.kinds) no_help no_version
    c.parse_fault.ensures.memory c.parse_fault.ensures.refusal
