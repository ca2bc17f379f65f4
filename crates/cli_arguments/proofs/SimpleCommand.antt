-- The program's command is one of which `clap` says what it makes of the words.
use Rattle.std.proofs.Common.{◌≡◌, refl, true}
use Rattle.clap.specs.Words.{is_simple, is_simple_and_free}
use Rattle.cli_arguments.specs.Commands.{symarch_command}

pub symarch_simple : is_simple symarch_command ≡ true
unfolding symarch_command
symarch_simple = refl

pub symarch_free : is_simple_and_free symarch_command ≡ true
unfolding symarch_command
symarch_free = refl
