-- For each command a line of words, written out.
use Rattle.std.proofs.Common.{◌≡◌, refl, Bool, true, Option, Some, List, [], ◌∷◌, ap, drop, get_or, map}
use Rattle.clap.specs.Words.{Kinds, Text}
use Rattle.hex.proofs.OnLiterals.{hex_on_literals}
use Rattle.uuid.proofs.OnLiterals.{uuid_on_literals}
use Rattle.clap.proofs.OnLiterals.{clap_on_literals}
use Rattle.cli_arguments.specs.{Commands.symarch_command, Samples.EachAsks, Samples.Sample, Samples.samples}
use Rattle.cli_arguments.specs.Lines.{Line, error_kinds, is_in_order, line_of, named_command}

-- what words have, and ask for
record Answer : Type 0 where
  kinds : Kinds
  in_order : Bool
  line : Option Line

abbrev answer : List Text → Answer
answer words = record { kinds = error_kinds words; in_order = is_in_order words; line = line_of words }

abbrev wanted : Sample → Answer
wanted s = record { kinds = []; in_order = true; line = Some s.line }

each : (all : List Sample) → map (λ s. answer s.words) all ≡ map wanted all → EachAsks all
each [] same = tt
each (s ∷ rest) same =
    let first = ap (λ answers. get_or answers 0 (wanted s)) same in (
      record {
        accepted = ap (λ a. a.kinds) first;
        in_order = ap (λ a. a.in_order) first;
        line_is = ap (λ a. a.line) first;
      },
      each rest (ap (drop 1) same),
    )

pub each_asks : EachAsks samples
unfolding error_kinds named_command symarch_command clap_on_literals hex_on_literals uuid_on_literals
each_asks = each samples refl
