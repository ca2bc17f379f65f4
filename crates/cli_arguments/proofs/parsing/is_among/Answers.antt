use Rattle.std.proofs.Common.{◌∙◌}
use Rattle.std.specs.Str.{bytes_eq}
use Rattle.clap.proofs.WalkLemmas.{list_any-map}
use Rattle.cli_arguments.proofs.parsing.is_among.Goals as goal

pub returns : goal.returns
returns c = c.contains.ensures.value
    ∙ list_any-map (λ p. bytes_eq p c.args.path.now) (λ p. p.now) c.args.paths.now
