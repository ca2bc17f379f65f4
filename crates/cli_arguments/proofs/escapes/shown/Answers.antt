use Rattle.std.proofs.Common.{◌∙◌, ◌∷◌, [], ap, flat_map, arith}
use Rattle.std.proofs.lemmas.{Grind.common_steps, Str.chars_from_encodes, Str.encodes-append}
use Rattle.cli_arguments.specs.Shown.{shown, shown_character}
use Rattle.cli_arguments.proofs.escapes.shown.Goals as goal

pub returns : goal.returns
unfolding shown
returns c =
    c.characters.invariant.0 ∙ ap (flat_map shown_character)
    (chars_from_encodes c.characters.yielded c.args.text.now c.utf8.text (grind (arith, common_steps, c.characters.invariant.1, c.in-None.ensures.steps)))

pub characters-preserved : goal.characters-preserved
characters-preserved c = (
  grind (arith, common_steps),
  grind (arith, common_steps, encodes-append c.characters.yielded (c.in-Some.character ∷ []), c.characters.invariant.1, c.in-Some.ensures.steps),
)
