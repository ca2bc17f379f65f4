-- A line whose OUT is none of its inputs is kept.
use Rattle.std.proofs.Common.{◌≡◌, ◌∙◌, true, false, not, List, Contains, Option, Some, None, IfSome, ap, refl, if◌then◌else◌, IsSome, ◌&&◌, ap₂, subst, sym}
use Rattle.std.proofs.lemmas.Bool.{not-true, Decides.Decides-by_or}
use Rattle.std.proofs.lemmas.{List.Elements.Decides-contains, Slice.Eq.bytes_eq-Decides}
use Rattle.std.specs.{Prelude.option_and_then, Option.option_map_or, Bool.Decides, Str.bytes_eq}
use Rattle.clap.specs.Words.{Row, Text}
use Rattle.cli_arguments.specs.Lines.{KeepsInputs, Line, have_forms, inputs_of, is_path_among, kept, line_in, out_of, overwrites_input}
use Rattle.cli_arguments.proofs.Accepted.{forms_of_asked}

-- the test of OUT's path says whether it is one of the inputs
is_path_among-Decides : (path : Text) (paths : List Text)
    → Decides (is_path_among path paths) (Contains paths path)
is_path_among-Decides path paths = Decides-contains paths path (is_path_among path paths)
    (Decides-by_or (λ p. bytes_eq p path) (λ p. p ≡ path) (is_path_among path)
    (λ p. bytes_eq-Decides p path) refl (λ _ _. refl) paths)

pub keeps_inputs : (line : Line) → overwrites_input line ≡ false → KeepsInputs line
keeps_inputs line apart = go (out_of line) (inputs_of line) apart
  where
    go : (out : Option Text) (inputs : List Text) → option_map_or (λ o. is_path_among o inputs) out false ≡ false
        → IfSome out (λ o. ¬ Contains inputs o)
    go None inputs apart = tt
    go (Some o) inputs apart = λ among. cc ((is_path_among-Decides o inputs).1 among)

-- the line that is asked for is kept
pub kept_line : (asked : Option Line) (line : Line) → Some line ≡ asked → overwrites_input line ≡ false
    → Some line ≡ option_and_then kept asked
kept_line asked line is apart =
    ap (λ b. if b then None else Some line) (sym apart) ∙ ap (option_and_then kept) is

-- a line that is in order overwrites no input
pub in_order_apart : (asked : Option Line) (line : Line) → Some line ≡ asked
    → option_map_or (λ l. not (overwrites_input l)) asked true ≡ true → overwrites_input line ≡ false
in_order_apart asked line is ordered =
    not-true _ (ap (λ o. option_map_or (λ l. not (overwrites_input l)) o true) is ∙ ordered)

-- a line that is asked for and overwrites no input is in order
pub in_order_of : (named : Option (Text × List Row)) (line : Line) → Some line ≡ option_and_then line_in named
    → overwrites_input line ≡ false
    → (option_map_or have_forms named true
    && option_map_or (λ l. not (overwrites_input l)) (option_and_then line_in named) true) ≡ true
in_order_of named line asked apart =
    ap₂ (λ x y. x && y) (forms_of_asked named (subst IsSome asked refl))
    (ap (λ o. option_map_or (λ l. not (overwrites_input l)) o true) (sym asked) ∙ ap not apart)
