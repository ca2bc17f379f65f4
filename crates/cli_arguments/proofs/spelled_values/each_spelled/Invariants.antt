use Rattle.std.proofs.Common.{◌≡◌, ◌++◌, drop, map, option_map}
use Rattle.cli_arguments.specs.{LineFaults.first_other, Lines.all_spelled}
use Rattle.cli_arguments.proofs.spelled_values.each_spelled.Given as goal

abbrev pub invariant-words : goal.invariant-words
invariant-words g l =
    (option_map (λ xs. l.values.items ++ xs)
    (all_spelled g.T.Word.form_of (map (λ w. w.now) (drop l.word-index l.words)))
    ≡ all_spelled g.T.Word.form_of (map (λ w. w.now) l.words))
    × (first_other g.T.Word.form_of (map (λ w. w.now) (drop l.word-index l.words))
    ≡ first_other g.T.Word.form_of (map (λ w. w.now) l.words))
