-- Flags have no words.
use Rattle.std.proofs.Common.{◌≡◌, arith, true, Bool, List, [], None, Some, ap, option_map}
use Rattle.std.specs.{Prelude.option_and_then, Option.option_map_or}
use Rattle.clap.specs.Words.{Row}
use Rattle.cli_arguments.specs.Arguments.{Argument, Count, Flag, flag, form_of}
use Rattle.cli_arguments.specs.LineFaults.{form_refusal, other_form, other_word, refusal_at, without_value}
use Rattle.cli_arguments.specs.Lines.{is_set, texts_of, values_at, values_spelled, words_by}
use Rattle.cli_arguments.specs.{WellFormed.is_flag, declared.commands.Form.Form}

-- none has another form
none_other : (form : Form) (is_set : Bool) → other_word form (flag is_set) ≡ None
none_other form is_set = grind arith

no_text : (form : Form) (is_set : Bool) → option_map texts_of (values_spelled form (flag is_set)) ≡ Some []
no_text form is_set = grind arith

pub flag_told : (a : Argument) (rows : List Row) → is_flag a.count ≡ true → refusal_at a rows ≡ None
unfolding refusal_at
flag_told a rows is = go a.count is
  where
    go : (count : Count) → is_flag count ≡ true
        → option_map_or (form_refusal a) (words_by count a.name rows) (Some (without_value a)) ≡ None
    go (Flag option) is = ap (option_map (other_form a)) (none_other (form_of a.role) (is_set a.name rows))
    go count is = cc

pub no_path : (a : Argument) (rows : List Row) → is_flag a.count ≡ true
    → option_map texts_of (values_at a rows) ≡ Some []
no_path a rows is = go a.count is
  where
    go : (count : Count) → is_flag count ≡ true
        → option_map texts_of (option_and_then (values_spelled (form_of a.role)) (words_by count a.name rows)) ≡ Some []
    go (Flag option) is = no_text (form_of a.role) (is_set a.name rows)
    go count is = cc
