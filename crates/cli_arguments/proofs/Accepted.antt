-- A line that `clap` accepts names a command, with a value at each name that has to have one.
use Rattle.std.proofs.Common.{arith, ◌≡◌, ◌∙◌, ◌&&◌, ◌||◌, Bool, true, false, not, refl, sym, ap, List, [], ◌∷◌, Option}
use Rattle.std.proofs.Common.{Some, None, IsSome, is_some, option_map, codes}
use Rattle.std.proofs.lemmas.{Bool.and_from, Bool.not-true, Bool.or_left, Slice.Eq.bytes_eq-Decides}
use Rattle.std.specs.Prelude.{find, option_and_then, slice_get, unwrap_or}
use Rattle.std.specs.{List.list_all, List.list_any, Option.option_map_or, Str.bytes_eq}
use Rattle.clap.specs.Words.{App, Row, Rule, Shape, Text, built, first_of, subcommand_of, takes}
use Rattle.clap.specs.Walk.{answers_to, is_empty, nothing_held, rows_after, stop_after}
use Rattle.clap.specs.Simple.{argument_words, entered, is_simple, label_of, names_of, rows_at}
use Rattle.clap.specs.Takes.{built_takes, entered_passes, is_given, is_valid, level_passes}
use Rattle.clap.proofs.{SimpleLemmas.is_nil, WalkLemmas.both}
use Rattle.cli_arguments.specs.Arguments.{Argument, Count, Flag, Often, Perhaps, flag, form_of, perhaps, several}
use Rattle.cli_arguments.specs.{Commands.symarch_command, declared.commands.Form.Form}
use Rattle.cli_arguments.specs.Lines.{all_values, are_accepted, asked_of, has_form, have_forms, is_set, line_at}
use Rattle.cli_arguments.specs.Lines.{line_in, named_command, values_at, values_spelled, words_by}
use Rattle.cli_arguments.specs.Table.{Signature, signature_named}
use Rattle.cli_arguments.proofs.FilledRows.{are_filled, found_passes, is_filled, lets_name, lets_stop, level, want_values}

-- ---- tests

left_of : (a b : Bool) → (a || b) ≡ true → b ≡ false → a ≡ true
left_of a b is none = grind arith

right_of : (a b : Bool) → (a || b) ≡ true → a ≡ false → b ≡ true
right_of a b is none = grind arith

found_holds : {X : Type 0} (q : X → Bool) (xs : List X) (x : X) → find q xs ≡ Some x → q x ≡ true
found_holds q [] x is = cc
found_holds q (y ∷ ys) x is = grind (arith, found_holds q ys x)

-- ---- what stands at a name

filled_first : (values : List Text) → is_filled values ≡ true → is_some (slice_get values 0) ≡ true
filled_first [] is = cc
filled_first (v ∷ vs) is = refl

given_stands : (id : Text) (rows : List Row) → is_given id rows ≡ true → are_filled rows ≡ true
    → is_some (first_of id rows) ≡ true
given_stands id rows given filled =
    grind (arith, filled_first, found_passes (λ (x : Row). is_filled x.values) (λ x. bytes_eq x.id id) rows)

-- the command requires the argument with this id
abbrev requires : Text → List Rule → Bool
requires id rules = list_any (λ a. a.required && bytes_eq a.id id) rules

abbrev all_given : List Rule → List Row → Bool
all_given rules rows = list_all (λ a. not a.required || is_given a.id rows) rules

required_given : (id : Text) (rules : List Rule) (rows : List Row) → requires id rules ≡ true
    → all_given rules rows ≡ true
    → is_given id rows ≡ true
required_given id [] rows asks given = cc
required_given id (a ∷ rules) rows asks given =
    grind (arith, required_given id rules rows, (bytes_eq-Decides a.id id).0)

-- ---- the line of a command, where what is required stands there

-- it may be left out
abbrev is_free : Count → Bool
is_free (Perhaps option) = true
is_free (Often option) = true
is_free (Flag option) = true
is_free _ = false

-- the command requires each argument that has to be there
abbrev asks_for : List Argument → List Rule → Bool
asks_for arguments rules = list_all (λ a. is_free a.count || requires a.name rules) arguments

-- what a level of a parse leaves, where it passes
record Stood (rules : List Rule) (rows : List Row) : Type 0 where
  given : all_given rules rows ≡ true
  filled : are_filled rows ≡ true

-- no word has any form
none_spelled : (form : Form) → (is_some (values_spelled form (perhaps None)) ≡ true)
    × (is_some (values_spelled form (several [])) ≡ true)
none_spelled form = grind arith

flag_spelled : (form : Form) (is_set : Bool) → is_some (values_spelled form (flag is_set)) ≡ true
flag_spelled form is_set = grind arith

-- an argument that has its form has its values
values_some : (a : Argument) (rules : List Rule) (rows : List Row) → Stood rules rows
    → (is_free a.count || requires a.name rules) ≡ true → has_form a rows ≡ true → is_some (values_at a rows) ≡ true
values_some a rules rows stood asks has = go a.count asks has
  where
    stands : requires a.name rules ≡ true → not (is_some (first_of a.name rows)) ≡ false
    stands asks = ap not (given_stands a.name rows (required_given a.name rules rows asks stood.given) stood.filled)

    if_there : (form : Form) (o : Option Text)
        → (is_some (values_spelled form (perhaps o)) || not (is_some o)) ≡ true
        → is_some (values_spelled form (perhaps o)) ≡ true
    if_there form None has = (none_spelled form).0
    if_there form (Some word) has = left_of _ _ has refl

    -- a row without a value gives no word, as no row does
    filled_row : (form : Form) (words : List Text)
        → (is_some (values_spelled form (several words)) || not (is_some (slice_get words 0))) ≡ true
        → is_some (values_spelled form (several words)) ≡ true
    filled_row form [] has = (none_spelled form).1
    filled_row form (word ∷ words) has = left_of _ _ has refl

    each_there : (form : Form) (o : Option Row)
        → (is_some (values_spelled form (several (unwrap_or (option_map (λ (r : Row). r.values) o) [])))
        || not (is_some (option_and_then (λ (r : Row). slice_get r.values 0) o))) ≡ true
        → is_some (values_spelled form (several (unwrap_or (option_map (λ (r : Row). r.values) o) []))) ≡ true
    each_there form None has = (none_spelled form).1
    each_there form (Some r) has = filled_row form r.values has

    go : (count : Count) → (is_free count || requires a.name rules) ≡ true
        → (is_some (option_and_then (values_spelled (form_of a.role)) (words_by count a.name rows))
        || not (is_some (first_of a.name rows))) ≡ true
        → is_some (option_and_then (values_spelled (form_of a.role)) (words_by count a.name rows)) ≡ true
    go (Perhaps option) asks has = if_there (form_of a.role) (first_of a.name rows) has
    go (Often option) asks has = each_there (form_of a.role) (find (λ x. bytes_eq x.id a.name) rows) has
    go (Flag option) asks has = flag_spelled (form_of a.role) (is_set a.name rows)
    go count asks has = left_of _ _ has (stands asks)

-- two values are there exactly where what is made of both is
both_some : {X Y Z : Type 0} (f : X → Y → Z) (o : Option X) (p : Option Y) → (is_some o && is_some p)
    ≡ is_some (option_and_then (λ x. option_map (f x) p) o)
both_some f o p = grind arith

abbrev each_has_form : List Argument → List Row → Bool
each_has_form arguments rows = list_all (λ a. has_form a rows) arguments

-- the induction: where each argument has its form, the values are there
all_some : (arguments : List Argument) (rules : List Rule) (rows : List Row)
    → Stood rules rows → asks_for arguments rules ≡ true → each_has_form arguments rows ≡ true
    → IsSome (all_values arguments rows)
all_some [] rules rows stood asks have = refl
all_some (a ∷ rest) rules rows stood asks have =
    let asked = both (is_free a.count || requires a.name rules) _ asks in
    let has = both (has_form a rows) _ have in
    sym (both_some (λ v vs. v ∷ vs) (values_at a rows) (all_values rest rows))
    ∙ and_from _ _ (values_some a rules rows stood asked.0 has.0) (all_some rest rules rows stood asked.1 has.1)

-- and where they are there, each has its form
forms_of_all : (arguments : List Argument) (rows : List Row) → IsSome (all_values arguments rows)
    → each_has_form arguments rows ≡ true
forms_of_all [] rows some = refl
forms_of_all (a ∷ rest) rows some =
    let parts = both _ _ (both_some (λ v vs. v ∷ vs) (values_at a rows) (all_values rest rows) ∙ some) in
    and_from _ _ (or_left _ _ parts.0) (forms_of_all rest rows parts.1)

-- ---- any of the table

mapped_some : {X Y : Type 0} (f : X → Y) (o : Option X) → is_some (option_map f o) ≡ is_some o
mapped_some f o = grind arith

-- the command of this name requires what its line asks for
abbrev asks : Text → List Rule → Bool
asks name rules = option_map_or (λ s. asks_for s.arguments rules) (signature_named name) false

line_some : (name : Text) (rules : List Rule) (rows : List Row) → Stood rules rows → asks name rules ≡ true
    → have_forms (name, rows) ≡ true → IsSome (line_in (name, rows))
line_some name rules rows stood = go (signature_named name)
  where
    go : (o : Option Signature) → option_map_or (λ s. asks_for s.arguments rules) o false ≡ true
        → each_has_form (option_map_or (λ s. s.arguments) o []) rows ≡ true
        → IsSome (option_and_then (λ s. line_at s rows) o)
    go None asked have = cc
    go (Some s) asked have = mapped_some _ _ ∙ all_some s.arguments rules rows stood asked have

-- where a line is asked for, each value has its form
pub forms_of_asked : (named : Option (Text × List Row)) → IsSome (option_and_then line_in named)
    → option_map_or have_forms named true ≡ true
forms_of_asked None some = refl
forms_of_asked (Some p) some = go (signature_named p.0) some
  where
    go : (o : Option Signature) → IsSome (option_and_then (λ s. line_at s p.1) o)
        → each_has_form (option_map_or (λ s. s.arguments) o []) p.1 ≡ true
    go None some = cc
    go (Some s) some = forms_of_all s.arguments p.1 (sym (mapped_some _ _) ∙ some)

-- ---- commands that are built

-- the command is `help`, or it requires what its line asks for and none of its arguments may go without a value
is_sound : Shape → Bool
is_sound s = is_empty s.aliases && (bytes_eq s.name (codes "help") || (want_values s.rules && asks s.name s.rules))

-- a program's command of which each line that is accepted names a command that is sound
record IsSound (a : App) : Type 0 where
  needs_command : a.top.subcommand_required ≡ true
  has_help : a.top.disable_help_subcommand ≡ false
  values : want_values a.top.rules ≡ true
  commands : list_all is_sound a.subs ≡ true

abbrev in_order : Option (Text × List Row) → Bool
in_order named = option_map_or have_forms named true

required_here : (s : Shape) (rows : List Row) → is_valid s rows false ≡ true → all_given s.rules rows ≡ true
required_here s rows valid = grind arith

-- the line of a command that was entered
entered_some : (top s : Shape) (name : Text) (words : List Text) → is_sound s ≡ true
    → answers_to name (label_of s) ≡ true
    → lets_name top name ≡ true → top.disable_help_subcommand ≡ false
    → level_passes s [] nothing_held words false ≡ true
    → in_order (Some (rows_at s words)) ≡ true → IsSome (line_in (rows_at s words))
unfolding is_sound
entered_some top s name words sound answers lets help passes tests =
    let parts = both (is_empty s.aliases) _ sound in
    let alone = ap (list_any (λ alias. bytes_eq alias name)) (is_nil s.aliases parts.0) in
    let same = (bytes_eq-Decides s.name name).0 (left_of _ _ answers alone) in
    let other = ap (λ n. bytes_eq n (codes "help")) same ∙ not-true _ (left_of _ _ lets help) in
    let own = both (want_values s.rules) _ (right_of _ _ parts.1 other) in
    let passed = level s [] words false own.0 passes in
    line_some s.name s.rules (rows_after s.rules [] words) (record {
      given = required_here s (rows_after s.rules [] words) passed.valid;
      filled = passed.filled;
    }) own.1 tests

found_some : (a : App) (p : Text × List Text) (o : Option Shape) → find (λ s. answers_to p.0 (label_of s)) a.subs ≡ o
    → IsSound a
    → lets_name a.top p.0 ≡ true → is_some (option_map (λ s. rows_at s p.1) o) ≡ true
    → option_map_or (λ s. level_passes s [] nothing_held p.1 false) o true ≡ true
    → in_order (option_map (λ s. rows_at s p.1) o) ≡ true
    → IsSome (option_and_then line_in (option_map (λ s. rows_at s p.1) o))
found_some a p None found sound lets met passes tests = cc
found_some a p (Some s) found sound lets met passes tests =
    entered_some a.top s p.0 p.1 (found_passes is_sound _ a.subs s sound.commands found)
    (found_holds _ a.subs s found) lets sound.has_help passes tests

stopped_some : (a : App) (stop : Option (Text × List Text)) → IsSound a → lets_stop a.top stop ≡ true
    → is_some (entered a stop) ≡ true → entered_passes a stop ≡ true → in_order (entered a stop) ≡ true
    → IsSome (option_and_then line_in (entered a stop))
stopped_some a None sound lets met passes tests = cc
stopped_some a (Some p) sound lets met passes tests =
    found_some a p (find (λ s. answers_to p.0 (label_of s)) a.subs) refl sound lets met passes tests

built_some : (a : App) (words : List Text) → IsSound a → built_takes a nothing_held words ≡ true
    → in_order (entered a (stop_after a.top.rules (names_of a) words)) ≡ true
    → IsSome (option_and_then line_in (entered a (stop_after a.top.rules (names_of a) words)))
built_some a words sound passes tests =
    let stop = stop_after a.top.rules (names_of a) words in
    let parts = both (entered_passes a stop) _ passes in
    let top = level a.top (names_of a) words (is_some (entered a stop)) sound.values parts.1 in
    let valid = both (not a.top.arg_required_else_help || _) _ top.valid in
    let met = right_of _ _ (both _ _ valid.1).0 (ap not sound.needs_command) in
    stopped_some a stop sound top.stop met parts.0 tests

accepted_some : (a : App) (words : List Text) → IsSound (built a) → takes a words ≡ true
    → in_order (subcommand_of a words) ≡ true
    → IsSome (option_and_then line_in (subcommand_of a words))
accepted_some a words sound accepted tests =
    built_some (built a) (argument_words a words) sound (both (is_simple a) _ accepted).1 tests

-- ---- the program's command

symarch_sound : IsSound (built symarch_command)
unfolding symarch_command is_sound
symarch_sound = record { needs_command = refl; has_help = refl; values = refl; commands = refl }

-- a line that is accepted, in which each value has its form, asks for something
pub accepted_line : (words : List Text) → are_accepted words ≡ true
    → option_map_or have_forms (named_command words) true ≡ true → IsSome (asked_of words)
unfolding are_accepted named_command
accepted_line words = accepted_some symarch_command words symarch_sound
