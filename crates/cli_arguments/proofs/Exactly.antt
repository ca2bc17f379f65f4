-- Words are accepted exactly where they have no kind of error, at any command whose defaults pass. Both definitions go
-- step by step, and each step gives no kind exactly where it passes.
use Rattle.std.proofs.Common.{◌≡◌, ◌∙◌, ◌&&◌, ◌||◌, ℕ, zero, suc, Bool, true, false, not, cond, refl, sym, ap, arith}
use Rattle.std.proofs.Common.{nat_le, List, [], ◌∷◌, length, drop, Option, Some, None, is_some, chars, encode_utf8}
use Rattle.std.proofs.Common.{find}
use Rattle.std.proofs.lemmas.Bool.Decides.{nat_tests}
use Rattle.std.specs.{Prelude.slice_get, Option.option_map_or, List.list_all, List.list_any}
use Rattle.clap.specs.{Facts.unwrap_or_range, Lexer.long_of, Lexer.short_of, ValueTests.accepts, Values.is_request}
use Rattle.clap.specs.Faults.{action_fault, bundle_step_fault, check_fault, default_fault, defaults_fault}
use Rattle.clap.specs.Faults.{entered_fault, fault_of, flag_word_fault, flags_fault, has_free_rules, is_simple_and_free}
use Rattle.clap.specs.Faults.{level_fault, long_fault, option_fault, other_fault, react_fault, settle_fault}
use Rattle.clap.specs.Faults.{short_fault, step_fault, stray_fault, turn_fault, use_fault, values_fault, walk_fault}
use Rattle.clap.specs.Kinds.{Kinds, or_else, range_kinds, request_kinds, value_kinds}
use Rattle.clap.specs.Simple.{App, Shape, argument_words, built, entered, is_simple, label_of, names_of}
use Rattle.clap.specs.Takes.{action_passes, built_takes, bundle_step_passes, default_passes, entered_passes}
use Rattle.clap.specs.Takes.{flag_word_passes, flags_pass, is_given, is_valid, level_passes, long_passes, option_passes}
use Rattle.clap.specs.Takes.{other_passes, react_passes, settle_passes, short_passes, step_passes, takes, turn_passes}
use Rattle.clap.specs.Takes.{use_passes, values_pass, walk_passes}
use Rattle.clap.specs.Walk.{Held, Names, Row, Rule, Step, Text, Walk, action_of, answers_to, arg_by_id, arg_by_index}
use Rattle.clap.specs.Walk.{arg_by_long, arg_by_short, attached_value, finished, is_pending, most_values, next}
use Rattle.clap.specs.Walk.{nothing_held, reacted, settled, subcommand, subcommand_met, takes_several, takes_values}
use Rattle.clap.specs.Walk.{trailing, value, values_or_missing, walk, walk_from, walked, with_default, word_met}
use Rattle.clap.specs.declared.builder.{action.ArgAction.ArgAction, value_parser.ValueParser.ValueParser}
use Rattle.clap.proofs.WalkLemmas.{both}
use Rattle.cli_arguments.specs.{Commands.symarch_command, Lines.are_accepted, Lines.error_kinds}
use Rattle.cli_arguments.proofs.{FilledRows.found_passes, SimpleCommand.symarch_free}

-- no kind of error
abbrev none : Kinds → Bool
none [] = true
none (k ∷ ks) = false

none_is : (ks : Kinds) → none ks ≡ true → ks ≡ []
none_is ks is = grind arith

-- ---- joints

joined : (a b : Kinds) (p q : Bool) → none a ≡ p → none b ≡ q → none (or_else a b) ≡ (p && q)
joined a b p q first then = grind arith

picked : (c : Bool) (a b : Kinds) (p q : Bool) → none a ≡ p → none b ≡ q → none (cond c a b) ≡ cond c p q
picked c a b p q first then = grind arith

passed_or : (a : Bool) (fault : Kinds) (passes : Bool) → none fault ≡ passes → none (cond a [] fault) ≡ (a || passes)
passed_or a fault passes same = grind arith

where_some : {X : Type 0} (fault : X → Kinds) (passes : X → Bool) (none_is : Kinds) (o : Option X) (is_passed : Bool)
    → none none_is ≡ is_passed → ((x : X) → o ≡ Some x → none (fault x) ≡ passes x)
    → none (option_map_or fault o none_is) ≡ option_map_or passes o is_passed
where_some fault passes none_is o is_passed missing same = grind arith

-- ---- values

value_none : (ignore_case : Bool) (parser : ValueParser) (text : Text)
    → none (value_kinds ignore_case parser text) ≡ accepts ignore_case parser text
value_none ignore_case parser text = grind arith

values_none : (a : Rule) (vs : List Text) → none (values_fault a vs) ≡ values_pass a vs
values_none a [] = refl
values_none a (v ∷ vs) = grind (arith, values_none a vs)

-- ---- one use of an argument

action_none : (x : ArgAction) (again : Bool) (a : Rule) (vs : List Text) (rows : List Row)
    → none (action_fault x again a vs rows) ≡ action_passes x again a vs rows
action_none x again a vs rows = grind (arith, value_none, values_none)

range_none : (least most n : ℕ) → none (range_kinds least most n) ≡ (nat_le least n && nat_le n most)
range_none least most n = grind (arith, nat_tests)

use_none : (again : Bool) (a : Rule) (vs : List Text) (rows : List Row)
    → none (use_fault again a vs rows) ≡ use_passes again a vs rows
use_none again a vs rows =
    let range = range_none (unwrap_or_range a.range).start_inclusive (most_values a) (length vs) in
    let action = action_none (action_of a) again a (values_or_missing a vs) rows in
    grind arith

-- ---- flags

module _ (c : List Rule) (again : Bool) where
  settle_none : (h : Held) → none (settle_fault c again h) ≡ settle_passes c again h
  settle_none h = where_some _ _ [] h.pending true refl
      (λ p _. where_some _ _ [] (arg_by_id c p.0) true refl (λ a _. use_none again a p.1 h.rows))

  react_none : (a : Rule) (vs : List Text) (h : Held) → none (react_fault c again a vs h) ≡ react_passes c again a vs h
  react_none a vs h = joined _ _ _ _ (settle_none h) (use_none again a vs (settled c h).rows)

  option_none : (a : Rule) (v : Option Text) (h : Held) → none (option_fault c again a v h) ≡ option_passes c again a v h
  option_none a (Some v) h = react_none a (v ∷ []) h
  option_none a None h = settle_none h

  long_none : (found : Option Rule) (v : Option Text) (h : Held)
      → none (long_fault c again found v h) ≡ long_passes c again found v h
  long_none None v h = refl
  long_none (Some a) (Some v) h = picked (takes_values a) _ _ _ _ (option_none a (Some v) h) refl
  long_none (Some a) None h = picked (takes_values a) _ _ _ _ (option_none a None h) (react_none a [] h)

  short_none : (found : Option Rule) (rest : Text) (h : Held) (fault : Held → Kinds) (passes : Held → Bool)
      → ((k : Held) → none (fault k) ≡ passes k)
      → none (short_fault c again found rest h fault) ≡ short_passes c again found rest h passes
  short_none None rest h fault passes same = refl
  short_none (Some a) rest h fault passes same =
      picked (takes_values a) _ _ _ _ (option_none a (attached_value rest) h)
      (joined _ _ _ _ (react_none a [] h) (same (reacted c a [] h)))

  bundle_step_none : (first : Option ℕ) (flags : Text) (skip : ℕ) (h : Held) (fault : Text → ℕ → Held → Kinds)
      (passes : Text → ℕ → Held → Bool) → ((rest : Text) (n : ℕ) (k : Held) → none (fault rest n k) ≡ passes rest n k)
      → none (bundle_step_fault c again first flags skip h fault) ≡ bundle_step_passes c again first flags skip h passes
  bundle_step_none None flags skip h fault passes same = refl
  bundle_step_none (Some x) flags zero h fault passes same =
      short_none (arg_by_short c x) _ h _ _ (same (drop (length (encode_utf8 x)) flags) 0)
  bundle_step_none (Some x) flags (suc skip) h fault passes same = same _ skip h

  flags_none : (n : ℕ) (flags : Text) (skip : ℕ) (h : Held)
      → none (flags_fault c again n flags skip h) ≡ flags_pass c again n flags skip h
  unfolding flags_fault flags_pass
  flags_none zero flags skip h = refl
  flags_none (suc n) flags skip h = bundle_step_none (slice_get (chars flags) 0) flags skip h _ _ (flags_none n)

  flag_word_none : (named : Option (Text × Option Text)) (word : Text) (h : Held)
      → none (flag_word_fault c again named word h) ≡ flag_word_passes c again named word h
  flag_word_none (Some p) word h = long_none (arg_by_long c p.0) p.1 h
  flag_word_none None word h = where_some _ _ [] (short_of word) true refl
      (λ flags _. flags_none (length flags) flags h.skip (record h { skip = 0 }))

-- ---- one word

other_none : (s : Shape) (named : Option Text) (word : Text) (h : Held)
    → none (other_fault s named word h) ≡ other_passes s named word h
other_none s named word h =
    let flags = flag_word_none s.rules s.args_override_self (long_of word) word h in
    grind arith

step_none : (s : Shape) (position : ℕ) (h : Held) (step : Step)
    → none (step_fault s position h step) ≡ step_passes s position h step
step_none s position h (next waiting) = refl
step_none s position h (trailing at) = refl
step_none s position h (subcommand name) = refl
step_none s position h value = where_some _ _ (stray_fault s) (arg_by_index s.rules position) false (grind arith)
    (λ a _. passed_or (is_pending a h.pending && takes_several a) _ _
    (settle_none s.rules s.args_override_self h))

turn_none : (s : Shape) (names : Names) (w : Walk) (word : Text)
    → none (turn_fault s names w word) ≡ turn_passes s names w word
turn_none s names w word =
    let met = word_met s.rules names w.is_trailing w.waiting w.position word w.held in
    passed_or (is_some w.stopped) _ _
    (joined _ _ _ _ (passed_or w.is_trailing _ _ (other_none s (subcommand_met names w.waiting word) word w.held))
    (step_none s w.position met.0 met.1))

walk_none : (s : Shape) (names : Names) (w : Walk) (words : List Text)
    → none (walk_fault s names w words) ≡ walk_passes s names w words
unfolding walk_fault walk_passes
walk_none s names w [] = refl
walk_none s names w (word ∷ words) =
    joined _ _ _ _ (turn_none s names w word) (walk_none s names (walked s.rules names w word) words)

-- ---- after the walk

request_none : (x : ArgAction) → none (request_kinds x) ≡ not (is_request x)
request_none x = grind arith

-- a default that is not used is tested all the same by `takes`, and not by `fault_of`
default_none : (rows : List Row) (a : Rule) → default_passes a ≡ true → none (default_fault rows a) ≡ true
default_none rows a passes =
    let request = request_none (action_of a) in
    let values = values_none a a.defaults in
    grind arith

abbrev defaults_pass : Shape → Bool
defaults_pass s = list_all default_passes s.rules

defaults_none : (rows : List Row) (rules : List Rule) → list_all default_passes rules ≡ true
    → none (defaults_fault rows rules) ≡ true
unfolding defaults_fault
defaults_none rows [] pass = refl
defaults_none rows (a ∷ rules) pass =
    let parts = both (default_passes a) _ pass in
    joined _ _ true true (default_none rows a parts.0) (defaults_none (with_default rows a) rules parts.1)

none_missing : (rules : List Rule) (rows : List Row)
    → not (list_any (λ a. a.required && not (is_given a.id rows)) rules)
    ≡ list_all (λ a. not a.required || is_given a.id rows) rules
none_missing [] rows = refl
none_missing (a ∷ rules) rows = grind (arith, none_missing rules rows)

valid_none : (s : Shape) (rows : List Row) (has : Bool) → has_free_rules s ≡ true
    → none (check_fault s rows has) ≡ is_valid s rows has
valid_none s rows has free = grind (arith, none_missing s.rules rows)

-- ---- a level, and the command

all_joined : (a b c d e : Kinds) (p q pass r : Bool) → none a ≡ p → none c ≡ q → none d ≡ true → pass ≡ true
    → none e ≡ r → none (or_else a (or_else b (or_else c (or_else d e)))) ≡ (none b && (p && (q && (pass && r))))
all_joined a b c d e p q pass r first then defaults is last = grind arith

level_none : (s : Shape) (names : Names) (h : Held) (words : List Text) (has : Bool) (below : Kinds)
    → has_free_rules s ≡ true → defaults_pass s ≡ true
    → none (level_fault s names h words has below) ≡ (none below && level_passes s names h words has)
level_none s names h words has below free pass =
    let end = (walk s.rules names h words).held in
    all_joined _ below _ _ _ _ _ _ _ (walk_none s names (walk_from h) words)
    (settle_none s.rules s.args_override_self end) (defaults_none (settled s.rules end).rows s.rules pass) pass
    (valid_none s (finished s.rules end) has free)

-- the defaults of the command and of those below it pass
abbrev all_defaults_pass : App → Bool
all_defaults_pass a = defaults_pass a.top && list_all defaults_pass a.subs

entered_none : (a : App) (stop : Option (Text × List Text)) → list_all has_free_rules a.subs ≡ true
    → list_all defaults_pass a.subs ≡ true → none (entered_fault a stop) ≡ entered_passes a stop
entered_none a stop free pass = where_some _ _ [] stop true refl (λ p _.
    let named = λ (s : Shape). answers_to p.0 (label_of s) in
    where_some _ _ [] (find named a.subs) true refl (λ s found. level_none s [] nothing_held p.1 false []
    (found_passes has_free_rules named a.subs s free found) (found_passes defaults_pass named a.subs s pass found)))

-- no kind of error exactly where the words are taken
exactly : (a : App) (words : List Text) → is_simple_and_free a ≡ true → all_defaults_pass (built a) ≡ true
    → none (fault_of a words) ≡ takes a words
exactly a words simple pass =
    let b = built a in
    let given = argument_words a words in
    let stop = (walk b.top.rules (names_of b) nothing_held given).stopped in
    let parts = both (is_simple a) _ simple in
    let free = both (has_free_rules b.top) _ parts.1 in
    let defaults = both (defaults_pass b.top) _ pass in
    let has = is_some (entered b stop) in
    level_none b.top (names_of b) nothing_held given has (entered_fault b stop) free.0 defaults.0
    ∙ ap (λ x. x && level_passes b.top (names_of b) nothing_held given has) (entered_none b stop free.1 defaults.1)
    ∙ sym (ap (λ x. x && built_takes b nothing_held given) parts.0)

-- ---- the program's command

symarch_defaults : all_defaults_pass (built symarch_command) ≡ true
unfolding symarch_command
symarch_defaults = refl

pub accepted_if_faultless : (words : List Text) → error_kinds words ≡ [] → are_accepted words ≡ true
unfolding error_kinds are_accepted
accepted_if_faultless words faultless =
    sym (exactly symarch_command words symarch_free symarch_defaults) ∙ ap none faultless

pub faultless_if_accepted : (words : List Text) → are_accepted words ≡ true → error_kinds words ≡ []
unfolding error_kinds are_accepted
faultless_if_accepted words accepted =
    none_is _ (exactly symarch_command words symarch_free symarch_defaults ∙ accepted)
