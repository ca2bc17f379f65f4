-- A walk over words that `clap` accepts leaves no row without a value, where no argument may be used without one.
use Rattle.std.proofs.Common.{◌≡◌, ◌&&◌, ◌||◌, ◌++◌, ℕ, zero, suc, Bool, true, false, not, cond, refl, arith, List, []}
use Rattle.std.proofs.Common.{◌∷◌, Option, Some, None, is_some, nat_le, drop, length, codes}
use Rattle.std.proofs.lemmas.{Bool.and_from, Bool.Decides.nat_tests, List.Folds.list_all-append}
use Rattle.std.specs.Prelude.{encode_utf8, find, slice_get}
use Rattle.std.specs.{List.fold, List.list_all, Option.option_map_or, Str.bytes_eq, Str.chars}
use Rattle.clap.specs.{Lexer.long_of, Lexer.short_of, Facts.unwrap_or_range}
use Rattle.clap.specs.{Values.is_request, Simple.Shape, declared.parser.matches.ValueSource.ValueSource}
use Rattle.clap.specs.Walk.{Held, Names, Outcome, Row, Rule, Step, Text, Waiting, Walk, action_of, after_flag}
use Rattle.clap.specs.Walk.{after_step, arg_by_id, arg_by_index, arg_by_long, arg_by_short, at_row, attached_value}
use Rattle.clap.specs.Walk.{bundle, bundle_met, bundle_step, default_rows, done, flag_met, has_row, is_pending}
use Rattle.clap.specs.Walk.{long_met, long_or_other, more_values, next, option_met, plain, reacted, reading_by, settled}
use Rattle.clap.specs.Walk.{settled_rows, short_met, short_or_plain, subcommand, subcommand_met, subcommand_or_other}
use Rattle.clap.specs.Walk.{takes_several, takes_values, to_positional, trailing, used, used_as, used_by_id, value}
use Rattle.clap.specs.Walk.{values_or_missing, walk, walk_from, walked, walked_from, with_default, nothing_held}
use Rattle.clap.specs.Walk.{rows_after, with_values, without, word_met}
use Rattle.clap.specs.Takes.{action_passes, is_valid, bundle_passes, bundle_step_passes, flag_word_passes, flags_pass}
use Rattle.clap.specs.Takes.{level_passes, long_passes, option_passes, other_passes, positional_passes, react_passes}
use Rattle.clap.specs.Takes.{settle_passes, short_passes, step_passes, turn_passes, use_passes, walk_passes}
use Rattle.clap.specs.Takes.{word_passes}
use Rattle.clap.specs.declared.builder.{action.ArgAction.ArgAction, value_parser.Reading.Reading}
use Rattle.clap.specs.declared.parser.matches.ValueSource.TheVariants.{CommandLine, DefaultValue}
use Rattle.clap.proofs.WalkLemmas.{both}

-- ---- words

-- some values
abbrev pub is_filled : List Text → Bool
is_filled [] = false
is_filled (v ∷ vs) = true

-- each row has a value
abbrev pub are_filled : List Row → Bool
are_filled rows = list_all (λ r. is_filled r.values) rows

-- no use without a value passes, or a value stands for it
abbrev pub wants_value : Rule → Bool
wants_value a =
    (nat_le 1 (unwrap_or_range a.range).start_inclusive || is_request (action_of a)) || is_filled a.missing

abbrev pub want_values : List Rule → Bool
want_values rules = list_all wants_value rules

-- ---- tests

-- one of two stands there, by a test, and what passes for it does
picked : {X : Type 0} (is : X → Bool) (c p q : Bool) (x y : X) → cond c p q ≡ true → (p ≡ true → is x ≡ true)
    → (q ≡ true → is y ≡ true) → is (cond c x y) ≡ true
picked is true p q x y passes one other = one passes
picked is false p q x y passes one other = other passes

or_picked : {X : Type 0} (is : X → Bool) (c q : Bool) (x y : X) → (c || q) ≡ true → is x ≡ true
    → (q ≡ true → is y ≡ true) → is (cond c x y) ≡ true
or_picked is true q x y passes one other = one
or_picked is false q x y passes one other = other passes

or_none : (b : Bool) → (b || false) ≡ true → b ≡ true
or_none b is = grind arith

-- what is found among elements that all pass passes
pub found_passes : {X : Type 0} (p q : X → Bool) (xs : List X) (x : X) → list_all p xs ≡ true → find q xs ≡ Some x
    → p x ≡ true
found_passes p q [] x all is = cc
found_passes p q (y ∷ ys) x all is = grind (arith, found_passes p q ys x)

-- ---- rows

added_filled : (xs ys : List Text) → is_filled xs ≡ true → is_filled (xs ++ ys) ≡ true
added_filled [] ys filled = cc
added_filled (x ∷ xs) ys filled = refl

at_row_filled : (id : Text) (change : Row → List Row) (missing rows : List Row)
    → ((r : Row) → is_filled r.values ≡ true → are_filled (change r) ≡ true) → are_filled missing ≡ true
    → are_filled rows ≡ true → are_filled (at_row id change missing rows) ≡ true
at_row_filled id change missing [] kept more filled = more
at_row_filled id change missing (r ∷ rs) kept more filled =
    let after = at_row_filled id change missing rs kept more in
    let here = kept r in
    let changed = list_all-append (λ (x : Row). is_filled x.values) (change r) rs in
    grind arith

with_values_filled : (id : Text) (how : Reading) (s : ValueSource) (v : Text) (vs : List Text) (rows : List Row)
    → are_filled rows ≡ true → are_filled (with_values id how s (v ∷ vs) rows) ≡ true
with_values_filled id how s v vs rows filled =
    at_row_filled id (more_values s (v ∷ vs)) _ rows
    (λ r is. and_from _ _ (added_filled r.values (v ∷ vs) is) refl) refl filled

used_as_filled : (x : ArgAction) (id : Text) (how : Reading) (v : Text) (vs : List Text) (rows : List Row)
    → are_filled rows ≡ true → are_filled (used_as x id how (v ∷ vs) rows) ≡ true
used_as_filled x id how v vs rows filled =
    let added = with_values_filled id how CommandLine v vs in
    let alone = added (without id rows) (at_row_filled id (λ _. []) [] rows (λ r is. refl) refl filled) in
    let more = added rows filled in
    grind arith

-- ---- one use of an argument

request_fails : (x : ArgAction) (again : Bool) (a : Rule) (vs : List Text) (rows : List Row) → is_request x ≡ true
    → action_passes x again a vs rows ≡ true → ⊥
request_fails x again a vs rows is passes = grind arith

none_fails : (again : Bool) (a : Rule) (rows : List Row)
    → (nat_le 1 (unwrap_or_range a.range).start_inclusive || is_request (action_of a)) ≡ true
    → use_passes again a [] rows ≡ true → ⊥
none_fails again a rows wants passes =
    let fails = request_fails (action_of a) again a (values_or_missing a []) rows in
    grind (arith, nat_tests)

used_filled : (again : Bool) (a : Rule) (values : List Text) (rows : List Row) → wants_value a ≡ true
    → use_passes again a values rows ≡ true → are_filled rows ≡ true → are_filled (used a values rows) ≡ true
used_filled again a [] rows wants passes filled = go a.missing wants
  where
    go : (missing : List Text)
        → ((nat_le 1 (unwrap_or_range a.range).start_inclusive || is_request (action_of a)) || is_filled missing) ≡ true
        → are_filled (used_as (action_of a) a.id (reading_by a) missing rows) ≡ true
    go [] wants = absurd (none_fails again a rows (or_none _ wants) passes)
    go (v ∷ vs) wants = used_as_filled (action_of a) a.id (reading_by a) v vs rows filled
used_filled again a (v ∷ vs) rows wants passes filled =
    used_as_filled (action_of a) a.id (reading_by a) v vs rows filled

-- ---- what is held

-- the rows that are held have values
abbrev pub holds_values : Held → Bool
holds_values h = are_filled h.rows

module _ (c : List Rule) (again : Bool) (wants : want_values c ≡ true) where
  settled_filled : (h : Held) → settle_passes c again h ≡ true → holds_values h ≡ true
      → holds_values (settled c h) ≡ true
  settled_filled h passes filled = go h.pending passes
    where
      by_id : (o : Option Rule) (values : List Text) → ((a : Rule) → o ≡ Some a → wants_value a ≡ true)
          → option_map_or (λ a. use_passes again a values h.rows) o true ≡ true
          → are_filled (used_by_id o values h.rows) ≡ true
      by_id None values each ok = filled
      by_id (Some a) values each ok = used_filled again a values h.rows (each a refl) ok filled

      go : (pending : Option (Text × List Text))
          → option_map_or (λ p. option_map_or (λ a. use_passes again a p.1 h.rows) (arg_by_id c p.0) true) pending true
          ≡ true
          → are_filled (settled_rows c pending h.rows) ≡ true
      go None ok = filled
      go (Some p) ok = by_id (arg_by_id c p.0) p.1 (λ a. found_passes wants_value _ c a wants) ok

  reacted_filled : (a : Rule) (values : List Text) (h : Held) → wants_value a ≡ true
      → react_passes c again a values h ≡ true → holds_values h ≡ true → holds_values (reacted c a values h) ≡ true
  reacted_filled a values h one passes filled =
      let parts = both (settle_passes c again h) _ passes in
      used_filled again a values (settled c h).rows one parts.1 (settled_filled h parts.0 filled)

  -- ---- flags

  option_met_filled : (a : Rule) (v : Option Text) (h : Held) → wants_value a ≡ true
      → option_passes c again a v h ≡ true → holds_values h ≡ true → holds_values (option_met c a v h).0 ≡ true
  option_met_filled a (Some v) h one passes filled = reacted_filled a (v ∷ []) h one passes filled
  option_met_filled a None h one passes filled = settled_filled h passes filled

  long_met_filled : (found : Option Rule) (v : Option Text) (h : Held)
      → ((a : Rule) → found ≡ Some a → wants_value a ≡ true) → long_passes c again found v h ≡ true
      → holds_values h ≡ true → holds_values (long_met c found v h).0 ≡ true
  long_met_filled None v h one passes filled = filled
  long_met_filled (Some a) v h one passes filled =
      picked (λ (met : Held × Outcome). holds_values met.0) (takes_values a) _ _ _ _ passes
      (λ ok. option_met_filled a v h (one a refl) ok filled) (flag v)
    where
      flag : (v : Option Text) → (not (is_some v) && react_passes c again a [] h) ≡ true
          → holds_values (flag_met c a v h).0 ≡ true
      flag None ok = reacted_filled a [] h (one a refl) ok filled
      flag (Some v) ok = filled

  short_met_filled : (found : Option Rule) (rest : Text) (h : Held) (ok : Held → Bool) (then : Held → Held × Outcome)
      → ((a : Rule) → found ≡ Some a → wants_value a ≡ true)
      → ((k : Held) → ok k ≡ true → holds_values k ≡ true → holds_values (then k).0 ≡ true)
      → short_passes c again found rest h ok ≡ true → holds_values h ≡ true
      → holds_values (short_met c found rest h then).0 ≡ true
  short_met_filled None rest h ok then one after passes filled = filled
  short_met_filled (Some a) rest h ok then one after passes filled =
      picked (λ (met : Held × Outcome). holds_values met.0) (takes_values a) _ _ _ _ passes
      (λ is. option_met_filled a (attached_value rest) h (one a refl) is filled)
      (λ is. let parts = both (react_passes c again a [] h) _ is in
      after _ parts.1 (reacted_filled a [] h (one a refl) parts.0 filled))

  bundle_step_filled : (first : Option ℕ) (flags : Text) (skip : ℕ) (so_far : Outcome) (h : Held)
      (ok : Text → ℕ → Held → Bool) (then : Text → ℕ → Outcome → Held → Held × Outcome)
      → ((rest : Text) (n : ℕ) (o : Outcome) (k : Held) → ok rest n k ≡ true → holds_values k ≡ true
      → holds_values (then rest n o k).0 ≡ true)
      → bundle_step_passes c again first flags skip h ok ≡ true → holds_values h ≡ true
      → holds_values (bundle_step c first flags skip so_far h then).0 ≡ true
  bundle_step_filled None flags skip so_far h ok then after passes filled = filled
  bundle_step_filled (Some x) flags zero so_far h ok then after passes filled =
      short_met_filled (arg_by_short c x) (drop (length (encode_utf8 x)) flags) h _ _
      (λ a is. found_passes wants_value _ c a wants is)
      (λ k. after (drop (length (encode_utf8 x)) flags) 0 done k) passes filled
  bundle_step_filled (Some x) flags (suc skip) so_far h ok then after passes filled =
      after (drop (length (encode_utf8 x)) flags) skip so_far h passes filled

  bundle_met_filled : (n : ℕ) (flags : Text) (skip : ℕ) (so_far : Outcome) (h : Held)
      → flags_pass c again n flags skip h ≡ true → holds_values h ≡ true
      → holds_values (bundle_met c n flags skip so_far h).0 ≡ true
  unfolding flags_pass bundle_met
  bundle_met_filled zero flags skip so_far h passes filled = filled
  bundle_met_filled (suc n) flags skip so_far h passes filled =
      bundle_step_filled (slice_get (chars flags) 0) flags skip so_far h (flags_pass c again n) (bundle_met c n)
      (λ rest m o k. bundle_met_filled n rest m o k) passes filled

-- ---- one word

-- the subcommand of this name is one that the command lets words name
abbrev pub lets_name : Shape → Text → Bool
lets_name s name = not (bytes_eq name (codes "help")) || s.disable_help_subcommand

abbrev lets_step : Shape → Step → Bool
lets_step s (subcommand name) = lets_name s name
lets_step s _ = true

-- the rows that are held after a word have values, and it names nothing but what it may
abbrev is_fine : Shape → Held × Step → Bool
is_fine s met = holds_values met.0 && lets_step s met.1

after_flag_fine : (s : Shape) (waiting : Waiting) (word : Text) (h : Held) (o : Outcome) → holds_values h ≡ true
    → is_fine s (after_flag s.rules waiting word h o) ≡ true
after_flag_fine s waiting word h o filled = grind arith

flag_word_fine : (s : Shape) (again : Bool) (waiting : Waiting) (word : Text) (named : Option (Text × Option Text))
    (h : Held) → want_values s.rules ≡ true → flag_word_passes s.rules again named word h ≡ true
    → holds_values h ≡ true → is_fine s (long_or_other s.rules waiting word named h) ≡ true
flag_word_fine s again waiting word (Some p) h wants passes filled =
    let c = s.rules in
    let met = long_met c (arg_by_long c p.0) p.1 h in
    after_flag_fine s waiting word met.0 met.1 (long_met_filled c again wants (arg_by_long c p.0) p.1 h
    (λ a is. found_passes wants_value _ c a wants is) passes filled)
flag_word_fine s again waiting word None h wants passes filled = go (short_of word) passes
  where
    go : (flags : Option Text) → option_map_or (λ f. bundle_passes s.rules again f h) flags true ≡ true
        → is_fine s (short_or_plain s.rules waiting word flags h) ≡ true
    go None is = after_flag_fine s waiting word h plain filled
    go (Some flags) is =
        after_flag_fine s waiting word (bundle s.rules flags h).0 (bundle s.rules flags h).1
        (bundle_met_filled s.rules again wants (length flags) flags h.skip plain (record h { skip = 0 }) is filled)

other_fine : (s : Shape) (named : Option Text) (waiting : Waiting) (position : ℕ) (word : Text) (h : Held)
    → want_values s.rules ≡ true → other_passes s named word h ≡ true → holds_values h ≡ true
    → is_fine s (subcommand_or_other s.rules named waiting position word h) ≡ true
other_fine s (Some name) waiting position word h wants passes filled = and_from _ _ filled passes
other_fine s None waiting position word h wants passes filled =
    or_picked (is_fine s) (bytes_eq word (45 ∷ 45 ∷ [])) _ _ _ passes (and_from _ _ filled refl)
    (λ ok. flag_word_fine s s.args_override_self waiting word (long_of word) h wants ok filled)

word_met_fine : (s : Shape) (names : Names) (is_trailing : Bool) (waiting : Waiting) (position : ℕ) (word : Text)
    (h : Held)
    → want_values s.rules ≡ true → word_passes s names is_trailing waiting word h ≡ true → holds_values h ≡ true
    → is_fine s (word_met s.rules names is_trailing waiting position word h) ≡ true
word_met_fine s names is_trailing waiting position word h wants passes filled =
    or_picked (is_fine s) is_trailing _ _ _ passes (and_from _ _ filled refl)
    (λ ok. other_fine s (subcommand_met names waiting word) waiting position word h wants ok filled)

-- ---- the walk

abbrev pub lets_stop : Shape → Option (Text × List Text) → Bool
lets_stop s stop = option_map_or (λ p. lets_name s p.0) stop true

-- the rows have values, and the walk stopped at nothing but what it may
abbrev stands : Shape → Walk → Bool
stands s w = holds_values w.held && lets_stop s w.stopped

after_step_stands : (s : Shape) (word : Text) (w : Walk) (h : Held) (step : Step) → want_values s.rules ≡ true
    → is_fine s (h, step) ≡ true → step_passes s w.position h step ≡ true → lets_stop s w.stopped ≡ true
    → stands s (after_step s.rules word w h step) ≡ true
after_step_stands s word w h (next waiting) wants fine passes stop = and_from _ _ (both _ _ fine).0 stop
after_step_stands s word w h (trailing position) wants fine passes stop = and_from _ _ (both _ _ fine).0 stop
after_step_stands s word w h (subcommand name) wants fine passes stop = fine
after_step_stands s word w h value wants fine passes stop = go (arg_by_index s.rules w.position) passes
  where
    go : (o : Option Rule) → option_map_or (λ a. positional_passes s.rules s.args_override_self a h) o false ≡ true
        → stands s (to_positional s.rules o word w h) ≡ true
    go None ok = cc
    go (Some a) ok = and_from _ _ (or_picked holds_values (is_pending a h.pending && takes_several a) _ _ _ ok
        (both _ _ fine).0 (λ is. settled_filled s.rules s.args_override_self wants h is (both _ _ fine).0)) refl

turn_stands : (s : Shape) (names : Names) (w : Walk) (word : Text) → want_values s.rules ≡ true
    → turn_passes s names w word ≡ true → stands s w ≡ true → stands s (walked s.rules names w word) ≡ true
unfolding walked
turn_stands s names w word wants passes before = go w.stopped passes (both (holds_values w.held) _ before).1
  where
    go : (o : Option (Text × List Text))
        → (is_some o || (word_passes s names w.is_trailing w.waiting word w.held
        && step_passes s w.position (word_met s.rules names w.is_trailing w.waiting w.position word w.held).0
        (word_met s.rules names w.is_trailing w.waiting w.position word w.held).1)) ≡ true
        → lets_stop s o ≡ true → stands s (walked_from s.rules names o w word) ≡ true
    go (Some p) ok stop = and_from _ _ (both _ _ before).0 stop
    go None ok stop =
        let parts = both (word_passes s names w.is_trailing w.waiting word w.held) _ ok in
        let held = both (holds_values w.held) _ before in
        after_step_stands s word w _ _ wants
        (word_met_fine s names w.is_trailing w.waiting w.position word w.held wants parts.0 held.0) parts.1 held.1

walk_stands : (s : Shape) (names : Names) (w : Walk) (words : List Text) → want_values s.rules ≡ true
    → walk_passes s names w words ≡ true → stands s w ≡ true → stands s (fold (walked s.rules names) w words) ≡ true
unfolding walk_passes
walk_stands s names w [] wants passes before = before
walk_stands s names w (word ∷ words) wants passes before =
    let parts = both (turn_passes s names w word) _ passes in
    walk_stands s names (walked s.rules names w word) words wants parts.1
    (turn_stands s names w word wants parts.0 before)

-- ---- after the walk

with_default_filled : (rows : List Row) (a : Rule) → are_filled rows ≡ true → are_filled (with_default rows a) ≡ true
with_default_filled rows a filled = go (has_row a.id rows) a.defaults
  where
    go : (b : Bool) (vs : List Text) → are_filled (cond b rows (default_rows a.id (reading_by a) vs rows)) ≡ true
    go true vs = filled
    go false [] = filled
    go false (v ∷ vs) = with_values_filled a.id (reading_by a) DefaultValue v vs rows filled

defaults_filled : (c : List Rule) (rows : List Row) → are_filled rows ≡ true
    → are_filled (fold with_default rows c) ≡ true
defaults_filled [] rows filled = filled
defaults_filled (a ∷ c) rows filled = defaults_filled c (with_default rows a) (with_default_filled rows a filled)

-- what a level of a parse that passes leaves
pub record Level (s : Shape) (names : Names) (words : List Text) (has_subcommand : Bool) : Type 0 where
  pub stop : lets_stop s (walk s.rules names nothing_held words).stopped ≡ true
  pub filled : are_filled (rows_after s.rules names words) ≡ true
  pub valid : is_valid s (rows_after s.rules names words) has_subcommand ≡ true

pub level : (s : Shape) (names : Names) (words : List Text) (has_subcommand : Bool) → want_values s.rules ≡ true
    → level_passes s names nothing_held words has_subcommand ≡ true → Level s names words has_subcommand
level s names words has_subcommand wants passes =
    let end = walk s.rules names nothing_held words in
    let parts = both (walk_passes s names (walk_from nothing_held) words) _ passes in
    let rest = both (settle_passes s.rules s.args_override_self end.held) _ parts.1 in
    let stood = both (holds_values end.held) _
    (walk_stands s names (walk_from nothing_held) words wants parts.0 refl) in
    record {
      stop = stood.1;
      filled = defaults_filled s.rules (settled s.rules end.held).rows
          (settled_filled s.rules s.args_override_self wants end.held rest.0 stood.0);
      valid = (both _ _ rest.1).1;
    }
