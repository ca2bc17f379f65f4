-- How many inputs of each kind a line has by its plan.
use Rattle.std.proofs.Common.{◌≡◌, ◌≤◌, ◌<◌, ◌&&◌, ℕ, suc, Bool, true, false, List, [], ◌∷◌, ◌++◌, arith, length}
use Rattle.std.proofs.Common.{length-append, refl, if◌then◌else◌, Option, Some, None}
use Rattle.std.specs.Option.{option_map_or}
use Rattle.clap.proofs.WalkLemmas.{both}
use Rattle.clap.specs.Words.{Text}
use Rattle.cli_arguments.specs.Arguments.{Argument, Count, Once, Several, Values, are_values_of, form_of, is_formed, is_kind, reads_kind}
use Rattle.cli_arguments.specs.Inputs.{Inputs, of_kind}
use Rattle.cli_arguments.specs.Lines.{Line, inputs_of_kind, texts_by, texts_of}
use Rattle.cli_arguments.specs.Table.{Signature, arguments_named, is_listed, signature_named}
use Rattle.cli_arguments.specs.declared.commands.{Kind.Kind, Role.Role}
use Rattle.cli_arguments.specs.declared.commands.Form.TheVariants as forms
use Rattle.cli_arguments.specs.declared.commands.Kind.TheVariants as kinds
use Rattle.cli_arguments.specs.declared.commands.Role.TheVariants as roles
use Rattle.cli_arguments.specs.Plan.{HasInputs, IsPlanOf}
use Rattle.cli_arguments.specs.declared.plan.Plan.{Plan}
use Rattle.cli_arguments.specs.declared.plan.Plan.TheVariants as plan

-- it has to be there
abbrev has_to_stand : Count → Bool
has_to_stand Once = true
has_to_stand Several = true
has_to_stand _ = false

-- as many of these arguments are paths of inputs of a kind that have to be there
abbrev least_of : Kind → List Argument → ℕ
least_of kind [] = 0
least_of kind (a ∷ rest) =
    if reads_kind kind a.role && has_to_stand a.count then suc (least_of kind rest) else least_of kind rest

-- a path that has to be there is one
one_there : (count : Count) (v : Values) → has_to_stand count ≡ true → is_formed forms.Plain count v ≡ true
    → 1 ≤ length (texts_of v)
one_there count v must formed = grind arith

-- and as many inputs of the kind are there at least
few : (kind : Kind) (arguments : List Argument) (vs : List Values) → are_values_of arguments vs ≡ true
    → least_of kind arguments ≤ length (texts_by (reads_kind kind) arguments vs)
few kind [] vs are = omega arith
few kind (a ∷ rest) [] are = cc
few kind (a ∷ rest) (v ∷ vs) are =
    let parts = both (is_formed (form_of a.role) a.count v) _ are in
    go a.role a.count parts.0 (few kind rest vs parts.1)
  where
    of_kind_read : (b : Bool) (count : Count) → is_formed forms.Plain count v ≡ true
        → least_of kind rest ≤ length (texts_by (reads_kind kind) rest vs)
        → (if b && has_to_stand count then suc (least_of kind rest) else least_of kind rest)
        ≤ length (if b then texts_of v ++ texts_by (reads_kind kind) rest vs else texts_by (reads_kind kind) rest vs)
    of_kind_read true Once formed more =
        omega (arith, more, one_there Once v refl formed, length-append (texts_of v) (texts_by (reads_kind kind) rest vs))
    of_kind_read true Several formed more =
        omega (arith, more, one_there Several v refl formed, length-append (texts_of v) (texts_by (reads_kind kind) rest vs))
    of_kind_read true count formed more =
        omega (arith, more, length-append (texts_of v) (texts_by (reads_kind kind) rest vs))
    of_kind_read false count formed more = more

    go : (role : Role) (count : Count) → is_formed (form_of role) count v ≡ true
        → least_of kind rest ≤ length (texts_by (reads_kind kind) rest vs)
        → (if reads_kind kind role && has_to_stand count then suc (least_of kind rest) else least_of kind rest)
        ≤ length (if reads_kind kind role then texts_of v ++ texts_by (reads_kind kind) rest vs
        else texts_by (reads_kind kind) rest vs)
    go (roles.Reads other) count formed more = of_kind_read (is_kind kind other) count formed more
    go role count formed more = more

least : (kind : Kind) (name : Text) (vs : List Values)
    → option_map_or (λ s. are_values_of s.arguments vs) (signature_named name) false ≡ true
    → least_of kind (arguments_named name) ≤ length (texts_by (reads_kind kind) (arguments_named name) vs)
least kind name vs = go (signature_named name)
  where
    go : (o : Option Signature) → option_map_or (λ s. are_values_of s.arguments vs) o false ≡ true
        → least_of kind (option_map_or (λ s. s.arguments) o [])
        ≤ length (texts_by (reads_kind kind) (option_map_or (λ s. s.arguments) o []) vs)
    go None listed = cc
    go (Some s) listed = few kind s.arguments vs listed

-- the inputs of a line are those that its plan cannot do without
module _ {X : Type 0} (line : Line) (inputs : Inputs X) (listed : is_listed line.name line.values ≡ true)
    (as_many : (kind : Kind) → length (of_kind kind inputs) ≡ length (inputs_of_kind kind line)) where
  some : (kind : Kind) (name : Text) → line.name ≡ name → 0 < least_of kind (arguments_named name)
      → 0 < length (of_kind kind inputs)
  some kind name same must =
      let enough_of_line : least_of kind (arguments_named line.name) ≤ length (inputs_of_kind kind line) =
      least kind line.name line.values listed in
      let here : least_of kind (arguments_named name) ≤ length (of_kind kind inputs) =
      rw (as_many kind, ← same) enough_of_line in
      omega (arith, must, here)

  pub enough : (asked : Plan) → IsPlanOf asked line → HasInputs asked inputs
  enough plan.New is = tt
  enough plan.Apply is = (some kinds.Archive _ is.0 (omega arith), some kinds.Ops _ is.0 (omega arith))
  enough plan.Delta is = (some kinds.Archive _ is.0 (omega arith), some kinds.Summary _ is.0 (omega arith))
  enough (plan.Frames lines slices) is =
      (some kinds.Archive _ is.0 (omega arith), some kinds.Frames _ is.0 (omega arith))
  enough plan.Rehearse is = some kinds.Script _ is.0 (omega arith)
  enough asked is = some kinds.Archive _ is.0 (omega arith)
