-- The inputs of a line, by their kinds.
use Rattle.std.specs.Prelude.{List, [], ◌∷◌, ◌++◌, map, if◌then◌else◌}
use Rattle.clap.specs.Words.{Text}
use Rattle.cli_arguments.specs.Arguments.{Argument, Values, is_kind}
use Rattle.cli_arguments.specs.declared.commands.{Kind.Kind, Role.Role}
use Rattle.cli_arguments.specs.declared.commands.Kind.TheVariants as kinds
use Rattle.cli_arguments.specs.declared.commands.Role.TheVariants as roles
use Rattle.cli_arguments.specs.declared.inputs.Inputs.{Inputs as InputsOfProgram}
use Rattle.cli_arguments.specs.{Lines.Line, Lines.texts_of, Table.arguments_named}

-- the inputs of each kind, in the order of the words
pub record Inputs (X : Type 0) : Type 0 where
  pub archives : List X
  pub indexes : List X
  pub files : List X
  pub ops : List X
  pub summaries : List X
  pub scripts : List X
  pub frames : List X

abbrev pub of_kind : {X : Type 0} → Kind → Inputs X → List X
of_kind kinds.Archive inputs = inputs.archives
of_kind kinds.Index inputs = inputs.indexes
of_kind kinds.File inputs = inputs.files
of_kind kinds.Ops inputs = inputs.ops
of_kind kinds.Summary inputs = inputs.summaries
of_kind kinds.Script inputs = inputs.scripts
of_kind kinds.Frames inputs = inputs.frames

-- the inputs of the program, as values of the definitions
abbrev pub inputs_view : {S : Type 0} → InputsOfProgram S → Inputs S
inputs_view inputs = record {
  archives = inputs.archives.items;
  indexes = inputs.indexes.items;
  files = inputs.files.items;
  ops = inputs.ops.items;
  summaries = inputs.summaries.items;
  scripts = inputs.scripts.items;
  frames = inputs.frames.items;
}

-- the kinds of the inputs at the paths of an argument of this role
abbrev pub kinds_at : Role → List Text → List Kind
kinds_at (roles.Reads kind) paths = map (λ _. kind) paths
kinds_at _ paths = []

abbrev pub kinds_by : List Argument → List Values → List Kind
kinds_by (a ∷ rest) (v ∷ vs) = kinds_at a.role (texts_of v) ++ kinds_by rest vs
kinds_by _ _ = []

-- the kinds of the inputs of a line, in the order of the words
abbrev pub kinds_of : Line → List Kind
kinds_of line = kinds_by (arguments_named line.name) line.values

-- the inputs of one kind, among inputs with these kinds
abbrev pub picked : {X : Type 0} → Kind → List Kind → List X → List X
picked kind (k ∷ ks) (x ∷ xs) = if is_kind kind k then x ∷ picked kind ks xs else picked kind ks xs
picked kind _ _ = []
