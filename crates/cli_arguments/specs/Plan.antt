-- The plan of a line.
use Rattle.std.specs.Prelude.{◌≡◌, ◌<◌, ⊤, ℕ, List, ◌∷◌, codes, length}
use Rattle.std.specs.{Prelude.if◌then◌else◌, Prelude.Option, Prelude.Some, Prelude.None, Str.bytes_eq}
use Rattle.clap.specs.Words.{Text}
use Rattle.archive_core.specs.declared.keys.{ArchKey.ArchKey, SliceKey.SliceKey}
use Rattle.cli_arguments.specs.Arguments.{Argument, Values, archs, digests, flag, numbers, one, perhaps, several, text}
use Rattle.cli_arguments.specs.{Arguments.texts, Arguments.uuids, Inputs.Inputs, Lines.Line}
use Rattle.cli_arguments.specs.Table.{Signature, arguments_named}
use Rattle.cli_arguments.specs.Table as table
use Rattle.cli_arguments.specs.declared.plan.Plan.{Plan}
use Rattle.cli_arguments.specs.declared.plan.Plan.TheVariants as plan

-- the values of the argument with this name
abbrev pub named_by : Text → List Argument → List Values → Option Values
named_by name (a ∷ rest) (v ∷ vs) = if bytes_eq name a.name then Some v else named_by name rest vs
named_by name _ _ = None

-- These are the values of a line at this name.
abbrev pub Has : Line → Text → Values → Type 0
Has line name values = named_by name (arguments_named line.name) line.values ≡ Some values

-- the command of a plan
abbrev pub command_of : Plan → Signature
command_of plan.New = table.new_command
command_of (plan.Admit _) = table.admit_command
command_of (plan.Retire _ _) = table.retire_command
command_of plan.Merge = table.merge_command
command_of plan.Migrate = table.migrate_command
command_of plan.Apply = table.apply_command
command_of (plan.Find _) = table.find_command
command_of plan.List = table.list_command
command_of (plan.Extract _ _) = table.extract_command
command_of (plan.Name _) = table.name_command
command_of (plan.Symbolicate _ _ _ _ _) = table.symbolicate_command
command_of (plan.Frames _ _) = table.frames_command
command_of plan.Summary = table.summary_command
command_of plan.Index = table.index_command
command_of plan.Delta = table.delta_command
command_of plan.Rehearse = table.rehearse_command

-- A line has the values of a plan at its names.
abbrev pub HasValues : Plan → Line → Type 0
HasValues (plan.Admit keep_going) line = Has line (codes "KEEP_GOING") (texts (flag keep_going))
HasValues (plan.Retire key digest) line =
    Has line (codes "UUID") (uuids (one key.uuid)) × Has line (codes "ARCH") (archs (one key.arch))
    × Has line (codes "DIGEST") (digests (one digest))
HasValues (plan.Find uuid) line = Has line (codes "UUID") (uuids (one uuid))
HasValues (plan.Extract key digest) line =
    Has line (codes "UUID") (uuids (one key.uuid)) × Has line (codes "ARCH") (archs (one key.arch))
    × Has line (codes "DIGEST") (digests (perhaps digest))
HasValues (plan.Name name) line = Has line (codes "NAME") (text name.now)
HasValues (plan.Symbolicate key load lines slices addresses) line =
    Has line (codes "UUID") (uuids (one key.uuid)) × Has line (codes "ARCH") (archs (one key.arch))
    × Has line (codes "HEX") (numbers (perhaps load)) × Has line (codes "LINES") (texts (flag lines))
    × Has line (codes "SLICES") (texts (flag slices))
    × Has line (codes "ADDRESS") (numbers (several addresses.now))
HasValues (plan.Frames lines slices) line =
    Has line (codes "LINES") (texts (flag lines)) × Has line (codes "SLICES") (texts (flag slices))
HasValues _ line = ⊤

-- The plan is that of the line.
abbrev pub IsPlanOf : Plan → Line → Type 0
IsPlanOf asked line = (line.name ≡ (command_of asked).name) × HasValues asked line

-- The inputs include those that the plan requires.
abbrev pub HasInputs : {X : Type 0} → Plan → Inputs X → Type 0
HasInputs plan.New inputs = ⊤
HasInputs plan.Apply inputs = (0 < length inputs.archives) × (0 < length inputs.ops)
HasInputs plan.Delta inputs = (0 < length inputs.archives) × (0 < length inputs.summaries)
HasInputs (plan.Frames _ _) inputs = (0 < length inputs.archives) × (0 < length inputs.frames)
HasInputs plan.Rehearse inputs = 0 < length inputs.scripts
HasInputs _ inputs = 0 < length inputs.archives

-- the key that a line names
abbrev pub key_of : List ℕ → ArchKey → SliceKey
key_of uuid arch = record { uuid = uuid; arch = arch }
