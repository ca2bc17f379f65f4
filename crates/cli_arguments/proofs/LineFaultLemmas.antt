-- What a line that `clap` refuses has for an answer, by the kinds of error that its own definition names.
use Rattle.std.proofs.Common.{arith, ◌≡◌, ◌∙◌, ℕ, inl, inr, true, List, [], ◌∷◌, Option, Some, None, Result, Ok, Err}
use Rattle.std.proofs.Common.{IfOk, Global, IfErr, IsErrAnd, MatchResult, String, ap, is_some, option_map, refl}
use Rattle.std.proofs.Common.{string_bytes, subst, sym}
use Rattle.std.specs.{Prelude.option_and_then, Option.option_map_or, Option.option_or}
use Rattle.uuid.specs.Text.{parsed}
use Rattle.text_values.specs.Words.{address_of, arch_of, digest_of}
use Rattle.cli_arguments.specs.Arguments.{Amount, Argument, Values, form_of, one, perhaps, several}
use Rattle.cli_arguments.specs.LineFaults.{out_is_input, unknown_command, without_value, IsHelpUnlessMemory}
use Rattle.cli_arguments.specs.LineFaults.{IsRefusalUnlessMemory, IsRefusedBy, first_other, form_refusal, other_form}
use Rattle.cli_arguments.specs.LineFaults.{other_in, other_word, out_refusal, refusal_among, refusal_at, refusal_in}
use Rattle.cli_arguments.specs.LineFaults.{refusal_of}
use Rattle.cli_arguments.specs.Lines.{Line, all_spelled, all_values, amount_spelled, line_at, line_in, values_at}
use Rattle.cli_arguments.specs.Lines.{inputs_of, is_path_among, out_of, values_spelled, words_by}
use Rattle.cli_arguments.specs.{Table.Signature, Table.signature_named, declared.commands.Form.Form}
use Rattle.cli_arguments.specs.{Commands.symarch_command, Lines.error_kinds}
use Rattle.cli_arguments.proofs.SimpleCommand.{symarch_free}
use Rattle.cli_arguments.specs.declared.line_faults.LineFault.{LineFault, TheVariants.OutOfMemory, TheVariants.Refused}
use Rattle.cli_arguments.specs.declared.commands.Form.TheVariants as forms
use Rattle.clap.specs.Words.{App, HasKind, IsAmong, Kinds, Row, Text, fault_of, is_simple_and_free, kind_of}
use Rattle.clap.specs.declared.error.{Error.Error, kind.ErrorKind.ErrorKind}
use Rattle.clap.specs.declared.error.kind.ErrorKind.TheVariants as kind

-- the kinds of the error of a parse of the program's command
pub symarch_kinds : (a : App) (words : List Text) (e : Error) → a ≡ symarch_command
    → (is_simple_and_free a ≡ true → HasKind (fault_of a words) e) → HasKind (error_kinds words) e
unfolding error_kinds
symarch_kinds a words e is kinds =
    subst (λ app. HasKind (fault_of app words) e) is (kinds (ap is_simple_and_free is ∙ symarch_free))

-- where help, or the version, is the only kind, the error is its text or a want of memory
pub asked_is_help : (e : Error) (fault : LineFault) (kinds : Kinds) (asked : ErrorKind) → HasKind kinds e
    → kinds ≡ asked ∷ []
    → (kind_of e ≡ kind.OutOfMemory → fault ≡ OutOfMemory)
    → (kind_of e ≡ asked → IsHelpUnlessMemory fault)
    → IsHelpUnlessMemory fault
asked_is_help e fault kinds asked has alone memory help = elim (subst (λ ks. HasKind ks e) alone has) [
  | inl wants ↦ subst IsHelpUnlessMemory (sym (memory wants)) tt
  | inr among ↦ elim among [ inl is_asked ↦ help is_asked | inr never ↦ absurd never ]
]

-- where neither help nor the version is one of the kinds, the error is a refusal or a want of memory
pub other_is_refusal : (e : Error) (fault : LineFault) (kinds : Kinds) → HasKind kinds e
    → ¬ IsAmong kind.DisplayHelp kinds → ¬ IsAmong kind.DisplayVersion kinds
    → (kind_of e ≡ kind.OutOfMemory → fault ≡ OutOfMemory)
    → (¬ (kind_of e ≡ kind.DisplayHelp) → ¬ (kind_of e ≡ kind.DisplayVersion) → IsRefusalUnlessMemory fault)
    → IsRefusalUnlessMemory fault
other_is_refusal e fault kinds has no_help no_version memory refusal = elim has [
  | inl wants ↦ subst IsRefusalUnlessMemory (sym (memory wants)) tt
  | inr among ↦ refusal (λ is_help. no_help (subst (λ k. IsAmong k kinds) is_help among))
      (λ is_version. no_version (subst (λ k. IsAmong k kinds) is_version among))
]

pub refused_by : {E : Type 0} (made : Result (String Global) E) (fault : LineFault) (text : List ℕ)
    → IfOk made (λ t. string_bytes t ≡ text)
    → MatchResult made (λ t. fault ≡ Refused t) (λ _. fault ≡ OutOfMemory) → IsRefusedBy (Some text) fault
refused_by (Ok t) fault text is told = subst (IsRefusedBy (Some text)) (sym told) is
refused_by (Err e) fault text is told = subst (IsRefusedBy (Some text)) (sym told) tt

-- want of memory is told at any words
pub memory_told : (told : Option Text) (fault : LineFault) → fault ≡ OutOfMemory → IsRefusedBy told fault
memory_told told fault is = subst (IsRefusedBy told) (sym is) tt

-- what is told first
either : (o p : Option Text) (fault : LineFault) → IsRefusedBy o fault → IsRefusedBy (option_or o p) fault
either None p OutOfMemory told = tt
either (Some text) p fault told = told
either o p fault told = absurd told

-- ---- where the values are there nothing is told

first_none : {X : Type 0} (form : Text → Option X) (words : List Text) → is_some (all_spelled form words) ≡ true
    → first_other form words ≡ None
first_none form [] some = refl
first_none form (word ∷ words) some = grind (arith, first_none form words)

other_none : {X : Type 0} (form : Text → Option X) (words : Amount Text) → is_some (amount_spelled form words) ≡ true
    → other_in form words ≡ None
other_none form (one word) some = grind (arith, first_none form (word ∷ []))
other_none form (several words) some = grind (arith, first_none form words)
other_none form (perhaps (Some word)) some = grind (arith, first_none form (word ∷ []))
other_none form words some = refl

mapped : {X Y : Type 0} (f : X → Y) (o : Option X) → is_some (option_map f o) ≡ true → is_some o ≡ true
mapped f o some = grind arith

word_none : (form : Form) (words : Amount Text) → is_some (values_spelled form words) ≡ true
    → other_word form words ≡ None
word_none forms.Plain words some = refl
word_none forms.Uuid words some = other_none parsed words (mapped _ _ some)
word_none forms.Arch words some = other_none arch_of words (mapped _ _ some)
word_none forms.Digest words some = other_none digest_of words (mapped _ _ some)
word_none forms.Number words some = other_none address_of words (mapped _ _ some)

pub at_none : (a : Argument) (rows : List Row) → is_some (values_at a rows) ≡ true → refusal_at a rows ≡ None
unfolding refusal_at
at_none a rows = go (words_by a.count a.name rows)
  where
    go : (o : Option (Amount Text)) → is_some (option_and_then (values_spelled (form_of a.role)) o) ≡ true
        → option_map_or (form_refusal a) o (Some (without_value a)) ≡ None
    go None some = cc
    go (Some words) some = ap (option_map (other_form a)) (word_none (form_of a.role) words some)

among_none : (arguments : List Argument) (rows : List Row) → is_some (all_values arguments rows) ≡ true
    → refusal_among arguments rows ≡ None
among_none [] rows some = refl
among_none (a ∷ rest) rows some = grind (arith, at_none a rows, among_none rest rows)

-- of a line that is read
in_none : (p : Text × List Row) → is_some (line_in p) ≡ true → refusal_in p ≡ None
in_none p = go (signature_named p.0)
  where
    go : (o : Option Signature) → is_some (option_and_then (λ s. line_at s p.1) o) ≡ true
        → option_map_or (λ s. refusal_among s.arguments p.1) o (Some (unknown_command p.0)) ≡ None
    go None some = cc
    go (Some s) some = among_none s.arguments p.1 (mapped _ _ some)

-- ---- what is told of words

-- the first argument that has not its values
pub among_told : (a : Argument) (rest : List Argument) (rows : List Row) (fault : LineFault)
    → IsRefusedBy (refusal_at a rows) fault → IsRefusedBy (refusal_among (a ∷ rest) rows) fault
among_told a rest rows fault = either (refusal_at a rows) (refusal_among rest rows) fault

-- and where one has them, the first after it
pub among_next : (a : Argument) (rest : List Argument) (rows : List Row) (v : Values) (fault : LineFault)
    → values_at a rows ≡ Some v → IsRefusedBy (refusal_among rest rows) fault
    → IsRefusedBy (refusal_among (a ∷ rest) rows) fault
among_next a rest rows v fault is told = rw (at_none a rows (ap is_some is)) told

-- OUT is an input
pub out_refused : (line : Line) (out : Text) (fault : LineFault) → Some out ≡ out_of line
    → is_path_among out (inputs_of line) ≡ true → IsRefusedBy (Some (out_is_input out)) fault
    → IsRefusedBy (out_refusal line) fault
out_refused line out fault is among told = rw (← is, among) told

pub in_told : (p : Text × List Row) (fault : LineFault) → IsRefusedBy (refusal_in p) fault
    → IsRefusedBy (refusal_of (Some p)) fault
in_told p fault = either (refusal_in p) (option_and_then out_refusal (line_in p)) fault

pub out_told : (p : Text × List Row) (line : Line) (fault : LineFault) → Some line ≡ line_in p
    → IsRefusedBy (out_refusal line) fault → IsRefusedBy (refusal_of (Some p)) fault
out_told p line fault read told =
    let none = in_none p (ap is_some (sym read)) in
    rw (none, sym read) told

-- what is handed on as it came
pub handed_on : {T : Type 0} (P : LineFault → Type 0) (fault : LineFault) (result : Result T LineFault)
    → IsErrAnd result (λ e. e ≡ fault) → P fault → IfErr result P
handed_on P fault (Ok p) told is = absurd told
handed_on P fault (Err e) told is = subst P (sym told) is
