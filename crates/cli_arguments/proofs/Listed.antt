-- A line that is read is one of the table.
use Rattle.std.proofs.Common.{arith, ◌≡◌, ◌∙◌, true, false, refl, ap, subst, sym, List, [], ◌∷◌, Option, Some, None, option_map}
use Rattle.std.proofs.lemmas.{Bool.and_from, Option.option_and_then_some}
use Rattle.std.specs.Option.{option_map_or}
use Rattle.clap.specs.Words.{Row, Text}
use Rattle.uuid.specs.Text.{parsed}
use Rattle.text_values.specs.Words.{address_of, arch_of, digest_of}
use Rattle.cli_arguments.specs.Arguments.{Amount, Argument, Count, Several, Values, are_values_of, archs, digests}
use Rattle.cli_arguments.specs.Arguments.{form_of, is_counted, is_formed, numbers, texts, several, uuids}
use Rattle.cli_arguments.specs.Lines.{all_spelled, all_values, amount_spelled, any_of, if_some, values_at, values_spelled, words_by}
use Rattle.cli_arguments.specs.{Table.Signature, Table.is_listed, Table.signature_named, declared.commands.Form.Form}
use Rattle.cli_arguments.specs.declared.commands.Form.TheVariants as forms

mapped : {X Y : Type 0} (f : X → Y) (o : Option X) (y : Y) (P : Y → Type 0) → option_map f o ≡ Some y
    → ((x : X) → o ≡ Some x → P (f x)) → P y
mapped f None y P is all = cc
mapped f (Some x) y P is all = let same : f x ≡ y = cc in subst P same (all x refl)

-- ---- counts

-- some words spell some values
several_counted : {X : Type 0} (form : Text → Option X) (count : Count) (words : List Text) (xs : List X)
    → all_spelled form words ≡ Some xs → is_counted count (several words) ≡ true
    → is_counted count (several xs) ≡ true
several_counted form count [] xs is counted = grind arith
several_counted form count (word ∷ words) xs is counted = grind arith

-- what words spell stands as often as they do
spelled_counted : {X : Type 0} (form : Text → Option X) (count : Count) (words : Amount Text) (xs : Amount X)
    → amount_spelled form words ≡ Some xs → is_counted count words ≡ true → is_counted count xs ≡ true
spelled_counted form count words xs is counted = grind (arith, several_counted form count)

some_counted : (words : List Text) (all : Amount Text) → if_some words ≡ Some all → is_counted Several all ≡ true
some_counted [] all is = cc
some_counted (word ∷ words) all is = grind arith

words_counted : (count : Count) (id : Text) (rows : List Row) (words : Amount Text)
    → words_by count id rows ≡ Some words → is_counted count words ≡ true
words_counted count id rows words is = grind (arith, some_counted (any_of id rows) words)

-- ---- forms

-- by the form's own test
formed_by : {X : Type 0} (form : Form) (read : Text → Option X) (make : Amount X → Values) (count : Count)
    (words : Amount Text) (v : Values) → ((xs : Amount X) → is_formed form count (make xs) ≡ is_counted count xs)
    → option_map make (amount_spelled read words) ≡ Some v → is_counted count words ≡ true
    → is_formed form count v ≡ true
formed_by form read make count words v same by counted =
    mapped make (amount_spelled read words) v (λ vs. is_formed form count vs ≡ true) by
    (λ xs spelled. same xs ∙ spelled_counted read count words xs spelled counted)

formed : (form : Form) (count : Count) (words : Amount Text) (v : Values) → values_spelled form words ≡ Some v
    → is_counted count words ≡ true → is_formed form count v ≡ true
formed forms.Plain count words v is counted = let same : texts words ≡ v = cc in rw (← same) counted
formed forms.Uuid count words v is counted =
    formed_by forms.Uuid parsed (λ xs. uuids xs) count words v (λ _. refl) is counted
formed forms.Arch count words v is counted =
    formed_by forms.Arch arch_of (λ xs. archs xs) count words v (λ _. refl) is counted
formed forms.Digest count words v is counted =
    formed_by forms.Digest digest_of (λ xs. digests xs) count words v (λ _. refl) is counted
formed forms.Number count words v is counted =
    formed_by forms.Number address_of (λ xs. numbers xs) count words v (λ _. refl) is counted

-- ---- lines

value_formed : (a : Argument) (rows : List Row) (v : Values) → values_at a rows ≡ Some v
    → is_formed (form_of a.role) a.count v ≡ true
value_formed a rows v is =
    option_and_then_some (values_spelled (form_of a.role)) (words_by a.count a.name rows) v is (λ words by spelled.
    formed (form_of a.role) a.count words v spelled (words_counted a.count a.name rows words by))

all_formed : (arguments : List Argument) (rows : List Row) (vs : List Values) → all_values arguments rows ≡ Some vs
    → are_values_of arguments vs ≡ true
all_formed [] rows vs is = let same : [] ≡ vs = cc in rw (← same) refl
all_formed (a ∷ rest) rows vs is =
    option_and_then_some (λ v. option_map (λ l. v ∷ l) (all_values rest rows)) (values_at a rows) vs is (λ v at others.
    mapped (λ l. v ∷ l) (all_values rest rows) vs (λ l. are_values_of (a ∷ rest) l ≡ true) others
    (λ l same. and_from _ _ (value_formed a rows v at) (all_formed rest rows l same)))

-- the values that are read at the names of a command of the table
pub listed : (name : Text) (s : Signature) (rows : List Row) (vs : List Values) → Some s ≡ signature_named name
    → all_values s.arguments rows ≡ Some vs → is_listed name vs ≡ true
listed name s rows vs found is =
    ap (λ o. option_map_or (λ c. are_values_of c.arguments vs) o false) (sym found) ∙ all_formed s.arguments rows vs is
