-- What is true of inputs whose bytes are known.
use Rattle.std.proofs.Common.{◌≡◌, ℕ, List, [], ◌∷◌, Option, Some, Result, Ok, refl, sym, ◌∙◌, subst, IfSome}
use Rattle.std.specs.List.{AllByRecursion, AllZip}
use Rattle.std.proofs.lemmas.Option.{IfSome_then}
use Rattle.archive_core.specs.Content.{Operations, IsContent}
use Rattle.archive_records.specs.Text.{IsArchiveOf}
use Rattle.archive_records.proofs.Versions.{one_content}
use Rattle.command_common.specs.Inputs.{Reader, Gives, Holds, HoldsArchive, IsGiven, IsGivenArchive}

-- what is true of an input's bytes is true of those that are given
pub is_given : {S : Type 0} (input : Reader S) (bytes : List ℕ) (P : List ℕ → Type 0) → IsGiven input bytes → Gives input P → P bytes
is_given input bytes P is p = let q : IfSome (Some bytes) P = subst (λ (l : Option (List ℕ)). IfSome l P) is p in q

-- and the other way round
pub gives : {S : Type 0} (input : Reader S) (bytes : List ℕ) (P : List ℕ → Type 0) → IsGiven input bytes → P bytes → Gives input P
gives input bytes P is p = subst (λ (l : Option (List ℕ)). IfSome l P) (sym is) p

pub gives_then : {S : Type 0} (input : Reader S) (P Q : List ℕ → Type 0) → ((bytes : List ℕ) → P bytes → Q bytes) → Gives input P → Gives input Q
gives_then input P Q so is = IfSome_then (input.left input.old) is so

pub holds : {S : Type 0} (input : Reader S) (o : Operations) → IsGivenArchive input o → HoldsArchive input o
holds input o given = gives input given.0 (IsArchiveOf o) given.2 given.1

-- the bytes that are given tell one content
pub one_given : {R : Type 0} (input : Reader R) (o p : Operations) → IsContent o → IsContent p → IsGivenArchive input o → HoldsArchive input p → p ≡ o
one_given input o p c d given held = sym (one_content given.0 o p c d given.1 (is_given input given.0 (IsArchiveOf p) given.2 held))

pub contents_given : {S : Type 0} (files : List (Reader S)) (contents held : List Operations)
    → AllByRecursion IsContent contents → AllByRecursion IsContent held
    → AllZip IsGivenArchive files contents → AllZip HoldsArchive files held → held ≡ contents
contents_given [] [] [] are is given held = refl
contents_given [] [] (h ∷ hs) are is given held = absurd held
contents_given (f ∷ files) (o ∷ contents) [] are is given held = absurd held
contents_given (f ∷ files) (o ∷ contents) (h ∷ hs) are is given held =
    λ i. one_given f o h are.0 is.0 given.0 held.0 i ∷ contents_given files contents hs are.1 is.1 given.1 held.1 i
contents_given _ _ hs are is given held = absurd given

-- what is so of the items of a list, one by one, is one list
pub one_zipped : {A B : Type 0} (P Q : A → B → Type 0) → ((k : A) (x y : B) → P k x → Q k y → x ≡ y)
    → (ks : List A) (xs ys : List B) → AllZip P ks xs → AllZip Q ks ys → xs ≡ ys
one_zipped P Q one [] [] [] p q = refl
one_zipped P Q one [] [] (y ∷ ys) p q = absurd q
one_zipped P Q one (k ∷ ks) (x ∷ xs) [] p q = absurd q
one_zipped P Q one (k ∷ ks) (x ∷ xs) (y ∷ ys) p q = λ i. one k x y p.0 q.0 i ∷ one_zipped P Q one ks xs ys p.1 q.1 i
one_zipped P Q one _ _ ys p q = absurd p

pub texts_given : {S : Type 0} (files : List (Reader S)) (texts held : List (List ℕ)) → AllZip IsGiven files texts → AllZip Holds files held → texts ≡ held
texts_given files texts held = one_zipped IsGiven Holds (λ file text other is has. is_given file text (λ t. t ≡ other) is has) files texts held

-- and a result has one value
pub one_value : {X W : Type 0} (result : Result X W) (v w : X) → result ≡ Ok v → result ≡ Ok w → v ≡ w
one_value result v w a b = let both = sym a ∙ b in cc
