-- Searches in the table of named architectures.
use Rattle.std.proofs.Common.{◌≡◌, ◌∙◌, Bool, Bor, Option, Some, None, List, [], ◌∷◌, arith, map, refl, sym, ap}
use Rattle.std.specs.List.{find}
use Rattle.std.specs.Option.{IsSomeAnd, MatchOption, option_map}
use Rattle.text_values.specs.Words.{NamedArch}
use Rattle.text_values.specs.declared.machine.NamedArch.{NamedArch as Row}

-- what is found among views is the view of what is found
find-map : {A B : Type 0} (view : A → B) (test : B → Bool) (xs : List A)
    → find test (map view xs) ≡ option_map view (find (λ x. test (view x)) xs)
find-map view test [] = refl
find-map view test (x ∷ xs) = grind (arith, find-map view test xs)

fused : {X A B C : Type 0} (now : X → A) (view : A → B) (part : B → C) (o : Option X)
    → option_map (λ x. part (view (now x))) o ≡ option_map part (option_map view (option_map now o))
fused now view part o = grind arith

-- a row of the code's table, as it is defined
abbrev seen : Row → NamedArch
seen row = record { name = row.name.now; arch = row.arch }

-- a part of what is found among rows is that part of what is found among what they define
pub part_found : {C : Type 0} (part : NamedArch → C) (test : NamedArch → Bool) (rows all : List Row)
    (o : Option (Bor Row)) → rows ≡ all → option_map (λ x. x.now) o ≡ find (λ row. test (seen row)) rows
    → option_map (λ x. part (seen x.now)) o ≡ option_map part (find test (map seen all))
part_found part test rows all o same is =
    fused (λ x. x.now) seen part o ∙ ap (λ p. option_map part (option_map seen p)) is
    ∙ ap (λ p. option_map part p) (sym (find-map seen test rows))
    ∙ ap (λ l. option_map part (find test (map seen l))) same

-- what `map` makes of an option, by what it says of its closure
pub map_is : {A B : Type 0} (made : A → B) (Post : A → B → Type 0) (o : Option A) (r : Option B)
    → MatchOption o (r ≡ None) (λ x. IsSomeAnd r (Post x)) → ((x : A) (y : B) → Post x y → y ≡ made x)
    → r ≡ option_map made o
map_is made Post None r is post = is
map_is made Post (Some x) None is post = absurd is
map_is made Post (Some x) (Some y) is post = ap Some (post x y is)

-- a part of a part
pub twice : {A B C : Type 0} (outer : B → C) (inner : A → B) (o : Option A)
    → option_map outer (option_map inner o) ≡ option_map (λ x. outer (inner x)) o
twice outer inner o = grind arith
