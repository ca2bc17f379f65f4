-- OUT and the inputs, asked of one after another.
use Rattle.std.proofs.Common.{◌≡◌, ◌∙◌, ℕ, ◌+◌, ◌<◌, true, false, List, [], ◌∷◌, ◌++◌, length, take, drop, map, get_or}
use Rattle.std.proofs.Common.{ap, sym, subst, refl, add-one, drop-cons, Result}
use Rattle.std.proofs.lemmas.List.{map_more, map-append, take-append-drop}
use Rattle.std.specs.declared.io.Error.{Error}
use Rattle.cli_files.specs.FileCalls.{FileCall, found}
use Rattle.cli_files.specs.Identities.{AreApart, IsMet, More, None, is_same}
use Rattle.cli_files.specs.declared.found.Found.{Found}

-- of no input anything was asked
pub apart_first : {X : Type 0} (out : List ℕ) (f : X → List ℕ) (xs : List X) (calls : List FileCall) → calls ≡ []
    → AreApart out (map f (take 0 xs)) calls
apart_first out f xs calls none = subst (λ cs. AreApart out (map f (take 0 xs)) cs) (sym none) None

-- one more input is another file
pub apart_more : {X : Type 0} (out : List ℕ) (f : X → List ℕ) (xs : List X) (i : ℕ) (d : X) (old new : List FileCall)
    (a b : Result Found Error) → i < length xs → AreApart out (map f (take i xs)) old → is_same a b ≡ false
    → new ≡ old ++ found out a ++ found (f (get_or xs i d)) b → AreApart out (map f (take (i + 1) xs)) new
apart_more out f xs i d old new a b lt apart same is =
    rw (map_more f xs i d lt, is) (More (map f (take i xs)) (f (get_or xs i d)) old a b apart same)

next_dropped : {X : Type 0} (xs : List X) (i : ℕ) (d : X) → i < length xs
    → drop i xs ≡ get_or xs i d ∷ drop (i + 1) xs
next_dropped xs i d lt = rw (add-one, drop-cons xs i d) refl

-- the next one is OUT's own
pub met_at : {X : Type 0} (out : List ℕ) (f : X → List ℕ) (xs : List X) (i : ℕ) (d : X) (old new : List FileCall)
    (a b : Result Found Error) → i < length xs → AreApart out (map f (take i xs)) old → is_same a b ≡ true
    → new ≡ old ++ found out a ++ found (f (get_or xs i d)) b → IsMet out (map f xs) new
met_at out f xs i d old new a b lt apart same is = record {
  before = map f (take i xs);
  input = f (get_or xs i d);
  after = map f (drop (i + 1) xs);
  inputs_are = sym (ap (map f) (take-append-drop i xs)) ∙ map-append f (take i xs) (drop i xs)
      ∙ ap (λ rest. map f (take i xs) ++ map f rest) (next_dropped xs i d lt);
  calls_before = old;
  apart = apart;
  of_out = a;
  of_input = b;
  same = same;
  calls_are = is;
}
