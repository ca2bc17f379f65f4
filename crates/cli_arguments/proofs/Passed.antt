-- Where the arguments or their values are passed, no text is left.
use Rattle.std.proofs.Common.{◌≡◌, ◌⊎◌, arith, inl, inr, Bool, refl, List, [], ◌∷◌, length, map}
use Rattle.cli_arguments.specs.{Arguments.Argument, Arguments.Values, Lines.texts_by, declared.commands.Role.Role}

pub none_left : {A B : Type 0} (wants : Role → Bool) (f : A → Argument) (g : B → Values) (xs : List A) (ys : List B)
    → (length xs ≡ 0) ⊎ (length ys ≡ 0) → texts_by wants (map f xs) (map g ys) ≡ []
none_left wants f g (x ∷ xs) (y ∷ ys) (inl none) = absurd (omega arith)
none_left wants f g (x ∷ xs) (y ∷ ys) (inr none) = absurd (omega arith)
none_left wants f g xs ys passed = refl
