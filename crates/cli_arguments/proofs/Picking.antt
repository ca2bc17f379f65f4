-- Inputs of which each has its kind.
use Rattle.std.proofs.Common.{◌≡◌, ◌∙◌, ◌⊎◌, inl, inr, ℕ, zero, suc, Bool, true, false, List, [], ◌∷◌, ◌++◌, ◌+◌, ◌<◌}
use Rattle.std.proofs.Common.{arith, length, take, map, refl, ap, append-nil, append_assoc, if◌then◌else◌}
use Rattle.clap.specs.Words.{Text}
use Rattle.cli_arguments.specs.Arguments.{Argument, Values, is_kind, reads, reads_kind}
use Rattle.cli_arguments.specs.Inputs.{kinds_at, kinds_by, kinds_of, picked}
use Rattle.cli_arguments.specs.Lines.{Line, inputs_of, inputs_of_kind, texts_by, texts_of}
use Rattle.cli_arguments.specs.declared.commands.{Kind.Kind, Role.Role}
use Rattle.cli_arguments.specs.Table.{arguments_named}
use Rattle.cli_arguments.specs.declared.commands.Role.TheVariants as roles

-- after the last argument there is no kind
pub no_kinds : {A B : Type 0} (f : A → Argument) (g : B → Values) (xs : List A) (ys : List B)
    → (length xs ≡ 0) ⊎ (length ys ≡ 0) → kinds_by (map f xs) (map g ys) ≡ []
no_kinds f g (x ∷ xs) (y ∷ ys) (inl none) = absurd (omega arith)
no_kinds f g (x ∷ xs) (y ∷ ys) (inr none) = absurd (omega arith)
no_kinds f g xs ys passed = refl

-- where none is left, none is picked
pub none_picked : {X : Type 0} (kind : Kind) (ks : List Kind) (xs : List X) → (length ks ≡ 0) ⊎ (length xs ≡ 0)
    → picked kind ks xs ≡ []
none_picked kind (k ∷ ks) (x ∷ xs) (inl none) = absurd (omega arith)
none_picked kind (k ∷ ks) (x ∷ xs) (inr none) = absurd (omega arith)
none_picked kind ks xs passed = refl

-- one more is passed
pub one_passed : {X : Type 0} (kind k : Kind) (ks : List Kind) (x : X) (xs all : List X) (so_far : List X)
    → so_far ++ picked kind (k ∷ ks) (x ∷ xs) ≡ all
    → (so_far ++ (if is_kind kind k then x ∷ [] else [])) ++ picked kind ks xs ≡ all
one_passed kind k ks x xs all so_far = go (is_kind kind k)
  where
    go : (b : Bool) → so_far ++ (if b then x ∷ picked kind ks xs else picked kind ks xs) ≡ all
        → (so_far ++ (if b then x ∷ [] else [])) ++ picked kind ks xs ≡ all
    go true is = append_assoc so_far (x ∷ []) (picked kind ks xs) ∙ is
    go false is = ap (λ front. front ++ picked kind ks xs) (append-nil so_far) ∙ is

-- as many are picked of as many
pub picked_long : {X Y : Type 0} (kind : Kind) (ks : List Kind) (xs : List X) (ys : List Y) → length xs ≡ length ys
    → length (picked kind ks xs) ≡ length (picked kind ks ys)
picked_long kind [] xs ys same = refl
picked_long kind (k ∷ ks) [] [] same = refl
picked_long kind (k ∷ ks) (x ∷ xs) (y ∷ ys) same = go (is_kind kind k) (picked_long kind ks xs ys (omega arith))
  where
    go : (b : Bool) → length (picked kind ks xs) ≡ length (picked kind ks ys)
        → length (if b then x ∷ picked kind ks xs else picked kind ks xs)
        ≡ length (if b then y ∷ picked kind ks ys else picked kind ks ys)
    go true more = ap suc more
    go false more = more
picked_long kind (k ∷ ks) xs ys same = absurd (omega arith)

-- of the paths of one kind all are picked, or none
of_one : (kind k : Kind) (paths more : List Text) (ks : List Kind)
    → picked kind (map (λ _. k) paths ++ ks) (paths ++ more)
    ≡ (if is_kind kind k then paths ++ picked kind ks more else picked kind ks more)
of_one kind k paths more ks = go (is_kind kind k) refl paths
  where
    go : (b : Bool) → is_kind kind k ≡ b → (paths : List Text)
        → picked kind (map (λ _. k) paths ++ ks) (paths ++ more)
        ≡ (if b then paths ++ picked kind ks more else picked kind ks more)
    go true is [] = refl
    go true is (p ∷ paths) = rw is (ap (λ rest. p ∷ rest) (go true is paths))
    go false is [] = refl
    go false is (p ∷ paths) = rw is (go false is paths)

by_arguments : (kind : Kind) (rest : List Argument) (vs : List Values)
    → picked kind (kinds_by rest vs) (texts_by reads rest vs) ≡ texts_by (reads_kind kind) rest vs
by_arguments kind (a ∷ rest) (v ∷ vs) = go a.role (by_arguments kind rest vs)
  where
    go : (role : Role)
        → picked kind (kinds_by rest vs) (texts_by reads rest vs) ≡ texts_by (reads_kind kind) rest vs
        → picked kind (kinds_at role (texts_of v) ++ kinds_by rest vs)
        (if reads role then texts_of v ++ texts_by reads rest vs else texts_by reads rest vs)
        ≡ (if reads_kind kind role then texts_of v ++ texts_by (reads_kind kind) rest vs
        else texts_by (reads_kind kind) rest vs)
    go (roles.Reads k) more =
        of_one kind k (texts_of v) (texts_by reads rest vs) (kinds_by rest vs)
        ∙ ap (λ picks. if is_kind kind k then texts_of v ++ picks else picks) more
    go role more = more
by_arguments kind rest vs = refl

-- the paths of a kind are those of all that are of the kind
pub picked_paths : (kind : Kind) (line : Line) → picked kind (kinds_of line) (inputs_of line) ≡ inputs_of_kind kind line
picked_paths kind line = by_arguments kind (arguments_named line.name) line.values

-- one more path of an argument is passed
pub kinds_step : {A B : Type 0} (k : Kind) (f : A → B) (xs : List A) (i : ℕ) → i < length xs
    → map (λ _. k) (map f (take (i + 1) xs)) ≡ map (λ _. k) (map f (take i xs)) ++ k ∷ []
kinds_step {A = A} k f xs i within =
    let next : i + 1 ≡ suc i = omega arith in
    ap (λ n. map (λ _. k) (map f (take n xs))) next ∙ go xs i within
  where
    go : (ys : List A) (j : ℕ) → j < length ys
        → map (λ _. k) (map f (take (suc j) ys)) ≡ map (λ _. k) (map f (take j ys)) ++ k ∷ []
    go [] j within = absurd (omega arith)
    go (y ∷ ys) zero within = refl
    go (y ∷ ys) (suc j) within = ap (λ ks. k ∷ ks) (go ys j (omega arith))
