-- The inputs of a list, one more of which was read.
use Rattle.std.proofs.Common.{◌≡◌, ℕ, zero, suc, ◌+◌, ◌<◌, List, [], ◌∷◌, ◌++◌, length, take, drop, get_or, set, Option}
use Rattle.std.proofs.Common.{Some, refl, sym, ap, ◌∙◌, subst, arith, inl, inr}
use Rattle.std.proofs.lemmas.List.{length-take, get_or-drop, drop-set-lt, drop-drop, get_or-set_same, take-set, take_more_set}
use Rattle.std.specs.Prelude.{slice_get}
use Rattle.std.proofs.lemmas.Option.{slice_get-get_or}
use Rattle.std.proofs.Math.ListN.{length-set}
use Rattle.std.specs.List.{AllByRecursion, AllZip}
pub use Rattle.archive_core.proofs.Members.{pairs_more}
use Rattle.command_common.specs.declared.faults.CommandFault.{CommandFault}
use Rattle.command_common.specs.declared.faults.CommandFault.TheVariants.{Input, OutOfMemory}
use Rattle.command_common.specs.declared.faults.InputName.{InputName}
use Rattle.command_common.specs.declared.faults.Why.{Why}
use Rattle.command_common.specs.Inputs.{Reader, reader, readers, Unfailed, EachUnfailed, EachUntouched, IsRefusal, IsFirstRefused, IsDeviceFault}
use Rattle.archive_records.specs.Reading.{IsOfMachine}
use Rattle.archive_records.specs.declared.fault.RecordFault.{RecordFault}
use Rattle.archive_records.specs.declared.fault.RecordFaultKind.TheVariants.{OutOfMemory as RecordOutOfMemory}
use Rattle.command_common.specs.declared.faults.Why.TheVariants.{Record}

-- an element at a place from which on the lists are alike
pub same_at : {F : Type 0} (xs ys : List F) (i : ℕ) (x : F) → drop i xs ≡ drop i ys → x ≡ get_or xs i x → x ≡ get_or ys i x
same_at {F} xs ys i x same is =
    is ∙ sym (from xs) ∙ ap (λ (l : List F). get_or l 0 x) same ∙ from ys
  where
    from : (l : List F) → get_or (drop i l) 0 x ≡ get_or l i x
    from l = get_or-drop i l 0 x ∙ ap (λ (n : ℕ). get_or l n x) (omega arith)

-- a write at a place changes nothing after it
pub rest_kept : {F : Type 0} (xs ys : List F) (i : ℕ) (x : F) → drop i xs ≡ drop i ys → drop (i + 1) (set xs i x) ≡ drop (i + 1) ys
rest_kept {F} xs ys i x same =
    drop-set-lt (i + 1) xs i x (omega arith) ∙ behind xs ∙ ap (drop 1) same ∙ sym (behind ys)
  where
    behind : (l : List F) → drop (i + 1) l ≡ drop 1 (drop i l)
    behind l = sym (drop-drop 1 i l)

all_set : {X : Type 0} (P : X → Type 0) (xs : List X) (i : ℕ) (x : X) → AllByRecursion P xs → P x → AllByRecursion P (set xs i x)
all_set P [] i x all one = tt
all_set P (y ∷ ys) zero x all one = (one, all.1)
all_set P (y ∷ ys) (suc i) x all one = (all.0, all_set P ys i x all.1 one)

pub all_take : {X : Type 0} (P : X → Type 0) (n : ℕ) (xs : List X) → AllByRecursion P xs → AllByRecursion P (take n xs)
all_take P (suc n) (x ∷ xs) all = (all.0, all_take P n xs all.1)
all_take P n xs all = tt

pub all_more : {X : Type 0} (P : X → Type 0) (xs : List X) (x : X) → AllByRecursion P xs → P x → AllByRecursion P (xs ++ x ∷ [])
all_more P [] x all one = (one, tt)
all_more P (y ∷ ys) x all one = (all.0, all_more P ys x all.1 one)

pub pairs_long : {X Y : Type 0} (R : X → Y → Type 0) (xs : List X) (ys : List Y) → AllZip R xs ys → length ys ≡ length xs
pairs_long R [] [] all = refl
pairs_long R (x ∷ xs) (y ∷ ys) all = ap suc (pairs_long R xs ys all.1)
pairs_long R xs ys all = absurd all

module _ {S : Type 0} (left : S → Option (List ℕ)) (failures : S → ℕ) where
  abbrev between : List S → List S → List (Reader S)
  between old now = readers left failures old now

  pub readers_long : (old now : List S) → length now ≡ length old → length (between old now) ≡ length old
  readers_long [] now long = refl
  readers_long (x ∷ xs) [] long = long
  readers_long (x ∷ xs) (y ∷ ys) long = let rest : length ys ≡ length xs = omega arith in ap suc (readers_long xs ys rest)

  -- one more input was read
  pub set_one : (old now : List S) (place : ℕ) (file after : S) → place < length old → length now ≡ length old → file ≡ get_or old place file
      → between old (set now place after) ≡ set (between old now) place (reader left failures file after)
  set_one [] now place file after lt long is = absurd (omega (arith, lt))
  set_one (x ∷ xs) [] place file after lt long is = absurd (omega (arith, long))
  set_one (x ∷ xs) (y ∷ ys) zero file after lt long is = ap (λ (f : S). reader left failures f after ∷ between xs ys) (sym is)
  set_one (x ∷ xs) (y ∷ ys) (suc place) file after lt long is =
      let shorter : place < length xs = omega (arith, lt) in
      let rest : length ys ≡ length xs = omega (arith, long) in
      ap (λ (rs : List (Reader S)). reader left failures x y ∷ rs) (set_one xs ys place file after shorter rest is)

  -- those that were read up to a place, with the one at it
  pub one_more : (old now : List S) (place : ℕ) (file after : S) → place < length old → length now ≡ length old → file ≡ get_or old place file
      → take (place + 1) (between old (set now place after)) ≡ take place (between old now) ++ reader left failures file after ∷ []
  one_more old now place file after lt long is =
      let within : place < length (between old now) = subst (λ (n : ℕ). place < n) (sym (readers_long old now long)) lt in
      ap (take (place + 1)) (set_one old now place file after lt long is) ∙ take_more_set (between old now) place (reader left failures file after) within

  pub read_to : (old now : List S) (place : ℕ) → place < length old → length now ≡ length old → length (take place (between old now)) ≡ place
  read_to old now place lt long =
      let within : place < length (between old now) = subst (λ (n : ℕ). place < n) (sym (readers_long old now long)) lt in
      length-take place (between old now) ∙ omega (arith, within)

  -- all were read
  pub all_read : (old now : List S) → length now ≡ length old → take (length old) (between old now) ≡ between old now
  all_read (x ∷ xs) (y ∷ ys) long = let rest : length ys ≡ length xs = omega (arith, long)
      in ap (λ (rs : List (Reader S)). reader left failures x y ∷ rs) (all_read xs ys rest)
  all_read old now long = refl

  pub none_failed : (files : List S) → EachUnfailed (between files files)
  none_failed [] = tt
  none_failed (file ∷ files) = (refl, none_failed files)

  pub unfailed_more : (old now : List S) (place : ℕ) (file after : S) → place < length old → length now ≡ length old → file ≡ get_or old place file
      → EachUnfailed (between old now) → Unfailed (reader left failures file after) → EachUnfailed (between old (set now place after))
  unfailed_more old now place file after lt long is each one =
      subst (λ (rs : List (Reader S)). EachUnfailed rs) (sym (set_one old now place file after lt long is))
      (all_set (λ (r : Reader S). Unfailed r) (between old now) place (reader left failures file after) each one)

  pub none_touched : (files : List S) → EachUntouched (between files files)
  none_touched [] = tt
  none_touched (file ∷ files) = (refl, none_touched files)

  pub untouched_behind : (old now : List S) (n : ℕ) → drop n now ≡ drop n old → EachUntouched (drop n (between old now))
  untouched_behind old now zero same = subst (λ (l : List S). EachUntouched (between old l)) (sym same) (none_touched old)
  untouched_behind (x ∷ xs) (y ∷ ys) (suc n) same = untouched_behind xs ys n same
  untouched_behind old now n same = tt

  -- the input at a place is refused, those before it being accepted
  pub refused_at : (asked_of : ℕ → InputName) (IsGood : Reader S → Type 0) (IsRefused : Reader S → Why → Type 0)
      (old now : List S) (place : ℕ) (file after : S) (fault : CommandFault)
      → place < length old → length now ≡ length old → file ≡ get_or old place file
      → AllByRecursion IsGood (take place (between old now)) → drop place now ≡ drop place old → EachUnfailed (between old now)
      → IsRefusal (λ at why. (at ≡ asked_of place) × IsRefused (reader left failures file after) why) (Unfailed (reader left failures file after)) fault
      → IsRefusal (IsFirstRefused asked_of IsGood IsRefused (between old (set now place after))) (EachUnfailed (between old (set now place after))) fault
  refused_at asked_of IsGood IsRefused old now place file after (Input at why) lt long is before rest each refused =
      let x = reader left failures file after in
      let seen = between old now in
      let set_is = set_one old now place file after lt long is in
      let within : place < length seen = subst (λ (n : ℕ). place < n) (sym (readers_long old now long)) lt in
      let front : take place (between old (set now place after)) ≡ take place seen = ap (take place) set_is ∙ take-set seen place x in
      let within_set : place < length (set seen place x) = subst (λ (n : ℕ). place < n) (sym (length-set seen place x)) within in
      record {
        number = place;
        at_is = refused.0;
        before = subst (λ (rs : List (Reader S)). AllByRecursion IsGood rs) (sym front) before;
        unfailed = subst (λ (rs : List (Reader S)). EachUnfailed rs) (sym front) (all_take (λ (r : Reader S). Unfailed r) place seen each);
        input = x;
        input_is = ap (λ (rs : List (Reader S)). slice_get rs place) set_is
            ∙ slice_get-get_or (set seen place x) place x within_set ∙ ap Some (get_or-set_same seen place x x within);
        refused = refused.1;
        behind = untouched_behind old (set now place after) (place + 1) (rest_kept now old place after rest);
      }
  refused_at asked_of IsGood IsRefused old now place file after OutOfMemory lt long is before rest each refused =
      unfailed_more old now place file after lt long is each refused
  refused_at asked_of IsGood IsRefused old now place file after fault lt long is before rest each refused = absurd refused

-- what is of the machine, and no want of memory, is the device's
pub by_device : (fault : RecordFault) (why : Why) → why ≡ Record fault → (fault.kind ≡ RecordOutOfMemory → ⊥) → IsOfMachine fault.kind → IsDeviceFault why
by_device fault why is other (inl d) = subst IsDeviceFault (sym is) d
by_device fault why is other (inr m) = absurd (other m)
