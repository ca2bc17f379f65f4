-- What is in place of OUT, by what is known of it.
use Rattle.std.proofs.Common.{◌≡◌, ◌∙◌, ℕ, Bool, true, false, List, [], ◌∷◌, ◌++◌, length, take, drop, get_or, suc}
use Rattle.std.proofs.Common.{Option, Some, None, Result, OnOk, refl, ap, sym, subst, inl, inr, append-nil}
use Rattle.std.proofs.Common.{append_assoc, arith, string_bytes}
use Rattle.std.proofs.{lemmas.List.append_cancel_left, lemmas.Grind.not_there, Math.Seq.take-append_seam}
use mathlib.Core.Logic.{∥∥₁_map}
use Rattle.std.specs.Io.KnownBytes.{Appends}
use Rattle.clap.specs.Words.{Text}
use Rattle.cli_files.specs.{InputStates.AreFirstAsked, FileCalls.FileCall, FileCalls.bytes_in}
use Rattle.cli_files.specs.OutFiles.{Stage, draft_account, has_calls, is_settled, published_account, publishing_calls}
use Rattle.cli_files.specs.Publishing.{IsPath, IsPublished, IsRemoved, account, number_of, place, took_nothing}
use Rattle.cli_files.specs.declared.{replaceable.ReplaceRule.ReplaceRule, published.Published.Published}

-- what is known tells the path
place_first : (p q : Option (List ℕ)) (xs ys : List ℕ) → place p ++ xs ≡ place q ++ ys → p ≡ q
place_first None None xs ys same = refl
place_first (Some p) (Some q) xs ys same =
    let first : suc (length p) ≡ suc (length q) = ap (λ l. get_or l 0 0) same in
    let long : length p ≡ length q = grind (arith, first) in
    ap (λ path. Some path) (sym (take-append_seam p xs) ∙ ap (λ l. take (length p) (drop 1 l)) same
    ∙ ap (λ n. take n (q ++ ys)) long ∙ take-append_seam q ys)
place_first p q xs ys same = let h = ap (λ l. get_or l 0 0) same in grind (arith, h)

same_rule : (r s : ReplaceRule) → number_of r ≡ number_of s → r ≡ s
same_rule r s same = grind (arith, same)

-- what took a text has the path and the rule that were there, and the text
known : (p q : Option (List ℕ)) (r s : ReplaceRule) (bytes text : List ℕ) → account q s bytes ≡ account p r [] ++ text
    → (q ≡ p) × (s ≡ r) × (bytes ≡ text)
known p q r s bytes text took =
    let flat : place q ++ (number_of s ∷ bytes) ≡ place p ++ (number_of r ∷ text) =
    took ∙ append_assoc (place p) (number_of r ∷ []) text in
    let same : q ≡ p = place_first q p (number_of s ∷ bytes) (number_of r ∷ text) flat in
    let rest : number_of s ∷ bytes ≡ number_of r ∷ text =
    append_cancel_left (place p) (number_of s ∷ bytes) (number_of r ∷ text)
    (subst (λ o. place o ++ (number_of s ∷ bytes) ≡ place p ++ (number_of r ∷ text)) same flat) in (
      same,
      same_rule s r (ap (λ l. get_or l 0 0) rest),
      ap (drop 1) rest,
    )

-- there is always something known of a path
some_known : (p : Option (List ℕ)) (xs : List ℕ) → place p ++ xs ≡ [] → ⊥
some_known None xs none = let h = ap length none in grind (arith, h)
some_known (Some p) xs none = let h = ap length none in grind (arith, h)

-- nothing is known of what was put in place alone
pub settled_of : (settled : Bool) (path : Option (List ℕ)) (replaces : ReplaceRule) (calls : List FileCall)
    → Some (draft_account settled path replaces calls) ≡ Some [] → settled ≡ true
settled_of true path replaces calls none = refl
settled_of false path replaces calls none =
    let held = number_of replaces ∷ bytes_in calls in
    let same : place path ++ held ≡ [] = cc in absurd (some_known path held same)

-- what was put in place has no calls left
pub settled_without_calls : (stage : Stage) → is_settled stage ≡ true → has_calls stage ≡ false
settled_without_calls stage settled = grind arith

-- a draft that took bytes has its path and its rule, and the bytes were written
pub draft_took : (settled : Bool) (p q : Option (List ℕ)) (r s : ReplaceRule) (calls : List FileCall) (bytes : List ℕ)
    → Appends (Some (account p r [])) (Some (draft_account settled q s calls)) bytes
    → (q ≡ p) × (s ≡ r) × (bytes_in calls ≡ bytes)
draft_took true p q r s calls bytes took =
    absurd (some_known p (number_of r ∷ bytes) (sym (took ∙ append_assoc (place p) (number_of r ∷ []) bytes)))
draft_took false p q r s calls bytes took = known p q r s (bytes_in calls) bytes took

-- what was put in place is the text, at the path
pub published_there : (p : Option (List ℕ)) (r : ReplaceRule) (published : Option Published) (text : List ℕ)
    → Appends (Some (account p r [])) (published_account published) text
    → (q : List ℕ) × (p ≡ Some q) × ∥ IsPublished q r text (publishing_calls published) ∥₁
published_there p r None text took = absurd took
published_there p r (Some there) text took =
    let path = string_bytes there.path in
    let calls = there.calls.entries in
    let is = known p (Some path) r there.replaces (bytes_in calls) text took in (
      path,
      sym is.0,
      ∥∥₁_map there.whole (λ whole. subst (λ t. IsPublished path r t calls) is.2
          (subst (λ rule. IsPublished path rule (bytes_in calls) calls) is.1 whole)),
    )

-- and else nothing is there
pub nothing_there : (published : Option Published) → published_account published ≡ None → publishing_calls published ≡ []
nothing_there None none = refl
nothing_there (Some there) none = cc

-- no bytes and no failure
pub nothing_taken : (bytes : List ℕ) (failures : ℕ) → bytes ≡ [] → failures ≡ 0 → took_nothing bytes failures ≡ true
nothing_taken bytes failures none unfailed = rw (none, unfailed) refl

-- OUT has its path by the plan
pub path_from : {T E : Type 0} (r : Result T E) (a b : Option Text) (xs ys : List Text) (compared : List FileCall)
    (path : Option Text) → a ≡ b → xs ≡ ys → OnOk r (IsPath a xs compared path) → OnOk r (IsPath b ys compared path)
path_from r a b xs ys compared path asked inputs is =
    rw (← asked, ← inputs) is

-- without a path nothing was called
pub called_nowhere : (replaces : ReplaceRule) (path : Option (List ℕ)) (calls : List FileCall) → path ≡ None
    → ∥ IsRemoved replaces path calls ∥₁ → calls ≡ []
called_nowhere replaces path [] none removed = refl
called_nowhere replaces path (call ∷ calls) none removed = absurd (not_there removed by_case)
  where
    by_case : IsRemoved replaces path (call ∷ calls) → ⊥
    by_case (inl empty) = cc
    by_case (inr (inl asked)) = cc asked.1
    by_case (inr (inr (inl drafted))) = cc drafted.1
    by_case (inr (inr (inr through))) = cc through.1

-- no input was made yet
pub none_asked : (asked paths : List Text) → AreFirstAsked asked asked paths
none_asked asked paths = (0, sym (append-nil asked))

-- what was made after the same paths
pub first_from : (old first new : List Text) (paths : List Text) → first ≡ old → AreFirstAsked first new paths
    → AreFirstAsked old new paths
first_from old first new paths same asked = subst (λ o. AreFirstAsked o new paths) same asked
