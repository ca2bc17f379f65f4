-- The paths of descriptors.
use Rattle.std.proofs.Common.{◌≡◌, ◌∙◌, ◌⊎◌, ◌<◌, ◌≤◌, ◌==◌, ◌&&◌, ℕ, Bool, true, false, None, List, [], ◌∷◌, ◌++◌, All}
use Rattle.std.proofs.Common.{suc, append_assoc, ap, arith, drop, get_or, inl, inr, length, not, refl, subst, sym, take}
use Rattle.std.proofs.lemmas.List.{append_cancel_left, drop_at, length-append, take-append-drop, take_at}
use Rattle.std.proofs.lemmas.Bool.{and_parts}
use Rattle.std.specs.Prelude.{codes}
use Rattle.std.specs.Str.Pattern.{FindsText, FindsTextPrefix, LacksTextAt, SplitsAroundMatch, StripsPrefix}
use Rattle.cli_files.specs.Publishing.{IsDescriptor, IsNumber, IsNumbered, IsProcess}

-- what is after the text at the front
behind_text : (text s rest : List ℕ) → StripsPrefix (FindsTextPrefix text) s rest → s ≡ text ++ rest
behind_text text s rest strips = let found = strips.1 in found.1 ∙ ap (λ t. text ++ t) (sym strips.2)

-- what is around it
around_text : (text s front back : List ℕ) → SplitsAroundMatch (FindsText text) s front back → s ≡ front ++ (text ++ back)
around_text text s front back splits =
    let i = splits.0 in
    let j = splits.1 in
    let has = splits.2.1 in
    sym (take-append-drop i s) ∙ ap (λ t. t ++ drop i s) (sym splits.3)
    ∙ ap (λ t. front ++ t) (has.split ∙ ap (λ t. text ++ t) (sym splits.4))

-- ---- names of processes have no slash

no_slash : List ℕ → Bool
no_slash [] = true
no_slash (c ∷ cs) = not (c == 47) && no_slash cs

digits_no_slash : (name : List ℕ) → All (λ digit. 48 ≤ digit × digit ≤ 57) name → no_slash name ≡ true
unfolding no_slash
digits_no_slash [] all = refl
digits_no_slash (c ∷ cs) all =
    let first : 48 ≤ c × c ≤ 57 = all 0 c (omega arith) in
    let rest = digits_no_slash cs (λ k d lt. all (suc k) d (omega arith)) in grind (arith, first, rest)

process_no_slash : (name : List ℕ) → IsProcess name → no_slash name ≡ true
unfolding no_slash
process_no_slash name (inl is) = ap no_slash is
process_no_slash name (inr (inl is)) = ap no_slash is
process_no_slash name (inr (inr is)) = digits_no_slash name is.1

-- a slash is not before the first one
first_slash : (a b x y : List ℕ) → no_slash a ≡ true → a ++ (47 ∷ x) ≡ b ++ (47 ∷ y) → length a ≤ length b
unfolding no_slash
first_slash [] b x y free same = omega arith
first_slash (c ∷ cs) [] x y free same =
    let parts = and_parts (not (c == 47)) (no_slash cs) free in
    let is : c ≡ 47 = cc in grind (arith, parts.0, is)
first_slash (c ∷ cs) (d ∷ ds) x y free same =
    let parts = and_parts (not (c == 47)) (no_slash cs) free in
    let rest : cs ++ (47 ∷ x) ≡ ds ++ (47 ∷ y) = cc in
    let shorter = first_slash cs ds x y parts.1 rest in omega (arith, shorter)

-- ---- which paths are none

apart : false ≡ true → ⊥
apart same = cc

-- what stands under /proc is no other descriptor
under_proc : (path rest : List ℕ) → path ≡ codes "/proc/" ++ rest → IsDescriptor path
    → (process : List ℕ) × IsProcess process × IsNumbered (codes "/proc/" ++ process ++ codes "/fd/") path
under_proc path rest strips (inl is) =
    absurd (apart (ap (λ l. get_or l 1 0 == 100) (sym strips ∙ is)))
under_proc path rest strips (inr (inl is)) =
    absurd (apart (ap (λ l. get_or l 1 0 == 100) (sym strips ∙ is)))
under_proc path rest strips (inr (inr (inl is))) =
    absurd (apart (ap (λ l. get_or l 1 0 == 100) (sym strips ∙ is.path_is)))
under_proc path rest strips (inr (inr (inr is))) = is

rest_of : (path rest process number : List ℕ) → path ≡ codes "/proc/" ++ rest
    → path ≡ (codes "/proc/" ++ process ++ codes "/fd/") ++ number → rest ≡ process ++ (codes "/fd/" ++ number)
rest_of path rest process number strips is =
    append_cancel_left (codes "/proc/") rest (process ++ (codes "/fd/" ++ number)) (sym strips ∙ is
    ∙ append_assoc (codes "/proc/" ++ process) (codes "/fd/") number
    ∙ append_assoc (codes "/proc/") process (codes "/fd/" ++ number))

-- it is split after its process
splits_at : (rest front back process number : List ℕ) → SplitsAroundMatch (FindsText (codes "/fd/")) rest front back
    → IsProcess process → rest ≡ process ++ (codes "/fd/" ++ number) → (front ≡ process) × (back ≡ number)
splits_at rest front back process number splits named is =
    let whole = around_text (codes "/fd/") rest front back splits in
    let long : length front ≡ splits.0 = splits.6 in
    let above : length process ≤ length front =
    first_slash process front (codes "fd/" ++ number) (codes "fd/" ++ back) (process_no_slash process named) (sym is ∙ whole) in
    let below : length process < splits.0 → ⊥ =
    λ lt. splits.2.0 (length process) lt number (ap (drop (length process)) is
    ∙ drop_at process (codes "/fd/" ++ number) (length process) refl) in
    let at : length process ≡ splits.0 = omega (arith, below) in
    let same : front ≡ process = splits.3 ∙ ap (take splits.0) is ∙ take_at process (codes "/fd/" ++ number) splits.0 at in (
      same,
      append_cancel_left (codes "/fd/") back number (append_cancel_left process (codes "/fd/" ++ back) (codes "/fd/" ++ number)
          (ap (λ f. f ++ (codes "/fd/" ++ back)) (sym same) ∙ sym whole ∙ is)),
    )

-- ---- both ways

pub of_process : (path rest front back : List ℕ) → StripsPrefix (FindsTextPrefix (codes "/proc/")) path rest
    → SplitsAroundMatch (FindsText (codes "/fd/")) rest front back → IsProcess front → IsNumber back → IsDescriptor path
of_process path rest front back strips splits named numbered =
    let whole = behind_text (codes "/proc/") path rest strips
    ∙ ap (λ t. codes "/proc/" ++ t) (around_text (codes "/fd/") rest front back splits)
    ∙ sym (append_assoc (codes "/proc/") front (codes "/fd/" ++ back))
    ∙ sym (append_assoc (codes "/proc/" ++ front) (codes "/fd/") back) in
    inr (inr (inr (front, named, record { number = back; is_number = numbered; path_is = whole })))

pub parts_of : (path rest front back : List ℕ) → StripsPrefix (FindsTextPrefix (codes "/proc/")) path rest
    → SplitsAroundMatch (FindsText (codes "/fd/")) rest front back → IsDescriptor path → IsProcess front × IsNumber back
parts_of path rest front back strips splits is =
    let whole = behind_text (codes "/proc/") path rest strips in
    let found = under_proc path rest whole is in
    let same = splits_at rest front back found.0 found.2.number splits found.1
    (rest_of path rest found.0 found.2.number whole found.2.path_is) in
    (subst IsProcess (sym same.0) found.1, subst IsNumber (sym same.1) found.2.is_number)

pub not_without : (path rest : List ℕ) → StripsPrefix (FindsTextPrefix (codes "/proc/")) path rest
    → FindsText (codes "/fd/") rest None → IsDescriptor path → ⊥
not_without path rest strips none is =
    let whole = behind_text (codes "/proc/") path rest strips in
    let found = under_proc path rest whole is in
    let at = rest_of path rest found.0 found.2.number whole found.2.path_is in
    none (length found.0) (omega (arith, ap length at, length-append found.0 (codes "/fd/" ++ found.2.number))) found.2.number
    (ap (drop (length found.0)) at ∙ drop_at found.0 (codes "/fd/" ++ found.2.number) (length found.0) refl)
