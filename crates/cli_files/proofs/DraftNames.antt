-- The names of drafts that are tried one after another.
use Rattle.std.proofs.Common.{◌≡◌, ◌≢◌, ◌∙◌, ◌⊎◌, ◌<◌, ◌≤◌, ◌+◌, ◌^◌, ◌&&◌, ℕ, true, false, List, [], ◌∷◌, ◌++◌, length}
use Rattle.std.proofs.Common.{map, Some, refl, sym, ap, inl, inr, append_assoc, append-nil, arith, subst}
use Rattle.std.proofs.lemmas.Fmt.{decimal_injective}
use Rattle.std.proofs.lemmas.List.{append_cancel_left, length-append, length-map, map-append}
use Rattle.std.specs.Fmt.{decimal}
use Rattle.std.specs.IoError.{error_kind}
use Rattle.std.specs.Path.{path_join, path_with_file_name}
use Rattle.std.specs.Prelude.{codes}
use Rattle.std.specs.declared.io.Error.{Error}
use Rattle.std.specs.declared.io.ErrorKind.{ErrorKind}
use Rattle.std.specs.declared.io.ErrorKind.TheVariants.{AlreadyExists, NotFound, OutOfMemory}
use Rattle.cli_files.specs.FileCalls.{FileCall, FindsTaken, are_probes, failed, is_probe, taking, uncreated}
use Rattle.cli_files.proofs.Same.{asked_behind}
use Rattle.cli_files.specs.Publishing.{draft_name}
use Rattle.cli_files.specs.Refusals.{IsSaid, is_failure}
use Rattle.cli_files.specs.declared.replaceable.OutFault.TheVariants.{NotCreated}
use Rattle.cli_files.specs.declared.replaceable.ReplaceRule.{ReplaceRule}

-- two numbers make two paths
one_number : (target : List ℕ) (process m n : ℕ) → m < 2 ^ 64 → n < 2 ^ 64
    → path_with_file_name target (draft_name process m) ≡ path_with_file_name target (draft_name process n) → m ≡ n
unfolding path_join path_with_file_name
one_number target process m n small too same =
    let front = codes ".symarch-" ++ decimal process ++ codes "-" in
    let names : front ++ decimal m ≡ front ++ decimal n = append_cancel_left _ (front ++ decimal m) (front ++ decimal n) same in
    decimal_injective m n small too (append_cancel_left front (decimal m) (decimal n) names)

-- Behind the first calls so many names were tried, each of which was taken, but for that of the target.
pub record Tried (process : ℕ) (target : List ℕ) (first calls : List FileCall) (count : ℕ) : Type 0 where
  pub taken : List (List ℕ)
  pub calls_are : calls ≡ first ++ taking taken
  pub counted : (length taken ≡ count)
      ⊎ ((length taken + 1 ≡ count) × (n : ℕ) × (n < count) × (path_with_file_name target (draft_name process n) ≡ target))

pub tried_none : (process : ℕ) (target : List ℕ) (first : List FileCall) → Tried process target first first 0
tried_none process target first = record { taken = []; calls_are = sym (append-nil first); counted = inl refl }

more_taken : (first calls new : List FileCall) (taken : List (List ℕ)) (path : List ℕ) → calls ≡ first ++ taking taken
    → new ≡ calls ++ FindsTaken path ∷ [] → new ≡ first ++ taking (taken ++ path ∷ [])
more_taken first calls new taken path was is =
    is ∙ ap (λ cs. cs ++ FindsTaken path ∷ []) was ∙ append_assoc first (taking taken) (FindsTaken path ∷ [])
    ∙ ap (λ cs. first ++ cs) (sym (map-append FindsTaken taken (path ∷ [])))

pub tried_taken : (process : ℕ) (target path : List ℕ) (first calls new : List FileCall) (count : ℕ)
    → Tried process target first calls count → new ≡ calls ++ FindsTaken path ∷ []
    → Tried process target first new (count + 1)
tried_taken process target path first calls new count tried is =
    let long = length-append tried.taken (path ∷ []) in record {
      taken = tried.taken ++ path ∷ [];
      calls_are = more_taken first calls new tried.taken path tried.calls_are is;
      counted = by_case tried.counted long;
    }
  where
    by_case : (length tried.taken ≡ count)
        ⊎ ((length tried.taken + 1 ≡ count) × (n : ℕ) × (n < count) × (path_with_file_name target (draft_name process n) ≡ target))
        → length (tried.taken ++ path ∷ []) ≡ length tried.taken + length (path ∷ [])
        → (length (tried.taken ++ path ∷ []) ≡ count + 1)
        ⊎ ((length (tried.taken ++ path ∷ []) + 1 ≡ count + 1) × (n : ℕ) × (n < count + 1) × (path_with_file_name target (draft_name process n) ≡ target))
    by_case (inl all) long = inl (omega (arith, all, long))
    by_case (inr (but, n, below, own)) long = inr (omega (arith, but, long), n, omega (arith, below), own)

pub tried_target : (process : ℕ) (target : List ℕ) (first calls : List FileCall) (count : ℕ) → count < 2 ^ 64
    → Tried process target first calls count → path_with_file_name target (draft_name process count) ≡ target
    → Tried process target first calls (count + 1)
tried_target process target first calls count small tried is = record {
  taken = tried.taken;
  calls_are = tried.calls_are;
  counted = by_case tried.counted;
}
  where
    by_case : (length tried.taken ≡ count)
        ⊎ ((length tried.taken + 1 ≡ count) × (n : ℕ) × (n < count) × (path_with_file_name target (draft_name process n) ≡ target))
        → (length tried.taken ≡ count + 1)
        ⊎ ((length tried.taken + 1 ≡ count + 1) × (n : ℕ) × (n < count + 1) × (path_with_file_name target (draft_name process n) ≡ target))
    by_case (inl all) = inr (ap (λ n. n + 1) all, count, omega arith, is)
    by_case (inr (but, n, below, own)) =
        let same = one_number target process n count (omega (arith, below, small)) small (own ∙ sym is) in
        absurd (omega (arith, same, below))

uncreated_probe : (path : List ℕ) (kind : ErrorKind) → is_probe (uncreated path kind) ≡ true
uncreated_probe path AlreadyExists = refl
uncreated_probe path NotFound = refl
uncreated_probe path OutOfMemory = refl
uncreated_probe path kind = refl

-- the system was only asked
pub tried_asked : (process : ℕ) (target : List ℕ) (first calls : List FileCall) (count : ℕ)
    → Tried process target first calls count
    → (tests : List FileCall) × (are_probes tests ≡ true) × (calls ≡ first ++ tests)
tried_asked process target first calls count tried = (taking tried.taken, all_taken tried.taken, tried.calls_are)
  where
    all_taken : (taken : List (List ℕ)) → are_probes (taking taken) ≡ true
    all_taken [] = refl
    all_taken (path ∷ taken) = all_taken taken

-- each was taken
pub tried_all : (process : ℕ) (target : List ℕ) (first calls : List FileCall) (error : Error) (replaces : ReplaceRule)
    → Tried process target first calls 100 → error_kind error ≡ AlreadyExists → IsSaid replaces (NotCreated (Some error)) calls
tried_all process target first calls error replaces tried kind =
    inr (inr (first, tried.taken, enough tried.counted, kind, tried.calls_are))
  where
    enough : (length tried.taken ≡ 100)
        ⊎ ((length tried.taken + 1 ≡ 100) × (n : ℕ) × (n < 100) × (path_with_file_name target (draft_name process n) ≡ target))
        → 99 ≤ length tried.taken
    enough (inl all) = omega (arith, all)
    enough (inr (but, n, below, own)) = omega (arith, but)

-- what was said last was that one is taken, or what was said before
last_taken : (first : List FileCall) (path : List ℕ) (taken : List (List ℕ))
    → (before : List FileCall) × (last : List ℕ) × (first ++ taking (path ∷ taken) ≡ before ++ FindsTaken last ∷ [])
last_taken first path [] = (first, path, refl)
last_taken first path (more ∷ taken) =
    let found = last_taken (first ++ FindsTaken path ∷ []) more taken in
    (found.0, found.1, sym (append_assoc first (FindsTaken path ∷ []) (taking (more ∷ taken))) ∙ found.2)

pub tried_last : (process : ℕ) (target : List ℕ) (first calls before : List FileCall) (said : FileCall) (count : ℕ)
    → Tried process target first calls count → first ≡ before ++ said ∷ [] → is_failure said ≡ false
    → (before : List FileCall) × (said : FileCall) × (is_failure said ≡ false) × (calls ≡ before ++ said ∷ [])
tried_last process target first calls before said count tried is unfailed = by_list tried.taken tried.calls_are
  where
    by_list : (taken : List (List ℕ)) → calls ≡ first ++ taking taken
        → (before : List FileCall) × (said : FileCall) × (is_failure said ≡ false) × (calls ≡ before ++ said ∷ [])
    by_list [] was = (before, said, unfailed, was ∙ append-nil first ∙ is)
    by_list (path ∷ taken) was =
        let found = last_taken first path taken in (found.0, FindsTaken found.1, refl, was ∙ found.2)

-- one was not created, whatever the system said
pub tried_refused : (process : ℕ) (target path : List ℕ) (kind : ErrorKind) (first calls new : List FileCall) (count : ℕ)
    → Tried process target first calls count → new ≡ calls ++ uncreated path kind ∷ []
    → (tests : List FileCall) × (are_probes tests ≡ true) × (new ≡ first ++ tests)
tried_refused process target path kind first calls new count tried is =
    let asked = tried_asked process target first calls count tried in
    asked_behind first calls new asked.0 asked.2 asked.1
    (uncreated path kind ∷ [], ap (λ b. b && true) (uncreated_probe path kind), is)

-- a path that is not taken
pub uncreated_failed : (path : List ℕ) (kind : ErrorKind) → kind ≢ AlreadyExists → uncreated path kind ≡ failed path kind
uncreated_failed path AlreadyExists free = absurd (free refl)
uncreated_failed path kind free = refl

-- one could not be created, and its name is not taken
pub tried_failed : (path : List ℕ) (calls new : List FileCall) (error : Error) (replaces : ReplaceRule)
    → error_kind error ≢ AlreadyExists → new ≡ calls ++ uncreated path (error_kind error) ∷ []
    → IsSaid replaces (NotCreated (Some error)) new
tried_failed path calls new error replaces free is =
    inl (calls, path, is ∙ ap (λ call. calls ++ call ∷ []) (uncreated_failed path (error_kind error) free))

pub uncreated_taken : (path : List ℕ) (kind : ErrorKind) → kind ≡ AlreadyExists → uncreated path kind ≡ FindsTaken path
uncreated_taken path kind is = ap (uncreated path) is
