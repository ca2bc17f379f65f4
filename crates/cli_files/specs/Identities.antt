-- Which file a path names, as the system reports it.
use Rattle.std.specs.Prelude.{◌≡◌, ℕ, Bool, true, false, not, ◌&&◌, ◌==◌, List, [], ◌∷◌, ◌++◌, Result, Ok, Err}
use Rattle.std.specs.declared.io.Error.{Error}
use Rattle.cli_files.specs.FileCalls.{FileCall, found}
use Rattle.cli_files.specs.declared.found.Found.{Found}

-- both are one regular file: they have the same device and the same file number, which is not 0 (unknown)
abbrev pub is_one : Found → Found → Bool
is_one a b = a.is_file && b.is_file && not (a.number == 0) && a.number == b.number && a.device == b.device

-- the system reported one regular file for both paths
abbrev pub is_same : Result Found Error → Result Found Error → Bool
is_same (Ok a) (Ok b) = is_one a b
is_same _ _ = false

-- For OUT and each input in order, the system did not report that they are one regular file: a failed call counts as
-- another file.
pub data AreApart (out : List ℕ) : List (List ℕ) → List FileCall → Type 0 where
  None : AreApart out [] []
  More : (inputs : List (List ℕ)) (input : List ℕ) (calls : List FileCall) (a b : Result Found Error)
      → AreApart out inputs calls → is_same a b ≡ false
      → AreApart out (inputs ++ input ∷ []) (calls ++ found out a ++ found input b)

-- The system reported that one input, after the earlier ones, is the same file as OUT.
pub record IsMet (out : List ℕ) (inputs : List (List ℕ)) (calls : List FileCall) : Type 0 where
  pub before : List (List ℕ)
  pub input : List ℕ
  pub after : List (List ℕ)
  pub inputs_are : inputs ≡ before ++ input ∷ after
  pub calls_before : List FileCall
  pub apart : AreApart out before calls_before
  pub of_out : Result Found Error
  pub of_input : Result Found Error
  pub same : is_same of_out of_input ≡ true
  pub calls_are : calls ≡ calls_before ++ found out of_out ++ found input of_input
