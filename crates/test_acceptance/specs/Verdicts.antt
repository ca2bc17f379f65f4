-- Whether the results are the expected ones.
use Rattle.std.specs.Prelude.{◌≡◌, ℕ, ◌==◌, List, All, IsOkAnd, string_bytes, take}
use Rattle.std.specs.List.{common_prefix_len, count_by}
use Rattle.test_acceptance.specs.declared.verdicts.Step.{Step}
use Rattle.test_acceptance.specs.declared.verdicts.Outcome.{Outcome}

-- the byte `\n`
abbrev pub newline : ℕ
newline = 10

-- the length of the common beginning of two texts
abbrev pub common_length : List ℕ → List ℕ → ℕ
common_length wanted came = common_prefix_len (λ w c. w == c) wanted came

-- the number, counted from 0, of the first line that differs between two texts: as many lines end before the difference
abbrev pub parting_line : List ℕ → List ℕ → ℕ
parting_line wanted came = count_by (λ b. b == newline) (take (common_length wanted came) wanted)

-- the result of a line is the expected one, byte by byte
abbrev pub IsAsItStands : Step → Type 0
IsAsItStands step = string_bytes step.wanted ≡ string_bytes step.came

-- the requested lines were carried out, and each has the expected result
abbrev pub CameAsItStands : Outcome → Type 0
CameAsItStands outcome = IsOkAnd outcome.ended (λ steps. All IsAsItStands steps.items)
