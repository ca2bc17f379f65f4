-- Good fronts of a text: valid prefixes.
use Rattle.std.specs.Prelude.{◌≡◌, ℕ, ◌+◌, ◌<◌, ◌≤◌, List, [], ◌++◌, length, ◌⊎◌}
use Rattle.std.specs.List.{concat}
use Rattle.archive_records.specs.declared.format.Format.{Format}
use Rattle.archive_records.specs.declared.kind.TextKind.{TextKind}
use Rattle.archive_records.specs.Kind.{magic_of, format_for}
use Rattle.archive_records.specs.Text.{InOrder, AreApart}

-- The text begins with the magic and these records; each may follow the one before it, and in an archive of version 2
-- no retirement among them covers one.
pub record IsGoodFront (file : Format) (text : List ℕ) (records : List (List ℕ)) : Type 0 where
  pub ordered : InOrder file [] records
  pub apart : AreApart file records
  pub rest : List ℕ
  pub whole : text ≡ magic_of file ++ (concat records ++ rest)

-- the length of the good front of these records
abbrev pub front_length : List (List ℕ) → ℕ
front_length records = 8 + length (concat records)

-- No other good front of the text is longer.
pub record IsLongestFront (file : Format) (text : List ℕ) (records : List (List ℕ)) : Type 0 where
  pub front : IsGoodFront file text records
  pub longest : (others : List (List ℕ)) → IsGoodFront file text others → front_length others ≤ front_length records

-- the length of a good front of the bytes, or 0 if there are fewer bytes than in the magic
abbrev pub IsFrontLengthOf : Format → List ℕ → ℕ → Type 0
IsFrontLengthOf file bytes offset =
    ((length bytes < 8) × (offset ≡ 0))
    ⊎ ((records : List (List ℕ)) × IsGoodFront file bytes records × (offset ≡ front_length records))

-- the same for bytes of a text of this kind
abbrev pub IsFrontLength : TextKind → List ℕ → ℕ → Type 0
IsFrontLength kind bytes offset = IsFrontLengthOf (format_for kind bytes) bytes offset

-- the length of the longest good front of the bytes, or 0 if there are fewer bytes than in the magic
abbrev pub IsLongestLengthOf : Format → List ℕ → ℕ → Type 0
IsLongestLengthOf file bytes offset =
    ((length bytes < 8) × (offset ≡ 0))
    ⊎ ((records : List (List ℕ)) × IsLongestFront file bytes records × (offset ≡ front_length records))

-- the same for bytes of a text of this kind
abbrev pub IsLongestLength : TextKind → List ℕ → ℕ → Type 0
IsLongestLength kind bytes offset = IsLongestLengthOf (format_for kind bytes) bytes offset
