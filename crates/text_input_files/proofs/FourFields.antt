-- The fields of a line, cut one after another.
use Rattle.std.proofs.Common.{◌≡◌, ◌≢◌, ap, arith, ℕ, true, List, ◌∷◌, length, Option, Some, None, is_some, option_map, Bor}
use Rattle.text_values.specs.Lines.{Field, fields_after, parts}
use Rattle.text_values.proofs.Fields.{cut_again, some_part}

-- what a cut gives
abbrev pub IsCut : List ℕ → Field → Option (Bor (List ℕ)) → Type 0
IsCut text field behind = field ∷ fields_after (option_map (λ r. r.now) behind) ≡ parts text

-- four cuts of a text, and what stands after the last of them
pub four_cuts : (text : List ℕ) (uuid arch load address : Field) (o₁ o₂ o₃ more : Option (Bor (List ℕ))) (b₁ b₂ b₃ : Bor (List ℕ))
    → IsCut text uuid o₁ → o₁ ≡ Some b₁ → IsCut b₁.now arch o₂ → o₂ ≡ Some b₂ → IsCut b₂.now load o₃ → o₃ ≡ Some b₃ → IsCut b₃.now address more
    → uuid ∷ arch ∷ load ∷ address ∷ fields_after (option_map (λ r. r.now) more) ≡ parts text
four_cuts text uuid arch load address o₁ o₂ o₃ more b₁ b₂ b₃ c₁ s₁ c₂ s₂ c₃ s₃ c₄ =
    cut_again text uuid o₁ b₁ _ c₁ s₁ (cut_again b₁.now arch o₂ b₂ _ c₂ s₂ (cut_again b₂.now load o₃ b₃ _ c₃ s₃ c₄))

-- more than four fields
pub longer : (text : List ℕ) (uuid arch load address : Field) (more : Option (Bor (List ℕ)))
    → uuid ∷ arch ∷ load ∷ address ∷ fields_after (option_map (λ r. r.now) more) ≡ parts text → is_some more ≡ true
    → length (parts text) ≢ 4
longer text uuid arch load address None all some = cc
longer text uuid arch load address (Some rest) all some =
    λ four. absurd (omega (arith, some_part rest.now, ap length all, four))
