-- Lines with too many fields, or another word.
use Rattle.std.proofs.Common.{◌≡◌, ◌∙◌, ap, arith, ℕ, ◌<◌, true, false, List, [], ◌∷◌, length, Option, Some, None, is_some, option_map, Bor}
use Rattle.text_values.specs.Lines.{Field, fields_after, parts}
use Rattle.text_values.proofs.Fields.{cut_again, some_part}

-- by a reading of fields, and of a text that was cut twice
module _ {X : Type 0} (F : List Field → Option X) (text : List ℕ) (one two : Field) (behind : Option (Bor (List ℕ))) (b : Bor (List ℕ)) where
  pub longer : (more : Option (Bor (List ℕ)))
      → one ∷ fields_after (option_map (λ r. r.now) behind) ≡ parts text → behind ≡ Some b
      → two ∷ fields_after (option_map (λ r. r.now) more) ≡ parts b.now
      → is_some more ≡ true → ((f : Field) (fs : List Field) → None ≡ F (one ∷ two ∷ f ∷ fs))
      → None ≡ F (parts text)
  longer None cut is again some none = cc
  longer (Some rest) cut is again some none = by (parts rest.now) (some_part rest.now) ∙ ap F (cut_again text one behind b (two ∷ parts rest.now) cut is again)
    where
      by : (fs : List Field) → 0 < length fs → None ≡ F (one ∷ two ∷ fs)
      by [] h = absurd (omega arith)
      by (f ∷ fs) h = none f fs

  pub other_word : (more : Option (Bor (List ℕ)))
      → one ∷ fields_after (option_map (λ r. r.now) behind) ≡ parts text → behind ≡ Some b
      → two ∷ fields_after (option_map (λ r. r.now) more) ≡ parts b.now
      → is_some more ≡ false → None ≡ F (one ∷ two ∷ [])
      → None ≡ F (parts text)
  other_word (Some rest) cut is again some none = cc
  other_word None cut is again some none = none ∙ ap F (cut_again text one behind b (two ∷ []) cut is again)
