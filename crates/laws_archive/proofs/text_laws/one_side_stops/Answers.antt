use Rattle.std.proofs.Common.{◌≡◌, ℕ, List, sym, ◌∙◌, inl, inr, ◌⊎◌}
use Rattle.archive_core.specs.Content.{Operations}
use Rattle.archive_merge.specs.Merging.{HasMagic, IsArchiveText, EndsBelow, LeftStops, RightStops, IsWrittenBefore}
use Rattle.laws_archive.proofs.text_laws.one_side_stops.Goals as goal

side : (left right : List ℕ) (lefts rights : List (List ℕ)) → LeftStops left right lefts rights → RightStops left right lefts rights → ⊥
side left right lefts rights l r = by l.first r.first
  where
    by : (HasMagic left → ⊥) ⊎ (HasMagic right × (IsArchiveText right ⊎ (EndsBelow rights lefts → ⊥)))
        → (HasMagic right → ⊥) ⊎ IsArchiveText left ⊎ EndsBelow rights lefts → ⊥
    by (inl n) y = n r.magic_left
    by (inr x) (inl n) = n x.0
    by (inr x) (inr (inl a)) = l.faulty a
    by (inr (m, inl a)) (inr (inr b)) = r.faulty a
    by (inr (m, inr n)) (inr (inr b)) = n b

none : (left right : List ℕ) → (HasMagic left → ⊥) ⊎ (HasMagic right → ⊥) → HasMagic left → HasMagic right → ⊥
none left right (inl n) l r = n l
none left right (inr n) l r = n r

place : (left right : List ℕ) (o : Operations) (low a b : List ℕ) → IsWrittenBefore left right o low a → IsWrittenBefore left right o low b → a ≡ b
place left right o low a b (inl x) (inl y) = x.1 ∙ sym y.1
place left right o low a b (inr x) (inr y) = x.2 ∙ sym y.2
place left right o low a b (inl x) (inr y) = absurd (none left right x.0 y.0 y.1)
place left right o low a b (inr x) (inl y) = absurd (none left right y.0 x.0 x.1)

pub returns : goal.returns
returns c = record { side = side; place = place }
