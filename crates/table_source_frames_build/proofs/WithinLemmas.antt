-- The table of the parts of steps, and whether it fits.
use Rattle.std.proofs.Common.{◌≡◌, ◌+◌, ◌≤◌, ◌<◌, ◌^◌, ℕ, Bool, false, IsTrue, List, length, map, min, sym, ap, ◌∙◌, inl, inr, arith}
use Rattle.std.specs.List.{concat}
use Rattle.std.proofs.lemmas.Bool.{cases_lt, false≢true}
use Rattle.table_checked_pages.specs.Groups.{bytes_of}
use Rattle.table_source_frames.specs.LineTable.{FitsLines}
use Rattle.table_source_frames.specs.LineText.{line_text}
use Rattle.table_source_frames_build.specs.Kept.{IsKept, KeptRecord}
use Rattle.table_source_frames_build.specs.PartBytes.{HaveNumbers, groups_by, texts_at}
use Rattle.table_source_frames_build.specs.StepViews.{HaveLocations, step_of}
use Rattle.table_source_frames_build.specs.WholeText.{AreOrders, text_by, text_of_parts}
use Rattle.table_source_frames_build.specs.declared.parts.Parts.{Parts}
use Rattle.table_source_frames_build.specs.declared.step.Step.{Step}
use Rattle.table_source_frames_build.proofs.PartLemmas.{fits, line_text_is, too_long, too_many_bytes, too_many_texts, too_much_text}

module _ (k : KeptRecord) (kept : IsKept k) (strings : List ℕ) (steps : List Step) (h : HaveLocations k steps) (p : Parts)
    (before : p.texts.before ≡ length strings)
    (orders : AreOrders k strings steps p.texts.places.items p.scopes.order.items p.files.order.items p.texts.uses.order.items) where
  by_parts : text_by k steps p
      ≡ text_of_parts k (length strings) steps p.texts.places.items p.scopes.order.items p.files.order.items p.texts.uses.order.items
  by_parts =
      ap (λ b. text_of_parts k b steps p.texts.places.items p.scopes.order.items p.files.order.items p.texts.uses.order.items) before

  -- there are too many texts
  pub many_none : (room : ℕ) (few : Bool) → few ≡ false → (HaveNumbers p → IsTrue few) → FitsLines room strings (map (step_of k) steps) → ⊥
  many_none room few is small fit = elim (cases_lt (p.texts.before + length p.texts.uses.order.items) 4294967296) [
    | inl less ↦ false≢true (sym is ∙ small less)
    | inr many ↦
        too_many_texts k kept strings p.texts.places.items orders.places_are steps h p.scopes.order.items p.files.order.items
        p.texts.uses.order.items orders room (omega (arith, many, before)) fit
  ]

  -- they have too many bytes
  pub text_none : (room most : ℕ) → most ≡ min room 4294967295 → most < length (concat (texts_at k p.texts.uses.order.items))
      → FitsLines room strings (map (step_of k) steps) → ⊥
  text_none = too_much_text k kept strings p.texts.places.items orders.places_are steps h p.scopes.order.items p.files.order.items
      p.texts.uses.order.items orders

  -- the steps have too many bytes
  pub steps_none : (room : ℕ) (bytes : List ℕ) → bytes ≡ bytes_of (groups_by k p.scopes.order.items steps) → 2 ^ 32 ≤ length bytes
      → FitsLines room strings (map (step_of k) steps) → ⊥
  steps_none room bytes is many =
      too_many_bytes k kept strings p.texts.places.items orders.places_are steps h p.scopes.order.items p.files.order.items
      p.texts.uses.order.items orders room (omega (arith, many, ap length is))

  -- the table has too many bytes
  pub long_none : (room : ℕ) (text : List ℕ) → text ≡ text_by k steps p → room < length text → FitsLines room strings (map (step_of k) steps) → ⊥
  long_none room text is long =
      too_long k kept strings p.texts.places.items orders.places_are steps h p.scopes.order.items p.files.order.items
      p.texts.uses.order.items orders room (omega (arith, long, ap length is, ap length by_parts))

  -- it fits
  pub fitting : (room : ℕ) (bytes text : List ℕ) → length steps < 2 ^ 32 → bytes ≡ bytes_of (groups_by k p.scopes.order.items steps)
      → length bytes < 2 ^ 32 → HaveNumbers p
      → length (concat (texts_at k p.texts.uses.order.items)) < 2 ^ 32 → text ≡ text_by k steps p → length text ≤ room
      → FitsLines room strings (map (step_of k) steps) × (text ≡ line_text strings (map (step_of k) steps))
  fitting room bytes text s are w t b is size = (
    fits k kept strings p.texts.places.items orders.places_are steps h p.scopes.order.items p.files.order.items
        p.texts.uses.order.items orders room s (omega (arith, w, ap length are)) p.scopes.are_given.few p.files.are_given.few (omega (arith, t, before)) b
        (omega (arith, size, ap length is, ap length by_parts)),
    is ∙ by_parts ∙ sym (line_text_is k kept strings p.texts.places.items orders.places_are steps h p.scopes.order.items p.files.order.items
        p.texts.uses.order.items orders),
  )
