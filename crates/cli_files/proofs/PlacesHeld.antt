-- An input that is read from any place.
use Rattle.std.proofs.Common.{◌≡◌, ◌∙◌, ℕ, List, Option, Some, None, Result, Ok, Err, subst}
use Rattle.std.specs.Prelude.{IfOk, IfSome}
use Rattle.byte_device.specs.Places.{HasSize, TakenAt}
use Rattle.byte_device.specs.declared.Failed.{Failed}

-- a device that keeps its bytes holds those of its file, and gives from these
pub held_taken : (known whole new : Option (List ℕ)) (at : ℕ) (buf : List ℕ) (result : Result ℕ Failed) → new ≡ whole
    → IfOk result (λ n. TakenAt whole at n buf) → IfSome known (λ bytes. whole ≡ Some bytes)
    → IfSome known (λ bytes. new ≡ Some bytes) × IfOk result (λ n. TakenAt known at n buf)
held_taken None whole new at buf (Ok n) keeps taken held = (tt, tt)
held_taken None whole new at buf (Err e) keeps taken held = (tt, tt)
held_taken (Some all) whole new at buf (Ok n) keeps taken held =
    (keeps ∙ held, subst (λ (w : Option (List ℕ)). TakenAt w at n buf) held taken)
held_taken (Some all) whole new at buf (Err e) keeps taken held = (keeps ∙ held, tt)

-- and has as many
pub held_size : (known whole new : Option (List ℕ)) (result : Result ℕ Failed) → new ≡ whole
    → IfOk result (λ size. HasSize whole size) → IfSome known (λ bytes. whole ≡ Some bytes)
    → IfSome known (λ bytes. new ≡ Some bytes) × IfOk result (λ size. HasSize known size)
held_size None whole new (Ok n) keeps has held = (tt, tt)
held_size None whole new (Err e) keeps has held = (tt, tt)
held_size (Some all) whole new (Ok n) keeps has held =
    (keeps ∙ held, subst (λ (w : Option (List ℕ)). HasSize w n) held has)
held_size (Some all) whole new (Err e) keeps has held = (keeps ∙ held, tt)
