-- What is said, from what its parts did.
use Rattle.std.proofs.Common.{◌≡◌, ◌∙◌, ℕ, Bool, true, false, List, Option, Some, None, IfSome, subst, inl, inr}
use Rattle.text_reports.specs.Report.{line}
use Rattle.command_common.specs.Outputs.{FailsBehind, Takes, Writer}
use Rattle.cli_standard_error.specs.StandardError.{IsPushed, SaysLine, wanting_text}

-- a line whose text is known was said
pub said_of : (text : Option (List ℕ)) (w : Writer) (bytes given : List ℕ) (whole : Bool) → IfSome text (λ t. bytes ≡ line t)
    → given ≡ bytes → IsPushed w given whole → IfSome text (λ t. SaysLine w t whole)
said_of None w bytes given whole is same pushed = tt
said_of (Some t) w bytes given true is same pushed = subst (λ b. Takes w b) (same ∙ is) pushed
said_of (Some t) w bytes given false is same failed = inl (subst (λ b. (n : ℕ) × FailsBehind w b n) (same ∙ is) failed)

pub wanting_said : (text : Option (List ℕ)) (w : Writer) (whole : Bool) → IsPushed w (line wanting_text) whole
    → IfSome text (λ t. SaysLine w t false)
wanting_said None w whole pushed = tt
wanting_said (Some t) w whole pushed = inr (whole, pushed)
