-- The two hex digits of a byte of a name, and names of which each byte is printed as itself.
use Rattle.std.proofs.Common.{◌≡◌, ℕ, List, [], ◌∷◌, false, refl, ap}
use Rattle.std.specs.List.{list_any}
use Rattle.std.proofs.lemmas.Bool.{or_parts}
use Rattle.text_reports.specs.Escapes.{escaped, escaped_byte, is_escaped}

plain_byte : (byte : ℕ) → is_escaped byte ≡ false → escaped_byte byte ≡ byte ∷ []
unfolding escaped_byte
plain_byte byte e = rw e refl

pub plain_is_escaped : (name : List ℕ) → list_any is_escaped name ≡ false → name ≡ escaped name
plain_is_escaped [] e = refl
plain_is_escaped (byte ∷ name) e =
    let parts = or_parts (is_escaped byte) (list_any is_escaped name) e in
    rw (plain_byte byte parts.0) (ap (λ behind. byte ∷ behind) (plain_is_escaped name parts.1))
