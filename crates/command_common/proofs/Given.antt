-- What is true of the bytes of an input.
use Rattle.std.proofs.Common.{ℕ, List, Option, Some, None, IfSome}
use Rattle.archive_core.specs.Content.{Operations}
use Rattle.archive_records.specs.Reading.{IsReadInPart}
use Rattle.archive_records.specs.declared.kind.TextKind.TheVariants.{Archive}
use Rattle.command_common.specs.Inputs.{AreRead, Gives, HoldsContent, Unfailed, reader}

known_too : (o : Option (List ℕ)) (P Q : List ℕ → Type 0) → ((text : List ℕ) → P text → Q text) → IfSome o P → IfSome o Q
known_too None P Q more is = tt
known_too (Some text) P Q more is = more text is

-- what follows from what is true of them
pub gives_too : {S : Type 0} (left : S → Option (List ℕ)) (failures : S → ℕ) (old new : S) (P Q : List ℕ → Type 0)
    → ((text : List ℕ) → P text → Q text) → Gives (reader left failures old new) P → Gives (reader left failures old new) Q
gives_too left failures old new P Q more gives = known_too (left old) P Q more gives

-- an archive's text was read in part
pub holds_content : {S : Type 0} (left : S → Option (List ℕ)) (failures : S → ℕ) (old new : S) (IsTrue : Operations → Type 0)
    → IsReadInPart Archive IsTrue left failures old new
    → AreRead (HoldsContent (reader left failures old new) IsTrue) (Unfailed (reader left failures old new))
holds_content left failures old new IsTrue m = record {
  is = record { content = m.meaning; is_content = m.whole.is; text = m.whole.text; is_true = m.kept };
  unfailed = m.whole.unfailed;
}
