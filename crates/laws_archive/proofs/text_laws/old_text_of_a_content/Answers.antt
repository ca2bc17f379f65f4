use Rattle.std.proofs.Common.{refl, sym, inr}
use Rattle.laws_archive.proofs.text_laws.old_text_of_a_content.Goals as goal

pub returns : goal.returns
returns c = λ o content. inr (record { operations = o; are = content.records; whole = refl; makes = sym content.itself })
