use Rattle.std.proofs.Common.{refl, sym, subst, ap, ◌∙◌, inl, inr, arith}
use Rattle.std.proofs.lemmas.Result.{IfOk-weaker}
use Rattle.table_checked_pages.proofs.ReadLemmas.{read_as}
use Rattle.table_source_frames.specs.LineText.{string_at}
use Rattle.table_source_frames.specs.OfBytes.{IsStoredText, strings_in}
use Rattle.table_source_frames.proofs.OpenedLemmas.{text_of_others, text_of_strings}
use Rattle.table_source_frames.proofs.table.LineTable.text.Goals as goal

pub returns-then-from-strings-clause-read : goal.returns-then-from-strings-clause-read
returns-then-from-strings-clause-read g c =
    read_as
    (λ text known bytes says all strings steps told opened is.
    says all strings steps told opened (text_of_others _ _ _ _ _ _ opened c.args.number _ told is (omega arith) (omega arith)))
    (λ text known absent all strings steps told stored opened is.
    absent all strings steps told stored opened (text_of_others _ _ _ _ _ _ opened c.args.number _ told is (omega arith) (omega arith)))
    c.other_text.ensures.read

pub returns-in_default-clause-read : goal.returns-in_default-clause-read
returns-in_default-clause-read g c = record {
  says = λ text known all strings steps told stored opened is. c.index_of.ensures.none c.in_default.is is.some (omega arith);
  keeps = refl;
  counts = refl;
}

pub returns-clause-read : goal.returns-clause-read
returns-clause-read g c =
    read_as
    (λ text known bytes says all strings steps told opened is.
    says all strings steps opened
    ∙ sym (text_of_strings _ _ _ _ _ _ opened c.args.number c.in-Some.offset told is c.in-Some.ensures.is (omega arith)))
    (λ text known absent all strings steps told stored opened is. absent all strings steps stored opened)
    c.string.ensures.read

pub returns-then-from-strings-clause-bytes : goal.returns-then-from-strings-clause-bytes
returns-then-from-strings-clause-bytes g c =
    IfOk-weaker c.other_text.result _ _
    (λ bytes told text all known pages. inr (
      omega arith,
      subst (λ k. IsStoredText c.args.self.now all k bytes.items) (omega arith) (told text all known pages),
    ))
    c.other_text.ensures.bytes

pub returns-clause-bytes : goal.returns-clause-bytes
returns-clause-bytes g c =
    IfOk-weaker c.string.result _ _
    (λ bytes told text all known pages. inl (record {
      some = omega (arith, c.in-Some.ensures.is);
      within = omega arith;
      is = told text all known pages ∙ ap (string_at (strings_in c.args.self.now all)) (omega (arith, c.in-Some.ensures.is));
    }))
    c.string.ensures.bytes
