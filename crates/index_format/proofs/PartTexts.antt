-- The text of an index of which a part is read.
use Rattle.std.proofs.Common.{◌≡◌, ◌∙◌, ◌+◌, ◌*◌, ◌<◌, ◌^◌, ℕ, List, [], length, sym, ap, subst, inl, inr}
use Rattle.std.specs.List.{concat}
use Rattle.table_checked_pages.specs.Pages.{AreStored, Claim, MayBeStored}
use Rattle.index_format.specs.InnerPaged.{IsUnreadPart, MayHold, PassInPart}
use Rattle.index_format.specs.InnerReading.{AreEndsOf}
use Rattle.index_format.specs.Part.{IsPartFault}
use Rattle.index_format.specs.Reading.{IsRefused}
use Rattle.index_format.specs.Text.{IsIndexText, entries_claim, start_in}
use Rattle.index_format.specs.Tree.{MayHaveEntries}
use Rattle.index_format.specs.declared.ends.Ends.{Ends}
use Rattle.index_format.specs.declared.index_fault.IndexFault.{IndexFault}
use Rattle.index_format.proofs.Faults.{digest_there, entries_there}
use Rattle.index_format.proofs.PartChecks.{pass_as_part}

-- the claim of the entries, by the ends
abbrev pub claim_of : Ends → Claim
claim_of ends = record { offset = ends.start; size = 122 * ends.count; root = ends.root }

claim_is : (text : List ℕ) (ends : Ends) → AreEndsOf text ends → claim_of ends ≡ entries_claim text
claim_is text ends are = λ i. record { offset = are.start_is i; size = 122 * are.count_is i; root = are.root_is i }

-- what a text may have, its pages may hold
pub may_hold : (text : List ℕ) (ends : Ends) (entries : List (List ℕ)) → AreEndsOf text ends → MayHaveEntries text entries
    → MayHold text (claim_of ends) ends.count ends.retired entries
may_hold text ends entries are may = record {
  many = sym (are.count_is ∙ may.count_is);
  retired_is = are.retired_is ∙ may.numbers.retired_is;
  stored = subst (λ (claim : Claim). MayBeStored text claim (concat entries)) (sym (claim_is text ends are)) may.stored;
  pass = subst (λ (end : ℕ). PassInPart end [] entries) (sym are.start_is) (pass_as_part (start_in text) entries may.pass may.apart);
}

-- the entries of an index are stored where its end record says
pub stored_of : (text : List ℕ) (entries : List (List ℕ)) → IsIndexText text entries → AreStored text (entries_claim text) (concat entries)
stored_of text entries is = subst (AreStored text (entries_claim text)) (entries_there text entries is) (digest_there text entries is).stored

-- why a part is not read, as a fault of the text
pub part_fault : (text : List ℕ) (ends : Ends) (fault : IndexFault) → AreEndsOf text ends → length text < 2 ^ 64
    → IsUnreadPart text (claim_of ends) ends.count ends.retired ends.first fault → IsRefused IsPartFault text fault
part_fault text ends fault are short (inl machine) = inl (machine.0, inr (inr (machine.1 ∙ are.start_is)))
part_fault text ends fault are short (inr (inl bad)) = inr (inr (
  are.has,
  inl (
    bad.0,
    bad.1 ∙ are.start_is,
    λ entries is. bad.2 short (concat entries) (subst (λ (claim : Claim). AreStored text claim (concat entries)) (sym (claim_is text ends are))
        (stored_of text entries is)),
  ),
))
part_fault text ends fault are short (inr (inr one)) = inr (inr (
  are.has,
  inr (
    one.0,
    one.1 ∙ ap (λ (n : ℕ). n + 122 * one.0) are.first_is,
    λ entries may. one.2 entries (may_hold text ends entries are may),
  ),
))
