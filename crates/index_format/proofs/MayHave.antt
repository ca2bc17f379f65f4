-- The entries that a text may have, as far as SHA-256 tells.
use Rattle.std.proofs.Common.{◌≡◌, ℕ, ◌+◌, ◌-◌, ◌*◌, ◌≤◌, List, [], length, take, drop, sym, ap, ◌∙◌, subst, arith}
use Rattle.std.specs.Int.{w64, from_be_bytes}
use Rattle.std.specs.List.{concat}
use Rattle.std.proofs.lemmas.List.{drop-drop}
use Rattle.table_checked_pages.specs.Pages.{AreStored, DigestsDecidePages, digests_size}
use Rattle.table_checked_pages.proofs.PageLemmas.{may_be}
use Rattle.index_format.specs.Text.{IsIndexText, PassChecks, archive_length_in, count_in, entries_claim, retirements_in, root_in, start_in}
use Rattle.index_format.specs.Tree.{MayHaveEntries}
use Rattle.index_format.proofs.Fronts.{laid_ascending}
use Rattle.index_format.proofs.Faults.{count_there, digest_there, entries_there, numbers_there, pass_there}

-- an index may have its entries
pub may_have : (text : List ℕ) (entries : List (List ℕ)) → IsIndexText text entries → MayHaveEntries text entries
may_have text entries is = record {
  count_is = count_there text entries is;
  numbers = numbers_there text entries is;
  stored = may_be text (concat entries) (entries_claim text)
      (subst (AreStored text (entries_claim text)) (entries_there text entries is) (digest_there text entries is).stored);
  pass = pass_there text entries is;
  apart = laid_ascending (8 + length is.tables) entries is.pass is.laid;
}

-- texts of one length with one end record
module _ (text other : List ℕ) (same : length text ≡ length other) (room : 57 ≤ length text)
    (alike : drop (length text - 57) text ≡ drop (length other - 57) other) where
  end_alike : (k : ℕ) → k ≤ 57 → drop (length text - (57 - k)) text ≡ drop (length other - (57 - k)) other
  end_alike k h =
      let here : length text - (57 - k) ≡ length text - 57 + k = omega (arith, room, h) in
      let there : length other - 57 + k ≡ length other - (57 - k) = omega (arith, same, room, h) in
      ap (λ n. drop n text) here ∙ sym (drop-drop k (length text - 57) text) ∙ ap (drop k) alike
      ∙ drop-drop k (length other - 57) other ∙ ap (λ n. drop n other) there

  number_alike : (k : ℕ) → k ≤ 57
      → from_be_bytes w64 (take 8 (drop (length text - (57 - k)) text)) ≡ from_be_bytes w64 (take 8 (drop (length other - (57 - k)) other))
  number_alike k h = ap (λ (t : List ℕ). from_be_bytes w64 (take 8 t)) (end_alike k h)

  count_alike : count_in text ≡ count_in other
  count_alike = number_alike 1 (omega arith)

  retired_alike : retirements_in text ≡ retirements_in other
  retired_alike = number_alike 9 (omega arith)

  length_alike : archive_length_in text ≡ archive_length_in other
  length_alike = number_alike 17 (omega arith)

  root_alike : root_in text ≡ root_in other
  root_alike = end_alike 25 (omega arith)

  start_alike : start_in text ≡ start_in other
  start_alike = λ i. same i - 57 - 122 * count_alike i - digests_size (122 * count_alike i)

  -- what the one may have, the other may, unless pages of one digest differ
  pub may_alike : (entries : List (List ℕ)) → MayHaveEntries other entries
      → DigestsDecidePages text (entries_claim text) (concat entries) → MayHaveEntries text entries
  may_alike entries may tells = record {
    count_is = count_alike ∙ may.count_is;
    numbers = record { retired_is = retired_alike ∙ may.numbers.retired_is; length_is = length_alike ∙ may.numbers.length_is };
    stored = record {
      size = may.stored.size ∙ sym (ap (λ n. 122 * n) count_alike);
      root = may.stored.root ∙ sym root_alike;
      tells = tells;
    };
    pass = subst (λ n. PassChecks n [] entries) (sym start_alike) may.pass;
    apart = may.apart;
  }
