use Rattle.std.proofs.Common.{◌≡◌, ℕ, List, ◌∷◌, true, ◌↔◌, ap, sym, ◌∙◌, inl}
use Rattle.std.specs.Cmp.{both_ways}
use Rattle.std.specs.Cmp.Lexicographic.{nat_list_cmp_total}
use Rattle.std.specs.FinSet as set
use Rattle.std.specs.FinSet.{same_set}
use Rattle.archive_core.specs.Content.{Operations, content_of}
use Rattle.archive_core.proofs.Made.{bytes_same}
use Rattle.archive_records.specs.Text.{written}
use Rattle.archive_records.proofs.Versions.{made_content, one_content}
use Rattle.laws_archive.proofs.Joins.{merged_two}
use Rattle.laws_archive.proofs.Sequences.{all_read, join_of, one_input, one_text}
use Rattle.laws_archive.proofs.sequence_laws.any_sequence_of_commands.Goals as goal

one_set : (o p : Operations) → ((r : List ℕ) → (set.contains o r ≡ true) ↔ (set.contains p r ≡ true)) → o ≡ p
one_set o p same =
    same_set nat_list_cmp_total bytes_same o p (λ r. both_ways (set.contains o r) (set.contains p r) (same r).0 (same r).1)

pub returns : goal.returns
returns g c =
    let none = c.one_take_fault.ensures.none in
    let lists = c.one_list_of_operations.ensures in
    let summaries = c.one_summary.ensures in
    record {
      text = λ text o is.
          let one = one_text none lists summaries text o is in
          record { content = made_content o one.are; is = one.text_is };
      same_operations = λ text other o p is also same.
          (one_text none lists summaries text o is).text_is
          ∙ ap (λ (q : Operations). written (content_of q)) (one_set o p same)
          ∙ sym (one_text none lists summaries other p also).text_is;
      same_content = λ text other o p is also.
          let one = one_text none lists summaries text o is in
          let two = one_text none lists summaries other p also in (
            λ same. one_content text (content_of o) (content_of p) (made_content o one.are) (made_content p two.are)
                (inl one.text_is) (inl (same ∙ two.text_is)),
            λ same. one.text_is ∙ ap written same ∙ sym two.text_is,
          );
      input = λ input o is.
          let one = one_input none lists summaries input o is in
          (made_content o one.are, one.given);
      inputs = λ input inputs o are. join_of input inputs o (all_read none lists summaries (input ∷ inputs) o are);
      merged = λ input file o p text is also writes.
          let one = one_input none lists summaries input o is in
          let two = one_input none lists summaries file p also in
          let content = made_content o one.are in
          let other = made_content p two.are in
          let m = writes.1 in (
            m.text_is ∙ ap written (merged_two input file (content_of o) (content_of p) m.content m.lines content other one.given two.given m.makes),
            c.contents_join.ensures.least (content_of o) (content_of p) content other,
          );
    }
