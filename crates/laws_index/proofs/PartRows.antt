-- The lines of slices, by the entries that a question reads.
use Rattle.std.proofs.Common.{◌≡◌, ℕ, ◌≤◌, true, List, [], length, map, Contains, sym, ap, ◌∙◌, subst, arith}
use Rattle.archive_core.specs.Key.{key_bytes}
use Rattle.archive_core.specs.declared.find.FindRow.{FindRow}
use Rattle.archive_core.specs.declared.keys.SliceKey.{SliceKey}
use Rattle.archive_core.proofs.Compare.{length_key_bytes}
use Rattle.archive_core.proofs.Made.{and_left}
use Rattle.index_format.specs.Paged.{only}
use Rattle.index_format.specs.Tree.{is_under_one}
use Rattle.index_lookup.specs.Among.{IsAmong, all_of, answers_among}
use Rattle.index_lookup.specs.Told.{admits_under}
use Rattle.text_reports.specs.Slices.{TellsSlices}
use Rattle.command_frames.specs.Slices.{IsAnsweringEntryRow}
use Rattle.laws_index.specs.Indexes.{AreUnderOne}
use Rattle.laws_index.proofs.Among.{from_all, to_all}
use Rattle.laws_index.proofs.Parts.{among_part, among_whole, answers_whole, key_under}

module _ (uuids : List (List ℕ)) (whole all : List (List (List ℕ))) (parts : all ≡ map (only (is_under_one uuids)) whole)
    (keys : List SliceKey) (asked : (key : SliceKey) → Contains keys key → Contains uuids key.uuid) where
  -- what answers is under the key
  admitted : (some : List (List (List ℕ))) (row : FindRow) (e : List ℕ) → answers_among (key_bytes row.key) (all_of some) e ≡ true
      → admits_under (key_bytes row.key) e ≡ true
  admitted some row e h = and_left _ _ (and_left _ _ h)

  short_row : (some : List (List (List ℕ))) (row : FindRow) → IsAnsweringEntryRow some keys row → length (key_bytes row.key) ≤ 24
  short_row some row a = omega (arith, length_key_bytes row.key a.is_row.is_key.uuid)

  under_row : (some : List (List (List ℕ))) (row : FindRow) → IsAnsweringEntryRow some keys row → AreUnderOne uuids (key_bytes row.key)
  under_row some row a =
      key_under uuids row.key (subst (λ (u : List ℕ). Contains uuids u) a.asked.2 (asked a.asked.0 a.asked.1))

  to_whole : (row : FindRow) → IsAnsweringEntryRow all keys row → IsAnsweringEntryRow whole keys row
  to_whole row a =
      let short = short_row all row a in
      let under = under_row all row a in
      let x = from_all [] [] all a.entry a.among in
      let admits : admits_under (key_bytes row.key) x.0.entry ≡ true = ap (admits_under (key_bytes row.key)) x.2 ∙ admitted all row a.entry a.answers in
      let there : IsAmong whole x.0 = among_whole uuids (key_bytes row.key) short under whole all parts x.0 admits x.1 in
      record {
        entry = a.entry;
        among = subst (λ (e : List ℕ). Contains (all_of whole) e) x.2 (to_all [] [] whole x.0 there);
        answers = sym (answers_whole uuids (key_bytes row.key) short under whole all parts a.entry) ∙ a.answers;
        is_row = a.is_row;
        asked = a.asked;
      }

  to_part : (row : FindRow) → IsAnsweringEntryRow whole keys row → IsAnsweringEntryRow all keys row
  to_part row a =
      let short = short_row whole row a in
      let under = under_row whole row a in
      let x = from_all [] [] whole a.entry a.among in
      let admits : admits_under (key_bytes row.key) x.0.entry ≡ true = ap (admits_under (key_bytes row.key)) x.2 ∙ admitted whole row a.entry a.answers in
      let there : IsAmong all x.0 = among_part uuids (key_bytes row.key) short under whole all parts x.0 admits x.1 in
      record {
        entry = a.entry;
        among = subst (λ (e : List ℕ). Contains (all_of all) e) x.2 (to_all [] [] all x.0 there);
        answers = answers_whole uuids (key_bytes row.key) short under whole all parts a.entry ∙ a.answers;
        is_row = a.is_row;
        asked = a.asked;
      }

  -- so their lines are those of all entries
  pub lines_whole : (text : List ℕ) → TellsSlices (IsAnsweringEntryRow all keys) keys text → TellsSlices (IsAnsweringEntryRow whole keys) keys text
  lines_whole text t = record {
    rows = t.rows;
    absent = t.absent;
    ascending = t.ascending;
    exactly = λ row. (λ there. to_whole row ((t.exactly row).0 there), λ is. (t.exactly row).1 (to_part row is));
    absent_ascending = t.absent_ascending;
    absent_exactly = λ key. (
      λ there. let a = (t.absent_exactly key).0 there in (a.0, λ row is. a.1 row (to_part row is)),
      λ a. (t.absent_exactly key).1 (a.0, λ row is. a.1 row (to_whole row is)),
    );
    text_is = t.text_is;
  }
