-- The ends and the entries of the text of an index.
use Rattle.std.proofs.Common.{◌≡◌, ℕ, ◌+◌, ◌-◌, ◌*◌, ◌<◌, ◌≤◌, ◌^◌, Bool, true, false, not, cond, eqb, ltb, List}
use Rattle.std.proofs.Common.{◌∷◌, ◌++◌, length, min, take, drop, get_or, refl, sym, ap, ◌∙◌, arith, length-append, subst}
use Rattle.std.proofs.Common.{length-take, length-drop, append_assoc}
use Rattle.std.specs.Prelude.{Result, Ok}
use Rattle.std.specs.Int.{w64, to_be_bytes, from_be_bytes}
use Rattle.std.specs.List.{concat}
use Rattle.std.specs.Str.{bytes_eq}
use Rattle.std.proofs.Math.Seq.{take-append_seam, drop-append_seam, drop-append-add}
use Rattle.std.proofs.lemmas.List.{take_at, drop_at, get_or_at, take-append-drop, drop-drop}
use Rattle.std.proofs.lemmas.List.Sums.{count_by-le-length}
use Rattle.std.proofs.lemmas.Bool.{eqb-true, le-ltb, ltb-false}
use Rattle.std.proofs.lemmas.Nat.{from_be_bytes-to_be_bytes_8}
use Rattle.std.proofs.lemmas.Slice.Eq.{bytes_eq-Decides}
use Rattle.sha2.proofs.Facts256.{length-sha256}
use Rattle.table_checked_pages.specs.Pages.{AreStored, digests_size, height, level_of, root_of, stored}
use Rattle.table_checked_pages.proofs.PageLemmas.{bytes_stand, length-stored}
use Rattle.archive_core.specs.Content.{is_admission}
use Rattle.index_format.specs.Entry.{stored_size}
use Rattle.index_format.specs.Text.{HasNumbers, IsIndexText, archive_length, count_in, earlier_magic, end_of, entries_claim}
use Rattle.index_format.specs.Text.{entries_in, first_in, index_magic, index_text, retired_in, retirements_in, root_in, start_in}
use Rattle.index_format.specs.Fault.{HasDigest, HasEnds, check_end, check_beginning}
use Rattle.index_format.specs.InnerReading.{AreEndsOf}
use Rattle.index_format.specs.declared.ends.Ends.{Ends}
use Rattle.index_format.proofs.Checks.{fine, failed}
use Rattle.index_format.specs.declared.index_fault.IndexFaultKind.{IndexFaultKind}
use Rattle.index_format.specs.declared.index_fault.IndexFaultKind.TheVariants.{OldIndex, BadMagic, Truncated, BadCount}

-- ---- what the text of tables and entries has

pub end_long : (entries : List (List ℕ)) → length (end_of entries) ≡ 57
unfolding end_of
end_long entries =
    let all : List ℕ = concat entries in
    let number : List ℕ = to_be_bytes w64 (archive_length entries) in
    omega (
      arith,
      length-append number (root_of all),
      length-append (to_be_bytes w64 (retired_in entries)) (number ++ root_of all),
      length-append (to_be_bytes w64 (length entries)) (to_be_bytes w64 (retired_in entries) ++ (number ++ root_of all)),
      length-sha256 (level_of (height (length all)) all),
    )

-- the bytes of the end record after its tag, after its first number, and so on
module _ (entries : List (List ℕ)) where
  abbrev from_root : List ℕ
  from_root = root_of (concat entries)

  abbrev from_length : List ℕ
  from_length = to_be_bytes w64 (archive_length entries) ++ from_root

  abbrev from_retired : List ℕ
  from_retired = to_be_bytes w64 (retired_in entries) ++ from_length

  after_tag : drop 1 (end_of entries) ≡ to_be_bytes w64 (length entries) ++ from_retired
  unfolding end_of
  after_tag = refl

  after_count : drop 9 (end_of entries) ≡ from_retired
  after_count = sym (drop-drop 8 1 (end_of entries)) ∙ ap (drop 8) after_tag ∙ drop_at (to_be_bytes w64 (length entries)) from_retired 8 refl

  after_retired : drop 17 (end_of entries) ≡ from_length
  after_retired = sym (drop-drop 8 9 (end_of entries)) ∙ ap (drop 8) after_count ∙ drop_at (to_be_bytes w64 (retired_in entries)) from_length 8 refl

  -- the root in an end record
  pub after_length : drop 25 (end_of entries) ≡ root_of (concat entries)
  after_length = sym (drop-drop 8 17 (end_of entries)) ∙ ap (drop 8) after_retired ∙ drop_at (to_be_bytes w64 (archive_length entries)) from_root 8 refl

-- retirements are no more than entries
pub few_retired : (entries : List (List ℕ)) → retired_in entries ≤ length entries
few_retired entries = count_by-le-length (λ e. not (is_admission e)) entries

module _ (tables : List ℕ) (entries : List (List ℕ)) (few : length entries < 2 ^ 64) (short : archive_length entries < 2 ^ 64)
    (each : length (concat entries) ≡ 122 * length entries) where
  abbrev all : List ℕ
  all = concat entries

  abbrev beginning : List ℕ
  beginning = index_magic ++ (tables ++ stored all)

  abbrev text : List ℕ
  text = index_text tables entries

  abbrev digests : ℕ
  digests = digests_size (122 * length entries)

  stored_long : length (stored all) ≡ digests + 122 * length entries
  stored_long = length-stored all ∙ ap (λ n. digests_size n + n) each

  parts : text ≡ beginning ++ end_of entries
  parts = ap (λ (t : List ℕ). index_magic ++ t) (sym (append_assoc tables (stored all) (end_of entries)))
      ∙ sym (append_assoc index_magic (tables ++ stored all) (end_of entries))

  front_long : length beginning ≡ 8 + length tables + (digests + 122 * length entries)
  front_long = omega (arith, length-append index_magic (tables ++ stored all), length-append tables (stored all), stored_long)

  pub text_long : length text ≡ 65 + length tables + (digests + 122 * length entries)
  text_long = ap length parts ∙ omega (arith, length-append beginning (end_of entries), end_long entries, front_long)

  -- what stands at the end, so many bytes after the beginning of the end record
  at_end : (k : ℕ) → k ≤ 57 → drop (length text - (57 - k)) text ≡ drop k (end_of entries)
  at_end k h =
      let at : length text - (57 - k) ≡ length beginning + k = omega (arith, text_long, front_long, h) in
      (λ i. drop (at i) (parts i)) ∙ drop-append-add beginning (end_of entries) k

  pub count_is : count_in text ≡ length entries
  count_is =
      ap (λ (t : List ℕ). from_be_bytes w64 (take 8 t)) (at_end 1 (omega arith) ∙ after_tag entries)
      ∙ ap (from_be_bytes w64) (take-append_seam (to_be_bytes w64 (length entries)) (from_retired entries))
      ∙ from_be_bytes-to_be_bytes_8 (length entries) few

  pub numbers_are : HasNumbers text entries
  numbers_are = record {
    retired_is = ap (λ (t : List ℕ). from_be_bytes w64 (take 8 t)) (at_end 9 (omega arith) ∙ after_count entries)
        ∙ ap (from_be_bytes w64) (take-append_seam (to_be_bytes w64 (retired_in entries)) (from_length entries))
        ∙ from_be_bytes-to_be_bytes_8 (retired_in entries) (omega (arith, few, few_retired entries));
    length_is = ap (λ (t : List ℕ). from_be_bytes w64 (take 8 t)) (at_end 17 (omega arith) ∙ after_retired entries)
        ∙ ap (from_be_bytes w64) (take-append_seam (to_be_bytes w64 (archive_length entries)) (from_root entries))
        ∙ from_be_bytes-to_be_bytes_8 (archive_length entries) short;
  }

  root_is : root_in text ≡ root_of all
  root_is = at_end 25 (omega arith) ∙ after_length entries

  digests_are : digests_size (122 * count_in text) ≡ digests
  digests_are = ap (λ (n : ℕ). digests_size (122 * n)) count_is

  pub start_is : start_in text ≡ 8 + length tables
  start_is = omega (arith, text_long, count_is, digests_are)

  stored_there : AreStored text (entries_claim text) all
  stored_there =
      let whole : text ≡ (index_magic ++ tables) ++ (stored all ++ end_of entries) =
      sym (append_assoc index_magic tables (stored all ++ end_of entries)) in
      record {
        size = each ∙ sym (ap (λ (n : ℕ). 122 * n) count_is);
        root = sym root_is;
        within = omega (arith, text_long, start_is, stored_long);
        bytes = (λ i. take (length (stored all)) (drop (start_is i) (whole i)))
            ∙ ap (take (length (stored all))) (drop_at (index_magic ++ tables) (stored all ++ end_of entries)
            (8 + length tables) (length-append index_magic tables))
            ∙ take_at (stored all) (end_of entries) (length (stored all)) refl;
      }

  pub entries_are : entries_in text ≡ concat entries
  entries_are =
      let first : first_in text ≡ start_in text + digests_size (122 * count_in text) =
      omega (arith, text_long, start_is, count_is, digests_are) in
      ap (λ (n : ℕ). take (122 * count_in text) (drop n text)) first ∙ bytes_stand text all (entries_claim text) stored_there

  tag_is : get_or text (length text - 57) 0 ≡ 3
  unfolding end_of
  tag_is =
      let at : length text - 57 ≡ length beginning = omega (arith, text_long, front_long) in
      (λ i. get_or (parts i) (at i) 0)
      ∙ get_or_at beginning 3 (to_be_bytes w64 (length entries) ++ from_retired entries) 0 (length beginning) refl

  pub has_ends : HasEnds text
  unfolding check_beginning check_end
  has_ends =
      let least : min (length text) 8 ≡ 8 = omega (arith, text_long) in
      let begins : take 8 text ≡ take (min (length text) 8) index_magic =
      take-append_seam index_magic (tables ++ (stored all ++ end_of entries))
      ∙ ap (λ (n : ℕ). take n index_magic) (sym least) in
      let room : 65 + stored_size (entries_claim text) ≤ length text = omega (arith, text_long, count_is, digests_are) in
      let retired : retirements_in text ≤ count_in text = omega (arith, numbers_are.retired_is, count_is, few_retired entries) in
      record {
        beginning = rw (
          (bytes_eq-Decides (take 8 text) (take (min (length text) 8) index_magic)).1 begins,
          le-ltb (length text) 65 (omega (arith, text_long)),
        ) refl;
        end = rw (tag_is, le-ltb (length text) (65 + stored_size (entries_claim text)) room, le-ltb (count_in text) (retirements_in text) retired) refl;
      }

  pub has_digest : HasDigest text
  has_digest = record { ends = has_ends; stored = subst (AreStored text (entries_claim text)) (sym entries_are) stored_there }

-- ---- what a text with these ends is

not_old : (o : Bool) (k : IndexFaultKind) (r : Result (Unit {0}) IndexFaultKind) → cond o (failed k) r ≡ fine → (o ≡ false) × (r ≡ fine)
not_old o k r h = grind arith

two_pass : (a b : Bool) (k l : IndexFaultKind) → cond (not a) (failed k) (cond b (failed l) fine) ≡ fine → (a ≡ true) × (b ≡ false)
two_pass a b k l h = grind arith

three_pass : (a b c : Bool) (k l : IndexFaultKind) → cond (not a) (failed k) (cond b (failed l) (cond c (failed l) fine)) ≡ fine
    → (a ≡ true) × (b ≡ false) × (c ≡ false)
three_pass a b c k l h = grind arith

pub front_passed : (text : List ℕ) → check_beginning text ≡ Ok tt → (take 8 text ≡ index_magic) × (65 ≤ length text)
unfolding check_beginning
front_passed text h =
    let new = not_old (bytes_eq (take 8 text) earlier_magic) OldIndex _ h in
    let p = two_pass (bytes_eq (take 8 text) (take (min (length text) 8) index_magic)) (ltb (length text) 65) BadMagic Truncated new.1 in
    let long : 65 ≤ length text = ltb-false (length text) 65 p.1 in
    let least : min (length text) 8 ≡ 8 = omega arith in
    ((bytes_eq-Decides (take 8 text) (take (min (length text) 8) index_magic)).0 p.0 ∙ ap (λ (n : ℕ). take n index_magic) least, long)

pub end_passed : (text : List ℕ) → check_end text ≡ Ok tt
    → (get_or text (length text - 57) 0 ≡ 3) × (65 + stored_size (entries_claim text) ≤ length text) × (retirements_in text ≤ count_in text)
unfolding check_end
end_passed text h =
    let p = three_pass (eqb (get_or text (length text - 57) 0) 3) (ltb (length text) (65 + stored_size (entries_claim text)))
    (ltb (count_in text) (retirements_in text)) Truncated BadCount h in (
      eqb-true (get_or text (length text - 57) 0) 3 p.0,
      ltb-false (length text) (65 + stored_size (entries_claim text)) p.1,
      ltb-false (count_in text) (retirements_in text) p.2,
    )

-- where the entries of a text with ends are
module _ (text : List ℕ) (has : HasEnds text) where
  room : 65 + stored_size (entries_claim text) ≤ length text
  room = (end_passed text has.end).1

  pub first_after : first_in text ≡ start_in text + digests_size (122 * count_in text)
  first_after = omega (arith, room)

  pub first_fills : first_in text + 122 * count_in text + 57 ≡ length text
  first_fills = omega (arith, room)

  pub start_behind : 8 ≤ start_in text
  start_behind = omega (arith, room)

  pub length_entries : length (entries_in text) ≡ 122 * count_in text
  length_entries = omega (arith, room, length-take (122 * count_in text) (drop (first_in text) text), length-drop (first_in text) text)

  -- the bytes that are stored are the entries
  pub are_entries : (bytes : List ℕ) → AreStored text (entries_claim text) bytes → bytes ≡ entries_in text
  are_entries bytes are =
      sym (bytes_stand text bytes (entries_claim text) are)
      ∙ ap (λ (n : ℕ). take (122 * count_in text) (drop n text)) (sym first_after)

module _ (text : List ℕ) (ends : Ends) (are : AreEndsOf text ends) where
  last_bytes : (entries : List (List ℕ)) → length entries ≡ count_in text → HasNumbers text entries
      → root_of (concat entries) ≡ root_in text → drop (length text - 57) text ≡ end_of entries
  unfolding end_of
  last_bytes entries many numbers root =
      let a : ends.count ≡ length entries = are.count_is ∙ sym many in
      let b : ends.retired ≡ retired_in entries = are.retired_is ∙ numbers.retired_is in
      let c : ends.archive_len ≡ archive_length entries = are.length_is ∙ numbers.length_is in
      let d : ends.root ≡ root_of (concat entries) = are.root_is ∙ sym root in
      are.end_is ∙ (λ i. 3 ∷ (to_be_bytes w64 (a i) ++ (to_be_bytes w64 (b i) ++ (to_be_bytes w64 (c i) ++ d i))))

  pub tables_long : 8 + length (take (start_in text - 8) (drop 8 text)) ≡ start_in text
  tables_long = omega (
    arith,
    start_behind text are.has,
    first_after text are.has,
    first_fills text are.has,
    length-take (start_in text - 8) (drop 8 text),
    length-drop 8 text,
  )

  pub whole_text : (entries : List (List ℕ)) → concat entries ≡ entries_in text → length entries ≡ count_in text
      → HasDigest text → HasNumbers text entries → text ≡ index_text (take (start_in text - 8) (drop 8 text)) entries
  whole_text entries whole many digest numbers =
      let start : ℕ = start_in text in
      let all : List ℕ = stored (concat entries) in
      let tables : List ℕ = take (start - 8) (drop 8 text) in
      let are_stored : AreStored text (entries_claim text) (concat entries) =
      subst (AreStored text (entries_claim text)) (sym whole) digest.stored in
      let long : length all ≡ digests_size (122 * count_in text) + 122 * count_in text =
      length-stored (concat entries) ∙ ap (λ n. digests_size n + n) are_stored.size in
      let to_start : 8 + (start - 8) ≡ start = omega (arith, start_behind text are.has) in
      let to_end : start + length all ≡ length text - 57 =
      omega (arith, long, first_after text are.has, first_fills text are.has) in
      let last : drop (length text - 57) text ≡ end_of entries = last_bytes entries many numbers are_stored.root in
      sym (take-append-drop 8 text)
      ∙ (λ i. (front_passed text are.has.beginning).0 i ++ sym (take-append-drop (start - 8) (drop 8 text)) i)
      ∙ ap (λ (t : List ℕ). index_magic ++ (tables ++ t))
      (drop-drop (start - 8) 8 text ∙ ap (λ (n : ℕ). drop n text) to_start
      ∙ sym (take-append-drop (length all) (drop start text))
      ∙ (λ i. are_stored.bytes i ++ (drop-drop (length all) start text ∙ ap (λ (n : ℕ). drop n text) to_end ∙ last) i))

  pub ends_fill : ends.first + 122 * ends.count + 57 ≡ length text
  ends_fill = omega (arith, are.first_is, are.count_is, first_fills text are.has)

-- the last bytes of an index are its end record
pub last_is : (text : List ℕ) (entries : List (List ℕ)) → IsIndexText text entries → drop (length text - 57) text ≡ end_of entries
last_is text entries is =
    let all : List ℕ = stored (concat entries) in
    let beginning : List ℕ = index_magic ++ (is.tables ++ all) in
    let whole : text ≡ beginning ++ end_of entries =
    is.whole ∙ ap (λ (t : List ℕ). index_magic ++ t) (sym (append_assoc is.tables all (end_of entries)))
    ∙ sym (append_assoc index_magic (is.tables ++ all) (end_of entries)) in
    let at : length text - 57 ≡ length beginning = omega (arith, ap length whole, length-append beginning (end_of entries), end_long entries) in
    (λ i. drop (at i) (whole i)) ∙ drop-append_seam beginning (end_of entries)
