-- The ends of a text as they are read.
use Rattle.std.proofs.Common.{◌≡◌, ◌≢◌, ℕ, ◌+◌, ◌-◌, ◌*◌, ◌<◌, ◌≤◌, true, false, eqb, List, [], ◌∷◌, ◌++◌, length, min}
use Rattle.std.proofs.Common.{take, drop, get_or, refl, sym, ap, ◌∙◌, subst, inl, inr, arith}
use Rattle.std.specs.Prelude.{Option, Some, IfSome, Ok, Err, ◌↔◌}
use Rattle.std.specs.Int.{w64, to_be_bytes, from_be_bytes}
use Rattle.std.specs.Str.{bytes_eq}
use Rattle.std.proofs.lemmas.Bool.{cases_lt, le-ltb, lt-ltb, ne_eqb}
use Rattle.std.proofs.lemmas.List.{drop-drop, get_or-drop, take-append-drop, take_all}
use Rattle.table_checked_pages.specs.Pages.{digests_size}
use Rattle.index_format.specs.Entry.{stored_size}
use Rattle.index_format.specs.Text.{count_in, earlier_magic, entries_claim, first_in, index_magic, retirements_in}
use Rattle.index_format.specs.Fault.{IsPartOffset, check_end, check_beginning}
use Rattle.index_format.specs.InnerReading.{AreEndsOf, IsUnread, end_bytes}
use Rattle.index_format.specs.Reading.{IsRefused}
use Rattle.index_format.specs.declared.ends.Ends.{Ends}
use Rattle.index_format.specs.declared.index_fault.IndexFault.{IndexFault}
use Rattle.index_format.specs.declared.index_fault.IndexFaultKind.TheVariants.{OldIndex, BadMagic, Truncated, BadCount}

-- what is known of the text that a device is known to have
pub some_is : (known : Option (List ℕ)) (text : List ℕ) (P : List ℕ → Type 0) → known ≡ Some text → IfSome known P → P text
some_is known text P is h = subst (λ o. IfSome o P) is h

-- a part that is there was not read: it is the machine's fault
pub part_unread : (B : List ℕ → IndexFault → Type 0) (offset count : ℕ) (text : List ℕ) (f : IndexFault)
    → IsPartOffset text offset → offset + count ≤ length text → IsRefused (IsUnread offset count) text f
    → IsRefused B text f
part_unread B offset count text f part within (inl machine) = inl machine
part_unread B offset count text f part within (inr (at, inl machine)) = inl (machine, subst (IsPartOffset text) (sym at) part)
part_unread B offset count text f part within (inr (at, inr few)) = absurd (omega (arith, few, within))

-- ---- the front

pub first_eight : (text : List ℕ) → take (min (length text) 8) text ≡ take 8 text
first_eight text = elim (cases_lt (length text) 8) [
  | inl l ↦
      let least : min (length text) 8 ≡ length text = omega arith in
      ap (λ (n : ℕ). take n text) least ∙ take_all (length text) text (omega arith) ∙ sym (take_all 8 text (omega arith))
  | inr l ↦
      let least : min (length text) 8 ≡ 8 = omega arith in
      ap (λ (n : ℕ). take n text) least
]

-- the question of the magic, of the bytes that were read
pub asked : (text beginning : List ℕ) (size : ℕ) → size ≡ length text → beginning ≡ take 8 text → length beginning
    ≡ min size 8 → bytes_eq beginning (take (length beginning) index_magic)
    ≡ bytes_eq (take 8 text) (take (min (length text) 8) index_magic)
asked text beginning size same is long =
    ap (λ (n : ℕ). bytes_eq beginning (take n index_magic)) (long ∙ ap (λ (n : ℕ). min n 8) same)
    ∙ ap (λ (t : List ℕ). bytes_eq t (take (min (length text) 8) index_magic)) is

pub old_fails : (text : List ℕ) → bytes_eq (take 8 text) earlier_magic ≡ true → check_beginning text ≡ Err OldIndex
unfolding check_beginning
old_fails text old = rw old refl

pub magic_fails : (text : List ℕ) → bytes_eq (take 8 text) earlier_magic ≡ false
    → bytes_eq (take 8 text) (take (min (length text) 8) index_magic) ≡ false → check_beginning text ≡ Err BadMagic
unfolding check_beginning
magic_fails text old h = rw (old, h) refl

pub room_fails : (text : List ℕ) → bytes_eq (take 8 text) earlier_magic ≡ false
    → bytes_eq (take 8 text) (take (min (length text) 8) index_magic) ≡ true
    → length text < 65 → check_beginning text ≡ Err Truncated
unfolding check_beginning
room_fails text old h short = rw (old, h, lt-ltb (length text) 65 short) refl

pub front_passes : (text : List ℕ) → bytes_eq (take 8 text) earlier_magic ≡ false
    → bytes_eq (take 8 text) (take (min (length text) 8) index_magic) ≡ true
    → 65 ≤ length text → check_beginning text ≡ Ok tt
unfolding check_beginning
front_passes text old h room = rw (old, h, le-ltb (length text) 65 room) refl

-- ---- the end record

-- an end record is its parts
pub parts_of_end : (end : List ℕ) (a b c : ℕ) → length end ≡ 57 → get_or end 0 0 ≡ 3 → to_be_bytes w64 a ≡ take 8 (drop 1 end)
    → to_be_bytes w64 b ≡ take 8 (drop 9 end) → to_be_bytes w64 c ≡ take 8 (drop 17 end) → end ≡ end_bytes a b c (drop 25 end)
parts_of_end [] a b c long tag x y z = absurd (omega (arith, long))
parts_of_end (t ∷ ts) a b c long tag x y z =
    let third : drop 16 ts ≡ to_be_bytes w64 c ++ drop 24 ts =
    sym (take-append-drop 8 (drop 16 ts)) ∙ (λ i. sym z i ++ drop-drop 8 16 ts i) in
    let second : drop 8 ts ≡ to_be_bytes w64 b ++ (to_be_bytes w64 c ++ drop 24 ts) =
    sym (take-append-drop 8 (drop 8 ts)) ∙ (λ i. sym y i ++ (drop-drop 8 8 ts ∙ third) i) in
    λ i. tag i ∷ (sym (take-append-drop 8 ts) ∙ (λ j. sym x j ++ second j)) i

-- this number of entries, of which so many are retirements, fits into a text of this length
abbrev pub Fit : ℕ → ℕ → ℕ → Type 0
Fit size count retired = (65 + (digests_size (122 * count) + 122 * count) ≤ size) × (retired ≤ count)

module _ (text end : List ℕ) (room : 65 ≤ length text) (is : end ≡ drop (length text - 57) text) where
  pub tag_at : get_or end 0 0 ≡ get_or text (length text - 57) 0
  tag_at =
      let at : length text - 57 + 0 ≡ length text - 57 = omega arith in
      ap (λ (t : List ℕ). get_or t 0 0) is ∙ get_or-drop (length text - 57) text 0 0 ∙ ap (λ (n : ℕ). get_or text n 0) at

  -- the bytes of the text from a place in the end record on
  pub part_at : (k : ℕ) → k ≤ 57 → drop k end ≡ drop (length text - (57 - k)) text
  part_at k h =
      let at : length text - 57 + k ≡ length text - (57 - k) = omega (arith, room, h) in
      ap (drop k) is ∙ drop-drop k (length text - 57) text ∙ ap (λ (n : ℕ). drop n text) at

  pub number_at : (k : ℕ) → k ≤ 57 → from_be_bytes w64 (take 8 (drop k end)) ≡ from_be_bytes w64 (take 8 (drop (length text - (57 - k)) text))
  number_at k h = ap (λ (t : List ℕ). from_be_bytes w64 (take 8 t)) (part_at k h)

  pub tag_fails : get_or end 0 0 ≢ 3 → check_end text ≡ Err Truncated
  unfolding check_end
  tag_fails other = rw (ap (λ (n : ℕ). eqb n 3) (sym tag_at) ∙ ne_eqb (get_or end 0 0) 3 other) refl

  module _ (tag : get_or end 0 0 ≡ 3) (count retired : ℕ) (number : count ≡ from_be_bytes w64 (take 8 (drop 1 end)))
      (other : retired ≡ from_be_bytes w64 (take 8 (drop 9 end))) where
    pub count_is : count ≡ count_in text
    count_is = number ∙ number_at 1 (omega arith)

    pub retired_is : retired ≡ retirements_in text
    retired_is = other ∙ number_at 9 (omega arith)

    tagged : get_or text (length text - 57) 0 ≡ 3
    tagged = sym tag_at ∙ tag

    fit_in : Fit (length text) count retired ↔ Fit (length text) (count_in text) (retirements_in text)
    fit_in = (
      λ h. subst (λ n. Fit (length text) n (retirements_in text)) count_is (subst (Fit (length text) count) retired_is h),
      λ h. subst (λ n. Fit (length text) n retired) (sym count_is) (subst (Fit (length text) (count_in text)) (sym retired_is) h),
    )

    pub count_fails : (Fit (length text) count retired → ⊥) → check_end text ≡ Err BadCount
    unfolding check_end
    count_fails refused =
        let room_of : ℕ = 65 + stored_size (entries_claim text) in
        elim (cases_lt (length text) room_of) [
          | inl few ↦ rw (tagged, lt-ltb (length text) room_of few) refl
          | inr room ↦ elim (cases_lt (count_in text) (retirements_in text)) [
            | inl many ↦ rw (tagged, le-ltb (length text) room_of room, lt-ltb (count_in text) (retirements_in text) many) refl
            | inr fine ↦ absurd (refused (fit_in.1 (room, fine)))
          ]
        ]

    pub end_passes : Fit (length text) count retired → check_end text ≡ Ok tt
    unfolding check_end
    end_passes fit =
        let there = fit_in.0 fit in
        rw (
          tagged,
          le-ltb (length text) (65 + stored_size (entries_claim text)) there.0,
          le-ltb (count_in text) (retirements_in text) there.1,
        ) refl

    pub are_ends : (ends : Ends) → check_beginning text ≡ Ok tt → Fit (length text) count retired → length end ≡ 57
        → ends.count ≡ count → ends.retired ≡ retired → ends.archive_len ≡ from_be_bytes w64 (take 8 (drop 17 end))
        → ends.root ≡ drop 25 end → ends.first ≡ length text - 57 - 122 * count
        → ends.start ≡ ends.first - digests_size (122 * count) → to_be_bytes w64 count ≡ take 8 (drop 1 end)
        → to_be_bytes w64 retired ≡ take 8 (drop 9 end) → to_be_bytes w64 ends.archive_len ≡ take 8 (drop 17 end)
        → AreEndsOf text ends
    are_ends ends beginning fit long many few len root first start a b c =
        let counted : ends.count ≡ count_in text = many ∙ count_is in
        let first_is : ends.first ≡ first_in text = first ∙ ap (λ (n : ℕ). length text - 57 - 122 * n) count_is in
        record {
          has = record { beginning = beginning; end = end_passes fit };
          start_is = start ∙ (λ i. first_is i - digests_size (122 * count_is i));
          first_is = first_is;
          count_is = counted;
          retired_is = few ∙ retired_is;
          length_is = len ∙ number_at 17 (omega arith);
          root_is = root ∙ part_at 25 (omega arith);
          end_is = sym is ∙ parts_of_end end count retired ends.archive_len long tag a b c
              ∙ (λ i. end_bytes (sym many i) (sym few i) ends.archive_len (sym root i));
        }
