-- What an entry tells, as a row and as the entry of a summary; and entries that are gone through one after another.
use Rattle.std.proofs.Common.{◌≡◌, ℕ, ◌+◌, ◌-◌, ◌<◌, ◌^◌, Bool, true, ◌||◌, List, [], ◌∷◌, ◌++◌, length}
use Rattle.std.proofs.Common.{map, take, drop, get_or, ◌⊎◌, refl, sym, ap, ◌∙◌, subst, arith, length-append}
use Rattle.std.proofs.Common.{length-take, append_assoc, eqb}
use Rattle.std.specs.Int.{w64, to_be_bytes}
use Rattle.std.specs.List.{AllByRecursion, AllZip}
use Rattle.std.proofs.Math.ListN.{length-map}
use Rattle.std.proofs.Math.Seq.{take-append_seam, drop-append_seam, get_or-append_right}
use Rattle.std.proofs.lemmas.List.{map-append, take_more}
use Rattle.archive_core.specs.Key.{IsKey, key_bytes}
use Rattle.archive_core.specs.declared.find.FindRow.{FindRow}
use Rattle.archive_core.proofs.Compare.{length_key_bytes}
use Rattle.archive_records.specs.Entry.{IsEntry}
use Rattle.index_format.specs.declared.entry.IndexEntry.{IndexEntry}
use Rattle.index_format.specs.Entry.{IsPlacedEntry, dsym_byte, offset_in, placed_bytes, tag_byte}
use Rattle.index_format.proofs.Entries.{offset_of_bytes}
use Rattle.index_format.proofs.Texts.{bytes_at}
use Rattle.command_common.proofs.Readers.{pairs_more}
use Rattle.command_given_indexes.specs.Rows.{IsEntryRow}

-- ---- the parts of an entry

-- the tag, the key and the digest of what begins with them
module _ (t : ℕ) (kb d tail : List ℕ) (key : length kb ≡ 24) (digest : length d ≡ 32) where
  abbrev laid : List ℕ
  laid = (t ∷ (kb ++ d)) ++ tail

  pub key_there : take 24 (drop 1 laid) ≡ kb
  key_there = ap (take 24) (append_assoc kb d tail) ∙ ap (λ (n : ℕ). take n (kb ++ (d ++ tail))) (sym key) ∙ take-append_seam kb (d ++ tail)

  behind_key : drop 24 ((kb ++ d) ++ tail) ≡ d ++ tail
  behind_key = ap (drop 24) (append_assoc kb d tail) ∙ ap (λ (n : ℕ). drop n (kb ++ (d ++ tail))) (sym key) ∙ drop-append_seam kb (d ++ tail)

  pub digest_there : take 32 (drop 25 laid) ≡ d
  digest_there = ap (take 32) behind_key ∙ ap (λ (n : ℕ). take n (d ++ tail)) (sym digest) ∙ take-append_seam d tail

  pub front_long : length (t ∷ (kb ++ d)) ≡ 57
  front_long = omega (arith, length-append kb d)

  pub front_there : take 57 laid ≡ t ∷ (kb ++ d)
  front_there = ap (λ (n : ℕ). take n laid) (sym front_long) ∙ take-append_seam (t ∷ (kb ++ d)) tail

  pub kind_there : get_or laid 57 0 ≡ get_or tail 0 0
  kind_there = get_or-append_right (t ∷ (kb ++ d)) tail 57 0 (omega (arith, front_long))
      ∙ (let none : 57 - length (t ∷ (kb ++ d)) ≡ 0 = omega (arith, front_long) in ap (λ (n : ℕ). get_or tail n 0) none)

module _ (e : IndexEntry) (is_key : IsKey e.row.key) (digest : length e.row.digest.0 ≡ 32) where
  abbrev kb : List ℕ
  kb = key_bytes e.row.key

  abbrev tail : List ℕ
  tail = dsym_byte e.row.state ∷ (to_be_bytes w64 e.offset ++ to_be_bytes w64 e.length)

  key_long : length kb ≡ 24
  key_long = length_key_bytes e.row.key is_key.uuid

  -- the row of an entry
  pub entry_row : IsEntryRow (placed_bytes e) e.row
  unfolding placed_bytes
  entry_row = record {
    is_key = is_key;
    key_is = sym (key_there (tag_byte e.row.state) kb e.row.digest.0 tail key_long digest);
    digest_is = sym (digest_there (tag_byte e.row.state) kb e.row.digest.0 tail key_long digest);
    tag_is = refl;
    kind_is = sym (kind_there (tag_byte e.row.state) kb e.row.digest.0 tail key_long digest);
  }

  -- the entry of a summary that it has
  pub entry_front : take 57 (placed_bytes e) ≡ tag_byte e.row.state ∷ (kb ++ e.row.digest.0)
  unfolding placed_bytes
  entry_front = front_there (tag_byte e.row.state) kb e.row.digest.0 tail key_long digest

  entry_long : length (placed_bytes e) ≡ 74
  unfolding placed_bytes
  entry_long = omega (
    arith,
    front_long (tag_byte e.row.state) kb e.row.digest.0 tail key_long digest,
    length-append (tag_byte e.row.state ∷ (kb ++ e.row.digest.0)) tail,
    length-append (to_be_bytes w64 e.offset) (to_be_bytes w64 e.length),
  )

  -- where its record stands
  pub place_is : e.offset < 2 ^ 64 → offset_in (placed_bytes e) ≡ e.offset
  place_is fits = offset_of_bytes e entry_long fits

-- ---- an entry of an index, without its kind and its place, is one of a summary

tag_either : (a b : Bool) (n : ℕ) → (a ≡ eqb n 1) → (b ≡ eqb n 2) → (a || b) ≡ true → (n ≡ 1) ⊎ (n ≡ 2)
tag_either a b n p q h = grind arith

first_kept : (e : List ℕ) → length e ≡ 74 → get_or (take 57 e) 0 0 ≡ get_or e 0 0
first_kept e long = grind arith

is_entry : (e : List ℕ) → IsPlacedEntry e → IsEntry (take 57 e)
is_entry e is = record {
  tag = subst (λ (n : ℕ). (n ≡ 1) ⊎ (n ≡ 2)) (sym (first_kept e is.long))
      (tag_either (eqb (get_or e 0 0) 1) (eqb (get_or e 0 0) 2) (get_or e 0 0) refl refl is.tag);
  long = omega (arith, length-take 57 e, is.long);
}

pub are_entries : (es : List (List ℕ)) → AllByRecursion IsPlacedEntry es → AllByRecursion IsEntry (map (take 57) es)
are_entries [] all = tt
are_entries (e ∷ es) all = (is_entry e all.0, are_entries es all.1)

-- ---- entries one after another

module _ (entries : List IndexEntry) (i : ℕ) (e : IndexEntry) (lt : i < length entries) (is : e ≡ get_or entries i e) where
  abbrev all : List (List ℕ)
  all = map placed_bytes entries

  within : i < length all
  within = omega (arith, length-map entries placed_bytes)

  at : placed_bytes e ≡ get_or all i []
  at = bytes_at entries i e (placed_bytes e) lt is refl

  -- one more row
  pub one_row : (rows after : List FindRow) (row : FindRow) → after ≡ rows ++ row ∷ [] → IsEntryRow (placed_bytes e) row
      → AllZip IsEntryRow (take i all) rows → AllZip IsEntryRow (take (i + 1) all) after
  one_row rows after row grown told each =
      subst (λ (rs : List FindRow). AllZip IsEntryRow (take (i + 1) all) rs) (sym grown)
      (subst (λ (es : List (List ℕ)). AllZip IsEntryRow es (rows ++ row ∷ [])) (sym (take_more all i [] within))
      (pairs_more IsEntryRow (take i all) rows (get_or all i []) row each (subst (λ (x : List ℕ). IsEntryRow x row) at told)))

  -- one more entry of a summary
  pub one_front : {X : Type 0} (bytes_of : X → List ℕ) (made after : List X) (x : X) → after ≡ made ++ x ∷ []
      → bytes_of x ≡ take 57 (placed_bytes e) → map bytes_of made ≡ map (take 57) (take i all) → map bytes_of after
      ≡ map (take 57) (take (i + 1) all)
  one_front bytes_of made after x grown of same =
      ap (map bytes_of) grown ∙ map-append bytes_of made (x ∷ []) ∙ (λ j. same j ++ (of ∙ ap (take 57) at) j ∷ [])
      ∙ sym (ap (map (take 57)) (take_more all i [] within) ∙ map-append (take 57) (take i all) (get_or all i [] ∷ []))
