-- What `extract` writes by an entry is the wanted slice of the contents that the indexes were made of, or none is wanted.
use Rattle.std.proofs.Common.{◌≡◌, ℕ, zero, suc, ◌+◌, ◌<◌, ◌≤◌, List, [], ◌∷◌, ◌++◌, length, take, drop, get_or, Option, Some, None, slice_get, refl, sym, ap}
use Rattle.std.proofs.Common.{◌∙◌, subst, inl, inr, arith, length-append, append_assoc, drop-drop, Bool}
use Rattle.std.specs.List.{AllZip, concat, Contains}
use Rattle.std.specs.FinSet as set
use Rattle.std.proofs.Math.Seq.{drop-append_seam, take-append_seam}
use Rattle.std.proofs.lemmas.List.{drop-append-le}
use Rattle.std.proofs.lemmas.Option.{same_Some}
use Rattle.join_core.specs.Listing.{listing}
use Rattle.archive_core.specs.Content.{Operations, IsLive}
use Rattle.archive_core.specs.Find.{AreAnswering, state_of}
use Rattle.archive_core.specs.Key.{IsKey, key_bytes}
use Rattle.archive_core.specs.Record.{admission_record}
use Rattle.archive_core.specs.Valid.{IsValid, key_of}
use Rattle.archive_core.specs.declared.keys.Digest.{Digest}
use Rattle.archive_core.specs.declared.keys.SliceKey.{SliceKey}
use Rattle.archive_core.proofs.Compare.{length_key_bytes}
use Rattle.archive_core.proofs.Entries.{slice_of}
use Rattle.archive_core.proofs.Members.{in_front, in_rest}
use Rattle.archive_core.proofs.Records.{length-admission_record, length-key_of, one_key as same_key}
use Rattle.archive_records.specs.Kind.{magic}
use Rattle.archive_records.specs.Text.{end_record, written}
use Rattle.index_format.specs.Entry.{offset_in}
use Rattle.index_format.specs.Paged.{only}
use Rattle.index_format.specs.Tree.{is_under_one}
use Rattle.command_common.specs.Inputs.{IsGiven, Reader}
use Rattle.command_common.specs.Outputs.{Writer}
use Rattle.laws_index.specs.Indexes.{AreIndexes, AreUnderOne, DigestsDiffer, all_joined}
use Rattle.laws_index.proofs.Among.{IsOfSlice, admission_if, lives_if, slice_of_entry, entry_if_live, lives_then}
use Rattle.laws_index.proofs.Joined.{joined_alone, tells_alone}
use Rattle.laws_index.proofs.IndexesAreRight.{IsAnsweringSlice, slices_right, zip_empty, zip_through}
use Rattle.index_lookup.specs.Among.{EntryAt}
use Rattle.command_given_indexes.specs.Together.{AreLater, IsOneOf}
use Rattle.command_extract.specs.Entries.{HoldsSlice, IsChosen, StandFor, AreUnchosen}
use Rattle.command_extract.specs.Indexed.{MakesEntry, extract_at, LacksEntry}
use Rattle.command_extract.specs.Wanted.{IsWanted, slice_line, written_line, AreUndecided, slice_row, slices_text}
use Rattle.command_extract.proofs.Extracted.{wanted_alike, undecided_alike}
use Rattle.laws_index.specs.Contents.{AreIndexed, AreOwnIndexes, IsIndexGiven, IsOwnIndex, AreIndexesGiven}
use Rattle.laws_index.proofs.Accepted.{still_given, of_given, first_third}
use Rattle.laws_index.proofs.ByIndex.{held_alike}
use Rattle.laws_index.proofs.ByTables.{AreTextsOf, parts_are, texts_of}
use Rattle.laws_index.proofs.Parts.{answering_whole, key_under, living_part, living_whole}
use Rattle.std.specs.Prelude.{if◌then◌else◌, map}
use Rattle.std.proofs.lemmas.Slice.Zip.{AllZip-long}
use Rattle.sha2.specs.Sha256.{sha256}
use Rattle.archive_core.specs.declared.find.FindRow.{FindRow}
use Rattle.archive_core.specs.declared.find.FindState.TheVariants.{Dsym, Image}
use Rattle.text_reports.specs.Finds.{find_lines}
use Rattle.laws_index.proofs.OfContent.{key_in}
use Rattle.index_lookup.specs.Named.{IsRowAt, LivesAmong}
use Rattle.laws_index.specs.Undecided.{TellsUndecided}

-- ---- a slice in the text of its content

-- a record, and what stands after it
behind_concat : (rs : List (List ℕ)) (i : ℕ) (rest : List ℕ) → i < length rs
    → drop (length (concat (take i rs))) (concat rs ++ rest) ≡ get_or rs i [] ++ (concat (drop (suc i) rs) ++ rest)
behind_concat [] i rest lt = absurd (omega (arith, lt))
behind_concat (r ∷ rs) zero rest lt = append_assoc r (concat rs) rest
behind_concat (r ∷ rs) (suc i) rest lt =
    let k : ℕ = length (concat (take i rs)) in
    ap (λ (n : ℕ). drop n ((r ++ concat rs) ++ rest)) (length-append r (concat (take i rs)))
    ∙ sym (drop-drop k (length r) ((r ++ concat rs) ++ rest))
    ∙ ap (λ (t : List ℕ). drop k (drop (length r) t)) (append_assoc r (concat rs) rest)
    ∙ ap (drop k) (drop-append_seam r (concat rs ++ rest))
    ∙ behind_concat rs i rest (omega (arith, lt))

-- the slice of an admission, after the head of its record
slice_there : (o : Operations) (slice : List ℕ) (i : ℕ) → IsValid slice → i < length (listing o) → get_or (listing o) i [] ≡ admission_record slice
    → (rest : List ℕ) × (drop (8 + length (concat (take i (listing o))) + 33) (written o) ≡ slice ++ rest)
unfolding written
slice_there o slice i valid within is =
    let rs : List (List ℕ) = listing o in
    let last : List ℕ = end_record (set.len o) in
    let k : ℕ = length (concat (take i rs)) in
    let behind : List ℕ = concat (drop (suc i) rs) ++ last in
    let text : List ℕ = magic ++ (concat rs ++ last) in (
      behind,
      sym (drop-drop 33 (8 + k) text)
          ∙ ap (drop 33) (sym (drop-drop k 8 text) ∙ ap (drop k) (drop-append_seam magic (concat rs ++ last))
          ∙ behind_concat rs i last within ∙ ap (λ (r : List ℕ). r ++ behind) is)
          ∙ drop-append-le 33 (admission_record slice) behind (omega (arith, length-admission_record slice valid))
          ∙ ap (λ (s : List ℕ). s ++ behind) (slice_of slice valid),
    )

-- as many bytes from there on are the slice
same_bytes : (text slice sent rest : List ℕ) (k : ℕ) → drop k text ≡ slice ++ rest → length sent ≡ length slice
    → take (length sent) (drop k text) ≡ sent → sent ≡ slice
same_bytes text slice sent rest k behind long stands =
    sym stands ∙ ap (take (length sent)) behind ∙ ap (λ (n : ℕ). take n (slice ++ rest)) long ∙ take-append_seam slice rest

-- ---- the archive of an entry

-- one of the archives, later, has the text of the content at its place
own_at : {I P : Type 0} (inputs : List (Reader I)) (archives : List (Reader P)) (os : List Operations)
    (later : List (Reader P)) (n : ℕ) (archive : Reader P) (o : Operations) → AreOwnIndexes inputs archives os
    → AreLater archives later
    → slice_get later n ≡ Some archive → slice_get os n ≡ Some o → IsGiven archive (written o)
own_at inputs [] (w ∷ os) (l ∷ later) n archive o own are in_later in_os = absurd are
own_at [] (a ∷ archives) (w ∷ os) (l ∷ later) n archive o own are in_later in_os = absurd own
own_at (i ∷ inputs) (a ∷ archives) (w ∷ os) (l ∷ later) zero archive o own are in_later in_os =
    let given : IsGiven l (written w) = still_given a l (written w) are.0 own.0.1 in
    subst (λ (v : Reader _). IsGiven v (written o)) (same_Some l archive in_later)
    (subst (λ (u : Operations). IsGiven l (written u)) (same_Some w o in_os) given)
own_at (i ∷ inputs) (a ∷ archives) (w ∷ os) (l ∷ later) (suc n) archive o own are in_later in_os =
    own_at inputs archives os later n archive o own.1 are.1 in_later in_os
own_at inputs archives os later n archive o own are in_later in_os = absurd cc

-- the indexes of these very archives are the indexes of their contents
pub indexed_own : {I P : Type 0} (inputs : List (Reader I)) (archives : List (Reader P)) (os : List Operations)
    → AreOwnIndexes inputs archives os → AreIndexed inputs archives os
indexed_own [] [] [] own = tt
indexed_own (input ∷ inputs) (archive ∷ archives) (o ∷ os) own = ((own.0.0, inl own.0.1), indexed_own inputs archives os own.1)
indexed_own inputs archives os own = absurd own

-- ---- the slice of an entry

only_slice : (os : List Operations) (texts : List (List ℕ)) (all : List (List (List ℕ))) (key : SliceKey) (x : EntryAt)
    (ss : List (List ℕ)) → AllZip (IsAnsweringSlice os texts all key) (x ∷ []) ss → AreAnswering (all_joined os) key ss
    → (slice : List ℕ) × IsOfSlice os texts all x slice × AreAnswering (all_joined os) key (slice ∷ [])
only_slice os texts all key x [] zip are = absurd zip
only_slice os texts all key x (s ∷ []) zip are = (s, zip.0.of, are)
only_slice os texts all key x (s ∷ (r ∷ ss)) zip are = absurd zip.1

-- the entry that is chosen is that of the wanted slice
wanted_of : (os : List Operations) (texts : List (List ℕ)) (all : List (List (List ℕ))) (key : SliceKey)
    (digest : Option Digest) (x : EntryAt) → AreIndexes os texts all → IsKey key → DigestsDiffer os
    → IsChosen key digest all x
    → (slice : List ℕ) × IsOfSlice os texts all x slice × IsWanted (all_joined os) key digest slice
wanted_of os texts all key None x files is_key tell chosen =
    let right = slices_right os texts all files key is_key (x ∷ []) tell chosen in
    only_slice os texts all key x right.0 right.1 right.2
wanted_of os texts all key (Some digest) x files is_key tell chosen =
    let s = slice_of_entry os texts all files x chosen.among (admission_if os texts all files key is_key x chosen.lives) in
    (s.0, s.1, (lives_if os texts all files key is_key x s.0 s.1 chosen.lives, sym s.1.is.is.digest_is ∙ chosen.digest_is))

-- a slice that is wanted under a key has it
under_key : (o : Operations) (key : SliceKey) (digest : Option Digest) (slice : List ℕ) → IsWanted o key digest slice → key_of slice ≡ key
under_key o key None slice is = ((is.exactly slice).0 (in_front slice [])).live.under
under_key o key (Some digest) slice is = is.0.under

-- ---- what was read under the UUID of a key

short_key : (key : SliceKey) → IsKey key → length (key_bytes key) ≤ 24
short_key key is_key = omega (arith, length_key_bytes key is_key.uuid)

own_uuid : (key : SliceKey) → AreUnderOne (key.uuid ∷ []) (key_bytes key)
own_uuid key = key_under (key.uuid ∷ []) key (in_front key.uuid [])

module _ (key : SliceKey) (is_key : IsKey key) (whole all : List (List (List ℕ)))
    (parts : all ≡ map (only (is_under_one (key.uuid ∷ []))) whole) where
  chosen_whole : (digest : Option Digest) (x : EntryAt) → IsChosen key digest all x → IsChosen key digest whole x
  chosen_whole None x is =
      answering_whole (key.uuid ∷ []) (key_bytes key) (short_key key is_key) (own_uuid key) whole all parts (x ∷ []) is
  chosen_whole (Some digest) x is =
      living_whole (key.uuid ∷ []) (key_bytes key) (short_key key is_key) (own_uuid key) whole all parts digest.0 x is

  unchosen_whole : (digest : Option Digest) (xs : List EntryAt) → AreUnchosen key digest all xs → AreUnchosen key digest whole xs
  unchosen_whole None xs are =
      (answering_whole (key.uuid ∷ []) (key_bytes key) (short_key key is_key) (own_uuid key) whole all parts xs are.0, are.1)
  unchosen_whole (Some digest) xs are = (
    are.0,
    λ x lives. are.1 x (living_part (key.uuid ∷ []) (key_bytes key) (short_key key is_key) (own_uuid key) whole all parts digest.0 x lives),
  )

module _ {I P : Type 0} (inputs : List (Reader I)) (archives : List (Reader P)) (os : List Operations) (own : AreOwnIndexes inputs archives os) where
  own_texts : AreTextsOf inputs os
  own_texts = texts_of inputs os (first_third IsOwnIndex IsIndexGiven inputs archives os (λ x y z is. is.0) own)

  -- what its archive has at its place is the slice of the entry
  sent_is : (all : List (List (List ℕ))) (later : List (Reader P)) (x : EntryAt) (archive : Reader P)
      (slice sent : List ℕ) → AreLater archives later → IsOneOf later x.input archive
      → IsOfSlice os own_texts.texts all x slice → HoldsSlice archive x sent
      → sent ≡ slice
  sent_is all later x archive slice sent are one of holds =
      let given : IsGiven archive (written of.of.o) = own_at inputs archives os later x.input archive of.of.o own are one.is of.of.file.content_at in
      let there = slice_there of.of.o slice of.of.place of.is.valid of.of.is.within of.of.record_is in
      same_bytes (written of.of.o) slice sent there.0 (offset_in x.entry + 33)
      (ap (λ (n : ℕ). drop (n + 33) (written of.of.o)) of.of.is.place ∙ there.1)
      (omega (arith, holds.of.long, of.is.length_is))
      (of_given archive (written of.of.o) (StandFor x sent) given holds.stands)

  pub extracted_by_entry : (key : SliceKey) (digest : Option Digest) (slice told : List ℕ) → DigestsDiffer os → IsKey key
      → MakesEntry inputs archives key digest slice told → IsWanted (all_joined os) key digest slice
      × (told ≡ slice_line slice)
  extracted_by_entry key digest slice told tell is_key makes =
      let from = makes.from in
      let p = parts_are (key.uuid ∷ []) inputs archives from.all from.read os own_texts.texts own_texts.given own_texts.files in
      let wanted = wanted_of os own_texts.texts p.whole key digest makes.x p.indexes is_key tell
      (chosen_whole key is_key p.whole from.all p.parts digest makes.x from.chosen) in
      let same = sent_is p.whole from.later makes.x makes.archive wanted.0 slice from.are_later from.archive_is wanted.1 makes.holds in
      let is = subst (IsWanted (all_joined os) key digest) (sym same) wanted.2 in
      (is, makes.told_is ∙ ap (λ (k : SliceKey). written_line k slice) (sym (under_key (all_joined os) key digest slice is)))

  -- also where entries are tied
  pub extracted_either : (key : SliceKey) (digest : Option Digest) (draft : Writer) (slice told : List ℕ)
      → DigestsDiffer os → IsKey key → (extract_at inputs archives key digest draft).writes.Makes slice told
      → IsWanted (all_joined os) key digest slice × (told ≡ slice_line slice)
  extracted_either key digest draft slice told tell is_key (inl makes) = extracted_by_entry key digest slice told tell is_key makes
  extracted_either key digest draft slice told tell is_key (inr (none, (held, told_is))) =
      let indexed = indexed_own inputs archives os own in
      let alike = held_alike (key.uuid ∷ []) (key_bytes key ∷ []) inputs archives os held.0 ((short_key key is_key, own_uuid key), tt) indexed
      held.1 (key_bytes key) (0, omega arith, refl) in (
        subst (λ (d : Option Digest). IsWanted (all_joined os) key d slice) (sym none)
            (wanted_alike held.0 (all_joined os) key alike None slice held.3),
        told_is,
      )

-- ---- one index

pub extracted_alone : {I P : Type 0} (input : Reader I) (archive : Reader P) (o : Operations) (key : SliceKey)
    (digest : Option Digest) (slice told : List ℕ) → IsOwnIndex input archive o → IsKey key
    → MakesEntry (input ∷ []) (archive ∷ []) key digest slice told → IsWanted o key digest slice × (told ≡ slice_line slice)
extracted_alone input archive o key digest slice told own is_key makes =
    let is = extracted_by_entry (input ∷ []) (archive ∷ []) (o ∷ []) (own, tt) key digest slice told (tells_alone o) is_key makes in
    (subst (λ (made : Operations). IsWanted made key digest slice) (joined_alone o own.0.2.content.itself) is.0, is.1)

-- ---- rows

-- the row says of the slice what is so
record IsRowOfSlice (slice : List ℕ) (row : FindRow) : Type 0 where
  is_key : IsKey row.key
  key_is : key_bytes row.key ≡ key_bytes (key_of slice)
  digest_is : row.digest.0 ≡ sha256 slice
  state_is : row.state ≡ state_of slice

row_so : (os : List Operations) (texts : List (List ℕ)) (all : List (List (List ℕ))) (key : SliceKey) (x : EntryAt) (slice : List ℕ) (row : FindRow)
    → IsAnsweringSlice os texts all key x slice → IsRowAt x row → IsRowOfSlice slice row
row_so os texts all key x slice row is told = record {
  is_key = told.is_key;
  key_is = told.key_is ∙ key_in x.entry (key_bytes (key_of slice)) (sha256 slice) (length-key_of slice is.of.is.valid) is.of.is.prefix;
  digest_is = told.digest_is ∙ is.of.is.is.digest_is;
  state_is = told.state_is ∙ ap (λ (b : Bool). if b then Dsym else Image) is.of.is.kind;
}

row_is : (slice : List ℕ) (row : FindRow) → IsRowOfSlice slice row → IsKey (key_of slice) → row ≡ slice_row slice
row_is slice row is slice_key =
    let key : row.key ≡ key_of slice = same_key row.key (key_of slice) is.is_key slice_key is.key_is in
    let digest = is.digest_is in
    let state = is.state_is in
    λ i. record { key = key i; digest = record { 0 = digest i }; state = state i }

rows_same : (ss : List (List ℕ)) (rows : List FindRow) → AllZip IsRowOfSlice ss rows
    → ((s : List ℕ) → Contains ss s → IsKey (key_of s)) → rows ≡ map slice_row ss
rows_same [] [] all keys = refl
rows_same (s ∷ ss) (row ∷ rows) all keys =
    let first : row ≡ slice_row s = row_is s row all.0 (keys s (in_front s ss)) in
    let more : rows ≡ map slice_row ss = rows_same ss rows all.1 (λ t there. keys t (in_rest s ss t there)) in
    λ i. first i ∷ more i
rows_same ss rows all keys = absurd all

-- slices of which none is wanted, and that answer, are under the key
keys_so : (o : Operations) (key : SliceKey) (digest : Option Digest) (slices : List (List ℕ)) → IsKey key
    → AreUndecided o key digest slices → (s : List ℕ) → Contains slices s → IsKey (key_of s)
keys_so o key None slices is_key are s there = subst IsKey (sym ((are.0.exactly s).0 there).live.under) is_key
keys_so o key (Some digest) [] is_key are s there = absurd (omega (arith, there.1))
keys_so o key (Some digest) (t ∷ ts) is_key are s there = cc (are.0)

-- ---- no slice is wanted

-- none is live that has the digest
none_live : (os : List Operations) (texts : List (List ℕ)) (all : List (List (List ℕ))) (key : SliceKey) (digest : Digest) → AreIndexes os texts all → IsKey key
    → ((x : EntryAt) → LivesAmong (key_bytes key) digest.0 all x → ⊥) → (slice : List ℕ) → IsLive (all_joined os) key slice → sha256 slice ≡ digest.0 → ⊥
none_live os texts all key digest files is_key none slice live same =
    let x = entry_if_live os texts all files key is_key slice live in
    none x.0 (record { among = x.1; lives = lives_then os texts all files key is_key x.0 slice x.2 live; digest_is = x.2.is.is.digest_is ∙ same })

undecided_of : (os : List Operations) (texts : List (List ℕ)) (all : List (List (List ℕ))) (key : SliceKey)
    (digest : Option Digest) (xs : List EntryAt) (rows : List FindRow) (told : List ℕ) → AreIndexes os texts all
    → IsKey key → DigestsDiffer os
    → AreUnchosen key digest all xs → AllZip IsRowAt xs rows → told ≡ find_lines rows → TellsUndecided (all_joined os) key digest told
undecided_of os texts all key None xs rows told files is_key tell are rows_are told_is =
    let right = slices_right os texts all files key is_key xs tell are.0 in
    let undecided : AreUndecided (all_joined os) key None right.0 =
    (right.2, λ one. are.1 (omega (arith, one, AllZip-long (IsAnsweringSlice os texts all key) xs right.0 right.1))) in
    record {
      slices = right.0;
      undecided = undecided;
      told_is = told_is ∙ ap find_lines (rows_same right.0 rows
          (zip_through (IsAnsweringSlice os texts all key) IsRowAt IsRowOfSlice xs right.0 rows (row_so os texts all key) right.1 rows_are)
          (keys_so (all_joined os) key None right.0 is_key undecided));
    }
undecided_of os texts all key (Some digest) xs rows told files is_key tell are rows_are told_is = record {
  slices = [];
  undecided = (refl, none_live os texts all key digest files is_key are.1);
  told_is = told_is ∙ ap find_lines (zip_empty IsRowAt xs rows are.0 rows_are);
}

module _ {I P : Type 0} (inputs : List (Reader I)) (archives : List (Reader P)) (os : List Operations) (given : AreIndexesGiven inputs os) where
  pub undecided_by_entries : (key : SliceKey) (digest : Option Digest) (told : List ℕ) → DigestsDiffer os → IsKey key
      → LacksEntry inputs archives key digest told → TellsUndecided (all_joined os) key digest told
  undecided_by_entries key digest told tell is_key lacks =
      let its_texts = texts_of inputs os given in
      let p = parts_are (key.uuid ∷ []) inputs archives lacks.all lacks.read os its_texts.texts its_texts.given its_texts.files in
      undecided_of os its_texts.texts p.whole key digest lacks.answering lacks.rows told p.indexes is_key tell
      (unchosen_whole key is_key p.whole lacks.all p.parts digest lacks.answering lacks.are) lacks.rows_are lacks.told_is

  pub undecided_with_digest : (key : SliceKey) (digest : Digest) (told : List ℕ) → IsKey key
      → LacksEntry inputs archives key (Some digest) told → AreUndecided (all_joined os) key (Some digest) []
      × (told ≡ slices_text [])
  undecided_with_digest key digest told is_key lacks =
      let its_texts = texts_of inputs os given in
      let p = parts_are (key.uuid ∷ []) inputs archives lacks.all lacks.read os its_texts.texts its_texts.given its_texts.files in
      let are = unchosen_whole key is_key p.whole lacks.all p.parts (Some digest) lacks.answering lacks.are in
      let no_rows = zip_empty IsRowAt lacks.answering lacks.rows lacks.are.0 lacks.rows_are in
      ((refl, none_live os its_texts.texts p.whole key digest p.indexes is_key are.1), lacks.told_is ∙ ap find_lines no_rows)

-- also where entries are tied
pub undecided_either : {I P : Type 0} (inputs : List (Reader I)) (archives : List (Reader P)) (os : List Operations)
    (key : SliceKey) (digest : Option Digest) (draft : Writer) (told : List ℕ) → AreOwnIndexes inputs archives os
    → DigestsDiffer os → IsKey key
    → (extract_at inputs archives key digest draft).Lacks told → TellsUndecided (all_joined os) key digest told
undecided_either inputs archives os key digest draft told own tell is_key (inl lacks) =
    undecided_by_entries inputs archives os (first_third IsOwnIndex IsIndexGiven inputs archives os (λ x y z is. is.0) own) key digest told tell is_key lacks
undecided_either inputs archives os key digest draft told own tell is_key (inr (none, (slices, held, told_is))) =
    let indexed = indexed_own inputs archives os own in
    let alike = held_alike (key.uuid ∷ []) (key_bytes key ∷ []) inputs archives os held.0 ((short_key key is_key, own_uuid key), tt) indexed
    held.1 (key_bytes key) (0, omega arith, refl) in
    record {
      slices = slices;
      undecided = subst (λ (d : Option Digest). AreUndecided (all_joined os) key d slices) (sym none)
          (undecided_alike held.0 (all_joined os) key alike None slices held.3);
      told_is = told_is;
    }

-- ---- one index

pub undecided_alone : {I P : Type 0} (input : Reader I) (archive : Reader P) (o : Operations) (key : SliceKey)
    (digest : Option Digest) (told : List ℕ) → IsIndexGiven input o → IsKey key
    → LacksEntry (input ∷ []) (archive ∷ []) key digest told → TellsUndecided o key digest told
undecided_alone input archive o key digest told given is_key lacks =
    subst (λ (made : Operations). TellsUndecided made key digest told) (joined_alone o given.2.content.itself)
    (undecided_by_entries (input ∷ []) (archive ∷ []) (o ∷ []) (given, tt) key digest told (tells_alone o) is_key lacks)
