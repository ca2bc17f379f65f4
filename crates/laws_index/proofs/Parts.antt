-- The entries that a question reads of the indexes of contents, among all of these.
use Rattle.std.proofs.Common.{◌≡◌, ℕ, ◌+◌, ◌<◌, ◌≤◌, ◌^◌, Bool, true, false, cond, List, [], ◌∷◌, ◌++◌, length, map, take, drop, length-append}
use Rattle.std.proofs.Common.{get_or, zero, suc, Contains, refl, sym, ap, ◌∙◌, subst, arith}
use Rattle.std.specs.Prelude.{filter}
use Rattle.std.specs.List.{AllZip, concat}
use Rattle.std.specs.Int.{w32, to_be_bytes}
use Rattle.std.specs.Str.{bytes_eq}
use Rattle.std.specs.Cmp.Lexicographic.{nat_list_cmp_total}
use mathlib.Core.Bool.{true≢false}
use Rattle.std.proofs.lemmas.List.{drop-take, take-take, take_at}
use Rattle.std.proofs.lemmas.Slice.Eq.{bytes_eq-Decides}
use Rattle.dwarf_source_frames.specs.Frames.{FrameRecord}
use Rattle.join_core.specs.Listing.{listing}
use Rattle.join_core.proofs.Listing.{listing_ascending}
use Rattle.table_checked_pages.specs.Pages.{stored}
use Rattle.archive_core.specs.Content.{Operations}
use Rattle.archive_core.specs.Key.{key_bytes}
use Rattle.archive_core.specs.Lookup.{AnswerRecord}
use Rattle.archive_core.specs.Part.{is_under}
use Rattle.archive_core.specs.declared.keys.SliceKey.{SliceKey}
use Rattle.archive_core.specs.declared.lookup.Where.{Where}
use Rattle.archive_core.proofs.Made.{by_test, bytes_same}
use Rattle.archive_records.specs.Text.{written}
use Rattle.archive_records.proofs.Contents.{InOrder-listing}
use Rattle.index_format.specs.Index.{index}
use Rattle.index_format.specs.Paged.{kept, only}
use Rattle.index_format.specs.Places.{entries_under}
use Rattle.index_format.specs.Text.{IsIndexText, archive_length_in, end_of, index_magic, placed_in}
use Rattle.index_format.specs.Tree.{AreReadUnder, MayHaveEntries, is_under_one}
use Rattle.index_format.proofs.MayHave.{may_have}
use Rattle.index_format.proofs.Sums.{text_length}
use Rattle.index_build.specs.Content.{entries_of, tables_text}
use Rattle.index_build.proofs.Accepted.{accepted}
use Rattle.index_build.proofs.Contents.{archive_long, near_all}
use Rattle.index_lookup.specs.Among.{AreAnsweringAmong, AreTied, EntryAt, IsAmong, all_of, answers_among}
use Rattle.index_lookup.specs.AmongTold.{IsAnswerAmong}
use Rattle.index_lookup.specs.Named.{LivesAmong}
use Rattle.index_lookup.specs.Told.{admits_under}
use Rattle.index_lookup.proofs.PartLemmas.{among_all, among_only, answering_all, answers_alike, living_all, living_only, tied_all}
use Rattle.laws_index.specs.Indexes.{AreIndexes, AreUnderOne, IsIndexFile}
use Rattle.laws_index.proofs.Joined.{to_any}
use Rattle.laws_index.proofs.PlacedIndex.{placed_index}

-- ---- the index of a content

module _ (o : Operations) (text : List ℕ) (file : IsIndexFile o text) where
  -- all of its entries
  abbrev pub whole_of : List (List ℕ)
  whole_of = entries_of (listing o) file.index.tables

  pub whole_read : IsIndexText text whole_of
  whole_read = accepted o text file.index file.content file.archive_fits file.index_fits

  pub whole_may : MayHaveEntries text whole_of
  whole_may = may_have text whole_of whole_read

  -- without their claims
  pub placed_whole : placed_in whole_of ≡ listing (index o)
  placed_whole =
      sym (listing_ascending nat_list_cmp_total bytes_same (placed_in whole_of) whole_may.apart)
      ∙ ap listing (placed_index o file.index.tables file.content file.index.each)

  -- the length of the archive
  pub length_told : archive_length_in text ≡ length (written o)
  length_told =
      let long = whole_may.numbers.length_is in
      let of : 8 + length (concat (listing o)) < 2 ^ 64 = omega (arith, text_length o, file.archive_fits) in
      let records = archive_long (listing o) file.index.tables (InOrder-listing o file.content)
      (near_all 8 8 (listing o) file.index.tables of room) file.index.each in
      omega (arith, long, records, text_length o)
    where
      room : 8 + length (tables_text file.index.tables) < 2 ^ 64
      room =
          let ts : List (List ℕ) = file.index.tables in
          let all : List ℕ = stored (concat whole_of) in
          omega (
            arith,
            file.index_fits,
            ap length file.index.text_is,
            length-append index_magic (tables_text ts ++ (all ++ end_of whole_of)),
            length-append (tables_text ts) (all ++ end_of whole_of),
          )

  -- what was read of it
  pub part_of : (uuids some : List (List ℕ)) → AreReadUnder uuids text some → some ≡ only (is_under_one uuids) whole_of
  part_of uuids some read = read whole_of whole_may

-- ---- several

-- of the entries of these indexes of contents those were read that are under these UUIDs
pub record AreParts (uuids : List (List ℕ)) (os : List Operations) (texts : List (List ℕ)) (all : List (List (List ℕ))) : Type 0 where
  pub whole : List (List (List ℕ))
  pub indexes : AreIndexes os texts whole
  pub parts : all ≡ map (only (is_under_one uuids)) whole

pub parts_of : (uuids : List (List ℕ)) (os : List Operations) (texts : List (List ℕ)) (all : List (List (List ℕ)))
    → AllZip IsIndexFile os texts → AllZip (AreReadUnder uuids) texts all → AreParts uuids os texts all
parts_of uuids [] [] [] files read = record { whole = []; indexes = record { files = tt; read = tt }; parts = refl }
parts_of uuids [] [] (es ∷ all) files read = absurd read
parts_of uuids [] (t ∷ texts) all files read = absurd files
parts_of uuids (o ∷ os) [] all files read = absurd files
parts_of uuids (o ∷ os) (t ∷ texts) [] files read = absurd read
parts_of uuids (o ∷ os) (t ∷ texts) (es ∷ all) files read =
    let rest = parts_of uuids os texts all files.1 read.1 in
    let one = part_of o t files.0 uuids es read.0 in
    record {
      whole = whole_of o t files.0 ∷ rest.whole;
      indexes = record { files = (files.0, rest.indexes.files); read = (whole_read o t files.0, rest.indexes.read) };
      parts = λ i. one i ∷ rest.parts i;
    }

-- ---- what answers under a prefix

module _ (uuids : List (List ℕ)) (prefix : List ℕ) (short : length prefix ≤ 24) (under : AreUnderOne uuids prefix)
    (whole all : List (List (List ℕ))) (parts : all ≡ map (only (is_under_one uuids)) whole) where
  brief : length prefix ≤ 56
  brief = omega (arith, short)

  pub answering_whole : (answering : List EntryAt) → AreAnsweringAmong prefix all answering → AreAnsweringAmong prefix whole answering
  answering_whole answering are = answering_all (is_under_one uuids) prefix brief under whole answering
      (subst (λ (xs : List (List (List ℕ))). AreAnsweringAmong prefix xs answering) parts are)

  pub tied_whole : AreTied prefix all → AreTied prefix whole
  tied_whole tied = tied_all (is_under_one uuids) prefix brief under whole (subst (λ (xs : List (List (List ℕ))). AreTied prefix xs) parts tied)

  pub told_whole : (texts : List (List ℕ)) (lines : Bool) (asked : Where) (answer : AnswerRecord) (frames : List (List FrameRecord))
      → IsAnswerAmong texts all prefix lines asked answer frames → IsAnswerAmong texts whole prefix lines asked answer frames
  told_whole texts lines asked answer frames is = record {
    answering = is.answering;
    are = answering_whole is.answering is.are;
    answer_is = is.answer_is;
    shown = is.shown;
  }

  pub living_whole : (digest : List ℕ) (x : EntryAt) → LivesAmong prefix digest all x → LivesAmong prefix digest whole x
  living_whole digest x lives = living_all (is_under_one uuids) prefix brief under digest whole x
      (subst (λ (xs : List (List (List ℕ))). LivesAmong prefix digest xs x) parts lives)

  pub living_part : (digest : List ℕ) (x : EntryAt) → LivesAmong prefix digest whole x → LivesAmong prefix digest all x
  living_part digest x lives = subst (λ (xs : List (List (List ℕ))). LivesAmong prefix digest xs x) (sym parts)
      (living_only (is_under_one uuids) prefix brief under digest whole x lives)

  pub answers_whole : (e : List ℕ) → answers_among prefix (all_of all) e ≡ answers_among prefix (all_of whole) e
  answers_whole e = ap (λ (xs : List (List (List ℕ))). answers_among prefix (all_of xs) e) parts
      ∙ answers_alike (is_under_one uuids) prefix brief under whole e

  pub among_whole : (x : EntryAt) → admits_under prefix x.entry ≡ true → IsAmong all x → IsAmong whole x
  among_whole x admits is = among_all (is_under_one uuids) prefix brief under whole x admits
      (subst (λ (xs : List (List (List ℕ))). IsAmong xs x) parts is)

  pub among_part : (x : EntryAt) → admits_under prefix x.entry ≡ true → IsAmong whole x → IsAmong all x
  among_part x admits is = subst (λ (xs : List (List (List ℕ))). IsAmong xs x) (sym parts)
      (among_only (is_under_one uuids) prefix brief under whole x admits is)

-- ---- the entries under a prefix

none_under : (prefix : List ℕ) → is_under prefix [] ≡ true → (e : List ℕ) → is_under prefix e ≡ true
unfolding is_under
none_under [] h e = refl
none_under (x ∷ xs) h e = absurd (true≢false (sym h))

-- no bytes are not under any
some_under : (prefix : List ℕ) → 0 < length prefix → is_under prefix [] ≡ true → ⊥
unfolding is_under
some_under [] some h = omega (arith, some)
some_under (x ∷ xs) some h = true≢false (sym h)

-- an entry that is, by its number, is that of the same number among all
pub at_kept : (passes : List ℕ → Bool) (prefix : List ℕ) → 0 < length prefix → (es : List (List ℕ)) (k : ℕ)
    → is_under prefix (get_or (placed_in (only passes es)) k []) ≡ true
    → get_or (placed_in (only passes es)) k [] ≡ get_or (placed_in es) k []
at_kept passes prefix some [] k h = refl
at_kept passes prefix some (e ∷ es) zero h = by_test _ (passes e)
    (λ yes. ap (λ (b : Bool). take 74 (cond b e [])) yes)
    (λ no. absurd (some_under prefix some (sym (ap (λ (b : Bool). is_under prefix (take 74 (cond b e []))) no) ∙ h)))
at_kept passes prefix some (e ∷ es) (suc k) h = at_kept passes prefix some es k h

-- the first bytes of an entry say whether it is
under_placed : (prefix e : List ℕ) → length prefix ≤ 24 → is_under prefix (take 74 e) ≡ is_under prefix e
unfolding is_under
under_placed prefix e short = ap (bytes_eq prefix)
    (ap (take (length prefix)) (drop-take 1 73 e) ∙ take-take (length prefix) 73 (drop 1 e) (omega (arith, short)))

module _ (passes : List ℕ → Bool) (prefix : List ℕ) (short : length prefix ≤ 24)
    (under : (e : List ℕ) → is_under prefix e ≡ true → passes e ≡ true) where
  not_under : (e : List ℕ) → passes e ≡ false → is_under prefix e ≡ false
  not_under e fails = by_test _ (is_under prefix e) (λ h. absurd (true≢false (sym (under e h) ∙ fails))) (λ h. h)

  under_kept : (e : List ℕ) (es : List (List ℕ)) → filter (is_under prefix) (take 74 (kept passes e) ∷ es) ≡ filter (is_under prefix) (take 74 e ∷ es)
  under_kept e es = by_test _ (passes e)
      (λ yes. ap (λ (b : Bool). filter (is_under prefix) (take 74 (cond b e []) ∷ es)) yes)
      (λ no.
      let empty : is_under prefix [] ≡ false = by_test _ (is_under prefix [])
      (λ h. absurd (true≢false (sym (none_under prefix h e) ∙ not_under e no))) (λ h. h) in
      ap (λ (b : Bool). filter (is_under prefix) (take 74 (cond b e []) ∷ es)) no
      ∙ ap (λ (b : Bool). cond b ([] ∷ filter (is_under prefix) es) (filter (is_under prefix) es)) empty
      ∙ sym (ap (λ (b : Bool). cond b (take 74 e ∷ filter (is_under prefix) es) (filter (is_under prefix) es))
      (under_placed prefix e short ∙ not_under e no)))

  pub under_only : (es : List (List ℕ)) → entries_under prefix (placed_in (only passes es)) ≡ entries_under prefix (placed_in es)
  under_only [] = refl
  under_only (e ∷ es) =
      under_kept e (placed_in (only passes es))
      ∙ ap (λ (fs : List (List ℕ)). cond (is_under prefix (take 74 e)) (take 74 e ∷ fs) fs) (under_only es)

-- ---- keys

-- what is under a key is under its UUID
under_uuid : (uuid rest : List ℕ) (e : List ℕ) → is_under (uuid ++ rest) e ≡ true → is_under uuid e ≡ true
unfolding is_under
under_uuid uuid rest e h =
    let bytes : List ℕ = drop 1 e in
    let all : uuid ++ rest ≡ take (length (uuid ++ rest)) bytes = (bytes_eq-Decides (uuid ++ rest) (take (length (uuid ++ rest)) bytes)).0 h in
    let front : uuid ≡ take (length uuid) bytes = sym (take_at uuid rest (length uuid) refl) ∙ ap (take (length uuid)) all
    ∙ take-take (length uuid) (length (uuid ++ rest)) bytes (omega (arith, length-append uuid rest)) in
    (bytes_eq-Decides uuid (take (length uuid) bytes)).1 front

pub key_under : (uuids : List (List ℕ)) (key : SliceKey) → Contains uuids key.uuid → AreUnderOne uuids (key_bytes key)
unfolding key_bytes
key_under uuids key there = λ e h.
    to_any (λ (uuid : List ℕ). is_under uuid e) uuids key.uuid there
    (under_uuid key.uuid (to_be_bytes w32 key.arch.cputype ++ to_be_bytes w32 key.arch.cpusubtype) e h)

pub uuid_under : (uuids : List (List ℕ)) (uuid : List ℕ) → Contains uuids uuid → AreUnderOne uuids uuid
uuid_under uuids uuid there = λ e h. to_any (λ (u : List ℕ). is_under u e) uuids uuid there h
