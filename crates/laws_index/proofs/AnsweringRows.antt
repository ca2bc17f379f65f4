-- The rows of the entries that answer are those of the slices that answer.
use Rattle.std.proofs.Common.{◌≡◌, ℕ, Bool, true, false, cond, not, ◌||◌, List, ◌∷◌, ◌++◌, length, take, drop, get_or}
use Rattle.std.proofs.Common.{Contains, refl, sym, ap, ◌∙◌, subst, inl, inr, arith}
use Rattle.std.specs.Int.{w64, to_be_bytes}
use Rattle.std.proofs.lemmas.Bool.{and_parts}
use Rattle.sha2.specs.Sha256.{sha256}
use Rattle.macho_image.specs.Contents.{is_dsym_image}
use Rattle.archive_core.specs.Content.{IsContent, IsLive, Operations}
use Rattle.archive_core.specs.Key.{IsKey, key_bytes}
use Rattle.archive_core.specs.Record.{admission, admission_record}
use Rattle.archive_core.specs.Valid.{IsValid, key_of}
use Rattle.archive_core.specs.declared.find.FindRow.{FindRow}
use Rattle.archive_core.specs.declared.find.FindState.{FindState}
use Rattle.archive_core.specs.declared.find.FindState.TheVariants.{Image, Dsym}
use Rattle.archive_core.specs.declared.keys.SliceKey.{SliceKey}
use Rattle.archive_core.proofs.Compare.{length_key_bytes}
use Rattle.archive_core.proofs.Entries.{slice_of}
use Rattle.archive_core.proofs.Records.{length-key_of, one_key as same_key, same_parts}
use Rattle.text_reports.specs.Slices.{TellsSlices}
use Rattle.index_format.specs.Entry.{dsym_byte, tag_byte}
use Rattle.index_lookup.specs.Among.{all_of, answers_among, has_live_companion, lives_under}
use Rattle.index_lookup.specs.Told.{is_companion}
use Rattle.command_common.specs.declared.faults.Status.{Status}
use Rattle.command_queries.specs.Slices.{IsAnsweringRow, WithSlices}
use Rattle.command_given_indexes.specs.Rows.{IsEntryRow}
use Rattle.command_frames.specs.Slices.{IsAnsweringEntryRow}
use Rattle.laws_index.specs.Indexes.{AreIndexes, all_joined}
use Rattle.laws_index.proofs.Among.{IsOfSlice, admission_if, answers_if, answers_then, content, entry_for, entry_of}
use Rattle.laws_index.proofs.Among.{from_all, of_record, slice_of_entry, to_all}
use Rattle.laws_index.proofs.Joined.{there_if_live}
use Rattle.laws_index.proofs.OfContent.{IsEntryOf, key_in, tag_of}

-- ---- the row of an entry of a slice

admitted_state : (s : FindState) (b : Bool) → tag_byte s ≡ 2 → dsym_byte s ≡ cond b 1 0 → s ≡ cond b Dsym Image
admitted_state s b t k = grind arith

tag_admitted : (b : Bool) → tag_byte (cond b Dsym Image) ≡ 2
tag_admitted true = refl
tag_admitted false = refl

dsym_admitted : (b : Bool) → dsym_byte (cond b Dsym Image) ≡ cond b 1 0
dsym_admitted true = refl
dsym_admitted false = refl

kind_number : (text slice e : List ℕ) → IsValid slice → IsEntryOf text (admission_record slice) e → get_or e 57 0 ≡ cond (is_dsym_image slice) 1 0
kind_number text slice e valid of = of.kind ∙ ap (λ (t : List ℕ). cond (is_dsym_image t) 1 0) (slice_of slice valid)

-- what is live under a key whose UUID has 16 bytes is a slice
valid_if_live : (o : Operations) (key : SliceKey) (slice : List ℕ) → IsContent o → length key.uuid ≡ 16 → IsLive o key slice → IsValid slice
unfolding admission
valid_if_live o key slice content long_uuid live = elim (content.records (admission_record slice) live.admitted) [
  | inl admits ↦
      let long : length (key_bytes (key_of slice)) ≡ 24 = length_key_bytes (key_of slice) (ap (λ k. length k.uuid) live.under ∙ long_uuid) in
      let same : admission slice ≡ admission admits.slice = cc (admits.is) in
      let behind_key = (same_parts (key_bytes (key_of slice)) (key_bytes (key_of admits.slice)) _ _
      (long ∙ sym (length-key_of admits.slice admits.valid)) same).1 in
      subst IsValid (sym (same_parts (to_be_bytes w64 (length slice)) (to_be_bytes w64 (length admits.slice)) slice
      admits.slice refl behind_key).1) admits.valid
  | inr retires ↦ cc (retires.is)
]

module _ (os : List Operations) (texts : List (List ℕ)) (all : List (List (List ℕ))) (files : AreIndexes os texts all) (keys : List SliceKey)
    (long : (key : SliceKey) → Contains keys key → length key.uuid ≡ 16) where
  to_slice : (row : FindRow) → IsAnsweringEntryRow all keys row → IsAnsweringRow (all_joined os) keys row
  to_slice row a =
      let x = from_all os texts all a.entry a.among in
      let answers : answers_among (key_bytes row.key) (all_of all) x.0.entry
      ≡ true = subst (λ (e : List ℕ). answers_among (key_bytes row.key) (all_of all) e ≡ true) (sym x.2) a.answers
      in
      let told : IsEntryRow x.0.entry row = subst (λ (e : List ℕ). IsEntryRow e row) (sym x.2) a.is_row in
      let is_key = a.is_row.is_key in
      let lives = (and_parts (lives_under (key_bytes row.key) (all_of all) x.0.entry)
      (not (has_live_companion (key_bytes row.key) (all_of all)) || is_companion x.0.entry) answers).0 in
      let slice = slice_of_entry os texts all files x.0 x.1 (admission_if os texts all files row.key is_key x.0 lives) in
      let s = slice.0 in
      let of = slice.1.is in
      let key : row.key ≡ key_of s = same_key row.key (key_of s) is_key of.is_key
      (told.key_is ∙ key_in x.0.entry (key_bytes (key_of s)) (sha256 s) (length-key_of s of.valid) of.prefix) in
      let digest : row.digest.0 ≡ sha256 s = told.digest_is ∙ of.is.digest_is in
      let state : row.state ≡ cond (is_dsym_image s) Dsym Image =
      admitted_state row.state (is_dsym_image s) (told.tag_is
      ∙ tag_of x.0.entry (2 ∷ (key_bytes (key_of s) ++ sha256 s)) of.prefix)
      (told.kind_is ∙ kind_number slice.1.of.text s x.0.entry of.valid (entry_of os texts all x.0 (admission_record s) slice.1.of)) in
      record {
        slice = s;
        answers = answers_if os texts all files row.key is_key x.0 s slice.1 answers;
        row_is = λ i. record { key = key i; digest = record { 0 = digest i }; state = state i };
        asked = a.asked;
      }

  from_slice : (row : FindRow) → IsAnsweringRow (all_joined os) keys row → IsAnsweringEntryRow all keys row
  from_slice row a =
      let s = a.slice in
      let live = a.answers.live in
      let uuid : length row.key.uuid ≡ 16 = ap length (sym a.asked.2) ∙ long a.asked.0 a.asked.1 in
      let valid = valid_if_live (all_joined os) row.key s (content os texts all files) uuid live in
      let x = entry_for os texts all files (admission_record s) (there_if_live os row.key s live) in
      let of : IsOfSlice os texts all x.0 s = of_record os texts all x.0 s valid x.2 in
      let is_key : IsKey row.key = subst IsKey live.under of.is.is_key in
      let e = x.0.entry in
      let key : key_bytes (key_of s) ≡ take 24 (drop 1 e) = sym (key_in e (key_bytes (key_of s)) (sha256 s) (length-key_of s valid) of.is.prefix) in
      record {
        entry = e;
        among = to_all os texts all x.0 x.1;
        answers = answers_then os texts all files row.key is_key x.0 s of a.answers;
        is_row = record {
          is_key = is_key;
          key_is = ap key_bytes (sym live.under) ∙ key;
          digest_is = ap (λ (r : FindRow). r.digest.0) a.row_is ∙ sym of.is.is.digest_is;
          tag_is = ap (λ (r : FindRow). tag_byte r.state) a.row_is ∙ tag_admitted (is_dsym_image s)
              ∙ sym (tag_of e (2 ∷ (key_bytes (key_of s) ++ sha256 s)) of.is.prefix);
          kind_is = ap (λ (r : FindRow). dsym_byte r.state) a.row_is ∙ dsym_admitted (is_dsym_image s)
              ∙ sym (kind_number of.of.text s e valid (entry_of os texts all x.0 (admission_record s) of.of));
        };
        asked = a.asked;
      }

  -- the lines of slices are the same
  pub lines_told : (text : List ℕ) → TellsSlices (IsAnsweringEntryRow all keys) keys text → TellsSlices (IsAnsweringRow (all_joined os) keys) keys text
  lines_told text t = record {
    rows = t.rows;
    absent = t.absent;
    ascending = t.ascending;
    exactly = λ row. (λ there. to_slice row ((t.exactly row).0 there), λ is. (t.exactly row).1 (from_slice row is));
    absent_ascending = t.absent_ascending;
    absent_exactly = λ key. (
      λ there. let a = (t.absent_exactly key).0 there in (a.0, λ row is. a.1 row (from_slice row is)),
      λ a. (t.absent_exactly key).1 (a.0, λ row is. a.1 row (to_slice row is)),
    );
    text_is = t.text_is;
  }

-- answers with the lines of slices after them are the same
pub with_slices_told : (os : List Operations) (texts : List (List ℕ)) (all : List (List (List ℕ)))
    → AreIndexes os texts all → (keys : List SliceKey) (slices : Bool)
    → (slices ≡ true → (key : SliceKey) → Contains keys key → length key.uuid ≡ 16)
    → (Tells Others : Status → List ℕ → Type 0) → ((status : Status) (text : List ℕ) → Tells status text
    → Others status text) → (status : Status) (text : List ℕ)
    → WithSlices slices Tells (IsAnsweringEntryRow all keys) keys status text → WithSlices slices Others (IsAnsweringRow (all_joined os) keys) keys status text
with_slices_told os texts all files keys false long Tells Others carried status text told = carried status text told
with_slices_told os texts all files keys true long Tells Others carried status text told = record {
  answers = told.answers;
  told = carried status told.answers told.told;
  slices = told.slices;
  tells_slices = lines_told os texts all files keys (long refl) told.slices told.tells_slices;
  text_is = told.text_is;
}
