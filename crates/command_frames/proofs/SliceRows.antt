-- The rows of entries under UUIDs, and those of the entries that answer.
use Rattle.std.proofs.Common.{◌≡◌, ◌≢◌, ℕ, ◌+◌, ◌<◌, Bool, true, not, ◌&&◌, ◌||◌, List, [], ◌∷◌}
use Rattle.std.proofs.Common.{◌++◌, length, take, drop, get_or, refl, sym, ap, ◌∙◌, subst, inl, inr, arith, eqb}
use Rattle.std.proofs.Common.{take-append-drop}
use Rattle.std.specs.List.{All, Contains, list_any}
use Rattle.std.specs.Str.{bytes_eq}
use Rattle.std.proofs.Math.Seq.{take-append_seam}
use Rattle.std.proofs.lemmas.Bool.{and_from, and_parts, false_from_ne_true, not-true, not_from_false, or_cases, or_left, or_right, true≢false}
use Rattle.std.proofs.lemmas.Bool.Decides.{Decides-eqb}
use Rattle.std.proofs.lemmas.List.{drop-take, flat_map_more, take-take, take_more}
use Rattle.std.proofs.lemmas.List.Elements.{All-more}
use Rattle.std.proofs.lemmas.List.Folds.{Any-from_list_any, list_any-from_Any, list_any_more}
use Rattle.std.proofs.lemmas.Slice.Eq.{bytes_eq-Decides}
use Rattle.archive_core.specs.Content.{is_admission}
use Rattle.archive_core.specs.Key.{key_bytes}
use Rattle.archive_core.specs.Part.{is_under}
use Rattle.archive_core.specs.declared.find.FindRow.{FindRow}
use Rattle.archive_core.specs.declared.find.FindState.{FindState}
use Rattle.archive_core.specs.declared.find.FindState.TheVariants.{Retired, Image, Dsym}
use Rattle.archive_core.specs.declared.keys.SliceKey.{SliceKey}
use Rattle.archive_core.proofs.Compare.{length_key_bytes}
use Rattle.archive_core.proofs.Records.{one_key, same_parts}
use Rattle.text_reports.specs.Slices.{AnswersAmong, HasNoCompanionAmong, IsRetiredAmong, LivesAmong, TellsSlices}
use Rattle.index_format.specs.Entry.{dsym_byte, tag_byte}
use Rattle.index_lookup.specs.Among.{all_of, covers, has_live_companion, lives_under, subject_of}
use Rattle.index_lookup.specs.Told.{admits_under, is_companion}
use Rattle.command_queries.specs.Slices.{AreUuidsOf}
use Rattle.index_format.specs.Tree.{is_under_one}
use Rattle.command_given_indexes.specs.Rows.{AreRowsAmong, IsEntryRow}
use Rattle.command_given_indexes.proofs.RowsAmong.{rows_both, rows_either}
use Rattle.command_frames.specs.Slices.{IsAnsweringEntryRow}

-- ---- what an entry says, and its row

retired_by : (s : FindState) → tag_byte s ≡ 1 → s ≡ Retired
retired_by s t = grind arith

retired_tag : (s : FindState) → s ≡ Retired → tag_byte s ≡ 1
retired_tag s e = ap tag_byte e

admitted_tag : (s : FindState) → s ≢ Retired → tag_byte s ≡ 2
admitted_tag Retired n = absurd (n refl)
admitted_tag Image n = refl
admitted_tag Dsym n = refl

not_retired : (s : FindState) → tag_byte s ≡ 2 → s ≢ Retired
not_retired s t e = let one = ap tag_byte e in omega (arith, t, one)

companion_by : (s : FindState) → dsym_byte s ≡ 1 → s ≡ Dsym
companion_by s k = grind arith

same_state : (a b : FindState) → tag_byte a ≡ tag_byte b → dsym_byte a ≡ dsym_byte b → a ≡ b
same_state a b t k = grind arith

is_number : (a b : ℕ) → a ≡ b → eqb a b ≡ true
is_number a b e = (Decides-eqb a b).1 e

number_is : (a b : ℕ) → eqb a b ≡ true → a ≡ b
number_is a b t = (Decides-eqb a b).0 t

split_front : (n m : ℕ) (xs : List ℕ) → take (n + m) xs ≡ take n xs ++ take m (drop n xs)
split_front n m xs =
    sym (take-append-drop n (take (n + m) xs))
    ∙ (λ i. take-take n (n + m) xs (omega arith) i ++ drop-take n m xs i)

behind_tag : (e : List ℕ) → drop 24 (drop 1 e) ≡ drop 25 e
behind_tag [] = refl
behind_tag (x ∷ e) = refl

-- the bytes of an entry after its tag are the key and the digest of its row
module _ (e : List ℕ) (row : FindRow) (is : IsEntryRow e row) where
  subject_is : subject_of e ≡ key_bytes row.key ++ row.digest.0
  subject_is = split_front 24 32 (drop 1 e) ∙ (λ i. sym is.key_is i ++ (ap (take 32) (behind_tag e) ∙ sym is.digest_is) i)

  key_long : length (key_bytes row.key) ≡ 24
  key_long = length_key_bytes row.key is.is_key.uuid

  under_own : is_under (key_bytes row.key) e ≡ true
  unfolding is_under
  under_own = (bytes_eq-Decides (key_bytes row.key) (take (length (key_bytes row.key)) (drop 1 e))).1
      (is.key_is ∙ ap (λ (n : ℕ). take n (drop 1 e)) (sym key_long))

  -- its UUID is the first sixteen of them
  uuid_front : take 16 (key_bytes row.key) ≡ row.key.uuid
  unfolding key_bytes
  uuid_front = ap (λ (n : ℕ). take n (key_bytes row.key)) (sym is.is_key.uuid) ∙ take-append_seam row.key.uuid _

  uuid_is : take 16 (drop 1 e) ≡ row.key.uuid
  uuid_is = sym (take-take 16 24 (drop 1 e) (omega arith)) ∙ ap (take 16) (sym is.key_is) ∙ uuid_front

  under_uuid : is_under row.key.uuid e ≡ true
  unfolding is_under
  under_uuid = (bytes_eq-Decides row.key.uuid (take (length row.key.uuid) (drop 1 e))).1 (sym uuid_is ∙ ap (λ (n : ℕ). take n (drop 1 e)) (sym is.is_key.uuid))

-- an entry under sixteen bytes begins with them
begins_with : (u e : List ℕ) → length u ≡ 16 → is_under u e ≡ true → u ≡ take 16 (drop 1 e)
unfolding is_under
begins_with u e long under = (bytes_eq-Decides u (take (length u) (drop 1 e))).0 under ∙ ap (λ (n : ℕ). take n (drop 1 e)) long

under_by : (u e : List ℕ) → length u ≡ 16 → u ≡ take 16 (drop 1 e) → is_under u e ≡ true
unfolding is_under
under_by u e long is = (bytes_eq-Decides u (take (length u) (drop 1 e))).1 (is ∙ ap (λ (n : ℕ). take n (drop 1 e)) (sym long))

-- an entry under the bytes of a key has them
key_in : (key : SliceKey) (e : List ℕ) → length (key_bytes key) ≡ 24 → is_under (key_bytes key) e ≡ true → key_bytes key ≡ take 24 (drop 1 e)
unfolding is_under
key_in key e long under = (bytes_eq-Decides (key_bytes key) (take (length (key_bytes key)) (drop 1 e))).0 under ∙ ap (λ (n : ℕ). take n (drop 1 e)) long

-- an entry has one row
same_row : (e : List ℕ) (a b : FindRow) → IsEntryRow e a → IsEntryRow e b → a ≡ b
same_row e a b is_a is_b =
    let key : a.key ≡ b.key = one_key a.key b.key is_a.is_key is_b.is_key (is_a.key_is ∙ sym is_b.key_is) in
    let digest : a.digest.0 ≡ b.digest.0 = is_a.digest_is ∙ sym is_b.digest_is in
    let state : a.state ≡ b.state = same_state a.state b.state (is_a.tag_is ∙ sym is_b.tag_is) (is_a.kind_is ∙ sym is_b.kind_is) in
    λ i. record { key = key i; digest = record { 0 = digest i }; state = state i }

-- entries of one key and digest have such rows
same_slice : (e f : List ℕ) (a b : FindRow) → IsEntryRow e a → IsEntryRow f b → subject_of e ≡ subject_of f → (a.key ≡ b.key) × (a.digest ≡ b.digest)
same_slice e f a b is_a is_b same =
    let parts = same_parts (key_bytes a.key) (key_bytes b.key) a.digest.0 b.digest.0 (key_long e a is_a ∙ sym (key_long f b is_b))
    (sym (subject_is e a is_a) ∙ same ∙ subject_is f b is_b) in
    (one_key a.key b.key is_a.is_key is_b.is_key parts.0, λ i. record { 0 = parts.1 i })

-- and the other way round
same_subject : (e f : List ℕ) (a b : FindRow) → IsEntryRow e a → IsEntryRow f b → a.key ≡ b.key → a.digest ≡ b.digest → subject_of e ≡ subject_of f
same_subject e f a b is_a is_b key digest = subject_is e a is_a ∙ (λ i. key_bytes (key i) ++ (digest i).0) ∙ sym (subject_is f b is_b)

-- entries of one subject begin alike
same_front : (e f : List ℕ) → subject_of e ≡ subject_of f → take 16 (drop 1 e) ≡ take 16 (drop 1 f)
same_front e f same = sym (take-take 16 56 (drop 1 e) (omega arith)) ∙ ap (take 16) same ∙ take-take 16 56 (drop 1 f) (omega arith)

-- ---- tests of entries

has_any : (p : List ℕ → Bool) (es : List (List ℕ)) (e : List ℕ) → Contains es e → p e ≡ true → list_any p es ≡ true
has_any p es e (k, lt, at) is = list_any-from_Any p es (k, e, lt, at, is)

any_of : (p : List ℕ → Bool) (es : List (List ℕ)) → list_any p es ≡ true → (e : List ℕ) × Contains es e × (p e ≡ true)
any_of p es is = let any = Any-from_list_any p es is in (any.1, (any.0, any.2, any.3), any.4)

-- ---- rows that are pooled

module _ (uuids : List (List ℕ)) (keys : List SliceKey) (all : List (List (List ℕ))) (pool : List FindRow)
    (long : All (λ u. length u ≡ 16) uuids)
    (of_keys : AreUuidsOf keys uuids)
    (pooled : AreRowsAmong (is_under_one uuids) (all_of all) pool) where
  abbrev es : List (List ℕ)
  es = all_of all

  -- an entry with its row, under the UUID of a key
  record IsSought (e : List ℕ) (row : FindRow) : Type 0 where
    among : Contains es e
    is : IsEntryRow e row
    key : SliceKey
    key_is : Contains keys key
    uuid : key.uuid ≡ row.key.uuid

  long_of : (u : List ℕ) → Contains uuids u → length u ≡ 16
  long_of u (k, lt, at) = subst (λ (x : List ℕ). length x ≡ 16) at (long k u lt)

  sought_in : (row : FindRow) → Contains pool row → (e : List ℕ) × IsSought e row
  sought_in row there =
      let one = pooled.of_entries row there in
      let under = any_of (λ u. is_under u one.0) uuids one.2 in
      let key = (of_keys under.0).0 under.1 in (
        one.0,
        record {
          among = one.1;
          is = one.3;
          key = key.0;
          key_is = key.1;
          uuid = key.2 ∙ begins_with under.0 one.0 (long_of under.0 under.1) under.2 ∙ uuid_is one.0 row one.3;
        },
      )

  -- each entry that begins so has a row in the pool
  pooled_with : (key : SliceKey) (e : List ℕ) → Contains keys key → Contains es e → key.uuid ≡ take 16 (drop 1 e)
      → (row : FindRow) × Contains pool row × IsEntryRow e row
  pooled_with key e there among begins =
      let has = (of_keys key.uuid).1 (key, there, refl) in
      let under = under_by key.uuid e (long_of key.uuid has) begins in
      pooled.whole e among (list_any-from_Any (λ u. is_under u e) uuids (has.0, key.uuid, has.1, has.2, under))

  in_pool : (e : List ℕ) (row : FindRow) → IsSought e row → Contains pool row
  in_pool e row s =
      let one = pooled_with s.key e s.key_is s.among (s.uuid ∙ sym (uuid_is e row s.is)) in
      subst (Contains pool) (same_row e one.0 row one.2 s.is) one.1

  -- ---- retired

  retired_to : (e : List ℕ) (row : FindRow) → IsSought e row → list_any (covers e) es ≡ true → IsRetiredAmong pool row
  retired_to e row s covered =
      let r = any_of (covers e) es covered in
      let parts = and_parts (eqb (get_or r.0 0 0) 1) (bytes_eq (subject_of r.0) (subject_of e)) r.2 in
      let same : subject_of r.0 ≡ subject_of e = (bytes_eq-Decides (subject_of r.0) (subject_of e)).0 parts.1 in
      let other = pooled_with s.key r.0 s.key_is r.1 (s.uuid ∙ sym (uuid_is e row s.is) ∙ sym (same_front r.0 e same)) in
      let slice = same_slice r.0 e other.0 row other.2 s.is same in
      (other.0, other.1, retired_by other.0.state (other.2.tag_is ∙ number_is (get_or r.0 0 0) 1 parts.0), slice)

  retired_from : (e : List ℕ) (row : FindRow) → IsSought e row → IsRetiredAmong pool row → list_any (covers e) es ≡ true
  retired_from e row s (other, there, state, slice) =
      let r = sought_in other there in
      let same : subject_of r.0 ≡ subject_of e = same_subject r.0 e other row r.1.is s.is slice.0 slice.1 in
      let tag : get_or r.0 0 0 ≡ 1 = sym r.1.is.tag_is ∙ retired_tag other.state state in
      has_any (covers e) es r.0 r.1.among (and_from (eqb (get_or r.0 0 0) 1) (bytes_eq (subject_of r.0) (subject_of e))
      (is_number (get_or r.0 0 0) 1 tag) ((bytes_eq-Decides (subject_of r.0) (subject_of e)).1 same))

  -- ---- live

  abbrev lives : List ℕ → FindRow → Type 0
  lives e row = lives_under (key_bytes row.key) es e ≡ true

  lives_to : (e : List ℕ) (row : FindRow) → IsSought e row → lives e row → LivesAmong pool row
  lives_to e row s is =
      let parts = and_parts (admits_under (key_bytes row.key) e) (not (list_any (covers e) es)) is in
      let admitted = and_parts (is_admission e) (is_under (key_bytes row.key) e) parts.0 in (
        in_pool e row s,
        not_retired row.state (s.is.tag_is ∙ number_is (get_or e 0 0) 2 admitted.0),
        λ retired. true≢false (sym (retired_from e row s retired) ∙ not-true (list_any (covers e) es) parts.1),
      )

  lives_from : (e : List ℕ) (row : FindRow) → IsSought e row → LivesAmong pool row → lives e row
  lives_from e row s (there, admitted, uncovered) =
      and_from (admits_under (key_bytes row.key) e) (not (list_any (covers e) es))
      (and_from (is_admission e) (is_under (key_bytes row.key) e)
      (is_number (get_or e 0 0) 2 (sym s.is.tag_is ∙ admitted_tag row.state admitted)) (under_own e row s.is))
      (not_from_false (list_any (covers e) es) (false_from_ne_true (list_any (covers e) es) (λ covered. uncovered (retired_to e row s covered))))

  -- ---- companions

  companion_to : (e : List ℕ) (row : FindRow) → IsEntryRow e row → is_companion e ≡ true → row.state ≡ Dsym
  companion_to e row is kind = companion_by row.state (is.kind_is ∙ number_is (get_or e 57 0) 1 kind)

  companion_from : (e : List ℕ) (row : FindRow) → IsEntryRow e row → row.state ≡ Dsym → is_companion e ≡ true
  companion_from e row is state = is_number (get_or e 57 0) 1 (sym is.kind_is ∙ ap dsym_byte state)

  abbrev is_live_companion : List ℕ → List ℕ → Bool
  is_live_companion prefix e = lives_under prefix es e && is_companion e

  -- a companion that lives under the key of a row has a row in the pool
  has_to : (e : List ℕ) (row : FindRow) → IsSought e row → has_live_companion (key_bytes row.key) es ≡ true → HasNoCompanionAmong pool row → ⊥
  has_to e row s has none =
      let r = any_of (is_live_companion (key_bytes row.key)) es has in
      let parts = and_parts (lives_under (key_bytes row.key) es r.0) (is_companion r.0) r.2 in
      let live = and_parts (admits_under (key_bytes row.key) r.0) (not (list_any (covers r.0) es)) parts.0 in
      let under = (and_parts (is_admission r.0) (is_under (key_bytes row.key) r.0) live.0).1 in
      let bytes : key_bytes row.key ≡ take 24 (drop 1 r.0) = key_in row.key r.0 (key_long e row s.is) under in
      let begins : row.key.uuid ≡ take 16 (drop 1 r.0) = sym (uuid_front e row s.is) ∙ ap (take 16) bytes ∙ take-take 16 24 (drop 1 r.0) (omega arith) in
      let other = pooled_with s.key r.0 s.key_is r.1 (s.uuid ∙ begins) in
      let key : other.0.key ≡ row.key = one_key other.0.key row.key other.2.is_key s.is.is_key (other.2.key_is ∙ sym bytes) in
      let sought : IsSought r.0 other.0 = record {
        among = r.1;
        is = other.2;
        key = s.key;
        key_is = s.key_is;
        uuid =
            s.uuid ∙ ap (λ (k : SliceKey). k.uuid) (sym key);
      } in
      let lives_here : lives r.0 other.0 = subst (λ (k : SliceKey). lives_under (key_bytes k) es r.0 ≡ true) (sym key) parts.0 in
      none other.0 (lives_to r.0 other.0 sought lives_here) key (companion_to r.0 other.0 other.2 parts.1)

  has_from : (row other : FindRow) → LivesAmong pool other → other.key ≡ row.key → other.state ≡ Dsym → has_live_companion (key_bytes row.key) es ≡ true
  has_from row other live key state =
      let r = sought_in other live.0 in
      let lives_here : lives_under (key_bytes row.key) es r.0
      ≡ true = subst (λ (k : SliceKey). lives_under (key_bytes k) es r.0 ≡ true) key (lives_from r.0 other r.1 live)
      in
      has_any (is_live_companion (key_bytes row.key)) es r.0 r.1.among
      (and_from (lives_under (key_bytes row.key) es r.0) (is_companion r.0) lives_here
      (companion_from r.0 other r.1.is state))

  -- ---- answering

  answers_to : (row : FindRow) → AnswersAmong pool row → IsAnsweringEntryRow all keys row
  answers_to row (live, which) =
      let found = sought_in row live.0 in
      let e = found.0 in
      let s = found.1 in
      let one : (not (has_live_companion (key_bytes row.key) es) || is_companion e) ≡ true = elim which [
        | inl state ↦ or_right (not (has_live_companion (key_bytes row.key) es)) (is_companion e) (companion_from e row s.is state)
        | inr none ↦ or_left (not (has_live_companion (key_bytes row.key) es)) (is_companion e)
            (not_from_false (has_live_companion (key_bytes row.key) es)
            (false_from_ne_true (has_live_companion (key_bytes row.key) es) (λ has. has_to e row s has none)))
      ] in
      record {
        entry = e;
        among = s.among;
        answers = and_from (lives_under (key_bytes row.key) es e)
            (not (has_live_companion (key_bytes row.key) es) || is_companion e) (lives_from e row s live) one;
        is_row = s.is;
        asked = (s.key, s.key_is, s.uuid);
      }

  answers_from : (row : FindRow) → IsAnsweringEntryRow all keys row → AnswersAmong pool row
  answers_from row a =
      let s : IsSought a.entry row = record { among = a.among; is = a.is_row; key = a.asked.0; key_is = a.asked.1; uuid = a.asked.2 } in
      let parts = and_parts (lives_under (key_bytes row.key) es a.entry)
      (not (has_live_companion (key_bytes row.key) es) || is_companion a.entry) a.answers in (
        lives_to a.entry row s parts.0,
        elim (or_cases (not (has_live_companion (key_bytes row.key) es)) (is_companion a.entry) parts.1) [
          | inl none ↦ inr (λ other live key state. true≢false
              (sym (has_from row other live key state) ∙ not-true (has_live_companion (key_bytes row.key) es) none))
          | inr companion ↦ inl (companion_to a.entry row a.is_row companion)
        ],
      )

  -- the lines of the pool are those of the entries that answer
  pub pool_tells : (text : List ℕ) → TellsSlices (AnswersAmong pool) keys text → TellsSlices (IsAnsweringEntryRow all keys) keys text
  pool_tells text t = record {
    rows = t.rows;
    absent = t.absent;
    ascending = t.ascending;
    exactly = λ row. (λ there. answers_to row ((t.exactly row).0 there), λ is. (t.exactly row).1 (answers_from row is));
    absent_ascending = t.absent_ascending;
    absent_exactly = λ key. (
      λ there. let a = (t.absent_exactly key).0 there in (a.0, λ row is. a.1 row (answers_from row is)),
      λ a. (t.absent_exactly key).1 (a.0, λ row is. a.1 row (answers_to row is)),
    );
    text_is = t.text_is;
  }

-- ---- rows of one index after another, and of one UUID after another

pub rows_none : (p : List ℕ → Bool) → AreRowsAmong p [] []
rows_none p = record { of_entries = λ row there. absurd (omega (arith, there.1)); whole = λ e there is. absurd (omega (arith, there.1)) }

pub rows_none_under : (es : List (List ℕ)) → AreRowsAmong (is_under_one []) es []
rows_none_under es = record { of_entries = λ row there. absurd (omega (arith, there.1)); whole = λ e there is. absurd (true≢false (sym is)) }

pub rows_more : (p : List ℕ → Bool) (all : List (List (List ℕ))) (i : ℕ) (entries : List (List ℕ))
    (rows more after : List FindRow) → i < length all → entries ≡ get_or all i entries
    → after ≡ rows ++ more → AreRowsAmong p (all_of (take i all)) rows → AreRowsAmong p entries more → AreRowsAmong p (all_of (take (i + 1) all)) after
rows_more p all i entries rows more after lt is grown first second =
    let seen : take (i + 1) all ≡ take i all ++ entries ∷ [] = take_more all i entries lt ∙ ap (λ (x : List (List ℕ)). take i all ++ x ∷ []) (sym is) in
    let flat : all_of (take (i + 1) all) ≡ all_of (take i all) ++ entries = ap all_of seen
    ∙ sym (flat_map_more (λ (x : List (List ℕ)). x) [] (take i all) entries) in
    subst (λ (es : List (List ℕ)). AreRowsAmong p es after) (sym flat)
    (subst (AreRowsAmong p (all_of (take i all) ++ entries)) (sym grown) (rows_both p (all_of (take i all)) entries rows more first second))

pub rows_either_more : (es uuids : List (List ℕ)) (i : ℕ) (uuid : List ℕ) (rows more after : List FindRow) → i < length uuids → uuid ≡ get_or uuids i uuid
    → after ≡ rows ++ more → AreRowsAmong (is_under_one (take i uuids)) es rows → AreRowsAmong (is_under uuid) es more
    → AreRowsAmong (is_under_one (take (i + 1) uuids)) es after
rows_either_more es uuids i uuid rows more after lt is grown first second =
    let each : (e : List ℕ) → is_under_one (take (i + 1) uuids) e ≡ (is_under_one (take i uuids) e || is_under uuid e) =
    λ e. list_any_more (λ (u : List ℕ). is_under u e) uuids i uuid lt ∙ ap (λ (u : List ℕ). is_under_one (take i uuids) e || is_under u e) (sym is) in
    subst (AreRowsAmong (is_under_one (take (i + 1) uuids)) es) (sym grown)
    (rows_either (is_under_one (take i uuids)) (is_under uuid) (is_under_one (take (i + 1) uuids)) es rows more first second
    (λ e there h. each e ∙ or_left (is_under_one (take i uuids) e) (is_under uuid e) h)
    (λ e there h. each e ∙ or_right (is_under_one (take i uuids) e) (is_under uuid e) h)
    (λ e there h. or_cases (is_under_one (take i uuids) e) (is_under uuid e) (sym (each e) ∙ h)))

pub longs_more : (uuids : List (List ℕ)) (i : ℕ) (uuid : List ℕ) → i < length uuids → uuid ≡ get_or uuids i uuid
    → All (λ u. length u ≡ 16) (take i uuids) → length uuid ≡ 16 → All (λ u. length u ≡ 16) (take (i + 1) uuids)
longs_more uuids i uuid lt is before long = All-more (λ (u : List ℕ). length u ≡ 16) uuids i uuid lt before (subst (λ (u : List ℕ). length u ≡ 16) is long)
