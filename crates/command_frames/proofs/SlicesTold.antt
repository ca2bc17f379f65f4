-- What is told of the slices under UUIDs: which records are read, and that what was kept tells what the join does.
use Rattle.std.proofs.Common.{◌≡◌, ℕ, ◌+◌, ◌<◌, Bool, true, List, [], ◌∷◌, ◌++◌}
use Rattle.std.proofs.Common.{length, map, take, drop, get_or, refl, sym, ap, ◌∙◌, subst, arith, length-append}
use Rattle.std.specs.Cmp.Lexicographic.{slice_cmp, nat_list_cmp_total}
use Rattle.std.specs.List.{All, AllByRecursion, AllZip, Contains, dedup}
use Rattle.std.specs.List.Sorted.{IsPermutation, IsSorted, IsSortedByKey, IsStrictlySortedBy}
use Rattle.std.specs.Ordering.{eq_by_cmp, is_eq, nat_cmp}
use Rattle.std.specs.Str.{bytes_eq}
use Rattle.std.specs.declared.cmp.Ordering.{Ordering}
use Rattle.std.specs.declared.cmp.Ordering.TheVariants.{Equal}
use Rattle.std.proofs.lemmas.Cmp.{eq_by_cmp_equiv}
use Rattle.std.proofs.lemmas.List.{flat_map_more, take-take, take_at, take_more}
use Rattle.std.proofs.lemmas.List.Elements.{All-contains}
use Rattle.std.proofs.lemmas.List.Folds.{list_any-from_Any}
use Rattle.std.proofs.lemmas.List.Kept.{Any-dedup, Contains-from_dedup, IsStrictlySortedBy-dedup}
use Rattle.std.proofs.lemmas.List.Sorted.{Contains-permutation, IsPermutation-sym}
use Rattle.std.proofs.lemmas.Slice.Eq.{bytes_eq-Decides}
use Rattle.archive_core.specs.Content.{Operations, IsContent, joined}
use Rattle.archive_core.specs.Find.{IsFinds}
use Rattle.archive_core.specs.Key.{IsKey, key_bytes}
use Rattle.archive_core.specs.Lookup.{answer_view}
use Rattle.archive_core.specs.Part.{AreAlikeUnder, is_under}
use Rattle.archive_core.specs.declared.find.FindRow.{FindRow}
use Rattle.archive_core.specs.declared.keys.SliceKey.{SliceKey}
use Rattle.archive_core.proofs.Made.{bytes_same, joined_content}
use Rattle.archive_core.proofs.Members.{in_front, in_map, in_rest, pairs_more, to_map}
use Rattle.archive_core.proofs.Compare.{length_key_bytes}
use Rattle.archive_core.proofs.Picked.{finds_alike}
use Rattle.archive_from_records.specs.Keys.{AnswersAs}
use Rattle.text_input_files.specs.declared.frame.Frame.{Frame}
use Rattle.text_reports.specs.Slices.{AnswersAmong, TellsSlices}
use Rattle.text_reports.proofs.Kept.{neighbours}
use Rattle.command_common.specs.declared.faults.Status.{Status}
use Rattle.command_common.specs.Archives.{HoldTogether, merged}
use Rattle.command_common.specs.Inputs.{Reader}
use Rattle.command_common.specs.Together.{AreAlikeWhere}
use Rattle.command_common.proofs.Alike.{answers_alike}
use Rattle.command_queries.specs.Frames.{IsFrameAnswered, TellsFrames}
use Rattle.command_queries.specs.Slices.{AreUuidsOf, IsAnsweringRow, TellsSlicesAfter}
use Rattle.command_frames.specs.InnerSlices.{AreRowsUnder, TellsRowsAfter, is_under_one}
use Rattle.command_queries.specs.Symbolicate.{Answered, asked_of}
use Rattle.command_frames.proofs.RowsAnswering.{answer_answers, answers_answer}
use Rattle.command_queries.proofs.AnswersWithFrames.{sourced_as}

-- ---- whether a record is under one of the UUIDs

pub uuid_picked : (uuids : List (List ℕ)) (uuid r : List ℕ) → Contains uuids uuid → length uuid ≡ 16 → is_under uuid r ≡ true → is_under_one uuids r ≡ true
unfolding is_under
uuid_picked uuids uuid r there long under =
    let same : bytes_eq uuid (take 16 (drop 1 r)) ≡ true = ap (λ (n : ℕ). bytes_eq uuid (take n (drop 1 r))) (sym long) ∙ under in
    list_any-from_Any (λ (one : List ℕ). bytes_eq one (take 16 (drop 1 r))) uuids (there.0, uuid, there.1, there.2, same)

-- what is under a longer front is under a shorter one
under_front : (front rest r : List ℕ) → is_under (front ++ rest) r ≡ true → is_under front r ≡ true
unfolding is_under
under_front front rest r under =
    let whole = (bytes_eq-Decides (front ++ rest) (take (length (front ++ rest)) (drop 1 r))).0 under in
    let cut : front ≡ take (length front) (drop 1 r) =
    sym (take_at front rest (length front) refl) ∙ ap (take (length front)) whole
    ∙ take-take (length front) (length (front ++ rest)) (drop 1 r) (omega (arith, length-append front rest)) in
    (bytes_eq-Decides front (take (length front) (drop 1 r))).1 cut

under_uuid : (key : SliceKey) (r : List ℕ) → is_under (key_bytes key) r ≡ true → is_under key.uuid r ≡ true
unfolding key_bytes
under_uuid key r under = under_front key.uuid _ r under

-- ---- the UUIDs of keys, each once

eq_true : (o : Ordering) → is_eq o ≡ true → o ≡ Equal
eq_true Equal e = refl
eq_true o e = absurd (cc e)

module _ (keys : List SliceKey) (uuids sorted kept : List (List ℕ))
    (each : uuids ≡ map (λ (key : SliceKey). key.uuid) keys) (moved : IsPermutation uuids sorted)
    (once : kept ≡ dedup (eq_by_cmp (slice_cmp nat_cmp)) sorted) where
  pub uuids_are : AreUuidsOf keys kept
  uuids_are = λ uuid. (
    λ there.
        let before = Contains-permutation sorted uuids uuid (IsPermutation-sym uuids sorted moved)
        (Contains-from_dedup (eq_by_cmp (slice_cmp nat_cmp)) sorted uuid (subst (λ (l : List (List ℕ)). Contains l uuid) once there)) in
        let one = in_map (λ (key : SliceKey). key.uuid) keys uuid (subst (λ (l : List (List ℕ)). Contains l uuid) each before) in
        (one.0, one.1, sym one.2),
    λ has.
        let before : Contains uuids uuid = subst (λ (l : List (List ℕ)). Contains l uuid) (sym each)
        (subst (Contains (map (λ (key : SliceKey). key.uuid) keys)) has.2
        (to_map (λ (key : SliceKey). key.uuid) keys has.0 has.1)) in
        let any = Any-dedup (eq_by_cmp_equiv nat_list_cmp_total) sorted uuid (Contains-permutation uuids sorted uuid moved before) in
        let other : Contains kept any.1 = subst (λ (l : List (List ℕ)). Contains l any.1) (sym once) (any.0, any.2, any.3) in
        subst (Contains kept) (sym (bytes_same uuid any.1 (eq_true _ any.4))) other,
  )

pub uuids_ascending : (sorted kept : List (List ℕ)) → IsSorted (slice_cmp nat_cmp) sorted → kept
    ≡ dedup (eq_by_cmp (slice_cmp nat_cmp)) sorted → IsStrictlySortedBy (slice_cmp nat_cmp) kept
uuids_ascending sorted kept up once =
    subst (IsStrictlySortedBy (slice_cmp nat_cmp)) (sym once) (IsStrictlySortedBy-dedup nat_list_cmp_total (λ x y. refl) sorted up)

pub uuids_sorted : (sorted kept : List (List ℕ)) → IsSorted (slice_cmp nat_cmp) sorted → kept
    ≡ dedup (eq_by_cmp (slice_cmp nat_cmp)) sorted → IsSortedByKey (λ (uuid : List ℕ). uuid) (slice_cmp nat_cmp) kept
uuids_sorted sorted kept up once =
    neighbours nat_list_cmp_total (λ (uuid : List ℕ). uuid) kept (uuids_ascending sorted kept up once)

-- one search more
pub search_more : (o : Operations) (uuids : List (List ℕ)) (i : ℕ) (uuid : List ℕ) (pool rows grown : List FindRow)
    → i < length uuids → uuid ≡ get_or uuids i uuid → IsFinds o uuid rows
    → grown ≡ pool ++ rows → AreRowsUnder o (take i uuids) pool → AreRowsUnder o (take (i + 1) uuids) grown
search_more o uuids i uuid pool rows grown within is finds grown_is before = record {
  lists = before.lists ++ rows ∷ [];
  finds = subst (λ (l : List (List ℕ)). AllZip (IsFinds o) l (before.lists ++ rows ∷ []))
      (sym (take_more uuids i uuid within ∙ ap (λ (u : List ℕ). take i uuids ++ u ∷ []) (sym is)))
      (pairs_more (IsFinds o) (take i uuids) before.lists uuid rows before.finds finds);
  pool_is = grown_is ∙ ap (λ (l : List FindRow). l ++ rows) before.pool_is ∙ flat_map_more (λ (l : List FindRow). l) [] before.lists rows;
}

-- ---- what was kept tells what the join does

merged_is : (o : Operations) (contents : List Operations) → IsContent o → AllByRecursion IsContent contents → IsContent (merged o contents)
merged_is o [] content are = content
merged_is o (p ∷ contents) content are = merged_is (joined o p) contents (joined_content o p content are.0) are.1

-- what is true of each content that is alike is true of the join
pub content_tells : {R S : Type 0} (archive : Reader R) (others : List (Reader S))
    (IsAlike IsTrue : Operations → Type 0) → ((o : Operations) → IsContent o → IsAlike o → IsTrue o)
    → HoldTogether archive others IsAlike → HoldTogether archive others IsTrue
content_tells archive others IsAlike IsTrue tells held = record {
  content = held.content;
  contents = held.contents;
  is_content = held.is_content;
  are_contents = held.are_contents;
  archive_is = held.archive_is;
  others_are = held.others_are;
  is_true = tells (merged held.content held.contents) (merged_is held.content held.contents held.is_content held.are_contents) held.is_true;
}

lists_alike : (o p : Operations) (uuids : List (List ℕ)) (lists : List (List FindRow))
    → ((uuid : List ℕ) → Contains uuids uuid → AreAlikeUnder uuid o p) → AllZip (IsFinds o) uuids lists
    → AllZip (IsFinds p) uuids lists
lists_alike o p [] [] alike all = tt
lists_alike o p (uuid ∷ uuids) (rows ∷ lists) alike all = (
  finds_alike o p uuid rows (alike uuid (in_front uuid uuids)) all.0,
  lists_alike o p uuids lists (λ other there. alike other (in_rest uuid uuids other there)) all.1,
)
lists_alike o p [] (rows ∷ lists) alike all = absurd all
lists_alike o p (uuid ∷ uuids) [] alike all = absurd all

rows_alike : (o p : Operations) (uuids : List (List ℕ)) (pool : List FindRow)
    → ((uuid : List ℕ) → Contains uuids uuid → AreAlikeUnder uuid o p) → AreRowsUnder o uuids pool
    → AreRowsUnder p uuids pool
rows_alike o p uuids pool alike rows = record { lists = rows.lists; finds = lists_alike o p uuids rows.lists alike rows.finds; pool_is = rows.pool_is }

answered_alike : (lines : Bool) (o p : Operations) (frames : List Frame) (rows : List Answered)
    → ((frame : Frame) → Contains frames frame → AnswersAs frame.key o p)
    → AllZip (IsFrameAnswered lines o) frames rows → AllZip (IsFrameAnswered lines p) frames rows
answered_alike lines o p [] [] alike all = tt
answered_alike lines o p (frame ∷ frames) (row ∷ rows) alike all = (
  (all.0.0, sourced_as o p frame.key lines (asked_of frame.load row.address) (answer_view row.answer) row.frames (alike frame (in_front frame frames)) all.0.1),
  answered_alike lines o p frames rows (λ other there. alike other (in_rest frame frames other there)) all.1,
)
answered_alike lines o p [] (row ∷ rows) alike all = absurd all
answered_alike lines o p (frame ∷ frames) [] alike all = absurd all

frames_alike : (lines : Bool) (o p : Operations) (frames : List Frame) (status : Status) (text : List ℕ)
    → ((frame : Frame) → Contains frames frame → AnswersAs frame.key o p)
    → TellsFrames lines o frames status text → TellsFrames lines p frames status text
frames_alike lines o p frames status text alike told = record {
  rows = told.rows;
  answered = answered_alike lines o p frames told.rows alike told.answered;
  status_is = told.status_is;
  text_is = told.text_is;
}

slices_same : (P Q : FindRow → Type 0) (keys : List SliceKey) (text : List ℕ) → ((row : FindRow) → P row → Q row)
    → ((row : FindRow) → Q row → P row) → TellsSlices P keys text → TellsSlices Q keys text
slices_same P Q keys text to from told = record {
  rows = told.rows;
  absent = told.absent;
  ascending = told.ascending;
  exactly = λ row. (λ there. to row ((told.exactly row).0 there), λ is. (told.exactly row).1 (from row is));
  absent_ascending = told.absent_ascending;
  absent_exactly = λ key. (
    λ there. let of = (told.absent_exactly key).0 there in (of.0, λ row is. of.1 row (from row is)),
    λ h. (told.absent_exactly key).1 (h.0, λ row is. h.1 row (to row is)),
  );
  text_is = told.text_is;
}

module _ (kept o : Operations) (keys : List SliceKey) (uuids : List (List ℕ)) (content : IsContent o) (keyed : All IsKey keys) (are : AreUuidsOf keys uuids)
    (alike : AreAlikeWhere (is_under_one uuids) kept o) where
  whole_uuid : (uuid : List ℕ) → Contains uuids uuid → length uuid ≡ 16
  whole_uuid uuid there =
      let one = (are uuid).0 there in
      let whole = All-contains IsKey keys one.0 keyed one.1 in
      ap length (sym one.2) ∙ whole.uuid

  under_one : (uuid : List ℕ) → Contains uuids uuid → AreAlikeUnder uuid kept o
  under_one uuid there =
      let long = whole_uuid uuid there in
      alike uuid (omega (arith, long)) (λ r under. uuid_picked uuids uuid r there long under)

  -- under each key they answer alike
  pub answers_of : (key : SliceKey) → Contains keys key → AnswersAs key kept o
  answers_of key there =
      let whole = All-contains IsKey keys key keyed there in
      let asked : Contains uuids key.uuid = (are key.uuid).1 (key, there, refl) in
      let long = length_key_bytes key whole.uuid in
      answers_alike kept o key (alike (key_bytes key) (omega (arith, long)) (λ r under. uuid_picked uuids key.uuid r asked whole.uuid (under_uuid key r under)))

  -- rows that were kept tell the slices that answer in the join
  pub tells_after : (Tells Told : Status → List ℕ → Type 0) (status : Status) (text : List ℕ)
      → ((answers : List ℕ) → Tells status answers → Told status answers)
      → TellsRowsAfter Tells kept uuids keys status text → TellsSlicesAfter Told (IsAnsweringRow o keys) keys status text
  tells_after Tells Told status text to after =
      let rows = rows_alike kept o uuids after.rows.pool under_one after.rows.rows in
      record {
        answers = after.answers;
        told = to after.answers after.told;
        slices = after.slices;
        tells_slices = slices_same (AnswersAmong after.rows.pool) (IsAnsweringRow o keys) keys after.slices
            (answers_answer o keys uuids after.rows.pool content keyed are rows)
            (answer_answers o keys uuids after.rows.pool content keyed are rows) after.rows.tells;
        text_is = after.text_is;
      }

-- the same of frames under these keys
pub frames_after : (lines : Bool) (kept o : Operations) (frames : List Frame) (keys : List SliceKey) (uuids : List (List ℕ)) (status : Status) (text : List ℕ)
    → IsContent o → ((frame : Frame) → Contains frames frame → Contains keys frame.key) → All IsKey keys → AreUuidsOf keys uuids
    → AreAlikeWhere (is_under_one uuids) kept o
    → TellsRowsAfter (TellsFrames lines kept frames) kept uuids keys status text
    → TellsSlicesAfter (TellsFrames lines o frames) (IsAnsweringRow o keys) keys status text
frames_after lines kept o frames keys uuids status text content under keyed are alike after =
    tells_after kept o keys uuids content keyed are alike (TellsFrames lines kept frames) (TellsFrames lines o frames) status text
    (λ answers told. frames_alike lines kept o frames status answers
    (λ frame there. answers_of kept o keys uuids content keyed are alike frame.key (under frame there)) told) after
