-- What is read of any bytes.
use Rattle.std.proofs.Common.{◌≡◌, ℕ, ◌+◌, ◌*◌, ◌<◌, ◌≤◌, List, [], ◌∷◌, ◌++◌, length, take, drop, ap, sym, subst, ◌∙◌}
use Rattle.std.proofs.Common.{arith, Option, Some}
use Rattle.std.specs.Prelude.{Err, IfOk, MatchResult, Ok, Result}
use Rattle.std.specs.Int.{w32, from_be_bytes}
use Rattle.std.proofs.lemmas.List.{append_assoc, append-nil, map-append}
use Rattle.dwarf_lines.specs.Paths.{PathRecord}
use Rattle.dwarf_source_frames.specs.Frames.{FrameRecord}
use Rattle.table_symbols.specs.Opened.{u64_at}
use Rattle.table_checked_pages.specs.Groups.{groups_in}
use Rattle.table_checked_pages.specs.Reading.{IsRefused, ReadsStored}
use Rattle.table_checked_pages.specs.declared.fault.CheckFault.{CheckFault}
use Rattle.table_checked_pages.proofs.PlaceLemmas.{part_read}
use Rattle.table_symbols.proofs.HeadedLemmas.{u64_read}
use Rattle.table_source_frames.specs.FrameViews.{owned_frame_view, owned_frames}
use Rattle.table_source_frames.specs.Inner.{HasTextsOf, IsFileIn, IsFrameIn, IsPositionIn, IsScopeIn, IsTextIn}
use Rattle.table_source_frames.specs.OfBytes.{AreFramesOfStep, AreStoredFrames, EndWithTable}
use Rattle.table_source_frames.specs.OfBytes.{IsMaybeStoredPath}
use Rattle.table_source_frames.specs.OfBytes.{IsMaybeStoredText, IsNoTableIn, IsStoredFrame, IsStoredPath, IsStoredText}
use Rattle.table_source_frames.specs.OfBytes.{IsTableIn, IsText, caller_of, column_of, line_of, text_at}
use Rattle.table_source_frames.specs.OfBytes.{texts_at, u32_at}
use Rattle.table_source_frames.specs.declared.frame.OwnedFrame.{OwnedFrame}
use Rattle.table_source_frames.specs.declared.opening.Head.{Head}
use Rattle.table_source_frames.specs.declared.row.File.{File}
use Rattle.table_source_frames.specs.declared.row.Position.{Position}
use Rattle.table_source_frames.specs.declared.row.Scope.{Scope}
use Rattle.table_source_frames.specs.declared.row.Text.{Text}
use Rattle.table_source_frames.specs.declared.table.LineTable.{LineTable}
use Rattle.table_source_frames.proofs.OpeningLemmas.{HasHead, IsHead}

ok_as : {T : Type 0} (r : Result T CheckFault) (A : List ℕ → T → Type 0) (B Known : List ℕ → Type 0) (P : T → Type 0)
    → ((value : T) → ((text : List ℕ) → Known text → A text value) → P value)
    → ((text : List ℕ) → Known text → MatchResult r (A text) (IsRefused (B text))) → IfOk r P
ok_as (Ok value) A B Known P to says = to value says
ok_as (Err f) A B Known P to says = tt

-- the result of a call that read is true of each text that the device may be known to have
pub of_ok : {D T : Type 0} {whole : D → Option (List ℕ)} {failures : D → ℕ} {old new : D} {r : Result T CheckFault}
    {A : List ℕ → T → Type 0} {B : List ℕ → Type 0} (P : T → Type 0)
    → ((value : T) → ((text : List ℕ) → whole old ≡ Some text → A text value) → P value)
    → ReadsStored whole failures old new r A B → IfOk r P
of_ok {whole = whole} {old = old} {r = r} {A = A} {B = B} P to h =
    ok_as r A B (λ text. whole old ≡ Some text) P to h.says

-- a number that was read stands at its offset
u32_read : (at n offset place : ℕ) (all bytes : List ℕ) → at + 4 ≤ n → offset + at ≡ place
    → bytes ≡ take n (drop offset all) → from_be_bytes w32 (take 4 (drop at bytes)) ≡ u32_at all place
u32_read at n offset place all bytes within is came =
    ap (from_be_bytes w32) (part_read at 4 n offset all bytes within came) ∙ ap (u32_at all) is

pub scope_in : (table : LineTable) (all bytes : List ℕ) (number index n offset : ℕ) (row : Scope)
    → index + 1 ≡ number → index < table.scopes → n ≡ 20
    → offset ≡ table.offset + 56 + 16 * groups_in table.steps + table.step_bytes + 20 * index → bytes ≡ take n (drop offset all)
    → row.name ≡ from_be_bytes w32 (take 4 (drop 0 bytes)) → row.file ≡ from_be_bytes w32 (take 4 (drop 4 bytes))
    → row.caller.line ≡ from_be_bytes w32 (take 4 (drop 8 bytes)) → row.caller.column ≡ from_be_bytes w32 (take 4 (drop 12 bytes))
    → row.caller.scope ≡ from_be_bytes w32 (take 4 (drop 16 bytes)) → IsScopeIn table all number row
scope_in table all bytes number index n offset row next within long at came name file line column caller = record {
  some = omega (arith, next);
  counted = omega (arith, next, within);
  name = name ∙ u32_read 0 n offset _ all bytes (omega (arith, long)) (omega (arith, at, next)) came;
  file = file ∙ u32_read 4 n offset _ all bytes (omega (arith, long)) (omega (arith, at, next)) came;
  line = line ∙ u32_read 8 n offset _ all bytes (omega (arith, long)) (omega (arith, at, next)) came;
  column = column ∙ u32_read 12 n offset _ all bytes (omega (arith, long)) (omega (arith, at, next)) came;
  caller = caller ∙ u32_read 16 n offset _ all bytes (omega (arith, long)) (omega (arith, at, next)) came;
}

pub file_in : (table : LineTable) (all bytes : List ℕ) (number index n offset : ℕ) (row : File) → index + 1 ≡ number
    → index < table.files → n ≡ 12
    → offset ≡ table.offset + 56 + 16 * groups_in table.steps + table.step_bytes + 20 * table.scopes + 12 * index
    → bytes ≡ take n (drop offset all) → row.base ≡ from_be_bytes w32 (take 4 (drop 0 bytes))
    → row.directory ≡ from_be_bytes w32 (take 4 (drop 4 bytes)) → row.name ≡ from_be_bytes w32 (take 4 (drop 8 bytes))
    → IsFileIn table all number row
file_in table all bytes number index n offset row next within long at came base directory name = record {
  some = omega (arith, next);
  counted = omega (arith, next, within);
  base = base ∙ u32_read 0 n offset _ all bytes (omega (arith, long)) (omega (arith, at, next)) came;
  directory = directory ∙ u32_read 4 n offset _ all bytes (omega (arith, long)) (omega (arith, at, next)) came;
  name = name ∙ u32_read 8 n offset _ all bytes (omega (arith, long)) (omega (arith, at, next)) came;
}

pub text_in : (table : LineTable) (all bytes : List ℕ) (index n offset : ℕ) (row : Text) → n ≡ 8
    → offset ≡ table.offset + 56 + 16 * groups_in table.steps + table.step_bytes + 20 * table.scopes + 12 * table.files + 8 * index
    → bytes ≡ take n (drop offset all) → row.place ≡ from_be_bytes w32 (take 4 (drop 0 bytes))
    → row.length ≡ from_be_bytes w32 (take 4 (drop 4 bytes)) → IsTextIn table all (index + 1) row
text_in table all bytes index n offset row long at came place len = record {
  place = place ∙ u32_read 0 n offset _ all bytes (omega (arith, long)) (omega (arith, at)) came;
  long = len ∙ u32_read 4 n offset _ all bytes (omega (arith, long)) (omega (arith, at)) came;
}

-- bytes that were read are those from where they stand
pub bytes_in : (all bytes whole : List ℕ) (count offset at : ℕ) → whole ≡ bytes
    → bytes ≡ take (length bytes) (drop offset all) → length bytes ≡ count → offset ≡ at → whole ≡ take count (drop at all)
bytes_in all bytes whole count offset at same came long is =
    same ∙ came ∙ ap (λ k. take k (drop offset all)) long ∙ ap (λ k. take count (drop k all)) is

pub stored_text : (table : LineTable) (all : List ℕ) (number index : ℕ) (row : Text) (text : List ℕ)
    → index + 1 ≡ number → index < table.texts → IsTextIn table all (index + 1) row
    → row.place + row.length ≤ table.bytes → text ≡ take row.length (drop (texts_at table + row.place) all)
    → IsStoredText table all number text
stored_text table all number index row text next within is inside has = record {
  some = omega (arith, next);
  counted = omega (arith, next, within);
  inside =
      let P : ℕ → Type 0 = λ k. u32_at all (text_at table k) + u32_at all (text_at table k + 4) ≤ table.bytes in
      subst P next (omega (arith, inside, is.place, is.long));
  is =
      let P : ℕ → Type 0 = λ k. text ≡ take (u32_at all (text_at table k + 4)) (drop (texts_at table + u32_at all (text_at table k)) all) in
      subst P next (has ∙ ap (λ k. take k (drop (texts_at table + row.place) all)) is.long
      ∙ ap (λ k. take (u32_at all (text_at table (index + 1) + 4)) (drop (texts_at table + k) all)) is.place);
}

pub stored_path : (table : LineTable) (all : List ℕ) (number : ℕ) (row : File) (path : PathRecord)
    → IsFileIn table all number row → HasTextsOf table all row path → IsStoredPath table all number path
stored_path table all number row path is has = record {
  some = is.some;
  counted = is.counted;
  base = subst (λ k. IsText table all k path.base) is.base has.base;
  directory = subst (λ k. IsText table all k path.directory) is.directory has.directory;
  name = subst (λ k. IsText table all k path.name) is.name has.name;
}

pub stored_frame : (table : LineTable) (all : List ℕ) (number line column : ℕ) (row : Scope) (frame : FrameRecord)
    → IsScopeIn table all number row → IsFrameIn table all row line column frame → IsStoredFrame table all number line column frame
stored_frame table all number line column row frame is has = record {
  some = is.some;
  counted = is.counted;
  name = subst (λ k. IsMaybeStoredText table all k frame.name) is.name has.name;
  path = subst (λ k. IsMaybeStoredPath table all k frame.path) is.file has.path;
  line = has.line;
  column = has.column;
}

-- the frames from a position on, if they are those of a scope with this line and column
abbrev pub AreFrom : LineTable → List ℕ → Position → List FrameRecord → Type 0
AreFrom table all position frames = AreStoredFrames table all position.scope position.line position.column frames

-- the frames so far, and those from the position of this row's caller on
pub frame_before : (table : LineTable) (all : List ℕ) (items more : List OwnedFrame) (from position : Position)
    (row : Scope) (frame : OwnedFrame) (rest : List FrameRecord)
    → ((rest : List FrameRecord) → AreFrom table all position rest → AreFrom table all from (owned_frames items ++ rest))
    → IsScopeIn table all position.scope row → row.caller.scope < position.scope
    → IsFrameIn table all row position.line position.column (owned_frame_view frame)
    → more ≡ items ++ frame ∷ [] → AreFrom table all row.caller rest
    → AreFrom table all from (owned_frames more ++ rest)
frame_before table all items more from position row frame rest before is lower has pushed after =
    let caller : row.caller.scope ≡ caller_of table all position.scope = is.caller in
    let here : AreFrom table all position (owned_frame_view frame ∷ rest) = (
      stored_frame table all position.scope position.line position.column row (owned_frame_view frame) is has,
      subst (λ k. k < position.scope) caller lower,
      subst (λ k. AreStoredFrames table all k (line_of table all position.scope) (column_of table all position.scope) rest) caller
          (subst (λ k. AreStoredFrames table all row.caller.scope k (column_of table all position.scope) rest) is.line
          (subst (λ k. AreStoredFrames table all row.caller.scope row.caller.line k rest) is.column after)),
    ) in
    let joined : owned_frames items ++ (owned_frame_view frame ∷ rest) ≡ owned_frames more ++ rest =
    sym (ap (λ xs. owned_frames xs ++ rest) pushed
    ∙ ap (λ xs. xs ++ rest) (map-append owned_frame_view items (frame ∷ []))
    ∙ append_assoc (owned_frames items) (owned_frame_view frame ∷ []) rest) in
    subst (AreFrom table all from) joined (before (owned_frame_view frame ∷ rest) here)

-- none are left from 0 on
pub frames_end : (table : LineTable) (all : List ℕ) (items : List OwnedFrame) (from position : Position) → position.scope ≡ 0
    → ((rest : List FrameRecord) → AreFrom table all position rest → AreFrom table all from (owned_frames items ++ rest))
    → AreFrom table all from (owned_frames items)
frames_end table all items from position none before =
    subst (AreFrom table all from) (append-nil (owned_frames items)) (before [] none)

-- the frames of a position that is that of a step
pub frames_of_step : (table : LineTable) (all : List ℕ) (position : Position) (frames : List FrameRecord)
    → IsPositionIn table all position → AreFrom table all position frames → AreFramesOfStep table all frames
frames_of_step table all position frames is are = (
  is.0,
  is.1,
  subst (λ k. AreStoredFrames table all k is.0.line is.0.column frames) is.2.scope
      (subst (λ k. AreStoredFrames table all position.scope k is.0.column frames) is.2.line
      (subst (λ k. AreStoredFrames table all position.scope position.line k frames) is.2.column are)),
)

-- ---- the head

ends_with : (all bytes : List ℕ) (n offset size : ℕ) (head : Head) → n ≡ 56 → offset + 56 ≤ size
    → bytes ≡ take n (drop offset all) → IsHead head bytes → length all ≡ size
    → offset + 56 + 16 * groups_in head.steps + head.step_bytes + 20 * head.scopes + 12 * head.files + 8 * head.texts + head.bytes ≡ size
    → EndWithTable all offset
ends_with all bytes n offset size head long within came is sized adds = record {
  has_head = omega (arith, within, sized);
  size = omega (
    arith,
    sized,
    adds,
    ap groups_in (is.steps ∙ u64_read 8 n offset all bytes (omega (arith, long)) came),
    is.step_bytes ∙ u64_read 16 n offset all bytes (omega (arith, long)) came,
    is.scopes ∙ u64_read 24 n offset all bytes (omega (arith, long)) came,
    is.files ∙ u64_read 32 n offset all bytes (omega (arith, long)) came,
    is.texts ∙ u64_read 40 n offset all bytes (omega (arith, long)) came,
    is.bytes_of ∙ u64_read 48 n offset all bytes (omega (arith, long)) came,
  );
}

first_in : (all bytes : List ℕ) (n offset : ℕ) (head : Head) → n ≡ 56 → bytes ≡ take n (drop offset all)
    → IsHead head bytes → head.lines ≡ u64_at all offset
first_in all bytes n offset head long came is =
    let at : offset + 0 ≡ offset = omega arith in
    is.lines ∙ u64_read 0 n offset all bytes (omega (arith, long)) came ∙ ap (u64_at all) at

pub found_no : (all bytes : List ℕ) (n offset size : ℕ) (head : Head) → n ≡ 56 → offset + 56 ≤ size
    → bytes ≡ take n (drop offset all) → IsHead head bytes → length all ≡ size → head.lines ≡ 0 → IsNoTableIn all offset
found_no all bytes n offset size head long within came is sized none = record {
  has_head = omega (arith, within, sized);
  none = sym (first_in all bytes n offset head long came is) ∙ none;
}

pub found_in : (all bytes : List ℕ) (n strings offset size : ℕ) (head : Head) (table : LineTable) → n ≡ 56
    → offset + 56 ≤ size → bytes ≡ take n (drop offset all) → IsHead head bytes → length all ≡ size
    → offset + 56 + 16 * groups_in head.steps + head.step_bytes + 20 * head.scopes + 12 * head.files + 8 * head.texts + head.bytes ≡ size
    → (head.lines ≡ 0 → ⊥) → HasHead table strings offset head → IsTableIn all strings offset table
found_in all bytes n strings offset size head table long within came is sized adds some has = record {
  ends = ends_with all bytes n offset size head long within came is sized adds;
  some = λ none. some (first_in all bytes n offset head long came is ∙ none);
  strings_is = has.strings_is;
  offset_is = has.offset_is;
  counts = record {
    steps = has.steps ∙ is.steps ∙ moved 8 (omega arith);
    step_bytes = has.step_bytes ∙ is.step_bytes ∙ moved 16 (omega arith);
    scopes = has.scopes ∙ is.scopes ∙ moved 24 (omega arith);
    files = has.files ∙ is.files ∙ moved 32 (omega arith);
    texts = has.texts ∙ is.texts ∙ moved 40 (omega arith);
    bytes = has.bytes ∙ is.bytes_of ∙ moved 48 (omega arith);
  };
}
  where
    moved : (at : ℕ) → at + 8 ≤ 56 → u64_at bytes at ≡ u64_at all (table.offset + at)
    moved at within = u64_read at n offset all bytes (omega (arith, long, within)) came
        ∙ ap (λ k. u64_at all (k + at)) (sym has.offset_is)
