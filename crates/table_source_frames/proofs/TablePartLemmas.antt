-- Where the parts of a table stand among its bytes.
use Rattle.std.proofs.Common.{◌≡◌, ℕ, zero, suc, ◌+◌, ◌*◌, ◌<◌, ◌≤◌, ◌^◌, List, [], ◌∷◌, ◌++◌, length, take, drop}
use Rattle.std.proofs.Common.{get_or, refl, ap, ◌∙◌, arith, length-append, Some}
use Rattle.std.specs.Prelude.{flat_map, map}
use Rattle.std.specs.Int.{w32, from_be_bytes, to_be_bytes}
use Rattle.std.specs.List.{concat, range_with_len}
use Rattle.std.proofs.lemmas.List.{append_assoc, take_at}
use Rattle.std.proofs.lemmas.List.FromFn.{length-range_with_len}
use Rattle.std.proofs.lemmas.Nat.{from_be_bytes-to_be_bytes_4}
use Rattle.std.proofs.lemmas.Option.{slice_get-get_or}
use Rattle.std.proofs.Math.ListN.{length-map}
use Rattle.std.proofs.Math.Nat.{mul-suc}
use Rattle.dwarf_lines.specs.Paths.{PathRecord}
use Rattle.dwarf_source_frames.specs.Frames.{FrameRecord}
use Rattle.table_checked_pages.specs.Groups.{GroupRecord, group_at, groups_in, groups_of}
use Rattle.table_checked_pages.proofs.GroupLemmas.{length-group_rows}
use Rattle.table_checked_pages.proofs.PlaceLemmas.{drop_past}
use Rattle.table_source_frames.specs.LineText.{LineParts, all_step_bytes, file_bytes, head_bytes, innermost_column}
use Rattle.table_source_frames.specs.LineText.{innermost_line, line_text, maybe_text_number, numbers_of, others_of}
use Rattle.table_source_frames.specs.LineText.{parts_of, scope_bytes, scope_number, scopes_in, step_rows, table_bytes}
use Rattle.table_source_frames.specs.LineText.{text_number, text_rows}
use Rattle.table_source_frames.specs.Numbering.{number_or_zero, same_chain, same_path}
use Rattle.table_source_frames.specs.StepGroups.{StepNumbers, step_group, step_groups}
use Rattle.table_source_frames.specs.Steps.{StepRecord}
use Rattle.table_source_frames.proofs.NumberingLemmas.{number_of_member}
use Rattle.table_source_frames.proofs.SameLemmas.{chain_decides}
use Rattle.table_source_frames.proofs.ScopeLemmas.{scopes_are}

-- ---- rows of one width, one after another

-- each of some has so many bytes
abbrev HaveWidth : {A : Type 0} → (A → List ℕ) → ℕ → List A → Type 0
HaveWidth {A} f w xs = (k : ℕ) (d : A) → k < length xs → length (f (get_or xs k d)) ≡ w

have_rest : {A : Type 0} (f : A → List ℕ) (w : ℕ) (x : A) (xs : List A) → HaveWidth f w (x ∷ xs) → HaveWidth f w xs
have_rest f w x xs have k d l = have (suc k) d (omega arith)

length_rows : {A : Type 0} (f : A → List ℕ) (w : ℕ) (xs : List A) → HaveWidth f w xs → length (flat_map f xs) ≡ w * length xs
length_rows f w [] have = omega arith
length_rows f w (x ∷ xs) have =
    omega (arith, length-append (f x) (flat_map f xs), have 0 x (omega arith), length_rows f w xs (have_rest f w x xs have), mul-suc w (length xs))

row_here : {A : Type 0} (f : A → List ℕ) (w : ℕ) (xs : List A) (rest : List ℕ) (i : ℕ) (d : A) → HaveWidth f w xs → i < length xs
    → take w (drop (w * i) (flat_map f xs ++ rest)) ≡ f (get_or xs i d)
row_here f w [] rest i d have l = absurd (omega arith)
row_here f w (x ∷ xs) rest zero d have l =
    let none : w * 0 ≡ 0 = omega arith in
    ap (λ n. take w (drop n ((f x ++ flat_map f xs) ++ rest))) none
    ∙ ap (take w) (append_assoc (f x) (flat_map f xs) rest)
    ∙ take_at (f x) (flat_map f xs ++ rest) w (have 0 x (omega arith))
row_here f w (x ∷ xs) rest (suc i) d have l =
    let far : w * suc i ≡ w + w * i = omega (arith, mul-suc w i) in
    ap (λ n. take w (drop n ((f x ++ flat_map f xs) ++ rest))) far
    ∙ ap (λ b. take w (drop (w + w * i) b)) (append_assoc (f x) (flat_map f xs) rest)
    ∙ ap (take w) (drop_past (f x) (flat_map f xs ++ rest) w (w * i) (have 0 x (omega arith)))
    ∙ row_here f w xs rest i d (have_rest f w x xs have) (omega arith)

-- ---- texts

length-text_rows : (before : ℕ) (texts : List (List ℕ)) → length (text_rows before texts) ≡ 8 * length texts
unfolding text_rows
length-text_rows before [] = refl
length-text_rows before (t ∷ texts) =
    omega (
      arith,
      length-append (to_be_bytes w32 before ++ to_be_bytes w32 (length t))
          (text_rows (before + length t) texts),
      length-text_rows (before + length t) texts,
    )

-- the bytes of the texts before one
abbrev pub place_of : List (List ℕ) → ℕ → ℕ
place_of texts i = length (concat (take i texts))

-- a row of a text: its place and its length
unfoldable text_row : ℕ → ℕ → List ℕ
text_row place len = to_be_bytes w32 place ++ to_be_bytes w32 len

length-text_row : (place len : ℕ) → length (text_row place len) ≡ 8
unfolding text_row
length-text_row place len = refl

text_rows-cons : (before : ℕ) (t : List ℕ) (texts : List (List ℕ)) → text_rows before (t ∷ texts)
    ≡ text_row before (length t) ++ text_rows (before + length t) texts
unfolding text_rows text_row
text_rows-cons before t texts = refl

text_row_here : (before : ℕ) (texts : List (List ℕ)) (rest : List ℕ) (i : ℕ) (d : List ℕ) → i < length texts
    → take 8 (drop (8 * i) (text_rows before texts ++ rest)) ≡ text_row (before + place_of texts i) (length (get_or texts i d))
text_row_here before [] rest i d l = absurd (omega arith)
text_row_here before (t ∷ texts) rest zero d l =
    let here : before ≡ before + 0 = omega arith in
    ap (λ b. take 8 (b ++ rest)) (text_rows-cons before t texts)
    ∙ ap (take 8) (append_assoc (text_row before (length t)) (text_rows (before + length t) texts) rest)
    ∙ take_at (text_row before (length t)) (text_rows (before + length t) texts ++ rest) 8 (length-text_row before (length t))
    ∙ ap (λ n. text_row n (length t)) here
text_row_here before (t ∷ texts) rest (suc i) d l =
    let far : 8 * suc i ≡ 8 + 8 * i = omega arith in
    let place : before + length t + place_of texts i ≡ before + place_of (t ∷ texts) (suc i) = omega (arith, length-append t (concat (take i texts))) in
    ap (λ n. take 8 (drop n (text_rows before (t ∷ texts) ++ rest))) far
    ∙ ap (λ b. take 8 (drop (8 + 8 * i) (b ++ rest))) (text_rows-cons before t texts)
    ∙ ap (λ b. take 8 (drop (8 + 8 * i) b)) (append_assoc (text_row before (length t)) (text_rows (before + length t) texts) rest)
    ∙ ap (take 8) (drop_past (text_row before (length t)) (text_rows (before + length t) texts ++ rest) 8 (8 * i) (length-text_row before (length t)))
    ∙ text_row_here (before + length t) texts rest i d (omega arith)
    ∙ ap (λ n. text_row n (length (get_or texts i d))) place

text_here : (texts : List (List ℕ)) (i : ℕ) (d : List ℕ) → i < length texts
    → take (length (get_or texts i d)) (drop (place_of texts i) (concat texts)) ≡ get_or texts i d
text_here [] i d l = absurd (omega arith)
text_here (t ∷ texts) zero d l = take_at t (concat texts) (length t) refl
text_here (t ∷ texts) (suc i) d l =
    ap (λ n. take (length (get_or texts i d)) (drop n (t ++ concat texts))) (length-append t (concat (take i texts)))
    ∙ ap (take (length (get_or texts i d))) (drop_past t (concat texts) (length t) (place_of texts i) refl)
    ∙ text_here texts i d (omega arith)

pub text_within : (texts : List (List ℕ)) (i : ℕ) (d : List ℕ) → i < length texts → place_of texts i + length (get_or texts i d) ≤ length (concat texts)
text_within [] i d l = absurd (omega arith)
text_within (t ∷ texts) zero d l = omega (arith, length-append t (concat texts))
text_within (t ∷ texts) (suc i) d l = omega (
  arith,
  length-append t (concat texts),
  length-append t (concat (take i texts)),
  text_within texts i d (omega arith),
)

-- ---- the widths of rows

length-scope : (parts : LineParts) (f : FrameRecord) (fs : List FrameRecord) → length (scope_bytes parts (f ∷ fs)) ≡ 20
unfolding scope_bytes
length-scope parts f fs = refl

length-file : (parts : LineParts) (path : PathRecord) → length (file_bytes parts path) ≡ 12
unfolding file_bytes
length-file parts path = refl

pub length-head : (parts : LineParts) → length (head_bytes parts) ≡ 56
unfolding head_bytes
length-head parts = refl

-- a scope of steps has a frame
scope_some : (steps : List StepRecord) (k : ℕ) (d : List FrameRecord) → k < length (scopes_in steps) → 0 < length (get_or (scopes_in steps) k d)
scope_some steps k d l = some (get_or (scopes_in steps) k d) refl
  where
    some : (scope : List FrameRecord) → get_or (scopes_in steps) k d ≡ scope → 0 < length scope
    some [] e =
        let there = number_of_member same_chain chain_decides (scopes_in steps) [] k (slice_get-get_or (scopes_in steps) k d l ∙ ap Some e) in
        absurd (omega (arith, there, (scopes_are steps).none))
    some (f ∷ fs) e = omega arith

length-some : (parts : LineParts) (scope : List FrameRecord) → 0 < length scope → length (scope_bytes parts scope) ≡ 20
length-some parts [] some = absurd (omega (arith, some))
length-some parts (f ∷ fs) some = length-scope parts f fs

files_wide : (parts : LineParts) → HaveWidth (file_bytes parts) 12 parts.files
files_wide parts k d l = length-file parts (get_or parts.files k d)

scopes_wide : (strings : List ℕ) (steps : List StepRecord) → HaveWidth (scope_bytes (parts_of strings steps)) 20 (scopes_in steps)
scopes_wide strings steps k d l = length-some (parts_of strings steps) (get_or (scopes_in steps) k d) (scope_some steps k d l)

-- ---- groups

-- the groups of the steps of a table
abbrev pub groups_in_parts : LineParts → List GroupRecord
groups_in_parts parts = step_groups (map (numbers_of parts) parts.steps)

pub length-groups : (parts : LineParts) → length (groups_in_parts parts) ≡ groups_in (length parts.steps)
length-groups parts =
    let numbers : List StepNumbers = map (numbers_of parts) parts.steps in
    length-map (groups_of numbers) step_group
    ∙ length-map (range_with_len 0 (groups_in (length numbers))) (group_at numbers)
    ∙ length-range_with_len 0 (groups_in (length numbers))
    ∙ ap groups_in (length-map parts.steps (numbers_of parts))

-- ---- where they stand

-- the parts of a table from one of them on
abbrev texts_on : LineParts → List ℕ
texts_on parts = text_rows 0 (others_of parts) ++ concat (others_of parts)

abbrev files_on : LineParts → List ℕ
files_on parts = flat_map (file_bytes parts) parts.files ++ texts_on parts

abbrev pub scopes_on : LineParts → List ℕ
scopes_on parts = flat_map (scope_bytes parts) parts.scopes ++ files_on parts

abbrev pub groups_on : LineParts → List ℕ
groups_on parts = step_rows parts ++ (all_step_bytes parts ++ scopes_on parts)

table_is : (parts : LineParts) → table_bytes parts ≡ head_bytes parts ++ groups_on parts
unfolding table_bytes
table_is parts = refl

abbrev pub first_scope : LineParts → ℕ
first_scope parts = 56 + 16 * groups_in (length parts.steps) + length (all_step_bytes parts)

abbrev pub first_file : LineParts → ℕ
first_file parts = first_scope parts + 20 * length parts.scopes

abbrev pub first_text : LineParts → ℕ
first_text parts = first_file parts + 12 * length parts.files

abbrev pub texts_offset : LineParts → ℕ
texts_offset parts = first_text parts + 8 * length (others_of parts)

long_rows : (parts : LineParts) → length (step_rows parts) ≡ 16 * groups_in (length parts.steps)
long_rows parts = length-group_rows 0 (groups_in_parts parts) ∙ ap (λ n. 16 * n) (length-groups parts)

module _ (strings : List ℕ) (steps : List StepRecord) where
  abbrev parts : LineParts
  parts = parts_of strings steps

  pub groups_there : (m : ℕ) → drop (56 + m) (line_text strings steps) ≡ drop m (groups_on (parts_of strings steps))
  groups_there m = ap (drop (56 + m)) (table_is parts) ∙ drop_past (head_bytes parts) (groups_on parts) 56 m (length-head parts)

  scopes_at : (m : ℕ) → drop (first_scope (parts_of strings steps) + m) (line_text strings steps) ≡ drop m (scopes_on (parts_of strings steps))
  scopes_at m =
      let rows : ℕ = 16 * groups_in (length steps) in
      let size : ℕ = length (all_step_bytes parts) in
      let far : first_scope parts + m ≡ 56 + (rows + (size + m)) = omega arith in
      ap (λ n. drop n (line_text strings steps)) far ∙ groups_there (rows + (size + m))
      ∙ drop_past (step_rows parts) (all_step_bytes parts ++ scopes_on parts) rows (size + m) (long_rows parts)
      ∙ drop_past (all_step_bytes parts) (scopes_on parts) size m refl

  files_at : (m : ℕ) → drop (first_file (parts_of strings steps) + m) (line_text strings steps) ≡ drop m (files_on (parts_of strings steps))
  files_at m =
      let far : first_file parts + m ≡ first_scope parts + (20 * length parts.scopes + m) = omega arith in
      ap (λ n. drop n (line_text strings steps)) far ∙ scopes_at (20 * length parts.scopes + m)
      ∙ drop_past (flat_map (scope_bytes parts) parts.scopes) (files_on parts) (20 * length parts.scopes) m
      (length_rows (scope_bytes parts) 20 parts.scopes (scopes_wide strings steps))

  texts_at : (m : ℕ) → drop (first_text (parts_of strings steps) + m) (line_text strings steps) ≡ drop m (texts_on (parts_of strings steps))
  texts_at m =
      let far : first_text parts + m ≡ first_file parts + (12 * length parts.files + m) = omega arith in
      ap (λ n. drop n (line_text strings steps)) far ∙ files_at (12 * length parts.files + m)
      ∙ drop_past (flat_map (file_bytes parts) parts.files) (texts_on parts) (12 * length parts.files) m
      (length_rows (file_bytes parts) 12 parts.files (files_wide parts))

  bytes_at : (m : ℕ) → drop (texts_offset (parts_of strings steps) + m) (line_text strings steps) ≡ drop m (concat (others_of (parts_of strings steps)))
  bytes_at m =
      let others : List (List ℕ) = others_of parts in
      let far : texts_offset parts + m ≡ first_text parts + (8 * length others + m) = omega arith in
      ap (λ n. drop n (line_text strings steps)) far ∙ texts_at (8 * length others + m)
      ∙ drop_past (text_rows 0 others) (concat others) (8 * length others) m (length-text_rows 0 others)

  pub length-line_text : length (line_text strings steps) ≡ texts_offset (parts_of strings steps) + length (concat (others_of (parts_of strings steps)))
  length-line_text =
      let others : List (List ℕ) = others_of parts in
      omega (
        arith,
        ap length (table_is parts),
        length-append (head_bytes parts) (groups_on parts),
        length-head parts,
        length-append (step_rows parts) (all_step_bytes parts ++ scopes_on parts),
        long_rows parts,
        length-append (all_step_bytes parts) (scopes_on parts),
        length-append (flat_map (scope_bytes parts) parts.scopes) (files_on parts),
        length_rows (scope_bytes parts) 20 parts.scopes (scopes_wide strings steps),
        length-append (flat_map (file_bytes parts) parts.files) (texts_on parts),
        length_rows (file_bytes parts) 12 parts.files (files_wide parts),
        length-append (text_rows 0 others) (concat others),
        length-text_rows 0 others,
      )

  pub head_there : take 56 (line_text strings steps) ≡ head_bytes (parts_of strings steps)
  head_there = ap (take 56) (table_is parts) ∙ take_at (head_bytes parts) (groups_on parts) 56 (length-head parts)

  pub scope_there : (i : ℕ) (d : List FrameRecord) → i < length (scopes_in steps)
      → take 20 (drop (first_scope (parts_of strings steps) + 20 * i) (line_text strings steps))
      ≡ scope_bytes (parts_of strings steps) (get_or (scopes_in steps) i d)
  scope_there i d l =
      ap (take 20) (scopes_at (20 * i)) ∙ row_here (scope_bytes parts) 20 parts.scopes (files_on parts) i d (scopes_wide strings steps) l

  pub file_there : (i : ℕ) (d : PathRecord) → i < length (parts_of strings steps).files
      → take 12 (drop (first_file (parts_of strings steps) + 12 * i) (line_text strings steps))
      ≡ file_bytes (parts_of strings steps) (get_or (parts_of strings steps).files i d)
  file_there i d l = ap (take 12) (files_at (12 * i)) ∙ row_here (file_bytes parts) 12 parts.files (texts_on parts) i d (files_wide parts) l

  text_row_there : (i : ℕ) (d : List ℕ) → i < length (others_of (parts_of strings steps))
      → take 8 (drop (first_text (parts_of strings steps) + 8 * i) (line_text strings steps))
      ≡ text_row (place_of (others_of (parts_of strings steps)) i) (length (get_or (others_of (parts_of strings steps)) i d))
  text_row_there i d l =
      let others : List (List ℕ) = others_of parts in
      ap (take 8) (texts_at (8 * i)) ∙ text_row_here 0 others (concat others) i d l
      ∙ ap (λ n. text_row n (length (get_or others i d))) (omega arith)

  pub text_there : (i : ℕ) (d : List ℕ) → i < length (others_of (parts_of strings steps))
      → take (length (get_or (others_of (parts_of strings steps)) i d))
      (drop (texts_offset (parts_of strings steps) + place_of (others_of (parts_of strings steps)) i) (line_text strings steps))
      ≡ get_or (others_of (parts_of strings steps)) i d
  text_there i d l =
      let others : List (List ℕ) = others_of parts in
      ap (take (length (get_or others i d))) (bytes_at (place_of others i)) ∙ text_here others i d l

  pub place_in : (i : ℕ) (d : List ℕ) → i < length (others_of (parts_of strings steps)) → place_of (others_of (parts_of strings steps)) i < 2 ^ 32
      → from_be_bytes w32 (take 4 (drop 0 (take 8 (drop (first_text (parts_of strings steps) + 8 * i) (line_text strings steps)))))
      ≡ place_of (others_of (parts_of strings steps)) i
  unfolding text_row
  place_in i d l fits =
      ap (λ b. from_be_bytes w32 (take 4 (drop 0 b))) (text_row_there i d l)
      ∙ from_be_bytes-to_be_bytes_4 (place_of (others_of (parts_of strings steps)) i) fits

  pub length_in : (i : ℕ) (d : List ℕ) → i < length (others_of (parts_of strings steps)) → length (get_or (others_of (parts_of strings steps)) i d) < 2 ^ 32
      → from_be_bytes w32 (take 4 (drop 4 (take 8 (drop (first_text (parts_of strings steps) + 8 * i) (line_text strings steps)))))
      ≡ length (get_or (others_of (parts_of strings steps)) i d)
  unfolding text_row
  length_in i d l fits =
      ap (λ b. from_be_bytes w32 (take 4 (drop 4 b))) (text_row_there i d l)
      ∙ from_be_bytes-to_be_bytes_4 (length (get_or (others_of (parts_of strings steps)) i d)) fits

-- ---- the numbers of a row

module _ (parts : LineParts) (f : FrameRecord) (fs : List FrameRecord) where
  pub name_in : maybe_text_number parts f.name < 2 ^ 32
      → from_be_bytes w32 (take 4 (drop 0 (scope_bytes parts (f ∷ fs)))) ≡ maybe_text_number parts f.name
  unfolding scope_bytes
  name_in fits = from_be_bytes-to_be_bytes_4 (maybe_text_number parts f.name) fits

  pub file_in : number_or_zero same_path parts.files f.path < 2 ^ 32
      → from_be_bytes w32 (take 4 (drop 4 (scope_bytes parts (f ∷ fs)))) ≡ number_or_zero same_path parts.files f.path
  unfolding scope_bytes
  file_in fits = from_be_bytes-to_be_bytes_4 (number_or_zero same_path parts.files f.path) fits

  pub line_in : innermost_line fs < 2 ^ 32 → from_be_bytes w32 (take 4 (drop 8 (scope_bytes parts (f ∷ fs)))) ≡ innermost_line fs
  unfolding scope_bytes
  line_in fits = from_be_bytes-to_be_bytes_4 (innermost_line fs) fits

  pub column_in : innermost_column fs < 2 ^ 32 → from_be_bytes w32 (take 4 (drop 12 (scope_bytes parts (f ∷ fs)))) ≡ innermost_column fs
  unfolding scope_bytes
  column_in fits = from_be_bytes-to_be_bytes_4 (innermost_column fs) fits

  pub caller_in : scope_number parts fs < 2 ^ 32 → from_be_bytes w32 (take 4 (drop 16 (scope_bytes parts (f ∷ fs)))) ≡ scope_number parts fs
  unfolding scope_bytes
  caller_in fits = from_be_bytes-to_be_bytes_4 (scope_number parts fs) fits

module _ (parts : LineParts) (path : PathRecord) where
  pub base_in : text_number parts path.base < 2 ^ 32
      → from_be_bytes w32 (take 4 (drop 0 (file_bytes parts path))) ≡ text_number parts path.base
  unfolding file_bytes
  base_in fits = from_be_bytes-to_be_bytes_4 (text_number parts path.base) fits

  pub directory_in : text_number parts path.directory < 2 ^ 32
      → from_be_bytes w32 (take 4 (drop 4 (file_bytes parts path))) ≡ text_number parts path.directory
  unfolding file_bytes
  directory_in fits = from_be_bytes-to_be_bytes_4 (text_number parts path.directory) fits

  pub file_name_in : text_number parts path.name < 2 ^ 32
      → from_be_bytes w32 (take 4 (drop 8 (file_bytes parts path))) ≡ text_number parts path.name
  unfolding file_bytes
  file_name_in fits = from_be_bytes-to_be_bytes_4 (text_number parts path.name) fits
