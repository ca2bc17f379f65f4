-- The groups of rows, one cut off after another.
use Rattle.std.proofs.Common.{◌≡◌, ◌∙◌, ℕ, suc, ◌+◌, ◌<◌, Some, None, List, [], ◌∷◌, ◌++◌, Bool, true, false}
use Rattle.std.proofs.Common.{if◌then◌else◌, refl, sym, ap, subst, take, drop, arith, append_assoc, append-nil, length}
use Rattle.std.proofs.Common.{length-drop}
use Rattle.std.specs.List.{prefix_len, flat_map, slice_get}
use Rattle.std.proofs.lemmas.Bool.{eq-eqb}
use Rattle.archive_core.specs.declared.keys.SliceKey.{SliceKey}
use Rattle.archive_core.specs.Find.{is_key, answering_count}
use Rattle.std.proofs.lemmas.Slice.Eq.{bytes_eq-Decides}
use Rattle.text_reports.specs.declared.finds.KeyForm.{KeyForm}
use Rattle.archive_core.specs.declared.find.FindRow.{FindRow}
use Rattle.archive_core.proofs.Answering.{one_key}
use Rattle.text_reports.specs.Finds.{Group, with_row, groups, group_lines, groups_lines, find_row_text, conflict_line}
use Rattle.text_reports.specs.Report.{line}

-- how many rows after one of this key are of it
abbrev pub len_behind : SliceKey → List FindRow → ℕ
len_behind key rows = prefix_len (λ other. is_key other.key key) rows

-- the first group, and the groups of the rest
abbrev pub cut : FindRow → List FindRow → List Group
cut row rows = record { key = row.key; rows = row ∷ take (len_behind row.key rows) rows } ∷ groups (drop (len_behind row.key rows) rows)

pub groups-cons : (row : FindRow) (rows : List FindRow) → groups (row ∷ rows) ≡ with_row row (groups rows)
unfolding groups
groups-cons row rows = refl

len_behind-cons : (key : SliceKey) (next : FindRow) (rows : List FindRow) (b : Bool) → is_key next.key key ≡ b
    → len_behind key (next ∷ rows) ≡ (if b then suc (len_behind key rows) else 0)
len_behind-cons key next rows true e = let one : 1 + len_behind key rows ≡ suc (len_behind key rows) = omega arith in rw e one
len_behind-cons key next rows false e = rw e refl

step : (row next : FindRow) (rows : List FindRow) (b : Bool) → is_key next.key row.key ≡ b → groups (next ∷ rows)
    ≡ cut next rows → with_row row (cut next rows) ≡ cut row (next ∷ rows)
step row next rows true e before =
    let same = one_key next.key row.key e in
    let one : 1 + len_behind row.key rows ≡ suc (len_behind row.key rows) = omega arith in
    rw (e, one, same) refl
step row next rows false e before = rw (e, before) refl

pub groups_cut : (row : FindRow) (rows : List FindRow) → groups (row ∷ rows) ≡ cut row rows
unfolding groups
groups_cut row [] = refl
groups_cut row (next ∷ rows) = groups-cons row (next ∷ rows) ∙ ap (with_row row) (groups_cut next rows)
    ∙ step row next rows (is_key next.key row.key) refl (groups_cut next rows)

pub key_is_same : (key : SliceKey) → is_key key key ≡ true
key_is_same key = rw (
  (bytes_eq-Decides key.uuid key.uuid).1 refl,
  eq-eqb key.arch.cputype key.arch.cputype refl,
  eq-eqb key.arch.cpusubtype key.arch.cpusubtype refl,
) refl

-- fewer rows are left after the first group
pub fewer_behind : (first : FindRow) (rows others : List FindRow) (n : ℕ) → Some first ≡ slice_get rows 0 → n
    ≡ len_behind first.key rows → others ≡ drop n rows → length others < length rows
fewer_behind first [] others n e len back = cc
fewer_behind first (row ∷ rows) others n e len back =
    let is_first : row ≡ first = cc in
    let own : is_key row.key first.key ≡ true = subst (λ (r : FindRow). is_key r.key first.key ≡ true) (sym is_first) (key_is_same first.key) in
    let one : n ≡ suc (len_behind first.key rows) = len ∙ len_behind-cons first.key row rows true own in
    let rest : others ≡ drop (len_behind first.key rows) rows = back ∙ ap (λ (m : ℕ). drop m (row ∷ rows)) one in
    omega (arith, ap length rest, length-drop (len_behind first.key rows) rows)

-- the lines of the first group come first
lines_cut : (form : KeyForm) (first : FindRow) (rows : List FindRow)
    → groups_lines form (first ∷ rows) ≡ group_lines form
    (record { key = first.key; rows = take (len_behind first.key (first ∷ rows)) (first ∷ rows) })
    ++ groups_lines form (drop (len_behind first.key (first ∷ rows)) (first ∷ rows))
unfolding groups_lines
lines_cut form first rows =
    rw (len_behind-cons first.key first rows true (key_is_same first.key)) (ap (flat_map (group_lines form)) (groups_cut first rows))

regrouped : (text lines conflict after : List ℕ) → ((text ++ lines) ++ conflict) ++ after ≡ text ++ ((lines ++ conflict) ++ after)
regrouped text lines conflict after = simp append_assoc

-- a text that goes on with the lines of rows goes on with those of the others, once the first group is written
next_written : (form : KeyForm) (whole text : List ℕ) (first : FindRow) (rows : List FindRow) (n : ℕ) → n
    ≡ len_behind first.key (first ∷ rows) → text ++ groups_lines form (first ∷ rows) ≡ whole
    → ((text ++ flat_map (λ row. line (find_row_text form row)) (take n (first ∷ rows)))
    ++ conflict_line form first.key (answering_count (take n (first ∷ rows)) first.key.arch))
    ++ groups_lines form (drop n (first ∷ rows)) ≡ whole
unfolding group_lines
next_written form whole text first rows n len before = rw len (regrouped text _ _ _ ∙ ap (λ after. text ++ after) (sym (lines_cut form first rows)) ∙ before)

pub first_written : (form : KeyForm) (whole text with_rows with_conflict : List ℕ) (first : FindRow) (rows group others : List FindRow) (n count : ℕ)
    → Some first ≡ slice_get rows 0 → n ≡ len_behind first.key rows → group ≡ take n rows → others ≡ drop n rows → count ≡ answering_count group first.key.arch
    → text ++ groups_lines form rows ≡ whole
    → with_rows ≡ text ++ flat_map (λ row. line (find_row_text form row)) group
    → with_conflict ≡ with_rows ++ conflict_line form first.key count
    → with_conflict ++ groups_lines form others ≡ whole
first_written form whole text with_rows with_conflict first [] group others n count e len front back counted before rows_e conflict_e = cc
first_written form whole text with_rows with_conflict first (row ∷ rows) group others n count e len front back counted before rows_e conflict_e =
    let is_first : row ≡ first = cc in
    rw (conflict_e, rows_e, counted, front, back, is_first) (next_written form whole text first rows n (rw is_first at len) (rw is_first at before))

pub all_written : (form : KeyForm) (whole text : List ℕ) (rows : List FindRow) → None ≡ slice_get rows 0 → text ++ groups_lines form rows ≡ whole → text ≡ whole
unfolding groups_lines groups
all_written form whole text [] e before = sym (append-nil text) ∙ before
all_written form whole text (row ∷ rows) e before = cc
