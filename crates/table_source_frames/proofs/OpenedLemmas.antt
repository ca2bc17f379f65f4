-- What is read of a line table that was opened.
use Rattle.std.proofs.Common.{◌≡◌, ℕ, ◌+◌, ◌-◌, ◌*◌, ◌<◌, ◌≤◌, ◌^◌, Bool, List, [], ◌∷◌, ◌++◌, length, take, drop, get_or, refl}
use Rattle.std.proofs.Common.{sym, ap, ◌∙◌, subst, arith, length-append, length-drop, Option, Some, None, slice_get}
use Rattle.std.specs.Int.{w32, from_be_bytes}
use Rattle.std.proofs.lemmas.List.{append_assoc, drop_at, drop-drop, take_at}
use Rattle.std.proofs.lemmas.Option.{slice_get-get_or, slice_get_within, get_or_from_slice_get}
use Rattle.table_checked_pages.specs.Groups.{bytes_of, group_rows, groups_in}
use Rattle.table_checked_pages.specs.Standing.{Stands}
use Rattle.table_checked_pages.specs.Views.{ArePagesOf}
use Rattle.table_checked_pages.specs.declared.pages.Pages.{Pages}
use Rattle.dwarf_lines.specs.Paths.{PathRecord}
use Rattle.dwarf_source_frames.specs.Frames.{FrameRecord}
use Rattle.table_source_frames.specs.Inner.{IsFileNumber, IsFileRow, IsMaybeFile, IsMaybeScope, IsMaybeText}
use Rattle.table_source_frames.specs.Inner.{IsOtherText, IsScope, IsScopeNumber, IsTextNumber, IsTextRow}
use Rattle.table_source_frames.specs.LineText.{LineParts, file_bytes}
use Rattle.table_source_frames.specs.LineText.{line_text, maybe_text_number, others_of, parts_of, same_place, scope_bytes}
use Rattle.table_source_frames.specs.LineText.{scope_number, scope_of, scopes_in, string_at, text_number}
use Rattle.table_source_frames.specs.Numbering.{number_in, number_or_zero, same_chain, same_path}
use Rattle.table_source_frames.specs.Opened.{IsOpened}
use Rattle.table_source_frames.specs.Steps.{StepRecord}
use Rattle.table_source_frames.specs.declared.row.File.{File}
use Rattle.table_source_frames.specs.declared.row.Scope.{Scope}
use Rattle.table_source_frames.specs.declared.row.Text.{Text}
use Rattle.table_source_frames.specs.declared.table.LineTable.{LineTable}
use Rattle.table_source_frames.proofs.NumberingLemmas.{IsExact, number_within, numbered_at}
use Rattle.table_source_frames.proofs.SameLemmas.{chain_decides, path_decides, place_decides}
use Rattle.table_source_frames.proofs.ScopeLemmas.{HasNumber, callers_fit, name_has, path_has, scopes_are, text_has}
use Rattle.table_source_frames.proofs.TablePartLemmas.{base_in, caller_in, column_in, directory_in, file_in, file_name_in}
use Rattle.table_source_frames.proofs.TablePartLemmas.{file_there, first_file, first_scope, first_text, groups_in_parts}
use Rattle.table_source_frames.proofs.TablePartLemmas.{groups_on, groups_there, length-line_text, length_in}
use Rattle.table_source_frames.proofs.TablePartLemmas.{line_in, name_in, place_in, place_of, scope_there, scopes_on, text_there}
use Rattle.table_source_frames.proofs.TablePartLemmas.{text_within, texts_offset}
use Rattle.table_source_frames.proofs.TextLemmas.{is_other, is_string, length-texts}

-- what is numbered stands at its index
pub stands_at : {A : Type 0} (same : A → A → Bool) (decides : IsExact same) (xs : List A) (x : A) (number index : ℕ)
    → number ≡ number_in same xs x → 0 < number → index + 1 ≡ number → slice_get xs index ≡ Some x
stands_at same decides xs x number index is some next =
    subst (λ k. slice_get xs k ≡ Some x) (omega (arith, is, next)) (numbered_at same decides xs x (omega (arith, is, some)))

maybe_within : {A : Type 0} (same : A → A → Bool) (decides : IsExact same) (xs : List A) (o : Option A) → number_or_zero same xs o ≤ length xs
maybe_within same decides xs None = omega arith
maybe_within same decides xs (Some x) = number_within same decides xs x

maybe_text_within : (parts : LineParts) (o : Option (List ℕ)) → maybe_text_number parts o ≤ length parts.texts
maybe_text_within parts None = omega arith
maybe_text_within parts (Some text) = number_within same_place place_decides parts.texts (Some text)

-- the other text with a number stands at its index
pub other_at : (parts : LineParts) (number : ℕ) (text : List ℕ) (index : ℕ) → IsOtherText parts number text
    → index + 1 ≡ number → slice_get (others_of parts) index ≡ Some text
other_at parts number text index is next = subst (λ k. slice_get (others_of parts) k ≡ Some text) (omega (arith, next)) is.is

-- the number of the scope of frames that have one
pub maybe_scope : (strings : List ℕ) (steps : List StepRecord) (frames : List FrameRecord) (number : ℕ)
    → number ≡ scope_number (parts_of strings steps) frames → HasNumber (scopes_in steps) frames → IsMaybeScope (parts_of strings steps) number frames
maybe_scope strings steps [] number is has = is ∙ (scopes_are steps).none
maybe_scope strings steps (f ∷ fs) number is has = record { is = is; some = omega (arith, is, has) }

-- pages that are read on are still those of the table
pub kept : (table : LineTable) (pages more : Pages) (text all strings : List ℕ) (steps : List StepRecord)
    → IsOpened table pages text all strings steps → ArePagesOf more text all → IsOpened table more text all strings steps
kept table pages more text all strings steps opened are = record { are_pages = are; stands = opened.stands; widths = opened.widths; head = opened.head }

module _ (table : LineTable) (pages : Pages) (text all strings : List ℕ) (steps : List StepRecord) (opened : IsOpened table pages text all strings steps) where
  abbrev parts : LineParts
  parts = parts_of strings steps

  -- how many bytes there are
  pub opened_long : length all ≡ table.offset + 56 + 16 * groups_in table.steps + table.step_bytes + 20 * table.scopes
      + 12 * table.files + 8 * table.texts + table.bytes
  opened_long =
      omega (
        arith,
        opened.stands.0,
        ap length opened.stands.1,
        length-drop table.strings all,
        length-append strings (line_text strings steps),
        length-line_text strings steps,
        opened.head.strings,
        ap groups_in opened.head.steps,
        opened.head.step_bytes,
        opened.head.scopes,
        opened.head.files,
        opened.head.texts,
        opened.head.bytes,
      )

  -- the strings, and the line table after them
  pub strings_stand : Stands all table.strings strings
  strings_stand = (
    omega (
      arith,
      opened.stands.0,
      ap length opened.stands.1,
      length-drop table.strings all,
      length-append strings (line_text strings steps),
    ),
    ap (take (length strings)) opened.stands.1 ∙ take_at strings (line_text strings steps) (length strings) refl,
  )

  pub strings_are : (n : ℕ) → n ≡ table.offset - table.strings → take n (drop table.strings all) ≡ strings
  strings_are n is =
      let long : n ≡ length strings = omega (arith, is, opened.head.strings) in
      ap (λ k. take k (drop table.strings all)) long ∙ strings_stand.1

  lines_stand : drop table.offset all ≡ line_text strings steps
  lines_stand =
      ap (λ k. drop k all) (sym opened.head.strings) ∙ sym (drop-drop (length strings) table.strings all)
      ∙ ap (drop (length strings)) opened.stands.1 ∙ drop_at strings (line_text strings steps) (length strings) refl

  -- what was read from an offset on are bytes of the table
  came_as : (bytes : List ℕ) (n offset w m : ℕ) → n ≡ w → offset ≡ table.offset + m → bytes ≡ take n (drop offset all)
      → bytes ≡ take w (drop m (line_text strings steps))
  came_as bytes n offset w m long at came =
      came ∙ ap (λ k. take k (drop offset all)) long ∙ ap (λ k. take w (drop k all)) at
      ∙ ap (take w) (sym (drop-drop m table.offset all) ∙ ap (drop m) lines_stand)

  -- the groups of steps
  pub groups_at : Stands all (table.offset + 56) (group_rows 0 (groups_in_parts parts) ++ bytes_of (groups_in_parts parts))
  groups_at =
      let both : List ℕ = group_rows 0 (groups_in_parts parts) ++ bytes_of (groups_in_parts parts) in
      let rest : drop (table.offset + 56) all ≡ groups_on parts =
      sym (drop-drop 56 table.offset all) ∙ ap (drop 56) lines_stand ∙ groups_there strings steps 0 in
      let joined : drop (table.offset + 56) all ≡ both ++ scopes_on parts =
      rest ∙ sym (append_assoc (group_rows 0 (groups_in_parts parts)) (bytes_of (groups_in_parts parts)) (scopes_on parts)) in (
        omega (
          arith,
          ap length joined,
          length-append both (scopes_on parts),
          length-drop (table.offset + 56) all,
          opened_long,
        ),
        ap (take (length both)) joined ∙ take_at both (scopes_on parts) (length both) refl,
      )

  -- the number of a scope is one of so many
  pub scope_within : (number : ℕ) (scope : List FrameRecord) → IsScopeNumber parts number scope → number ≤ table.scopes
  scope_within number scope is = omega (arith, is.is, number_within same_chain chain_decides parts.scopes scope, opened.head.scopes)

  pub file_within : (number : ℕ) (path : PathRecord) → IsFileNumber parts number path → number ≤ table.files
  file_within number path is = omega (arith, is.is, number_within same_path path_decides parts.files path, opened.head.files)

  -- the number of a text is that of a string, or of another text
  pub text_of_strings : (number offset : ℕ) (told : List ℕ) → IsTextNumber parts number told → offset + 1 ≡ number
      → number ≤ table.offset - table.strings → told ≡ string_at strings offset
  text_of_strings number offset told is next within =
      is_string strings steps offset told (omega (arith, next, within, opened.head.strings))
      (stands_at same_place place_decides parts.texts (Some told) number offset is.is is.some next)

  pub text_of_others : (number other : ℕ) (told : List ℕ) → IsTextNumber parts number told
      → other + (table.offset - table.strings) ≡ number → table.offset - table.strings < number → IsOtherText parts other told
  text_of_others number other told is apart past = record {
    some = omega (arith, apart, past);
    is =
        let there : slice_get parts.texts (number - 1) ≡ Some (Some told) =
        stands_at same_place place_decides parts.texts (Some told) number (number - 1) is.is is.some (omega (arith, is.some)) in
        subst (λ k. slice_get (others_of parts) k ≡ Some told) (omega (arith, apart, past, opened.head.strings))
        (is_other strings steps (number - 1) told (omega (arith, past, opened.head.strings)) there);
  }

  pub text_within_all : (number : ℕ) (told : List ℕ) → IsTextNumber parts number told → number ≤ table.offset - table.strings + table.texts
  text_within_all number told is =
      omega (
        arith,
        is.is,
        number_within same_place place_decides parts.texts (Some told),
        length-texts strings steps,
        opened.head.texts,
        opened.head.strings,
      )

  pub other_within : (number : ℕ) (told : List ℕ) → IsOtherText parts number told → number ≤ table.texts
  other_within number told is =
      omega (arith, is.some, slice_get_within (others_of parts) (number - 1) told is.is, opened.head.texts)

  module _ (f : FrameRecord) (fs : List FrameRecord) (index : ℕ) (stands : slice_get parts.scopes index ≡ Some (scope_of (f ∷ fs))) where
    maybe_name : (number : ℕ) (name : Option (List ℕ)) → f.name ≡ name → number ≡ maybe_text_number parts name → IsMaybeText parts number name
    maybe_name number None e is = is
    maybe_name number (Some told) e is = record {
      is = is;
      some = omega (arith, is, name_has strings parts.scopes parts.files index _ fs told stands e);
    }

    maybe_file : (number : ℕ) (path : Option PathRecord) → f.path ≡ path → number ≡ number_or_zero same_path parts.files path
        → IsMaybeFile parts number path
    maybe_file number None e is = is
    maybe_file number (Some path) e is = record { is = is; some = omega (arith, is, path_has parts.scopes index _ fs path stands e) }

    scope_read_of : (bytes : List ℕ) (number : ℕ) (row : Scope) → IsScopeNumber parts number (scope_of (f ∷ fs))
        → bytes ≡ scope_bytes parts (scope_of (f ∷ fs))
        → row.name ≡ from_be_bytes w32 (take 4 (drop 0 bytes)) → row.file ≡ from_be_bytes w32 (take 4 (drop 4 bytes))
        → row.caller.line ≡ from_be_bytes w32 (take 4 (drop 8 bytes))
        → row.caller.column ≡ from_be_bytes w32 (take 4 (drop 12 bytes)) → row.caller.scope
        ≡ from_be_bytes w32 (take 4 (drop 16 bytes)) → IsScope parts row f fs × (row.caller.scope < number)
    scope_read_of bytes number row is here name file line column caller =
        let bare : FrameRecord = record { name = f.name; path = f.path; line = 0; column = 0 } in
        let texts_few : maybe_text_number parts f.name < 2 ^ 32 =
        omega (arith, maybe_text_within parts f.name, opened.widths.few.texts) in
        let files_few : number_or_zero same_path parts.files f.path < 2 ^ 32 =
        omega (arith, maybe_within same_path path_decides parts.files f.path, opened.widths.few.files) in
        let fit = callers_fit steps opened.widths.lines index bare fs stands in
        let callers_few : scope_number parts fs < 2 ^ 32 =
        omega (arith, number_within same_chain chain_decides parts.scopes (scope_of fs), opened.widths.few.scopes) in
        let caller_is : row.caller.scope ≡ scope_number parts fs = caller
        ∙ ap (λ b. from_be_bytes w32 (take 4 (drop 16 b))) here ∙ caller_in parts bare fs callers_few in
        let below = (scopes_are steps).callers bare fs (omega (arith, is.is, is.some)) in (
          record {
            name = maybe_name row.name f.name refl (name ∙ ap (λ b. from_be_bytes w32 (take 4 (drop 0 b))) here ∙ name_in parts bare fs texts_few);
            file = maybe_file row.file f.path refl (file ∙ ap (λ b. from_be_bytes w32 (take 4 (drop 4 b))) here ∙ file_in parts bare fs files_few);
            caller = record {
              scope = maybe_scope strings steps fs row.caller.scope caller_is below.0;
              line = line ∙ ap (λ b. from_be_bytes w32 (take 4 (drop 8 b))) here ∙ line_in parts bare fs fit.0;
              column = column ∙ ap (λ b. from_be_bytes w32 (take 4 (drop 12 b))) here ∙ column_in parts bare fs fit.1;
            };
          },
          omega (arith, caller_is, below.1, is.is),
        )

  pub scope_read : (bytes : List ℕ) (number index n offset : ℕ) (row : Scope) (f : FrameRecord)
      (fs : List FrameRecord) → IsScopeNumber parts number (scope_of (f ∷ fs)) → index + 1 ≡ number
      → n ≡ 20 → offset ≡ table.offset + 56 + 16 * groups_in table.steps + table.step_bytes + 20 * index → bytes ≡ take n (drop offset all)
      → row.name ≡ from_be_bytes w32 (take 4 (drop 0 bytes)) → row.file ≡ from_be_bytes w32 (take 4 (drop 4 bytes))
      → row.caller.line ≡ from_be_bytes w32 (take 4 (drop 8 bytes))
      → row.caller.column ≡ from_be_bytes w32 (take 4 (drop 12 bytes)) → row.caller.scope
      ≡ from_be_bytes w32 (take 4 (drop 16 bytes)) → IsScope parts row f fs × (row.caller.scope < number)
  scope_read bytes number index n offset row f fs is next long at came =
      let stands : slice_get parts.scopes index ≡ Some (scope_of (f ∷ fs)) =
      stands_at same_chain chain_decides parts.scopes (scope_of (f ∷ fs)) number index is.is is.some next in
      let within : index < length parts.scopes = slice_get_within parts.scopes index (scope_of (f ∷ fs)) stands in
      let here : bytes ≡ scope_bytes parts (scope_of (f ∷ fs)) =
      came_as bytes n offset 20 (first_scope parts + 20 * index) long
      (omega (arith, at, ap groups_in opened.head.steps, opened.head.step_bytes)) came
      ∙ scope_there strings steps index [] within
      ∙ ap (scope_bytes parts) (get_or_from_slice_get parts.scopes index (scope_of (f ∷ fs)) [] stands) in
      scope_read_of f fs index stands bytes number row is here

  pub file_read : (bytes : List ℕ) (number index n offset : ℕ) (row : File) (path : PathRecord) → IsFileNumber parts number path → index + 1 ≡ number
      → n ≡ 12 → offset ≡ table.offset + 56 + 16 * groups_in table.steps + table.step_bytes + 20 * table.scopes + 12 * index
      → bytes ≡ take n (drop offset all)
      → row.base ≡ from_be_bytes w32 (take 4 (drop 0 bytes)) → row.directory ≡ from_be_bytes w32 (take 4 (drop 4 bytes))
      → row.name ≡ from_be_bytes w32 (take 4 (drop 8 bytes))
      → IsFileRow parts row path
  file_read bytes number index n offset row path is next long at came base directory name =
      let stands : slice_get parts.files index ≡ Some path = stands_at same_path path_decides parts.files path number index is.is is.some next in
      let within : index < length parts.files = slice_get_within parts.files index path stands in
      let here : bytes ≡ file_bytes parts path =
      came_as bytes n offset 12 (first_file parts + 12 * index) long
      (omega (arith, at, ap groups_in opened.head.steps, opened.head.step_bytes, opened.head.scopes)) came
      ∙ file_there strings steps index path within ∙ ap (file_bytes parts) (get_or_from_slice_get parts.files index path path stands) in
      let base_is : row.base ≡ text_number parts path.base = base
      ∙ ap (λ b. from_be_bytes w32 (take 4 (drop 0 b))) here ∙ base_in parts path (few path.base) in
      let directory_is : row.directory ≡ text_number parts path.directory = directory
      ∙ ap (λ b. from_be_bytes w32 (take 4 (drop 4 b))) here ∙ directory_in parts path (few path.directory) in
      let name_is : row.name ≡ text_number parts path.name = name
      ∙ ap (λ b. from_be_bytes w32 (take 4 (drop 8 b))) here ∙ file_name_in parts path (few path.name) in
      record {
        base = record {
          is = base_is;
          some = omega (arith, base_is, text_has strings parts.scopes parts.files index path path.base stands (0, refl));
        };
        directory = record {
          is = directory_is;
          some = omega (arith, directory_is, text_has strings parts.scopes parts.files index path path.directory stands (1, refl));
        };
        name = record {
          is = name_is;
          some = omega (arith, name_is, text_has strings parts.scopes parts.files index path path.name stands (2, refl));
        };
      }
    where
      few : (told : List ℕ) → text_number parts told < 2 ^ 32
      few told = omega (arith, number_within same_place place_decides parts.texts (Some told), opened.widths.few.texts)

  pub text_row_read : (bytes : List ℕ) (index n offset : ℕ) (row : Text) → index < table.texts → n ≡ 8 → offset
      ≡ table.offset + 56 + 16 * groups_in table.steps + table.step_bytes + 20 * table.scopes + 12 * table.files + 8 * index
      → bytes ≡ take n (drop offset all) → row.place ≡ from_be_bytes w32 (take 4 (drop 0 bytes)) → row.length
      ≡ from_be_bytes w32 (take 4 (drop 4 bytes)) → IsTextRow parts index row
  text_row_read bytes index n offset row inside long at came place len =
      let others : List (List ℕ) = others_of parts in
      let within : index < length others = omega (arith, inside, opened.head.texts) in
      let here : bytes ≡ take 8 (drop (first_text parts + 8 * index) (line_text strings steps)) =
      came_as bytes n offset 8 (first_text parts + 8 * index) long
      (omega (arith, at, ap groups_in opened.head.steps, opened.head.step_bytes, opened.head.scopes, opened.head.files)) came in
      let ends = text_within others index [] within in
      record {
        place = place ∙ ap (λ b. from_be_bytes w32 (take 4 (drop 0 b))) here
            ∙ place_in strings steps index [] within (omega (arith, ends, opened.widths.few.bytes));
        long = len ∙ ap (λ b. from_be_bytes w32 (take 4 (drop 4 b))) here
            ∙ length_in strings steps index [] within (omega (arith, ends, opened.widths.few.bytes));
      }

  -- a text ends with the texts
  pub text_ends : (index : ℕ) (row : Text) → index < length (others_of parts) → IsTextRow parts index row → row.place + row.length ≤ table.bytes
  text_ends index row within is = omega (arith, text_within (others_of parts) index [] within, is.place, is.long, opened.head.bytes)

  pub text_read : (bytes : List ℕ) (index n offset : ℕ) (row : Text) → index < length (others_of parts)
      → IsTextRow parts index row → n ≡ row.length
      → offset ≡ table.offset + 56 + 16 * groups_in table.steps + table.step_bytes + 20 * table.scopes + 12 * table.files + 8 *
      table.texts + row.place → bytes ≡ take n (drop offset all)
      → slice_get (others_of parts) index ≡ Some bytes
  text_read bytes index n offset row within is long at came =
      let others : List (List ℕ) = others_of parts in
      let here : bytes ≡ get_or others index [] =
      came_as bytes n offset (length (get_or others index [])) (texts_offset parts + place_of others index) (long ∙ is.long)
      (omega (
        arith,
        at,
        is.place,
        ap groups_in opened.head.steps,
        opened.head.step_bytes,
        opened.head.scopes,
        opened.head.files,
        opened.head.texts,
      )) came ∙ text_there strings steps index [] within in
      slice_get-get_or others index [] within ∙ ap Some (sym here)

-- ---- what may be there

pub no_text : (parts : LineParts) (number : ℕ) (told : Option (List ℕ)) → number ≡ 0 → IsMaybeText parts number told → None ≡ told
no_text _ number None none is = refl
no_text _ number (Some told) none is = absurd (omega (arith, none, is.some))

pub some_text : (parts : LineParts) (number : ℕ) (told : Option (List ℕ)) → (number ≡ 0 → ⊥)
    → IsMaybeText parts number told → (t : List ℕ) × (told ≡ Some t) × IsTextNumber parts number t
some_text _ number None some is = absurd (some is)
some_text _ number (Some told) some is = (told, refl, is)

pub no_file : (parts : LineParts) (number : ℕ) (told : Option PathRecord) → number ≡ 0 → IsMaybeFile parts number told → None ≡ told
no_file _ number None none is = refl
no_file _ number (Some told) none is = absurd (omega (arith, none, is.some))

pub some_file : (parts : LineParts) (number : ℕ) (told : Option PathRecord) → (number ≡ 0 → ⊥)
    → IsMaybeFile parts number told → (path : PathRecord) × (told ≡ Some path) × IsFileNumber parts number path
some_file _ number None some is = absurd (some is)
some_file _ number (Some told) some is = (told, refl, is)

-- a path is its parts, and a frame its parts
pub same_path_parts : (base directory name : List ℕ) (told : PathRecord) → base ≡ told.base → directory ≡ told.directory
    → name ≡ told.name → record { base = base; directory = directory; name = name } ≡ told
same_path_parts base directory name told b d n = λ i. record { base = b i; directory = d i; name = n i }

pub same_frame_parts : (name : Option (List ℕ)) (path : Option PathRecord) (line column : ℕ) (told : FrameRecord) → name
    ≡ told.name → path ≡ told.path → line ≡ told.line → column ≡ told.column
    → record { name = name; path = path; line = line; column = column } ≡ told
same_frame_parts name path line column told n p l k = λ i. record { name = n i; path = p i; line = l i; column = k i }
