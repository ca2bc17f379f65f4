-- The head of a line table.
use Rattle.std.proofs.Common.{◌≡◌, ℕ, ◌+◌, ◌*◌, ◌≤◌, List, [], ◌∷◌, ◌++◌, get_or, length, take, drop}
use Rattle.std.proofs.Common.{refl, sym, ap, ◌∙◌, subst, inl, inr, arith, length-append, length-drop, lit<}
use Rattle.std.specs.Prelude.{Option, Some, None, MatchOption, filter_map}
use Rattle.std.proofs.lemmas.List.{drop_at, drop-drop}
use Rattle.std.proofs.lemmas.Option.{MatchOption-at_none, MatchOption-at_some}
use Rattle.std.specs.Int.{w64, from_be_bytes}
use Rattle.std.specs.List.{concat}
use Rattle.std.proofs.lemmas.Nat.{from_be_bytes-to_be_bytes_8}
use Rattle.dwarf_source_frames.specs.DebugSections.{debug_sections}
use Rattle.dwarf_source_frames.proofs.LawLemmas.{small_by}
use Rattle.table_checked_pages.specs.Views.{ArePagesOf}
use Rattle.table_checked_pages.specs.declared.pages.Pages.{Pages}
use Rattle.table_source_frames.specs.LineTable.{AreFew, IsLineTable, IsLineTextWithin, no_lines, room_of}
use Rattle.macho_symbols.specs.Symbols.{strings_of}
use Rattle.table_checked_pages.specs.Groups.{groups_in}
use Rattle.table_source_frames.specs.LineText.{LineParts, all_step_bytes, head_bytes, line_text, others_of, parts_of}
use Rattle.table_checked_pages.specs.Standing.{IsRestFrom}
use Rattle.table_source_frames.specs.Opened.{HaveFewLines, IsOpened}
use Rattle.table_source_frames.specs.Steps.{AreFrameSteps, StepRecord}
use Rattle.table_source_frames.specs.declared.opening.Head.{Head}
use Rattle.table_source_frames.specs.declared.table.LineTable.{LineTable}
use Rattle.table_source_frames.proofs.TablePartLemmas.{head_there, length-line_text}

length-no_lines : length no_lines ≡ 56
unfolding no_lines
length-no_lines = refl

pub table_long : (image bytes : List ℕ) → IsLineTable image bytes → 56 ≤ length bytes
table_long image bytes is = by_text is.is_text
  where
    by_text : IsLineTextWithin (room_of image) (strings_of image) is.steps bytes → 56 ≤ length bytes
    by_text (inl h) = omega (arith, ap length h.1, length-line_text (strings_of image) is.steps)
    by_text (inr h) = omega (arith, ap length h.1, length-no_lines)

-- the numbers that some bytes begin with, as a head is read
pub record IsHead (head : Head) (bytes : List ℕ) : Type 0 where
  pub lines : head.lines ≡ from_be_bytes w64 (take 8 (drop 0 bytes))
  pub steps : head.steps ≡ from_be_bytes w64 (take 8 (drop 8 bytes))
  pub step_bytes : head.step_bytes ≡ from_be_bytes w64 (take 8 (drop 16 bytes))
  pub scopes : head.scopes ≡ from_be_bytes w64 (take 8 (drop 24 bytes))
  pub files : head.files ≡ from_be_bytes w64 (take 8 (drop 32 bytes))
  pub texts : head.texts ≡ from_be_bytes w64 (take 8 (drop 40 bytes))
  pub bytes_of : head.bytes ≡ from_be_bytes w64 (take 8 (drop 48 bytes))

-- what was read from where a table stands is its head
pub head_read : (all bytes buf : List ℕ) (n offset : ℕ) (head : Head) → IsRestFrom all offset bytes → n ≡ 56 → buf
    ≡ take n (drop offset all) → IsHead head buf → IsHead head (take 56 bytes)
head_read all bytes buf n offset head stands long came is =
    subst (IsHead head) (came ∙ ap (λ k. take k (drop offset all)) long ∙ ap (take 56) stands.1) is

-- ---- the head of a table that has no lines

lines_of_none : from_be_bytes w64 (take 8 (drop 0 (take 56 no_lines))) ≡ 0
unfolding no_lines
lines_of_none = from_be_bytes-to_be_bytes_8 0 (lit< tt)

no_lines_read : (head : Head) (bytes : List ℕ) → bytes ≡ no_lines → IsHead head (take 56 bytes) → head.lines ≡ 0
no_lines_read head bytes e is = is.lines ∙ ap (λ b. from_be_bytes w64 (take 8 (drop 0 (take 56 b)))) e ∙ lines_of_none

-- ---- the head of one that has

-- the others are among the texts
few_others : (strings : List ℕ) (texts : List (Option (List ℕ))) → length (filter_map (λ (t : Option (List ℕ)). t) (drop (length strings) texts)) ≤ length texts
few_others strings texts = omega (arith, filtered (drop (length strings) texts), length-drop (length strings) texts)
  where
    filtered : (places : List (Option (List ℕ))) → length (filter_map (λ (t : Option (List ℕ)). t) places) ≤ length places
    filtered [] = omega arith
    filtered (None ∷ places) = omega (arith, filtered places)
    filtered (Some t ∷ places) = omega (arith, filtered places)

module _ (parts : LineParts) (few : AreFew parts) where
  lines_in : from_be_bytes w64 (take 8 (drop 0 (head_bytes parts))) ≡ 1
  unfolding head_bytes
  lines_in = from_be_bytes-to_be_bytes_8 1 (lit< tt)

  steps_in : from_be_bytes w64 (take 8 (drop 8 (head_bytes parts))) ≡ length parts.steps
  unfolding head_bytes
  steps_in = from_be_bytes-to_be_bytes_8 (length parts.steps) (omega (arith, few.steps))

  step_bytes_in : from_be_bytes w64 (take 8 (drop 16 (head_bytes parts))) ≡ length (all_step_bytes parts)
  unfolding head_bytes
  step_bytes_in = from_be_bytes-to_be_bytes_8 (length (all_step_bytes parts)) (omega (arith, few.step_bytes))

  scopes_in : from_be_bytes w64 (take 8 (drop 24 (head_bytes parts))) ≡ length parts.scopes
  unfolding head_bytes
  scopes_in = from_be_bytes-to_be_bytes_8 (length parts.scopes) (omega (arith, few.scopes))

  files_in : from_be_bytes w64 (take 8 (drop 32 (head_bytes parts))) ≡ length parts.files
  unfolding head_bytes
  files_in = from_be_bytes-to_be_bytes_8 (length parts.files) (omega (arith, few.files))

  texts_in : from_be_bytes w64 (take 8 (drop 40 (head_bytes parts))) ≡ length (others_of parts)
  unfolding head_bytes
  texts_in = from_be_bytes-to_be_bytes_8 (length (others_of parts)) (omega (arith, few.texts, few_others parts.strings parts.texts))

  bytes_in : from_be_bytes w64 (take 8 (drop 48 (head_bytes parts))) ≡ length (concat (others_of parts))
  unfolding head_bytes
  bytes_in = from_be_bytes-to_be_bytes_8 (length (concat (others_of parts))) (omega (arith, few.bytes))

-- what a head says of the table of some steps
record SaysParts (head : Head) (parts : LineParts) : Type 0 where
  lines : head.lines ≡ 1
  steps : head.steps ≡ length parts.steps
  step_bytes : head.step_bytes ≡ length (all_step_bytes parts)
  scopes : head.scopes ≡ length parts.scopes
  files : head.files ≡ length parts.files
  texts : head.texts ≡ length (others_of parts)
  bytes : head.bytes ≡ length (concat (others_of parts))

says_parts : (head : Head) (strings : List ℕ) (steps : List StepRecord) (bytes : List ℕ) → AreFew (parts_of strings steps)
    → bytes ≡ line_text strings steps → IsHead head (take 56 bytes) → SaysParts head (parts_of strings steps)
says_parts head strings steps bytes few e is =
    let parts : LineParts = parts_of strings steps in
    let there : take 56 bytes ≡ head_bytes parts = ap (take 56) e ∙ head_there strings steps in
    record {
      lines = is.lines ∙ ap (λ b. from_be_bytes w64 (take 8 (drop 0 b))) there ∙ lines_in parts few;
      steps = is.steps ∙ ap (λ b. from_be_bytes w64 (take 8 (drop 8 b))) there ∙ steps_in parts few;
      step_bytes = is.step_bytes ∙ ap (λ b. from_be_bytes w64 (take 8 (drop 16 b))) there ∙ step_bytes_in parts few;
      scopes = is.scopes ∙ ap (λ b. from_be_bytes w64 (take 8 (drop 24 b))) there ∙ scopes_in parts few;
      files = is.files ∙ ap (λ b. from_be_bytes w64 (take 8 (drop 32 b))) there ∙ files_in parts few;
      texts = is.texts ∙ ap (λ b. from_be_bytes w64 (take 8 (drop 40 b))) there ∙ texts_in parts few;
      bytes = is.bytes_of ∙ ap (λ b. from_be_bytes w64 (take 8 (drop 48 b))) there ∙ bytes_in parts few;
    }

-- ---- what is opened

-- the table with the numbers of a head
pub record HasHead (table : LineTable) (strings offset : ℕ) (head : Head) : Type 0 where
  pub strings_is : table.strings ≡ strings
  pub offset_is : table.offset ≡ offset
  pub steps : table.steps ≡ head.steps
  pub step_bytes : table.step_bytes ≡ head.step_bytes
  pub scopes : table.scopes ≡ head.scopes
  pub files : table.files ≡ head.files
  pub texts : table.texts ≡ head.texts
  pub bytes : table.bytes ≡ head.bytes

few_lines : (image : List ℕ) (steps : List StepRecord) → AreFrameSteps image steps → HaveFewLines steps
few_lines image steps are =
    λ k d lt. small_by (debug_sections image) (get_or steps k d).start (get_or steps k d).frames (are.each k d lt)

-- the rest of bytes after strings
pub after_strings : (all strings bytes : List ℕ) (from offset : ℕ) → IsRestFrom all from (strings ++ bytes)
    → from + length strings ≡ offset → IsRestFrom all offset bytes
after_strings all strings bytes from offset stands next = (
  omega (arith, stands.0, ap length stands.1, length-drop from all, length-append strings bytes, next),
  ap (λ k. drop k all) (sym next) ∙ sym (drop-drop (length strings) from all) ∙ ap (drop (length strings)) stands.1
      ∙ drop_at strings bytes (length strings) refl,
)

pub opens_none : (image bytes : List ℕ) (head : Head) → IsLineTable image bytes → IsHead head (take 56 bytes) → head.lines ≡ 0 → bytes ≡ no_lines
opens_none image bytes head is has none = by_text is.is_text
  where
    by_text : IsLineTextWithin (room_of image) (strings_of image) is.steps bytes → bytes ≡ no_lines
    by_text (inl h) = absurd (omega (arith, none, (says_parts head (strings_of image) is.steps bytes h.0.few h.1 has).lines))
    by_text (inr h) = h.1

-- the table of an image was opened
abbrev pub Opens : List ℕ → List ℕ → List ℕ → Pages → LineTable → Type 0
Opens image all text pages table =
    (steps : List StepRecord) × AreFrameSteps image steps × IsOpened table pages text all (strings_of image) steps

pub opens_some : (image all bytes text : List ℕ) (pages : Pages) (strings offset : ℕ) (head : Head) (table : LineTable)
    → ArePagesOf pages text all → IsRestFrom all strings (strings_of image ++ bytes) → strings + length (strings_of image) ≡ offset
    → IsLineTable image bytes → IsHead head (take 56 bytes)
    → (head.lines ≡ 0 → ⊥) → HasHead table strings offset head → Opens image all text pages table
opens_some image all bytes text pages strings offset head table are stands next is has some made = by_text is.is_text
  where
    by_text : IsLineTextWithin (room_of image) (strings_of image) is.steps bytes → Opens image all text pages table
    by_text (inl h) =
        let says = says_parts head (strings_of image) is.steps bytes h.0.few h.1 has in (
          is.steps,
          is.are_steps,
          record {
            are_pages = are;
            stands =
                subst (λ n. IsRestFrom all n (strings_of image ++ line_text (strings_of image) is.steps)) (sym made.strings_is)
                (stands.0, stands.1 ∙ ap (λ b. strings_of image ++ b) h.1);
            widths = record { starts = is.are_steps.below; lines = few_lines image is.steps is.are_steps; few = h.0.few };
            head = record {
              strings = omega (arith, made.strings_is, made.offset_is, next);
              steps = made.steps ∙ says.steps;
              step_bytes = made.step_bytes ∙ says.step_bytes;
              scopes = made.scopes ∙ says.scopes;
              files = made.files ∙ says.files;
              texts = made.texts ∙ says.texts;
              bytes = made.bytes ∙ says.bytes;
            };
          },
        )
    by_text (inr h) = absurd (some (no_lines_read head bytes h.1 has))

pub opens_not : (image all bytes : List ℕ) (offset size : ℕ) (head : Head) → IsRestFrom all offset bytes → IsLineTable image bytes → IsHead head (take 56 bytes)
    → (head.lines ≡ 0 → ⊥) → length all ≡ size
    → (offset + 56 + 16 * groups_in head.steps + head.step_bytes + 20 * head.scopes + 12 * head.files + 8 * head.texts + head.bytes ≡ size → ⊥) → ⊥
opens_not image all bytes offset size head stands is has some long none = by_text is.is_text
  where
    by_text : IsLineTextWithin (room_of image) (strings_of image) is.steps bytes → ⊥
    by_text (inl h) =
        let says = says_parts head (strings_of image) is.steps bytes h.0.few h.1 has in
        none (omega (
          arith,
          stands.0,
          ap length stands.1,
          length-drop offset all,
          ap length h.1,
          length-line_text (strings_of image) is.steps,
          long,
          ap groups_in says.steps,
          says.step_bytes,
          says.scopes,
          says.files,
          says.texts,
          says.bytes,
        ))
    by_text (inr h) = some (no_lines_read head bytes h.1 has)

-- ---- what was opened

pub found_some : (image all bytes text : List ℕ) (pages : Pages) (o : Option LineTable) (table : LineTable) → o ≡ Some table
    → MatchOption o (bytes ≡ no_lines) (Opens image all text pages) → Opens image all text pages table
found_some image all bytes text pages o table is found = MatchOption-at_some (bytes ≡ no_lines) (Opens image all text pages) table is found

pub found_none : (image all bytes text : List ℕ) (pages : Pages) (o : Option LineTable) → o ≡ None
    → MatchOption o (bytes ≡ no_lines) (Opens image all text pages) → bytes ≡ no_lines
found_none image all bytes text pages o is found = MatchOption-at_none (bytes ≡ no_lines) (Opens image all text pages) is found
