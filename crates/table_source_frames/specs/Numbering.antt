-- Elements that are numbered from 1 on, in the order of their first occurrence.
use Rattle.std.specs.Prelude.{◌==◌, ◌&&◌, ℕ, Bool, List, [], ◌∷◌, ◌++◌, Option, nat_eq, unwrap_or, if◌then◌else◌}
use Rattle.std.specs.List.{list_any, position_from}
use Rattle.std.specs.Option.{option_eq, option_map_or}
use Rattle.std.specs.Cmp.Lexicographic.{pointwise}
use Rattle.dwarf_lines.specs.Paths.{PathRecord}
use Rattle.dwarf_source_frames.specs.Frames.{FrameRecord}

-- whether two texts are equal
abbrev pub same_text : List ℕ → List ℕ → Bool
same_text one other = pointwise nat_eq one other

-- whether two paths are equal, part by part
unfoldable pub same_path : PathRecord → PathRecord → Bool
same_path one other =
    same_text one.base other.base && same_text one.directory other.directory && same_text one.name other.name

-- whether two frames are equal
unfoldable pub same_frame : FrameRecord → FrameRecord → Bool
same_frame one other =
    option_eq same_text one.name other.name && option_eq same_path one.path other.path
    && (one.line == other.line) && (one.column == other.column)

-- whether two chains of frames are equal
abbrev pub same_chain : List FrameRecord → List FrameRecord → Bool
same_chain one other = pointwise same_frame one other

-- the numbered elements after one more: it gets the next number, unless it has one
abbrev pub numbered_with : {A : Type 0} → (A → A → Bool) → List A → A → List A
numbered_with same numbered x = if list_any (same x) numbered then numbered else numbered ++ x ∷ []

-- the numbered elements after some more
unfoldable pub numbered_after : {A : Type 0} → (A → A → Bool) → List A → List A → List A
numbered_after same numbered [] = numbered
numbered_after same numbered (x ∷ xs) = numbered_after same (numbered_with same numbered x) xs

-- the distinct elements of a list, in the order of their first occurrence
abbrev pub distinct : {A : Type 0} → (A → A → Bool) → List A → List A
distinct same all = numbered_after same [] all

-- the number of an element, from 1 on; 0 if it has none
unfoldable pub number_in : {A : Type 0} → (A → A → Bool) → List A → A → ℕ
number_in same numbered x = unwrap_or (position_from (same x) 1 numbered) 0

-- the number of an element; 0 if there is no element
abbrev pub number_or_zero : {A : Type 0} → (A → A → Bool) → List A → Option A → ℕ
number_or_zero same numbered maybe = option_map_or (number_in same numbered) maybe 0
