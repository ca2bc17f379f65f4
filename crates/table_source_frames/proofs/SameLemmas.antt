-- The tests of equality of texts, paths, frames and chains.
use Rattle.std.proofs.Common.{◌≡◌, Bool, true, ◌==◌, ◌&&◌, refl, sym, ap, Some, None}
use Rattle.std.specs.Option.{option_eq}
use Rattle.std.specs.Cmp.Lexicographic.{pointwise_decides, bytes_decides}
use Rattle.std.proofs.lemmas.Bool.{and_parts, and_from, eqb-true, eq-eqb, false≢true}
use Rattle.std.proofs.lemmas.Option.{none-some, same_Some}
use Rattle.dwarf_lines.specs.Paths.{PathRecord}
use Rattle.dwarf_source_frames.specs.Frames.{FrameRecord}
use Rattle.table_source_frames.specs.LineText.{same_place}
use Rattle.table_source_frames.specs.Numbering.{same_text, same_path, same_frame, same_chain}
use Rattle.table_source_frames.proofs.NumberingLemmas.{IsExact}

pub text_decides : IsExact same_text
text_decides x y = bytes_decides x y

maybe_decides : {A : Type 0} (same : A → A → Bool) → IsExact same → IsExact (option_eq same)
maybe_decides same decides None None = (λ e. refl, λ e. refl)
maybe_decides same decides None (Some y) = (λ e. absurd (false≢true e), λ e. absurd (none-some y e))
maybe_decides same decides (Some x) None = (λ e. absurd (false≢true e), λ e. absurd (none-some x (sym e)))
maybe_decides same decides (Some x) (Some y) = (λ e. ap Some ((decides x y).0 e), λ e. (decides x y).1 (same_Some x y e))

pub place_decides : IsExact same_place
place_decides x y = maybe_decides same_text text_decides x y

pub path_decides : IsExact same_path
unfolding same_path
path_decides x y = (to, from)
  where
    to : same_path x y ≡ true → x ≡ y
    to e =
        let one = and_parts (same_text x.base y.base && same_text x.directory y.directory) (same_text x.name y.name) e in
        let two = and_parts (same_text x.base y.base) (same_text x.directory y.directory) one.0 in
        let base : x.base ≡ y.base = (text_decides x.base y.base).0 two.0 in
        let directory : x.directory ≡ y.directory = (text_decides x.directory y.directory).0 two.1 in
        let name : x.name ≡ y.name = (text_decides x.name y.name).0 one.1 in
        λ i. record { base = base i; directory = directory i; name = name i }

    from : x ≡ y → same_path x y ≡ true
    from e =
        and_from (same_text x.base y.base && same_text x.directory y.directory) (same_text x.name y.name)
        (and_from (same_text x.base y.base) (same_text x.directory y.directory)
        ((text_decides x.base y.base).1 (ap (λ (p : PathRecord). p.base) e))
        ((text_decides x.directory y.directory).1 (ap (λ (p : PathRecord). p.directory) e)))
        ((text_decides x.name y.name).1 (ap (λ (p : PathRecord). p.name) e))

number_decides : IsExact ◌==◌
number_decides x y = (eqb-true x y, eq-eqb x y)

pub frame_decides : IsExact same_frame
unfolding same_frame
frame_decides x y = (to, from)
  where
    to : same_frame x y ≡ true → x ≡ y
    to e =
        let one = and_parts (option_eq same_text x.name y.name && option_eq same_path x.path y.path && (x.line == y.line)) (x.column == y.column) e in
        let two = and_parts (option_eq same_text x.name y.name && option_eq same_path x.path y.path) (x.line == y.line) one.0 in
        let three = and_parts (option_eq same_text x.name y.name) (option_eq same_path x.path y.path) two.0 in
        let name : x.name ≡ y.name = (maybe_decides same_text text_decides x.name y.name).0 three.0 in
        let path : x.path ≡ y.path = (maybe_decides same_path path_decides x.path y.path).0 three.1 in
        let line : x.line ≡ y.line = (number_decides x.line y.line).0 two.1 in
        let column : x.column ≡ y.column = (number_decides x.column y.column).0 one.1 in
        λ i. record { name = name i; path = path i; line = line i; column = column i }

    from : x ≡ y → same_frame x y ≡ true
    from e =
        and_from (option_eq same_text x.name y.name && option_eq same_path x.path y.path && (x.line == y.line)) (x.column == y.column)
        (and_from (option_eq same_text x.name y.name && option_eq same_path x.path y.path) (x.line == y.line)
        (and_from (option_eq same_text x.name y.name) (option_eq same_path x.path y.path)
        ((maybe_decides same_text text_decides x.name y.name).1 (ap (λ (f : FrameRecord). f.name) e))
        ((maybe_decides same_path path_decides x.path y.path).1 (ap (λ (f : FrameRecord). f.path) e)))
        ((number_decides x.line y.line).1 (ap (λ (f : FrameRecord). f.line) e)))
        ((number_decides x.column y.column).1 (ap (λ (f : FrameRecord). f.column) e))

pub chain_decides : IsExact same_chain
chain_decides x y = pointwise_decides frame_decides x y
