-- The ranges of each function among those of all.
use Rattle.std.proofs.Common.{◌≡◌, ℕ, ◌+◌, ◌-◌, List, [], ◌∷◌, ◌++◌, length, drop, slice_get, take, Some, refl, sym, ap, ◌∙◌, arith}
use Rattle.std.specs.List.{flat_map}
use Rattle.std.proofs.lemmas.List.{append-nil, drop_at, length-append, take-append-drop, take_at, take_more}
use Rattle.std.proofs.lemmas.List.Concat.{flat_map-append}
use Rattle.std.proofs.lemmas.Option.{get_or_from_slice_get, slice_get_within}
use Rattle.dwarf_ranges.specs.declared.range.CodeRange.{CodeRange}
use Rattle.dwarf_functions.specs.Taking.{AreOf, AreParts}
use Rattle.dwarf_functions.specs.UnitFunctions.{FunctionRecord}
use Rattle.dwarf_functions.specs.declared.functions.Function.{Function}
use Rattle.dwarf_functions.proofs.MakingLemmas.{get_there}
use Rattle.dwarf_functions.proofs.TakingLemmas.{drop_function}

abbrev pub all_ranges : List FunctionRecord → List CodeRange
all_ranges of = flat_map (λ r. r.ranges) of

take_next : (of : List FunctionRecord) (i : ℕ) (f : FunctionRecord) → slice_get of i ≡ Some f → take (i + 1) of ≡ take i of ++ f ∷ []
take_next of i f is = take_more of i f (slice_get_within of i f is) ∙ ap (λ (g : FunctionRecord). take i of ++ g ∷ []) (get_or_from_slice_get of i f f is)

ranges_next : (of : List FunctionRecord) (i : ℕ) (f : FunctionRecord) → slice_get of i ≡ Some f
    → all_ranges (take (i + 1) of) ≡ all_ranges (take i of) ++ f.ranges
ranges_next of i f is =
    ap all_ranges (take_next of i f is)
    ∙ (flat_map-append (λ (r : FunctionRecord). r.ranges) (take i of) (f ∷ [])
    ∙ ap (λ (rs : List CodeRange). all_ranges (take i of) ++ rs) (append-nil f.ranges))

pub end_next : (of : List FunctionRecord) (i : ℕ) (f : FunctionRecord) → slice_get of i ≡ Some f
    → length (all_ranges (take (i + 1) of)) ≡ length (all_ranges (take i of)) + length f.ranges
end_next of i f is = ap (λ (rs : List CodeRange). length rs) (ranges_next of i f is) ∙ length-append (all_ranges (take i of)) f.ranges

split_at : (of : List FunctionRecord) (i : ℕ) (f : FunctionRecord) → slice_get of i ≡ Some f → all_ranges of
    ≡ all_ranges (take i of) ++ (f.ranges ++ all_ranges (drop (i + 1) of))
split_at of i f is =
    ap all_ranges (sym (take-append-drop i of) ∙ ap (λ (rest : List FunctionRecord). take i of ++ rest) (drop_function of i f is))
    ∙ flat_map-append (λ (r : FunctionRecord). r.ranges) (take i of) (f ∷ drop (i + 1) of)

-- those of one function
pub part_of : (of : List FunctionRecord) (ranges : List CodeRange) (i begin end : ℕ) (f : FunctionRecord) → ranges
    ≡ all_ranges of → slice_get of i ≡ Some f → begin ≡ length (all_ranges (take i of))
    → end ≡ length (all_ranges (take (i + 1) of)) → take (end - begin) (drop begin ranges) ≡ f.ranges
part_of of ranges i begin end f are is from to =
    let size : end - begin ≡ length f.ranges = let n = end_next of i f is in omega (arith, n, from, to) in
    let rest : drop begin ranges ≡ f.ranges ++ all_ranges (drop (i + 1) of) =
    ap (λ (rs : List CodeRange). drop begin rs) (are ∙ split_at of i f is)
    ∙ drop_at (all_ranges (take i of)) (f.ranges ++ all_ranges (drop (i + 1) of)) begin (sym from) in
    ap (λ n. take n (drop begin ranges)) size ∙ (ap (λ (rs : List CodeRange). take (length f.ranges) rs) rest
    ∙ take_at f.ranges (all_ranges (drop (i + 1) of)) (length f.ranges) refl)

-- functions of records have ranges one after another
pub are_parts : (of : List FunctionRecord) (functions : List Function) (ranges : List CodeRange) → AreOf of functions ranges → AreParts functions ranges
are_parts of functions ranges are = record {
  within = λ i f is.
      let r = get_there of i (let w = slice_get_within functions i f is in let n = are.count in omega (arith, w, n)) in
      let e = are.ends i f is in let s = end_next of i r.0 r.1 in
      let all = ap (λ (rs : List CodeRange). length rs) (are.ranges_are ∙ split_at of i r.0 r.1) in
      let n = length-append (all_ranges (take i of)) (r.0.ranges ++ all_ranges (drop (i + 1) of)) in
      let m = length-append r.0.ranges (all_ranges (drop (i + 1) of)) in omega (arith, e, s, all, n, m);
  rise = λ i f g is next.
      let r = get_there of (i + 1) (let w = slice_get_within functions (i + 1) g next in let n = are.count in omega (arith, w, n)) in
      let e = are.ends i f is in let d = are.ends (i + 1) g next in let s = end_next of (i + 1) r.0 r.1 in omega (arith, e, d, s);
}
