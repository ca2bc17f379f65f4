-- Rows of the entries that pass a test: of a run, of two tests, of several lists.
use Rattle.std.proofs.Common.{◌≡◌, ℕ, zero, suc, ◌+◌, ◌<◌, ◌≤◌, ◌⊎◌, Bool, true, false, cond, ◌&&◌, ◌||◌, List, [], ◌∷◌}
use Rattle.std.proofs.Common.{◌++◌, length, map, take, drop, get_or, refl, sym, ap, ◌∙◌, subst, inl, inr, arith, eqb}
use Rattle.std.specs.Prelude.{filter}
use Rattle.std.specs.List.{All, AllZip, Contains, enumerate_from}
use Rattle.std.proofs.lemmas.Bool.{and_from, and_parts, or_cases, true≢false}
use Rattle.std.proofs.lemmas.List.{drop-append-le, take-append-le}
use Rattle.std.proofs.lemmas.List.Elements.{All-contains, Contains-append_cases, Contains-append_left, Contains-append_right}
use Rattle.std.proofs.lemmas.Slice.Zip.{seconds-zip}
use Rattle.archive_core.specs.Part.{is_under}
use Rattle.archive_core.specs.declared.find.FindRow.{FindRow}
use Rattle.archive_core.proofs.Members.{in_cons, in_filter, in_front, in_map, in_rest, to_filter, to_map}
use Rattle.index_format.specs.Entry.{HasItsFields, entry_bytes, has_tag, placed_bytes}
use Rattle.index_format.specs.Runs.{is_tagged}
use Rattle.index_format.specs.Spread.{AreNumbered, HasTagIfRead}
use Rattle.index_format.specs.declared.entry.IndexEntry.{IndexEntry}
use Rattle.command_given_indexes.specs.Rows.{AreRowsAmong, IsEntryRow}

-- ---- rows one by one

zip_of : (es : List (List ℕ)) (rows : List FindRow) (row : FindRow) → AllZip IsEntryRow es rows → Contains rows row
    → (e : List ℕ) × Contains es e × IsEntryRow e row
zip_of [] [] row all h = absurd (omega (arith, h.1))
zip_of [] (r ∷ rows) row all h = absurd all
zip_of (e ∷ es) [] row all h = absurd all
zip_of (e ∷ es) (r ∷ rows) row all h = elim (in_cons r rows row h) [
  | inl same ↦ (e, in_front e es, subst (IsEntryRow e) same all.0)
  | inr there ↦ let one = zip_of es rows row all.1 there in (one.0, in_rest e es one.0 one.1, one.2)
]

to_zip : (es : List (List ℕ)) (rows : List FindRow) (e : List ℕ) → AllZip IsEntryRow es rows → Contains es e
    → (row : FindRow) × Contains rows row × IsEntryRow e row
to_zip [] rows e all h = absurd (omega (arith, h.1))
to_zip (x ∷ es) [] e all h = absurd all
to_zip (x ∷ es) (r ∷ rows) e all h = elim (in_cons x es e h) [
  | inl same ↦ (r, in_front r rows, subst (λ (y : List ℕ). IsEntryRow y r) same all.0)
  | inr there ↦ let one = to_zip es rows e all.1 there in (one.0, in_rest r rows one.0 one.1, one.2)
]

-- ---- an entry with its claim has the row that it has without

there_in : (n : ℕ) (xs ys : List ℕ) (d : ℕ) → n < length xs → get_or (xs ++ ys) n d ≡ get_or xs n d
there_in n [] ys d lt = absurd (omega (arith, lt))
there_in zero (x ∷ xs) ys d lt = refl
there_in (suc n) (x ∷ xs) ys d lt = there_in n xs ys d (omega (arith, lt))

long_drop : (n : ℕ) (xs : List ℕ) → n ≤ length xs → n + length (drop n xs) ≡ length xs
long_drop zero xs le = omega arith
long_drop (suc n) [] le = absurd (omega (arith, le))
long_drop (suc n) (x ∷ xs) le = let more = long_drop n xs (omega (arith, le)) in omega (arith, more)

part_kept : (n m : ℕ) (xs ys : List ℕ) → n + m ≤ length xs → take m (drop n (xs ++ ys)) ≡ take m (drop n xs)
part_kept n m xs ys le =
    let front : n ≤ length xs = omega (arith, le) in
    let rest : m ≤ length (drop n xs) = omega (arith, le, long_drop n xs front) in
    ap (take m) (drop-append-le n xs ys front) ∙ take-append-le m (drop n xs) ys rest

with_claim : (a b : List ℕ) (row : FindRow) → length a ≡ 74 → IsEntryRow a row → IsEntryRow (a ++ b) row
with_claim a b row long is = record {
  is_key = is.is_key;
  key_is = is.key_is ∙ sym (part_kept 1 24 a b (omega (arith, long)));
  digest_is = is.digest_is ∙ sym (part_kept 25 32 a b (omega (arith, long)));
  tag_is = is.tag_is ∙ sym (there_in 0 a b 0 (omega (arith, long)));
  kind_is = is.kind_is ∙ sym (there_in 57 a b 0 (omega (arith, long)));
}

row_with_claim : (x : IndexEntry) (row : FindRow) → HasItsFields x → IsEntryRow (placed_bytes x) row → IsEntryRow (entry_bytes x) row
unfolding entry_bytes
row_with_claim x row fields is = with_claim (placed_bytes x) _ row fields.placed.long is

-- ---- those of a run

pub map_cond : {X Y : Type 0} (f : X → Y) (b : Bool) (x : X) (xs : List X) → map f (cond b (x ∷ xs) xs) ≡ cond b (f x ∷ map f xs) (map f xs)
map_cond f true x xs = refl
map_cond f false x xs = refl

without_numbers : (passes : List ℕ → Bool) (n : ℕ) (es : List (List ℕ))
    → map (λ (x : ℕ × List ℕ). x.1) (filter (λ (x : ℕ × List ℕ). passes x.1) (enumerate_from n es)) ≡ filter passes es
without_numbers passes n [] = refl
without_numbers passes n (e ∷ es) =
    map_cond (λ (x : ℕ × List ℕ). x.1) (passes e) (n, e) (filter (λ (x : ℕ × List ℕ). passes x.1) (enumerate_from (n + 1) es))
    ∙ ap (λ (l : List (List ℕ)). cond (passes e) (e ∷ l) l) (without_numbers passes (n + 1) es)

-- they are the entries that pass
pub run_is : (passes : List ℕ → Bool) (es : List (List ℕ)) (numbers : List ℕ) (run : List (List ℕ)) → AreNumbered passes es numbers run
    → run ≡ filter passes es
run_is passes es numbers run h =
    sym (seconds-zip numbers run (sym h.many)) ∙ ap (map (λ (x : ℕ × List ℕ). x.1)) h.are ∙ without_numbers passes 0 es

pub rows_of_run : (run : List IndexEntry) (es : List (List ℕ)) (passes : List ℕ → Bool) → map entry_bytes run ≡ filter passes es
    → All HasItsFields run → (rows : List FindRow) → AllZip IsEntryRow (map placed_bytes run) rows → AreRowsAmong passes es rows
rows_of_run run es passes are fields rows each = record {
  of_entries = λ row there.
      let placed = zip_of (map placed_bytes run) rows row each there in
      let x = in_map placed_bytes run placed.0 placed.1 in
      let has = in_filter passes es (entry_bytes x.0)
      (subst (λ (l : List (List ℕ)). Contains l (entry_bytes x.0)) are (to_map entry_bytes run x.0 x.1)) in (
        entry_bytes x.0,
        has.0,
        has.1,
        row_with_claim x.0 row (All-contains HasItsFields run x.0 fields x.1) (subst (λ (e : List ℕ). IsEntryRow e row) x.2 placed.2),
      );
  whole = λ entry there is.
      let x = in_map entry_bytes run entry (subst (λ (l : List (List ℕ)). Contains l entry) (sym are) (to_filter passes es entry there is)) in
      let row = to_zip (map placed_bytes run) rows (placed_bytes x.0) each (to_map placed_bytes run x.0 x.1) in (
        row.0,
        row.1,
        subst (λ (e : List ℕ). IsEntryRow e row.0) (sym x.2)
            (row_with_claim x.0 row.0 (All-contains HasItsFields run x.0 fields x.1) row.2),
      );
}

-- ---- those that pass one of two tests

pub rows_either : (p q r : List ℕ → Bool) (es : List (List ℕ)) (rows more : List FindRow) → AreRowsAmong p es rows → AreRowsAmong q es more
    → ((e : List ℕ) → Contains es e → p e ≡ true → r e ≡ true) → ((e : List ℕ) → Contains es e → q e ≡ true → r e ≡ true)
    → ((e : List ℕ) → Contains es e → r e ≡ true → (p e ≡ true) ⊎ (q e ≡ true)) → AreRowsAmong r es (rows ++ more)
rows_either p q r es rows more first second from_p from_q to = record {
  of_entries = λ row there. elim (Contains-append_cases rows more row there) [
    | inl h ↦ let one = first.of_entries row h in (one.0, one.1, from_p one.0 one.1 one.2, one.3)
    | inr h ↦ let one = second.of_entries row h in (one.0, one.1, from_q one.0 one.1 one.2, one.3)
  ];
  whole = λ e there is. elim (to e there is) [
    | inl h ↦ let one = first.whole e there h in (one.0, Contains-append_left rows more one.0 one.1, one.2)
    | inr h ↦ let one = second.whole e there h in (one.0, Contains-append_right rows more one.0 one.1, one.2)
  ];
}

pub none_under : (prefix : List ℕ) → 0 < length prefix → is_under prefix [] ≡ false
unfolding is_under
none_under [] some = absurd (omega (arith, some))
none_under (x ∷ xs) some = refl

tag_under : (prefix e : List ℕ) → 0 < length prefix → HasTagIfRead e → is_under prefix e ≡ true → has_tag e ≡ true
tag_under prefix e some (inl none) is = absurd (true≢false (sym is ∙ ap (is_under prefix) none ∙ none_under prefix some))
tag_under prefix e some (inr tag) is = tag

tag_of : (t : ℕ) (u : Bool) → (eqb t 1 || eqb t 2) ≡ true → u ≡ true → ((eqb t 1 && u) ≡ true) ⊎ ((eqb t 2 && u) ≡ true)
tag_of t u tag is = elim (or_cases (eqb t 1) (eqb t 2) tag) [
  | inl h ↦ inl (and_from (eqb t 1) u h is)
  | inr h ↦ inr (and_from (eqb t 2) u h is)
]

-- the retirements and the admissions under a prefix
pub rows_of_tags : (prefix : List ℕ) (es : List (List ℕ)) (rows more : List FindRow) → 0 < length prefix → All HasTagIfRead es
    → AreRowsAmong (is_tagged 1 prefix) es rows → AreRowsAmong (is_tagged 2 prefix) es more
    → AreRowsAmong (is_under prefix) es (rows ++ more)
rows_of_tags prefix es rows more some tags first second =
    rows_either (is_tagged 1 prefix) (is_tagged 2 prefix) (is_under prefix) es rows more first second
    (λ e there is. (and_parts (eqb (get_or e 0 0) 1) (is_under prefix e) is).1) (λ e there is. (and_parts (eqb (get_or e 0 0) 2) (is_under prefix e) is).1)
    (λ e there is. tag_of (get_or e 0 0) (is_under prefix e) (tag_under prefix e some (All-contains HasTagIfRead es e tags there) is) is)

-- ---- those of two lists

pub rows_both : (p : List ℕ → Bool) (es fs : List (List ℕ)) (rows more : List FindRow) → AreRowsAmong p es rows
    → AreRowsAmong p fs more → AreRowsAmong p (es ++ fs) (rows ++ more)
rows_both p es fs rows more first second = record {
  of_entries = λ row there. elim (Contains-append_cases rows more row there) [
    | inl h ↦ let one = first.of_entries row h in (one.0, Contains-append_left es fs one.0 one.1, one.2, one.3)
    | inr h ↦ let one = second.of_entries row h in (one.0, Contains-append_right es fs one.0 one.1, one.2, one.3)
  ];
  whole = λ e there is. elim (Contains-append_cases es fs e there) [
    | inl h ↦ let one = first.whole e h is in (one.0, Contains-append_left rows more one.0 one.1, one.2)
    | inr h ↦ let one = second.whole e h is in (one.0, Contains-append_right rows more one.0 one.1, one.2)
  ];
}
