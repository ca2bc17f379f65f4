-- Steps of loops over numbers.
use Rattle.std.proofs.Common.{◌≡◌, ◌≢◌, ℕ, zero, suc, ◌+◌, ◌-◌, ◌<◌, ◌≤◌, nat_eq, true, false, cond, List, [], ◌∷◌, ◌++◌, map, length}
use Rattle.std.proofs.Common.{flat_map, reverse, get_or, take, drop, slice_get, Some, refl, sym, ap, ◌∙◌, arith, subst, append_assoc, All}
use Rattle.std.proofs.Common.{option_map}
use Rattle.std.specs.Int.{w32, w64, to_be_bytes}
use Rattle.std.specs.List.{concat}
use Rattle.std.proofs.lemmas.Bool.{eq-eqb, ne_eqb}
use Rattle.std.proofs.lemmas.List.{append-nil, at_drop_more, drop_all, flat_map_more, nil_from_length, reverse-append, take_more, drop_more, length-append}
use Rattle.std.proofs.lemmas.List.{take_all, map_more}
use Rattle.std.proofs.lemmas.List.Elements.{All-from_get_or}
use Rattle.std.proofs.lemmas.List.Folds.{concat-append}
use Rattle.std.proofs.lemmas.Option.{get_or_from_slice_get, slice_get-map}
pub use Rattle.std.proofs.lemmas.Result.{on_ok_weaker}
use Rattle.table_source_frames.specs.Numbering.{numbered_after, numbered_with, number_in}
use Rattle.table_source_frames.proofs.NumberingLemmas.{after-append}
use Rattle.table_checked_pages.specs.Groups.{bytes_of, group_rows}
use Rattle.table_source_frames.specs.LineText.{text_rows}
use Rattle.table_source_frames_build.specs.Kept.{KeptRecord, numbered_or, caller_in, location_key_at, scope_key_at, scope_numbers_of, IsKept}
use Rattle.table_source_frames_build.specs.Numbering.{IsNumber}
use Rattle.table_source_frames_build.specs.StepViews.{changed_after}
use Rattle.table_source_frames_build.specs.PartBytes.{file_row, file_rows, groups_by, scope_row, scope_rows, text_numbers, texts_at}
use Rattle.table_source_frames_build.specs.WholeText.{head_of, text_by, text_of_parts}
use Rattle.table_source_frames_build.specs.declared.parts.Parts.{Parts}
use Rattle.table_source_frames_build.specs.declared.keys.LocationKey.{LocationKey}
use Rattle.table_source_frames_build.specs.declared.keys.ScopeKey.{ScopeKey}
use Rattle.table_source_frames_build.specs.declared.step.Step.{Step}
use Rattle.table_source_frames_build.specs.declared.keys.FileKey.{FileKey}
use Rattle.table_source_frames_build.proofs.KeptLemmas.{scopes_none, scopes_step}
use Rattle.table_source_frames_build.proofs.FirstUsesLemmas.{at_each, exact_numbers}
use Rattle.table_source_frames_build.proofs.ChainLemmas.{scopes_are}

-- nothing more
pub after_none : (order : List ℕ) → order ≡ numbered_after nat_eq order []
unfolding numbered_after
after_none order = refl

-- those of one more
pub after_more : {X : Type 0} (f : X → List ℕ) (xs : List X) (i : ℕ) (d : X) (order now next : List ℕ) → i < length xs
    → next ≡ numbered_after nat_eq now (f (get_or xs i d)) → now ≡ numbered_after nat_eq order (flat_map f (take i xs))
    → next ≡ numbered_after nat_eq order (flat_map f (take (i + 1) xs))
after_more f xs i d order now next less step before =
    step ∙ ap (λ l. numbered_after nat_eq l (f (get_or xs i d))) before
    ∙ sym (after-append nat_eq exact_numbers order (flat_map f (take i xs)) (f (get_or xs i d)))
    ∙ ap (numbered_after nat_eq order) (flat_map_more f [] (take i xs) (get_or xs i d) ∙ ap (flat_map f) (sym (take_more xs i d less)))

pub after_both : (order one two xs ys : List ℕ) → one ≡ numbered_after nat_eq order xs → two
    ≡ numbered_after nat_eq one ys → two ≡ numbered_after nat_eq order (xs ++ ys)
after_both order one two xs ys a b = b ∙ ap (λ l. numbered_after nat_eq l ys) a ∙ sym (after-append nat_eq exact_numbers order xs ys)

-- three more
pub after_three : (f : ℕ → List ℕ) (order one two three : List ℕ) (x y z : ℕ) → one ≡ numbered_after nat_eq order (f x)
    → two ≡ numbered_after nat_eq one (f y) → three ≡ numbered_after nat_eq two (f z)
    → three ≡ numbered_after nat_eq order (flat_map f (x ∷ y ∷ z ∷ []))
after_three f order one two three x y z a b c =
    after_both order one three (f x) (f y ++ f z) a (after_both one two three (f y) (f z) b c)
    ∙ ap (λ l. numbered_after nat_eq order (f x ++ (f y ++ l))) (sym (append-nil (f z)))

-- the last one of some
pub after_last : (order next numbers rest : List ℕ) (n : ℕ) → numbers ≡ rest ++ n ∷ [] → next
    ≡ numbered_with nat_eq order n → numbered_after nat_eq next (reverse rest)
    ≡ numbered_after nat_eq order (reverse numbers)
unfolding numbered_after
after_last order next numbers rest n is step =
    ap (λ l. numbered_after nat_eq l (reverse rest)) step
    ∙ ap (numbered_after nat_eq order) (sym (reverse-append rest (n ∷ [])) ∙ ap reverse (sym is))

pub after_end : (order numbers whole : List ℕ) → length numbers ≡ 0 → numbered_after nat_eq order (reverse numbers) ≡ whole → order ≡ whole
unfolding numbered_after
after_end order numbers whole none e = sym (ap (λ l. numbered_after nat_eq order (reverse l)) (nil_from_length numbers none)) ∙ e

-- ---- scopes

pub pushed_on : (k : KeptRecord) (kept : IsKept k) (n : ℕ) (location : LocationKey) (key : ScopeKey) (old now whole : List ℕ) → n ≢ 0
    → n ≤ length k.locations → location ≡ location_key_at k n → key ≡ scope_key_at k location.scope → now ≡ old ++ location.scope ∷ []
    → old ++ scope_numbers_of k n ≡ whole → (key.caller < n) × (key.caller ≤ length k.locations) × (now ++ scope_numbers_of k key.caller ≡ whole)
pushed_on k kept zero location key old now whole some within is is_key push e = absurd (some refl)
pushed_on k kept (suc i) location key old now whole some within is is_key push e =
    let caller : key.caller ≡ caller_in k (location_key_at k (suc i)) = ap (λ (q : ScopeKey). q.caller) is_key ∙ ap (caller_in k) is in
    let below = (kept.each_location (suc i) (record { some = omega arith; within = within })).caller in (
      omega (arith, caller, below),
      omega (arith, caller, below, within),
      (λ j. push j ++ scope_numbers_of k (caller j))
          ∙ ap (λ (q : LocationKey). (old ++ q.scope ∷ []) ++ scope_numbers_of k (caller_in k (location_key_at k (suc i)))) is
          ∙ append_assoc old ((location_key_at k (suc i)).scope ∷ []) (scope_numbers_of k (caller_in k (location_key_at k (suc i))))
          ∙ ap (λ l. old ++ l) (sym (scopes_step k kept i within)) ∙ e,
    )

pub pushed_end : (k : KeptRecord) (n : ℕ) (old whole : List ℕ) → n ≡ 0 → old ++ scope_numbers_of k n ≡ whole → old ≡ whole
pushed_end k n old whole none e =
    sym (append-nil old) ∙ ap (λ l. old ++ l) (sym (ap (scope_numbers_of k) none ∙ scopes_none k)) ∙ e

pub scopes_all : (k : KeptRecord) (kept : IsKept k) (n count : ℕ) (before numbers : List ℕ) → n ≤ length k.locations
    → before ≡ [] → numbers ≡ before ++ scope_numbers_of k n → count ≡ length k.scopes → All (IsNumber count) numbers
scopes_all k kept n count before numbers within none is same =
    let here : numbers ≡ scope_numbers_of k n = is ∙ ap (λ l. l ++ scope_numbers_of k n) none in
    subst (λ (l : List ℕ). All (IsNumber count) l) (sym here)
    (All-from_get_or (IsNumber count) (scope_numbers_of k n) 0
    (λ i less. subst (λ c. IsNumber c (get_or (scope_numbers_of k n) i 0)) (sym same)
    (at_each (IsNumber (length k.scopes)) (scope_numbers_of k n) (scopes_are k kept n within) i less)))

-- ---- what is under a number

pub told_at : {K A : Type 0} (f : K → A) (keys : List K) (d : A) (n : ℕ) (x : K) → 0 < n → slice_get keys (n - 1) ≡ Some x → f x ≡ numbered_or (map f keys) d n
told_at f keys d zero x some e = absurd (omega arith)
told_at f keys d (suc i) x some e =
    let here : slice_get keys i ≡ Some x = subst (λ j. slice_get keys j ≡ Some x) (omega arith) e in
    sym (get_or_from_slice_get (map f keys) i (f x) d (slice_get-map f keys i ∙ ap (option_map f) here))

-- ---- changes

pub changed_next : (steps : List Step) (i : ℕ) (d : Step) (changed now whole : List Step) (before after : ℕ)
    → i < length steps → (get_or steps i d).location ≢ before → now ≡ changed ++ get_or steps i d ∷ [] → after
    ≡ (get_or steps i d).location
    → changed ++ changed_after before (drop i steps) ≡ whole → now ++ changed_after after (drop (i + 1) steps) ≡ whole
unfolding changed_after
changed_next steps i d changed now whole before after less other push moved e =
    let x : Step = get_or steps i d in
    let rest : List Step = drop (i + 1) steps in
    let here : changed_after before (drop i steps) ≡ changed_after before (x ∷ rest) = at_drop_more (changed_after before) steps i d less in
    let ne : nat_eq x.location before ≡ false = ne_eqb x.location before other in
    let step : changed_after before (x ∷ rest) ≡ x ∷ changed_after x.location rest =
    ap (λ b. cond b (changed_after before rest) (x ∷ changed_after x.location rest)) ne in
    (λ j. push j ++ changed_after (moved j) rest) ∙ append_assoc changed (x ∷ []) (changed_after x.location rest)
    ∙ ap (λ l. changed ++ l) (sym (here ∙ step)) ∙ e

pub changed_not : (steps : List Step) (i : ℕ) (d : Step) (changed whole : List Step) (before : ℕ) → i < length steps → (get_or steps i d).location ≡ before
    → changed ++ changed_after before (drop i steps) ≡ whole → changed ++ changed_after before (drop (i + 1) steps) ≡ whole
unfolding changed_after
changed_not steps i d changed whole before less same e =
    let x : Step = get_or steps i d in
    let rest : List Step = drop (i + 1) steps in
    let here : changed_after before (drop i steps) ≡ changed_after before (x ∷ rest) = at_drop_more (changed_after before) steps i d less in
    let eq : nat_eq x.location before ≡ true = eq-eqb x.location before same in
    let step : changed_after before (x ∷ rest) ≡ changed_after before rest =
    ap (λ b. cond b (changed_after before rest) (x ∷ changed_after x.location rest)) eq in
    ap (λ l. changed ++ l) (sym (here ∙ step)) ∙ e

pub callers_here : (before numbers callers : List ℕ) → before ≡ [] → numbers ≡ before ++ callers → numbers ≡ callers
callers_here before numbers callers none is = is ∙ ap (λ l. l ++ callers) none

-- ---- by what a call gave

-- ---- bytes, one part after another

-- rows of one more
pub rows_more : {X : Type 0} (f : X → List ℕ) (xs : List X) (i : ℕ) (d : X) (old now next : List ℕ) → i < length xs
    → next ≡ now ++ f (get_or xs i d) → now ≡ old ++ flat_map f (take i xs) → next ≡ old ++ flat_map f (take (i + 1) xs)
rows_more f xs i d old now next less step before =
    step ∙ ap (λ l. l ++ f (get_or xs i d)) before ∙ flat_map_more f old (take i xs) (get_or xs i d)
    ∙ ap (λ l. old ++ flat_map f l) (sym (take_more xs i d less))

pub two_parts : (old one two a b : List ℕ) → one ≡ old ++ a → two ≡ one ++ b → two ≡ old ++ (a ++ b)
two_parts old one two a b p q = q ∙ ap (λ l. l ++ b) p ∙ append_assoc old a b

-- ---- texts

pub concat_more : (f : ℕ → List ℕ) (xs : List ℕ) (i : ℕ) → i < length xs → concat (map f (take (i + 1) xs)) ≡ concat (map f (take i xs)) ++ f (get_or xs i 0)
concat_more f xs i less =
    ap concat (map_more f xs i 0 less) ∙ concat-append (map f (take i xs)) (f (get_or xs i 0) ∷ [])
    ∙ ap (λ l. concat (map f (take i xs)) ++ l) (append-nil (f (get_or xs i 0)))

pub concat_front : (f : ℕ → List ℕ) (n : ℕ) (xs : List ℕ) → length (concat (map f (take n xs))) ≤ length (concat (map f xs))
concat_front f zero xs = omega arith
concat_front f (suc n) [] = omega arith
concat_front f (suc n) (x ∷ xs) = omega (arith, concat_front f n xs, length-append (f x) (concat (map f (take n xs))), length-append (f x) (concat (map f xs)))

pub rest_is : (f : ℕ → List ℕ) (xs : List ℕ) (i : ℕ) → i < length xs → map f (drop i xs) ≡ f (get_or xs i 0) ∷ map f (drop (i + 1) xs)
rest_is f xs i less = ap (map f) (drop_more xs i 0 less)

pub rest_long : (f : ℕ → List ℕ) (xs : List ℕ) (i : ℕ) → i < length xs → length (concat (map f (drop i xs)))
    ≡ length (f (get_or xs i 0)) + length (concat (map f (drop (i + 1) xs)))
rest_long f xs i less = ap (λ (ts : List (List ℕ)). length (concat ts)) (rest_is f xs i less)
    ∙ length-append (f (get_or xs i 0)) (concat (map f (drop (i + 1) xs)))

-- the row of one more text
pub text_row_next : (f : ℕ → List ℕ) (xs : List ℕ) (i place len next : ℕ) (now one two whole : List ℕ) → i < length xs
    → len ≡ length (f (get_or xs i 0)) → next ≡ place + len → one ≡ now ++ to_be_bytes w32 place → two ≡ one
    ++ to_be_bytes w32 len
    → now ++ text_rows place (map f (drop i xs)) ≡ whole → two ++ text_rows next (map f (drop (i + 1) xs)) ≡ whole
unfolding text_rows
text_row_next f xs i place len next now one two whole less is_len is_next first second e =
    let rest : List (List ℕ) = map f (drop (i + 1) xs) in
    let row : List ℕ = to_be_bytes w32 place ++ to_be_bytes w32 len in
    (λ j. two_parts now one two (to_be_bytes w32 place) (to_be_bytes w32 len) first second j ++ text_rows (is_next j) rest)
    ∙ append_assoc now row (text_rows (place + len) rest)
    ∙ ap (λ n. now ++ ((to_be_bytes w32 place ++ to_be_bytes w32 n) ++ text_rows (place + n) rest)) is_len
    ∙ ap (λ ts. now ++ text_rows place ts) (sym (rest_is f xs i less))
    ∙ e

pub text_rows_end : (f : ℕ → List ℕ) (xs : List ℕ) (i place : ℕ) (now whole : List ℕ) → length xs ≤ i → now
    ++ text_rows place (map f (drop i xs)) ≡ whole → now ≡ whole
unfolding text_rows
text_rows_end f xs i place now whole past e = sym (append-nil now) ∙ ap (λ l. now ++ text_rows place (map f l)) (sym (drop_all i xs past)) ∙ e

-- one more text
pub text_next : (f : ℕ → List ℕ) (xs : List ℕ) (i : ℕ) (now next whole : List ℕ) → i < length xs → next ≡ now
    ++ f (get_or xs i 0) → now ++ concat (map f (drop i xs)) ≡ whole → next ++ concat (map f (drop (i + 1) xs)) ≡ whole
text_next f xs i now next whole less step e =
    ap (λ l. l ++ concat (map f (drop (i + 1) xs))) step ∙ append_assoc now (f (get_or xs i 0)) (concat (map f (drop (i + 1) xs)))
    ∙ ap (λ ts. now ++ concat ts) (sym (rest_is f xs i less)) ∙ e

pub texts_end : (f : ℕ → List ℕ) (xs : List ℕ) (i : ℕ) (now whole : List ℕ) → length xs ≤ i → now ++ concat (map f (drop i xs)) ≡ whole → now ≡ whole
texts_end f xs i now whole past e = sym (append-nil now) ∙ ap (λ l. now ++ concat (map f l)) (sym (drop_all i xs past)) ∙ e

pub rows_end : {X : Type 0} (f : X → List ℕ) (xs : List X) (i : ℕ) (old now : List ℕ) → length xs ≤ i → now ≡ old
    ++ flat_map f (take i xs) → now ≡ old ++ flat_map f xs
rows_end f xs i old now past e = e ∙ ap (λ l. old ++ flat_map f l) (take_all i xs past)

-- the rows of a file and of a scope
pub file_pushed : (text : ℕ → ℕ) (key of : FileKey) (a b c : ℕ) (old one two three : List ℕ) → key ≡ of → a
    ≡ text key.base → b ≡ text key.directory → c ≡ text key.name
    → one ≡ old ++ to_be_bytes w32 a → two ≡ one ++ to_be_bytes w32 b → three ≡ two ++ to_be_bytes w32 c → three ≡ old ++ file_row text of
unfolding file_row
file_pushed text key of a b c old one two three is p q r x y z = simp (z, y, x, p, q, r, is, append_assoc)

pub scope_pushed : (k : KeptRecord) (scopes files : List ℕ) (text : ℕ → ℕ) (key of : ScopeKey) (call : LocationKey) (a b c : ℕ)
    (old one two three four five : List ℕ) → key ≡ of → call ≡ location_key_at k key.caller → a ≡ text key.name → b
    ≡ number_in nat_eq files key.file → c ≡ number_in nat_eq scopes call.scope
    → one ≡ old ++ to_be_bytes w32 a → two ≡ one ++ to_be_bytes w32 b → three ≡ two ++ to_be_bytes w32 call.line → four
    ≡ three ++ to_be_bytes w32 call.column → five ≡ four ++ to_be_bytes w32 c
    → five ≡ old ++ scope_row k scopes files text of
unfolding scope_row
scope_pushed k scopes files text key of call a b c old one two three four five is at p q r v w x y z = simp (z, y, x, w, v, p, q, r, at, is, append_assoc)

-- the head of a table
pub head_pushed : (steps step_bytes scopes files texts bytes : ℕ) (old a b c d e f h : List ℕ) → a ≡ old
    ++ to_be_bytes w64 1 → b ≡ a ++ to_be_bytes w64 steps → c ≡ b ++ to_be_bytes w64 step_bytes → d ≡ c
    ++ to_be_bytes w64 scopes → e ≡ d ++ to_be_bytes w64 files → f ≡ e ++ to_be_bytes w64 texts → h ≡ f
    ++ to_be_bytes w64 bytes
    → h ≡ old ++ head_of steps step_bytes scopes files texts bytes
unfolding head_of
head_pushed steps step_bytes scopes files texts bytes old a b c d e f h p q r s t u v = simp (v, u, t, s, r, q, p, append_assoc)

-- all of a table
pub all_pushed : (k : KeptRecord) (steps : List Step) (parts : Parts) (len : ℕ) (groups step_bytes old a b c d e f h : List ℕ)
    → len ≡ length (concat (texts_at k parts.texts.uses.order.items))
    → groups ≡ group_rows 0 (groups_by k parts.scopes.order.items steps) → step_bytes ≡ bytes_of (groups_by k parts.scopes.order.items steps)
    → old ≡ [] → a ≡ old ++ head_of (length steps) (length step_bytes) (length parts.scopes.order.items) (length parts.files.order.items)
    (length parts.texts.uses.order.items) len → b ≡ a ++ groups → c ≡ b ++ step_bytes
    → d ≡ c ++ scope_rows k parts.scopes.order.items parts.files.order.items (text_numbers parts) parts.scopes.order.items
    → e ≡ d ++ file_rows k (text_numbers parts) parts.files.order.items → f ≡ e ++ text_rows 0 (texts_at k parts.texts.uses.order.items)
    → h ≡ f ++ concat (texts_at k parts.texts.uses.order.items) → h ≡ text_by k steps parts
unfolding text_of_parts
all_pushed k steps parts len groups step_bytes old a b c d e f h is rows bytes none p q r s t u v =
    simp (v, u, t, s, r, q, p, none, is, rows, bytes, append_assoc)

-- texts that are too long
pub too_much : (f : ℕ → List ℕ) (xs : List ℕ) (i left most len : ℕ) → i < length xs
    → left + length (concat (map f (take i xs))) ≡ most → len ≡ length (f (get_or xs i 0)) → (len ≤ left → ⊥)
    → most < length (concat (map f xs))
too_much f xs i left most len less so_far is more =
    omega (
      arith,
      so_far,
      is,
      more,
      concat_front f (i + 1) xs,
      ap length (concat_more f xs i less),
      length-append (concat (map f (take i xs))) (f (get_or xs i 0)),
    )

pub left_more : (f : ℕ → List ℕ) (xs : List ℕ) (i left most len next : ℕ) → i < length xs
    → left + length (concat (map f (take i xs))) ≡ most → len ≡ length (f (get_or xs i 0)) → next + len ≡ left
    → next + length (concat (map f (take (i + 1) xs))) ≡ most
left_more f xs i left most len next less so_far is e =
    omega (arith, so_far, is, e, ap length (concat_more f xs i less), length-append (concat (map f (take i xs))) (f (get_or xs i 0)))
