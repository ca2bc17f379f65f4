-- What the groups of rows hold, and how many slices answer in them, where rows ascend by key.
use Rattle.std.proofs.Common.{◌≡◌, ◌≢◌, ◌∙◌, ℕ, List, [], ◌∷◌, Bool, false, ◌&&◌, ◌==◌, refl, sym, ap, arith, subst, map, length}
use Rattle.std.specs.declared.cmp.Ordering.{Ordering}
use Rattle.std.specs.declared.cmp.Ordering.TheVariants.{Less, Equal, Greater}
use Rattle.std.specs.Ordering.{nat_cmp, ordering_then, ordering_reverse, is_eq}
use Rattle.std.specs.Str.{bytes_eq}
use Rattle.std.specs.Cmp.{IsTotalOrder, unsigned_tied, both_tied, tied_itself}
use Rattle.std.specs.Cmp.Lexicographic.{slice_cmp, nat_list_cmp_total, on_texts}
use Rattle.std.proofs.lemmas.Cmp.{then_total, on_total, nat_cmp_total}
use Rattle.std.proofs.lemmas.Map.Text.{is_eq-slice_cmp}
use Rattle.std.proofs.lemmas.Slice.Eq.{bytes_eq-Decides}
use Rattle.std.specs.List.{AllByRecursion, All, Contains, filter, count_by, flat_map, slice_index_or}
use Rattle.std.specs.List.Sorted.{IsStrictlySortedBy}
use Rattle.std.proofs.lemmas.Bool.{cond_both}
use Rattle.std.proofs.lemmas.List.Elements.{All-from_recursion}
use Rattle.std.proofs.lemmas.List.Sums.{length-filter}
use Rattle.std.proofs.lemmas.Map.Keys.{sorted_head, sorted_tail}
use Rattle.archive_core.specs.Content.{Operations}
use Rattle.archive_core.specs.Record.{record_bytes}
use Rattle.archive_core.specs.Find.{is_arch, is_dsym, is_image, answering_count, arch_cmp, find_cmp, key_in, row_of, IsFinds, is_key}
use Rattle.archive_core.specs.Lists.{list_cmp, IsList, rows_under}
use Rattle.archive_core.specs.Names.{key_cmp}
use Rattle.archive_core.specs.declared.keys.ArchKey.{ArchKey}
use Rattle.archive_core.specs.declared.keys.SliceKey.{SliceKey}
use Rattle.archive_core.specs.declared.find.FindRow.{FindRow}
use Rattle.archive_core.specs.declared.operations.Operation.{Operation}
use Rattle.archive_core.proofs.Told.{found_under}
use Rattle.archive_core.proofs.Members.{in_front, in_rest}
use Rattle.archive_core.proofs.Answering.{one_key}
use Rattle.text_reports.specs.Finds.{Group, with_row, groups}
use Rattle.text_reports.proofs.Grouped.{key_is_same}

arch_total : IsTotalOrder arch_cmp
arch_total = then_total (on_total (λ arch. arch.cputype) nat_cmp_total) (on_total (λ arch. arch.cpusubtype) nat_cmp_total)

key_total : IsTotalOrder key_cmp
key_total = then_total (on_texts (λ key. key.uuid)) (on_total (λ key. key.arch) arch_total)

arch_tied : (a b : ArchKey) → is_arch a b ≡ is_eq (arch_cmp a b)
arch_tied a b = both_tied (a.cputype == b.cputype) (a.cpusubtype == b.cpusubtype) (nat_cmp a.cputype b.cputype)
    (nat_cmp a.cpusubtype b.cpusubtype) (sym (unsigned_tied a.cputype b.cputype))
    (sym (unsigned_tied a.cpusubtype b.cpusubtype))

tied : (a b : SliceKey) → is_key a b ≡ is_eq (key_cmp a b)
tied a b = both_tied (bytes_eq a.uuid b.uuid) (is_arch a.arch b.arch) (slice_cmp nat_cmp a.uuid b.uuid)
    (arch_cmp a.arch b.arch) (sym (is_eq-slice_cmp a.uuid b.uuid)) (arch_tied a.arch b.arch)

below_differs : (a b : SliceKey) → key_cmp a b ≡ Less → is_key a b ≡ false
below_differs a b e = tied a b ∙ ap is_eq e

above_differs : (a b : SliceKey) → key_cmp a b ≡ Less → is_key b a ≡ false
above_differs a b e = tied b a ∙ ap is_eq (key_total.antisymm b a ∙ ap ordering_reverse e)

less_by : (o p : Ordering) (same : Bool) → same ≡ is_eq p → p ≡ ordering_reverse o → o ≢ Greater → same ≡ false
    → o ≡ Less
less_by o p same tie turned not_above differs = grind arith

is_below : (a b : SliceKey) → key_cmp a b ≢ Greater → is_key b a ≡ false → key_cmp a b ≡ Less
is_below a b = less_by (key_cmp a b) (key_cmp b a) (is_key b a) (tied b a) (key_total.antisymm b a)

-- a row before a group leads it where it is of its key, and else a group of its own
put_before : (P : List Group → Type 0) (row : FindRow) (group : Group) (after : List Group)
    → (group.key ≡ row.key → P (record { key = row.key; rows = row ∷ group.rows } ∷ after))
    → (is_key group.key row.key ≡ false → P (record { key = row.key; rows = row ∷ [] } ∷ (group ∷ after)))
    → P (with_row row (group ∷ after))
put_before P row group after leads apart =
    cond_both (is_key group.key row.key) _ _ P (λ e. leads (one_key group.key row.key e)) apart

-- what holds of each holds of each in what follows from it
weaker : {X : Type 0} (P Q : X → Type 0) → ((x : X) → P x → Q x) → (xs : List X) → AllByRecursion P xs
    → AllByRecursion Q xs
weaker P Q step [] all = tt
weaker P Q step (x ∷ xs) all = (step x all.0, weaker P Q step xs all.1)

-- the keys of groups are those of the rows
onto : (P : SliceKey → Type 0) (row : FindRow) (before : List Group) → P row.key → AllByRecursion (λ g. P g.key) before
    → AllByRecursion (λ g. P g.key) (with_row row before)
onto P row [] p all = (p, tt)
onto P row (group ∷ after) p all =
    put_before (AllByRecursion (λ g. P g.key)) row group after (λ _. (p, all.1)) (λ _. (p, all))

from_rows : (P : SliceKey → Type 0) (rows : List FindRow) → AllByRecursion (λ row. P row.key) rows → AllByRecursion (λ g. P g.key) (groups rows)
unfolding groups
from_rows P [] all = tt
from_rows P (row ∷ rows) all = onto P row (groups rows) all.0 (from_rows P rows all.1)

off : (P : SliceKey → Type 0) (row : FindRow) (before : List Group)
    → AllByRecursion (λ g. P g.key) (with_row row before) → P row.key × AllByRecursion (λ g. P g.key) before
off P row [] = λ all. all
off P row (group ∷ after) =
    put_before
    (λ gs. AllByRecursion (λ g. P g.key) gs → P row.key × AllByRecursion (λ g. P g.key) (group ∷ after)) row group after
    (λ same all. (all.0, (subst P (sym same) all.0, all.1))) (λ _ all. all)

to_rows : (P : SliceKey → Type 0) (rows : List FindRow) → AllByRecursion (λ g. P g.key) (groups rows) → AllByRecursion (λ row. P row.key) rows
unfolding groups
to_rows P [] all = tt
to_rows P (row ∷ rows) all = let parts = off P row (groups rows) all in (parts.0, to_rows P rows parts.1)

-- rows ascend by key, and groups strictly so
abbrev Ascends : List FindRow → Type 0
Ascends [] = Unit {0}
Ascends (row ∷ rows) = AllByRecursion (λ other. key_cmp row.key other.key ≢ Greater) rows × Ascends rows

abbrev AreAbove : SliceKey → List Group → Type 0
AreAbove key gs = AllByRecursion (λ g. key_cmp key g.key ≡ Less) gs

abbrev AreSorted : List Group → Type 0
AreSorted [] = Unit {0}
AreSorted (group ∷ after) = AreAbove group.key after × AreSorted after

put : (row : FindRow) (before : List Group) → AllByRecursion (λ g. key_cmp row.key g.key ≢ Greater) before → AreSorted before → AreSorted (with_row row before)
put row [] low sorted = (tt, tt)
put row (group ∷ after) low sorted = put_before AreSorted row group after
    (λ same. let Above : SliceKey → Type 0 = λ key. AreAbove key after in (subst Above same sorted.0, sorted.1))
    (λ apart. let less = is_below row.key group.key low.0 apart in
    let step = λ (g : Group) (e : key_cmp group.key g.key ≡ Less). key_total.trans row.key group.key g.key less e in
    ((less, weaker _ _ step after sorted.0), sorted))

are_sorted : (rows : List FindRow) → Ascends rows → AreSorted (groups rows)
unfolding groups
are_sorted [] up = tt
are_sorted (row ∷ rows) up = put row (groups rows) (from_rows (λ key. key_cmp row.key key ≢ Greater) rows up.0) (are_sorted rows up.1)

-- the rows of a key
abbrev own : SliceKey → List FindRow → List FindRow
own key rows = filter (λ row. is_key row.key key) rows

own-here : (row : FindRow) (rows : List FindRow) → own row.key (row ∷ rows) ≡ row ∷ own row.key rows
own-here row rows = rw (key_is_same row.key) refl

own-other : (key : SliceKey) (row : FindRow) (rows : List FindRow) → is_key row.key key ≡ false → own key (row ∷ rows) ≡ own key rows
own-other key row rows e = rw e refl

own-none : (key : SliceKey) (rows : List FindRow) → AllByRecursion (λ row. key_cmp key row.key ≡ Less) rows → own key rows ≡ []
own-none key [] above = refl
own-none key (row ∷ rows) above = own-other key row rows (above_differs key row.key above.0) ∙ own-none key rows above.1

-- where rows ascend, a group has all rows of its key
kept : (row : FindRow) (rows : List FindRow) (gs : List Group) → AreAbove row.key gs
    → AllByRecursion (λ g. g.rows ≡ own g.key rows) gs → AllByRecursion (λ g. g.rows ≡ own g.key (row ∷ rows)) gs
kept row rows [] above old = tt
kept row rows (group ∷ after) above old =
    (old.0 ∙ sym (own-other group.key row rows (below_differs row.key group.key above.0)), kept row rows after above.1 old.1)

add : (row : FindRow) (rows : List FindRow) (before : List Group) → (AreAbove row.key before → own row.key rows ≡ []) → AreSorted (with_row row before)
    → AllByRecursion (λ g. g.rows ≡ own g.key rows) before → AllByRecursion (λ g. g.rows ≡ own g.key (row ∷ rows)) (with_row row before)
add row rows [] none sorted old = (ap (λ rs. row ∷ rs) (sym (none tt)) ∙ sym (own-here row rows), tt)
add row rows (group ∷ after) none sorted old =
    put_before (λ gs. AreSorted gs → AllByRecursion (λ g. g.rows ≡ own g.key (row ∷ rows)) gs) row group after
    (λ same sorted. let here = ap (λ rs. row ∷ rs) (old.0 ∙ ap (λ key. own key rows) same) in
    (here ∙ sym (own-here row rows), kept row rows after sorted.0 old.1))
    (λ _ sorted. let here = ap (λ rs. row ∷ rs) (sym (none sorted.0)) in
    (here ∙ sym (own-here row rows), kept row rows (group ∷ after) sorted.0 old))
    sorted

own_rows : (rows : List FindRow) → Ascends rows → AllByRecursion (λ g. g.rows ≡ own g.key rows) (groups rows)
unfolding groups
own_rows [] up = tt
own_rows (row ∷ rows) up =
    add row rows (groups rows) (λ above. own-none row.key rows (to_rows (λ key. key_cmp row.key key ≡ Less) rows above))
    (are_sorted (row ∷ rows) up) (own_rows rows up.1)

-- the rows of a key are those of its UUID that have its architecture
abbrev of_arch : ArchKey → List FindRow → List FindRow
of_arch arch rows = filter (λ row. is_arch row.key.arch arch) rows

filter-and : {X : Type 0} (p q : X → Bool) (xs : List X) → filter (λ x. p x && q x) xs ≡ filter q (filter p xs)
filter-and p q [] = refl
filter-and p q (x ∷ xs) = grind (arith, filter-and p q xs)

own_by : (key : SliceKey) (rows : List FindRow) → own key rows ≡ of_arch key.arch (rows_under key.uuid rows)
own_by key rows = filter-and (λ row. bytes_eq row.key.uuid key.uuid) (λ row. is_arch row.key.arch key.arch) rows

-- as many rows of a kind
filter-twice : {X : Type 0} (p q : X → Bool) (xs : List X)
    → filter (λ x. p x && q x) (filter p xs) ≡ filter (λ x. p x && q x) xs
filter-twice p q [] = refl
filter-twice p q (x ∷ xs) = grind (arith, filter-twice p q xs)

count-own : (q : FindRow → Bool) (arch : ArchKey) (rows : List FindRow)
    → count_by (λ row. is_arch row.key.arch arch && q row) (of_arch arch rows)
    ≡ count_by (λ row. is_arch row.key.arch arch && q row) rows
count-own q arch rows =
    sym (length-filter (λ row. is_arch row.key.arch arch && q row) (of_arch arch rows))
    ∙ ap length (filter-twice (λ row. is_arch row.key.arch arch) q rows)
    ∙ length-filter (λ row. is_arch row.key.arch arch && q row) rows

count_alike : (arch : ArchKey) (rows : List FindRow) → answering_count (of_arch arch rows) arch ≡ answering_count rows arch
count_alike arch rows = rw (count-own (λ row. is_dsym row.state) arch rows, count-own (λ row. is_image row.state) arch rows) refl

counted : (rows : List FindRow) (gs : List Group) → AllByRecursion (λ g. g.rows ≡ own g.key rows) gs
    → All (λ g. answering_count g.rows g.key.arch ≡ answering_count (rows_under g.key.uuid rows) g.key.arch) gs
counted rows gs all = All-from_recursion _ gs (weaker _ _ (λ (g : Group) is.
    ap (λ rs. answering_count rs g.key.arch) (is ∙ own_by g.key rows)
    ∙ count_alike g.key.arch (rows_under g.key.uuid rows)) gs all)

-- what a list tells ascends
by_key : (u a r : Ordering) → ordering_then u (ordering_then a r) ≡ Less → ordering_then u a ≢ Greater
by_key u a r e = λ g. grind arith

rows_above : (operation : Operation) (others : List Operation)
    → AllByRecursion (λ other. list_cmp operation other ≡ Less) others
    → AllByRecursion (λ other. key_cmp (row_of operation).key other.key ≢ Greater) (map row_of others)
rows_above operation [] above = tt
rows_above operation (other ∷ others) above = (
  by_key (slice_cmp nat_cmp (key_in operation).uuid (key_in other).uuid)
      (arch_cmp (key_in operation).arch (key_in other).arch)
      (slice_cmp nat_cmp (record_bytes operation) (record_bytes other)) above.0,
  rows_above operation others above.1,
)

ascends : (operations : List Operation) → IsStrictlySortedBy list_cmp operations → Ascends (map row_of operations)
ascends [] up = tt
ascends (operation ∷ others) up = (
  rows_above operation others (sorted_head list_cmp operation others up),
  ascends others (sorted_tail list_cmp operation others up),
)

pub groups_count_all : (o : Operations) (rows : List FindRow) → IsList o rows
    → All (λ group. answering_count group.rows group.key.arch
    ≡ answering_count (rows_under group.key.uuid rows) group.key.arch) (groups rows)
groups_count_all o rows list =
    let Up : List FindRow → Type 0 = λ rs. Ascends rs in
    counted rows (groups rows) (own_rows rows (subst Up (sym list.rows_are) (ascends list.operations list.ascending)))

-- what a search tells is under its UUID, and ascends as in a list
each_of : (P : Operation → Type 0) (xs : List Operation) → ((a : Operation) → Contains xs a → P a) → AllByRecursion P xs
each_of P [] each = tt
each_of P (x ∷ xs) each = (each x (in_front x xs), each_of P xs (λ a h. each a (in_rest x xs a h)))

above_in_list : (uuid : List ℕ) (x : Operation) → (key_in x).uuid ≡ uuid → (ys : List Operation)
    → AllByRecursion (λ a. (key_in a).uuid ≡ uuid) ys → AllByRecursion (λ y. find_cmp x y ≡ Less) ys
    → AllByRecursion (λ y. list_cmp x y ≡ Less) ys
above_in_list uuid x x_is [] are above = tt
above_in_list uuid x x_is (y ∷ ys) are above =
    let same : slice_cmp nat_cmp (key_in x).uuid (key_in y).uuid ≡ Equal = rw (x_is, are.0) (tied_itself nat_list_cmp_total uuid) in
    (ap (λ r. ordering_then r (find_cmp x y)) same ∙ above.0, above_in_list uuid x x_is ys are.1 above.1)

ascends_in_list : (uuid : List ℕ) (xs : List Operation) → AllByRecursion (λ a. (key_in a).uuid ≡ uuid) xs
    → IsStrictlySortedBy find_cmp xs → IsStrictlySortedBy list_cmp xs
unfolding IsStrictlySortedBy
ascends_in_list uuid [] are up = tt
ascends_in_list uuid (x ∷ xs) are up = (above_in_list uuid x are.0 xs are.1 up.0, ascends_in_list uuid xs are.1 up.1)

rows_are_under : (uuid : List ℕ) (xs : List Operation) → AllByRecursion (λ a. (key_in a).uuid ≡ uuid) xs
    → AllByRecursion (λ row. row.key.uuid ≡ uuid) (map row_of xs)
rows_are_under uuid [] are = tt
rows_are_under uuid (x ∷ xs) are = (are.0, rows_are_under uuid xs are.1)

all_under : (uuid : List ℕ) (rows : List FindRow) → AllByRecursion (λ row. row.key.uuid ≡ uuid) rows → rows_under uuid rows ≡ rows
all_under uuid [] are = refl
all_under uuid (row ∷ rows) are = rw ((bytes_eq-Decides row.key.uuid uuid).1 are.0) (ap (λ rs. row ∷ rs) (all_under uuid rows are.1))

pub groups_count_found : (o : Operations) (uuid : List ℕ) (rows : List FindRow) → IsFinds o uuid rows
    → All (λ group. answering_count group.rows group.key.arch ≡ answering_count rows group.key.arch) (groups rows)
groups_count_found o uuid rows finds =
    let Up : List FindRow → Type 0 = λ rs. Ascends rs in
    let IsUnder : List FindRow → Type 0 = λ rs. AllByRecursion (λ row. row.key.uuid ≡ uuid) rs in
    let are = each_of (λ a. (key_in a).uuid ≡ uuid) finds.operations (λ a h. found_under o uuid a ((finds.exactly a).0 h).1) in
    let under : IsUnder rows = subst IsUnder (sym finds.rows_are) (rows_are_under uuid finds.operations are) in
    let up : Up rows = subst Up (sym finds.rows_are) (ascends finds.operations (ascends_in_list uuid finds.operations are finds.ascending)) in
    let count = counted rows (groups rows) (own_rows rows up) in
    let uuids = All-from_recursion (λ g. g.key.uuid ≡ uuid) (groups rows)
    (from_rows (λ key. key.uuid ≡ uuid) rows under) in
    λ k d lt. count k d lt
    ∙ ap (λ rs. answering_count rs (slice_index_or (groups rows) k d).key.arch)
    (ap (λ u. rows_under u rows) (uuids k d lt) ∙ all_under uuid rows under)

-- the groups of rows are these rows
one_more : (row : FindRow) (before : List Group) → flat_map (λ g. g.rows) (with_row row before) ≡ row ∷ flat_map (λ g. g.rows) before
one_more row [] = refl
one_more row (group ∷ after) =
    put_before (λ gs. flat_map (λ g. g.rows) gs ≡ row ∷ flat_map (λ g. g.rows) (group ∷ after)) row group after
    (λ _. refl) (λ _. refl)

pub groups_rows : (rows : List FindRow) → flat_map (λ g. g.rows) (groups rows) ≡ rows
unfolding groups
groups_rows [] = refl
groups_rows (row ∷ rows) = one_more row (groups rows) ∙ ap (λ rs. row ∷ rs) (groups_rows rows)
