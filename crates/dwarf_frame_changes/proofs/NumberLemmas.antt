-- The numbers that a sink gave to names, paths and links.
use Rattle.std.proofs.Common.{◌≡◌, ◌≢◌, ◌∙◌, ℕ, zero, suc, ◌<◌, List, [], ◌∷◌, get_or, length, set, slice_get, Option, Some, refl, sym, ap, subst, inl, inr}
use Rattle.std.proofs.Common.{arith, length-set, ◌+◌, ◌-◌, ◌≤◌, ◌++◌, None, option_map, nat_cmp}
use Rattle.std.specs.BTreeMap as tree_map
use Rattle.std.proofs.lemmas.Bool.{cases_eq, cases_lt}
use Rattle.std.proofs.lemmas.Option.{same_Some, slice_get_read, slice_get_within, IfSome_then, get_or_from_slice_get, slice_get-get_or, slice_get-map}
use Rattle.std.proofs.lemmas.List.{get_or_append_left, get_or-append_right, get_or-set_same, length-map, length_push}
use Rattle.dwarf_functions.specs.LinkViews.{link_view, links_view}
use Rattle.dwarf_functions.specs.NameNumbers.{AreNamesNumbered}
use Rattle.dwarf_functions.specs.declared.links.Link.{Link}
use Rattle.dwarf_functions.specs.declared.links.Links.{Links}
use Rattle.dwarf_functions.specs.Links.{AreFramesOfLink, AreFramesOfRowAndLink, LinkRecord, frame_at_place}
use Rattle.dwarf_lines.specs.Paths.{PathRecord}
use Rattle.dwarf_lines.specs.declared.registers.Row.{Row}
use Rattle.dwarf_source_frames.specs.Frames.{FrameRecord, path_in, location_of_row}
use Rattle.dwarf_source_frames.specs.UnitLines.{LinesRecord}
use Rattle.dwarf_source_frames.specs.declared.frame.SourceLocation.{SourceLocation}
use Rattle.dwarf_frame_changes.specs.Taking.{KeepsNumbers}
use Rattle.dwarf_frame_changes.specs.UnitNumbers.{AreNameNumbers, AreLinked, ArePartsTold, ArePathNumbers, IsLinked, IsLinkedAt, row_frames}
use Rattle.dwarf_frame_changes.specs.Given.{Takes, TurnRecord}
use Rattle.dwarf_frame_changes.specs.declared.names.Names.{Names}
use Rattle.dwarf_frame_changes.specs.declared.merging.UnitParts.{UnitParts}
use Rattle.dwarf_frame_changes.specs.declared.numbers.Linked.{Linked}
use Rattle.dwarf_frame_changes.specs.declared.numbers.Paths.{Paths}
use Rattle.dwarf_frame_changes.proofs.GivenLemmas.{takes_more}

-- an element after a write
set_here : {X : Type 0} (xs : List X) (i : ℕ) (x : X) → i < length xs → slice_get (set xs i x) i ≡ Some x
set_here xs i x h = slice_get-get_or (set xs i x) i x (omega (arith, h, length-set xs i x)) ∙ ap Some (get_or-set_same xs i x x h)

set_elsewhere : {X : Type 0} (xs : List X) (i j : ℕ) (x : X) → j ≢ i → slice_get (set xs i x) j ≡ slice_get xs j
set_elsewhere [] i j x h = refl
set_elsewhere (y ∷ ys) zero zero x h = absurd (h refl)
set_elsewhere (y ∷ ys) zero (suc j) x h = refl
set_elsewhere (y ∷ ys) (suc i) zero x h = refl
set_elsewhere (y ∷ ys) (suc i) (suc j) x h = set_elsewhere ys i j x (λ e. h (ap suc e))

-- none is kept
pub no_names : (P : ℕ → Option (List ℕ) → Type 0) (links : Links) (names : Names) → length names.by_number.items
    ≡ links.name_count → ((n number : ℕ) → slice_get names.by_number.items n ≡ Some (Some number) → ⊥)
    → AreNameNumbers P links names
no_names P links names count none = record { count = count; each = λ i link number there is. absurd (none link.name_number number is) }

-- links of one number have one name
same_name : (count : ℕ) (links : List Link) (i j : ℕ) (a b : Link) → AreNamesNumbered count links → slice_get links i
    ≡ Some a → slice_get links j ≡ Some b → a.name_number ≡ b.name_number → (link_view a).name ≡ (link_view b).name
same_name count links i j a b numbered at_a at_b same =
    same_Some (link_view a).name (link_view b).name (sym (numbered.each i a at_a) ∙ (ap (λ n. slice_get numbered.names n) same ∙ numbered.each j b at_b))

pub number_within : (links : Links) (i : ℕ) (link : Link) → AreNamesNumbered links.name_count links.links.items
    → slice_get links.links.items i ≡ Some link → link.name_number < links.name_count
number_within links i link numbered there =
    let w = slice_get_within numbered.names link.name_number (link_view link).name (numbered.each i link there)
    in let n = numbered.count_is in omega (arith, w, n)

-- one more is kept
pub names_more : (P Q : ℕ → Option (List ℕ) → Type 0) (links : Links) (names next : Names) (i number : ℕ) (link : Link)
    → AreNamesNumbered links.name_count links.links.items → KeepsNumbers P Q → AreNameNumbers P links names
    → slice_get links.links.items i ≡ Some link
    → Q number (link_view link).name → next.by_number.items ≡ set names.by_number.items link.name_number (Some number) → AreNameNumbers Q links next
names_more P Q links names next i number link numbered still are there tells wrote = record {
  count = ap (λ (l : List (Option ℕ)). length l) wrote ∙ (length-set names.by_number.items link.name_number (Some number) ∙ are.count);
  each = λ j other told at_j is.
      let now : slice_get (set names.by_number.items link.name_number (Some number)) other.name_number
      ≡ Some (Some told) = ap (λ (l : List (Option ℕ)). slice_get l other.name_number) (sym wrote) ∙ is in
      elim (cases_eq other.name_number link.name_number) [
        | inl same ↦
            let within : link.name_number < length names.by_number.items = let w =
            number_within links i link numbered there in let n = are.count in omega (arith, w, n) in
            let here : slice_get (set names.by_number.items link.name_number (Some number)) other.name_number ≡ Some (Some number) =
            ap (λ n. slice_get (set names.by_number.items link.name_number (Some number)) n) same
            ∙ set_here names.by_number.items link.name_number (Some number) within in
            let equal : number ≡ told = cc (here, now) in
            let name = same_name links.name_count links.links.items i j link other numbered there at_j (sym same) in
            subst (λ n. Q n (link_view other).name) equal (subst (λ (n : Option (List ℕ)). Q number n) name tells)
        | inr not ↦ still told (link_view other).name (are.each j other told at_j
            (sym (set_elsewhere names.by_number.items link.name_number other.name_number (Some number) not) ∙ now))
      ];
}

-- ---- what is read

pub link_read : (links : Links) (index : ℕ) (link : Link) → index < length links.links.items → link
    ≡ get_or links.links.items index link → slice_get links.links.items index ≡ Some link
link_read links index link within is = slice_get_read links.links.items (length links.links.items) index link refl within is

pub same_link : (P : ℕ → Option (List ℕ) → Type 0) (links : Links) (index number : ℕ) (link other : Link)
    → slice_get links.links.items index ≡ Some link → slice_get links.links.items index ≡ Some other
    → P number (link_view link).name → P number (link_view other).name
same_link P links index number link other there at_other tells =
    subst (λ (l : Link). P number (link_view l).name) (same_Some link other (sym there ∙ at_other)) tells

pub slot_within : (P : ℕ → Option (List ℕ) → Type 0) (links : Links) (names : Names) (index : ℕ) (link : Link)
    → AreNamesNumbered links.name_count links.links.items → AreNameNumbers P links names
    → slice_get links.links.items index ≡ Some link → link.name_number < length names.by_number.items
slot_within P links names index link numbered are there = let w = number_within links index link numbered there in let n = are.count in omega (arith, w, n)

pub known_name : (P : ℕ → Option (List ℕ) → Type 0) (links : Links) (names : Names) (index known : ℕ) (link : Link)
    (slot : Option ℕ) → AreNamesNumbered links.name_count links.links.items → AreNameNumbers P links names
    → slice_get links.links.items index ≡ Some link
    → slot ≡ get_or names.by_number.items link.name_number slot → slot ≡ Some known → P known (link_view link).name
known_name P links names index known link slot numbered are there read is =
    let at_slot : slice_get names.by_number.items link.name_number
    ≡ Some slot = slice_get_read names.by_number.items (length names.by_number.items) link.name_number slot refl
    (slot_within P links names index link numbered are there) read in
    are.each index link known there (at_slot ∙ ap (λ (s : Option ℕ). Some s) is)

-- ---- the numbers that a sink gave to paths and links

pub takes_nothing : (P Q R : List TurnRecord → Type 0) → Takes P Q [] → Takes Q R [] → Takes P R []
takes_nothing P Q R first then = takes_more P Q R [] [] first then

-- ---- what is told still

pub still_more : {N A : Type 0} (P Q R : N → A → Type 0) → KeepsNumbers P Q → KeepsNumbers Q R → KeepsNumbers P R
still_more P Q R first then number told h = then number told (first number told h)

pub paths_still : (P Q : ℕ → Option PathRecord → Type 0) (lines : LinesRecord) (paths : Paths) → KeepsNumbers P Q
    → ArePathNumbers P lines paths → ArePathNumbers Q lines paths
paths_still P Q lines paths still are =
    record {
      by_index = λ i. IfSome_then (tree_map.get nat_cmp paths.by_index i) (are.by_index i) (λ n h. still n (path_in lines (Some i)) h);
      last = IfSome_then paths.last are.last (λ k h. still k.1 (path_in lines (Some k.0)) h);
    }

pub names_still : (P Q : ℕ → Option (List ℕ) → Type 0) (links : Links) (names : Names) → KeepsNumbers P Q
    → AreNameNumbers P links names → AreNameNumbers Q links names
names_still P Q links names still are = record {
  count = are.count;
  each = λ i link number there is. still number (link_view link).name (are.each i link number there is);
}

module _ (P P' : ℕ → Option (List ℕ) → Type 0) (F F' : ℕ → List FrameRecord → Type 0) (names : KeepsNumbers P P')
    (frames : KeepsNumbers F F') (lines : LinesRecord) (links : List LinkRecord) where
  pub is_linked_still : (link : LinkRecord) (linked : Linked) → IsLinked P F lines links link linked → IsLinked P' F' lines links link linked
  is_linked_still link linked is =
      record { name = names linked.name link.name is.name; outer = is.outer; are_outer = is.are_outer; callers = frames linked.callers is.outer is.callers }

  pub linked_still : (count : ℕ) (all : List Linked) → AreLinked P F lines links count all → AreLinked P' F' lines links count all
  linked_still count all are = record { count_is = are.count_is; each = λ i linked at link l. is_linked_still link linked (are.each i linked at link l) }

-- ---- links

pub link_there : (links : List Link) (all : List Linked) (index : ℕ) (link : Link) → index ≡ length all
    → length all < length links → link ≡ get_or links index link → slice_get (links_view links) (length all) ≡ Some (link_view link)
link_there links all index link is within here =
    slice_get-map link_view links (length all)
    ∙ ap (option_map link_view) (slice_get_read links (length links) (length all) link refl within (here ∙ ap (λ n. get_or links n link) is))

pub linked_at : (P : ℕ → Option (List ℕ) → Type 0) (F : ℕ → List FrameRecord → Type 0) (lines : LinesRecord)
    (links : List LinkRecord) (i : ℕ) (link : LinkRecord) (linked : Linked) → slice_get links i ≡ Some link
    → IsLinked P F lines links link linked → IsLinkedAt P F lines links i linked
linked_at P F lines links i link linked there is other at =
    subst (λ (l : LinkRecord). IsLinked P F lines links l linked) (same_Some link other (sym there ∙ at)) is

-- the link of an index, and its numbers
link_of : (links : List LinkRecord) (i : ℕ) → i < length links → (link : LinkRecord) × (slice_get links i ≡ Some link)
link_of [] i within = absurd (omega (arith, within))
link_of (link ∷ links) zero within = (link, refl)
link_of (link ∷ links) (suc i) within = link_of links i (omega (arith, within))

pub numbers_of : (P : ℕ → Option (List ℕ) → Type 0) (F : ℕ → List FrameRecord → Type 0) (lines : LinesRecord)
    (links : List Link) (count : ℕ) (all : List Linked) (i : ℕ) (linked : Linked)
    → AreLinked P F lines (links_view links) count all → i < length all → linked ≡ get_or all i linked → i < length links
    → (link : LinkRecord) × (slice_get (links_view links) i ≡ Some link) × IsLinked P F lines (links_view links) link linked
numbers_of P F lines links count all i linked are within here inside =
    let n : length (links_view links) ≡ length links = length-map links link_view in
    let there = link_of (links_view links) i (omega (arith, inside, n)) in
    (there.0, there.1, are.each i linked (slice_get_read all (length all) i linked refl within here) there.0 there.1)

pub parts_still : (P P' : ℕ → Option (List ℕ) → Type 0) (Q Q' : ℕ → Option PathRecord → Type 0)
    (F F' : ℕ → List FrameRecord → Type 0) (lines : LinesRecord) (parts : UnitParts) → KeepsNumbers P P'
    → KeepsNumbers Q Q' → KeepsNumbers F F'
    → ArePartsTold P Q F lines parts → ArePartsTold P' Q' F' lines parts
parts_still P P' Q Q' F F' lines parts names paths frames told =
    record {
      paths = paths_still Q Q' lines parts.paths paths told.paths;
      callers = told.callers;
      linked = linked_still P P' F F' names frames lines (links_view parts.links.links.items) (length parts.links.links.items) parts.linked.items told.linked;
    }

-- the frames of a link with those of the links that it stands in
pub frames_of_link : (lines : LinesRecord) (links : List LinkRecord) (place : SourceLocation) (number n : ℕ)
    (link : LinkRecord) (outer : List FrameRecord) → number ≡ suc n → slice_get links n ≡ Some link → link.caller ≤ n
    → AreFramesOfLink lines links link.call link.caller outer → AreFramesOfLink lines links place number (frame_at_place lines link.name place ∷ outer)
frames_of_link lines links place number n link outer is at before are =
    subst (λ (m : ℕ). AreFramesOfLink lines links place m (frame_at_place lines link.name place ∷ outer)) (sym is) (link, at, omega (arith, before), refl, are)

pub frames_with_link : (lines : LinesRecord) (links : List LinkRecord) (row : Option Row) (number n : ℕ)
    (frames : List FrameRecord) → number ≡ suc n → AreFramesOfLink lines links (location_of_row row) number frames
    → AreFramesOfRowAndLink lines links row number frames
frames_with_link lines links None number n frames is are = rw is (rw is at are)
frames_with_link lines links (Some row) number n frames is are = rw is (rw is at are)

pub frames_of_row_alone : (lines : LinesRecord) (links : List LinkRecord) (row : Option Row) (number : ℕ) → number ≡ 0
    → AreFramesOfRowAndLink lines links row number (row_frames lines row)
frames_of_row_alone lines links None number none = subst (λ (m : ℕ). AreFramesOfRowAndLink lines links None m []) (sym none) refl
frames_of_row_alone lines links (Some row) number none =
    subst (λ (m : ℕ). AreFramesOfRowAndLink lines links (Some row) m (row_frames lines (Some row))) (sym none) refl

-- one after another
module _ (P : ℕ → Option (List ℕ) → Type 0) (F : ℕ → List FrameRecord → Type 0) (lines : LinesRecord) (links : List LinkRecord) where
  pub linked_more : (all : List Linked) (next : Linked) → AreLinked P F lines links (length all) all
      → IsLinkedAt P F lines links (length all) next → AreLinked P F lines links (length (all ++ next ∷ []))
      (all ++ next ∷ [])
  linked_more all next are is =
      record {
        count_is = refl;
        each = λ i linked at.
            let within : i < length all + 1 = let w = slice_get_within (all ++ next ∷ []) i linked at in omega (arith, w, length_push all next) in
            elim (cases_lt i (length all)) [
              | inl before ↦ are.each i linked (slice_get-get_or all i linked before
                  ∙ ap Some (sym (get_or_append_left all (next ∷ []) linked i before) ∙ value i linked at))
              | inr not ↦
                  let e : i ≡ length all = omega (arith, within, not) in
                  let first : i - length all ≡ 0 = omega (arith, e) in
                  let same : next ≡ linked = sym (ap (λ n. get_or (next ∷ []) n linked) first)
                  ∙ (sym (get_or-append_right all (next ∷ []) (length all) i linked refl not) ∙ value i linked at)
                  in
                  subst (λ (n : ℕ). IsLinkedAt P F lines links n linked) (sym e) (subst (λ (x : Linked). IsLinkedAt P F lines links (length all) x) same is)
            ];
      }
    where
      value : (i : ℕ) (linked : Linked) → slice_get (all ++ next ∷ []) i ≡ Some linked → get_or (all ++ next ∷ []) i linked ≡ linked
      value i linked at = get_or_from_slice_get (all ++ next ∷ []) i linked linked at
