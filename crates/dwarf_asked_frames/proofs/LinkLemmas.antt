-- The frames of a link, one after another.
use Rattle.std.proofs.Common.{◌≡◌, ◌∙◌, ℕ, zero, suc, ◌-◌, ◌<◌, ◌≤◌, List, [], ◌∷◌, ◌++◌, get_or, length, Option, Some}
use Rattle.std.proofs.Common.{None, refl, sym, ap, subst, append_assoc, arith}
use Rattle.std.specs.Option.{option_map}
use Rattle.std.proofs.lemmas.List.{append-nil}
use Rattle.std.proofs.lemmas.Option.{none-some, slice_get-map, slice_get_read}
use Rattle.dwarf_functions.specs.Links.{AreCallersBefore, AreFramesOfLink, AreFramesOfRowAndLink, LinkRecord, frame_at_place, link_at}
use Rattle.dwarf_functions.specs.LinkViews.{link_view, links_view}
use Rattle.dwarf_functions.specs.declared.links.Link.{Link}
use Rattle.dwarf_lines.specs.declared.registers.Row.{Row}
use Rattle.dwarf_source_frames.specs.Frames.{FrameRecord, location_of_row}
use Rattle.dwarf_source_frames.specs.UnitLines.{LinesRecord}
use Rattle.dwarf_source_frames.specs.declared.frame.SourceLocation.{SourceLocation}

-- whatever completes the frames of a link completes those of the whole
pub record Completes (lines : LinesRecord) (links : List LinkRecord) (place innermost : SourceLocation)
    (left number : ℕ) (found : List FrameRecord) : Type 0 where
  pub with : (frames : List FrameRecord) → AreFramesOfLink lines links place left frames → AreFramesOfLink lines links innermost number (found ++ frames)

pub completes_none : (lines : LinesRecord) (links : List LinkRecord) (place : SourceLocation) (number : ℕ)
    (found : List FrameRecord) → found ≡ [] → Completes lines links place place number number found
completes_none lines links place number found none = record {
  with = λ frames h. subst (λ (fs : List FrameRecord). AreFramesOfLink lines links place number (fs ++ frames)) (sym none) h;
}

pub completes_more : (lines : LinesRecord) (links : List LinkRecord) (place innermost : SourceLocation)
    (left number : ℕ) (link : LinkRecord) (found next : List FrameRecord) (frame : FrameRecord) → link_at links left
    ≡ Some link → link.caller < left
    → frame ≡ frame_at_place lines link.name place → next ≡ found ++ frame ∷ []
    → Completes lines links place innermost left number found
    → Completes lines links link.call innermost link.caller number next
completes_more lines links place innermost left number link found next frame there lower is added before = record {
  with = λ frames h.
      let whole = before.with (frame ∷ frames) (link, there, lower, is, h) in
      let same : found ++ (frame ∷ frames) ≡ next ++ frames =
      sym (ap (λ (xs : List FrameRecord). xs ++ frames) added ∙ append_assoc found (frame ∷ []) frames) in
      subst (λ (fs : List FrameRecord). AreFramesOfLink lines links innermost number fs) same whole;
}

pub completes_all : (lines : LinesRecord) (links : List LinkRecord) (place innermost : SourceLocation) (left number : ℕ)
    (found : List FrameRecord) → left ≡ 0 → Completes lines links place innermost left number found
    → AreFramesOfLink lines links innermost number found
completes_all lines links place innermost left number found none before =
    subst (λ (fs : List FrameRecord). AreFramesOfLink lines links innermost number fs) (append-nil found) (before.with [] none)

-- a link that is read is that of its number
pub link_read : (links : List Link) (left : ℕ) (link : Link) → 0 < left → left ≤ length links → link
    ≡ get_or links (left - 1) link → link_at (links_view links) left ≡ Some (link_view link)
link_read links zero link some within is = absurd (omega (arith, some))
link_read links (suc i) link some within is =
    slice_get-map link_view links i
    ∙ ap (λ (o : Option Link). option_map link_view o)
    (slice_get_read links (length links) i link refl (omega (arith, within))
    (is ∙ ap (λ n. get_or links n link) (omega arith)))

-- it stands in one of a lower number
pub lower_caller : (links : List Link) (left : ℕ) (link : Link) → AreCallersBefore (links_view links)
    → link_at (links_view links) left ≡ Some (link_view link) → link.caller < left
lower_caller links zero link callers is = absurd (none-some (link_view link) is)
lower_caller links (suc i) link callers is = let low = callers i (link_view link) is in omega (arith, low)

-- with a link the row says where the innermost frame is
pub with_link : (lines : LinesRecord) (links : List LinkRecord) (row : Option Row) (number : ℕ)
    (frames : List FrameRecord) → 0 < number → AreFramesOfLink lines links (location_of_row row) number frames
    → AreFramesOfRowAndLink lines links row number frames
with_link lines links row zero frames some are = absurd (omega (arith, some))
with_link lines links None (suc n) frames some are = are
with_link lines links (Some row) (suc n) frames some are = are
