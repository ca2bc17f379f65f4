use Rattle.std.proofs.Common.{◌∙◌, ap, length, map, subst, sym}
use Rattle.std.proofs.Math.ListN.{length-map}
use Rattle.std.proofs.lemmas.Simd.{map-map}
use Rattle.std.specs.Borrow.{Bor}
use Rattle.archive_core.specs.declared.slices.Slice.{Slice}
use Rattle.archive_core.specs.Find.{AreAnswering}
use Rattle.command_extract.specs.Wanted.{slice_row}
use Rattle.command_extract.proofs.Held.{one_there}
use Rattle.command_extract.proofs.choosing.answering.Goals as goal

pub choose_answering-requires : goal.choose_answering-requires
choose_answering-requires g c =
    let o = g.A.Join.content c.args.archive.now in
    one_there o c.args.key.now _ c.in-Some.slice.now c.in_ok-slices.ensures
    (ap (map (λ (s : Bor Slice). s.now)) (sym c.deref.ensures.value) ∙ c.in-Some.ensures.one)

pub returns-in-Some : goal.returns-in-Some
returns-in-Some g c =
    let o = g.A.Join.content c.args.archive.now in
    let one = ap (map (λ (s : Bor Slice). s.now)) (sym c.deref.ensures.value) ∙ c.in-Some.ensures.one in
    (c.in-Some.slice.now, subst (AreAnswering o c.args.key.now) one c.in_ok-slices.ensures, c.choose_answering.ensures)

pub returns-in_ok-rows_of-in-None : goal.returns-in_ok-rows_of-in-None
returns-in_ok-rows_of-in-None g c =
    let items = c.in_ok-slices.slices.items in
    let long = length-map items (λ (s : Bor Slice). s.now) in (
      map (λ (s : Bor Slice). s.now) items,
      (c.in_ok-slices.ensures, λ one. c.in-None.ensures.other (ap length c.deref.ensures.value ∙ sym long ∙ one)),
      c.in_ok-rows_of-in-None.ensures ∙ ap (map (λ (s : Bor Slice). slice_row s.now)) c.deref-in-None.ensures.value
          ∙ sym (map-map slice_row (λ (s : Bor Slice). s.now) items),
    )
