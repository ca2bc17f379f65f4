-- The lines of the slices that answer are one text, and so are answers with these lines after them.
use Rattle.std.proofs.Common.{◌≡◌, ℕ, Bool, true, false, List, [], ◌∷◌, ◌++◌, Option, sym, ◌∙◌}
use Rattle.archive_core.specs.Content.{Operations}
use Rattle.archive_core.specs.declared.find.FindRow.{FindRow}
use Rattle.archive_core.specs.declared.keys.SliceKey.{SliceKey}
use Rattle.archive_core.proofs.Members.{one_with_members}
use Rattle.text_input_files.specs.declared.frame.Frame.{Frame}
use Rattle.text_reports.specs.Slices.{TellsSlices, slices_lines}
use Rattle.text_reports.proofs.Sliced.{keys_total, rows_total}
use Rattle.command_common.specs.declared.faults.Status.{Status}
use Rattle.command_queries.specs.Frames.{TellsFrames, TellsFramesWith, frame_keys}
use Rattle.command_queries.specs.Slices.{IsAnsweringRow, WithSlices}
use Rattle.command_queries.specs.Symbolicate.{TellsAddresses, TellsAddressesWith}
use Rattle.laws_archive.specs.Joins.{TellOne}

slices_once : (IsRow : FindRow → Type 0) (keys : List SliceKey) (text other : List ℕ) → TellsSlices IsRow keys text
    → TellsSlices IsRow keys other → text ≡ other
slices_once IsRow keys text other a b =
    let rows = one_with_members rows_total a.rows b.rows a.ascending b.ascending
    (λ row there. (b.exactly row).1 ((a.exactly row).0 there)) (λ row there. (a.exactly row).1 ((b.exactly row).0 there)) in
    let absent = one_with_members keys_total a.absent b.absent a.absent_ascending b.absent_ascending
    (λ key there. (b.absent_exactly key).1 ((a.absent_exactly key).0 there)) (λ key there. (a.absent_exactly key).1 ((b.absent_exactly key).0 there)) in
    a.text_is ∙ (λ i. slices_lines (rows i) (absent i)) ∙ sym b.text_is

with_slices_once : (slices : Bool) (Tells : Status → List ℕ → Type 0) (IsRow : FindRow → Type 0) (keys : List SliceKey) → TellOne Tells Tells
    → TellOne (WithSlices slices Tells IsRow keys) (WithSlices slices Tells IsRow keys)
with_slices_once false Tells IsRow keys one status other_status text other_text a b = one status other_status text other_text a b
with_slices_once true Tells IsRow keys one status other_status text other_text a b =
    let told = one status other_status a.answers b.answers a.told b.told in
    let slices = slices_once IsRow keys a.slices b.slices a.tells_slices b.tells_slices in
    (told.0, a.text_is ∙ (λ i. told.1 i ++ slices i) ∙ sym b.text_is)

pub addresses_once : ((o : Operations) (key : SliceKey) (load : Option ℕ) (lines : Bool) (addresses : List ℕ)
    → TellOne (TellsAddresses o key load lines addresses) (TellsAddresses o key load lines addresses))
    → (o : Operations) (key : SliceKey) (load : Option ℕ) (lines slices : Bool) (addresses : List ℕ)
    → TellOne (TellsAddressesWith o key load lines slices addresses)
    (TellsAddressesWith o key load lines slices addresses)
addresses_once one o key load lines slices addresses =
    with_slices_once slices (TellsAddresses o key load lines addresses) (IsAnsweringRow o (key ∷ [])) (key ∷ []) (one o key load lines addresses)

pub frames_once : ((lines : Bool) (o : Operations) (frames : List Frame) → TellOne (TellsFrames lines o frames) (TellsFrames lines o frames))
    → (lines slices : Bool) (o : Operations) (frames : List Frame) → TellOne (TellsFramesWith lines slices o frames) (TellsFramesWith lines slices o frames)
frames_once one lines slices o frames =
    with_slices_once slices (TellsFrames lines o frames) (IsAnsweringRow o (frame_keys frames)) (frame_keys frames) (one lines o frames)
