use Rattle.std.proofs.Common.{ℕ, ◌<◌, List, length, slice_get, ap, sym, subst, ◌∙◌}
use Rattle.std.proofs.lemmas.Result.{IfOk-weaker}
use Rattle.archive_image_admission.specs.Accepted.{AreFactsOf}
use Rattle.archive_image_admission.proofs.PartSlices.{fat_found, fat_parts, thin_at}
use Rattle.archive_image_admission.proofs.checking.AcceptedFile.slice_at.Goals as goal

pub slice-requires : goal.slice-requires
slice-requires c = subst (λ (xs : List (List ℕ)). c.args.index < length xs) (fat_parts _ _ _ c.in-Universal.is c.requires.accepted) c.requires.index

pub slice_in-requires : goal.slice_in-requires
slice_in-requires c =
    let are = fat_found _ _ _ c.in-Universal.is c.requires.accepted in
    subst (AreFactsOf c.slice.result.now) (sym c.facts_at.ensures) (are c.args.index c.slice.result.now c.slice.ensures.part)

pub returns-in_ok-slice-in-Thin : goal.returns-in_ok-slice-in-Thin
returns-in_ok-slice-in-Thin c =
    thin_at _ _ _ _ c.in-Thin.is c.requires.accepted c.requires.index c.in_ok-slice-in-Thin.ensures

pub returns-in-Universal : goal.returns-in-Universal
returns-in-Universal c =
    let at = ap (λ (xs : List (List ℕ)). slice_get xs c.args.index) (fat_parts _ _ _ c.in-Universal.is c.requires.accepted) ∙ c.slice.ensures.part in
    IfOk-weaker c.slice_in.result _ _ (λ slice is. (c.slice.result.now, at, is)) c.slice_in.ensures
