use Rattle.std.proofs.Common.{◌∙◌, ◌++◌, [], ap, nat_eq, length, subst, sym}
use Rattle.table_source_frames.specs.Numbering.{numbered_after}
use Rattle.table_source_frames_build.specs.KeptViews.{kept_view}
use Rattle.table_source_frames_build.specs.PartNumbers.{name_uses, path_uses}
use Rattle.table_source_frames_build.specs.Places.{ArePlacesBelow}
use Rattle.table_source_frames_build.proofs.LoopLemmas.{after_both}
use Rattle.table_source_frames_build.proofs.kept.Kept.used_texts.Goals as goal

pub returns-clause-places : goal.returns-clause-places
returns-clause-places c =
    subst (λ v. ArePlacesBelow (kept_view c.args.self.now) c.args.strings.now (length c.args.strings.now) v.items)
    (sym (c.take_paths.ensures.places ∙ c.take_names.ensures.places)) c.in_ok-places.ensures

pub returns-clause-order : goal.returns-clause-order
returns-clause-order c =
    let k = kept_view c.args.self.now in
    let same = c.take_paths.ensures.places ∙ c.take_names.ensures.places in
    let order = after_both [] c.take_names.new.texts.uses.order.items c.take_paths.new.texts.uses.order.items
    (name_uses k c.in_ok-places.places.items c.args.scopes.now) (path_uses k c.in_ok-places.places.items c.args.files.now)
    (c.in_ok-take_names.ensures.taken
    ∙ ap (λ l. numbered_after nat_eq l (name_uses k c.in_ok-places.places.items c.args.scopes.now)) c.in_ok-uses.ensures.none)
    (c.in_ok-take_paths.ensures.taken
    ∙ (λ i. numbered_after nat_eq c.take_names.new.texts.uses.order.items (path_uses k (c.take_names.ensures.places i).items c.args.files.now))) in
    order ∙ (λ i. numbered_after nat_eq [] (name_uses k (sym same i).items c.args.scopes.now ++ path_uses k (sym same i).items c.args.files.now))
