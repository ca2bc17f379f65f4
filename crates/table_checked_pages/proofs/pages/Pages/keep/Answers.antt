use Rattle.std.proofs.Common.{◌≡◌, ◌<◌, List, ℕ, [], length, get_or, set, sym, ap, ◌∙◌, subst, map, arith}
use Rattle.std.specs.Prelude.{OnOk}
use Rattle.std.proofs.Math.ListN.{length-map}
use Rattle.std.proofs.lemmas.List.{get_or-map, map-set, get_or-set_same}
use Rattle.table_checked_pages.specs.Pages.{AreKept, AreKeptLevels, level_of}
use Rattle.table_checked_pages.specs.Views.{level_view}
use Rattle.table_checked_pages.proofs.PageLemmas.{levels_more}
use Rattle.table_checked_pages.proofs.pages.Pages.keep.Goals as goal

pub returns-clause-kept : goal.returns-clause-kept
returns-clause-kept c =
    let levels = c.make_level.new.self.levels.items in
    let before : List (List (List ℕ)) = map level_view levels in
    let inside : c.args.level < length before = omega (arith, c.in_ok-make_level.ensures.room, length-map levels level_view) in
    let now : get_or (map level_view (set levels c.args.level c.keep.new.self)) c.args.level [] ≡ level_view c.keep.new.self =
    ap (λ kept. get_or kept c.args.level []) (map-set level_view levels c.args.level c.keep.new.self)
    ∙ get_or-set_same before c.args.level (level_view c.keep.new.self) [] inside in
    subst (λ (pages : List (List ℕ)). OnOk c.keep.result (get_or pages c.args.index [] ≡ c.args.page.items)) (sym now) c.keep.ensures.kept

pub returns-clause-keeps : goal.returns-clause-keeps
unfolding AreKeptLevels
returns-clause-keeps c = λ all is are.
    let levels = c.make_level.new.self.levels.items in
    let before : List (List (List ℕ)) = map level_view levels in
    let inside : c.args.level < length before = omega (arith, c.in_ok-make_level.ensures.room, length-map levels level_view) in
    let room : AreKeptLevels before all = c.in_ok-make_level.ensures.keeps all are in
    let old = c.index_mut-pages.result.now in
    let here : get_or before c.args.level [] ≡ level_view old =
    get_or-map level_view levels c.args.level old [] c.in_ok-make_level.ensures.room ∙ ap level_view (sym c.index_mut-pages.ensures.value) in
    let pages : AreKept (level_view c.keep.new.self) (level_of c.args.level all) =
    c.keep.ensures.keeps (level_of c.args.level all) is
    (subst (λ (kept : List (List ℕ)). AreKept kept (level_of c.args.level all)) here (room c.args.level)) in
    subst (λ (kept : List (List (List ℕ))). AreKeptLevels kept all) (sym (map-set level_view levels c.args.level c.keep.new.self))
    (levels_more before all (level_view c.keep.new.self) c.args.level inside pages room)
