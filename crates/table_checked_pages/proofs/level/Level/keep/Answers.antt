use Rattle.std.proofs.Common.{◌<◌, List, ℕ, [], length, get_or, sym, ap, ◌∙◌, subst, map, arith}
use Rattle.std.proofs.Math.ListN.{length-map}
use Rattle.std.proofs.lemmas.List.{map-set, get_or-set_same}
use Rattle.table_checked_pages.specs.Pages.{AreKept}
use Rattle.table_checked_pages.proofs.PageLemmas.{kept_more}
use Rattle.table_checked_pages.proofs.level.Level.keep.Goals as goal

pub returns-clause-kept : goal.returns-clause-kept
returns-clause-kept c =
    let kept = c.make_room.new.self.kept.items in
    let before : List (List ℕ) = map (λ page. page.items) kept in
    let inside : c.args.index < length before = omega (arith, c.in_ok-make_room.ensures.room, length-map kept (λ page. page.items)) in
    ap (λ pages. get_or pages c.args.index []) (map-set (λ page. page.items) kept c.args.index c.args.page)
    ∙ get_or-set_same before c.args.index c.args.page.items [] inside

pub returns-clause-keeps : goal.returns-clause-keeps
returns-clause-keeps c = λ all is are.
    let kept = c.make_room.new.self.kept.items in
    let before : List (List ℕ) = map (λ page. page.items) kept in
    let inside : c.args.index < length before = omega (arith, c.in_ok-make_room.ensures.room, length-map kept (λ page. page.items)) in
    subst (λ (pages : List (List ℕ)). AreKept pages all)
    (sym (map-set (λ page. page.items) kept c.args.index c.args.page))
    (kept_more before all c.args.page.items c.args.index inside is (c.in_ok-make_room.ensures.keeps all are))
