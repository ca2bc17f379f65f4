use Rattle.std.proofs.Common.{◌≡◌, List, ℕ, [], ◌∷◌, ◌++◌, sym, ap, ◌∙◌, subst, map}
use Rattle.std.proofs.lemmas.List.{map-append}
use Rattle.table_checked_pages.specs.Pages.{AreKeptLevels}
use Rattle.table_checked_pages.specs.Views.{level_view}
use Rattle.table_checked_pages.proofs.PageLemmas.{levels_room}
use Rattle.table_checked_pages.proofs.pages.Pages.make_level.Goals as goal

pub room-preserved : goal.room-preserved
room-preserved c = record {
  claim = c.room.invariant.claim;
  keeps = λ all are.
      let before : List (List (List ℕ)) = map level_view c.room.self.levels.items in
      let more : before ++ [] ∷ [] ≡ map level_view c.push.new.self.items =
      ap (λ (last : List (List ℕ)). before ++ last ∷ []) (sym c.new.ensures)
      ∙ sym (map-append level_view c.room.self.levels.items (c.new.result ∷ []))
      ∙ ap (map level_view) (sym c.in_ok-push.ensures.items) in
      subst (λ (kept : List (List (List ℕ))). AreKeptLevels kept all) more (levels_room before all (c.room.invariant.keeps all are));
}
