use Rattle.std.proofs.Common.{◌≡◌, List, ℕ, [], ◌∷◌, ◌++◌, sym, ap, ◌∙◌, subst, map}
use Rattle.std.proofs.lemmas.List.{map-append}
use Rattle.table_checked_pages.specs.Pages.{AreKept}
use Rattle.table_checked_pages.proofs.PageLemmas.{kept_room}
use Rattle.table_checked_pages.proofs.level.Level.make_room.Goals as goal

pub room-preserved : goal.room-preserved
room-preserved c = λ all are.
    let before : List (List ℕ) = map (λ page. page.items) c.room.self.kept.items in
    let more : before ++ [] ∷ [] ≡ map (λ page. page.items) c.push.new.self.items =
    ap (λ (last : List ℕ). before ++ last ∷ []) (sym c.new.ensures.items)
    ∙ sym (map-append (λ page. page.items) c.room.self.kept.items (c.new.result ∷ []))
    ∙ ap (map (λ page. page.items)) (sym c.in_ok-push.ensures.items) in
    subst (λ (kept : List (List ℕ)). AreKept kept all) more (kept_room before all (c.room.invariant all are))
