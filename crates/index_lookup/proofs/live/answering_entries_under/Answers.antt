use Rattle.std.proofs.Common.{◌≡◌, map, sym, ap, ◌∙◌}
use Rattle.std.specs.Prelude.{filter}
use Rattle.std.specs.List.{list_any}
use Rattle.index_format.specs.Entry.{entry_bytes}
use Rattle.index_lookup.specs.Among.{EntryAt, all_of, has_live_companion}
use Rattle.index_lookup.specs.Told.{is_companion}
use Rattle.index_lookup.specs.InnerAnswering.{entry_at}
use Rattle.index_lookup.specs.declared.numbered.Numbered.{Numbered}
use Rattle.index_lookup.proofs.Lists.{any_map}
use Rattle.index_lookup.proofs.Together.{companion_is, found_all, found_companions}
use Rattle.index_lookup.proofs.live.answering_entries_under.Goals as goal
use Rattle.index_lookup.proofs.live.answering_entries_under.Goals.{then-has_companion, else-has_companion}
use Rattle.archive_core.proofs.Members.{filter_map_swap}

pub returns : goal.returns
returns c =
    let prefix = c.args.prefix.now in
    let indexes = c.args.indexes.now in
    let live = c.in_ok-live.live.items in
    let any : has_live_companion prefix (all_of indexes) ≡ c.has_companion.result =
    sym (companion_is prefix indexes) ∙ ap (list_any (λ (x : EntryAt). is_companion x.entry)) (sym c.in_ok-live.ensures)
    ∙ any_map (λ (x : EntryAt). is_companion x.entry) entry_at live
    ∙ ap (list_any (λ (n : Numbered). is_companion (entry_bytes n.entry))) (sym c.deref.ensures.value) ∙ sym c.has_companion.ensures in
    elim c.if-has_companion.branch [
      | then-has_companion w ↦
          ap (λ v. map entry_at v.items) w.live-is ∙ ap (map entry_at) w.keep_companions.ensures
          ∙ sym (filter_map_swap (λ (x : EntryAt). is_companion x.entry) entry_at live)
          ∙ ap (filter (λ (x : EntryAt). is_companion x.entry)) c.in_ok-live.ensures ∙ found_companions prefix indexes (any ∙ w.if-has_companion.true)
      | else-has_companion w ↦ ap (λ v. map entry_at v.items) w.live-is ∙ c.in_ok-live.ensures ∙ found_all prefix indexes (any ∙ w.if-has_companion.false)
    ]
