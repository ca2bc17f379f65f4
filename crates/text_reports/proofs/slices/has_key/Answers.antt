use Rattle.std.proofs.Common.{◌≡◌, ◌↔◌, Bool, true, rules, sym, subst}
use Rattle.std.specs.List.{Contains}
use Rattle.std.specs.declared.cmp.Ordering.TheVariants.{Equal}
use Rattle.std.proofs.lemmas.Fn.{always_returns_same}
use Rattle.archive_core.specs.Key.{IsKey}
use Rattle.archive_core.specs.declared.find.FindRow.{FindRow}
use Rattle.text_reports.specs.Slices.{slice_key_cmp}
use Rattle.text_reports.proofs.Kept.{halved, place_of}
use Rattle.text_reports.proofs.Sliced.{by_keys, key_found, keys_total}
use Rattle.text_reports.proofs.slices.has_key.Goals as goal

pub returns-clause-is : goal.returns-clause-is
returns-clause-is c =
    let rows = c.args.rows.now in
    let key = c.args.key in
    let is_key : IsKey key = search rules in
    let facts = c.binary_search_by.ensures in
    let by = facts.position (place_of keys_total (λ (row : FindRow). row.key) key) (always_returns_same _ _ _ (λ a r g called. (search rules, search rules))) in
    let found = halved keys_total (λ (row : FindRow). row.key) key rows c.binary_search_by.result (by_keys rows c.requires.sorted) facts.bound by in
    key_found rows key c.is_ok.result c.requires.keyed is_key
    (subst (λ (b : Bool). (b ≡ true) ↔ ((row : FindRow) × Contains rows row × (slice_key_cmp row.key key ≡ Equal))) (sym c.is_ok.ensures.value) found)
