use Rattle.std.proofs.Common.{◌≡◌, ℕ, List, arith, length, map, subst, take}
use Rattle.std.specs.List.{AllByRecursion}
use Rattle.std.proofs.Math.ListN.{length-map}
use Rattle.std.proofs.lemmas.List.Elements.{recursion_from_All}
use Rattle.index_format.specs.Entry.{HasItsFields, IsPlacedEntry, entry_bytes}
use Rattle.index_format.specs.Index.{AreIndexEntries}
use Rattle.index_format.specs.Text.{placed_of}
use Rattle.index_format.specs.declared.entry.IndexEntry.{IndexEntry}
use Rattle.index_format.proofs.Fronts.{each_placed, fronts}
use Rattle.index_format.proofs.Kept.{are_listed}
use Rattle.index_format.proofs.index.Index.len.Goals as goal

pub returns-clause-len : goal.returns-clause-len
returns-clause-len c =
    let items = c.self.inside.entries.items in
    let as_long : length (map entry_bytes items) ≡ length items = length-map items entry_bytes in
    rw (← c.self.view_is) (omega (arith, as_long, c.self.inside.entries.ok.0))

pub returns-clause-entries : goal.returns-clause-entries
returns-clause-entries c =
    let items : List IndexEntry = c.self.inside.entries.items in
    let fields = recursion_from_All HasItsFields items c.self.invariant.fields in
    let are : AllByRecursion IsPlacedEntry (map (take 74) (map entry_bytes items)) =
    subst (AllByRecursion IsPlacedEntry) (fronts items fields) (each_placed items fields) in
    subst (λ (xs : List (List ℕ)). AreIndexEntries (placed_of xs)) c.self.view_is (are_listed (map (take 74) (map entry_bytes items)) are)
