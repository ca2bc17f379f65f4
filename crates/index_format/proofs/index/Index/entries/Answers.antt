use Rattle.std.proofs.Common.{◌∙◌, ℕ, List, ap, map, take, subst, sym}
use Rattle.std.specs.Prelude.{All}
use Rattle.std.specs.Cmp.Lexicographic.{nat_list_cmp_total}
use Rattle.std.proofs.lemmas.List.Elements.{recursion_from_All}
use Rattle.join_core.specs.Listing.{listing}
use Rattle.join_core.proofs.Listing.{listing_ascending}
use Rattle.archive_core.proofs.Made.{bytes_same}
use Rattle.index_format.specs.Entry.{HasItsFields, entry_bytes, placed_bytes}
use Rattle.index_format.specs.Index.{AreIndexed}
use Rattle.index_format.specs.Text.{placed_of}
use Rattle.index_format.specs.declared.entry.IndexEntry.{IndexEntry}
use Rattle.index_format.proofs.Fronts.{are_indexed, fronts}
use Rattle.index_format.proofs.index.Index.entries.Goals as goal

pub returns-clause-bytes : goal.returns-clause-bytes
returns-clause-bytes c = ap (map entry_bytes) c.deref.ensures.value ∙ c.self.view_is

pub returns-clause-fields : goal.returns-clause-fields
returns-clause-fields c = subst (All HasItsFields) (sym c.deref.ensures.value) c.self.invariant.fields

pub returns-clause-placed : goal.returns-clause-placed
returns-clause-placed c =
    let items : List IndexEntry = c.self.inside.entries.items in
    ap (map placed_bytes) c.deref.ensures.value
    ∙ fronts items (recursion_from_All HasItsFields items c.self.invariant.fields)
    ∙ sym (listing_ascending nat_list_cmp_total bytes_same (map (take 74) (map entry_bytes items)) c.self.invariant.placed_ascending)
    ∙ ap (λ (es : List (List ℕ)). listing (placed_of es)) c.self.view_is

pub returns-clause-indexed : goal.returns-clause-indexed
returns-clause-indexed c = subst (λ (es : List IndexEntry). AreIndexed (map placed_bytes es))
    (sym c.deref.ensures.value) (are_indexed c.self.inside.entries.items c.self.invariant)
