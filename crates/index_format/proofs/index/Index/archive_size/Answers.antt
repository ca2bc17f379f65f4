use Rattle.std.proofs.Common.{◌+◌, ◌∙◌, ℕ, List, ap, sym, subst, map}
use Rattle.std.specs.Prelude.{All}
use Rattle.std.specs.List.{sum_by}
use Rattle.index_format.specs.Entry.{HasItsFields, entry_bytes, length_in}
use Rattle.index_format.specs.Index.{lengths_of}
use Rattle.index_format.specs.Text.{placed_of}
use Rattle.index_format.specs.declared.entry.IndexEntry.{IndexEntry}
use Rattle.index_format.proofs.Fronts.{lengths_together}
use Rattle.index_format.proofs.index.Index.archive_size.Goals as goal

pub archive_len-requires : goal.archive_len-requires
archive_len-requires c = subst (All HasItsFields) (sym c.deref.ensures.value) c.self.invariant.fields

pub returns : goal.returns
returns c =
    let items : List IndexEntry = c.self.inside.entries.items in
    c.archive_len.ensures
    ∙ ap (λ (es : List IndexEntry). 17 + sum_by length_in (map entry_bytes es)) c.deref.ensures.value
    ∙ ap (λ (n : ℕ). 17 + n) (sym (lengths_together items c.self.invariant))
    ∙ ap (λ (xs : List (List ℕ)). 17 + lengths_of (placed_of xs)) c.self.view_is
