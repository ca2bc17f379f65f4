use Rattle.std.proofs.Common.{◌∙◌, ap, subst, sym, arith}
use Rattle.std.proofs.lemmas.List.{length-take-le}
use Rattle.table_checked_pages.specs.Views.{claim_view}
use Rattle.table_checked_pages.specs.declared.claim.Claim.{Claim}
use Rattle.index_format.specs.Entry.{IsPlacedEntry, claim_bytes}
use Rattle.index_format.proofs.Fields.{entry_of_parts, fields_of, kind_front, placed_front, tag_front}
use Rattle.index_format.proofs.entry.IndexEntry.of_bytes.Goals as goal

pub slice_bounds-placed_in-end : goal.slice_bounds-placed_in-end
slice_bounds-placed_in-end c = sym (length-take-le 74 c.args.bytes.now (omega (arith, c.requires.long)))

pub placed_in-requires-clause-long : goal.placed_in-requires-clause-long
placed_in-requires-clause-long c = length-take-le 74 c.args.bytes.now (omega (arith, c.requires.long))

pub placed_in-requires-clause-tag : goal.placed_in-requires-clause-tag
placed_in-requires-clause-tag c = tag_front c.args.bytes.now c.requires.tag

pub placed_in-requires-clause-kind : goal.placed_in-requires-clause-kind
placed_in-requires-clause-kind c = kind_front c.args.bytes.now c.requires.kind

pub returns-clause-bytes : goal.returns-clause-bytes
returns-clause-bytes c =
    entry_of_parts c.args.bytes.now _ c.placed_in.ensures.bytes
    (ap (λ (claim : Claim). claim_bytes (claim_view claim)) c.placed_in.ensures.claim_is ∙ c.claim_in.ensures.bytes)

pub returns-clause-fields : goal.returns-clause-fields
returns-clause-fields c =
    fields_of c.args.bytes.now _ c.requires.long (returns-clause-bytes c) c.placed_in.ensures.offset_is
    c.placed_in.ensures.length_is (ap claim_view c.placed_in.ensures.claim_is ∙ c.claim_in.ensures.is)
    (subst IsPlacedEntry (sym c.placed_in.ensures.bytes) (placed_front c.args.bytes.now c.requires.long c.requires.tag c.requires.kind c.requires.length_is))
