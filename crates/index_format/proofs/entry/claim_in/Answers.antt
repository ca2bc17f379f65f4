use Rattle.std.proofs.Common.{◌≡◌, ◌∙◌, drop}
use Rattle.std.proofs.lemmas.List.{take_rest}
use Rattle.index_format.proofs.Fields.{claim_parts}
use Rattle.index_format.proofs.entry.claim_in.Goals as goal

pub returns-clause-is : goal.returns-clause-is
returns-clause-is c =
    let root : c.copy_from_slice.new.self ≡ drop 90 c.args.bytes.now = c.copy_from_slice.ensures.after ∙ take_rest c.args.bytes.now 90 in
    λ i. record { offset = c.number_at.ensures.number i; size = c.number_at-2.ensures.number i; root = root i }

pub returns-clause-bytes : goal.returns-clause-bytes
returns-clause-bytes c =
    claim_parts c.args.bytes.now _ c.number_at.ensures.bytes c.number_at-2.ensures.bytes (c.copy_from_slice.ensures.after ∙ take_rest c.args.bytes.now 90)
