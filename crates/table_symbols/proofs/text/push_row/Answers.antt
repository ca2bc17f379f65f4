use Rattle.std.proofs.Common.{◌∙◌, ◌++◌}
use Rattle.table_symbols.specs.Rows.{row_bytes}
use Rattle.table_symbols.proofs.TextLemmas.{pushed_four}
use Rattle.table_symbols.proofs.text.push_row.Goals as goal

pub returns-clause-pushed : goal.returns-clause-pushed
unfolding row_bytes
returns-clause-pushed c =
    pushed_four c.args.text.now.items _ _ _ _ c.extend_from_slice.new.self.items _ _ _
    (c.in_ok-extend_from_slice.ensures.items
    ∙ (λ i. c.args.text.now.items ++ c.to_be_bytes.ensures i))
    (c.in_ok-extend_from_slice-2.ensures.items ∙ (λ i. c.extend_from_slice.new.self.items
    ++ c.to_be_bytes-2.ensures i))
    (c.in_ok-extend_from_slice-3.ensures.items ∙ (λ i. c.extend_from_slice-2.new.self.items ++ c.to_be_bytes-3.ensures i)) c.in_ok-push.ensures.items
