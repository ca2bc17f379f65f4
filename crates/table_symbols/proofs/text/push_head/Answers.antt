use Rattle.std.proofs.Common.{◌∙◌, ◌++◌, append_assoc}
use Rattle.std.specs.Int.{w64, to_be_bytes}
use Rattle.table_symbols.specs.Table.{base_flag, base_or_zero}
use Rattle.table_symbols.proofs.TextLemmas.{pushed_five}
use Rattle.table_symbols.proofs.text.push_head.Goals as goal

pub returns-clause-pushed : goal.returns-clause-pushed
returns-clause-pushed c =
    let old = c.args.text.now.items in
    let flag = to_be_bytes w64 (base_flag c.args.base) in
    let base = to_be_bytes w64 (base_or_zero c.args.base) in
    let sections = to_be_bytes w64 c.args.sections in
    let rows = to_be_bytes w64 c.args.rows in
    let strings = to_be_bytes w64 c.args.strings in
    let lines = to_be_bytes w64 c.args.lines in
    pushed_five (old ++ flag) base sections rows strings lines _ _ _ _ _ c.in_ok-push_base.ensures
    c.in_ok-push_u64.ensures c.in_ok-push_u64-2.ensures c.in_ok-push_u64-3.ensures c.in_ok-push_u64-4.ensures
    ∙ append_assoc old flag (base ++ (sections ++ (rows ++ (strings ++ lines))))
