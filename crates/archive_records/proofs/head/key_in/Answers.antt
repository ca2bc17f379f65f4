use Rattle.std.proofs.Common.{◌∙◌}
use Rattle.archive_core.proofs.Heads.{read_key}
use Rattle.archive_records.proofs.head.key_in.Goals as goal

pub returns-clause-bytes : goal.returns-clause-bytes
returns-clause-bytes c = read_key c.args.bytes.now _ (c.from_bytes.ensures ∙ c.copy_from_slice.ensures.after)
    c.arch_number_at.ensures c.arch_number_at-2.ensures
