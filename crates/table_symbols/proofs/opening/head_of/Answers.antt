use Rattle.table_symbols.proofs.TableLemmas.{head_read}
use Rattle.table_symbols.proofs.opening.head_of.Goals as goal

pub returns-clause-is : goal.returns-clause-is
returns-clause-is c = λ t fits is. head_read c.args.bytes.now t _ c.u64_be_at.result c.u64_be_at-2.result fits is
    c.u64_be_at.ensures c.u64_be_at-2.ensures c.base_of.ensures c.u64_be_at-3.ensures c.u64_be_at-4.ensures
    c.u64_be_at-5.ensures c.u64_be_at-6.ensures
