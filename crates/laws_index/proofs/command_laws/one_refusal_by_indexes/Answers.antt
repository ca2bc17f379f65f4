use Rattle.laws_index.proofs.OneRefusal.{one_refusal}
use Rattle.laws_index.proofs.command_laws.one_refusal_by_indexes.Goals as goal

pub returns : goal.returns
returns g c = λ lines slices frames inputs archives others more os at other why another are also tell keyed refused too known seen.
    one_refusal c.one_index.ensures c.one_slice_table.ensures inputs archives others more os tell lines slices frames keyed at other why another are also
    refused too known seen
