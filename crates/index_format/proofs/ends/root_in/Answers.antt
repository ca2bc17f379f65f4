use Rattle.std.proofs.Common.{◌∙◌}
use Rattle.std.proofs.lemmas.List.{take_rest}
use Rattle.index_format.proofs.ends.root_in.Goals as goal

pub returns : goal.returns
returns c = c.copy_from_slice.ensures.after ∙ take_rest c.args.end.now 25
