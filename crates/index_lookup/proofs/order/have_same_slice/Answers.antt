use Rattle.std.proofs.Common.{ap, take, ◌∙◌}
use Rattle.std.specs.Ordering.{is_eq}
use Rattle.std.proofs.lemmas.Map.Text.{is_eq-slice_cmp}
use Rattle.index_lookup.proofs.order.have_same_slice.Goals as goal

pub returns : goal.returns
returns c = c.is_eq.ensures ∙ ap is_eq c.cmp.ensures ∙ is_eq-slice_cmp (take 57 c.args.bytes.now) (take 57 c.args.other.now)
