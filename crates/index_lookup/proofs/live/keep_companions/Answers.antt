use Rattle.std.proofs.Common.{rules}
use Rattle.std.proofs.lemmas.Fn.{filter_same}
use Rattle.index_format.specs.Entry.{entry_bytes}
use Rattle.index_lookup.specs.Told.{is_companion}
use Rattle.index_lookup.proofs.live.keep_companions.Goals as goal

pub returns : goal.returns
returns c = filter_same _ (λ n. is_companion (entry_bytes n.entry)) _ (λ x b f' k. search rules) _ _ c.retain.ensures.filtered
