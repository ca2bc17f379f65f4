use Rattle.std.proofs.Common.{sym, ◌∙◌, List, ℕ, arith, length-append}
use Rattle.archive_core.specs.Key.{key_bytes}
use Rattle.archive_core.specs.Record.{retirement_record}
use Rattle.archive_core.proofs.Retired.{in_second, nothing_there, retirement_prefix}
use Rattle.archive_core.proofs.retirements.Retirements.has_key.Goals as goal

pub returns-else-has_prefix : goal.returns-else-has_prefix
returns-else-has_prefix c = λ digest long there.
    let it : List ℕ = retirement_record c.args.key.now digest in
    let prefix = retirement_prefix c.args.key.now digest c.prefix_of-prefix.ensures.long ∙ sym c.prefix_of-prefix.ensures.prefix in
    let none = nothing_there c.deref.result.now it c.has_prefix.result (c.has_prefix.ensures it prefix) c.if-has_prefix.false in
    let other = in_second c.self.inside.ascending.items c.self.inside.others.keys c.args.self.now it c.self.view_is (rw c.deref.ensures.value at none) in
    c.has_other_prefix.ensures it prefix (omega (
      arith,
      length-append (key_bytes c.args.key.now) digest,
      c.prefix_of-prefix.ensures.long,
      long,
    )) (sym other ∙ there)
