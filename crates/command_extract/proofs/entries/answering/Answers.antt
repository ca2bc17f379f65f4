use Rattle.std.proofs.Common.{◌∙◌, ap, length, sym}
use Rattle.command_extract.proofs.ChosenEntries.{one_named, others_named}
use Rattle.command_extract.proofs.entries.answering.Goals as goal

pub returns-in-Some-only : goal.returns-in-Some-only
returns-in-Some-only c =
    let told = rw c.in-Some.is at c.in_ok-named.ensures in
    one_named c.args.key.now c.args.read.now c.in-Some.named.items c.in-Some-only.one told (sym c.deref.ensures.value ∙ c.in-Some-only.ensures.one)

pub returns : goal.returns
returns c =
    let told = rw c.in-Some.is at c.in_ok-named.ensures in
    let others = others_named c.args.key.now c.args.read.now c.in-Some.named.items told
    (λ one. c.in-None.ensures.other (ap length c.deref.ensures.value ∙ one)) in
    (others.0, others.1, rw (c.in_ok-rows_of-in-None.ensures, c.deref-in-None.ensures.value) others.2)
