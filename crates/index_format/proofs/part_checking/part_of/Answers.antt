use Rattle.std.proofs.Common.{◌∙◌, ap, length, subst, sym}
use Rattle.std.proofs.lemmas.List.{length-map}
use Rattle.index_format.specs.Entry.{entry_bytes}
use Rattle.index_format.specs.Spread.{AreNumbers, spread}
use Rattle.index_format.proofs.PartChecks.{many_read}
use Rattle.index_format.proofs.part_checking.part_of.Goals as goal

pub of_entries-requires : goal.of_entries-requires
of_entries-requires c =
    let read = c.args.read.now in
    record {
      ordered = c.in_ok-entries.ensures.ordered;
      many = ap length c.in-Ok.ensures ∙ many_read read ∙ sym (ap length c.in_ok-entries.ensures.bytes)
          ∙ length-map c.in_ok-entries.entries.items entry_bytes;
      numbered = subst (AreNumbers c.args.count) (sym c.in-Ok.ensures) c.requires.numbers;
    }

pub returns-in-Ok-clause-part : goal.returns-in-Ok-clause-part
returns-in-Ok-clause-part c =
    c.of_entries.ensures
    ∙ (λ i. spread c.args.count (c.in-Ok.ensures i) (c.in_ok-entries.ensures.bytes i))
