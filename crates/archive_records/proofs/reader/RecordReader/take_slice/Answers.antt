use Rattle.std.proofs.Common.{ℕ, List, drop, sym, ap, ◌∙◌}
use Rattle.archive_records.specs.Reader.{Position}
use Rattle.archive_records.proofs.Forms.{admitted_is, long-admission}
use Rattle.archive_records.proofs.reader.RecordReader.take_slice.Goals as goal

pub without_head-requires : goal.without_head-requires
without_head-requires c =
    let is = rw (sym c.take.ensures.value ∙ c.in-Some.is) at c.self.invariant.1 in
    rw c.replace-whole.ensures.value (long-admission c.self.inside.buffer.bytes.items is.0)

pub returns : goal.returns
returns c =
    let before = c.self.inside in
    let last = before.buffer.bytes.items in
    let is = rw (sym c.take.ensures.value ∙ c.in-Some.is) at c.self.invariant.1 in
    let position : Position = record {
      file = before.file;
      last = last;
      count = before.count;
      offset = before.offset;
      retired = before.retired;
      dropped = before.dropped;
    } in
    rw (← c.self.view_is) (ap (λ (t : List ℕ). record position { last = t })
    (admitted_is last c.of_checked.result is.0 (c.of_checked.ensures ∙ c.without_head.ensures
    ∙ ap (λ v. drop 33 v.items) c.replace-whole.ensures.value)))
