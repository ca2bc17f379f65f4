use Rattle.std.proofs.Common.{◌≡◌, ◌<◌, ◌^◌, ◌∙◌, ℕ, List, ap, arith, length, rules, slice_index, subst}
use Rattle.byte_device.specs.Writes.{IsPut}
use Rattle.table_checked_pages.specs.Pages.{stored}
use Rattle.table_checked_pages.specs.Views.{claim_view}
use Rattle.index_format.specs.Entry.{placed_bytes, placed_entry}
use Rattle.index_build.specs.Content.{IsTableOf, claim_of}
use Rattle.index_build.proofs.TableLemmas.{entry_made}
use Rattle.index_build.proofs.records.put_record.Goals as goal

pub returns-in-Ok-put_table-clause-put : goal.returns-in-Ok-put_table-clause-put
returns-in-Ok-put_table-clause-put g c =
    let p = c.in-Ok-put_table.ensures.put in
    let last = c.args.reader.now.last in
    let bytes = c.record-item.ensures.bytes in
    let at = c.in-Ok-try_from.at in
    let placed : placed_bytes c.of_record.result ≡ placed_entry c.in-Ok.offset last = c.of_record.ensures.bytes ∙ ap (placed_entry c.in-Ok.offset) bytes in
    let claim : claim_view c.in-Ok-put_table.claim ≡ claim_of at last p.0 = p.2 ∙ ap (λ (r : List ℕ). claim_of at r p.0) bytes in (
      p.0,
      subst (λ (r : List ℕ). IsTableOf r p.0) bytes p.1,
      entry_made c.of_record.result c.in-Ok-put_table.claim c.in-Ok.offset at c.args.before c.args.done last p.0
          c.of_record.ensures.claim placed claim c.in-Ok.ensures.1 c.in-Ok-try_from.ensures.1,
      subst (λ (n : ℕ). IsPut g.W.Sink.held g.W.Sink.failures c.args.w.now c.put_table.new.w n (stored p.0)
          c.in-Ok-put_table.done) c.in-Ok-try_from.ensures.1 p.3,
    )

pub returns-in-Ok-put_table-clause-bytes : goal.returns-in-Ok-put_table-clause-bytes
returns-in-Ok-put_table-clause-bytes g c = λ i.
    let fits : slice_index c.last-last.result.now i < 256 = first_of (omega arith, search rules) in
    subst (λ (bytes : List ℕ). slice_index bytes i < 256) c.last-last.ensures fits

pub returns-in-Ok-put_table-clause-long : goal.returns-in-Ok-put_table-clause-long
returns-in-Ok-put_table-clause-long g c =
    let fits : length c.last-last.result.now < 2 ^ 64 = omega arith in
    subst (λ (bytes : List ℕ). length bytes < 2 ^ 64) c.last-last.ensures fits
