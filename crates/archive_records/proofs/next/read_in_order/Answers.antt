use Rattle.std.proofs.Common.{◌≡◌, ℕ, List, Bool, true, length, Option, Bor, option_map, Ok, Err, Result, refl, ap, subst, sym, ◌∙◌}
use Rattle.std.specs.Prelude.{IfOk, MatchResult}
use Rattle.std.specs.Io.KnownBytes.{Consumes}
use Rattle.archive_records.specs.declared.buffer.Buffer.{Buffer}
use Rattle.archive_records.specs.declared.fault.RecordFaultKind.{RecordFaultKind}
use Rattle.archive_records.specs.declared.format.Format.{Format}
use Rattle.archive_records.specs.Fault.{is_end, next, next_by}
use Rattle.archive_records.specs.Text.{end_record}
use Rattle.archive_records.specs.Kind.{allows}
use Rattle.archive_records.specs.Reader.{HoldsNext, bytes_so_far, last_after, seen_as}
use Rattle.archive_records.proofs.Above.{allowed_after, next_over}
use Rattle.archive_records.proofs.Blamed.{cut_same, failed, tested_blames}
use Rattle.archive_records.proofs.next.read_in_order.Goals as goal

abbrev slice_of : Option (Bor (List ℕ)) → Option (List ℕ)
slice_of = option_map (λ s. s.now)

pub returns-in_err-read_record : goal.returns-in_err-read_record
unfolding next
returns-in_err-read_record g c =
    let read = c.in_err-read_record.ensures in
    rw (failed c.from_residual.result c.in_err-read_record.field-0.0 c.from_residual.ensures.1) (record {
      within = c.read_record.ensures.within;
      taken = c.read_record.ensures.taken;
      next = ap (λ r. next_by c.args.file r (last_after (slice_of c.args.taken) c.args.buffer.now.bytes.items)
          c.args.count (bytes_so_far c.read_record.new.buffer)) read.framed;
      reader = read.reader;
    })

pub returns-clause-taken : goal.returns-clause-taken
returns-clause-taken g c =
    let b = c.read_record.new.buffer in
    let same = cut_same b.bytes.items c.truncate.new.self.items b.at c.truncate.ensures.items in
    subst (Consumes (g.R.Source.left c.args.r.now) (g.R.Source.left c.read_record.new.r)) (sym same) c.in_ok-read_record.ensures.taken

-- either way of the test
holds : (file : Format) (r : Result Bool RecordFaultKind) (last bytes : List ℕ) (count : ℕ) (b : Buffer) → bytes
    ≡ bytes_so_far b → b.bytes.items ≡ bytes_so_far b
    → MatchResult r (λ _. next file last count (bytes_so_far b) ≡ Ok (length (bytes_so_far b)))
    (λ kind. next file last count (bytes_so_far b) ≡ Err (seen_as kind))
    → IfOk r (λ end. end ≡ is_end bytes) → IfOk r (λ end. end ≡ true → bytes ≡ end_record count)
    → MatchResult r (λ end. HoldsNext file last count b × (end ≡ is_end (bytes_so_far b))
    × (end ≡ true → bytes_so_far b ≡ end_record count))
    (λ kind. next file last count (bytes_so_far b) ≡ Err (seen_as kind))
holds file (Ok end) last bytes count b is whole n end_told end_is = (record { is_next = n; whole = whole }, end_told ∙ ap is_end is, λ e. sym is ∙ end_is e)
holds file (Err kind) last bytes count b is whole n end_told end_is = n

pub returns-clause-next : goal.returns-clause-next
returns-clause-next g c =
    let b = c.read_record.new.buffer in
    let cut : Buffer = record { bytes = c.truncate.new.self; at = b.at; order = b.order } in
    let items = c.truncate.ensures.items in
    let whole = items ∙ sym (cut_same b.bytes.items c.truncate.new.self.items b.at items) in
    let read = c.in_ok-read_record.ensures in
    let before = c.args.buffer.now.bytes.items in
    let last = last_after (slice_of c.args.taken) before in
    let follows = c.allows.ensures ∙ ap (allows c.args.file) c.order_after-order.ensures
    ∙ allowed_after c.args.file (slice_of c.args.taken) before b cut refl items read.within read.over in
    holds c.args.file c.test.result last c.deref.result.now c.args.count cut (c.deref.ensures.value ∙ whole) whole
    (next_over c.args.file c.test.result last c.args.count b c.deref.result.now c.truncate.new.self.items
    c.allows.result read.within read.framed follows c.deref.ensures.value items c.test.ensures.tested)
    c.test.ensures.end c.test.ensures.end_is

pub returns-clause-reader : goal.returns-clause-reader
returns-clause-reader g c = tested_blames g.R.Source.left g.R.Source.failures c.args.r.now c.read_record.new.r
    c.test.result c.in_ok-read_record.ensures.reader c.test.ensures.not_part
