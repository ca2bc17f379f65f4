use Rattle.std.proofs.Common.{◌≡◌, ◌+◌, ◌<◌, ◌∙◌, ◌++◌, [], ◌∷◌, ap, arith, inr, length, map, refl, subst, sym, take}
use Rattle.std.specs.Prelude.{All}
use Rattle.std.specs.Ordering.{nat_cmp}
use Rattle.std.specs.Cmp.Lexicographic.{slice_cmp}
use Rattle.std.proofs.lemmas.List.{length-map, map-append, take_all}
use Rattle.std.proofs.lemmas.List.Elements.{All-push}
use Rattle.archive_records.specs.Text.{last_of}
use Rattle.archive_records.proofs.Apart.{last_of-push as last_push}
use Rattle.index_format.specs.Entry.{HasItsFields, entry_bytes}
use Rattle.index_format.specs.InnerPaged.{PassInPart, bytes_of}
use Rattle.index_format.specs.Text.{check_entry}
use Rattle.index_format.specs.declared.paged_entry.PagedEntry.{PagedEntry}
use Rattle.index_format.proofs.Checks.{pass_ascending, passed}
use Rattle.index_format.proofs.PartChecks.{bytes_next, bytes_there, fronts_up, number_below, part_at, part_push, pass_checks}
use Rattle.index_format.proofs.part_checking.checked.Goals as goal

pub overflow_mul-result : goal.overflow_mul-result
overflow_mul-result c =
    let below = number_below c.args.count c.args.read.now c.reading.entry-index c.entry-item.result c.requires.numbers
    c.reading-test.true c.entry-item.is in
    omega (arith, below, c.requires.fits)

pub overflow_add-result : goal.overflow_add-result
overflow_add-result c =
    let below = number_below c.args.count c.args.read.now c.reading.entry-index c.entry-item.result c.requires.numbers
    c.reading-test.true c.entry-item.is in
    omega (arith, below, c.requires.fits)

pub returns-in-Err-clause-faulty : goal.returns-in-Err-clause-faulty
returns-in-Err-clause-faulty c =
    let read = c.args.read.now in
    let bytes = bytes_of read in
    let i = c.reading.entry-index in
    let e = c.entry-item.result in
    let inv = c.reading.invariant in
    let lt : i < length read = c.reading-test.true in
    let within : i < length bytes = omega (arith, lt, length-map read (λ (x : PagedEntry). x.bytes)) in
    let here = bytes_there read i e lt c.entry-item.is in
    inr (
      e.number,
      refl,
      λ pass.
          let at = part_at c.args.end [] bytes i pass within in
          c.in-Err.ensures.fail
          ((λ j. check_entry c.args.end (inv.last_is j) (sym here j)) ∙ at.0)
          ((λ j. slice_cmp nat_cmp (take 74 (inv.last_is j)) (take 74 (sym here j))) ∙ at.1),
    )

pub of_bytes-requires : goal.of_bytes-requires
of_bytes-requires c =
    let e = c.entry-item.result in
    let p = passed c.args.end c.reading.last.now e.bytes c.in_default.ensures.pass.0 in
    record { long = e.long; tag = p.tag; kind = p.kind; length_is = p.length_is }

pub reading-preserved : goal.reading-preserved
reading-preserved c =
    let read = c.args.read.now in
    let bytes = bytes_of read in
    let i = c.reading.entry-index in
    let e = c.entry-item.result in
    let inv = c.reading.invariant in
    let lt : i < length read = c.reading-test.true in
    let next = bytes_next read i e lt c.entry-item.is in
    let grown : map entry_bytes c.push.new.self.items ≡ take (i + 1) bytes =
    ap (map entry_bytes) c.in_default-push.ensures.items
    ∙ map-append entry_bytes c.reading.entries.items (c.of_bytes.result ∷ [])
    ∙ (λ j. inv.bytes j ++ c.of_bytes.ensures.bytes j ∷ [])
    ∙ sym next in
    let checked = c.in_default.ensures.pass in
    record {
      bytes = grown;
      fields = subst (All HasItsFields) (sym c.in_default-push.ensures.items)
          (All-push HasItsFields c.reading.entries.items c.of_bytes.result inv.fields c.of_bytes.ensures.fields);
      pass = subst (PassInPart c.args.end []) (sym next)
          (part_push c.args.end [] (take i bytes) e.bytes inv.pass e.long
          ((λ j. check_entry c.args.end (sym inv.last_is j) e.bytes) ∙ checked.0)
          ((λ j. slice_cmp nat_cmp (take 74 (sym inv.last_is j)) (take 74 e.bytes)) ∙ checked.1));
      last_is = sym (ap (last_of []) next ∙ last_push [] (take i bytes) e.bytes);
    }

pub returns-clause-bytes : goal.returns-clause-bytes
returns-clause-bytes c =
    let read = c.args.read.now in
    c.reading.invariant.bytes
    ∙ take_all c.reading.entry-index (bytes_of read)
    (omega (arith, length-map read (λ (x : PagedEntry). x.bytes), c.reading-test.false))

pub returns-clause-ordered : goal.returns-clause-ordered
returns-clause-ordered c =
    let inv = c.reading.invariant in
    let bytes = map entry_bytes c.reading.entries.items in
    let pass = subst (PassInPart c.args.end []) (sym inv.bytes) inv.pass in
    record {
      fields = inv.fields;
      ascending = (pass_ascending c.args.end [] bytes (pass_checks c.args.end [] bytes pass)).1;
      placed_ascending = (fronts_up c.args.end [] bytes pass).1;
    }
