use Rattle.std.proofs.Common.{ℕ, List, Option, Bor, option_map, inl, inr, refl, ap, sym, subst, arith, ◌∙◌, ◌+◌}
use Rattle.std.specs.Io.KnownBytes.{Consumes}
use Rattle.archive_records.specs.Kind.{kind_of}
use Rattle.archive_records.specs.Reader.{bytes_so_far, IsFoundIn, KeepsIn, Position, last_after, with_shared}
use Rattle.archive_records.proofs.Blamed.{bounds_kept}
use Rattle.archive_records.proofs.FaultKinds.{cut_off, memory_blames}
use Rattle.archive_records.proofs.Forms.{item-found}
use Rattle.archive_records.proofs.FoundOut.{found_last, nothing_last}
use Rattle.archive_records.proofs.RecordSteps.{step_refused, refused_blames}
use Rattle.archive_records.proofs.Undecided.{kept_uncovered}
use Rattle.archive_records.proofs.reader.RecordReader.advance_by.Goals as goal

abbrev slice_of : Option (Bor (List ℕ)) → Option (List ℕ)
slice_of = option_map (λ s. s.now)

abbrev shared_of : Option (Bor (List (List ℕ))) → Option (List (List ℕ))
shared_of = option_map (λ s. s.now)

pub returns-in-Ok-End : goal.returns-in-Ok-End
returns-in-Ok-End g c =
    let step = rw c.in-Ok-End.field-0-is at c.in-Ok-End.ensures.step in
    let taken = subst (Consumes (g.R.Source.left c.args.r.now) (g.R.Source.left c.read_next.new.r)) step.0 c.read_next.ensures.taken in
    rw (← c.self.view_is) (
      record {
        taken = taken;
        ended = step.1;
        file_is = refl;
        count_is = refl;
        offset_is = refl;
        few = c.self.invariant.0.few;
        retired_is = refl;
      },
      c.in-Ok-End.ensures.reader,
    )

pub returns-else-self-eq-MOST : goal.returns-else-self-eq-MOST
returns-else-self-eq-MOST g c =
    let step = rw c.in-Ok-Item.field-0-is at c.in-Ok-Item.ensures.step in
    let few = c.self.invariant.0.few in
    rw (← c.self.view_is) (
      record {
        taken = rw step.whole c.read_next.ensures.taken;
        item = rw step.whole (item-found c.self.inside.file _ c.in-Ok-Item.found step.found_is);
        follows = rw step.whole step.follows;
        file_is = refl;
        count_is = refl;
        offset_is = ap (λ n. c.self.inside.offset + n) (c.len.ensures ∙ c.read_next.new.buffer.bytes.ok.0);
        few = omega (arith, c.if-self-eq-MOST.false);
        kept = rw c.deref.ensures.value at c.in-Ok.ensures.kept;
      },
      c.in-Ok-Item.ensures.reader,
      rw c.deref.ensures.value at c.keep.ensures.found,
    )

pub returns-in-Err-keep : goal.returns-in-Err-keep
returns-in-Err-keep g c =
    let step = rw c.in-Ok-Item.field-0-is at c.in-Ok-Item.ensures.step in
    let refused = rw (c.deref.ensures.value, step.whole) at c.in-Err-keep.ensures.refused in
    let before : Position = record {
      file = c.self.inside.file;
      last =
          last_after (slice_of c.args.taken) c.self.inside.buffer.bytes.items;
      count = c.self.inside.count;
      offset =
          c.self.inside.offset;
      retired = with_shared (shared_of c.args.shared) c.self.inside.retired;
      dropped =
          c.self.inside.dropped;
    } in
    let stop = step_refused (g.R.Source.left c.args.r.now) (g.R.Source.left c.read_next.new.r) before
    c.read_next.new.buffer.bytes.items (bytes_so_far c.read_next.new.buffer) c.in-Err-keep.kind step.whole
    c.read_next.ensures.taken c.self.invariant.0.few
    (item-found c.self.inside.file _ c.in-Ok-Item.found step.found_is) step.follows refused in
    rw (← c.self.view_is) (
      stop.0,
      refused_blames g.R.Source.left g.R.Source.failures c.args.r.now c.read_next.new.r before
          (bytes_so_far c.read_next.new.buffer) c.in-Err-keep.kind c.in-Ok-Item.ensures.reader refused,
      stop.1,
    )

pub returns-then-self-eq-MOST : goal.returns-then-self-eq-MOST
returns-then-self-eq-MOST g c =
    let step = rw c.in-Ok-Item.field-0-is at c.in-Ok-Item.ensures.step in
    let kept = subst (KeepsIn c.self.inside.file (with_shared (shared_of c.args.shared) c.self.inside.retired)
    (with_shared (shared_of c.args.shared) c.keep.new.retired) c.in-Ok.dropped) (c.deref.ensures.value ∙ step.whole)
    c.in-Ok.ensures.kept in
    rw (← c.self.view_is, c.out_of_memory.ensures) (
      record {
        rest = bytes_so_far c.read_next.new.buffer;
        taken = c.read_next.ensures.taken;
        unended = λ known. absurd (known.1 refl);
        fails = λ known. absurd (known refl);
        wanted = λ _. inr (record {
          item = item-found c.self.inside.file _ c.in-Ok-Item.found step.found_is;
          follows = step.follows;
          uncovered = kept_uncovered c.self.inside.file (with_shared (shared_of c.args.shared) c.self.inside.retired)
              (with_shared (shared_of c.args.shared) c.keep.new.retired) c.in-Ok.dropped
              (bytes_so_far c.read_next.new.buffer) kept;
        });
        offset_is = refl;
        few = c.self.invariant.0.few;
      },
      memory_blames g.R.Source.left g.R.Source.failures c.args.r.now c.read_next.new.r c.in-Ok-Item.ensures.reader,
      λ _. inl (item-found c.self.inside.file _ c.in-Ok-Item.found step.found_is, step.whole),
    )

pub returns-in-Err : goal.returns-in-Err
returns-in-Err g c =
    rw (← c.self.view_is) (
      record {
        rest = bytes_so_far c.read_next.new.buffer;
        taken = c.read_next.ensures.taken;
        unended = c.in-Err.ensures.unended;
        fails = λ _. inl c.in-Err.ensures.fails;
        wanted = λ memory. inl (rw memory at c.in-Err.ensures.fails);
        offset_is = refl;
        few = c.self.invariant.0.few;
      },
      c.in-Err.ensures.reader,
      λ memory. inr (cut_off c.self.inside.file _ _ _ (rw memory at c.in-Err.ensures.fails), c.clear-in-Err.ensures.items),
    )

pub keep-requires : goal.keep-requires
keep-requires g c =
    let step = rw c.in-Ok-Item.field-0-is at c.in-Ok-Item.ensures.step in
    subst (λ (bytes : List ℕ). IsFoundIn (kind_of c.self.inside.file) bytes c.in-Ok-Item.found) (sym (c.deref.ensures.value ∙ step.whole)) step.found_is

pub invariant_of-self : goal.invariant_of-self
invariant_of-self g c = (
  bounds_kept c.self.inside.chunk.items c.read_next.new.chunk c.self.inside.chunk.len c.self.inside.count
      c.self.inside.offset c.self.inside.chunk.ok.0 c.self.invariant.0,
  nothing_last _ c.clear.ensures.items,
)

pub invariant_of-self-in-Err-keep : goal.invariant_of-self-in-Err-keep
invariant_of-self-in-Err-keep g c = (
  bounds_kept c.self.inside.chunk.items c.read_next.new.chunk c.self.inside.chunk.len c.self.inside.count
      c.self.inside.offset c.self.inside.chunk.ok.0 c.self.invariant.0,
  found_last c.self.inside.file _ c.keep.new.found (rw c.deref.ensures.value at c.keep.ensures.found),
)

pub invariant_of-self-then-self-eq-MOST : goal.invariant_of-self-then-self-eq-MOST
invariant_of-self-then-self-eq-MOST g c = (
  bounds_kept c.self.inside.chunk.items c.read_next.new.chunk c.self.inside.chunk.len c.self.inside.count
      c.self.inside.offset c.self.inside.chunk.ok.0 c.self.invariant.0,
  found_last c.self.inside.file _ c.keep.new.found (rw c.deref.ensures.value at c.keep.ensures.found),
)

pub invariant_of-self-in-Err : goal.invariant_of-self-in-Err
invariant_of-self-in-Err g c = (
  bounds_kept c.self.inside.chunk.items c.read_next.new.chunk c.self.inside.chunk.len c.self.inside.count
      c.self.inside.offset c.self.inside.chunk.ok.0 c.self.invariant.0,
  nothing_last _ c.clear-in-Err.ensures.items,
)

pub invariant_of-self-in-Ok-Item : goal.invariant_of-self-in-Ok-Item
invariant_of-self-in-Ok-Item g c =
    let kept = bounds_kept c.self.inside.chunk.items c.read_next.new.chunk c.self.inside.chunk.len c.self.inside.count
    c.self.inside.offset c.self.inside.chunk.ok.0 c.self.invariant.0 in (
      record {
        some = kept.some;
        few = omega (arith, c.if-self-eq-MOST.false, kept.few);
        fits =
            omega (arith, c.len.type_inv, kept.fits);
      },
      found_last c.self.inside.file _ c.keep.new.found
          (rw c.deref.ensures.value at c.keep.ensures.found),
    )
