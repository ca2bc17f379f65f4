use Rattle.std.proofs.Common.{◌≡◌, ◌++◌, ◌∷◌, [], refl, sym, ap, length, map, ◌∙◌, append_assoc, arith}
use Rattle.std.specs.Vec.Iter.{into_iter_items, into_iter_len}
use Rattle.std.proofs.lemmas.List.{append-nil, map-append, nil_from_length}
use Rattle.command_archives.specs.Admit.{file_rows}
use Rattle.command_archives.specs.InnerArriving.{record_in, slice_rows}
use Rattle.command_archives.proofs.Taking.{one_image, one_row}
use Rattle.command_archives.proofs.arriving.Arrivals.take_slices.Goals as goal

pub slices-init : goal.slices-init
slices-init c =
    let gives = c.into_iter-part-iterator.ensures.into_iter_gives in
    let long : into_iter_len c.into_iter-part-iterator.result
    ≡ length (into_iter_items c.into_iter-part-iterator.result) = omega (arith, gives.1, ap length gives.0) in
    record {
      can = tt;
      finite = tt;
      long = long;
      numbered = omega (arith, long);
      came = refl;
      rows = refl;
      are_first = ([], refl, λ records are_first. rw append-nil are_first);
    }

pub slices-preserved : goal.slices-preserved
slices-preserved c =
    let at = c.slices in
    let part = c.in-Some.part in
    let rest = into_iter_items c.next.new.self in
    let steps = c.in-Some.ensures.steps.0 in
    let new = c.take_part.new.self in
    let seen = at.invariant.are_first.0 in
    let took = c.in_ok-take_part.ensures in
    let was = at.invariant.long in
    let gone = c.in-Some.ensures.steps.1 in
    let short = ap length steps in
    record {
      can = tt;
      finite = tt;
      long = omega (arith, was, gone, short);
      numbered = omega (arith, at.invariant.numbered, was, gone, short);
      came = one_image at.self.came part rest new.came took.came ∙ (rw steps at at.invariant.came);
      rows = rw (took.rows, append_assoc, one_row at.self.came c.args.file at.number part rest new.came took.came) (rw steps at at.invariant.rows);
      are_first = (
        seen ++ part ∷ [],
        rw append_assoc (rw steps at at.invariant.are_first.1),
        λ records are_first. rw (
          map-append record_in seen (part ∷ []),
          ← append_assoc records (map record_in seen) (record_in part ∷ []),
        )
            (took.are_first (records ++ map record_in seen) (at.invariant.are_first.2 records are_first)),
      );
    }

pub overflow_add-number : goal.overflow_add-number
overflow_add-number c =
    let steps = ap length c.in-Some.ensures.steps.0 in
    omega (
      arith,
      c.slices.invariant.long,
      c.slices.invariant.numbered,
      steps,
      ap length c.into_iter-part-iterator.ensures.into_iter_gives.0,
      c.args.slices.ok.0,
      c.args.slices.ok.1,
      c.args.slices.small,
    )

pub returns-clause-came : goal.returns-clause-came
returns-clause-came c =
    let none = nil_from_length (into_iter_items c.slices.part-iterator) (omega (arith, c.slices.invariant.long, c.in-None.ensures.steps)) in
    rw (none, c.into_iter-part-iterator.ensures.into_iter_gives.0) at c.slices.invariant.came

pub returns-clause-rows : goal.returns-clause-rows
unfolding file_rows slice_rows
returns-clause-rows c =
    let none = nil_from_length (into_iter_items c.slices.part-iterator) (omega (arith, c.slices.invariant.long, c.in-None.ensures.steps)) in
    sym (append-nil c.slices.self.rows.items) ∙ (rw (none, c.into_iter-part-iterator.ensures.into_iter_gives.0) at c.slices.invariant.rows)

pub returns-clause-are_first : goal.returns-clause-are_first
returns-clause-are_first c =
    let none = nil_from_length (into_iter_items c.slices.part-iterator) (omega (arith, c.slices.invariant.long, c.in-None.ensures.steps)) in
    let are_first = c.slices.invariant.are_first in
    let all = rw (none, append-nil) at are_first.1 in
    λ records before. rw (← c.into_iter-part-iterator.ensures.into_iter_gives.0, all) (are_first.2 records before)
