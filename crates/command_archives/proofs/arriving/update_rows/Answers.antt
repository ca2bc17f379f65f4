use Rattle.std.proofs.Common.{◌≡◌, ◌<◌, ◌∙◌, List, [], ap, refl, get_or, length, arith}
use Rattle.std.proofs.lemmas.List.{get_or-map, length-map, length-set}
use Rattle.std.proofs.lemmas.Option.{slice_get-get_or}
use Rattle.archive_merge.specs.declared.arrivals.Arrival.{Arrival}
use Rattle.archive_merge.specs.declared.arrivals.Arrival.TheVariants.{New}
use Rattle.archive_merge.specs.Arrivals.{is_new}
use Rattle.command_archives.proofs.FirstRows.{all_marked, as_many, marked_more, marked_none, no_row, record_at}
use Rattle.command_archives.proofs.FirstRows.{row_inside}
use Rattle.command_archives.proofs.arriving.update_rows.Goals as goal

pub told-init : goal.told-init
told-init c = record {
  many = let many = as_many c.requires.0 c.args.first_rows.now c.args.rows.now c.requires.1 c.requires.2 in omega (arith, many, c.requires.3);
  long = refl;
  marked = λ f came records are_first is. marked_none (λ r. is_new (f r)) c.args.rows.now records c.args.first_rows.now c.args.rows.now refl;
}

pub told-preserved : goal.told-preserved
told-preserved c =
    let index = c.told.index in
    let lt : index < length c.args.first_rows.now = omega (arith, c.told.invariant.many) in
    let at = slice_get-get_or c.args.first_rows.now index 0 lt in
    record {
      many = c.told.invariant.many;
      long = ap length (c.update_row.ensures no_row) ∙ length-set c.told.rows _ _ ∙ c.told.invariant.long;
      marked = λ f came records are_first is.
          let many = as_many came c.args.first_rows.now c.args.rows.now records are_first in
          let low : index < length came = omega (arith, many, lt) in
          let arrival_is = ap (λ (xs : List Arrival). get_or xs index New) is ∙ get_or-map f came index [] New low
          ∙ ap f (record_at came c.args.first_rows.now c.args.rows.now records are_first index _ at) in
          marked_more (λ r. is_new (f r)) _ records _ index _ c.told.rows _ c.is_new.result
          (c.told.invariant.marked f came records are_first is) at
          (row_inside came _ _ records are_first index _ at)
          (c.is_new.ensures ∙ ap is_new arrival_is) (c.update_row.ensures no_row);
    }

pub update_row-requires : goal.update_row-requires
update_row-requires c =
    let lt : c.told.index < length c.args.first_rows.now = omega (arith, c.told.invariant.many) in
    let at = slice_get-get_or c.args.first_rows.now c.told.index 0 lt in
    let inside = row_inside c.requires.0 c.args.first_rows.now c.args.rows.now c.requires.1 c.requires.2 c.told.index
    (get_or c.args.first_rows.now c.told.index 0) at in
    omega (arith, inside, c.told.invariant.long)

pub returns : goal.returns
returns c = λ f came records are_first is.
    let told_long : length c.args.told.now ≡ length came = ap length is ∙ length-map came f in
    let many : length came ≡ length c.args.first_rows.now = as_many came c.args.first_rows.now c.args.rows.now records are_first in
    let end : c.told.index ≡ length c.args.first_rows.now = omega (arith, told_long, many) in
    all_marked came c.args.first_rows.now c.args.rows.now records are_first (λ r. is_new (f r)) c.told.index c.told.rows
    (c.told.invariant.marked f came records are_first is) end
