use Rattle.std.proofs.Common.{sym, subst, Option, slice_index}
use Rattle.dwarf_ranges.specs.Aranges.{IsFirstTuple}
use Rattle.dwarf_ranges.specs.declared.arange.Arange.{Arange}
use Rattle.std.proofs.lemmas.Result.{IfOk-weaker}
use Rattle.dwarf_ranges.proofs.TupleLemmas.{first_tuple-is}
use Rattle.dwarf_ranges.proofs.one_pass.first_tuples.Goals as goal

pub returns : goal.returns
returns c = IfOk-weaker c.assign_all.result _ _
    (λ found known. record {
      each = λ i h.
          let a = slice_index c.args.addresses.now i in
          subst (λ (one : Option Arange). IsFirstTuple c.args.tuples a one) (sym (known a (c.in_ok-pending.ensures i h))) (first_tuple-is a c.args.tuples);
    })
    c.assign_all.ensures
