-- What is said of the first input.
use Rattle.std.proofs.Common.{◌≡◌, ◌∙◌, ℕ, ◌≤◌, Bool, true, false, List, [], ◌∷◌, Option, Result, Vec, ap, arith, get_or, length, subst, sym}
use Rattle.std.proofs.lemmas.List.{length-set, with_items_is}
use Rattle.std.specs.Vec.{with_items}
use Rattle.std.specs.Prelude.{slice_set}
use Rattle.command_common.specs.Inputs.{Reader, reader, readers}
use Rattle.byte_lazy_inputs.specs.declared.openings.Opening.{Opening}
use Rattle.command_common.specs.Outputs.{Outs, Writer, out_of}
use Rattle.command_common.specs.declared.faults.{CommandFault.CommandFault, Status.Status}
use Rattle.command_archives.specs.PassedOver.{EndsAdmit}
use Rattle.cli_run.specs.Plans.{Deed, EndsDeed, admitted_of, none, of_first}

module _ {S : Type 0} (left : S → Option (List ℕ)) (failures : S → ℕ) (Holds : Deed → Type 0)
    (deed : Reader S → List (Reader S) → Deed) where
  of_some : (ys : List S) (d y : S) → 1 ≤ length ys
      → ((rest : List (Reader S)) → Holds (deed (reader left failures (get_or ys 0 d) y) rest))
      → Holds (of_first none deed (readers left failures ys (slice_set ys 0 y)))
  of_some [] d y some holds = absurd (omega arith)
  of_some (z ∷ zs) d y some holds = holds (readers left failures zs zs)

  -- it is so of the first of the inputs that were handed in, which alone was read
  pub first_ends : {Z : Type 0} (inputs : Vec S Z) (ys : List S) (d y : S) → ys ≡ inputs.items → 1 ≤ length ys
      → ((rest : List (Reader S)) → Holds (deed (reader left failures (get_or ys 0 d) y) rest))
      → Holds (of_first none deed (readers left failures inputs.items (with_items inputs (slice_set ys 0 y)).items))
  first_ends inputs ys d y same some holds =
      let behind = slice_set ys 0 y in
      let written : (with_items inputs behind).items ≡ behind =
      with_items_is inputs behind (length-set ys 0 y ∙ ap length same ∙ sym inputs.ok.0) in
      subst (λ after. Holds (of_first none deed (readers left failures inputs.items after))) (sym written)
      (subst (λ zs. Holds (of_first none deed (readers left failures zs behind))) same
      (of_some ys d y some holds))

-- `admit` ends so, with `--keep-going` or without it
pub admit_ends : {S D T : Type 0} (keep_going : Bool) (opening : S → Opening) (archive : Reader S) (files : List (Reader S))
    (out : Outs D T) (report : Writer) (r : Result Status CommandFault)
    → EndsAdmit keep_going opening archive files (out_of out) report r
    → EndsDeed (admitted_of keep_going opening archive files (out_of out).draft) out report r
admit_ends false opening archive files out report r ends = ends
admit_ends true opening archive files out report r ends = ends
