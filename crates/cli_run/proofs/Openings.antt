-- What is told of inputs that were not opened.
use Rattle.std.proofs.Common.{◌≡◌, ◌∙◌, ◌⊎◌, ℕ, zero, suc, List, [], ◌∷◌, Option, Some, None, Result, Ok, Err, refl, ap, sym, subst, inl, inr}
use Rattle.std.proofs.lemmas.Grind.{not_there}
use Rattle.std.specs.Prelude.{slice_get}
use Rattle.cli_files.specs.InputStates.{AreLazyInputs, IsLazyInput, IsStateOf, Told, Stage, Open, Unopened, Waiting, opened_in, unopened_in, wanting_in}
use Rattle.cli_files.specs.declared.input_state.Unopened.{Unopened as Reason}
use Rattle.cli_files.specs.declared.input_state.Unopened.TheVariants as reasons
use Rattle.byte_device.specs.Disks.{At, Holding, Missing}
use Rattle.byte_device.specs.declared.disks.CannotOpen.{CannotOpen as CannotOpenOfDisk}
use Rattle.command_common.specs.declared.faults.{CommandFault.CommandFault, InputName.InputName, Status.Status, Why.Why}
use Rattle.command_common.specs.declared.faults.CommandFault.TheVariants.{Input, Output, Report, OutOfMemory}
use Rattle.command_common.specs.declared.faults.Why.TheVariants.{CannotOpen}
use Rattle.cli_arguments.specs.{Inputs.Inputs, Inputs.of_kind, declared.commands.Kind.Kind}
use Rattle.cli_standard_error.specs.Names.{input_at, kind_of, number_of}
use Rattle.cli_run.specs.Unopened.{ReportsUnopened, fault_at, unopened_of}
use Rattle.cli_run.specs.Openings.{HaveOneFile, IsRefusedByDisk}

-- one of inputs that keep their rules does
each : {S : Type 0} (told : Told S) (inputs : List S) (k : ℕ) (input : S) → AreLazyInputs told inputs
    → slice_get inputs k ≡ Some input → IsLazyInput told input
each told [] k input all is = cc
each told (x ∷ xs) zero input all is = let same : x ≡ input = cc in subst (IsLazyInput told) same all.0
each told (x ∷ xs) (suc k) input all is = each told xs k input all.1 is

-- so it is with the inputs of each kind
abbrev pub AllAreLazy : {S : Type 0} → Told S → Inputs S → Type 0
AllAreLazy told inputs = (kind : Kind) → AreLazyInputs told (of_kind kind inputs)

pub are_lazy : {S : Type 0} (told : Told S) (inputs : Inputs S) (name : InputName) (input : S)
    → AllAreLazy told inputs → input_at inputs name ≡ Some input → IsLazyInput told input
are_lazy told inputs name input all is =
    each told (of_kind (kind_of name) inputs) (number_of name) input (all (kind_of name)) is

-- what is known of one that the disk refused
by_disk : {S : Type 0} (told : Told S) (input : S) (refused : CannotOpenOfDisk)
    → told.stage input ≡ Unopened (reasons.Refused refused) → IsLazyInput told input → IsRefusedByDisk told input
by_disk told input refused staged turn = record {
  refused = refused;
  stage_is = staged;
  opened = λ paths is. subst (λ s. paths ≡ opened_in s (told.path input)) staged (turn.log paths is);
  wanting = λ paths is. subst (λ s. paths ≡ wanting_in s (told.path input)) staged (turn.wants paths is);
  reason = λ path at kind. not_there turn.fits (λ fits.
      subst (λ s. IsStateOf (At path) s) staged (subst (λ f. IsStateOf f (told.stage input)) at fits) kind);
  absent = λ bytes is. not_there turn.fits (λ fits.
      subst (λ s. IsStateOf (Holding bytes) s) staged (subst (λ f. IsStateOf f (told.stage input)) is fits));
}

module _ {S : Type 0} (told : Told S) (inputs : Inputs S) (all : AllAreLazy told inputs) where
  -- the input of the name at which a command was refused so
  by_stage : (at name : InputName) (why : Why) (input : S) (stage : Stage) → input_at inputs at ≡ Some input
      → told.stage input ≡ stage → (why ≡ CannotOpen → ⊥)
      → fault_at (unopened_in stage) at why ≡ Input name CannotOpen
      → (there : S) × (input_at inputs name ≡ Some there) × IsRefusedByDisk told there
  by_stage at name why input (Unopened (reasons.Refused refused)) is staged spares same =
      let here : at ≡ name = cc in (
        input,
        subst (λ n. input_at inputs n ≡ Some input) here is,
        by_disk told input refused staged (are_lazy told inputs at input all is),
      )
  by_stage at name why input (Unopened reasons.OutOfMemory) is staged spares same = cc
  by_stage at name why input stage is staged spares same = let reason : why ≡ CannotOpen = cc in absurd (spares reason)

  by_option : (at name : InputName) (why : Why) (o : Option S) → input_at inputs at ≡ o → (why ≡ CannotOpen → ⊥)
      → fault_at (unopened_of told o) at why ≡ Input name CannotOpen
      → (there : S) × (input_at inputs name ≡ Some there) × IsRefusedByDisk told there
  by_option at name why None is spares same = let reason : why ≡ CannotOpen = cc in absurd (spares reason)
  by_option at name why (Some input) is spares same = by_stage at name why input (told.stage input) is refl spares same

  pub refused_so : (name : InputName) (ended result : Result Status CommandFault) → ReportsUnopened told inputs ended result
      → result ≡ Err (Input name CannotOpen) → ((at : InputName) → ended ≡ Err (Input at CannotOpen) → ⊥)
      → (there : S) × (input_at inputs name ≡ Some there) × IsRefusedByDisk told there
  refused_so name (Err (Input at why)) result tells same spares =
      let one : fault_at (unopened_of told (input_at inputs at)) at why ≡ Input name CannotOpen = cc in
      by_option at name why (input_at inputs at) refl (λ is. spares at (ap (λ w. Err (Input at w)) is)) one
  refused_so name (Ok status) result tells same spares = cc
  refused_so name (Err (Output n)) result tells same spares = cc
  refused_so name (Err (Report n)) result tells same spares = cc
  refused_so name (Err OutOfMemory) result tells same spares = cc

-- what is told where the input at fault was not opened
module _ {S : Type 0} (told : Told S) (inputs : Inputs S) (name : InputName) (why : Why) where
  abbrev seen : InputName → Option Reason
  seen at = unopened_of told (input_at inputs at)

  abbrev pub IsToldAs : Type 0
  IsToldAs = ((refused : CannotOpenOfDisk) → seen name ≡ Some (reasons.Refused refused) → why ≡ CannotOpen)
      × (seen name ≡ Some reasons.OutOfMemory → ⊥)

  by_seen : (at : InputName) (reason : Why) (u : Option Reason) → seen at ≡ u → fault_at u at reason ≡ Input name why
      → IsToldAs
  by_seen at reason None is same =
      let here : at ≡ name = cc in
      let none : seen name ≡ None = ap seen (sym here) ∙ is in (λ refused some. cc, λ some. cc)
  by_seen at reason (Some (reasons.Refused refused)) is same =
      let here : at ≡ name = cc in
      let so : why ≡ CannotOpen = cc in
      let seen_so : seen name ≡ Some (reasons.Refused refused) = ap seen (sym here) ∙ is in (λ _ _. so, λ some. cc)
  by_seen at reason (Some reasons.OutOfMemory) is same = cc

  pub told_as : (ended result : Result Status CommandFault) → ReportsUnopened told inputs ended result
      → result ≡ Err (Input name why) → IsToldAs
  told_as (Err (Input at reason)) result tells same =
      let one : fault_at (seen at) at reason ≡ Input name why = cc in by_seen at reason (seen at) refl one
  told_as (Ok status) result tells same = cc
  told_as (Err (Output n)) result tells same = cc
  told_as (Err (Report n)) result tells same = cc
  told_as (Err OutOfMemory) result tells same = cc

-- what is told of an input whose file is not there, as that of one that the disk refused
pub also_told : {R S : Type 0} (told : Told R) (also : Told S) (inputs : Inputs S) (name : InputName) (input : R)
    (other : S) (why : Why) → IsRefusedByDisk told input → IsLazyInput also other
    → HaveOneFile told also input other → input_at inputs name ≡ Some other → IsToldAs also inputs name why
    → (also.stage other ≡ Waiting) ⊎ (why ≡ CannotOpen)
also_told told also inputs name input other why refused turn one named so = go (also.stage other) refl
  where
    by_file : (one.file ≡ Missing) ⊎ ((bytes : List ℕ) × (one.file ≡ Holding bytes)) → one.file ≡ Missing
    by_file (inl is) = is
    by_file (inr held) = absurd (refused.absent held.0 (one.here ∙ held.1))

    go : (stage : Stage) → also.stage other ≡ stage → (also.stage other ≡ Waiting) ⊎ (why ≡ CannotOpen)
    go Waiting staged = inl staged
    go Open staged = absurd (not_there turn.fits (λ fits. subst (IsStateOf Missing) staged
        (subst (λ f. IsStateOf f (also.stage other)) (one.there ∙ by_file one.known) fits)))
    go (Unopened (reasons.Refused reason)) staged =
        inr (so.0 reason (ap (unopened_of also) named ∙ ap unopened_in staged))
    go (Unopened reasons.OutOfMemory) staged = absurd (so.1 (ap (unopened_of also) named ∙ ap unopened_in staged))
