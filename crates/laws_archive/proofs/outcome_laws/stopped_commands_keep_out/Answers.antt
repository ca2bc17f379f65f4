use Rattle.std.proofs.Common.{List, [], ◌∷◌}
use Rattle.command_common.proofs.Amidst.{nothing_first}
use Rattle.command_common.specs.Inputs.{EachKnown, Reader}
use Rattle.command_common.specs.Outputs.{Outs, Writer, out_of}
use Rattle.command_archives.specs.Admit.{admit}
use Rattle.command_archives.specs.Apply.{apply}
use Rattle.command_archives.specs.Delta.{delta}
use Rattle.command_archives.specs.Merge.{merge}
use Rattle.command_archives.specs.MergeStreams.{merge_as_it_comes}
use Rattle.command_archives.specs.Migrate.{migrate}
use Rattle.command_archives.specs.PassedOver.{admit_passing}
use Rattle.command_archives.specs.Retire.{retire}
use Rattle.laws_archive.specs.Stops.{LeavesBeginningIfStopped}
use Rattle.laws_archive.proofs.Stops.{WritesBeginning, first_of_good_records, stopped_amidst, stopped_in_turn, stopped_of_one}
use Rattle.laws_archive.proofs.outcome_laws.stopped_commands_keep_out.Goals as goal

merged : {R S D T : Type 0} → WritesBeginning R S D → (input : Reader R) (files : List (Reader S)) (out : Outs D T) (report : Writer)
    → LeavesBeginningIfStopped (merge_as_it_comes input files out) (λ given. merge given files) input (EachKnown files) (out_of out) report
merged {S = S} law input [] out report =
    stopped_in_turn (λ given. merge {S = S} given []) input _ _ _ (out_of out) report (λ text told. nothing_first _ _ _ text told)
merged law input (file ∷ []) out report = stopped_of_one law input file out report
merged law input (file ∷ next ∷ more) out report =
    stopped_in_turn (λ given. merge given (file ∷ next ∷ more)) input _ _ _ (out_of out) report (λ text told. nothing_first _ _ _ text told)

pub returns : goal.returns
returns g c = record {
  admit = λ input files out report.
      stopped_in_turn (λ given. admit given files) input _ _ _ out report (λ text told. nothing_first _ _ _ text told);
  passing = λ opening input files out report.
      stopped_amidst (λ given. admit_passing opening given files) input _ _ _ (λ known. known) out report;
  retire = λ input key digest out report. stopped_amidst (λ given. retire given key digest) input _ _ _ (λ known. known.0) out report;
  merge = merged c.stopped_merge_of_texts.ensures;
  faulty = λ input file out report. first_of_good_records c.stopped_merge_of_texts.ensures input file out report;
  migrate = λ input out report. stopped_amidst (λ given. migrate given) input _ _ _ (λ known. known.0) out report;
  apply = λ input ops out report.
      stopped_in_turn (λ given. apply given ops) input _ _ _ out report (λ text told. nothing_first _ _ _ text told);
  delta = λ archive named out report.
      stopped_in_turn (λ given. delta given named) archive _ _ _ out report (λ text told. nothing_first _ _ _ text told);
}
