use Rattle.std.proofs.Common.{◌≡◌, Ok, inl, inr}
use Rattle.text_input_files.specs.Frames.{frames_of}
use Rattle.text_input_files.specs.Script.{script_of}
use Rattle.laws_archive.proofs.Accepted.{archive as archive_alone}
use Rattle.laws_archive.proofs.Given.{gives}
use Rattle.laws_archive.proofs.Joins.{join_refused}
use Rattle.laws_archive.proofs.Refusals.{frames_accepted, script_accepted}
use Rattle.laws_archive.proofs.report_laws.accepted_inputs_are_not_refused.Goals as goal

pub returns : goal.returns
returns g c = record {
  find = λ archive others o uuid given. join_refused archive others o given;
  list = λ input o at why content given refused. archive_alone input o why content given refused.1;
  name = λ archive others o sought given. join_refused archive others o given;
  symbolicate = λ archive others o key load lines slices addresses given. join_refused archive others o given;
  frames = λ lines slices input archive others bytes listed o is says given at why refused. elim refused [
    | inl p ↦ frames_accepted input input why (bytes, is, is) (listed, gives input bytes (λ text. frames_of text ≡ Ok listed) is says) p.0.1
    | inr p ↦ join_refused archive others o given at why p.2
  ];
  rehearse = λ script bytes sites events is says at why refused.
      script_accepted script script (sites, events) why (bytes, is, is) (gives script bytes (λ text. script_of text ≡ Ok (sites, events)) is says) refused.1;
}
