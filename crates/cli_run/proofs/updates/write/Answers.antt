use Rattle.std.proofs.Common.{◌≡◌, ◌∙◌, ap, length, sym}
use Rattle.std.proofs.lemmas.List.{with_items_is}
use Rattle.std.specs.Vec.{with_items}
use Rattle.command_archives.specs.{Retire.retire_as_it_comes}
use Rattle.command_common.specs.{Inputs.readers, Outputs.out_of, Outputs.outs, Outputs.writer}
use Rattle.cli_run.specs.Plans.{EndsDeed, admitted_of, streams}
use Rattle.cli_run.proofs.First.{admit_ends, first_ends}
use Rattle.cli_run.proofs.updates.write.Goals as goal

pub returns-in-Admit-clause-ends : goal.returns-in-Admit-clause-ends
returns-in-Admit-clause-ends g c =
    let new = c.run_admit.new in
    let known = outs g.T.Draft.Sink.held g.T.Draft.Sink.failures g.T.Target.published g.T.Target.failures
    c.args.out.now new.out in
    let told = writer g.P.Sink.held g.P.Sink.failures c.args.report.now new.report in
    let named = c.args.inputs.now.files in
    let written : (with_items named new.files).items ≡ new.files =
    with_items_is named new.files (c.run_admit.auto.files ∙ ap length c.deref_mut.ensures.value ∙ sym named.ok.0) in
    let files = readers g.S.Source.left g.S.Source.failures named.items (with_items named new.files).items in
    let keep_going = c.in-Admit.keep_going in
    rw c.in-Admit.is (first_ends g.S.Source.left g.S.Source.failures (λ deed. EndsDeed deed known told c.run_admit.result)
    (λ archive _. admitted_of keep_going g.S.Opens.opening_of archive files (out_of known).draft)
    c.args.inputs.now.archives c.as_mut_slice.result.now c.index-archive-0.result new.input
    c.as_mut_slice.ensures.value c.in-len1-up.len_at_least
    (λ _. admit_ends keep_going _ _ _ known told c.run_admit.result
    (rw written (rw c.deref_mut.ensures.value at c.run_admit.ensures.ends))))

pub returns-in-Retire-clause-ends : goal.returns-in-Retire-clause-ends
returns-in-Retire-clause-ends g c =
    let new = c.run_retire.new in
    let known = outs g.T.Draft.Sink.held g.T.Draft.Sink.failures g.T.Target.published g.T.Target.failures
    c.args.out.now new.out in
    let told = writer g.P.Sink.held g.P.Sink.failures c.args.report.now new.report in
    rw c.in-Retire.is (first_ends g.S.Source.left g.S.Source.failures
    (λ deed. EndsDeed deed known told c.run_retire.result)
    (λ archive _. streams (retire_as_it_comes archive c.in-Retire.key c.in-Retire.digest (out_of known).draft))
    c.args.inputs.now.archives c.as_mut_slice.result.now c.index-archive-0.result new.input
    c.as_mut_slice.ensures.value c.in-len1-up.len_at_least (λ _. c.run_retire.ensures.ends))
