use Rattle.std.proofs.Common.{◌∙◌, ap, Some}
use Rattle.text_input_files.specs.ScriptFlaws.{flaw_or}
use Rattle.text_input_files.proofs.FlawLemmas.{bad_event, no_sites}
use Rattle.text_input_files.proofs.script_flaws.script_flaw.Goals as goal

pub returns-in-NoSites : goal.returns-in-NoSites
returns-in-NoSites c =
    rw c.in-NoSites.is (ap Some (c.flaw_or.ensures ∙ (λ i. flaw_or (c.line_flaw.ensures i) (c.sites_flaw.ensures i)))
    ∙ no_sites c.args.line.now _ c.is_empty.ensures c.if-is_empty.false)

pub returns-in-BadEvent : goal.returns-in-BadEvent
returns-in-BadEvent c =
    rw c.in-BadEvent.is (ap Some (c.flaw_or-in-BadEvent.ensures
    ∙ (λ i. flaw_or (c.line_flaw-in-BadEvent.ensures i) (c.event_flaw.ensures i)))
    ∙ bad_event c.args.line.now _ c.is_empty.ensures c.if-is_empty.false)
