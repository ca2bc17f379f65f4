use Rattle.std.proofs.Common.{ap, ◌∙◌}
use Rattle.text_reports.specs.Finds.{find_lines}
use Rattle.command_common.specs.Found.{found_status}
use Rattle.command_common.proofs.Endings.{reported}
use Rattle.command_queries.proofs.find.run_find.Goals as goal

pub returns-clause-ends : goal.returns-clause-ends
returns-clause-ends g c =
    reported _ _ _ _ c.write_report.result _ _ c.in_ok-rows.ensures.finds.unfailed
    (record {
      rows = c.in_ok-rows.rows.items;
      have = c.in_ok-rows.ensures.finds.is;
      status_is = c.found_status.ensures ∙ ap found_status c.deref-2.ensures.value;
      text_is = c.deref-3.ensures ∙ c.in_ok-text.ensures ∙ ap find_lines c.deref.ensures.value;
    })
    c.write_report.ensures
