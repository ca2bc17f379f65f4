use Rattle.std.proofs.Common.{ap, map, refl, ◌∙◌}
use Rattle.archive_core.specs.Names.{owned_name_view}
use Rattle.text_reports.specs.Names.{name_lines}
use Rattle.command_common.specs.Found.{found_status}
use Rattle.command_queries.proofs.Found.{found_map}
use Rattle.command_queries.proofs.NamesTogether.{underscored_by}
use Rattle.command_common.proofs.Parts.{together_tells, wanting_first}
use Rattle.command_queries.proofs.name.answer_name.Goals as goal

pub returns-in_err-other : goal.returns-in_err-other
returns-in_err-other g c = wanting_first _ _ _ _ _ _ c.from_residual.ensures.1 refl

pub returns : goal.returns
returns g c = record {
  is = together_tells _ _ _ _ (λ o both. (
    record {
      rows = map owned_name_view c.in_ok-told.told.rows.items;
      names = both.0;
      status_is = c.found_status.ensures ∙ found_map owned_name_view _
          ∙ ap (λ rows. found_status (map owned_name_view rows)) c.deref-3.ensures.value;
      text_is = c.in_ok-text.ensures ∙ ap (λ rows. name_lines (map owned_name_view rows)) c.deref-2.ensures.value;
    },
    rw c.is_underscored.ensures (underscored_by o c.args.sought.now c.in_ok-told.told.rows.items
        c.in_ok-told.told.others.items both.0 (rw (c.deref.ensures.value, c.in_ok-other.ensures) at both.1)),
  )) c.in_ok-told.ensures.is;
  unfailed = c.in_ok-told.ensures.unfailed;
}
