use Rattle.std.proofs.Common.{ℕ, List, ◌++◌, ◌∙◌, ap, map}
use Rattle.archive_from_records.specs.InnerNames.{names_of}
use Rattle.archive_core.specs.Names.{owned_name_view}
use Rattle.std.proofs.lemmas.Result.{on_ok_weaker}
use Rattle.archive_from_records.proofs.Sought.{names_more}
use Rattle.archive_from_records.proofs.names.NameRowsFromRecords.take.Goals as goal

pub returns : goal.returns
returns c = on_ok_weaker c.push_names-2.result (λ grown start records apart is.
    let last = c.args.reader.now.last in
    let before = map owned_name_view c.args.self.now.told.rows.items in
    let behind = map owned_name_view c.args.self.now.told.others.items in
    let bytes = c.record-record.ensures.bytes in
    let more = c.in_ok-push_names.ensures ∙ ap (λ (r : List ℕ). before ++ names_of c.args.self.now.names.name.now r) bytes in
    let others = grown ∙ ap (λ (r : List ℕ). behind ++ names_of c.args.self.now.names.other.now r) bytes in (
      is.0,
      is.1,
      names_more start.names.name.now records last before _ (more ∙ ap (λ (n : List ℕ). before ++ names_of n last) is.0) is.2,
      names_more start.names.other.now records last behind _ (others ∙ ap (λ (n : List ℕ). behind ++ names_of n last) is.1) is.3,
    )) c.push_names-2.ensures
