use Rattle.std.proofs.Common.{ℕ, List, ◌++◌, ◌∙◌, ap, map, sym}
use Rattle.std.proofs.lemmas.List.{map-append}
use Rattle.archive_core.specs.Names.{owned_name_view}
use Rattle.archive_core.specs.Summary.{entry}
use Rattle.archive_core.proofs.Entries.{retirement_entry}
use Rattle.archive_records.specs.Entry.{entry_bytes}
use Rattle.archive_from_records.specs.InnerNames.{names_of}
use Rattle.std.proofs.lemmas.Result.{on_ok_weaker}
use Rattle.archive_from_records.proofs.Gatherings.{admitted_more, retired_more, rows_more, rows_same}
use Rattle.archive_from_records.proofs.Questioned.{borrowed_admits, borrowed_retires}
use Rattle.archive_from_records.proofs.names.GatheringFromRecords.take.Goals as goal

pub returns-in-Retire : goal.returns-in-Retire
returns-in-Retire c = λ start records apart is.
    let last = c.args.reader.now.last in
    let now = c.in-Retire.ensures in
    let retires = borrowed_retires last c.in-Retire.key c.in-Retire.digest now.operation now.bytes in
    let told = sym (retirement_entry c.in-Retire.key c.in-Retire.digest.0) ∙ ap entry now.bytes in (
      is.0,
      is.1,
      rows_same start.names.name.now records last _ _ retires is.2,
      rows_same start.names.other.now records last _ _ retires is.3,
      retired_more records last _ _ _ _ retires told (ap (map entry_bytes) c.in_ok-push.ensures.items ∙ map-append entry_bytes _ _) is.4,
    )

pub returns : goal.returns
returns c = on_ok_weaker c.push_names-2.result (λ grown start records apart is.
    let last = c.args.reader.now.last in
    let before = map owned_name_view c.args.self.now.found.told.rows.items in
    let behind = map owned_name_view c.args.self.now.found.told.others.items in
    let record_is = c.record-record.ensures in
    let more = c.in_ok-push_names.ensures ∙ ap (λ (r : List ℕ). before ++ names_of c.args.self.now.names.name.now r) record_is.bytes in
    let others = grown ∙ ap (λ (r : List ℕ). behind ++ names_of c.args.self.now.names.other.now r) record_is.bytes in
    let admits = borrowed_admits last c.in_default.field-0 (rw c.in_default.is at record_is.operation) (rw c.in_default.is at record_is.bytes) in (
      is.0,
      is.1,
      rows_more start.names.name.now records last _ before _ (more ∙ ap (λ (n : List ℕ). before ++ names_of n last) is.0) is.2,
      rows_more start.names.other.now records last _ behind _ (others ∙ ap (λ (n : List ℕ). behind ++ names_of n last) is.1) is.3,
      admitted_more records last _ _ admits is.4,
    )) c.push_names-2.ensures
