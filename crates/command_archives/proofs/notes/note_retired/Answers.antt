use Rattle.std.proofs.Common.{◌≡◌, ◌<◌, ◌∙◌, ◌++◌, [], List, ap, arith, get_or, length, map, sym}
use Rattle.std.proofs.lemmas.List.{append-nil, get_or-map, length-map, take_all}
use Rattle.std.specs.List.{flat_map}
use Rattle.archive_core.specs.Record.{record_bytes}
use Rattle.archive_core.specs.declared.operations.Operation.{Operation}
use Rattle.archive_merge.specs.declared.arrivals.Arrival.{Arrival}
use Rattle.archive_merge.specs.declared.arrivals.Arrival.TheVariants.{New}
use Rattle.command_archives.specs.InnerNotes.{note_of}
use Rattle.command_archives.proofs.Noted.{noted_more}
use Rattle.command_archives.proofs.notes.note_retired.Goals as goal

pub arrived-init : goal.arrived-init
arrived-init c = record { many = c.requires; noted = λ arrival is. sym (append-nil c.args.notes.now.items) }

pub arrived-preserved : goal.arrived-preserved
arrived-preserved c =
    let operations = c.args.operations.now in
    let index = c.arrived.index in
    let operation = c.index-operations-index.result in
    let many : length c.args.arrived.now ≡ length operations = c.arrived.invariant.many in
    let lt : index < length operations = omega (arith, many) in
    let at : operation ≡ get_or operations index operation = c.index-operations-index.is in
    record {
      many = many;
      noted = λ arrival is.
          let low : index < length (map record_bytes operations) = omega (arith, lt, length-map operations record_bytes) in
          let told : get_or c.args.arrived.now index New ≡ arrival (record_bytes operation) =
          ap (λ (ts : List Arrival). get_or ts index New) is ∙ get_or-map arrival (map record_bytes operations) index [] New low
          ∙ ap arrival (get_or-map record_bytes operations index operation [] lt ∙ ap record_bytes (sym at)) in
          noted_more (λ one. note_of (arrival (record_bytes one)) one) c.args.notes.now.items operations index operation
          lt at c.arrived.notes.items (c.arrived.invariant.noted arrival is) c.note_operation.new.notes.items
          (c.in_ok-note_operation.ensures ∙ ap (λ t. c.arrived.notes.items ++ note_of t operation) told);
    }

pub returns : goal.returns
returns c = λ arrival is.
    let operations = c.args.operations.now in
    let many : length c.args.arrived.now ≡ length operations = c.arrived.invariant.many in
    c.arrived.invariant.noted arrival is
    ∙ ap (λ (xs : List Operation). c.args.notes.now.items
    ++ flat_map (λ one. note_of (arrival (record_bytes one)) one) xs)
    (take_all c.arrived.index operations (omega (arith, many)))
