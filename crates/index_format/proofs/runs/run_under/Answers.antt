use Rattle.std.proofs.Common.{◌+◌, ◌∷◌, ℕ, List, length, map, refl, rules, arith, subst}
use Rattle.std.specs.Ordering.{is_lt, is_le}
use Rattle.std.proofs.lemmas.List.Sorted.{IsPartitionPoint-from_clause}
use Rattle.index_format.specs.declared.entry.IndexEntry.{IndexEntry}
use Rattle.index_format.specs.Entry.{entry_bytes, placed_bytes}
use Rattle.index_format.specs.Runs.{IsRun, is_tagged}
use Rattle.index_format.proofs.Fronts.{fronts_of}
use Rattle.index_format.proofs.RunLemmas.{begins, parts_items, run_found, run_whole}
use Rattle.index_format.proofs.EntryOrder.{long_enough}
use Rattle.index_format.proofs.runs.run_under.Goals as goal

pub returns-clause-placed : goal.returns-clause-placed
returns-clause-placed c =
    let entries = c.args.entries.now in
    let n = length c.args.prefix.now + 1 in
    let first = c.args.tag ∷ c.args.prefix.now in
    let bytes = map placed_bytes entries in
    let long = long_enough n bytes (omega (arith, c.requires.short)) c.requires.indexed.are in
    let before = λ (x : IndexEntry). is_lt (begins n first (placed_bytes x)) in
    let upto = λ (x : IndexEntry). is_le (begins n first (placed_bytes x)) in
    let start = IsPartitionPoint-from_clause before entries c.partition_point-start.result
    c.partition_point-start.ensures.partitioned (parts_items is_lt refl refl placed_bytes n first entries
    c.requires.indexed.ascending long) (λ a r f called. (search rules, search rules)) in
    let stop = IsPartitionPoint-from_clause upto entries c.partition_point-stop.result
    c.partition_point-stop.ensures.partitioned (parts_items is_le refl refl placed_bytes n first entries
    c.requires.indexed.ascending long) (λ a r f called. (search rules, search rules)) in
    run_found placed_bytes c.args.tag c.args.prefix.now entries c.partition_point-start.result
    c.partition_point-stop.result (long_enough 1 bytes (omega arith) c.requires.indexed.are) (omega arith)
    (omega arith) start stop

pub returns-clause-run : goal.returns-clause-run
returns-clause-run c =
    let entries = c.args.entries.now in
    let start = c.partition_point-start.result in
    let stop = c.partition_point-stop.result in
    run_whole c.args.tag c.args.prefix.now (map entry_bytes entries) start stop c.requires.short
    (subst (λ (es : List (List ℕ)). IsRun (is_tagged c.args.tag c.args.prefix.now) es start stop)
    (fronts_of entries c.requires.indexed.are) (returns-clause-placed c))
