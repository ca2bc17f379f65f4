use Rattle.std.proofs.Common.{List, map, sym, subst}
use Rattle.index_format.specs.Entry.{entry_bytes, placed_bytes}
use Rattle.index_format.specs.Index.{AreIndexed}
use Rattle.index_format.specs.Runs.{IsRun, is_tagged}
use Rattle.index_format.specs.declared.entry.IndexEntry.{IndexEntry}
use Rattle.index_format.proofs.Fronts.{are_indexed}
use Rattle.index_format.proofs.PartLemmas.{run_fields, run_of_part}
use Rattle.index_format.proofs.index_part.IndexPart.run_under.Goals as goal

pub run_under-start-requires-clause-indexed : goal.run_under-start-requires-clause-indexed
run_under-start-requires-clause-indexed c = subst (λ (es : List IndexEntry). AreIndexed (map placed_bytes es))
    (sym c.deref.ensures.value) (are_indexed c.self.inside.entries.items c.self.invariant.ordered)

pub returns-clause-run : goal.returns-clause-run
returns-clause-run c =
    let run = c.run_under-start in
    rw (c.deref-2.ensures.value, c.deref-3.ensures.value, ← c.self.view_is) (run_of_part c.args.tag c.args.prefix.now
    c.self.inside.count run.result.0 run.result.1 c.self.inside.numbers.items c.self.inside.entries.items c.requires.tag
    c.self.invariant (subst (λ (es : List IndexEntry). IsRun (is_tagged c.args.tag c.args.prefix.now) (map entry_bytes es)
    run.result.0 run.result.1) c.deref.ensures.value run.ensures.run))

pub returns-clause-fields : goal.returns-clause-fields
returns-clause-fields c =
    rw c.deref-3.ensures.value (run_fields c.run_under-start.result.0 _ c.self.inside.entries.items c.self.invariant.ordered.fields)
