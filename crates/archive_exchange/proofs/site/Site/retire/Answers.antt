use Rattle.std.proofs.Common.{refl, inr}
use Rattle.archive_core.specs.Record.{IsRecord, retirement_record}
use Rattle.archive_exchange.proofs.Gained.{content_taken}
use Rattle.archive_exchange.proofs.site.Site.retire.Goals as goal

pub invariant_of-self : goal.invariant_of-self
invariant_of-self g c =
    let recorded : IsRecord (retirement_record c.args.key c.args.digest.0) =
    inr (record {
      key = c.args.key;
      digest = c.args.digest.0;
      is_key =
          record { uuid = search; cputype = search; cpusubtype = search };
      long = search;
      is = refl;
    }) in
    record {
      held = content_taken c.take.result (g.A.Join.content c.self.inside.archive)
          (g.A.Join.content c.take.new.self) (retirement_record c.args.key c.args.digest.0) c.self.invariant.held recorded
          c.take.ensures.taken c.take.ensures.refused;
      saved = c.self.invariant.saved;
    }

pub returns-clause-whole : goal.returns-clause-whole
returns-clause-whole g c =
    let recorded : IsRecord (retirement_record c.args.key c.args.digest.0) =
    inr (record {
      key = c.args.key;
      digest = c.args.digest.0;
      is_key =
          record { uuid = search; cputype = search; cpusubtype = search };
      long = search;
      is = refl;
    }) in
    record {
      held = content_taken c.take.result (g.A.Join.content c.self.inside.archive)
          (g.A.Join.content c.take.new.self) (retirement_record c.args.key c.args.digest.0) c.self.invariant.held recorded
          c.take.ensures.taken c.take.ensures.refused;
      saved = c.self.invariant.saved;
    }
