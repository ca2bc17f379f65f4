use Rattle.std.proofs.Common.{◌∷◌, length, refl, arith}
use Rattle.table_source_frames.specs.LineText.{scope_of}
use Rattle.table_checked_pages.proofs.ReadLemmas.{passed_on}
use Rattle.table_source_frames.proofs.OpenedLemmas.{opened_long, scope_read, scope_within}
use Rattle.table_source_frames.proofs.ByteLemmas.{scope_in}
use Rattle.table_source_frames.proofs.table.LineTable.scope.Goals as goal

pub returns-in_default-clause-read : goal.returns-in_default-clause-read
returns-in_default-clause-read g c = record {
  says = λ text known all strings steps f fs stored opened is. c.index_of.ensures.none c.in_default.is is.some
      (scope_within _ _ _ _ _ _ opened c.args.number (scope_of (f ∷ fs)) is);
  keeps = refl;
  counts = refl;
}

pub returns-in_err-read-clause-read : goal.returns-in_err-read-clause-read
returns-in_err-read-clause-read g c =
    passed_on c.in_err-read.was c.from_residual.ensures.1
    (λ text known absent all strings steps f fs stored opened is.
    absent all stored opened.are_pages (omega (arith, opened_long _ _ _ _ _ _ opened, c.in-Some.ensures.inside, c.first_scope.ensures, c.read.auto.buf)))
    c.read.ensures.read

pub returns-clause-read : goal.returns-clause-read
returns-clause-read g c = record {
  says = λ text known all strings steps f fs opened is.
      scope_read _ _ _ _ _ _ opened c.read.new.buf c.args.number c.in-Some.index (length c.read.new.buf) _ _ f fs is
      c.in-Some.ensures.is c.read.auto.buf (omega (arith, c.first_scope.ensures))
      (c.in_ok-read.ensures.read.says text known all opened.are_pages) c.u32_be_at-4.ensures c.u32_be_at-5.ensures
      c.u32_be_at-2.ensures c.u32_be_at-3.ensures c.u32_be_at.ensures;
  keeps = c.in_ok-read.ensures.read.keeps;
  counts = c.in_ok-read.ensures.read.counts;
}

pub returns-clause-bytes : goal.returns-clause-bytes
returns-clause-bytes g c = λ text all known pages.
    scope_in c.args.self.now all c.read.new.buf c.args.number c.in-Some.index (length c.read.new.buf) _ _
    c.in-Some.ensures.is c.in-Some.ensures.inside c.read.auto.buf (omega (arith, c.first_scope.ensures))
    (c.in_ok-read.ensures.read.says text known all pages) c.u32_be_at-4.ensures c.u32_be_at-5.ensures
    c.u32_be_at-2.ensures c.u32_be_at-3.ensures c.u32_be_at.ensures
