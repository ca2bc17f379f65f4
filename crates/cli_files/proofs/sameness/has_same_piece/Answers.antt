use Rattle.std.proofs.Common.{◌≡◌, ◌∙◌, ◌++◌, ◌∷◌, [], ap, sym}
use Rattle.std.proofs.lemmas.Slice.Eq.{bytes_eq-Decides}
use Rattle.cli_files.specs.FileCalls.{Gives}
use Rattle.cli_files.proofs.Same.{two_given}
use Rattle.cli_files.proofs.sameness.has_same_piece.Goals as goal

pub returns-clause-same : goal.returns-clause-same
returns-clause-same g c = λ is. (
  c.read_exact.new.buf,
  c.read_exact.auto.buf,
  two_given c.args.first.now.path.now c.args.second.now.path.now c.read_exact.new.buf c.read_exact-2.new.buf
      c.args.calls.now.entries c.read_exact.new.calls.entries c.read_exact-2.new.calls.entries
      c.in_ok-read_exact.ensures.calls c.in_ok-read_exact-2.ensures.calls
      ∙ ap (λ b. c.args.calls.now.entries ++ Gives c.args.first.now.path.now c.read_exact.new.buf
      ∷ Gives c.args.second.now.path.now b ∷ []) (sym ((bytes_eq-Decides c.read_exact.new.buf c.read_exact-2.new.buf).0
      (sym c.eq.ensures ∙ is))),
)

pub returns-clause-differs : goal.returns-clause-differs
returns-clause-differs g c = λ is. (
  c.read_exact.new.buf,
  c.read_exact-2.new.buf,
  (λ same. let h = c.eq.ensures ∙ (bytes_eq-Decides c.read_exact.new.buf c.read_exact-2.new.buf).1 same in cc (h, is)),
  two_given c.args.first.now.path.now c.args.second.now.path.now c.read_exact.new.buf c.read_exact-2.new.buf
      c.args.calls.now.entries c.read_exact.new.calls.entries c.read_exact-2.new.calls.entries
      c.in_ok-read_exact.ensures.calls c.in_ok-read_exact-2.ensures.calls,
)
