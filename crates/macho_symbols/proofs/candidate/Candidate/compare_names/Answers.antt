use Rattle.std.proofs.Common.{◌∙◌, ap, sym}
use Rattle.std.specs.Ordering.{nat_cmp}
use Rattle.std.specs.Cmp.Lexicographic.{slice_cmp}
use Rattle.std.proofs.lemmas.Cmp.{tied_itself, nat_cmp_total, lists_total}
use Rattle.macho_symbols.specs.Symbols.{name_of}
use Rattle.macho_symbols.proofs.candidate.Candidate.compare_names.Goals as goal

pub returns-then-self-other : goal.returns-then-self-other
returns-then-self-other c =
    sym (tied_itself (lists_total nat_cmp_total) (name_of c.args.names.now c.args.self.now.n_strx))
    ∙ ap (λ index. slice_cmp nat_cmp (name_of c.args.names.now c.args.self.now.n_strx)
    (name_of c.args.names.now index)) c.if-self-other.true
