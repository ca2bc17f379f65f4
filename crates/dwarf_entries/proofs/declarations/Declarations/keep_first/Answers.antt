use Rattle.std.proofs.Common.{sym, ◌∙◌}
use Rattle.std.proofs.lemmas.Result.{on_ok_weaker}
use Rattle.dwarf_entries.proofs.KeyLemmas.{kept_first}
use Rattle.dwarf_entries.proofs.declarations.Declarations.keep_first.Goals as goal

pub returns : goal.returns
returns c =
    on_ok_weaker c.put.result (kept_first c.args.self.now c.put.new.self c.args.table c.args.code c.args.declaration
    (sym c.has.ensures ∙ c.if-has.false)) c.put.ensures
