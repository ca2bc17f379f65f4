use Rattle.std.proofs.Common.{◌≡◌, ℕ, get_or, set, sym, ap, subst}
use Rattle.command_common.specs.Inputs.{reader}
use Rattle.command_common.specs.Outputs.{writer}
use Rattle.command_extract.specs.InnerEntries.{SendsSlice}
use Rattle.command_extract.proofs.sending.send_from.Goals as goal

pub returns : goal.returns
returns g c = λ x names.
    let old = c.args.archives.now in
    let before = c.index-archives-named.result in
    let after = c.send_named.new.archive in
    let draft = writer g.W.Sink.held g.W.Sink.failures c.args.draft.now c.send_named.new.draft in (
      before,
      after,
      subst (λ (n : ℕ). before ≡ get_or old n before) names.input_is c.index-archives-named.is,
      ap (λ (n : ℕ). set old n after) names.input_is,
      subst (λ b. SendsSlice (reader g.P.Placed.whole g.P.Placed.failures b after) x draft c.send_named.result)
          (sym c.index-archives-named.is) (c.send_named.ensures x names),
    )
