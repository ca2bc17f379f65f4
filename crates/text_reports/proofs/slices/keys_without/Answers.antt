use Rattle.std.proofs.Common.{◌≡◌, ◌+◌, ◌++◌, List, [], ◌∷◌, ◌∙◌, arith, rules, sym, subst}
use Rattle.archive_core.specs.declared.keys.SliceKey.{SliceKey}
use Rattle.text_reports.specs.InnerSlices.{HasKey, own_key}
use Rattle.text_reports.proofs.Kept.{AreOfFirst, kept_all, kept_more, kept_same}
use Rattle.text_reports.proofs.slices.keys_without.Goals as goal
use Rattle.text_reports.proofs.slices.keys_without.Goals.{then-not-has_key+in_ok-push, else-not-has_key}

pub keys-preserved : goal.keys-preserved
keys-preserved c =
    let without = λ (key : SliceKey). HasKey c.args.rows.now key → ⊥ in
    elim c.if-not-has_key.branch [
      | then-not-has_key+in_ok-push w ↦
          let items : c.if-not-has_key.absent.items ≡ c.keys.absent.items ++ c.key-item.result
          ∷ [] = (λ i. (w.absent-is i).items) ∙ w.in_ok-push.ensures.items in
          subst (λ (l : List SliceKey). AreOfFirst own_key without c.args.keys.now (c.keys.key-index + 1) l) (sym items)
          (kept_more own_key without c.args.keys.now c.keys.absent.items c.keys.key-index c.key-item.result
          c.keys-test.true c.key-item.is c.keys.invariant c.has_key.ensures.key
          (λ has. cc (c.has_key.ensures.is.1 has, w.if-not-has_key.true)))
      | else-not-has_key w ↦
          let items : c.if-not-has_key.absent.items ≡ c.keys.absent.items = λ i. (w.absent-is i).items in
          subst (λ (l : List SliceKey). AreOfFirst own_key without c.args.keys.now (c.keys.key-index + 1) l) (sym items)
          (kept_same own_key without c.args.keys.now c.keys.absent.items c.keys.key-index c.key-item.result c.keys-test.true c.key-item.is c.keys.invariant
          (λ none. none (c.has_key.ensures.is.0 (search (rules, w.if-not-has_key.false)))))
    ]

pub returns : goal.returns
returns c = kept_all own_key (λ (key : SliceKey). HasKey c.args.rows.now key → ⊥) c.args.keys.now c.keys.absent.items
    c.keys.key-index (omega (arith, c.keys-test.false)) c.keys.invariant
