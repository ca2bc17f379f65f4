use Rattle.std.proofs.Common.{◌≡◌, ◌∙◌, sym, ap, length, List, ◌++◌, ℕ}
use Rattle.std.specs.declared.cmp.Ordering.{Ordering}
use Rattle.std.specs.Ordering.{ordering_then, nat_cmp}
use Rattle.std.specs.Cmp.Lexicographic.{slice_cmp}
use Rattle.archive_core.specs.Key.{key_bytes}
use Rattle.archive_core.proofs.Compare.{slice_cmp-append, then_unequal, then_equal}
use Rattle.archive_core.proofs.operations.compare_retirements.Goals as goal

-- retirements compare by their keys, and then by their digests
parts : (keys : Ordering) (a b x y : List ℕ) → length a ≡ 24 → length b ≡ 24 → keys ≡ slice_cmp nat_cmp a b
    → slice_cmp nat_cmp (a ++ x) (b ++ y) ≡ ordering_then keys (slice_cmp nat_cmp x y)
parts keys a b x y first second is = slice_cmp-append a b x y (first ∙ sym second) ∙ ap (λ r. ordering_then r (slice_cmp nat_cmp x y)) (sym is)

pub returns-then-is_ne : goal.returns-then-is_ne
returns-then-is_ne c =
    let keys = c.compare_keys-keys in
    sym (parts keys.result (key_bytes c.args.key.now) (key_bytes c.args.that.now) c.args.digest.now.0 c.args.other.now.0
    keys.ensures.first keys.ensures.second keys.ensures.order
    ∙ then_unequal keys.result _ (sym c.is_ne.ensures ∙ c.if-is_ne.true))

pub returns : goal.returns
returns c =
    let keys = c.compare_keys-keys in
    c.cmp.ensures
    ∙ sym (parts keys.result (key_bytes c.args.key.now) (key_bytes c.args.that.now) c.args.digest.now.0
    c.args.other.now.0 keys.ensures.first keys.ensures.second keys.ensures.order
    ∙ then_equal keys.result _ (sym c.is_ne.ensures ∙ c.if-is_ne.false))
