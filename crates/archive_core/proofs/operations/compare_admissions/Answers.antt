use Rattle.std.proofs.Common.{◌≡◌, ◌∙◌, ◌<◌, ◌^◌, sym, ap, refl, length, List, w64, arith, rules, ℕ}
use Rattle.std.specs.Int.{to_be_bytes}
use Rattle.std.specs.declared.cmp.Ordering.{Ordering}
use Rattle.std.specs.Ordering.{ordering_then, nat_cmp}
use Rattle.std.specs.Cmp.Lexicographic.{slice_cmp}
use Rattle.archive_core.specs.Key.{key_bytes}
use Rattle.archive_core.specs.Record.{admission}
use Rattle.archive_core.specs.Valid.{key_of}
use Rattle.archive_core.specs.declared.keys.SliceKey.{SliceKey}
use Rattle.archive_core.proofs.Compare.{three_parts, then_assoc, then_unequal, then_equal}
use Rattle.archive_core.proofs.Digits.{cmp_eight}
use Rattle.archive_core.proofs.operations.compare_admissions.Goals as goal

-- admissions compare by their keys, then by how long their slices are, and then by these
parts : (a b : List ℕ) (k l : SliceKey) (keys lengths : Ordering) → k ≡ key_of a → l ≡ key_of b → length (key_bytes k)
    ≡ 24 → length (key_bytes l) ≡ 24 → keys ≡ slice_cmp nat_cmp (key_bytes k) (key_bytes l)
    → length a < 2 ^ 64 → length b < 2 ^ 64 → lengths ≡ nat_cmp (length a) (length b)
    → slice_cmp nat_cmp (admission a) (admission b)
    ≡ ordering_then keys (ordering_then lengths (slice_cmp nat_cmp a b))
unfolding admission
parts a b k l keys lengths is_k is_l first second is short_a short_b are =
    let same : keys ≡ slice_cmp nat_cmp (key_bytes (key_of a)) (key_bytes (key_of b)) = is
    ∙ (λ i. slice_cmp nat_cmp (key_bytes (is_k i)) (key_bytes (is_l i))) in
    three_parts (key_bytes (key_of a)) (to_be_bytes w64 (length a)) a (key_bytes (key_of b)) (to_be_bytes w64 (length b)) b
    (ap (λ n. length (key_bytes n)) (sym is_k) ∙ first ∙ sym second ∙ ap (λ n. length (key_bytes n)) is_l) (omega arith)
    ∙ then_assoc (slice_cmp nat_cmp (key_bytes (key_of a)) (key_bytes (key_of b)))
    (slice_cmp nat_cmp (to_be_bytes w64 (length a)) (to_be_bytes w64 (length b))) (slice_cmp nat_cmp a b)
    ∙ (λ i. ordering_then (sym same i) (ordering_then (sym (are ∙ cmp_eight (length a) (length b) short_a short_b) i) (slice_cmp nat_cmp a b)))

pub returns-then-is_ne : goal.returns-then-is_ne
returns-then-is_ne c =
    let keys = c.compare_keys-keys in
    sym (parts c.args.bytes.now c.args.other.now c.args.key.now c.args.that.now keys.result _ c.requires.key
    c.requires.that keys.ensures.first keys.ensures.second keys.ensures.order (search rules) (search rules) refl
    ∙ then_unequal keys.result _ (sym c.is_ne.ensures ∙ c.if-is_ne.true))

pub returns-then-is_ne-2 : goal.returns-then-is_ne-2
returns-then-is_ne-2 c =
    let keys = c.compare_keys-keys in
    sym (parts c.args.bytes.now c.args.other.now c.args.key.now c.args.that.now keys.result c.cmp-lengths.result
    c.requires.key c.requires.that keys.ensures.first keys.ensures.second keys.ensures.order (search rules)
    (search rules) c.cmp-lengths.ensures
    ∙ then_equal keys.result _ (sym c.is_ne.ensures ∙ c.if-is_ne.false)
    ∙ then_unequal c.cmp-lengths.result _ (sym c.is_ne-2.ensures ∙ c.if-is_ne-2.true))

pub returns : goal.returns
returns c =
    let keys = c.compare_keys-keys in
    c.cmp.ensures
    ∙ sym (parts c.args.bytes.now c.args.other.now c.args.key.now c.args.that.now keys.result c.cmp-lengths.result
    c.requires.key c.requires.that keys.ensures.first keys.ensures.second keys.ensures.order (search rules)
    (search rules) c.cmp-lengths.ensures
    ∙ then_equal keys.result _ (sym c.is_ne.ensures ∙ c.if-is_ne.false)
    ∙ then_equal c.cmp-lengths.result _ (sym c.is_ne-2.ensures ∙ c.if-is_ne-2.false))
