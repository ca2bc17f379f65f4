-- The order of candidates is total, and those that come neither before nor after each other are the same.
use Rattle.std.proofs.Common.{◌≡◌, ◌≢◌, ℕ, Bool, true, false, List, Option, Some, None, refl, ap, arith}
use Rattle.std.specs.Ordering.{ordering_then, nat_cmp, bool_cmp, is_lt, is_gt}
use Rattle.std.specs.declared.cmp.Ordering.{Ordering}
use Rattle.std.specs.declared.cmp.Ordering.TheVariants.{Less, Equal}
use Rattle.std.specs.Cmp.{IsTotalOrder, bool_cmp_total}
use Rattle.std.specs.Cmp.Lexicographic.{slice_cmp}
use Rattle.std.proofs.lemmas.Cmp.{upto, tied_itself, nat_cmp_total, on_total, then_total, back_total, lists_total}
use Rattle.std.proofs.lemmas.Map.Lookups.{exact_unsigned, exact_bytes}
use Rattle.macho_symbols.specs.Symbols.{Tuple}
use Rattle.macho_symbols.specs.Nearest.{tuple_cmp, IsNearest}

module _ {K : Type 0} (R : K → K → Ordering) (total : IsTotalOrder R) where
  pub upto_other : (c d : K) → is_lt (R c d) ≡ false → is_gt (R d c) ≡ false
  upto_other c d h = grind (arith, total.antisymm d c)

  pub not_before : (c d : K) → is_gt (R d c) ≡ false → is_lt (R c d) ≡ false
  not_before c d h = grind (arith, total.antisymm c d)

  pub upto_less : (c d : K) → is_lt (R c d) ≡ true → is_gt (R c d) ≡ false
  upto_less c d h = grind arith

  pub not_itself : (c : K) → is_lt (R c c) ≡ false
  not_itself c = ap is_lt (tied_itself total c)

  -- what comes not before one comes not before what comes before that
  pub earlier : (c b x : K) → is_lt (R c b) ≡ false → is_lt (R x b) ≡ true → is_lt (R c x) ≡ false
  earlier c b x h l = not_before c x (upto total x b c (upto_less x b l) (upto_other c b h))

pub tuples_total : IsTotalOrder tuple_cmp
tuples_total =
    then_total (back_total (on_total (λ c. c.value) nat_cmp_total))
    (then_total (back_total (on_total (λ c. c.external) bool_cmp_total))
    (then_total (on_total (λ c. c.name) (lists_total nat_cmp_total)) (on_total (λ c. c.sect) nat_cmp_total)))

-- c does not come after d
abbrev pub UpTo : Tuple → Tuple → Type 0
UpTo c d = is_gt (tuple_cmp c d) ≡ false

pub upto_itself : (c : Tuple) → UpTo c c
upto_itself c = ap is_gt (tied_itself tuples_total c)

pub not_less : (c d : Tuple) → UpTo c d → tuple_cmp d c ≢ Less
not_less c d h less = cc (not_before tuple_cmp tuples_total d c h, ap is_lt less)

pub both_equal : (o p : Ordering) → ordering_then o p ≡ Equal → (o ≡ Equal) × (p ≡ Equal)
both_equal o p h = grind arith

pub exact_flags : (b c : Bool) → bool_cmp b c ≡ Equal → b ≡ c
exact_flags b c h = grind arith

pub exact_tuples : (c d : Tuple) → tuple_cmp c d ≡ Equal → c ≡ d
exact_tuples c d h =
    let first = both_equal (nat_cmp d.value c.value) _ h in
    let second = both_equal (bool_cmp d.external c.external) _ first.1 in
    let third = both_equal (slice_cmp nat_cmp c.name d.name) _ second.1 in
    grind (
      arith,
      exact_unsigned d.value c.value first.0,
      exact_flags d.external c.external second.0,
      exact_bytes c.name d.name third.0,
      exact_unsigned c.sect d.sect third.1,
    )

neither : (c d : Tuple) → tuple_cmp c d ≢ Less → tuple_cmp d c ≢ Less → c ≡ d
neither c d h k = exact_tuples c d (grind (arith, tuples_total.antisymm d c))

pub nearest_once : (image : List ℕ) (address : ℕ) (found other : Option Tuple) → IsNearest image address found → IsNearest image address other → found ≡ other
nearest_once image address None None h k = refl
nearest_once image address None (Some d) h k = absurd (h d k.member)
nearest_once image address (Some c) None h k = absurd (k c h.member)
nearest_once image address (Some c) (Some d) h k = ap Some (neither c d (k.first c h.member) (h.first d k.member))
