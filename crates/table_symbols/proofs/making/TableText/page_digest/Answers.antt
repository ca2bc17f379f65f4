use Rattle.std.proofs.Common.{rules, ◌≡◌, ◌≤◌, ◌∙◌, ◌++◌, ◌-◌, ◌*◌, ap, append_assoc, arith, drop, length, length-take, sym, take}
use Rattle.sha2.specs.Sha256.{sha256}
use Rattle.table_symbols.proofs.MakingLemmas.{part_of_three, part_short}
use Rattle.table_symbols.proofs.making.TableText.page_digest.Goals as goal

pub overflow_sub-first : goal.overflow_sub-first
overflow_sub-first c = omega (arith, ap length c.part-first.ensures, length-take 4096 (drop (4096 * c.args.index) c.deref.result.now))

pub overflow_sub-left : goal.overflow_sub-left
overflow_sub-left c =
    let first : length c.part-first.result.now ≤ 4096 = part_short _ _ _ c.part-first.ensures in
    let second : length c.part-second.result.now ≤ 4096 - length c.part-first.result.now = part_short _ _ _ c.part-second.ensures in
    omega (arith, first, second)

pub returns : goal.returns
returns c =
    let a = c.part-first.result.now in
    let b = c.part-second.result.now in
    let hashed : c.finalize.result ≡ sha256 ((a ++ b) ++ c.part-third.result.now) = search rules in
    let own = c.self.inside.own.items in
    let strings = c.self.inside.strings.now in
    let lines = c.self.inside.lines.items in
    let from = 4096 * c.args.index in
    let first = c.part-first.ensures ∙ ap (λ b. take 4096 (drop from b)) c.deref.ensures.value in
    let after : c.saturating_sub-after.result ≡ from - length own = search rules in
    let second = c.part-second.ensures ∙ (λ i. take (4096 - length (first i)) (drop (after i) strings)) in
    let beyond : c.saturating_sub-past.result ≡ c.saturating_sub-after.result - length strings = search rules in
    let past = beyond ∙ ap (λ n. n - length strings) after in
    let third = c.part-third.ensures ∙ (λ i. take (4096 - length (first i) - length (second i)) (drop (past i) (c.deref-2.ensures.value i))) in
    hashed ∙ ap sha256 (append_assoc a b c.part-third.result.now ∙ (λ i. first i ++ (second i ++ third i)) ∙ sym (part_of_three own strings lines from 4096)
    ∙ ap (λ b. take 4096 (drop from b)) c.self.view_is)
