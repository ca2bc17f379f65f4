use Rattle.std.proofs.Common.{◌≡◌, rules, sym, ap, ◌∙◌}
use Rattle.std.specs.Ordering.{is_eq}
use Rattle.archive_merge.specs.declared.side.Lookahead.TheVariants.{Held}
use Rattle.archive_merge.proofs.BorrowedSides.{equal_bytes}
use Rattle.archive_merge.proofs.merging.Merge.left_holds_last_of_right.Goals as goal

pub returns-then-eq : goal.returns-then-eq
returns-then-eq g c =
    let held : c.args.self.now.left.ahead ≡ Held = search rules in
    let right = (g.B.Side.seen c.args.self.now.right).reader.last in
    let equal = equal_bytes c.last.result.now right in
    let told = c.is_eq.ensures ∙ ap is_eq c.compare.ensures in (
      λ t. (held, sym c.last.ensures ∙ equal.0 (sym told ∙ t)),
      λ both. told ∙ equal.1 (c.last.ensures ∙ both.1),
    )
