use Rattle.std.proofs.Common.{rules, ◌≡◌, Some, None, ap, refl, sym, subst}
use Rattle.std.specs.Option.{option_map}
use Rattle.std.proofs.Math.Facts.{Fits-lt-pow}
use Rattle.macho_symbols.specs.Rows.{AreRising, IsRowFor}
use Rattle.macho_symbols.specs.Views.{found_view}
use Rattle.macho_symbols.proofs.Said.{none_said}
use Rattle.macho_symbols.proofs.StepLemmas.{by_step}
use Rattle.macho_symbols.proofs.table.AddressTable.nearest.Goals as goal

pub row_for-requires : goal.row_for-requires
row_for-requires c =
    let rows : c.deref.result.now ≡ c.args.self.now.rows = search rules in
    subst AreRising (sym rows) c.requires.rows.rising

pub returns-in_err-row : goal.returns-in_err-row
returns-in_err-row c =
    let image = c.args.slice.now in
    let rows : c.deref.result.now ≡ c.args.self.now.rows = search rules in (
      None,
      by_step image c.args.self.now.rows c.args.address None (λ i. Fits-lt-pow (c.type_inv.slice i)) c.ranges.address.fits c.requires.rows
          (subst (λ rs. IsRowFor rs c.args.address None) rows c.in_err-row.ensures),
      ap (option_map found_view) c.from_residual.ensures,
    )

pub returns-then-row-eq0 : goal.returns-then-row-eq0
returns-then-row-eq0 c =
    let image = c.args.slice.now in
    let row = c.in_ok-row.row in
    let rows : c.deref.result.now ≡ c.args.self.now.rows = search rules in
    let says = by_step image c.args.self.now.rows c.args.address (Some row) (λ i. Fits-lt-pow (c.type_inv.slice i)) c.ranges.address.fits c.requires.rows
    (subst (λ rs. IsRowFor rs c.args.address (Some row)) rows c.in_ok-row.ensures) in
    (None, none_said image c.args.address row says c.if-row-eq0.true, refl)

pub found-requires : goal.found-requires
found-requires c =
    let image = c.args.slice.now in
    let row = c.in_ok-row.row in
    let rows : c.deref.result.now ≡ c.args.self.now.rows = search rules in
    record {
      table = c.requires;
      says = by_step image c.args.self.now.rows c.args.address (Some row) (λ i. Fits-lt-pow (c.type_inv.slice i)) c.ranges.address.fits c.requires.rows
          (subst (λ rs. IsRowFor rs c.args.address (Some row)) rows c.in_ok-row.ensures);
      some = c.if-row-eq0.false;
    }
