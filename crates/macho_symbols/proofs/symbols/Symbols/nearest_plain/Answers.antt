use Rattle.std.proofs.Common.{Some, None, ap, subst}
use Rattle.std.specs.Option.{option_map}
use Rattle.macho_symbols.specs.Symbols.{strings_of}
use Rattle.macho_symbols.specs.Nearest.{IsNearest}
use Rattle.macho_symbols.specs.Found.{FindsNearest}
use Rattle.macho_symbols.specs.Views.{tuple_of, found_view}
use Rattle.macho_symbols.proofs.Stands.{stands_below}
use Rattle.macho_symbols.proofs.Standing.{nearest_standing}
use Rattle.macho_symbols.proofs.symbols.Symbols.nearest_plain.Goals as goal

pub returns-in_err-candidate : goal.returns-in_err-candidate
returns-in_err-candidate c = (
  None,
  subst (λ image. IsNearest image c.args.address None) c.new-scan.ensures
      (nearest_standing c.new-scan.result c.args.address None c.in_err-candidate.ensures),
  ap (option_map found_view) c.from_residual.ensures,
)

pub found-requires : goal.found-requires
unfolding tuple_of
found-requires c =
    let image = c.new-scan.result in
    stands_below image c.args.address (tuple_of (strings_of image) c.in_ok-candidate.candidate)
    (nearest_standing image c.args.address (Some c.in_ok-candidate.candidate) c.in_ok-candidate.ensures).member

pub returns : goal.returns
returns c =
    let image = c.new-scan.result in
    subst (λ bytes. FindsNearest bytes c.args.address (Some (found_view c.found.result))) c.new-scan.ensures (
      Some (tuple_of (strings_of image) c.in_ok-candidate.candidate),
      nearest_standing image c.args.address (Some c.in_ok-candidate.candidate) c.in_ok-candidate.ensures,
      ap Some c.found.ensures,
    )
