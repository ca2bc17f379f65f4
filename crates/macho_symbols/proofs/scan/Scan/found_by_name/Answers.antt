use Rattle.std.proofs.Common.{rules, ◌≡◌, ◌∙◌, [], ◌∷◌, Some, None, nat_eq, ap, sym}
use Rattle.std.specs.Cmp.Lexicographic.{pointwise}
use Rattle.std.specs.Option.{option_map, option_to_list}
use Rattle.macho_symbols.specs.Symbols.{strings_of, name_of}
use Rattle.macho_symbols.specs.Views.{tuple_of, found_view}
use Rattle.macho_symbols.proofs.Namesakes.{not_named, named_other, named_one}
use Rattle.macho_symbols.proofs.scan.Scan.found_by_name.Goals as goal

pub returns-in_err-candidate : goal.returns-in_err-candidate
returns-in_err-candidate c =
    let image = c.args.self.now in
    let none : c.candidate.result ≡ None = search rules in
    let nothing : c.from_residual.result ≡ None = search rules in
    ap (λ found. option_to_list (option_map found_view found)) nothing
    ∙ sym (not_named image c.args.name.now _ (sym c.candidate.ensures.tuple ∙ ap (option_map (tuple_of (strings_of image))) none))

pub returns-then-not-is : goal.returns-then-not-is
unfolding tuple_of
returns-then-not-is c =
    let image = c.args.self.now in
    let candidate = c.in_ok-candidate.candidate in
    let is : c.candidate.result ≡ Some candidate = search rules in
    let name = c.at.ensures ∙ ap (λ strings. name_of strings candidate.n_strx) (c.strings.ensures.is ∙ ap strings_of c.self.view_is) in
    sym (named_other image c.args.name.now (tuple_of (strings_of image) candidate) _
    (sym c.candidate.ensures.tuple ∙ ap (option_map (tuple_of (strings_of image))) is)
    (ap (λ own. pointwise nat_eq own c.args.name.now) (sym name) ∙ sym c.is.ensures ∙ c.if-not-is.true))

pub returns : goal.returns
unfolding tuple_of
returns c =
    let image = c.args.self.now in
    let candidate = c.in_ok-candidate.candidate in
    let is : c.candidate.result ≡ Some candidate = search rules in
    let name = c.at.ensures ∙ ap (λ strings. name_of strings candidate.n_strx) (c.strings.ensures.is ∙ ap strings_of c.self.view_is) in
    ap (λ found. found ∷ []) c.found.ensures
    ∙ sym (named_one image c.args.name.now (tuple_of (strings_of image) candidate) _
    (sym c.candidate.ensures.tuple ∙ ap (option_map (tuple_of (strings_of image))) is)
    (ap (λ own. pointwise nat_eq own c.args.name.now) (sym name) ∙ sym c.is.ensures ∙ c.if-not-is.false))
