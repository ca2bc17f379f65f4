use Rattle.std.proofs.Common.{◌≡◌, ◌∙◌, ◌∷◌, ◌++◌, [], ap, sym}
use Rattle.cli_files.specs.FileCalls.{Begins, Finds, first_bytes}
use Rattle.cli_files.proofs.Publishings.{finds_replaced, found_begun}
use Rattle.cli_files.proofs.ways.mode_over_file.Goals as goal

pub returns-clause-way : goal.returns-clause-way
returns-clause-way g c = λ first.
    let path = c.args.path.now in
    let bytes = first_bytes c.in-Ok-beginning.beginning in
    let opened = c.«open».new.calls.entries in
    let calls : c.beginning.new.calls.entries ≡ Finds path c.args.found ∷ Begins path bytes ∷ [] =
    found_begun path c.args.found bytes c.args.calls.now.entries opened c.beginning.new.calls.entries first
    c.in-Ok.ensures.calls
    (c.in-Ok-beginning.ensures.calls ∙ ap (λ at. opened ++ Begins at bytes ∷ []) c.in-Ok.ensures.path) in (
      c.in_ok-target.ensures.target c.args.replaces (finds_replaced c.args.replaces path c.args.found bytes
          c.beginning.new.calls.entries c.requires.regular c.in_ok-check_kind.ensures.gives_way c.in-Ok-beginning.ensures.empty calls),
      sym (c.in_ok-target.ensures.found c.args.found (Begins path bytes ∷ []) calls),
      c.requires.no_descriptor,
    )
