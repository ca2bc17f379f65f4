use Rattle.std.proofs.Common.{sym}
use Rattle.dwarf_entries.specs.DeclarationViews.{declaration_view}
use Rattle.dwarf_entries.proofs.SizeLemmas.{skipped, skip_fails}
use Rattle.dwarf_entries.proofs.unread_entry.skip_entry.Goals as goal

pub returns-in_err-rest : goal.returns-in_err-rest
returns-in_err-rest c =
    let fails = skip_fails c.args.table.now.section.now c.args.header.now c.args.bytes.now c.in_ok-code.values.now
    c.args.table.now.offset c.in_ok-code.code (declaration_view c.in_ok-declaration.declaration.now) c.requires
    c.in_ok-code.ensures c.if-code-eq0.false c.in_ok-declaration.ensures c.in_err-rest.ensures in
    rw c.from_residual-in_err-rest.ensures (sym fails)

pub returns : goal.returns
returns c =
    skipped c.args.table.now.section.now c.args.header.now c.args.bytes.now c.in_ok-code.values.now
    c.in_ok-rest.rest.now c.args.table.now.offset c.in_ok-code.code
    (declaration_view c.in_ok-declaration.declaration.now) c.requires c.in_ok-code.ensures c.if-code-eq0.false
    c.in_ok-declaration.ensures c.in_ok-rest.ensures
