use Rattle.dwarf_encoding.proofs.Texts.{text_found, text_missing}
use Rattle.dwarf_encoding.proofs.text.read_text.Goals as goal

pub returns-in_err-end : goal.returns-in_err-end
returns-in_err-end c = cc (text_missing c.args.bytes.now c.in_err-end.ensures, c.from_residual.ensures)

pub returns : goal.returns
returns c =
    let found = text_found c.args.bytes.now c.in_ok-end.end c.in_ok-end.ensures in
    cc
