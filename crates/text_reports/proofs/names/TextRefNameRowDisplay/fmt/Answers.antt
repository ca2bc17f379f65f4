use Rattle.std.proofs.Common.{List, ℕ, codes, subst}
use Rattle.std.specs.Fmt.{HasWritten}
use Rattle.text_values.specs.Words.{address_text, digest_text}
use Rattle.text_reports.specs.Escapes.{escaped}
use Rattle.text_reports.specs.Names.{name_row_text}
use Rattle.text_reports.specs.Rows.{key_text}
use Rattle.text_reports.proofs.Named.{regrouped}
use Rattle.text_reports.proofs.names.TextRefNameRowDisplay.fmt.Goals as goal

pub returns-clause-writes : goal.returns-clause-writes
unfolding name_row_text
returns-clause-writes g c = λ plain ok.
    let row = c.args.self.now.0.now in
    subst (λ (text : List ℕ). HasWritten g.W.Write.write_str_gives c.args.f.now text c.write.new.self)
    (regrouped (key_text row.key) (codes " ") (digest_text row.digest) (codes " ") (address_text row.address) (codes " (")
    (escaped row.segment.now) (codes ",") (escaped row.section.now) (codes ")"))
    (c.write.ensures.writes plain ok)
