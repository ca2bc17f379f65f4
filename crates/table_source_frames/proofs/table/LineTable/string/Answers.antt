use Rattle.std.proofs.Common.{◌==◌, take, drop, ap, ◌∙◌, arith}
use Rattle.std.specs.List.{before_first}
use Rattle.table_checked_pages.proofs.ReadLemmas.{read_as}
use Rattle.table_source_frames.proofs.ByteLemmas.{of_ok}
use Rattle.table_source_frames.proofs.OpenedLemmas.{opened_long, strings_are}
use Rattle.table_source_frames.proofs.table.LineTable.string.Goals as goal

pub returns-clause-read : goal.returns-clause-read
returns-clause-read g c =
    read_as
    (λ text known bytes says all strings steps opened.
    says all opened.are_pages
    ∙ ap (λ s. before_first (λ b. b == 0) (drop c.args.offset s))
    (strings_are _ _ _ _ _ _ opened c.strings_len.result c.strings_len.ensures))
    (λ text known absent all strings steps stored opened. absent all stored opened.are_pages
    (omega (arith, opened_long _ _ _ _ _ _ opened, c.strings_len.ensures, c.args.self.now.before)))
    c.name_from.ensures.read

pub returns-clause-bytes : goal.returns-clause-bytes
returns-clause-bytes g c =
    of_ok _
    (λ bytes says text all known pages.
    says text known all pages
    ∙ ap (λ n. before_first (λ b. b == 0) (drop c.args.offset (take n (drop c.args.self.now.strings all)))) c.strings_len.ensures)
    c.name_from.ensures.read
