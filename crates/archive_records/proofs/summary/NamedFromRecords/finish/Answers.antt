use Rattle.std.proofs.Common.{sym, ap, subst, ◌∙◌}
use Rattle.std.specs.FinSet as set
use Rattle.join_core.specs.Listing.{listing}
use Rattle.archive_records.specs.Reader.{AreListed}
use Rattle.archive_records.proofs.Contents.{InOrder-entries, content_is}
use Rattle.archive_records.proofs.Summarised.{AreListed-ordered}
use Rattle.archive_records.proofs.summary.NamedFromRecords.finish.Goals as goal

pub invariant_of-result : goal.invariant_of-result
invariant_of-result c =
    let s = c.requires.1 in
    subst AreListed (sym c.requires.3) (AreListed-ordered (listing s) (InOrder-entries s c.requires.2))

pub returns : goal.returns
returns c = λ question s are is. ap set.from_list is ∙ sym (content_is s)
