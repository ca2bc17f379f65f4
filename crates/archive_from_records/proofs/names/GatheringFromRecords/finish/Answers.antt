use Rattle.join_core.specs.Listing.{listing}
use Rattle.archive_records.proofs.Contents.{content_is}
use Rattle.archive_from_records.proofs.Gatherings.{names_added}
use Rattle.archive_from_records.proofs.names.GatheringFromRecords.finish.Goals as goal

pub returns : goal.returns
returns c = λ start o content is.
    names_added o (listing o) content (content_is o) start.names.name.now start.names.other.now start.found c.args.self.found is.2 is.3 is.4
