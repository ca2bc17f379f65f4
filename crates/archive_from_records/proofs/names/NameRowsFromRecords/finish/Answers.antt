use Rattle.join_core.specs.Listing.{listing}
use Rattle.archive_records.proofs.Contents.{content_is}
use Rattle.archive_from_records.proofs.Sought.{names_put}
use Rattle.archive_from_records.proofs.names.NameRowsFromRecords.finish.Goals as goal

pub returns : goal.returns
returns c = λ start o content is. (
  names_put o start.names.name.now (listing o) content (content_is o) _ _ is.2 c.put_names_in_order.ensures.ascending c.put_names_in_order.ensures.same,
  names_put o start.names.other.now (listing o) content (content_is o) _ _ is.3 c.put_names_in_order-2.ensures.ascending c.put_names_in_order-2.ensures.same,
)
