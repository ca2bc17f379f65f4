use Rattle.std.specs.Ordering.{nat_cmp}
use Rattle.std.specs.Cmp.Lexicographic.{slice_cmp, nat_list_cmp_total}
use Rattle.archive_core.proofs.Made.{bytes_same}
use Rattle.laws_archive.proofs.content_laws.one_listing_of_records.Goals as goal

pub returns : goal.returns
returns c = record {
  listed = λ o. c.one_listing.ensures.listed (slice_cmp nat_cmp) o nat_list_cmp_total bytes_same;
  one = λ o records h. c.one_listing.ensures.one (slice_cmp nat_cmp) o records _ nat_list_cmp_total bytes_same h
      (c.one_listing.ensures.listed (slice_cmp nat_cmp) o nat_list_cmp_total bytes_same);
  number = λ o. c.one_listing.ensures.number (slice_cmp nat_cmp) o nat_list_cmp_total bytes_same;
}
