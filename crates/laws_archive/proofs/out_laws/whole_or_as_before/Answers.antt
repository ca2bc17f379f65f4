use Rattle.laws_archive.proofs.Crashes.{any_moment, at_the_end, place_is}
use Rattle.laws_archive.proofs.out_laws.whole_or_as_before.Goals as goal

pub returns : goal.returns
returns c = record {
  any_moment = λ path text replaces calls before left done is. any_moment path text replaces calls is before left done;
  at_the_end = λ path text replaces calls before left is. at_the_end path text replaces calls is before left;
  place = place_is;
}
