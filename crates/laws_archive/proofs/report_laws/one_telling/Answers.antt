use Rattle.laws_archive.proofs.Joins.{found_once, named_once}
use Rattle.laws_archive.proofs.SlicesTold.{addresses_once}
use Rattle.laws_archive.proofs.Viewed.{one_told}
use Rattle.laws_archive.proofs.report_laws.one_telling.Goals as goal

pub returns : goal.returns
returns c = record {
  find = found_once c.one_find.ensures.one;
  name = named_once c.one_find_name.ensures.one;
  symbolicate = addresses_once (one_told c.one_answer.ensures.one c.one_list_of_frames.ensures);
}
