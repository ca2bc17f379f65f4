use Rattle.command_queries.specs.Name.{TellsNamed}
use Rattle.command_queries.specs.Symbolicate.{TellsAddressesWith}
use Rattle.laws_archive.proofs.FramesTold.{one_made}
use Rattle.laws_archive.proofs.Joins.{found_of_join, listed_once, told_once}
use Rattle.laws_archive.proofs.OneRehearsal.{one_text}
use Rattle.laws_archive.proofs.report_laws.one_report.Goals as goal

pub returns : goal.returns
returns g c = record {
  find = λ archive others also more o uuid given also_given status other_status text other_text found also_found.
      c.one_telling.ensures.find o uuid status other_status text other_text
      (found_of_join archive others o uuid status text given found)
      (found_of_join also more o uuid other_status other_text also_given also_found);
  list = λ archive other o content given also_given. listed_once c.one_list.ensures.one archive other o content given also_given;
  name = λ archive others also more o sought. told_once archive others also more o (λ p. TellsNamed p sought) (c.one_telling.ensures.name o sought);
  symbolicate = λ archive others also more o key load lines slices addresses.
      told_once archive others also more o (λ p. TellsAddressesWith p key load lines slices addresses)
      (c.one_telling.ensures.symbolicate o key load lines slices addresses);
  frames = λ lines slices input archive others also other more bytes o given also_given join also_join status other_status text other_text.
      one_made c.one_answer.ensures.one c.one_list_of_frames.ensures lines slices input archive others also other more bytes o
      status other_status text other_text given also_given join also_join;
  rehearse = λ script other bytes is also status other_status text other_text.
      one_text c.one_meaning.ensures.one script other bytes status other_status text other_text is also;
}
