use Rattle.laws_index.proofs.ByTables.{said_by_slices, told_alone, told_either, told_untied}
use Rattle.laws_index.proofs.command_laws.answered_by_indexes.Goals as goal

pub returns : goal.returns
returns g c = record {
  untied = λ inputs archives os key load lines slices addresses status text given tell is_key none by.
      told_untied inputs archives os key load lines slices addresses status text is_key given tell none by;
  alone = λ input archive o key load lines slices addresses status text is is_key by. told_alone input archive o is key
      load lines slices addresses status text is_key by;
  slices = λ uuids inputs archives os all lines key asked answer frames short under are read is.
      said_by_slices uuids inputs archives os all read are lines key asked answer frames short under is;
  either = λ inputs archives os key load lines slices addresses status text are tell is_key by.
      told_either inputs archives os key load lines slices addresses status text is_key are tell by;
}
