use Rattle.index_lookup.proofs.PartLemmas.{answering_all, tied_all}
use Rattle.index_lookup.proofs.laws.part_answers_alike.Goals as goal

pub returns-clause-answering : goal.returns-clause-answering
returns-clause-answering c passes prefix indexes answering short of is = answering_all passes prefix short of indexes answering is

pub returns-clause-tied : goal.returns-clause-tied
returns-clause-tied c passes prefix indexes short of is = tied_all passes prefix short of indexes is
