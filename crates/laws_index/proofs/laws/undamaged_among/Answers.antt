use Rattle.laws_index.proofs.IndexesAreRight.{lineless, none_damaged, undamaged}
use Rattle.laws_index.proofs.laws.undamaged_among.Goals as goal

pub returns : goal.returns
returns c = record {
  entry = λ os texts indexes prefix text x all among answers here none. undamaged os texts indexes all prefix text x among answers here none;
  told = λ os texts indexes prefix answering input number all are damaged. none_damaged os texts indexes all prefix answering input number are damaged;
  lineless = λ os texts indexes prefix answering input number all are lacking. lineless os texts indexes all prefix answering input number are lacking;
}
