use Rattle.std.proofs.{Common.refl, KnownBytes.Appends-nil}
use Rattle.cli_standard_error.proofs.ending.refuse_words.Goals as goal

pub returns-else-eq-clause-text : goal.returns-else-eq-clause-text
returns-else-eq-clause-text g c = λ other. record {
  nothing_told = (Appends-nil _, refl);
  says = (c.say.result, c.say.ensures);
  status_is = refl;
}
