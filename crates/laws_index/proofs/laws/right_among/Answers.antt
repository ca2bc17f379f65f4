use Rattle.laws_index.proofs.IndexesAreRight.{right, right_alone}
use Rattle.laws_index.proofs.laws.right_among.Goals as goal

pub returns-clause-several : goal.returns-clause-several
returns-clause-several c os texts indexes key lines asked answer frames all tell is_key is =
    right os texts indexes all key is_key lines asked answer frames tell is

pub returns-clause-alone : goal.returns-clause-alone
returns-clause-alone c = right_alone
