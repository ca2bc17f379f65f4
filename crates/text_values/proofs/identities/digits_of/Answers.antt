use Rattle.std.proofs.Common.{rules}
use Rattle.text_values.proofs.Digits.{is_text}
use Rattle.text_values.proofs.identities.digits_of.Goals as goal

pub returns-clause-utf8 : goal.returns-clause-utf8
returns-clause-utf8 c = is_text c.args.bytes.now c.encode_to_slice.new.output (search rules)
