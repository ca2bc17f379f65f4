use Rattle.cli_files.proofs.Described.{not_without, of_process, parts_of}
use Rattle.cli_files.proofs.descriptors.is_descriptor.Goals as goal

pub returns-then-is_process : goal.returns-then-is_process
returns-then-is_process c =
    let path = c.args.path.now in
    let rest = c.in-Some-strip_prefix.rest.now in
    let process = c.in-Some-split_once.process.now in
    let number = c.in-Some-split_once.number.now in
    let strips = c.in-Some-strip_prefix.ensures.cases in
    let splits = c.in-Some-split_once.ensures.cases in (
      (λ yes. of_process path rest process number strips splits (c.is_process.ensures.0 c.if-is_process.true)
          (c.is_number-then-is_process.ensures.0 yes)),
      (λ is. c.is_number-then-is_process.ensures.1 (parts_of path rest process number strips splits is).1),
    )

pub returns-else-is_process : goal.returns-else-is_process
returns-else-is_process c = (
  (λ yes. let no = c.if-is_process.false in cc),
  (λ is. c.is_process.ensures.1 (parts_of c.args.path.now c.in-Some-strip_prefix.rest.now
      c.in-Some-split_once.process.now c.in-Some-split_once.number.now c.in-Some-strip_prefix.ensures.cases
      c.in-Some-split_once.ensures.cases is).0),
)

pub returns-in-None : goal.returns-in-None
returns-in-None c = (
  (λ yes. cc),
  (λ is. absurd (not_without c.args.path.now c.in-Some-strip_prefix.rest.now c.in-Some-strip_prefix.ensures.cases
      c.in-None.ensures.cases is)),
)
