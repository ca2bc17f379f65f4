use Rattle.command_archives.proofs.admit.slices_in.Goals as goal

pub returns-in-Err-clause-refused : goal.returns-in-Err-clause-refused
returns-in-Err-clause-refused c = c.refusal_of_file.ensures.refused c.args.bytes.items c.in-Err.ensures.refused
