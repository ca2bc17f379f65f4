use Rattle.cli_standard_error.proofs.standard_error.print_out_of_memory.Goals as goal

pub returns : goal.returns
returns g c = c.push_whole.ensures
