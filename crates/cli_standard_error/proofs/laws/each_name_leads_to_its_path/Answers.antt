use Rattle.cli_standard_error.specs.Names.{kind_of, number_of}
use Rattle.cli_arguments.specs.{Inputs.of_kind, Lines.inputs_of_kind}
use Rattle.cli_standard_error.proofs.Named.{at_path}
use Rattle.cli_standard_error.proofs.laws.each_name_leads_to_its_path.Goals as goal

pub returns : goal.returns
returns g c = λ told line inputs name input are is.
    at_path told (inputs_of_kind (kind_of name) line) (of_kind (kind_of name) inputs) (number_of name) input
    (are (kind_of name)) is
