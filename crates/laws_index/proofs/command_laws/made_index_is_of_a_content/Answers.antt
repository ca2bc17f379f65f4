use Rattle.laws_index.proofs.command_laws.made_index_is_of_a_content.Goals as goal

pub returns : goal.returns
returns g c = λ archive text told made short fits. record {
  content = made.is_content;
  slices = made.slices;
  archive_fits = short;
  index = made.text_is;
  index_fits = fits;
}
