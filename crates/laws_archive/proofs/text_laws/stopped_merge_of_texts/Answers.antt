use Rattle.command_archives.proofs.Beginnings.{first_of_join}
use Rattle.laws_archive.proofs.text_laws.stopped_merge_of_texts.Goals as goal

pub returns : goal.returns
returns g c = λ left right out o p t u fault co cp form_left form_right whole_left whole_right merges.
    first_of_join (left.bytes left.old) (right.bytes right.old) (out.bytes out.old) (out.bytes out.new) fault.written o
    p t u co cp form_left form_right whole_left whole_right merges.1
