use Rattle.archive_core.proofs.Picked.{contains_part, part_content, part_alike}
use Rattle.laws_archive.proofs.content_laws.parts_in_words.Goals as goal

pub returns : goal.returns
returns c = record { part = contains_part; content = part_content; alike = part_alike }
