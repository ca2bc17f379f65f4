use Rattle.std.proofs.Common.{◌∙◌, sym}
use Rattle.text_input_files.proofs.Places.{first_place, further_places}
use Rattle.text_input_files.proofs.script_reading.read_script.Goals as goal

pub faulty-requires-in_default-read_sites : goal.faulty-requires-in_default-read_sites
faulty-requires-in_default-read_sites c =
    first_place c.in_ok-lines.lines.items c.in-Some.first.now c.in-Some.further.now (sym c.deref.ensures.value ∙ c.in-Some.ensures.cases.0)
    c.in_ok-lines.ensures.few

pub read_events-requires : goal.read_events-requires
read_events-requires c =
    further_places c.in_ok-lines.lines.items c.in-Some.first.now c.in-Some.further.now (sym c.deref.ensures.value ∙ c.in-Some.ensures.cases.0)
    c.in_ok-lines.ensures.few
