-- The number of an event's site.
use Rattle.std.specs.Prelude.{ℕ}
use Rattle.text_input_files.specs.declared.event.Event.{Event}
use Rattle.text_input_files.specs.declared.event.Event.TheVariants.{Take, Retire, Full, Ask, Reply, Deliver}
use Rattle.text_input_files.specs.declared.event.Event.TheVariants.{Save, Stop}

abbrev pub site_number : Event → ℕ
site_number (Take site file) = site
site_number (Retire site key digest) = site
site_number (Full site) = site
site_number (Ask site) = site
site_number (Reply site message) = site
site_number (Deliver site message) = site
site_number (Save site) = site
site_number (Stop site) = site
