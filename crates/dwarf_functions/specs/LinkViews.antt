-- Links, as the definitions have them.
use Rattle.std.specs.Prelude.{List, map}
use Rattle.std.specs.Option.{option_map}
use Rattle.dwarf_functions.specs.Links.{LinkRecord}
use Rattle.dwarf_functions.specs.declared.links.Link.{Link}

-- a link, without the address of its name in memory
abbrev pub link_view : Link → LinkRecord
link_view l = record { name = option_map (λ n. n.now) l.name; call = l.call; caller = l.caller }

-- the views of these links
abbrev pub links_view : List Link → List LinkRecord
links_view links = map link_view links
