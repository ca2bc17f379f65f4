use Rattle.std.proofs.Common.{ap, sym, ◌∙◌, map}
use Rattle.std.proofs.lemmas.List.{map-append}
use Rattle.std.specs.Option.{option_map}
use Rattle.dwarf_encoding.proofs.SequenceLemmas.{ended_step, ended_done, ended_fails}
use Rattle.dwarf_lines.specs.Names.{listed_name_at}
use Rattle.dwarf_lines.specs.NameViews.{name_view}
use Rattle.dwarf_lines.proofs.NameLemmas.{listed_name_shortens}
use Rattle.dwarf_lines.proofs.name_lists.read_listed_names.Goals as goal

pub names-smaller : goal.names-smaller
names-smaller c = (listed_name_shortens c.args.is_file).less c.names.rest.now (option_map name_view c.in-Some.name, c.in-Some.after.now) (sym c.in-Some.ensures)

pub names-preserved : goal.names-preserved
names-preserved c =
    ended_step (listed_name_at c.args.is_file) (listed_name_shortens c.args.is_file) c.names.rest.now
    c.in-Some.after.now (map (λ n. name_view n) c.names.found.items) (map (λ n. name_view n) c.push.new.self.items)
    (name_view c.in-Some-name.name) _ (rw c.in-Some-name.is at c.in-Some.ensures)
    (ap (map (λ n. name_view n)) c.in_ok-push-in-Some-name.ensures.items ∙ map-append (λ n. name_view n) c.names.found.items _) c.names.invariant

pub returns-in-None : goal.returns-in-None
returns-in-None c =
    ended_done (listed_name_at c.args.is_file) (listed_name_shortens c.args.is_file) c.names.rest.now
    c.in-Some.after.now (map (λ n. name_view n) c.names.found.items) _ (rw c.in-None.is at c.in-Some.ensures)
    c.names.invariant

pub returns : goal.returns
returns c = ended_fails (listed_name_at c.args.is_file) c.names.rest.now (map (λ n. name_view n) c.names.found.items) _
    (sym c.in_default.ensures) c.names.invariant
