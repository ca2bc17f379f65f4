use Rattle.std.proofs.Common.{List, ◌++◌, ◌∙◌, sym, ap, map}
use Rattle.std.proofs.lemmas.List.{append-nil}
use Rattle.archive_core.specs.Names.{NameRecord, owned_name_view}
use Rattle.archive_from_records.specs.InnerNames.{names_of}
use Rattle.std.proofs.lemmas.Result.{on_ok_weaker}
use Rattle.archive_from_records.proofs.Sought.{names_none, names_of_slice}
use Rattle.archive_from_records.proofs.names.push_names.Goals as goal

pub returns-in_default : goal.returns-in_default
unfolding names_of
returns-in_default c = rw c.in_default.is (sym (append-nil (map owned_name_view c.args.rows.now.items)))

pub returns-then-not-has_name : goal.returns-then-not-has_name
returns-then-not-has_name c =
    let before = map owned_name_view c.args.rows.now.items in
    let slice = c.in-Admit.slice in
    let name = c.args.name.now in
    let none = names_of_slice name slice (rw c.in-Admit.is at c.requires) ∙ names_none name slice c.has_name.result c.has_name.ensures c.if-not-has_name.true in
    rw c.in-Admit.is (sym (ap (λ (l : List NameRecord). before ++ l) none ∙ append-nil before))

pub returns : goal.returns
returns c =
    let before = map owned_name_view c.args.rows.now.items in
    let told = names_of_slice c.args.name.now c.in-Admit.slice (rw c.in-Admit.is at c.requires) in
    on_ok_weaker c.push_rows.result (λ more. rw c.in-Admit.is (more ∙ ap (λ (l : List NameRecord). before ++ l) (sym told))) c.push_rows.ensures
