use Rattle.std.proofs.Common.{◌≡◌, ℕ, ◌-◌, List, [], ◌∷◌, ◌++◌, length, map, refl, sym, ap, ◌∙◌, subst, inl, Some}
use Rattle.std.proofs.lemmas.List.Elements.{All-from_recursion}
use Rattle.std.specs.Cmp.Lexicographic.{nat_list_cmp_total}
use Rattle.std.specs.FinSet as set
use Rattle.std.specs.List.{AllByRecursion, concat}
use Rattle.join_core.specs.Listing.{listing}
use Rattle.join_core.proofs.SortedUnion.{along_members}
use Rattle.archive_core.specs.Content.{Operations, content_of, new_among, with_records}
use Rattle.archive_core.specs.Record.{IsOperation, IsRecord, record_bytes}
use Rattle.archive_core.specs.declared.operations.Operation.{Operation}
use Rattle.archive_core.proofs.Made.{made_empty}
use Rattle.archive_core.proofs.Records.{operation_of_record}
use Rattle.archive_records.specs.Kind.{operations_magic}
use Rattle.archive_records.specs.Text.{AreOperations, written}
use Rattle.archive_records.proofs.Contents.{content_is}
use Rattle.text_reports.specs.Report.{apply_line}
use Rattle.command_common.specs.Inputs.{Reader, reader}
use Rattle.command_common.specs.Outputs.{report_of}
use Rattle.command_archives.specs.Apply.{apply}
use Rattle.laws_archive.specs.Sequences.{IsOutOf, Writes, as_set}
use Rattle.laws_archive.specs.Sequences.{ByApply, ByNew, OfCommand}
use Rattle.laws_archive.proofs.Sequences.{more_made, none_are, nothing_union}
use Rattle.laws_archive.proofs.sequence_laws.each_set_has_an_out.Goals as goal

-- a file with these bytes
abbrev file : List ℕ → Reader (List ℕ)
file bytes = reader Some (λ _. 0) bytes bytes

-- records are those of operations
operations_of : (rs : List (List ℕ)) → AllByRecursion IsRecord rs
    → (operations : List Operation) × AllByRecursion IsOperation operations × (map record_bytes operations ≡ rs)
operations_of [] all = ([], tt, refl)
operations_of (r ∷ rs) all =
    let first = operation_of_record r all.0 in
    let rest = operations_of rs all.1 in
    (first.0 ∷ rest.0, (first.1, rest.1), λ i. first.2 i ∷ rest.2 i)

module _ (o : Operations) (are : AreOperations o) where
  all : (operations : List Operation) × AllByRecursion IsOperation operations × (map record_bytes operations ≡ listing o)
  all = operations_of (listing o)
      (along_members nat_list_cmp_total IsRecord (listing o) (λ r h. are r (ap (λ (s : Operations). set.contains s r) (content_is o) ∙ h)))

  same : set.union set.empty (as_set all.0) ≡ o
  same = nothing_union (as_set all.0) ∙ ap (λ (rs : List (List ℕ)). set.from_list rs) all.2 ∙ sym (content_is o)

  listed : List ℕ
  listed = operations_magic ++ concat (map record_bytes all.0)

  made : Operations
  made = with_records set.empty (map record_bytes all.0)

  made_is : made ≡ content_of o
  unfolding made
  made_is =
      ap (λ (s : Operations). with_records s (map record_bytes all.0)) (sym made_empty)
      ∙ more_made set.empty (map record_bytes all.0)
      ∙ ap content_of same

  writes : Writes (apply (file (written set.empty)) (file listed)) (written made)
  unfolding listed made
  writes =
      let lines = apply_line (new_among set.empty (map record_bytes all.0)) (length all.0 - new_among set.empty (map record_bytes all.0)) in (
        report_of made lines,
        record {
          content = made;
          lines = lines;
          makes = record {
            before = set.empty;
            operations = all.0;
            is_content = record { itself = made_empty; records = none_are };
            archive = inl refl;
            ops_are = record { are = All-from_recursion IsOperation all.0 all.1; whole = refl };
            content_is = refl;
            lines_are = refl;
          };
          text_is = refl;
          told_is = refl;
        },
      )

  out : IsOutOf (List ℕ) (written made) (set.union set.empty (as_set all.0))
  unfolding listed
  out = ByApply (file (written set.empty)) (file listed) set.empty listed all.0 (written made)
      (OfCommand (file (written set.empty)) set.empty (written set.empty) ByNew refl) refl
      (record { are = All-from_recursion IsOperation all.0 all.1; whole = refl }) writes

pub returns : goal.returns
returns c = λ o are.
    subst (λ (text : List ℕ). IsOutOf (List ℕ) text o) (ap written (made_is o are))
    (subst (λ (p : Operations). IsOutOf (List ℕ) (written (made o are)) p) (same o are) (out o are))
