-- What archives hold together, where their bytes are known, and what is told of it.
use Rattle.std.proofs.Common.{◌≡◌, ◌↔◌, ℕ, List, [], ◌∷◌, refl, sym, ap, ◌∙◌, subst, inl, inr}
use Rattle.std.specs.List.{AllByRecursion, AllZip}
use Rattle.archive_core.specs.Content.{Operations, IsContent, content_of, joined}
use Rattle.archive_core.specs.Find.{IsFinds}
use Rattle.archive_core.specs.Lists.{IsList}
use Rattle.archive_core.specs.Names.{IsNames, NameRecord}
use Rattle.archive_core.specs.declared.find.FindRow.{FindRow}
use Rattle.archive_core.proofs.Made.{joined_content}
use Rattle.archive_records.specs.Text.{AreOperations, old_written, written}
use Rattle.text_reports.specs.Finds.{find_lines, list_lines}
use Rattle.text_reports.specs.Names.{name_lines}
use Rattle.command_common.specs.declared.faults.InputName.{InputName}
use Rattle.command_common.specs.declared.faults.Status.{Status}
use Rattle.command_common.specs.declared.faults.Why.{Why}
use Rattle.command_common.specs.Archives.{AreRefused, HoldTogether, merged}
use Rattle.command_common.specs.Found.{found_status}
use Rattle.command_common.specs.Inputs.{Reader, HoldsArchive, HoldsContent, IsDeviceFault, IsGiven, IsGivenArchive}
use Rattle.command_common.specs.Records.{TellsFound}
use Rattle.command_queries.specs.Find.{find}
use Rattle.command_queries.specs.List.{list}
use Rattle.command_queries.specs.Name.{TellsNamed}
use Rattle.command_archives.specs.Merge.{MakesMerged, merge}
use Rattle.laws_archive.specs.Joins.{IsGivenJoin, IsMergedFile, TellOne}
use Rattle.laws_archive.proofs.Accepted.{merge_refused}
use Rattle.laws_archive.proofs.Given.{contents_given, holds, one_given}

-- ---- what is given is held

each_holds : {S : Type 0} (files : List (Reader S)) (contents : List Operations) → AllZip IsGivenArchive files contents → AllZip HoldsArchive files contents
each_holds [] [] given = tt
each_holds (file ∷ files) (o ∷ contents) given = (holds file o given.0, each_holds files contents given.1)
each_holds _ _ given = absurd given

pub merged_is : (o : Operations) (contents : List Operations) → IsContent o → AllByRecursion IsContent contents → IsContent (merged o contents)
merged_is o [] content are = content
merged_is o (p ∷ contents) content are = merged_is (joined o p) contents (joined_content o p content are.0) are.1

module _ {R S : Type 0} (archive : Reader R) (others : List (Reader S)) (o : Operations) (given : IsGivenJoin archive others o) where
  pub join_content : IsContent o
  join_content = subst IsContent (sym given.join_is) (merged_is given.content given.contents given.is_content given.are_contents)

  -- what is true of the join of what they hold is true of this
  pub told_of_join : (IsTrue : Operations → Type 0) → HoldTogether archive others IsTrue → IsTrue o
  told_of_join IsTrue held =
      let first = one_given archive given.content held.content given.is_content held.is_content given.archive_is held.archive_is in
      let rest = contents_given others given.contents held.contents given.are_contents held.are_contents given.others_are held.others_are in
      subst IsTrue ((λ i. merged (first i) (rest i)) ∙ sym given.join_is) held.is_true

  pub holds_join : (IsTrue : Operations → Type 0) → IsTrue o → HoldTogether archive others IsTrue
  holds_join IsTrue is = record {
    content = given.content;
    contents = given.contents;
    is_content = given.is_content;
    are_contents = given.are_contents;
    archive_is = holds archive given.content given.archive_is;
    others_are = each_holds others given.contents given.others_are;
    is_true = subst IsTrue given.join_is is;
  }

  pub join_refused : (at : InputName) (why : Why) → AreRefused archive others at why → IsDeviceFault why
  join_refused at why refused =
      merge_refused archive others given.content given.contents at why given.is_content given.are_contents given.archive_is given.others_are
      (elim refused [ inl first ↦ inl first.0 | inr behind ↦ inr behind ])

  -- what `merge` of them makes is their join
  pub merged_content : (content : Operations) (lines : List ℕ) → MakesMerged archive others content lines → content ≡ o
  merged_content content lines m =
      let first = one_given archive given.content m.before given.is_content m.is_content given.archive_is m.archive in
      let rest = contents_given others given.contents m.contents given.are_contents m.are_contents given.others_are m.files_are in
      m.content_is ∙ (λ i. merged (first i) (rest i)) ∙ sym given.join_is

  -- the file that it writes is the text of their join
  pub merge_given : {T : Type 0} (file : Reader T) (made told : List ℕ) → (merge archive others).Makes made told
      → IsGiven file made → IsGivenJoin {S = S} file [] o
  merge_given file made told makes is = record {
    content = o;
    contents = [];
    is_content = join_content;
    are_contents = tt;
    archive_is = (made, inl (makes.text_is ∙ ap written (merged_content makes.content makes.lines makes.makes)), is);
    others_are = tt;
    join_is = refl;
  }

-- the same of a file that holds the join
pub as_merged : {R S T : Type 0} (archive : Reader R) (others : List (Reader S)) (file : Reader T)
    → IsMergedFile archive others file → (IsTrue : Operations → Type 0)
    → HoldTogether archive others IsTrue ↔ HoldTogether {S = S} file [] IsTrue
as_merged archive others file m IsTrue =
    let one = merge_given archive others m.join m.given file m.made m.told m.makes m.file_is in (
      λ held. holds_join file [] m.join one IsTrue (told_of_join archive others m.join m.given IsTrue held),
      λ held. holds_join archive others m.join m.given IsTrue (told_of_join file [] m.join one IsTrue held),
    )

-- ---- one archive

pub alone_held : {R S : Type 0} (archive : Reader R) (IsTrue : Operations → Type 0) → HoldTogether {S = S} archive [] IsTrue ↔ HoldsContent archive IsTrue
alone_held {S = S} archive IsTrue = (
  λ held. record {
    content = held.content;
    is_content = held.is_content;
    text = held.archive_is;
    is_true = subst IsTrue (ap (merged held.content) (contents_given {S = S} [] [] held.contents tt held.are_contents tt held.others_are)) held.is_true;
  },
  λ held. record {
    content = held.content;
    contents = [];
    is_content = held.is_content;
    are_contents = tt;
    archive_is = held.text;
    others_are = tt;
    is_true = held.is_true;
  },
)

-- ---- texts of either version

-- an input with what version 1 wrote of operations gives the content that they make
pub old_given : {R : Type 0} (input : Reader R) (p : Operations) → AreOperations p → IsGiven input (old_written p) → IsGivenArchive input (content_of p)
old_given input p are given = (old_written p, inr (record { operations = p; are = are; whole = refl; makes = refl }), given)

pub new_given : {R : Type 0} (input : Reader R) (o : Operations) → IsGiven input (written o) → IsGivenArchive input o
new_given input o given = (written o, inl refl, given)

-- two archives make the join of what they give
pub merged_two : {R S : Type 0} (input : Reader R) (file : Reader S) (o q content : Operations) (lines : List ℕ)
    → IsContent o → IsContent q → IsGivenArchive input o → IsGivenArchive file q
    → MakesMerged input (file ∷ []) content lines → content ≡ joined o q
merged_two input file o q content lines c d given other makes =
    let first = one_given input o makes.before c makes.is_content given makes.archive in
    let rest = contents_given (file ∷ []) (q ∷ []) makes.contents (d, tt) makes.are_contents (other, tt) makes.files_are in
    makes.content_is ∙ (λ i. merged (first i) (rest i))

-- ---- what is told once

pub told_once : {Q R S T : Type 0} (archive : Reader Q) (others : List (Reader R)) (also : Reader S) (more : List (Reader T)) (o : Operations)
    (Tells : Operations → Status → List ℕ → Type 0) → TellOne (Tells o) (Tells o) → IsGivenJoin archive others o → IsGivenJoin also more o
    → TellOne (λ status text. HoldTogether archive others (λ p. Tells p status text)) (λ status text. HoldTogether also more (λ p. Tells p status text))
told_once archive others also more o Tells one given also_given status other_status text other_text tells also_tells =
    one status other_status text other_text
    (told_of_join archive others o given (λ p. Tells p status text) tells)
    (told_of_join also more o also_given (λ p. Tells p other_status other_text) also_tells)

pub found_once : ((o : Operations) (uuid : List ℕ) (rows others : List FindRow) → IsFinds o uuid rows → IsFinds o uuid others → rows ≡ others)
    → (o : Operations) (uuid : List ℕ) → TellOne (TellsFound o uuid) (TellsFound o uuid)
found_once one o uuid status other_status text other_text a b =
    let rows = one o uuid a.rows b.rows a.have b.have in
    (a.status_is ∙ ap found_status rows ∙ sym b.status_is, a.text_is ∙ ap find_lines rows ∙ sym b.text_is)

pub named_once : ((o : Operations) (name : List ℕ) (rows others : List NameRecord) → IsNames o name rows → IsNames o name others → rows ≡ others)
    → (o : Operations) (sought : List ℕ) → TellOne (TellsNamed o sought) (TellsNamed o sought)
named_once one o sought status other_status text other_text a b =
    let rows = one o sought a.rows b.rows a.names b.names in
    (a.status_is ∙ ap found_status rows ∙ sym b.status_is, a.text_is ∙ ap name_lines rows ∙ sym b.text_is)

-- what is found in several archives, their join has
pub found_of_join : {R S : Type 0} (archive : Reader R) (others : List (Reader S)) (o : Operations) (uuid : List ℕ) (status : Status) (text : List ℕ)
    → IsGivenJoin archive others o → (find archive others uuid).Makes status text → TellsFound o uuid status text
found_of_join archive others o uuid status text given found = record {
  rows = found.rows;
  have = told_of_join archive others o given (λ p. IsFinds p uuid found.rows) found.have;
  status_is = found.status_is;
  text_is = found.text_is;
}

pub listed_once : ((o : Operations) (rows others : List FindRow) → IsList o rows → IsList o others → rows ≡ others)
    → {R S : Type 0} (archive : Reader R) (other : Reader S) (o : Operations) → IsContent o → IsGivenArchive archive o → IsGivenArchive other o
    → TellOne (list archive).Makes (list other).Makes
listed_once one archive other o content given also_given status other_status text other_text a b =
    let first = one_given archive o a.have.content content a.have.is_content given a.have.text in
    let second = one_given other o b.have.content content b.have.is_content also_given b.have.text in
    let rows = one o a.rows b.rows (subst (λ (p : Operations). IsList p a.rows) first a.have.is_true)
    (subst (λ (p : Operations). IsList p b.rows) second b.have.is_true) in
    (a.status_is ∙ ap found_status rows ∙ sym b.status_is, a.text_is ∙ ap list_lines rows ∙ sym b.text_is)
