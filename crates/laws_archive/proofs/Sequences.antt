-- What commands write one after another is the text of the content that its operations make.
use Rattle.std.proofs.Common.{◌≡◌, ℕ, List, [], ◌∷◌, map, refl, sym, ap, ◌∙◌, inl, ◌||◌, Ok, Err}
use Rattle.std.proofs.lemmas.List.Elements.{All-append, All-nil, recursion_from_All}
use Rattle.std.specs.Cmp.Lexicographic.{nat_list_cmp_total, slice_cmp}
use Rattle.std.specs.FinSet as set
use Rattle.std.specs.FinSet.{contains-empty, contains-union, same_set}
use Rattle.std.specs.List.{All, AllByRecursion, AllZip}
use Rattle.std.specs.Ordering.{nat_cmp}
use Rattle.archive_core.specs.Content.{Operations, IsContent, content_of, with_record, with_records}
use Rattle.archive_core.specs.Record.{IsOperation, IsRecord, admission_record, record_bytes}
use Rattle.archive_core.specs.Summary as exchange
use Rattle.archive_core.specs.Summary.{Entries}
use Rattle.archive_core.specs.Valid.{IsValid}
use Rattle.archive_core.specs.declared.keys.Digest.{Digest}
use Rattle.archive_core.specs.declared.keys.SliceKey.{SliceKey}
use Rattle.archive_core.specs.declared.operations.Operation.{Operation}
use Rattle.archive_core.specs.declared.operations.Operation.TheVariants.{Admit, Retire}
use Rattle.archive_core.proofs.Made.{bytes_same, either, joined_made as both_made, made_again, made_empty, union_assoc}
use Rattle.archive_core.proofs.Summaries.{delta_content}
use Rattle.archive_index.proofs.Held.{are_records}
use Rattle.archive_records.specs.Entry.{AreEntries}
use Rattle.archive_records.specs.Text.{AreOperations, IsOperationsText, summary_text, written}
use Rattle.archive_records.proofs.Versions.{made_content}
use Rattle.archive_image_admission.specs.File.{IsAcceptedFile, admissible}
use Rattle.archive_image_admission.specs.Take.{admitted}
use Rattle.archive_exchange.proofs.Content.{joined_made, taken_gain, union_nothing}
use Rattle.byte_lazy_inputs.specs.declared.openings.Opening.{Opening}
use Rattle.command_common.specs.Archives.{merged}
use Rattle.command_common.specs.Inputs.{HoldsArchive, IsGiven, IsGivenArchive, Reader}
use Rattle.command_archives.specs.Admit.{admit, images_of}
use Rattle.command_archives.specs.Apply.{apply}
use Rattle.command_archives.specs.Delta.{delta}
use Rattle.command_archives.specs.Merge.{merge}
use Rattle.command_archives.specs.Migrate.{migrate}
use Rattle.command_archives.specs.PassedOver.{Becomes, EachCounted, Outcome, admit_passing, images_from}
use Rattle.command_archives.specs.Retire.{retire}
use Rattle.command_archives.proofs.Passing.{HaveNone, one_image_lists}
use Rattle.laws_archive.specs.Joins.{IsGivenJoin}
use Rattle.laws_archive.specs.Sequences.{AreInputsOf, IsInputOf, IsOutOf, Writes, as_set}
use Rattle.laws_archive.specs.Sequences.{ByAdmit, ByAdmitPassing, ByApply, ByDelta, ByMerge, ByMigrate, ByNew, ByRetire}
use Rattle.laws_archive.specs.Sequences.{More, None, OfCommand, OfVersion1}
use Rattle.laws_archive.proofs.Given.{is_given, one_given, texts_given}
use Rattle.laws_archive.proofs.Joins.{merged_content, old_given}

-- ---- operations

both_are : (o p : Operations) → AreOperations o → AreOperations p → AreOperations (set.union o p)
both_are o p a b r h =
    either (IsRecord r) (set.contains o r) (set.contains p r) (a r) (b r) (sym (contains-union nat_list_cmp_total o p r) ∙ h)

pub none_are : AreOperations set.empty
none_are r h = cc (contains-empty (slice_cmp nat_cmp) r)

valid_admitted : (images : List (List ℕ)) → AllByRecursion IsValid images → AllByRecursion IsOperation (map Admit images)
valid_admitted [] valid = tt
valid_admitted (image ∷ images) valid = (valid.0, valid_admitted images valid.1)

admissions : (images : List (List ℕ)) → map record_bytes (map Admit images) ≡ map admission_record images
admissions [] = refl
admissions (image ∷ images) = ap (λ (rs : List (List ℕ)). admission_record image ∷ rs) (admissions images)

-- the images of accepted files are slices
images_valid : (texts : List (List ℕ)) → AllByRecursion IsAcceptedFile texts → All IsValid (images_of texts)
images_valid [] accepted = All-nil IsValid
images_valid (text ∷ texts) accepted =
    All-append IsValid (admissible text) (images_of texts) (accepted.0.valid) (images_valid texts accepted.1)

passing_valid : {R : Type 0} (opening : R → Opening) (files : List (Reader R)) (outcomes : List Outcome)
    → AllZip (Becomes opening) files outcomes → All IsValid (images_from outcomes)
passing_valid opening [] [] become = All-nil IsValid
passing_valid opening (file ∷ files) (Ok bytes ∷ outcomes) become =
    All-append IsValid (admissible bytes) (images_from outcomes) become.0.0.valid (passing_valid opening files outcomes become.1)
passing_valid opening (file ∷ files) (Err why ∷ outcomes) become = passing_valid opening files outcomes become.1
passing_valid opening [] (_ ∷ _) become = absurd become
passing_valid opening (_ ∷ _) [] become = absurd become

-- each file of operations is of one list, and each summary of one set
abbrev pub OneList : Type 0
OneList = (text : List ℕ) (a b : List Operation) → IsOperationsText text a → IsOperationsText text b → a ≡ b

abbrev pub OneSummary : Type 0
OneSummary = (s t : Entries) → AreEntries s → AreEntries t → summary_text s ≡ summary_text t → s ≡ t

-- ---- one more step

-- The text is that of the content that these operations make.
pub record IsOneText (text : List ℕ) (o : Operations) : Type 0 where
  pub are : AreOperations o
  pub text_is : text ≡ written (content_of o)

-- The input's bytes are an archive's text, and give that content.
pub record IsOneInput {R : Type 0} (input : Reader R) (o : Operations) : Type 0 where
  pub are : AreOperations o
  pub given : IsGivenArchive input (content_of o)

-- operations that are taken by what a set makes, make what both make
pub more_made : (o : Operations) (rs : List (List ℕ)) → with_records (content_of o) rs ≡ content_of (set.union o (set.from_list rs))
more_made o rs = taken_gain (content_of o) rs (made_again o) ∙ joined_made o (set.from_list rs)

with_more : (o : Operations) (operations : List Operation) (text : List ℕ) → AreOperations o → AllByRecursion IsOperation operations
    → text ≡ written (with_records (content_of o) (map record_bytes operations)) → IsOneText text (set.union o (as_set operations))
with_more o operations text are more is = record {
  are = both_are o (as_set operations) are (are_records operations more);
  text_is = is ∙ ap written (more_made o (map record_bytes operations));
}

with_images : (o : Operations) (images : List (List ℕ)) (text : List ℕ) → AreOperations o → All IsValid images
    → text ≡ written (admitted (content_of o) images) → IsOneText text (set.union o (as_set (map Admit images)))
with_images o images text are valid is =
    with_more o (map Admit images) text are (valid_admitted images (recursion_from_All IsValid images valid))
    (is ∙ ap (λ (rs : List (List ℕ)). written (with_records (content_of o) rs)) (sym (admissions images)))

module _ {R : Type 0} (input : Reader R) (o : Operations) (one : IsOneInput input o) where
  before_is : (before : Operations) → IsContent before → HoldsArchive input before → before ≡ content_of o
  before_is before is held = one_given input (content_of o) before (made_content o one.are) is one.given held

  by_admit : (files : List (Reader R)) (texts : List (List ℕ)) (text : List ℕ) → AllZip IsGiven files texts
      → Writes (admit input files) text → IsOneText text (set.union o (as_set (map Admit (images_of texts))))
  by_admit files texts text given writes =
      let m = writes.1.makes in
      let before = before_is m.before m.is_content m.archive in
      let same = texts_given files texts m.texts given m.files_are in
      with_images o (images_of texts) text one.are (images_valid texts (rw same m.accepted))
      (writes.1.text_is ∙ ap written (m.content_is ∙ (λ i. admitted (before i) (images_of (sym same i)))))

  by_passing : HaveNone → (opening : R → Opening) (files : List (Reader R)) (outcomes : List Outcome) (text : List ℕ)
      → EachCounted files → AllZip (Becomes opening) files outcomes → Writes (admit_passing opening input files) text
      → IsOneText text (set.union o (as_set (map Admit (images_from outcomes))))
  by_passing none opening files outcomes text counted become writes =
      let m = writes.1.makes.1 in
      let before = before_is m.before m.is_content m.archive in
      let same = one_image_lists none opening files m.outcomes outcomes counted m.become become in
      with_images o (images_from outcomes) text one.are (passing_valid opening files outcomes become)
      (writes.1.text_is ∙ ap written (m.content_is ∙ (λ i. admitted (before i) (same i))))

  by_retire : (key : SliceKey) (digest : Digest) (text : List ℕ) → IsOperation (Retire key digest)
      → Writes (retire input key digest) text → IsOneText text (set.union o (as_set (Retire key digest ∷ [])))
  by_retire key digest text is writes =
      let m = writes.1.makes in
      let before = before_is m.before m.is_content m.archive in
      with_more o (Retire key digest ∷ []) text one.are (is, tt)
      (writes.1.text_is ∙ ap written (m.content_is ∙ (λ i. with_record (before i) (record_bytes (Retire key digest)))))

  by_apply : OneList → (ops : Reader R) (listed : List ℕ) (operations : List Operation) (text : List ℕ) → IsGiven ops listed
      → IsOperationsText listed operations → Writes (apply input ops) text → IsOneText text (set.union o (as_set operations))
  by_apply one_list ops listed operations text given is writes =
      let m = writes.1.makes in
      let before = before_is m.before m.is_content m.archive in
      let same = one_list listed m.operations operations (is_given ops listed (λ t. IsOperationsText t m.operations) given m.ops_are) is in
      with_more o operations text one.are (recursion_from_All IsOperation operations is.are)
      (writes.1.text_is ∙ ap written (m.content_is ∙ (λ i. with_records (before i) (map record_bytes (same i)))))

  by_migrate : (text : List ℕ) → Writes (migrate input) text → IsOneText text o
  by_migrate text writes =
      let m = writes.1.makes in
      record { are = one.are; text_is = writes.1.text_is ∙ ap written (before_is writes.1.content m.is_content m.archive) }

  by_delta : OneSummary → (summary : Reader R) (entries : Entries) (text : List ℕ) → AreEntries entries
      → IsGiven summary (summary_text entries) → Writes (delta input summary) text
      → IsOneText text (exchange.delta (content_of o) entries)
  by_delta one_summary summary entries text are given writes =
      let m = writes.1.makes in
      let before = before_is m.before m.is_content m.archive_is in
      let said = is_given summary (summary_text entries) (λ t. t ≡ summary_text m.entries) given m.summary_is in
      let same = one_summary m.entries entries m.are_entries are (sym said) in
      let part : IsContent (exchange.delta (content_of o) entries) = delta_content (content_of o) entries (made_content o one.are) in
      record {
        are = part.records;
        text_is = writes.1.text_is ∙ ap written (m.content_is ∙ (λ i. exchange.delta (before i) (same i)) ∙ sym part.itself);
      }

-- ---- archives together

-- The inputs' bytes are archives' texts, and their contents with what a set makes are what both make.
pub record AreRead {R : Type 0} (inputs : List (Reader R)) (o : Operations) : Type 0 where
  pub are : AreOperations o
  pub contents : List Operations
  pub are_contents : AllByRecursion IsContent contents
  pub given : AllZip IsGivenArchive inputs contents
  pub made : (p : Operations) → merged (content_of p) contents ≡ content_of (set.union p o)

none_read : {R : Type 0} → AreRead {R = R} [] set.empty
none_read = record {
  are = none_are;
  contents = [];
  are_contents = tt;
  given = tt;
  made = λ p. ap content_of (sym (union_nothing p));
}

more_read : {R : Type 0} (input : Reader R) (inputs : List (Reader R)) (o p : Operations) → IsOneInput input o → AreRead inputs p
    → AreRead (input ∷ inputs) (set.union o p)
more_read input inputs o p one rest = record {
  are = both_are o p one.are rest.are;
  contents = content_of o ∷ rest.contents;
  are_contents = (made_content o one.are, rest.are_contents);
  given = (one.given, rest.given);
  made = λ q. ap (λ (s : Operations). merged s rest.contents) (both_made q o) ∙ rest.made (set.union q o) ∙ ap content_of (union_assoc q o p);
}

pub nothing_union : (o : Operations) → set.union set.empty o ≡ o
nothing_union o = same_set nat_list_cmp_total bytes_same (set.union set.empty o) o (λ r.
    contains-union nat_list_cmp_total set.empty o r ∙ ap (λ b. b || set.contains o r) (contains-empty (slice_cmp nat_cmp) r))

-- so they hold the content that all these operations make
join_from : {R : Type 0} (input : Reader R) (inputs : List (Reader R)) (o : Operations) (contents : List Operations)
    → AllByRecursion IsContent contents → AllZip IsGivenArchive (input ∷ inputs) contents
    → ((p : Operations) → merged (content_of p) contents ≡ content_of (set.union p o)) → IsGivenJoin input inputs (content_of o)
join_from input inputs o [] are given made = absurd given
join_from input inputs o (c ∷ contents) are given made = record {
  content = c;
  contents = contents;
  is_content = are.0;
  are_contents = are.1;
  archive_is = given.0;
  others_are = given.1;
  join_is =
      ap content_of (sym (nothing_union o)) ∙ sym (made set.empty)
      ∙ ap (λ (s : Operations). merged s contents) (joined_made set.empty c ∙ ap content_of (nothing_union c) ∙ are.0.itself);
}

pub join_of : {R : Type 0} (input : Reader R) (inputs : List (Reader R)) (o : Operations) → AreRead (input ∷ inputs) o
    → IsGivenJoin input inputs (content_of o)
join_of input inputs o read = join_from input inputs o read.contents read.are_contents read.given read.made

by_merge : {R : Type 0} (input : Reader R) (files : List (Reader R)) (o : Operations) (text : List ℕ) → AreRead (input ∷ files) o
    → Writes (merge input files) text → IsOneText text o
by_merge input files o text read writes =
    let m = writes.1 in
    let content = merged_content input files (content_of o) (join_of input files o read) m.content m.lines m.makes in
    record { are = read.are; text_is = m.text_is ∙ ap written content }

-- ---- whatever was called

module _ {R : Type 0} (none : HaveNone) (one_list : OneList) (one_summary : OneSummary) where
  mutual
    pub one_text : (text : List ℕ) (o : Operations) → IsOutOf R text o → IsOneText text o
    one_text text o ByNew = record { are = none_are; text_is = ap written (sym made_empty) }
    one_text text o (ByAdmit input files p texts made is given writes) =
        by_admit input p (one_input input p is) files texts made given writes
    one_text text o (ByAdmitPassing opening input files p outcomes made is counted become writes) =
        by_passing input p (one_input input p is) none opening files outcomes made counted become writes
    one_text text o (ByRetire input key digest p made is asked writes) =
        by_retire input p (one_input input p is) key digest made asked writes
    one_text text o (ByApply input ops p listed operations made is given text_is writes) =
        by_apply input p (one_input input p is) one_list ops listed operations made given text_is writes
    one_text text o (ByMerge input files p made are writes) = by_merge input files p made (all_read (input ∷ files) p are) writes
    one_text text o (ByMigrate input p made is writes) = by_migrate input p (one_input input p is) made writes
    one_text text o (ByDelta archive summary p entries made is are given writes) =
        by_delta archive p (one_input archive p is) one_summary summary entries made are given writes

    pub one_input : (input : Reader R) (o : Operations) → IsInputOf R input o → IsOneInput input o
    one_input input o (OfCommand file p text is given) =
        let one = one_text text p is in
        record { are = one.are; given = (text, inl one.text_is, given) }
    one_input input o (OfVersion1 file p are given) = record { are = are; given = old_given file p are given }

    pub all_read : (inputs : List (Reader R)) (o : Operations) → AreInputsOf R inputs o → AreRead inputs o
    all_read inputs o None = none_read
    all_read inputs o (More input more p q is are) = more_read input more p q (one_input input p is) (all_read more q are)
