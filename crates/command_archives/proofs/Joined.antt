-- What the commands make that merge IN with what is at hand: `migrate`, `merge` of several FILEs, `apply` and `retire`.
use Rattle.std.proofs.Common.{◌≡◌, List, [], ◌∷◌, ◌++◌, refl, sym, ◌∙◌, ℕ, length, Result, Err, ap, arith, Option, Some}
use Rattle.std.proofs.Common.{Ok, Bool, map, ◌≤◌, ◌-◌, subst}
use Rattle.std.specs.List.{AllByRecursion, concat, count_by}
use Rattle.std.proofs.lemmas.List.Sums.{fold-append}
use Rattle.archive_core.specs.Content.{Operations, IsContent, joined, IsMade, content_of, changes, new_among}
use Rattle.archive_core.specs.Content.{with_records, with_record}
use Rattle.command_common.specs.Inputs.{Reader, IsArchive, HoldsArchive, IsKnown, Unfailed, AreRead, EachKnown, EachUnfailed, IsArchiveRefused, IsFirstRefused}
use Rattle.command_common.specs.Inputs.{IsRefusedOps, reader}
use Rattle.command_common.proofs.Archives.{each_archive, hold_more}
use Rattle.command_archives.specs.Merge.{HasJoined, MakesMerged, merge_in_turn}
use Rattle.command_common.proofs.Readers.{all_more}
use Rattle.std.proofs.lemmas.Bool.{false≢true}
use Rattle.std.specs.Ordering.{nat_cmp}
use Rattle.std.specs.Cmp.Lexicographic.{slice_cmp, nat_list_cmp_total}
use Rattle.std.specs.FinSet as set
use Rattle.std.specs.FinSet.{contains-empty, contains-union, len-empty, same_set}
use Rattle.archive_core.proofs.Made.{bytes_same, made_empty, joined_made, joined_made_right, made_again, union_assoc}
use Rattle.archive_records.specs.declared.writing.Sizes.{Sizes}
use Rattle.archive_records.specs.Kind.{magic}
use Rattle.archive_records.specs.Text.{end_record, written, IsArchiveOf, old_written, text_of, IsOperationsText}
use Rattle.archive_records.proofs.Puts.{length_written, written_parts}
use Rattle.byte_device.specs.Devices.{Stream}
use Rattle.text_reports.specs.Report.{archive_line, apply_line, retire_line}
use Rattle.command_common.specs.declared.faults.CommandFault.{CommandFault}
use Rattle.command_common.specs.declared.faults.Status.{Status}
use Rattle.command_common.specs.Ends.{HasTaken, StopsAmidst, EndsStreamed}
use Rattle.command_common.specs.Outputs.{Out, PublishesNothing, Publishes, Takes, Writer}
use Rattle.command_archives.specs.Begun.{EndsBegun, IsUnfinished}
use Rattle.command_archives.specs.Joining.{joining, MakesJoined, joins}
use Rattle.command_archives.proofs.Streamed.{archive_published, join_stopped, join_stops, join_unfinished}
use Rattle.std.specs.Prelude.{IfErr, IfOk, OnOk}
use Rattle.archive_records.proofs.Versions.{one_content, old_written_text}
use Rattle.command_common.specs.declared.faults.CommandFault.TheVariants.{OutOfMemory}
use Rattle.command_common.specs.Archives.{ReadsOthers, further_name, merged}
use Rattle.command_archives.proofs.Begun.{all_given, read_behind, one_given}
use Rattle.std.specs.List.Sorted.{IsStrictlySortedBy}
use Rattle.join_core.specs.Listing.{listing}
use Rattle.join_core.proofs.Listing.{listing_ascending}
use Rattle.archive_core.specs.declared.operations.Operation.{Operation}
use Rattle.archive_core.specs.Record.{record_bytes, retirement_record}
use Rattle.archive_records.specs.declared.format.Format.TheVariants.{OldArchive}
use Rattle.archive_merge.specs.declared.arrivals.Arrival.{Arrival}
use Rattle.command_archives.specs.InnerArrivalJoins.{IsJoinedWithArrivals, MakesTold, telling, HasSortedOperations, counts_of, IsRetired}
use Rattle.std.proofs.lemmas.List.{length-map}
use Rattle.archive_core.proofs.Taken.{taken_are_joined, new_within}
use Rattle.archive_records.proofs.Inputs.{one_operations}
use Rattle.archive_index.specs.InTurn.{AreSortedWithSameEffect}
use Rattle.command_archives.specs.Apply.{GivesOperations, MakesApplied, apply_as_it_comes}
use Rattle.archive_core.specs.declared.keys.Digest.{Digest}
use Rattle.archive_core.specs.declared.keys.SliceKey.{SliceKey}
use Rattle.archive_records.specs.Writing.{IsWrittenWhole}
use Rattle.archive_merge.specs.Arrivals.{is_new, arrival_of}
use Rattle.archive_merge.proofs.Lost.{new_changes}
use Rattle.command_archives.specs.Retire.{MakesRetired, retire}

-- ---- the archives of `merge`, one more at a time

module _ {S : Type 0} where
  pub joined_none : (o : Operations) → HasJoined {S = S} [] o o
  joined_none o = record { contents = []; are_contents = tt; files_are = tt; content = refl }

  pub joined_more : (files seen : List (Reader S)) (file : Reader S) (o mid new other : Operations)
      → seen ≡ files ++ file ∷ [] → HasJoined files o mid → IsContent other → HoldsArchive file other → new ≡ joined mid other → HasJoined seen o new
  joined_more files seen file o mid new other seen_is before content holds new_is =
      record {
        contents = before.contents ++ other ∷ [];
        are_contents = all_more IsContent before.contents other before.are_contents content;
        files_are = rw seen_is (hold_more files before.contents file other before.files_are holds);
        content = new_is ∙ rw before.content (sym (fold-append joined o before.contents (other ∷ [])));
      }

  -- what was joined is an archive
  pub joined_archives : (files : List (Reader S)) (o mid : Operations) → HasJoined files o mid → AllByRecursion IsArchive files
  joined_archives files o mid joined = each_archive files joined.contents joined.files_are joined.are_contents

-- ---- nothing

pub empty_content : IsContent set.empty
empty_content = record { itself = made_empty; records = λ r h. absurd (false≢true (sym (contains-empty (slice_cmp nat_cmp) r) ∙ h)) }

-- its text
of_nothing : (xs : List (List ℕ)) → length xs ≡ 0 → (magic ++ concat xs) ++ end_record 0 ≡ 77 ∷ 83 ∷ 89 ∷ 77 ∷ 65 ∷ 82
    ∷ 67 ∷ 50 ∷ 3 ∷ 0 ∷ 0 ∷ 0 ∷ 0 ∷ 0 ∷ 0 ∷ 0 ∷ 0 ∷ []
unfolding end_record
of_nothing [] h = refl
of_nothing (x ∷ xs) h = let k : ℕ = length xs in absurd (omega (arith, h))

pub empty_written : written set.empty ≡ 77 ∷ 83 ∷ 89 ∷ 77 ∷ 65 ∷ 82 ∷ 67 ∷ 50 ∷ 3 ∷ 0 ∷ 0 ∷ 0 ∷ 0 ∷ 0 ∷ 0 ∷ 0 ∷ 0 ∷ []
empty_written =
    let none = len-empty (slice_cmp nat_cmp) in
    written_parts set.empty 0 (sym none) ∙ of_nothing _ (length_written set.empty ∙ none)

-- the join with nothing
pub join_with_nothing : (o : Operations) → IsMade o → joined o set.empty ≡ o
join_with_nothing o is =
    ap content_of (same_set nat_list_cmp_total bytes_same (set.union o set.empty) o
    (λ r. grind (arith, contains-union nat_list_cmp_total o set.empty r, contains-empty (slice_cmp nat_cmp) r)))
    ∙ is

-- the text in memory is that of the join of the files
pub text_of_join : {S G : Type 0} (held : G → Option (List ℕ)) (r : Result G CommandFault) (files : List (Reader S))
    (none p : Operations) → none ≡ set.empty → AreRead (HasJoined files none p) (EachUnfailed files)
    → IfOk r (λ text. held text ≡ Some (written p)) → OnOk r (IsContent p) → IfErr r (λ fault. fault ≡ OutOfMemory)
    → ReadsOthers files r (λ files text. (q : Operations) × IsContent q × (held text ≡ Some (written q)) × HasJoined files set.empty q)
text_of_join held (Ok text) files none p is j there content wanting = record { is = (p, content, there, rw (← is) j.is); unfailed = j.unfailed }
text_of_join held (Err e) files none p is j there content wanting = rw wanting j.unfailed

-- ---- one content after another

join_behind : (o c m : Operations) → IsMade m → joined (joined o c) m ≡ joined o (joined c m)
join_behind o c m is =
    ap (joined (joined o c)) (sym is) ∙ joined_made (set.union o c) m ∙ ap content_of (union_assoc o c m) ∙ sym (joined_made_right o (set.union c m))

nothing_joined : (c : Operations) → IsMade c → joined set.empty c ≡ c
nothing_joined c is = ap content_of (same_set nat_list_cmp_total bytes_same (set.union set.empty c) c
    (λ r. grind (arith, contains-union nat_list_cmp_total set.empty c r, contains-empty (slice_cmp nat_cmp) r))) ∙ is

merged_made : (o : Operations) (cs : List Operations) → IsMade o → IsMade (merged o cs)
merged_made o [] is = is
merged_made o (c ∷ cs) is = merged_made (joined o c) cs (made_again (set.union o c))

-- a content with others is its join with what they make among themselves
pub merged_again : (o : Operations) (cs : List Operations) → IsMade o → AllByRecursion IsContent cs → merged o cs ≡ joined o (merged set.empty cs)
merged_again o [] is are = sym (join_with_nothing o is)
merged_again o (c ∷ cs) is are =
    let made = are.0.itself in
    merged_again (joined o c) cs (made_again (set.union o c)) are.1
    ∙ join_behind o c (merged set.empty cs) (merged_made set.empty cs made_empty)
    ∙ ap (joined o) (sym (ap (λ (x : Operations). merged x cs) (nothing_joined c made) ∙ merged_again c cs made are.1))

-- ---- FILEs, and then IN

module _ {R S : Type 0} (input : Reader R) (files : List (Reader S)) (out : Out) (report : Writer) where
  pub merged_in_turn : (p : Operations) → HasJoined files set.empty p → EachUnfailed files
      → (result : Result Status CommandFault) → EndsBegun input (λ given. joins given p) out report result
      → EndsStreamed (merge_in_turn input files out.draft) out report result
  merged_in_turn p j unfailed =
      read_behind (λ given. MakesMerged given files) input (IsFirstRefused further_name IsArchive IsArchiveRefused files)
      (EachUnfailed files) (EachKnown files) (AllByRecursion IsArchive files × EachUnfailed files)
      out report (λ given. MakesJoined given p) unfailed (joined_archives files set.empty p j, unfailed)
      (λ o lines m. record {
        before = m.before;
        contents = j.contents;
        is_content = m.is_content;
        are_contents = j.are_contents;
        archive = m.archive;
        files_are = j.files_are;
        content_is = m.content_is ∙ sym (all_joined m.before m.is_content);
        lines_are = m.lines_are;
      })
      (λ known given o lines m. record {
        before = m.before;
        is_content = m.is_content;
        archive = m.archive;
        content_is = m.content_is
            ∙ ap (merged m.before) (all_given IsArchiveOf IsContent one_content files m.contents j.contents
            m.are_contents j.are_contents known m.files_are j.files_are) ∙ all_joined m.before m.is_content;
        lines_are = m.lines_are;
      })
    where
      all_joined : (o : Operations) → IsContent o → merged o j.contents ≡ joined o p
      all_joined o content = merged_again o j.contents content.itself j.are_contents ∙ ap (joined o) (sym j.content)

-- ---- operations in order

abbrev pub set_of : List Operation → Operations
set_of operations = set.from_list {R = slice_cmp nat_cmp} (map record_bytes operations)

pub listed_in_order : (operations : List Operation) → IsStrictlySortedBy (slice_cmp nat_cmp)
    (map record_bytes operations) → listing (set_of operations) ≡ map record_bytes operations
listed_in_order operations up = listing_ascending nat_list_cmp_total bytes_same (map record_bytes operations) up

-- their text
pub text_in_order : (operations : List Operation) → IsStrictlySortedBy (slice_cmp nat_cmp) (map record_bytes operations)
    → text_of OldArchive (map record_bytes operations) ≡ old_written (set_of operations)
text_in_order operations up = ap (text_of OldArchive) (sym (listed_in_order operations up)) ∙ sym (old_written_text (set_of operations))

-- ---- IN, merged with them

module _ {R : Type 0} (input : Reader R) (operations : Operations) (lines_of : (List ℕ → Bool) → List ℕ) where
  -- what stops the join with what they make stops it
  pub told_stopped : (out : Out) (report : Writer) (fault : CommandFault)
      → StopsAmidst (joining input (content_of operations)) (IsKnown input) out.draft fault
      → IsUnfinished input (Unit {0}) (λ given. joining given (content_of operations)) (Unit {0}) out.draft
      → HasTaken out.draft fault → PublishesNothing out → Takes report []
      → EndsBegun input (λ given. telling given operations lines_of) out report (Err fault)
  told_stopped = join_stopped input (content_of operations) (λ given. MakesTold given operations lines_of)
      (λ given o lines m. (m.before, m.is_content, m.archive, m.content_is))

  -- and what it makes is published
  pub told_published : {W : Type 0} (draft : Stream W) (sizes : Sizes) (arrived : List Arrival) (withdraws : Bool)
      (j : IsJoinedWithArrivals input operations draft sizes arrived withdraws) (lines : List ℕ) → lines
      ≡ lines_of (changes j.joined.content) → (out : Out) (report : Writer) (result : Result Status CommandFault)
      → Publishes out report (written (joined j.joined.content (content_of operations))) (lines ++ archive_line sizes)
      result → EndsBegun input (λ given. telling given operations lines_of) out report result
  told_published draft sizes arrived withdraws j lines lines_are out report result =
      let i = j.joined in
      archive_published (MakesTold input operations lines_of) _ (Unfailed input) draft sizes
      (joined i.content (content_of operations)) lines out report result i.unfailed
      (record { before = i.content; is_content = i.is_content; archive = i.archive; content_is = refl; lines_are = lines_are }) i.written_is

-- no more are new than there are
pub few_new : (all sorted : List Operation) → AreSortedWithSameEffect all sorted → (o : Operations) → IsMade o
    → count_by (changes o) (map record_bytes sorted) ≤ length all
few_new all sorted is o made = rw (is.counted o made, ← length-map all record_bytes) (new_within o (map record_bytes all))

-- the join with what they make is the content with all of them
joined_all : (all sorted : List Operation) → AreSortedWithSameEffect all sorted → (o : Operations) → IsMade o
    → joined o (content_of (set_of sorted)) ≡ with_records o (map record_bytes all)
joined_all all sorted is o made = sym (taken_are_joined o (map record_bytes sorted) made) ∙ is.content o made

-- and so is the line
counts_all : (all sorted : List Operation) (number : ℕ) → AreSortedWithSameEffect all sorted → number ≡ length all → (o : Operations) → IsMade o
    → counts_of (map record_bytes sorted) number (changes o) ≡ apply_line (new_among o (map record_bytes all)) (length all - new_among o (map record_bytes all))
counts_all all sorted number is number_is o made = rw (is.counted o made, number_is) refl

module _ {R S : Type 0} (input : Reader R) (left : S → Option (List ℕ)) (failures : S → ℕ) (old new : S) (out : Out) (report : Writer) where
  abbrev ops : Reader S
  ops = reader left failures old new

  -- OPS was read
  pub applied : (sorted : List Operation) (number : ℕ) → HasSortedOperations ops sorted number → Unfailed ops → (result : Result Status CommandFault)
      → EndsBegun input (λ given. telling given (set_of sorted) (counts_of (map record_bytes sorted) number)) out report result
      → EndsStreamed (apply_as_it_comes input ops out.draft) out report result
  applied sorted number has unfailed =
      read_behind (λ given. MakesApplied given ops) input (IsRefusedOps ops) (Unfailed ops) (IsKnown ops)
      (GivesOperations ops × Unfailed ops) out report
      (λ given. MakesTold given (set_of sorted) (counts_of (map record_bytes sorted) number)) unfailed
      ((has.operations, has.ops_are), unfailed)
      (λ o lines m. record {
        before = m.before;
        operations = has.operations;
        is_content = m.is_content;
        archive = m.archive;
        ops_are = has.ops_are;
        content_is = m.content_is ∙ joined_all has.operations sorted has.sorted_is m.before m.is_content.itself;
        lines_are = m.lines_are ∙ counts_all has.operations sorted number has.sorted_is has.number_is m.before m.is_content.itself;
      })
      (λ known given o lines m.
      let same = one_given (λ xs text. IsOperationsText text xs) left failures old new m.operations has.operations
      (λ text. one_operations text m.operations has.operations) known m.ops_are has.ops_are in
      record {
        before = m.before;
        is_content = m.is_content;
        archive = m.archive;
        content_is = m.content_is ∙ rw same (sym (joined_all has.operations sorted has.sorted_is m.before m.is_content.itself));
        lines_are = m.lines_are ∙ rw same (sym (counts_all has.operations sorted number has.sorted_is has.number_is m.before m.is_content.itself));
      })

-- ---- IN, merged with a retirement

module _ (key : SliceKey) (digest : Digest) where
  abbrev pub record_of : List ℕ
  record_of = retirement_record key digest.0

  abbrev pub alone : Operations
  alone = set.from_list (record_of ∷ [])

  pub listed_alone : listing alone ≡ record_of ∷ []
  unfolding IsStrictlySortedBy
  listed_alone = listing_ascending nat_list_cmp_total bytes_same (record_of ∷ []) (tt, tt)

  module _ {R : Type 0} (input : Reader R) where
    pub retired : {W : Type 0} (draft : Stream W) (sizes : Sizes) (arrived : List Arrival) (had changed : Bool)
        (j : IsJoinedWithArrivals input alone draft sizes arrived had)
        → ((x : Arrival) → arrived ≡ x ∷ [] → changed ≡ is_new x) → IsRetired input key digest draft sizes changed had
    retired draft sizes arrived had changed j first =
        let o : Operations = j.joined.content in
        let same : joined o (content_of alone) ≡ with_record o record_of = sym (taken_are_joined o (record_of ∷ []) j.joined.is_content.itself) in
        record {
          before = o;
          is_content = j.joined.is_content;
          archive = j.joined.archive;
          unfailed = j.joined.unfailed;
          written_is = subst (λ (q : Operations). IsWrittenWhole draft.bytes draft.failures draft.old draft.new
              (set.len q) (written q) sizes) same j.joined.written_is;
          changed_is = first (arrival_of o record_of) (j.arrivals_are ∙ ap (map (arrival_of o)) listed_alone) ∙ new_changes o record_of;
          had_is = j.withdraws_is;
        }

    retired_join : (given : Reader R) (o : Operations) (lines : List ℕ) → MakesRetired given key digest o lines
        → (before : Operations) × IsContent before × HoldsArchive given before × (o ≡ joined before (content_of alone))
    retired_join given o lines m =
        (m.before, m.is_content, m.archive, m.content_is ∙ taken_are_joined m.before (record_of ∷ []) m.is_content.itself)

    -- what stops the join with what the retirement makes stops it
    pub retire_stops : (draft : Writer) (fault : CommandFault)
        → StopsAmidst (joining input (content_of alone)) (IsKnown input) draft fault
        → StopsAmidst (retire input key digest) (IsKnown input) draft fault
    retire_stops =
        join_stops input (content_of alone) (λ given. MakesRetired given key digest) retired_join

    pub retire_unfinished : (draft : Writer)
        → IsUnfinished input (Unit {0}) (λ given. joining given (content_of alone)) (Unit {0}) draft
        → IsUnfinished input (Unit {0}) (λ given. retire given key digest) (Unit {0}) draft
    retire_unfinished = join_unfinished input (content_of alone) (λ given. MakesRetired given key digest) retired_join

    -- and what it makes is published
    pub retire_published : {W : Type 0} (draft : Stream W) (sizes : Sizes) (changed had : Bool)
        (i : IsRetired input key digest draft sizes changed had) (out : Out) (report : Writer)
        (result : Result Status CommandFault)
        → Publishes out report (written (with_record i.before record_of))
        (retire_line changed key digest ++ archive_line sizes) result
        → EndsBegun input (λ given. retire given key digest) out report result
    retire_published draft sizes changed had i out report result =
        archive_published (MakesRetired input key digest) _ (Unfailed input) draft sizes
        (with_record i.before record_of) (retire_line changed key digest) out report result i.unfailed
        (record {
          before = i.before;
          is_content = i.is_content;
          archive = i.archive;
          content_is = refl;
          lines_are =
              ap (λ (b : Bool). retire_line b key digest) i.changed_is;
        }) i.written_is
