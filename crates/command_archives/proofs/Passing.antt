-- How `admit` ends that passes over files: its status over the files, one more at a time, and how it ends from what its
-- parts did.
use Rattle.std.proofs.Common.{◌≡◌, ◌<◌, ℕ, Bool, ◌||◌, List, [], ◌∷◌, ◌++◌, Option, Some, Result, Ok, Err, refl, sym, ap, subst, map, inl, inr, ◌∙◌, arith}
use Rattle.std.specs.Prelude.{if◌then◌else◌, OnOk}
use Rattle.std.specs.List.{AllByRecursion, AllZip, list_any}
use Rattle.archive_core.specs.Content.{Operations, changes}
use Rattle.archive_image_admission.specs.File.{IsAcceptedFile, IsTakeFault, admissible}
use Rattle.archive_image_admission.specs.Take.{admitted}
use Rattle.archive_image_admission.specs.declared.fault.TakeFault.{TakeFault}
use Rattle.archive_image_admission.specs.declared.fault.TakeFault.TheVariants.{OutOfMemory as TakeOutOfMemory}
use Rattle.byte_device.specs.Devices.{FailedIn, most_failures}
use Rattle.byte_lazy_inputs.specs.declared.openings.Opening.{Opening}
use Rattle.command_common.specs.declared.faults.CommandFault.{CommandFault}
use Rattle.command_common.specs.declared.faults.CommandFault.TheVariants.{Input, Output, Report, OutOfMemory}
use Rattle.command_common.specs.declared.faults.Status.{Status}
use Rattle.command_common.specs.declared.faults.Status.TheVariants.{Done, SomeRefused}
use Rattle.command_common.specs.declared.faults.Why.{Why}
use Rattle.command_common.specs.Ends.{Command, EndsStreamed, HasFirst, MakesArchive, StopsAmidst, writes_amidst}
use Rattle.command_common.specs.Inputs.{EachUnfailed, Reader, Holds, IsFileRefused, IsKnown, Unfailed, reader}
use Rattle.command_common.specs.Outputs.{IsKept, Out, Takes, Writer, report_of}
use Rattle.command_common.proofs.Amidst.{nothing_first}
use Rattle.command_archives.specs.Admit.{MakesAdmitted, admit_rows}
use Rattle.command_archives.specs.Begun.{EndsBegun, begins_alone, begins_after}
use Rattle.command_archives.specs.FileRows.{file_lines}
use Rattle.command_archives.specs.InnerArriving.{HasCome, is_passed, lines_again, records_of, with_status}
use Rattle.command_archives.specs.InnerArrivalJoins.{MakesTold, telling}
use Rattle.command_archives.specs.PassedOver.{Becomes, BecomeSome, EachCounted, EndsPassing, IsCounted, MakesPassing}
use Rattle.command_archives.specs.PassedOver.{Outcome, admit_passing, admit_passing_as_it_comes}
use Rattle.command_archives.specs.PassedOver.{images_by, images_from, rows_of, status_over}
use Rattle.command_archives.specs.declared.file_rows.FileRow.{FileRow}
use Rattle.command_archives.proofs.Begun.{accepted, ends_so, untouched}
use Rattle.command_archives.proofs.Files.{all_hold, all_images, all_rows, all_taken, part_lines, with_images, with_rows}

-- ---- whether a file was passed over

pub passed_more : (xs : List Outcome) (x : Outcome) → list_any is_passed (xs ++ x ∷ []) ≡ (list_any is_passed xs || is_passed x)
passed_more [] x = grind arith
passed_more (y ∷ xs) x = grind (arith, passed_more xs x)

status_is : (xs : List Outcome) → (if list_any is_passed xs then SomeRefused else Done) ≡ status_over xs
unfolding status_over
status_is [] = refl
status_is (Ok bytes ∷ xs) = status_is xs
status_is (Err why ∷ xs) = refl

-- what holds where it ends well holds with any status
pub noted_with_status : (P : Type 0) (passed : Bool) (r : Result Status CommandFault) → OnOk r P → OnOk (with_status passed r) P
noted_with_status P passed (Ok _) p = p
noted_with_status P passed (Err fault) p = p

-- ---- files whose bytes are known

-- an accepted file has no fault but want of memory
abbrev pub HaveNone : Type 0
HaveNone = (bytes : List ℕ) (fault : TakeFault) → IsAcceptedFile bytes → IsTakeFault bytes fault → fault ≡ TakeOutOfMemory

not_failed : (old new : ℕ) → old < most_failures → new ≡ old → FailedIn old new → ⊥
not_failed old new low same failed = absurd (omega (arith, failed, same, low))

module _ (none : HaveNone) where
  -- an accepted file is not refused
  module _ {S : Type 0} (left : S → Option (List ℕ)) (failures : S → ℕ) (old new : S) where
    abbrev file : Reader S
    file = reader left failures old new

    pub not_both : (text bytes : List ℕ) (why : Why) → left old ≡ Some text → failures old < most_failures
        → IsAcceptedFile bytes → Holds file bytes → Unfailed file → IsFileRefused file why → ⊥
    not_both text bytes why known low is holds unfailed (inl device) = not_failed (failures old) (failures new) low unfailed device.1
    not_both text bytes why known low is holds unfailed (inr taken) =
        let same : text ≡ bytes = rw known at holds in
        let fault : IsTakeFault text taken.0 = rw known at taken.4 in
        taken.2 (none bytes taken.0 is (rw same at fault))

  -- one file brings one list of images
  one_image_list : {S : Type 0} (opening : S → Opening) (file : Reader S) (x y : Outcome) → IsCounted file
      → Becomes opening file x → Becomes opening file y → images_by x ≡ images_by y
  one_image_list opening file (Ok a) (Ok b) known p q =
      let first : known.0.0 ≡ a = rw known.0.1 at p.1 in
      let other : known.0.0 ≡ b = rw known.0.1 at q.1 in
      ap admissible (sym first ∙ other)
  one_image_list opening file (Ok a) (Err why) known p q =
      absurd (not_both file.left file.failures file.old file.new known.0.0 a q.as_read known.0.1 known.1 p.0 p.1 p.2
      q.refused)
  one_image_list opening file (Err why) (Ok b) known p q =
      absurd (not_both file.left file.failures file.old file.new known.0.0 b p.as_read known.0.1 known.1 q.0 q.1 q.2
      p.refused)
  one_image_list opening file (Err _) (Err _) known p q = refl

  pub one_image_lists : {S : Type 0} (opening : S → Opening) (files : List (Reader S)) (xs ys : List Outcome)
      → EachCounted files → AllZip (Becomes opening) files xs → AllZip (Becomes opening) files ys → images_from xs
      ≡ images_from ys
  one_image_lists opening [] [] [] known p q = refl
  one_image_lists opening (file ∷ files) (x ∷ xs) (y ∷ ys) known p q =
      let first = one_image_list opening file x y known.0 p.0 q.0 in
      let rest = one_image_lists opening files xs ys known.1 p.1 q.1 in
      (λ i. first i ++ rest i)
  one_image_lists opening [] (_ ∷ _) ys known p q = absurd p
  one_image_lists opening [] [] (_ ∷ _) known p q = absurd q
  one_image_lists opening (_ ∷ _) [] ys known p q = absurd p
  one_image_lists opening (_ ∷ _) (_ ∷ _) [] known p q = absurd q

-- ---- how the command ends

module _ {R S : Type 0} (opening : S → Opening) (input : Reader R) (files : List (Reader S)) (out : Out) (report : Writer) where
  abbrev Known : Type 0
  Known = IsKnown input × EachCounted files

  abbrev Makes : Reader R → Operations → List ℕ → Type 0
  Makes given content lines = (status : Status) × MakesPassing opening given files status content lines

  abbrev command : Reader R → Command
  command given = admit_passing opening given files

  -- memory was wanted before IN was read
  pub wanting : Unfailed input → IsKept out → Takes report []
      → EndsPassing (admit_passing_as_it_comes opening input files out.draft) out report (Err OutOfMemory)
  wanting unfailed kept unreported = inl (record {
    stops = (
      (
        unfailed,
        kept.0.1,
        (
          0,
          λ known text told m. nothing_first (Makes input) out.draft.old out.draft.new text told
              kept.0.0 m,
        ),
      ),
      untouched input (BecomeSome opening files) command (EachCounted files) out.draft
          (λ given text told m. nothing_first (Makes given) out.draft.old out.draft.new text told kept.0.0 m) kept.0,
    );
    bytes = [];
    took = kept.0.0;
    count = λ n h. cc;
    nothing_published = kept.1;
    unreported = unreported;
  })

  module _ (none : HaveNone) (outcomes : List Outcome) (came : Operations) (first_rows : List ℕ) (rows : List FileRow)
      (h : HasCome opening files outcomes came first_rows rows) where
    abbrev lines : (List ℕ → Bool) → List ℕ
    lines = lines_again rows (records_of outcomes)

    abbrev Others : Reader R → Operations → List ℕ → Type 0
    Others given = MakesTold given came lines

    forth : (o : Operations) (told : List ℕ) → Others input o told → MakesPassing opening input files (status_over outcomes) o told
    forth o told m = record {
      before = m.before;
      outcomes = outcomes;
      is_content = m.is_content;
      archive = m.archive;
      become = h.become;
      content_is = m.content_is ∙ with_images opening input files outcomes came first_rows rows h m.before m.is_content.itself;
      lines_are = m.lines_are ∙ with_rows opening input files outcomes came first_rows rows h m.before m.is_content.itself;
      status_is = refl;
    }

    archive_forth : (text told : List ℕ) → MakesArchive (Others input) text told
        → MakesArchive (MakesPassing opening input files (status_over outcomes)) text told
    archive_forth text told m = record {
      content = m.content;
      lines = m.lines;
      makes = forth m.content m.lines m.makes;
      text_is = m.text_is;
      told_is = m.told_is;
    }

    archive_any : (text told : List ℕ) → MakesArchive (Others input) text told → MakesArchive (Makes input) text told
    archive_any text told m = record {
      content = m.content;
      lines = m.lines;
      makes =
          (status_over outcomes, forth m.content m.lines m.makes);
      text_is = m.text_is;
      told_is = m.told_is;
    }

    -- what files whose bytes are known make has the text that these make
    back : EachCounted files → (given : Reader R) (text told : List ℕ) → MakesArchive (Makes given) text told
        → (other : List ℕ) × MakesArchive (Others given) text other
    back known given text told m =
        let made = m.makes.1 in
        let o = made.before in
        let same = ap (λ (images : List (List ℕ)). admitted o images)
        (one_image_lists none opening files made.outcomes outcomes known made.become h.become) in (
          report_of m.content (lines (changes o)),
          record {
            content = m.content;
            lines = lines (changes o);
            makes = record {
              before = o;
              is_content = made.is_content;
              archive = made.archive;
              content_is = made.content_is ∙ same ∙ sym (with_images opening given files outcomes came first_rows rows h o made.is_content.itself);
              lines_are = refl;
            };
            text_is = m.text_is;
            told_is = refl;
          },
        )

    abbrev other : Reader R → Command
    other given = telling given came lines

    first : (n : ℕ) → HasFirst (other input) (IsKnown input) out.draft n → HasFirst (command input) Known out.draft n
    first n f known text told m = let b = back known.1 input text told m in f known.0 text b.0 b.1

    stops : (fault : CommandFault) → StopsAmidst (other input) (IsKnown input) out.draft fault
        → StopsAmidst (command input) Known out.draft fault
    stops (Input at why) s = (s.0, s.1, (s.2.0, first s.2.0 s.2.1))
    stops (Output n) s = (s.0, s.1, first n s.2)
    stops (Report n) s = absurd s
    stops OutOfMemory s = (s.0, s.1, (s.2.0, first s.2.0 s.2.1))

    stopped : (fault : CommandFault) → EndsBegun input other out report (Err fault)
        → EndsStreamed (begins_after input (BecomeSome opening files) command (EachCounted files) out.draft
        (writes_amidst (command input) Known out.draft)) out report (Err fault)
    stopped fault =
        ends_so out report (begins_alone input other out.draft)
        (begins_after input (BecomeSome opening files) command (EachCounted files) out.draft (writes_amidst (command input) Known out.draft))
        archive_any (λ u. u) (λ fault s. (
          stops fault s.0,
          accepted input (BecomeSome opening files) command (EachCounted files) out.draft (Unit {0}) other (Unit {0})
              (outcomes, h.become) (λ k. tt) back s.1,
        )) (Err fault)

    done : (status was : Status) → status ≡ status_over outcomes → EndsBegun input other out report (Ok was)
        → EndsPassing (admit_passing_as_it_comes opening input files out.draft) out report (Ok status)
    done status was is e =
        let c = e.1 in
        (e.0, rw is (record { text = c.text; told = c.told; makes = archive_forth c.text c.told c.makes; published = (refl, c.published.1, c.published.2) }))

    pub passing : (passed : Bool) → passed ≡ list_any is_passed outcomes → (result : Result Status CommandFault) → EndsBegun input other out report result
        → EndsPassing (admit_passing_as_it_comes opening input files out.draft) out report (with_status passed result)
    passing passed is (Ok was) e = done _ was (ap (λ (b : Bool). if b then SomeRefused else Done) is ∙ status_is outcomes) e
    passing passed is (Err fault) e = stopped fault e

-- ---- where no file is passed over

accepted_texts : (outcomes : List Outcome) → Done ≡ status_over outcomes → (texts : List (List ℕ)) × (outcomes ≡ map Ok texts)
unfolding status_over
accepted_texts [] is = ([], refl)
accepted_texts (Ok bytes ∷ rest) is = let more = accepted_texts rest is in (bytes ∷ more.0, ap (λ (xs : List Outcome). Ok bytes ∷ xs) more.1)
accepted_texts (Err why ∷ rest) is = cc

all_done : (texts : List (List ℕ)) → Done ≡ status_over (map Ok texts)
unfolding status_over
all_done [] = refl
all_done (t ∷ ts) = all_done ts

module _ {R S : Type 0} (opening : S → Opening) (input : Reader R) (files : List (Reader S)) (content : Operations) (lines : List ℕ) where
  -- what the files make is what they make that are all accepted
  pub as_admitted : MakesPassing opening input files Done content lines → MakesAdmitted input files content lines
  as_admitted m =
      let all = accepted_texts m.outcomes m.status_is in
      let become = subst (λ (xs : List Outcome). AllZip (Becomes opening) files xs) all.1 m.become in
      record {
        before = m.before;
        texts = all.0;
        is_content = m.is_content;
        archive = m.archive;
        files_are = all_hold opening files all.0 become;
        accepted = all_taken opening files all.0 become;
        content_is = m.content_is ∙ ap (λ (xs : List Outcome). admitted m.before (images_from xs)) all.1
            ∙ ap (λ (images : List (List ℕ)). admitted m.before images) (all_images all.0);
        lines_are = m.lines_are ∙ ap (λ (xs : List Outcome). file_lines (rows_of m.before 0 xs)) all.1
            ∙ ap file_lines (all_rows m.before 0 all.0) ∙ part_lines (admit_rows m.before 0 all.0);
      }

  -- and the other way round
  pub as_passing : MakesAdmitted input files content lines → EachUnfailed files → MakesPassing opening input files Done content lines
  as_passing m unfailed = record {
    before = m.before;
    outcomes = map Ok m.texts;
    is_content = m.is_content;
    archive = m.archive;
    become = become files m.texts m.files_are m.accepted unfailed;
    content_is = m.content_is ∙ sym (ap (λ (images : List (List ℕ)). admitted m.before images) (all_images m.texts));
    lines_are = m.lines_are ∙ sym (ap file_lines (all_rows m.before 0 m.texts) ∙ part_lines (admit_rows m.before 0 m.texts));
    status_is = all_done m.texts;
  }
    where
      become : (read : List (Reader S)) (texts : List (List ℕ)) → AllZip Holds read texts
          → AllByRecursion IsAcceptedFile texts → EachUnfailed read → AllZip (Becomes opening) read (map Ok texts)
      become [] [] hold accepted each = tt
      become (_ ∷ read) (text ∷ texts) hold accepted each = ((accepted.0, hold.0, each.0), become read texts hold.1 accepted.1 each.1)
      become [] (_ ∷ _) hold accepted each = absurd hold
      become (_ ∷ _) [] hold accepted each = absurd hold
