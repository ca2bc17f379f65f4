-- The files of `admit`: their rows over the join of two contents, the files one more at a time, and then IN.
use Rattle.std.proofs.Common.{◌≡◌, ℕ, suc, ◌+◌, Bool, ◌&&◌, List, [], ◌∷◌, ◌++◌, Option, length, map, refl, sym, ap, ◌∙◌, arith}
use Rattle.std.proofs.Common.{append_assoc, Result, Ok, Err}
use Rattle.std.specs.Prelude.{filter}
use Rattle.std.specs.Cmp.Lexicographic.{nat_list_cmp_total}
use Rattle.std.specs.FinSet as set
use Rattle.std.specs.FinSet.{contains-insert, contains-union, same_set}
use Rattle.std.proofs.lemmas.List.{length-map, append-nil, map-append}
use Rattle.archive_core.specs.Content.{Operations, IsMade, changes, content_of, covering, joined, with_record, with_records}
use Rattle.archive_core.specs.Record.{admission_record}
use Rattle.archive_core.proofs.Made.{alike_insert, bytes_same, contains_made, joined_made_right, made_alike, made_is_alike}
use Rattle.archive_image_admission.specs.File.{is_admissible, slice_in, parts, admissible, IsAcceptedFile}
use Rattle.archive_image_admission.specs.Take.{admitted, taken_of, taken_rows}
use Rattle.archive_image_admission.specs.declared.taken.Taken.{Taken}
use Rattle.archive_image_admission.proofs.RowPlaces.{rows_number}
use Rattle.text_reports.specs.declared.rows.AdmitRow.{AdmitRow}
use Rattle.byte_lazy_inputs.specs.declared.openings.Opening.{Opening}
use Rattle.command_archives.specs.Admit.{admit_rows, file_rows, images_of, MakesAdmitted, admit_as_it_comes}
use Rattle.command_archives.specs.FileRows.{file_lines, file_row_text}
use Rattle.command_archives.specs.InnerArriving.{images_in, record_in, records_by, records_in, records_of, updated_row}
use Rattle.command_archives.specs.InnerArriving.{updated_rows, slice_rows, updated_taken, AreFirstRows}
use Rattle.command_archives.specs.InnerArriving.{Brings, HasCome, lines_again}
use Rattle.command_archives.specs.InnerNotes.{IsNoted}
use Rattle.command_archives.specs.Notes.{NotesRetired, retired_notes}
use Rattle.command_archives.specs.PassedOver.{Becomes, NotesRetiredPassing, Outcome, images_by, images_from, part_rows, rows_by, rows_of}
use Rattle.command_archives.specs.declared.arriving.Arrivals.{Arrivals}
use Rattle.command_archives.specs.declared.file_rows.FileRow.{FileRow}
use Rattle.command_archives.specs.declared.file_rows.FileRow.TheVariants.{Part, PassedOver}
use Rattle.command_common.specs.declared.notes.Note.{Note}
use Rattle.command_archives.proofs.Joined.{join_with_nothing}
use Rattle.std.proofs.lemmas.Grind.{flat_map-append}
use Rattle.std.specs.List.{AllByRecursion, AllZip}
use Rattle.archive_image_admission.proofs.Rows.{admitted-append}
use Rattle.command_common.specs.Inputs.{Reader, Holds, IsAccepted, EachKnown, EachUnfailed, IsFileRefused, IsFirstRefused, IsKnown}
use Rattle.command_common.proofs.Readers.{pairs_more, pairs_long}
use Rattle.join_core.specs.Listing.{listing}
use Rattle.text_reports.specs.Report.{admit_lines, line}
use Rattle.text_reports.specs.Rows.{admit_row_text}
use Rattle.command_common.specs.declared.faults.CommandFault.{CommandFault}
use Rattle.command_common.specs.declared.faults.InputName.TheVariants.{File}
use Rattle.command_common.specs.declared.faults.Status.{Status}
use Rattle.command_common.specs.declared.faults.Why.{Why}
use Rattle.command_common.specs.Ends.{EndsStreamed}
use Rattle.command_common.specs.Outputs.{Out, Writer}
use Rattle.command_archives.specs.Begun.{EndsBegun}
use Rattle.command_archives.specs.InnerArrivalJoins.{MakesTold, telling}
use Rattle.command_archives.proofs.Begun.{all_given, read_behind}

-- ---- what changes a join

-- an operation changes a join where it changes either side
changes_joined : (o p : Operations) (r : List ℕ) → changes (joined o p) r ≡ (changes o r && changes p r)
unfolding changes
changes_joined o p r =
    let union = contains-union nat_list_cmp_total o p in
    let made = contains_made (set.union o p) in
    grind (arith, made r, made (covering r), union r, union (covering r))

-- a join with one more is the join with the side that has it
joined_more : (o p : Operations) (r : List ℕ) → with_record (joined o p) r ≡ joined o (with_record p r)
joined_more o p r =
    let u : Operations = set.union o p in
    made_alike (set.insert (content_of u) r) (set.insert u r) (alike_insert (content_of u) u r (made_is_alike u))
    ∙ ap content_of (same_set nat_list_cmp_total bytes_same (set.insert u r) (set.union o (set.insert p r)) (λ q.
    grind (
      arith,
      contains-insert nat_list_cmp_total u r q,
      contains-union nat_list_cmp_total o p q,
      contains-union nat_list_cmp_total o (set.insert p r) q,
      contains-insert nat_list_cmp_total p r q,
    )))
    ∙ sym (joined_made_right o (set.insert p r))

joined_taken : (o p : Operations) (rs : List (List ℕ)) → with_records (joined o p) rs ≡ joined o (with_records p rs)
joined_taken o p [] = refl
joined_taken o p (r ∷ rs) = ap (λ (q : Operations). with_records q rs) (joined_more o p r) ∙ joined_taken o (with_record p r) rs

-- so images give a content its join with what they make among themselves
pub admitted_joined : (o : Operations) (images : List (List ℕ)) → IsMade o → joined o (content_of (admitted set.empty images)) ≡ admitted o images
admitted_joined o images is =
    joined_made_right o (admitted set.empty images)
    ∙ sym (joined_taken o set.empty (map admission_record images))
    ∙ ap (λ (q : Operations). admitted q images) (join_with_nothing o is)

-- ---- the slices of a file

pub images_sliced : (xs : List (List ℕ)) → images_in (map slice_in xs) ≡ filter is_admissible xs
images_sliced [] = refl
images_sliced (x ∷ xs) = grind (arith, images_sliced xs)

pub rows_sliced : (o : Operations) (xs : List (List ℕ)) → slice_rows o (map slice_in xs) ≡ taken_rows o xs
unfolding slice_rows taken_rows
rows_sliced o [] = refl
rows_sliced o (x ∷ xs) = grind (arith, rows_sliced (admitted o (x ∷ [])) xs, rows_sliced o xs)

-- ---- rows, told again

takens_again : (List ℕ → Bool) → List Taken → List (List ℕ) → List Taken
takens_again f [] rs = []
takens_again f (t ∷ ts) [] = t ∷ ts
takens_again f (t ∷ ts) (r ∷ rs) = updated_taken (f r) t ∷ takens_again f ts rs

file_again : (f : List ℕ → Bool) (index slice : ℕ) (ts : List Taken) (rs : List (List ℕ))
    → updated_rows f (part_rows index slice ts) rs ≡ part_rows index slice (takens_again f ts rs)
unfolding updated_rows file_rows takens_again
file_again f index slice (t ∷ ts) (r ∷ rs) = ap (λ (rest : List FileRow). Part
    (record { file = index; slice = slice; taken = updated_taken (f r) t }) ∷ rest) (file_again f index (slice + 1) ts rs)
file_again f index slice ts rs = refl

again_append : (f : List ℕ → Bool) (xs ys : List FileRow) (rs ss : List (List ℕ)) → length rs ≡ length xs
    → updated_rows f (xs ++ ys) (rs ++ ss) ≡ updated_rows f xs rs ++ updated_rows f ys ss
unfolding updated_rows
again_append f [] ys [] ss long = refl
again_append f (x ∷ xs) ys (r ∷ rs) ss long = let rest : length rs ≡ length xs = omega (arith, long)
    in ap (λ (rows : List FileRow). updated_row (f r) x ∷ rows) (again_append f xs ys rs ss rest)
again_append f xs ys rs ss long = absurd (omega (arith, long))

file_long : (index slice : ℕ) (ts : List Taken) → length (part_rows index slice ts) ≡ length ts
unfolding file_rows
file_long index slice [] = refl
file_long index slice (t ∷ ts) = ap suc (file_long index (slice + 1) ts)

-- a slice that came first among those that come is new where it is new to the other content, too
one_joined : (o p : Operations) (image : List ℕ) → updated_taken (changes o (admission_record image)) (taken_of p image) ≡ taken_of (joined o p) image
unfolding taken_of
one_joined o p image = grind (arith, changes_joined o p (admission_record image))

takens_joined : (o p : Operations) (xs : List (List ℕ))
    → takens_again (changes o) (taken_rows p xs) (map record_in (map slice_in xs)) ≡ taken_rows (joined o p) xs
unfolding takens_again taken_rows
takens_joined o p [] = refl
takens_joined o p (x ∷ xs) = grind (
  arith,
  one_joined o p x,
  takens_joined o (admitted p (x ∷ [])) xs,
  joined_more o p (admission_record x),
  takens_joined o p xs,
)

-- each row of a file has its record
records_long : (p : Operations) (index : ℕ) (x : Outcome) → length (records_by x) ≡ length (rows_by p index x)
records_long p index (Ok bytes) =
    length-map (map slice_in (parts bytes)) record_in ∙ length-map (parts bytes) slice_in
    ∙ sym (rows_number p (parts bytes)) ∙ sym (file_long index 0 (taken_rows p (parts bytes)))
records_long p index (Err why) = refl

-- the rows of a file over a join are those over one side, told again by the other
one_rows_joined : (o p : Operations) (index : ℕ) (x : Outcome) → updated_rows (changes o) (rows_by p index x) (records_by x) ≡ rows_by (joined o p) index x
unfolding updated_rows
one_rows_joined o p index (Ok bytes) = file_again (changes o) index 0 (taken_rows p (parts bytes)) (records_in bytes)
    ∙ ap (part_rows index 0) (takens_joined o p (parts bytes))
one_rows_joined o p index (Err why) = refl

rows_joined : (o p : Operations) (index : ℕ) (xs : List Outcome) → updated_rows (changes o) (rows_of p index xs) (records_of xs) ≡ rows_of (joined o p) index xs
unfolding rows_of updated_rows
rows_joined o p index [] = refl
rows_joined o p index (x ∷ xs) =
    let first = one_rows_joined o p index x in
    let rest = rows_joined o (admitted p (images_by x)) (index + 1) xs
    ∙ ap (λ (q : Operations). rows_of q (index + 1) xs)
    (sym (joined_taken o p (map admission_record (images_by x)))) in
    again_append (changes o) (rows_by p index x) (rows_of (admitted p (images_by x)) (index + 1) xs) (records_by x) (records_of xs) (records_long p index x)
    ∙ (λ i. first i ++ rest i)

-- so the rows over a content are those of the files among themselves, told again
pub rows_over : (o : Operations) (xs : List Outcome) → IsMade o → updated_rows (changes o) (rows_of set.empty 0 xs) (records_of xs) ≡ rows_of o 0 xs
rows_over o xs is = rows_joined o set.empty 0 xs ∙ ap (λ (q : Operations). rows_of q 0 xs) (join_with_nothing o is)

-- the rows of some files and of others after them
rows_of-append : (o : Operations) (place : ℕ) (xs ys : List Outcome) → rows_of o place (xs ++ ys) ≡ rows_of o place xs
    ++ rows_of (admitted o (images_from xs)) (place + length xs) ys
unfolding rows_of
rows_of-append o place [] ys = ap (λ (n : ℕ). rows_of o n ys) (omega arith)
rows_of-append o place (x ∷ xs) ys =
    let further : place + 1 + length xs ≡ place + length (x ∷ xs) = omega arith in
    rw (rows_of-append (admitted o (images_by x)) (place + 1) xs ys, further, admitted-append o (images_by x) (images_from xs), append_assoc) refl

-- the rows of one file, which stand alone
one_row : (o : Operations) (place : ℕ) (x : Outcome) → rows_of o place (x ∷ []) ≡ rows_by o place x
unfolding rows_of
one_row o place x = append-nil (rows_by o place x)

-- the same of rows of files that are all accepted
pub admit_rows-append : (o : Operations) (place : ℕ) (xs ys : List (List ℕ)) → admit_rows o place (xs ++ ys)
    ≡ admit_rows o place xs ++ admit_rows (admitted o (images_of xs)) (place + length xs) ys
unfolding admit_rows
admit_rows-append o place [] ys = ap (λ (n : ℕ). admit_rows o n ys) (omega arith)
admit_rows-append o place (x ∷ xs) ys =
    let further : place + 1 + length xs ≡ place + length (x ∷ xs) = omega arith in
    rw (admit_rows-append (admitted o (admissible x)) (place + 1) xs ys, further, admitted-append o (admissible x) (images_of xs), append_assoc) refl

-- ---- one file more

module _ {S : Type 0} (opening : S → Opening) where
  pub come_none : (came : Operations) (first_rows : List ℕ) (rows : List FileRow) → came ≡ set.empty → rows ≡ []
      → AreFirstRows (listing came) first_rows rows [] → HasCome {S = S} opening [] [] came first_rows rows
  unfolding rows_of
  come_none came first_rows rows is no_rows are_first = record { become = tt; content = is; rows_are = no_rows; are_first = are_first }

  pub come_more : (files seen : List (Reader S)) (place : ℕ) (file : Reader S) (outcomes : List Outcome) (x : Outcome) (old new : Arrivals)
      → length files ≡ place → seen ≡ files ++ file ∷ []
      → HasCome opening files outcomes old.came old.first_rows.items old.rows.items → Becomes opening file x
      → Brings old new place x
      → HasCome opening seen (outcomes ++ x ∷ []) new.came new.first_rows.items new.rows.items
  come_more files seen place file outcomes x old new place_is seen_is come is brings =
      let long : 0 + length outcomes ≡ place = omega (arith, pairs_long (Becomes opening) files outcomes come.become, place_is) in
      record {
        become = rw seen_is (pairs_more (Becomes opening) files outcomes file x come.become is);
        content = brings.came ∙ rw (come.content, flat_map-append images_by outcomes (x ∷ []), append-nil (images_by x))
            (sym (admitted-append set.empty (images_from outcomes) (images_by x)));
        rows_are = brings.rows ∙ rw (come.content, come.rows_are, rows_of-append set.empty 0 outcomes (x ∷ []), long, one_row) refl;
        are_first = rw (flat_map-append records_by outcomes (x ∷ []), append-nil (records_by x)) (brings.are_first (records_of outcomes) come.are_first);
      }

-- a file whose slices were taken
pub brings_slices : (old new : Arrivals) (index : ℕ) (bytes : List ℕ) (slices : List (Option (List ℕ))) → slices
    ≡ map slice_in (parts bytes) → new.came ≡ admitted old.came (images_in slices) → new.rows.items ≡ old.rows.items
    ++ part_rows index 0 (slice_rows old.came slices)
    → ((records : List (List ℕ)) → AreFirstRows (listing old.came) old.first_rows.items old.rows.items records
    → AreFirstRows (listing new.came) new.first_rows.items new.rows.items (records ++ map record_in slices))
    → Brings old new index (Ok bytes)
brings_slices old new index bytes slices is came rows are_first = record {
  came = came ∙ rw (is, images_sliced (parts bytes)) refl;
  rows = rows ∙ rw (is, rows_sliced old.came (parts bytes)) refl;
  are_first = λ records first. rw (← is) (are_first records first);
}

-- one that is passed over
pub brings_none : (old new : Arrivals) (index : ℕ) (why : Why) → new.came ≡ old.came → new.rows.items ≡ old.rows.items ++ PassedOver index why ∷ []
    → ((records : List (List ℕ)) → AreFirstRows (listing old.came) old.first_rows.items old.rows.items records
    → AreFirstRows (listing new.came) new.first_rows.items new.rows.items (records ++ [] ∷ []))
    → Brings old new index (Err why)
brings_none old new index why came rows are_first = record { came = came; rows = rows; are_first = are_first }

-- ---- files that are all accepted

pub all_images : (texts : List (List ℕ)) → images_from (map Ok texts) ≡ images_of texts
all_images [] = refl
all_images (t ∷ ts) = ap (λ (xs : List (List ℕ)). admissible t ++ xs) (all_images ts)

pub part_lines : (rows : List AdmitRow) → file_lines (map Part rows) ≡ admit_lines rows
unfolding file_row_text
part_lines [] = refl
part_lines (row ∷ rows) = ap (λ (ls : List ℕ). line (admit_row_text row) ++ ls) (part_lines rows)

pub all_rows : (o : Operations) (index : ℕ) (texts : List (List ℕ)) → rows_of o index (map Ok texts) ≡ map Part (admit_rows o index texts)
unfolding rows_of admit_rows
all_rows o index [] = refl
all_rows o index (t ∷ ts) =
    ap (λ (rows : List FileRow). part_rows index 0 (taken_rows o (parts t)) ++ rows) (all_rows (admitted o (admissible t)) (index + 1) ts)
    ∙ sym (map-append Part (file_rows index 0 (taken_rows o (parts t))) (admit_rows (admitted o (admissible t)) (index + 1) ts))

module _ {S : Type 0} (opening : S → Opening) where
  pub all_hold : (files : List (Reader S)) (texts : List (List ℕ)) → AllZip (Becomes opening) files (map Ok texts) → AllZip Holds files texts
  all_hold [] [] all = tt
  all_hold (file ∷ files) (text ∷ texts) all = (all.0.1, all_hold files texts all.1)
  all_hold [] (_ ∷ _) all = absurd all
  all_hold (_ ∷ _) [] all = absurd all

  pub all_taken : (files : List (Reader S)) (texts : List (List ℕ)) → AllZip (Becomes opening) files (map Ok texts) → AllByRecursion IsAcceptedFile texts
  all_taken [] [] all = tt
  all_taken (file ∷ files) (text ∷ texts) all = (all.0.0, all_taken files texts all.1)
  all_taken [] (_ ∷ _) all = absurd all
  all_taken (_ ∷ _) [] all = absurd all

  pub all_accepted : (files : List (Reader S)) (texts : List (List ℕ)) → AllZip (Becomes opening) files (map Ok texts) → AllByRecursion IsAccepted files
  all_accepted [] [] all = tt
  all_accepted (file ∷ files) (text ∷ texts) all = ((text, all.0.0, all.0.1), all_accepted files texts all.1)
  all_accepted [] (_ ∷ _) all = absurd all
  all_accepted (_ ∷ _) [] all = absurd all

  -- their notes
  pub retired_noted : {R : Type 0} (input : Reader R) (files : List (Reader S)) (texts : List (List ℕ))
      (came : Operations) (first_rows : List ℕ) (rows : List FileRow)
      → HasCome opening files (map Ok texts) came first_rows rows → (old new : List Note) → IsNoted input came old new
      → NotesRetired input files old new
  retired_noted input files texts came first_rows rows h old new noted = record {
    before = noted.before;
    texts = texts;
    is_content = noted.is_content;
    archive = noted.archive;
    files_are = all_hold files texts h.become;
    accepted = all_taken files texts h.become;
    added = noted.added ∙ ap (λ (o : Operations). old ++ retired_notes noted.before o)
        (h.content ∙ ap (λ (images : List (List ℕ)). admitted set.empty images) (all_images texts));
  }

  -- the notes of those that are
  pub retired_passing : {R : Type 0} (input : Reader R) (files : List (Reader S)) (outcomes : List Outcome)
      (came : Operations) (first_rows : List ℕ) (rows : List FileRow)
      → HasCome opening files outcomes came first_rows rows → (old new : List Note) → IsNoted input came old new
      → NotesRetiredPassing opening input files old new
  retired_passing input files outcomes came first_rows rows h old new noted = record {
    before = noted.before;
    outcomes = outcomes;
    is_content = noted.is_content;
    archive = noted.archive;
    become = h.become;
    added = noted.added ∙ ap (λ (o : Operations). old ++ retired_notes noted.before o) h.content;
  }

-- ---- what came, and then IN

module _ {R S : Type 0} (opening : S → Opening) (input : Reader R) (files : List (Reader S)) (outcomes : List Outcome)
    (came : Operations) (first_rows : List ℕ) (rows : List FileRow)
    (h : HasCome opening files outcomes came first_rows rows) where
  pub with_images : (o : Operations) → IsMade o → joined o (content_of came) ≡ admitted o (images_from outcomes)
  with_images o is = rw h.content (admitted_joined o (images_from outcomes) is)

  pub with_rows : (o : Operations) → IsMade o → lines_again rows (records_of outcomes) (changes o) ≡ file_lines (rows_of o 0 outcomes)
  with_rows o is = ap file_lines (ap (λ (rs : List FileRow). updated_rows (changes o) rs (records_of outcomes)) h.rows_are ∙ rows_over o outcomes is)

module _ {R S : Type 0} (input : Reader R) (files : List (Reader S)) (out : Out) (report : Writer) where
  pub admitted_in_turn : (opening : S → Opening) (texts : List (List ℕ)) (came : Operations) (first_rows : List ℕ)
      (rows : List FileRow) (h : HasCome opening files (map Ok texts) came first_rows rows) → EachUnfailed files
      → (result : Result Status CommandFault)
      → EndsBegun input (λ given. telling given came (lines_again rows (records_of (map Ok texts)))) out report result
      → EndsStreamed (admit_as_it_comes input files out.draft) out report result
  admitted_in_turn opening texts came first_rows rows h unfailed =
      read_behind (λ given. MakesAdmitted given files) input (IsFirstRefused File IsAccepted IsFileRefused files)
      (EachUnfailed files) (EachKnown files) (AllByRecursion IsAccepted files × EachUnfailed files)
      out report (λ given. MakesTold given came (lines_again rows (records_of (map Ok texts))))
      unfailed (all_accepted opening files texts h.become, unfailed)
      (λ o lines m. record {
        before = m.before;
        texts = texts;
        is_content = m.is_content;
        archive = m.archive;
        files_are = hold;
        accepted = accepted;
        content_is = m.content_is ∙ images m.before m.is_content.itself;
        lines_are = m.lines_are ∙ lines_of m.before m.is_content.itself;
      })
      (λ known given o lines m.
      let same = all_given (λ x text. text ≡ x) IsAcceptedFile (λ text x y _ _ h k. sym h ∙ k) files m.texts texts
      m.accepted accepted known m.files_are hold in
      record {
        before = m.before;
        is_content = m.is_content;
        archive = m.archive;
        content_is = m.content_is ∙ ap (λ (ts : List (List ℕ)). admitted m.before (images_of ts)) same ∙ sym (images m.before m.is_content.itself);
        lines_are = m.lines_are ∙ ap (λ (ts : List (List ℕ)). admit_lines (admit_rows m.before 0 ts)) same ∙ sym (lines_of m.before m.is_content.itself);
      })
    where
      hold : AllZip Holds files texts
      hold = all_hold opening files texts h.become

      accepted : AllByRecursion IsAcceptedFile texts
      accepted = all_taken opening files texts h.become

      images : (o : Operations) → IsMade o → joined o (content_of came) ≡ admitted o (images_of texts)
      images o is = with_images opening input files (map Ok texts) came first_rows rows h o is ∙ ap (λ (xs : List (List ℕ)). admitted o xs) (all_images texts)

      lines_of : (o : Operations) → IsMade o → lines_again rows (records_of (map Ok texts)) (changes o) ≡ admit_lines (admit_rows o 0 texts)
      lines_of o is = with_rows opening input files (map Ok texts) came first_rows rows h o is
          ∙ ap file_lines (all_rows o 0 texts) ∙ part_lines (admit_rows o 0 texts)
