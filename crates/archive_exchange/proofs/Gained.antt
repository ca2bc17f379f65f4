-- What a site gains are records of operations, what it holds stays a content, and what events are and issue.
use Rattle.std.proofs.Common.{◌≡◌, ℕ, true, false, List, [], ◌∷◌, map, slice_index_or, refl, sym, ap, ◌∙◌, if◌then◌else◌, arith, inl, filter, None, Some, Ok}
use Rattle.std.proofs.Common.{◌≢◌, ◌⊎◌, inr, Err, Result, OnOk, Bool, take, get_or, length, ◌<◌, slice_get, OnErr, IfErr}
use Rattle.std.specs.List.{All, AllByRecursion}
use Rattle.std.specs.Cmp.Lexicographic.{nat_list_cmp_total, slice_cmp}
use Rattle.std.specs.FinSet as set
use Rattle.std.specs.FinSet.{contains-union, contains-from_list, contains-empty}
use Rattle.std.proofs.lemmas.Map.Views.{Contains-from_any}
use Rattle.std.proofs.lemmas.List.Elements.{All-contains, All-from_recursion, All-map, recursion_from_All, All-take}
use Rattle.std.proofs.lemmas.Option.{slice_get-get_or, slice_get_read}
use Rattle.archive_core.specs.Valid.{IsValid}
use Rattle.archive_core.specs.Record.{IsRecord, admission_record, retirement_record}
use Rattle.archive_core.specs.Content.{Operations, IsContent, with_record, with_records}
use Rattle.archive_core.proofs.Made.{from_made}
use Rattle.archive_core.proofs.Taken.{made_taken}
use Rattle.archive_core.proofs.Entries.{slice_of}
use Rattle.archive_records.specs.Reader.{set_of}
use Rattle.archive_records.proofs.Contents.{same_bytes}
use Rattle.archive_exchange.specs.World as model
use Rattle.archive_exchange.specs.World.{records, rows, World}
use Rattle.archive_exchange.proofs.Content.{taken_gain}
use Rattle.archive_exchange.proofs.Kept.{either}
use Rattle.archive_image_admission.specs.File.{IsAcceptedFile, is_admissible, admissible, parts, IsTakeFault}
use Rattle.archive_image_admission.specs.Take.{admitted, taken_of, taken_rows, HoldsFirstParts}
use Rattle.archive_exchange.specs.ModelEvent.{part_record, row_told, ModelEvent, IsFile, IsSeen, AreSeen}
use Rattle.archive_exchange.specs.InnerEvents.{IsRecorded, SeenFile}
use Rattle.archive_image_admission.specs.declared.taken.Taken.TheVariants as taken
use Rattle.archive_image_admission.proofs.Files.{kept_is}
use Rattle.archive_image_admission.specs.declared.fault.TakeFault.{TakeFault}
use Rattle.archive_image_admission.specs.declared.fault.TakeFault.TheVariants.{OutOfMemory}
use Rattle.text_input_files.specs.declared.event.Event.{Event}
use Rattle.text_input_files.specs.declared.event.Event.TheVariants.{Take, Retire, Full, Ask, Reply, Deliver, Save, Stop}
use Rattle.std.proofs.lemmas.Result.{on_ok_weaker}
use Rattle.std.specs.Ordering.{nat_cmp}
use Rattle.archive_core.specs.declared.keys.SliceKey.{SliceKey}
use Rattle.archive_core.specs.declared.keys.Digest.{Digest}
use Rattle.archive_image_admission.specs.Accepted.{IsAcceptedAs}
use Rattle.archive_image_admission.specs.InnerTaking.{file_of}
use Rattle.archive_image_admission.specs.declared.checking.AcceptedFile.{AcceptedFile}
use Rattle.archive_image_admission.specs.declared.checking.AcceptedFile.TheVariants.{Thin, Universal}
use Rattle.archive_exchange.specs.SiteState.{SiteState, IsWhole, IsBetween}
use Rattle.archive_exchange.specs.WorldState.{RunState, AreSites, Represents}
use Rattle.archive_image_admission.proofs.Resumed.{above_old, below_asked}

pub records_seen : (ps : List (List ℕ)) → records (map part_record ps) ≡ map admission_record (filter is_admissible ps)
records_seen [] = refl
records_seen (part ∷ ps) = grind (arith, records_seen ps)

pub all_in : (rs : List (List ℕ)) → All IsRecord rs → (x : List ℕ) → set.contains (set_of rs) x ≡ true → IsRecord x
all_in rs all x h = All-contains IsRecord rs x all (Contains-from_any same_bytes x rs (sym (contains-from_list nat_list_cmp_total rs x) ∙ h))

-- a content that gains records is one
pub content_gain : (o : Operations) (rs : List (List ℕ)) → IsContent o
    → ((x : List ℕ) → set.contains (set_of rs) x ≡ true → IsRecord x) → IsContent (with_records o rs)
content_gain o rs is all = record {
  itself = made_taken o rs is.itself;
  records = λ x h.
      let both : set.contains (set.union o (set_of rs)) x
      ≡ true = from_made (set.union o (set_of rs)) x
      (sym (ap (λ (p : Operations). set.contains p x) (taken_gain o rs is.itself)) ∙ h) in
      either (IsRecord x) (set.contains o x) (set.contains (set_of rs) x) (is.records x) (all x)
      (sym (contains-union nat_list_cmp_total o (set_of rs) x) ∙ both);
}

-- what an accepted file and a retirement issue are records
pub recorded_take : (i : ℕ) (file : List ℕ) → IsAcceptedFile file → IsRecorded (model.Take i (Ok (map part_record (parts file))))
recorded_take i file accepted r h =
    all_in (map admission_record (admissible file))
    (All-map IsRecord admission_record (admissible file)
    (λ k d lt. inl (record {
      slice = slice_index_or (admissible file) k d;
      valid = accepted.valid k d lt;
      is =
          refl;
    })))
    r (ap (λ l. set.contains (set_of l) r) (sym (records_seen (parts file))) ∙ h)

pub recorded_retire : (i : ℕ) (r : List ℕ) → IsRecord r → IsRecorded (model.Retire i r)
recorded_retire i r is x h = all_in (r ∷ []) (All-from_recursion IsRecord (r ∷ []) (is, tt)) x h

-- what a file's rows tell
row_seen : (o : Operations) (part : List ℕ) → IsValid part → taken_of o part ≡ row_told (model.row_of o (admission_record part))
unfolding taken_of
row_seen o part valid = grind (arith, slice_of part valid)

abbrev IsFit : List ℕ → Type 0
IsFit part = is_admissible part ≡ true → IsValid part

rows_seen : (o : Operations) (ps : List (List ℕ)) → AllByRecursion IsFit ps → taken_rows o ps ≡ map row_told (rows o (map part_record ps))
unfolding taken_rows
rows_seen o [] all = refl
rows_seen o (part ∷ ps) all = elim (is_admissible part) as
    (λ b. is_admissible part ≡ b → (if b then taken_of o part ∷ taken_rows (admitted o (part ∷ [])) ps
    else taken.Skipped ∷ taken_rows o ps) ≡ map row_told
    (rows o ((if b then Some (admission_record part) else None) ∷ map part_record ps))) [
      | true ↦ λ e. ap (λ x. x ∷ taken_rows (admitted o (part ∷ [])) ps) (row_seen o part (all.0 e))
          ∙ ap (λ l. row_told (model.row_of o (admission_record part)) ∷ l) (rows_seen (with_record o (admission_record part)) ps all.1)
      | false ↦ λ _. ap (λ l. taken.Skipped ∷ l) (rows_seen o ps all.1)
    ] refl

pub rows_are : (file : List ℕ) (o : Operations) → IsAcceptedFile file → taken_rows o (parts file) ≡ map row_told (rows o (map part_record (parts file)))
rows_are file o accepted = rows_seen o (parts file) (recursion_from_All IsFit (parts file)
    (λ k d lt begins. kept_is IsValid (parts file) k (slice_index_or (parts file) k d) accepted.valid
    (slice_get-get_or (parts file) k d lt) begins))

module _ (decide : (file : List ℕ) → IsAcceptedFile file ⊎ ((f : TakeFault) × (f ≢ OutOfMemory) × IsTakeFault file f)) where
  seen_file : (file : List ℕ) → (is : SeenFile) × IsFile file is
  seen_file file = elim (decide file) [
    | inl accepted ↦ (Ok (map part_record (parts file)), (accepted, refl))
    | inr faulty ↦ (Err faulty.0, (faulty.2, faulty.1))
  ]

  event_is : (event : Event) → (seen : ModelEvent) × IsSeen event seen
  event_is (Take site file) = let f = seen_file file.items in (model.Take site f.0, (f.0, f.1, refl))
  event_is (Retire site key digest) = (model.Retire site (retirement_record key digest.0), refl)
  event_is (Full site) = (model.Full site, refl)
  event_is (Ask site) = (model.Ask site, refl)
  event_is (Reply site message) = (model.Reply site message, refl)
  event_is (Deliver site message) = (model.Deliver site message, refl)
  event_is (Save site) = (model.Save site, refl)
  event_is (Stop site) = (model.Stop site, refl)

  pub events_are : (events : List Event) → (seen : List ModelEvent) × AreSeen events seen
  events_are [] = ([], tt)
  events_are (event ∷ events) = ((event_is event).0 ∷ (events_are events).0, ((event_is event).1, (events_are events).1))

module _ (one : (file : List ℕ) (f g : TakeFault) → IsTakeFault file f → IsTakeFault file g → f ≡ g)
    (none : (file : List ℕ) (f : TakeFault) → IsAcceptedFile file → IsTakeFault file f → f ≡ OutOfMemory) where
  one_file : (file : List ℕ) (a b : SeenFile) → IsFile file a → IsFile file b → a ≡ b
  one_file file (Ok a) (Ok b) p q = ap (λ x. Ok x) (p.1 ∙ sym q.1)
  one_file file (Ok a) (Err g) p q = absurd (q.1 (none file g p.0 q.0))
  one_file file (Err f) (Ok b) p q = absurd (p.1 (none file f q.0 p.0))
  one_file file (Err f) (Err g) p q = ap (λ x. Err x) (one file f g p.0 q.0)

  one_event : (event : Event) (a b : ModelEvent) → IsSeen event a → IsSeen event b → a ≡ b
  one_event (Take site file) a b p q = p.2 ∙ ap (λ (f : SeenFile). model.Take site f) (one_file file.items p.0 q.0 p.1 q.1) ∙ sym q.2
  one_event event a b p q = p ∙ sym q

  pub one_list : (events : List Event) (a b : List ModelEvent) → AreSeen events a → AreSeen events b → a ≡ b
  one_list [] [] [] p q = refl
  one_list [] (x ∷ a) b p q = absurd p
  one_list (event ∷ events) [] b p q = absurd p
  one_list (event ∷ events) (x ∷ a) (y ∷ b) p q = ap (λ z. z ∷ a) (one_event event x y p.0 q.0) ∙ ap (λ l. y ∷ l) (one_list events a b p.1 q.1)
  one_list events a b p q = absurd q

none_recorded : (r : List ℕ) → set.contains (set.empty {R = slice_cmp nat_cmp}) r ≡ true → IsRecord r
none_recorded r h = cc (contains-empty (slice_cmp nat_cmp) r)

file_recorded : (i : ℕ) (bytes : List ℕ) (is : SeenFile) → IsFile bytes is → IsRecorded (model.Take i is)
file_recorded i bytes (Err f) h = none_recorded
file_recorded i bytes (Ok given) h = rw h.1 (recorded_take i bytes h.0)

-- a retirement alone needs to be told to be one
pub recorded_by : (event : Event) (seen : ModelEvent) → ((site : ℕ) (key : SliceKey) (digest : Digest) → event
    ≡ Retire site key digest → IsRecord (retirement_record key digest.0)) → IsSeen event seen → IsRecorded seen
recorded_by (Take site bytes) seen is h = rw h.2 (file_recorded site bytes.items h.0 h.1)
recorded_by (Retire site key digest) seen is h = rw h (recorded_retire site (retirement_record key digest.0) (is site key digest refl))
recorded_by event seen is h = rw h none_recorded

pub on_ok : {T E : Type 0} (P : Type 0) (r : Result T E) → P → OnOk r P
on_ok P (Ok x) p = p
on_ok P (Err e) p = tt

pub retire_ok : {T E : Type 0} (event : Event) (site : ℕ) (key : SliceKey) (digest : Digest) (r : Result T E) → event
    ≡ Retire site key digest → OnOk r ((i : ℕ) → IsRecorded (model.Retire i (retirement_record key digest.0)))
    → OnOk r ((seen : ModelEvent) → IsSeen event seen → IsRecorded seen)
retire_ok event site key digest r e = on_ok_weaker r (λ all seen h. rw (rw e at h) (all site))

-- a record more
pub content_taken : {E : Type 0} (r : Result Bool E) (old new : Operations) (x : List ℕ) → IsContent old → IsRecord x
    → OnOk r (new ≡ with_record old x) → OnErr r (new ≡ old) → IsContent new
content_taken (Ok b) old new x is recorded taken kept = rw taken (content_gain old (x ∷ []) is (recorded_retire 0 x recorded))
content_taken (Err e) old new x is recorded taken kept = rw kept is

-- images more
content_admitted : (o : Operations) (images : List (List ℕ)) → IsContent o → All IsValid images → IsContent (admitted o images)
content_admitted o images is valid =
    content_gain o (map admission_record images) is
    (all_in (map admission_record images)
    (All-map IsRecord admission_record images (λ k d lt. inl (record { slice = slice_index_or images k d; valid = valid k d lt; is = refl }))))

-- what a file was accepted as is of its bytes
pub file_is : (file : List ℕ) (a : AcceptedFile) → IsAcceptedAs file a → file_of a ≡ file
file_is file (Thin slice) is = is.1
file_is file (Universal universal found) is = is.1

pub content_of_file : (file : List ℕ) (a : AcceptedFile) (o new : Operations) → IsContent o → IsAcceptedFile file
    → IsAcceptedAs file a → new ≡ admitted o (admissible (file_of a)) → IsContent new
content_of_file file a o new is accepted as_is all =
    rw (rw (file_is file a as_is) at all) (content_admitted o (admissible file) is accepted.valid)

-- where it was taken in part
pub between_parts : (file : List ℕ) (a : AcceptedFile) (o mid : Operations) → IsContent o → IsAcceptedFile file
    → IsAcceptedAs file a → HoldsFirstParts (file_of a) o mid → IsBetween o mid (admitted o (admissible file))
between_parts file a o mid is accepted as_is first =
    let part : HoldsFirstParts file o mid = rw (file_is file a as_is) at first in
    record {
      content = rw part.content (content_admitted o (take part.count (admissible file)) is (All-take IsValid part.count (admissible file) accepted.valid));
      above_old = above_old file o mid part;
      below_new = below_asked file o mid part;
    }

-- whatever the fault
pub if_err : {T E : Type 0} (P : E → Type 0) (r : Result T E) → ((e : E) → P e) → IfErr r P
if_err P (Ok x) all = tt
if_err P (Err e) all = all e

-- the sites of a rehearsal
pub shown_whole : (sites : List SiteState) (texts : List (List ℕ)) (w : World) → Represents sites texts w
    → (i : ℕ) (site : SiteState) → slice_get sites i ≡ Some site → IsWhole site
shown_whole sites texts w sh i site at =
    let is = sh.each i site at in
    record {
      held = rw is.held (sh.held i);
      saved = (w.saved i, record { content = sh.saved i; is = is.saved });
    }

pub read_whole : (sites : List SiteState) (texts : List (List ℕ)) (state : RunState) (i : ℕ) (site : SiteState)
    → AreSites sites → record { sites = sites; messages = texts } ≡ state → i < length state.sites → site
    ≡ get_or sites i site → IsWhole site
read_whole sites texts state i site are view lt is =
    are.whole i site (slice_get_read sites (length sites) i site refl (rw (← view) at lt) is)
