-- From the bytes that were read to the whole input.
use Rattle.std.proofs.Common.{◌≡◌, ◌≢◌, ℕ, ◌<◌, ◌≤◌, ◌^◌, true, List, [], ◌∷◌, ◌++◌, length, Option, Some, None, Err}
use Rattle.std.proofs.Common.{refl, sym, ap, ◌∙◌, subst, arith, inl, inr, ◌⊎◌, append_assoc, length-append}
use Rattle.std.proofs.lemmas.List.{append-nil, take-append-le}
use Rattle.std.specs.Prelude.{IfSome, All, map, take}
use Rattle.std.proofs.lemmas.Option.{IfSome_then}
use Rattle.std.specs.List.{concat}
use Rattle.std.specs.Io.KnownBytes.{Consumes, IsAtEnd}
use Rattle.std.specs.Cmp.Lexicographic.{nat_list_cmp_total, slice_cmp}
use Rattle.std.specs.FinSet as set
use Rattle.join_core.specs.Listing.{listing}
use Rattle.join_core.proofs.Place.{len_listed}
use Rattle.archive_core.specs.declared.operations.Operation.{Operation}
use Rattle.archive_core.specs.Record.{IsOperation, record_bytes}
use Rattle.archive_core.specs.Content.{Operations, IsContent, content_of}
use Rattle.archive_core.specs.Summary.{Entries}
use Rattle.archive_core.proofs.Made.{bytes_same}
use Rattle.archive_records.specs.Entry.{AreEntries}
use Rattle.archive_records.specs.declared.fault.RecordFaultKind.{RecordFaultKind}
use Rattle.archive_records.specs.declared.fault.RecordFaultKind.TheVariants.{BadMagic, Truncated, Trailing, Device, OutOfMemory}
use Rattle.archive_records.specs.declared.fault.RecordFault.{RecordFault}
use Rattle.archive_records.specs.Kind.{magic_of, kind_of, archive_format, format_for}
use Rattle.archive_records.specs.Text.{ending, text_of, InOrder, AreApart, last_of, kept, taken_of, IsArchiveOf, summary_text, IsOperationsText}
use Rattle.archive_records.specs.Fault.{is_end, FailsBehind, Fails, IsMagicFault, IsFaultAfter, IsUnended}
use Rattle.archive_records.specs.Fault.{IsOperationsFault, IsSummaryFault, IsFaultOf, IsCutAtMost, IsOfText}
use Rattle.archive_records.specs.Front.{IsGoodFront, IsLongestFront, IsFrontLength, IsLongestLength, front_length}
use Rattle.archive_records.specs.Reading.{Blames, DecidesNoFault, HoldsOfTaken, IsMeaning, IsOfMachine, IsReadFront}
use Rattle.archive_records.specs.Reading.{IsReadWhole, IsRefused, IsTextOf, Meaning, ReadsFront, ReadsWhole}
use Rattle.archive_records.specs.Reader.{seen_as, StopsInMagic, Stops, Stopped, HasStopped, IsGathered}
use Rattle.archive_records.proofs.Grown.{Fails-grows, IsTrailing-grows}
use Rattle.archive_records.proofs.Longest.{Goes, end-stops, is_longest}
use Rattle.archive_records.proofs.Puts.{length_written}
use Rattle.archive_records.proofs.Ends.{end-is_end}
use Rattle.archive_records.proofs.Contents.{sorted-InOrder, sorted-entries, InOrder-entries, AreEntries-entries}
use Rattle.archive_records.proofs.Contents.{summary_text_is, summary_text-entries, content_is as set_is}
use Rattle.archive_records.proofs.FaultKinds.{as_itself}
use Rattle.archive_records.proofs.Undecided.{no_machine}
use Rattle.archive_records.proofs.OperationRecords.{InOrder-operations, IsOperationsText-text, text_is, one_list}
use Rattle.archive_records.proofs.Exact.{fails_stop, no_magic_fault, no_fault, no_fault_behind, one_text}
use Rattle.archive_records.proofs.Formats.{in_order_old, format_read, kind_read, summary_form}
use Rattle.archive_records.proofs.Versions.{Formed, formed, formed_content, formed_text, formed_format, no_operations}
use Rattle.archive_records.proofs.Versions.{one_front, kept_set, kept_records, kept_long}
use Rattle.archive_records.specs.declared.kind.TextKind.{TextKind}
use Rattle.archive_records.specs.declared.kind.TextKind.TheVariants.{Archive as Archive_text, Operations as Operations_text, Summary as Summary_text}
use Rattle.std.specs.Ordering.{nat_cmp}
use Rattle.archive_records.specs.declared.format.Format.{Format}
use Rattle.archive_records.specs.declared.format.Format.TheVariants.{Archive, OldArchive, Operations as Operations_file, Summary as Summary_file}

-- the text of such a file was read, and those of its records or entries that are taken make the set
abbrev pub IsReadTo : TextKind → Option (List ℕ) → Option (List ℕ) → Operations → Type 0
IsReadTo file a b o = IsGathered file (λ (records : List (List ℕ)) (made : Operations). made ≡ set.from_list records) a b o

-- The text of these operations was read, to the end of the input.
pub record AreRead (a b : Option (List ℕ)) (operations : List Operation) : Type 0 where
  pub few : length operations < 2 ^ 63
  pub taken : Consumes a b (text_of Operations_file (map record_bytes operations))
  pub at_end : IsAtEnd b
  pub are : All IsOperation operations

of_text : (kind : RecordFaultKind) → IsOfText kind ⊎ ((kind ≡ Device) ⊎ (kind ≡ OutOfMemory))
of_text kind = grind arith

part_or_not : (kind : RecordFaultKind) → (kind ≡ Truncated) ⊎ (kind ≢ Truncated)
part_or_not kind = grind arith

-- what holds of each text that an input may be holds of the input
of_input : (Is : Option (List ℕ) → Type 0) {P : List ℕ → Type 0} (a : Option (List ℕ)) → Is a → ((t : List ℕ) → Is (Some t) → P t) → IfSome a P
of_input Is None is f = tt
of_input Is (Some t) is f = f t is

-- ---- the text of an archive that was read

-- what was read is a text of the content
read_form : (a b : Option (List ℕ)) (o : Operations) (r : IsReadTo Archive_text a b o) → Formed o (text_of r.format r.records)
read_form a b o r = record {
  format = r.format;
  archive = r.kind_is;
  records = r.records;
  ordered = r.ordered;
  apart =
      r.apart;
  whole = refl;
  content = r.makes;
}

pub IsReadTo-taken : (a b : Option (List ℕ)) (o : Operations) → IsReadTo Archive_text a b o → (text : List ℕ) × IsArchiveOf o text × Consumes a b text
IsReadTo-taken a b o r = (text_of r.format r.records, formed_text o (text_of r.format r.records) (read_form a b o r), r.taken)

pub IsReadTo-content : (a b : Option (List ℕ)) (o : Operations) → IsReadTo Archive_text a b o → IsContent o
IsReadTo-content a b o r = formed_content o (text_of r.format r.records) (read_form a b o r)

few_in : (f : Format) → kind_of f ≡ Archive_text → (xs : List (List ℕ)) → InOrder f [] xs
    → set.len (set.from_list {R = slice_cmp nat_cmp} (taken_of f xs)) ≤ length xs
few_in Archive is xs a =
    let long : set.len (set.from_list {R = slice_cmp nat_cmp} xs) ≡ length xs = len_listed nat_list_cmp_total bytes_same xs (sorted-InOrder [] xs a).1 in
    omega arith
few_in OldArchive is xs a =
    let b = in_order_old [] xs a in
    let kept_few : length (kept xs) ≤ length xs = kept_long xs in
    let long : set.len (set.from_list {R = slice_cmp nat_cmp} (kept xs)) ≡ length (kept xs) = ap set.len (kept_set xs b)
    ∙ sym (length_written (content_of (set.from_list xs))) ∙ ap length (kept_records xs b) in
    omega arith
few_in _ is xs a = absurd (cc is)

pub IsReadTo-few : (a b : Option (List ℕ)) (o : Operations) → IsReadTo Archive_text a b o → set.len o < 2 ^ 63
IsReadTo-few a b o r =
    let few = r.few in
    let long : set.len o ≤ length r.records = subst (λ (c : Operations). set.len c ≤ length r.records) (sym r.makes)
    (few_in r.format r.kind_is r.records r.ordered) in
    omega arith

pub all_taken : (a b : Option (List ℕ)) (text : List ℕ) → Consumes a b text → IsAtEnd b → IfSome a (λ t. t ≡ text)
all_taken None b text k end = tt
all_taken (Some t) None text k end = absurd k
all_taken (Some t) (Some ys) text k end = k ∙ ap (λ (y : List ℕ). text ++ y) end ∙ append-nil text

pub IsReadTo-text : (a b : Option (List ℕ)) (o : Operations) → IsReadTo Archive_text a b o → IsAtEnd b → IfSome a (λ t. IsArchiveOf o t)
IsReadTo-text a b o r end =
    let taken = IsReadTo-taken a b o r in
    IfSome_then a (all_taken a b taken.0 taken.2 end) (λ t is. subst (λ (x : List ℕ). IsArchiveOf o x) (sym is) taken.1)

-- ---- a fault that was found

unended_grows : (file : Format) (rest more : List ℕ) → IsUnended file rest → IsUnended file (rest ++ more)
unended_grows Operations_file [] more u = absurd (u refl)
unended_grows Operations_file (x ∷ rest) more u = λ e. cc
unended_grows _ rest more u = tt

covered_grows : (file : Format) (records : List (List ℕ)) (rest more : List ℕ) (kind : RecordFaultKind)
    → FailsBehind file records rest kind → FailsBehind file records (rest ++ more) kind
covered_grows Archive records rest more kind f = (
  f.0,
  record {
    item = f.1.item;
    more = f.1.more ++ more;
    whole = ap (λ (x : List ℕ). x ++ more) f.1.whole ∙ append_assoc f.1.item f.1.more more;
    is = f.1.is;
    above = f.1.above;
    covered = f.1.covered;
  },
)
covered_grows _ records rest more kind f = f

-- reading stopped in this format
abbrev pub HasStoppedIn : Format → Option (List ℕ) → Option (List ℕ) → RecordFault → Type 0
HasStoppedIn file a b fault =
    ((bytes : List ℕ) × Consumes a b bytes × StopsInMagic file bytes fault.kind × (fault.offset ≡ 0))
    ⊎ ((records : List (List ℕ)) × Stopped file a b records fault)

module _ (file : Format) where
  fails_grow : (records : List (List ℕ)) (rest more : List ℕ) (kind : RecordFaultKind) → kind ≢ Truncated
      → Fails file records rest kind → Fails file records (rest ++ more) kind
  fails_grow records rest more kind p (inl f) = inl (Fails-grows file (last_of [] records) (length records) rest more kind p f)
  fails_grow records rest more kind p (inr f) = inr (covered_grows file records rest more kind f)

  pub magic_stop : (bytes : List ℕ) (kind : RecordFaultKind) → IsOfText kind → StopsInMagic file bytes kind → IsMagicFault file bytes kind
  magic_stop bytes kind known (inl m) = m
  magic_stop bytes kind known (inr (inl d)) = absurd (known.0 d.0)
  magic_stop bytes kind known (inr (inr d)) = absurd (known.1 d.0)

  pub record_stop : (records : List (List ℕ)) (rest : List ℕ) (fault : RecordFault) → IsOfText fault.kind
      → Stops file records rest fault → IsFaultAfter file records rest fault
  record_stop records rest fault known (inl f) = inl (rw (as_itself fault.kind known) at (f.1 known.1), f.0)
  record_stop records rest fault known (inr (inl t)) = inr t
  record_stop records rest fault known (inr (inr d)) = absurd (known.0 d.0)

  -- a fault of the text, after fewer records than are too many
  abbrev FewFault : List ℕ → RecordFault → Type 0
  FewFault t fault =
      (IsMagicFault file t fault.kind × (fault.offset ≡ 0))
      ⊎ ((records : List (List ℕ)) × (front : IsGoodFront file t records) × (length records < 2 ^ 63)
      × IsUnended file front.rest × IsFaultAfter file records front.rest fault)

  pub grown_magic : (t bytes more : List ℕ) (kind : RecordFaultKind) → t ≡ bytes ++ more
      → (kind ≡ Truncated → more ≡ []) → IsMagicFault file bytes kind → IsMagicFault file t kind
  grown_magic t bytes more BadMagic e end b =
      (b.0, b.1, omega (arith, ap length e, length-append bytes more, b.2), λ same. b.3 (sym (ap (take b.0) e ∙ take-append-le b.0 bytes more b.2) ∙ same))
  grown_magic t bytes more Truncated e end b = subst (λ (x : List ℕ). IsMagicFault file x Truncated)
      (sym (e ∙ ap (λ (y : List ℕ). bytes ++ y) (end refl) ∙ append-nil bytes)) b
  grown_magic t bytes more _ e end b = b

  pub grown_behind : (records : List (List ℕ)) (rest more : List ℕ) (fault : RecordFault)
      → (fault.kind ≡ Truncated → more ≡ []) → IsFaultAfter file records rest fault
      → IsFaultAfter file records (rest ++ more) fault
  grown_behind records rest more fault end f =
      elim (part_or_not fault.kind) [
        | inl p ↦ subst (λ (b : List ℕ). IsFaultAfter file records b fault) (sym (ap (λ (y : List ℕ). rest ++ y) (end p) ∙ append-nil rest)) f
        | inr p ↦ elim f [
          | inl g ↦ inl (fails_grow records rest more fault.kind p g.0, g.1)
          | inr g ↦ inr (g.0, IsTrailing-grows file (last_of [] records) (length records) rest more g.1, g.2)
        ]
      ]

  stopped_few : (t : List ℕ) (b : Option (List ℕ)) (fault : RecordFault) → HasStoppedIn file (Some t) b fault
      → (fault.kind ≡ Truncated → IsAtEnd b) → IsOfText fault.kind → FewFault t fault
  stopped_few t None fault (inl m) ended known = absurd m.1
  stopped_few t (Some ys) fault (inl m) ended known = inl (grown_magic t m.0 ys fault.kind m.1 ended (magic_stop m.0 fault.kind known m.2), m.3)
  stopped_few t None fault (inr s) ended known = absurd s.1.taken
  stopped_few t (Some ys) fault (inr s) ended known =
      let records = s.0 in
      let rest = s.1.rest in
      let whole : t ≡ magic_of file ++ (concat records ++ (rest ++ ys)) = s.1.taken
      ∙ append_assoc (magic_of file) (concat records ++ rest) ys
      ∙ ap (λ (x : List ℕ). magic_of file ++ x) (append_assoc (concat records) rest ys) in
      inr (
        records,
        record { ordered = s.1.ordered; apart = s.1.apart; rest = rest ++ ys; whole = whole },
        s.1.few,
        unended_grows file rest ys (s.1.unended known),
        grown_behind records rest ys fault ended (record_stop records rest fault known s.1.stops),
      )

  -- the fault is that of the whole input
  pub fault_in : (t : List ℕ) (b : Option (List ℕ)) (fault : RecordFault) → HasStoppedIn file (Some t) b fault
      → (fault.kind ≡ Truncated → IsAtEnd b) → IsOfText fault.kind → IsFaultOf file t fault
  fault_in t b fault s ended known = elim (stopped_few t b fault s ended known) [ inl m ↦ inl m | inr f ↦ inr (f.0, f.1, f.3, f.4) ]

  -- a text is refused by the machine alone
  pub machine_alone : (t : List ℕ) (b : Option (List ℕ)) (xs : List (List ℕ)) (more : List ℕ) (fault : RecordFault)
      → HasStoppedIn file (Some t) b fault → (fault.kind ≡ Truncated → IsAtEnd b) → InOrder file [] xs
      → AreApart file xs → t ≡ text_of file xs ++ more
      → (file ≡ Operations_file → more ≡ []) → (fault.kind ≡ Trailing → more ≡ []) → (fault.kind ≡ Device) ⊎ (fault.kind ≡ OutOfMemory)
  machine_alone t b xs more fault s ended ordered apart e alone all =
      elim (of_text fault.kind) [
        | inl known ↦ elim (stopped_few t b fault s ended known) [
          | inl m ↦ absurd (no_magic_fault file t ((concat xs ++ ending file (length xs)) ++ more) fault.kind
              (e ∙ append_assoc (magic_of file) (concat xs ++ ending file (length xs)) more) m.0)
          | inr f ↦ let few = f.2 in absurd (no_fault_behind file t xs more ordered apart e alone f.0 f.1 fault (λ _ same. omega arith) all f.3 f.4)
        ]
        | inr machine ↦ machine
      ]

  -- ---- a device that failed, and want of memory

  machine_magic : (bytes : List ℕ) (kind : RecordFaultKind) → IsOfMachine kind → StopsInMagic file bytes kind → length bytes < 8
  machine_magic bytes kind machine (inl m) = elim machine
      [ inl e ↦ absurd (subst (IsMagicFault file bytes) e m) | inr e ↦ absurd (subst (IsMagicFault file bytes) e m) ]
  machine_magic bytes kind machine (inr (inl d)) = d.1
  machine_magic bytes kind machine (inr (inr d)) = d.1

  device_stops : (records : List (List ℕ)) (rest : List ℕ) (fault : RecordFault) → fault.kind ≡ Device
      → Stops file records rest fault → Goes file records rest → ⊥
  device_stops records rest fault e (inl f) g = fails_stop file records rest (seen_as fault.kind) (f.1 (λ memory. cc)) g
  device_stops records rest fault e (inr (inl t)) g = end-stops file (last_of [] records) rest t.1.end g.next
  device_stops records rest fault e (inr (inr d)) g = end-stops file (last_of [] records) rest
      (subst (λ (x : List ℕ). is_end x ≡ true) (sym d.1) (end-is_end (length records))) g.next

  machine_offset : (records : List (List ℕ)) (rest : List ℕ) (fault : RecordFault) → IsOfMachine fault.kind
      → Stops file records rest fault → fault.offset ≡ front_length records
  machine_offset records rest fault machine (inl f) = f.0
  machine_offset records rest fault machine (inr (inl t)) = absurd (no_machine (subst IsOfMachine t.0 machine))
  machine_offset records rest fault machine (inr (inr d)) = d.2

  abbrev good_front : (a b : Option (List ℕ)) (records : List (List ℕ)) (fault : RecordFault)
      (s : Stopped file a b records fault) → IsGoodFront file (magic_of file ++ (concat records ++ s.rest)) records
  good_front a b records fault s = record { ordered = s.ordered; apart = s.apart; rest = s.rest; whole = refl }

-- ---- a kind of file, of which the first bytes tell the format

module _ (kind : TextKind) where
  -- the format in which reading stopped is that of the whole input
  pub stopped_in : (t : List ℕ) (b : Option (List ℕ)) (fault : RecordFault) → HasStopped kind (Some t) b fault
      → HasStoppedIn (format_for kind t) (Some t) b fault
  stopped_in t b fault (inl m) = inl (m.0, m.1, m.2 (format_for kind t) (kind_read kind t), m.3)
  stopped_in t None fault (inr s) = absurd s.3.taken
  stopped_in t (Some ys) fault (inr s) =
      let format = s.0 in
      let same : format_for kind t ≡ format = format_read kind format s.1 t ((concat s.2 ++ s.3.rest) ++ ys)
      (s.3.taken ∙ append_assoc (magic_of format) (concat s.2 ++ s.3.rest) ys) in
      inr (s.2, subst (λ (f : Format). Stopped f (Some t) (Some ys) s.2 fault) (sym same) s.3)

  -- where the machine stopped it: what holds of fewer bytes than the magic has, and after good fronts
  taken_by : (P : List ℕ → Type 0) (a b : Option (List ℕ)) (fault : RecordFault) → ((bytes : List ℕ) → length bytes < 8 → fault.offset ≡ 0 → P bytes)
      → ((file : Format) (records : List (List ℕ)) (s : Stopped file a b records fault)
      → format_for kind (magic_of file ++ (concat records ++ s.rest)) ≡ file
      → P (magic_of file ++ (concat records ++ s.rest)))
      → IsOfMachine fault.kind → HasStopped kind a b fault → HoldsOfTaken P a b
  taken_by P a b fault few behind machine (inl m) = (
    m.0,
    m.1,
    few m.0 (machine_magic (format_for kind m.0) m.0 fault.kind machine
        (m.2 (format_for kind m.0) (kind_read kind m.0))) m.3,
  )
  taken_by P a b fault few behind machine (inr (file, is, records, s)) = (
    magic_of file ++ (concat records ++ s.rest),
    s.taken,
    behind file records s (format_read kind file is (magic_of file ++ (concat records ++ s.rest))
        (concat records ++ s.rest) refl),
  )

  pub is_refused : {R : Type 0} (left : R → Option (List ℕ)) (failures : R → ℕ) (old new : R) (fault : RecordFault)
      → HasStopped kind (left old) (left new) fault → Blames left failures old new fault.kind
      → IsRefused kind left failures old new fault
  is_refused left failures old new fault stopped blames = record {
    blames = blames;
    faulty = λ known. of_input (λ x. HasStopped kind x (left new) fault) (left old) stopped
        (λ t s. fault_in (format_for kind t) t (left new) fault (stopped_in t (left new) fault s) blames.2 known);
    device = λ device. taken_by (λ bytes. IsLongestLength kind bytes fault.offset) (left old) (left new) fault
        (λ bytes few start. inl (few, start)) (λ file records s same.
        let front = good_front file (left old) (left new) records fault s in
        let bytes : List ℕ = magic_of file ++ (concat records ++ s.rest) in
        let longest : IsLongestFront file bytes records = is_longest file bytes records front (device_stops file records s.rest fault device s.stops) in
        inr (
          records,
          subst (λ (f : Format). IsLongestFront f bytes records) (sym same) longest,
          machine_offset file records s.rest fault (inl device) s.stops,
        )) (inl device) stopped;
    memory = λ memory. taken_by (λ bytes. IsFrontLength kind bytes fault.offset) (left old) (left new) fault
        (λ bytes few start. inl (few, start)) (λ file records s same.
        inr (
          records,
          subst (λ (f : Format). IsGoodFront f (magic_of file ++ (concat records ++ s.rest)) records)
              (sym same) (good_front file (left old) (left new) records fault s),
          machine_offset file records s.rest fault (inr memory) s.stops,
        )) (inr memory) stopped;
    undecided = λ machine. taken_by (DecidesNoFault kind) (left old) (left new) fault (λ bytes few start. inl few) (λ file records s same.
        inr (subst (λ (f : Format). IsCutAtMost f (magic_of file ++ (concat records ++ s.rest))) (sym same) (s.undecided machine))) machine stopped;
  }

-- ---- an archive that is read

-- the rest that is left after an archive's text
front_alone : (t : List ℕ) (b : Option (List ℕ)) (o p : Operations) (text rest : List ℕ)
    → IsReadTo Archive_text (Some t) b o → IsContent p → IsArchiveOf p text → t ≡ text ++ rest → (o ≡ p)
    × (b ≡ Some rest)
front_alone t None o p text rest h content form is = absurd h.taken
front_alone t (Some ys) o p text rest h content form is =
    let same = one_front t o p (text_of h.format h.records) text ys rest (read_form (Some t) (Some ys) o h) (formed p text content form) h.taken is in
    (same.0, ap (λ (y : List ℕ). Some y) same.1)

front_machine : (t : List ℕ) (b : Option (List ℕ)) (fault : RecordFault) (p : Operations) (text rest : List ℕ)
    → HasStopped Archive_text (Some t) b fault → (fault.kind ≡ Truncated → IsAtEnd b)
    → (fault.kind ≡ Trailing → rest ≡ []) → IsContent p → IsArchiveOf p text → t ≡ text ++ rest
    → IsOfMachine fault.kind
front_machine t b fault p text rest stopped ended all content is e =
    let f = formed p text content is in
    let same : archive_format t ≡ f.format = formed_format p text f t rest e in
    let there : HasStoppedIn f.format (Some t) b fault =
    subst (λ (k : Format). HasStoppedIn k (Some t) b fault) same (stopped_in Archive_text t b fault stopped) in
    machine_alone f.format t b f.records rest fault there ended f.ordered f.apart
    (e ∙ ap (λ (x : List ℕ). x ++ rest) f.whole) (λ h. absurd (no_operations f.format f.archive h)) all

pub front_read : {R : Type 0} (o : Operations) (left : R → Option (List ℕ)) (failures : R → ℕ) (old new : R)
    → IsReadTo Archive_text (left old) (left new) o → failures new ≡ failures old
    → IsReadFront Archive_text o left failures old new
front_read o left failures old new h unfailed = record {
  is = IsReadTo-content (left old) (left new) o h;
  few = IsReadTo-few (left old) (left new) o h;
  taken = IsReadTo-taken (left old) (left new) o h;
  alone = of_input (λ x. IsReadTo Archive_text x (left new) o) (left old) h
      (λ t r p text rest content is input. front_alone t (left new) o p text rest r content is input);
  unfailed = unfailed;
}

pub front_refused : {R X : Type 0} (content : X → Operations) (left : R → Option (List ℕ)) (failures : R → ℕ)
    (old new : R) (fault : RecordFault) → HasStopped Archive_text (left old) (left new) fault → fault.kind ≢ Trailing
    → Blames left failures old new fault.kind
    → ReadsFront Archive_text content left failures old new (Err fault)
front_refused content left failures old new fault stopped other blames = (
  is_refused Archive_text left failures old new fault stopped blames,
  other,
  of_input (λ x. HasStopped Archive_text x (left new) fault) (left old) stopped (λ t s p text rest content is input.
      front_machine t (left new) fault p text rest s blames.2 (λ trailing. absurd (other trailing)) content is input),
)

-- ---- operations that are read

-- a text is that of one list
pub one_operations : (t : List ℕ) (xs ys : List Operation) → IsOperationsText t xs → IsOperationsText t ys → xs ≡ ys
one_operations t xs ys p q =
    one_list xs ys p.are q.are (one_text Operations_file t (map record_bytes xs) (map record_bytes ys)
    (InOrder-operations [] xs p.are) tt (InOrder-operations [] ys q.are) tt (text_is t xs p) (text_is t ys q))

operations_text : (a b : Option (List ℕ)) (xs : List Operation) → AreRead a b xs → IfSome a (λ t. IsOperationsText t xs)
operations_text a b xs h = IfSome_then a (all_taken a b (text_of Operations_file (map record_bytes xs)) h.taken
    h.at_end) (λ t is. IsOperationsText-text t xs h.are is)

-- and it has no fault: after it nothing is left
pub operations_no_fault : (t : List ℕ) (xs : List Operation) (fault : RecordFault) → IsOperationsText t xs → IsOperationsFault t fault → ⊥
operations_no_fault t xs fault p (inl m) = no_magic_fault Operations_file t (concat (map record_bytes xs)) fault.kind p.whole m.0
operations_no_fault t xs fault p (inr f) =
    let nil = append-nil (text_of Operations_file (map record_bytes xs)) in
    no_fault_behind Operations_file t (map record_bytes xs) [] (InOrder-operations [] xs p.are) tt
    (text_is t xs p ∙ sym nil) (λ _. refl) f.0 f.1 fault (λ counts. absurd (counts refl)) (λ _. refl) f.2 f.3

-- ---- a summary that is read

pub summary_read : (a b : Option (List ℕ)) (s : Entries) → (r : IsReadTo Summary_text a b s)
    → InOrder Summary_file [] r.records × (s ≡ set.from_list r.records) × Consumes a b (text_of Summary_file r.records)
summary_read a b s r =
    let is = summary_form r.format r.kind_is in (
      subst (λ (f : Format). InOrder f [] r.records) is r.ordered,
      r.makes ∙ ap (λ (f : Format). set.from_list (taken_of f r.records)) is,
      subst (λ (f : Format). Consumes a b (text_of f r.records)) is r.taken,
    )

IsReadTo-summary : (a b : Option (List ℕ)) (s : Entries) → IsReadTo Summary_text a b s → Consumes a b (summary_text s)
IsReadTo-summary a b s r =
    let m = summary_read a b s r in
    subst (Consumes a b) (sym (ap summary_text m.1 ∙ summary_text-entries r.records m.0)) m.2

IsReadTo-entries : (a b : Option (List ℕ)) (s : Entries) → IsReadTo Summary_text a b s → AreEntries s
IsReadTo-entries a b s r =
    let m = summary_read a b s r in
    subst AreEntries (sym m.1) (AreEntries-entries r.records m.0)

IsReadTo-few_entries : (a b : Option (List ℕ)) (s : Entries) → IsReadTo Summary_text a b s → set.len s < 2 ^ 63
IsReadTo-few_entries a b s r =
    let m = summary_read a b s r in
    let few = r.few in
    let long : set.len s ≡ length r.records = ap set.len m.1 ∙ len_listed nat_list_cmp_total bytes_same r.records (sorted-entries [] r.records m.0).1 in
    omega arith

-- a text is that of one summary
pub one_summary : (s t : Entries) → AreEntries s → AreEntries t → summary_text s ≡ summary_text t → s ≡ t
one_summary s t p q e =
    set_is s
    ∙ ap set.from_list (one_text Summary_file (summary_text t) (listing s) (listing t) (InOrder-entries s p) tt
    (InOrder-entries t q) tt (sym e ∙ summary_text_is s) (summary_text_is t))
    ∙ sym (set_is t)

-- and it has no fault
pub summary_no_fault : (s : Entries) (fault : RecordFault) → AreEntries s → set.len s < 2 ^ 64 → IsSummaryFault (summary_text s) fault → ⊥
summary_no_fault s fault are few f = no_fault Summary_file (summary_text s) (listing s) (InOrder-entries s are) tt
    (summary_text_is s) fault (omega (arith, length_written s)) f

-- ---- the whole input

-- a text of this kind was read, and says this
abbrev pub IsReadAs : (file : TextKind) → Option (List ℕ) → Option (List ℕ) → Meaning file → Type 0
IsReadAs Archive_text a b o = IsReadTo Archive_text a b o
IsReadAs Operations_text a b operations = AreRead a b operations
IsReadAs Summary_text a b s = IsReadTo Summary_text a b s

pub read_whole : {R : Type 0} (file : TextKind) (m : Meaning file) (left : R → Option (List ℕ)) (failures : R → ℕ)
    (old new : R) → IsReadAs file (left old) (left new) m → IsAtEnd (left new) → failures new ≡ failures old
    → IsReadWhole file m left failures old new
read_whole Archive_text o left failures old new h end unfailed = record {
  is = IsReadTo-content (left old) (left new) o h;
  few = IsReadTo-few (left old) (left new) o h;
  text = IsReadTo-text (left old) (left new) o h end;
  alone = of_input (λ x. IsReadTo Archive_text x (left new) o) (left old) h
      (λ t r p content is. (front_alone t (left new) o p t [] r content is (sym (append-nil t))).0);
  at_end = end;
  unfailed = unfailed;
}
read_whole Operations_text operations left failures old new h end unfailed = record {
  is = h.are;
  few = h.few;
  text = operations_text (left old) (left new) operations h;
  alone = IfSome_then (left old) (operations_text (left old) (left new) operations h) (λ t is ys _ other. one_operations t operations ys is other);
  at_end = end;
  unfailed = unfailed;
}
read_whole Summary_text s left failures old new h end unfailed =
    let text = all_taken (left old) (left new) (summary_text s) (IsReadTo-summary (left old) (left new) s h) end in
    record {
      is = IsReadTo-entries (left old) (left new) s h;
      few = IsReadTo-few_entries (left old) (left new) s h;
      text = text;
      alone = IfSome_then (left old) text (λ t is other q same. one_summary s other (IsReadTo-entries (left old) (left new) s h) q (sym is ∙ same));
      at_end = end;
      unfailed = unfailed;
    }

-- a text is refused by the machine alone
machine_of : (file : TextKind) (t : List ℕ) (b : Option (List ℕ)) (fault : RecordFault)
    → HasStopped file (Some t) b fault → (fault.kind ≡ Truncated → IsAtEnd b) → (m : Meaning file) → IsMeaning file m
    → IsTextOf file m t → IsOfMachine fault.kind
machine_of Archive_text t b fault stopped ended p content is = front_machine t b fault p t [] stopped ended (λ _. refl) content is (sym (append-nil t))
machine_of Operations_text t b fault stopped ended ys _ text =
    machine_alone Operations_file t b (map record_bytes ys) [] fault (stopped_in Operations_text t b fault stopped)
    ended (InOrder-operations [] ys text.are) tt (text_is t ys text
    ∙ sym (append-nil (text_of Operations_file (map record_bytes ys)))) (λ _. refl) (λ _. refl)
machine_of Summary_text t b fault stopped ended s q is =
    machine_alone Summary_file t b (listing s) [] fault (stopped_in Summary_text t b fault stopped) ended
    (InOrder-entries s q) tt (is ∙ summary_text_is s ∙ sym (append-nil (text_of Summary_file (listing s))))
    (λ _. refl) (λ _. refl)

pub refused : {R : Type 0} (file : TextKind) (left : R → Option (List ℕ)) (failures : R → ℕ) (old new : R)
    (fault : RecordFault) → HasStopped file (left old) (left new) fault → Blames left failures old new fault.kind
    → ReadsWhole file (λ (m : Meaning file). m) left failures old new (Err fault)
refused file left failures old new fault stopped blames = (
  is_refused file left failures old new fault stopped blames,
  of_input (λ x. HasStopped file x (left new) fault) (left old) stopped
      (λ t s. machine_of file t (left new) fault s blames.2),
)
