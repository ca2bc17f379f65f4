-- Each text is that of a content, or has a fault.
use Rattle.std.proofs.Common.{◌≡◌, ◌≢◌, ℕ, zero, suc, ◌+◌, ◌<◌, ◌≤◌, true, false, List, [], ◌∷◌, ◌++◌, length, get_or}
use Rattle.std.proofs.Common.{take, drop, ◌==◌, Some, Ok, Err, refl, sym, ap, ◌∙◌, subst, arith, inl, inr, ◌⊎◌}
use Rattle.std.proofs.Common.{append_assoc, length-append, length-take, take-append-drop, lit≤, bytes_eq, take_all}
use Rattle.std.proofs.Common.{drop_at, get_or-take}
use Rattle.std.proofs.lemmas.Slice.Eq.{bytes_eq-Decides}
use Rattle.std.proofs.lemmas.Bool.{cases_Bool, cases_lt, eqb-true}
use Rattle.std.specs.List.{concat}
use Rattle.std.specs.FinSet as set
use Rattle.archive_core.specs.Key.{key_bytes}
use Rattle.archive_core.specs.Valid.{key_of}
use Rattle.archive_core.specs.declared.operations.Operation.{Operation}
use Rattle.archive_core.specs.Record.{IsRecord}
use Rattle.archive_core.specs.Content.{Operations, IsContent, is_covered}
use Rattle.archive_core.specs.Summary.{Entries}
use Rattle.archive_records.specs.Entry.{AreEntries}
use Rattle.archive_records.specs.declared.fault.RecordFaultKind.{RecordFaultKind}
use Rattle.archive_records.specs.declared.fault.RecordFaultKind.TheVariants.{BadMagic, Truncated, BadSlice, KeyMismatch, Trailing, Covered}
use Rattle.archive_records.specs.declared.fault.RecordFault.{RecordFault}
use Rattle.archive_records.specs.Layout.{head_length, body_length, framed}
use Rattle.archive_records.specs.Kind.{magic_of, kind_of, archive_format, IsItem}
use Rattle.archive_records.specs.Text.{ending, text_of, IsArchiveOf, taken_of, InOrder, AreApart, last_of, IsOperationsText, IsSummaryText}
use Rattle.archive_records.specs.Fault.{is_end, next, FailsNext, FailsBehind, Fails, RefusesSlice, Refuses, IsTrailing}
use Rattle.archive_records.specs.Fault.{IsUnended, IsFault, IsOperationsFault, IsSummaryFault, IsFaultOf}
use Rattle.archive_records.specs.Front.{IsGoodFront, front_length}
use Rattle.archive_records.proofs.Formats.{kind_archive, length-magic}
use Rattle.archive_records.proofs.Versions.{Formed, formed_content, formed_text}
use Rattle.archive_records.proofs.Apart.{apart_none, push_apart}
use Rattle.archive_records.specs.declared.kind.TextKind.TheVariants.{Archive as Archive_text}
use Rattle.archive_records.proofs.Framed.{same_body, framed-whole}
use Rattle.archive_records.proofs.Holds.{holds, Holds-nine, Holds-end, next-framed, next-above, next-counts, done, whole-admission}
use Rattle.archive_records.proofs.SliceFacts.{slice_or_fault}
use Rattle.archive_records.proofs.Forms.{IsBytes, IsBytes-take, IsBytes-drop, retires, admits, item-framed, archive_framed, entry-of}
use Rattle.archive_records.proofs.Ends.{ends, is_three, ending_is}
use Rattle.archive_records.proofs.Puts.{concat-push}
use Rattle.archive_records.proofs.Longest.{Takes, is_end-grows}
use Rattle.archive_records.proofs.RecordSteps.{InOrder-push}
use Rattle.archive_records.proofs.OperationRecords.{operations_in, IsOperationsText-text}
use Rattle.archive_records.proofs.Contents.{AreEntries-entries, text_of_summary, summary_text-entries}
use Rattle.archive_records.specs.declared.format.Format.{Format}
use Rattle.archive_records.specs.declared.format.Format.TheVariants.{Archive, OldArchive, Operations as Operations_file, Summary as Summary_file}

-- two byte strings are the same, or not
pub same_or_not : (a b : List ℕ) → (a ≡ b) ⊎ (a ≢ b)
same_or_not a b = elim (cases_Bool (bytes_eq a b)) [
  | inl e ↦ inl ((bytes_eq-Decides a b).0 e)
  | inr e ↦ inr (λ same. cc (sym e ∙ (bytes_eq-Decides a b).1 same))
]

-- whole bytes that are no end record are a record, or refused for what they hold
record_or_refused : (bytes : List ℕ) → framed Archive bytes ≡ Ok (length bytes) → is_end bytes ≡ false → IsBytes bytes
    → IsRecord bytes ⊎ ((kind : RecordFaultKind) × RefusesSlice bytes kind)
record_or_refused bytes whole no_end fits =
    elim (cases_Bool (get_or bytes 0 0 == 1)) [
      | inl one ↦ inl (inr (retires bytes whole (eqb-true _ _ one) fits))
      | inr other ↦
          let form = whole-admission Archive bytes whole no_end (λ tag. cc (sym other ∙ ap (λ (x : ℕ). x == 1) tag)) in
          elim (slice_or_fault (drop 33 bytes)) [
            | inl valid ↦ elim (same_or_not (take 24 (drop 1 bytes)) (key_bytes (key_of (drop 33 bytes)))) [
              | inl key ↦ inl (inl (admits bytes form valid key fits))
              | inr different ↦ inr (KeyMismatch, (form.0, valid, different))
            ]
            | inr fault ↦ inr (BadSlice fault.0, (form.0, fault.1))
          ]
    ]

-- and so of each kind of file
item_or_refused : (file : Format) (bytes : List ℕ) → framed file bytes ≡ Ok (length bytes) → is_end bytes ≡ false
    → IsBytes bytes → IsItem file bytes ⊎ ((kind : RecordFaultKind) × Refuses file bytes kind)
item_or_refused Archive bytes whole no_end fits = record_or_refused bytes whole no_end fits
item_or_refused OldArchive bytes whole no_end fits = record_or_refused bytes (archive_framed OldArchive (inr (inl refl)) bytes whole no_end) no_end fits
item_or_refused Summary_file bytes whole no_end fits = inl (entry-of bytes whole no_end)
item_or_refused Operations_file bytes whole no_end fits =
    record_or_refused bytes (archive_framed Operations_file (inr (inr refl)) bytes whole no_end) no_end fits

ended_or_not : (file : Format) (rest : List ℕ) (count : ℕ) → IsUnended file rest ⊎ (rest ≡ ending file count)
ended_or_not Operations_file [] count = inr refl
ended_or_not Operations_file (x ∷ rest) count = inl (λ e. cc)
ended_or_not _ rest count = inl tt

-- a record that may follow is covered by none of those before, or refused for one that covers it
apart_or_not : (file : Format) (records : List (List ℕ)) (rest : List ℕ) → InOrder file [] records
    → AreApart file records → (k : Takes file (last_of [] records) rest) → AreApart file (records ++ k.item ∷ [])
    ⊎ FailsBehind file records rest Covered
apart_or_not Archive records rest a is k = elim (cases_Bool (is_covered (set.from_list records) k.item)) [
  | inl covered ↦ inr (refl, record { item = k.item; more = k.more; whole = k.whole; is = k.is; above = k.above; covered = covered })
  | inr free ↦ inl (push_apart records k.item a k.above is free)
]
apart_or_not _ records rest a is k = inl tt

module _ (file : Format) where
  -- a whole record in front of bytes is whole alone
  framed-cut : (rest : List ℕ) (n : ℕ) → framed file rest ≡ Ok n → framed file (take n rest) ≡ Ok (length (take n rest))
  framed-cut rest n e =
      let h = holds file rest n e in
      let item : List ℕ = take n rest in
      let i = h.is in
      let f = h.fits in
      let one = h.one in
      let long : length item ≡ n = omega (arith, length-take n rest) in
      let split : item ++ drop n rest ≡ rest = take-append-drop n rest in
      let some = Holds-nine file rest n h in
      let tag : head_length file (get_or item 0 0) ≡ Some h.head = ap (head_length file) (get_or-take n rest 0 0 (omega arith)) ∙ h.tag in
      let body : body_length file rest ≡ body_length file item = ap (body_length file) (sym split)
      ∙ same_body file item (drop n rest) h.head (omega arith) tag (omega arith) in
      let small : body_length file item ≤ 4294967295 = rw (← body) h.small in
      framed-whole file item h.head (omega arith) tag (omega arith) small (omega arith) ∙ ap done (omega arith)

  -- what stands in front of the rest: a fault, bytes after the end record, the end record alone, or a record
  abbrev pub Found : List ℕ → ℕ → List ℕ → Type 0
  Found last count rest =
      ((kind : RecordFaultKind) × FailsNext file last count rest kind)
      ⊎ IsTrailing file last count rest
      ⊎ (rest ≡ ending file count)
      ⊎ Takes file last rest

  module _ (last : List ℕ) (count : ℕ) (rest : List ℕ) (n : ℕ) (e : next file last count rest ≡ Ok n) (fits : IsBytes rest) where
    whole : framed file rest ≡ Ok n
    whole = next-framed file last count rest n e

    found_end : is_end rest ≡ true → get_or rest 0 0 ≡ 3 → Found last count rest
    found_end end three =
        let h = holds file rest n whole in
        let nine : n ≡ 9 = Holds-end file rest n h three in
        let long = h.fits in
        elim (cases_lt 9 (length rest)) [
          | inl more ↦ inr (inl (record { whole = e ∙ ap done nine; end = end; more = more }))
          | inr all ↦ inr (inr (inl (ending_is file rest n count whole three
              (ends file rest count (whole ∙ ap done (omega arith)) three (next-counts file last count rest n e end)
              fits))))
        ]

    found_whole : is_end rest ≡ false → Found last count rest
    found_whole no_end =
        let bytes : List ℕ = take n rest in
        let cut : framed file bytes ≡ Ok (length bytes) = framed-cut rest n whole in
        let same : is_end bytes ≡ false = sym (is_end-grows bytes (drop n rest)
        (holds file bytes (length bytes) cut).one) ∙ ap is_end (take-append-drop n rest) ∙ no_end in
        elim (item_or_refused file bytes cut same (IsBytes-take n rest fits)) [
          | inl is ↦ inr (inr (inr (record {
            item = bytes;
            more = drop n rest;
            whole = sym (take-append-drop n rest);
            is = is;
            above = next-above file last count rest n e no_end;
          })))
          | inr refused ↦ inl (refused.0, inr (n, e, refused.1))
        ]

  found : (last : List ℕ) (count : ℕ) (rest : List ℕ) → IsBytes rest → Found last count rest
  found last count rest fits = elim (next file last count rest) as (λ r. next file last count rest ≡ r → Found last count rest) [
    | Err kind ↦ λ e. inl (kind, inl e)
    | Ok n ↦ λ e. elim (cases_Bool (is_end rest)) [
      | inl end ↦ found_end last count rest n e fits end (is_three rest end)
      | inr no_end ↦ found_whole last count rest n e fits no_end
    ]
  ] refl

  -- a text is that of records, or has a fault
  abbrev pub Known : List ℕ → Type 0
  Known t = ((records : List (List ℕ)) × InOrder file [] records × AreApart file records × (t ≡ text_of file records))
      ⊎ ((fault : RecordFault) × IsFaultOf file t fault)

  fault_known : (t : List ℕ) (records : List (List ℕ)) (front : IsGoodFront file t records) (kind : RecordFaultKind)
      → IsUnended file front.rest → Fails file records front.rest kind → Known t
  fault_known t records front kind u f = inr (record { kind = kind; offset = front_length records }, inr (records, front, u, inl (f, refl)))

  all_known : (t : List ℕ) (records : List (List ℕ)) (front : IsGoodFront file t records) → front.rest ≡ ending file (length records) → Known t
  all_known t records front end =
      inl (records, front.ordered, front.apart, front.whole ∙ ap (λ (x : List ℕ). magic_of file ++ (concat records ++ x)) end)

  -- one record more in front of the rest
  abbrev goes_on : (t : List ℕ) (records : List (List ℕ)) (front : IsGoodFront file t records)
      (k : Takes file (last_of [] records) front.rest) → AreApart file (records ++ k.item ∷ [])
      → IsGoodFront file t (records ++ k.item ∷ [])
  goes_on t records front k free = record {
    ordered = InOrder-push file [] records k.item front.ordered k.is k.above;
    apart = free;
    rest = k.more;
    whole = front.whole ∙ ap (λ (x : List ℕ). magic_of file ++ x)
        (rw (k.whole, concat-push records k.item) (sym (append_assoc (concat records) k.item k.more)));
  }

  -- the records in front of the rest, one after another
  walk : (t : List ℕ) (fuel : ℕ) (records : List (List ℕ)) (front : IsGoodFront file t records) → length front.rest < fuel → IsBytes front.rest → Known t
  walk t zero records front few fits = absurd (omega arith)
  walk t (suc fuel) records front few fits =
      elim (ended_or_not file front.rest (length records)) [
        | inl u ↦ elim (found (last_of [] records) (length records) front.rest fits) [
          | inl f ↦ fault_known t records front f.0 u (inl f.1)
          | inr (inl f) ↦ inr (record { kind = Trailing; offset = front_length records + 9 }, inr (records, front, u, inr (refl, f, refl)))
          | inr (inr (inl end)) ↦ all_known t records front end
          | inr (inr (inr k)) ↦ elim (apart_or_not file records front.rest front.ordered front.apart k) [
            | inl free ↦
                let some = (holds file k.item (length k.item) (item-framed file k.item k.is)).one in
                let shorter : length k.more < fuel = omega (arith, ap length k.whole, length-append k.item k.more) in
                let tail : drop (length k.item) front.rest ≡ k.more = ap (drop (length k.item)) k.whole ∙ drop_at k.item k.more (length k.item) refl in
                walk t fuel (records ++ k.item ∷ []) (goes_on t records front k free) shorter
                (subst IsBytes tail (IsBytes-drop (length k.item) front.rest fits))
            | inr fails ↦ fault_known t records front Covered u (inr fails)
          ]
        ]
        | inr end ↦ all_known t records front end
      ]

  bad_magic : (t : List ℕ) (n : ℕ) → n ≤ 8 → n ≤ length t → take n t ≢ take n (magic_of file) → Known t
  bad_magic t n few within other = inr (record { kind = BadMagic; offset = 0 }, inl ((n, few, within, other), refl))

  text_or_fault : (t : List ℕ) → IsBytes t → Known t
  text_or_fault t fits = elim (cases_lt (length t) 8) [
    | inl short ↦ elim (same_or_not (take (length t) t) (take (length t) (magic_of file))) [
      | inl same ↦ inr (record { kind = Truncated; offset = 0 }, inl ((short, sym (take_all (length t) t (omega arith)) ∙ same), refl))
      | inr other ↦ bad_magic t (length t) (omega arith) (omega arith) other
    ]
    | inr long ↦ elim (same_or_not (take 8 t) (take 8 (magic_of file))) [
      | inl same ↦
          let whole : t ≡ magic_of file ++ drop 8 t = sym (take-append-drop 8 t)
          ∙ ap (λ (x : List ℕ). x ++ drop 8 t) (same
          ∙ take_all 8 (magic_of file) (omega (arith, length-magic file))) in
          walk t (length (drop 8 t) + 1) [] (record {
            ordered = tt;
            apart = apart_none file;
            rest = drop 8 t;
            whole =
                whole;
          }) (omega arith) (IsBytes-drop 8 t fits)
      | inr other ↦ bad_magic t 8 (lit≤ tt) long other
    ]
  ]

content_known : (file : Format) → kind_of file ≡ Archive_text → (t : List ℕ) → Known file t
    → ((o : Operations) × IsContent o × IsArchiveOf o t) ⊎ ((fault : RecordFault) × IsFaultOf file t fault)
content_known file is t (inl k) =
    let form : Formed (set.from_list (taken_of file k.0)) t =
    record { format = file; archive = is; records = k.0; ordered = k.1; apart = k.2; whole = k.3; content = refl }
    in
    inl (set.from_list (taken_of file k.0), formed_content (set.from_list (taken_of file k.0)) t form, formed_text (set.from_list (taken_of file k.0)) t form)
content_known file is t (inr f) = inr f

pub content_or_fault : (t : List ℕ) → IsBytes t → ((o : Operations) × IsContent o × IsArchiveOf o t) ⊎ ((fault : RecordFault) × IsFault t fault)
content_or_fault t fits = content_known (archive_format t) (kind_archive t) t (text_or_fault (archive_format t) t fits)

pub operations_or_fault : (t : List ℕ) → IsBytes t → ((operations : List Operation) × IsOperationsText t operations)
    ⊎ ((fault : RecordFault) × IsOperationsFault t fault)
operations_or_fault t fits = elim (text_or_fault Operations_file t fits) [
  | inl k ↦ let listed = operations_in [] k.0 k.1 in inl
      (listed.0, IsOperationsText-text t listed.0 listed.1 (k.3 ∙ ap (text_of Operations_file) (sym listed.2)))
  | inr f ↦ inr f
]

pub summary_or_fault : (t : List ℕ) → IsBytes t → ((s : Entries) × AreEntries s × IsSummaryText s t) ⊎ ((fault : RecordFault) × IsSummaryFault t fault)
summary_or_fault t fits = elim (text_or_fault Summary_file t fits) [
  | inl k ↦ inl (set.from_list k.0, AreEntries-entries k.0 k.1, text_of_summary (set.from_list k.0) t (k.3 ∙ sym (summary_text-entries k.0 k.1)))
  | inr f ↦ inr f
]
