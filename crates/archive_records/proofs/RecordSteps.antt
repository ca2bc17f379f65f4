-- A text that is read record by record.
use Rattle.std.proofs.Common.{◌≡◌, ◌≢◌, ℕ, ◌+◌, ◌^◌, ◌<◌, true, false, List, [], ◌∷◌, ◌++◌, length, Option, Some, Ok}
use Rattle.std.proofs.Common.{refl, sym, ap, ◌∙◌, subst, arith, inl, inr, ◌⊎◌, append_assoc, length-append}
use Rattle.std.proofs.lemmas.List.{append-nil, take_all}
use Rattle.std.specs.List.{concat}
use Rattle.std.specs.Io.KnownBytes.{Consumes}
use Rattle.archive_core.specs.Content.{is_covered}
use Rattle.byte_device.proofs.Known.{Consumes-then}
use Rattle.archive_records.specs.declared.fault.RecordFaultKind.{RecordFaultKind}
use Rattle.archive_records.specs.declared.fault.RecordFaultKind.TheVariants.{Truncated, Trailing, Device, OutOfMemory, Covered}
use Rattle.archive_records.specs.declared.fault.RecordFault.{RecordFault}
use Rattle.archive_records.specs.Kind.{magic_of, IsItem, end_length, may_follow}
use Rattle.archive_records.specs.Text.{end_record, ending, text_of, InOrder, last_of}
use Rattle.archive_records.specs.Fault.{next, IsUnended, IsCutAtMost, FailsNext, FailsBehind, Fails}
use Rattle.archive_records.specs.Reading.{Blames, IsOfMachine}
use Rattle.archive_records.specs.declared.next.NextRecord.{NextRecord}
use Rattle.archive_records.specs.declared.next.NextRecord.TheVariants.{End, Item}
use Rattle.archive_records.specs.Reader.{HoldsNext, IsStep, StepsTo, bytes_so_far, Position, set_of, RetireAlike}
use Rattle.archive_records.specs.Reader.{KeepsIn, AreRetired, IsCoveredThere, Passes, Finishes, StopsAt, HasWhole}
use Rattle.archive_records.specs.Reader.{HasRead, HasReadAll, Stopped, StoppedWith, IsEnded, seen_as}
use Rattle.archive_records.proofs.Apart.{retired_more, drops_more, covered_alike, last_of-push}
use Rattle.archive_records.proofs.Puts.{concat-push}
use Rattle.archive_records.specs.declared.buffer.Buffer.{Buffer}
use Rattle.archive_records.proofs.Holds.{next-above, next-framed}
use Rattle.archive_records.proofs.FaultKinds.{never_trailing, memory_blames}
use Rattle.archive_records.proofs.Forms.{item-found, item-no_end}
use Rattle.archive_records.proofs.Grown.{next-ok-grows}
use Rattle.archive_records.proofs.Ends.{is_three, ending_is, ended_is, end-is_end, length-end_record, next_end, counted, counted_unended}
use Rattle.archive_records.proofs.Longest.{is_end-grows}
use Rattle.archive_records.proofs.Undecided.{no_machine, kept_uncovered, apart_whole, cut_text, cut_off, cut_behind}
use Rattle.archive_records.specs.declared.format.Format.{Format}
use Rattle.archive_records.specs.declared.format.Format.TheVariants.{Archive}

pub taken_more : (a b c : Option (List ℕ)) (x y z : List ℕ) → Consumes a b (x ++ y) → Consumes b c z → Consumes a c (x ++ (y ++ z))
taken_more a b c x y z p q = subst (Consumes a c) (append_assoc x y z) (Consumes-then a b c (x ++ y) z p q)

module _ (file : Format) where
  pub InOrder-push : (low : List ℕ) (xs : List (List ℕ)) (x : List ℕ) → InOrder file low xs → IsItem file x
      → may_follow file (last_of low xs) x ≡ true → InOrder file low (xs ++ x ∷ [])
  InOrder-push low [] x a r b = (r, b, tt)
  InOrder-push low (y ∷ ys) x a r b = (a.0, a.1, InOrder-push y ys x a.2 r b)

  pub next-follows : (low : List ℕ) (count : ℕ) (bytes : List ℕ) → next file low count bytes ≡ Ok (length bytes)
      → IsItem file bytes → may_follow file low bytes ≡ true
  next-follows low count bytes e item = rw (take_all (length bytes) bytes (omega arith)) at
      (next-above file low count bytes (length bytes) e (item-no_end file bytes item))

  -- one item more was read
  pub HasRead-grows : (a b c : Option (List ℕ)) (records : List (List ℕ)) (before after : Position)
      → HasRead file a b records before → Passes b c before after → HasRead file a c (records ++ after.last ∷ []) after
  HasRead-grows a b c records before after h p =
      let bytes = after.last in
      let follows : may_follow file (last_of [] records) bytes ≡ true = rw (← h.last_is, ← h.file_is) p.follows in
      let kept : KeepsIn file before.retired after.retired after.dropped bytes =
      subst (λ (f : Format). KeepsIn f before.retired after.retired after.dropped bytes) h.file_is p.kept in
      record {
        file_is = p.file_is ∙ h.file_is;
        taken = subst (λ (t : List ℕ). Consumes a c (magic_of file ++ t)) (sym (concat-push records bytes))
            (taken_more a b c (magic_of file) (concat records) bytes h.taken p.taken);
        ordered = InOrder-push [] records bytes h.ordered (subst (λ (f : Format). IsItem f bytes) h.file_is p.item) follows;
        apart = apart_whole file before.retired records bytes h.ordered follows h.apart h.retired_are
            (kept_uncovered file before.retired after.retired after.dropped bytes kept);
        last_is = sym (last_of-push [] records bytes);
        count_is = omega (arith, p.count_is, h.count_is, length-append records (bytes ∷ []));
        offset_is = omega (arith, p.offset_is, h.offset_is, ap length (concat-push records bytes), length-append (concat records) bytes);
        retired_are = retired_more file before.retired after.retired records after.dropped bytes h.retired_are kept;
        dropped_is = drops_more file before.retired after.retired records after.dropped bytes h.retired_are kept;
      }

  -- what ends the file was read
  pub HasReadAll-grows : (a b c : Option (List ℕ)) (records : List (List ℕ)) (before after : Position)
      → HasRead file a b records before → Finishes b c before after → HasReadAll file a c records after
  HasReadAll-grows a b c records before after h e =
      let whole : ending before.file before.count ≡ ending file (length records) =
      ap (λ (f : Format). ending f before.count) h.file_is ∙ ap (ending file) h.count_is in
      record {
        taken = subst (λ (t : List ℕ). Consumes a c (magic_of file ++ (concat records ++ t))) whole
            (taken_more a b c (magic_of file) (concat records) (ending before.file before.count) h.taken e.taken);
        ordered = h.ordered;
        apart = h.apart;
        few = omega (arith, h.count_is, e.few);
        ended = subst (λ (f : Format). IsEnded f c) h.file_is e.ended;
        offset_is = e.offset_is ∙ h.offset_is;
        retired_are = subst (λ (t : List (List ℕ)). AreRetired file t records) (sym e.retired_is) h.retired_are;
      }

  -- want of memory where the record that was read is taken
  pub Stopped-unkept : (a b c : Option (List ℕ)) (records : List (List ℕ)) (before after : Position)
      → HasRead file a b records before → Passes b c before after
      → Stopped file a c records (record { kind = OutOfMemory; offset = before.offset })
  Stopped-unkept a b c records before after h p = record {
    rest = after.last;
    taken = taken_more a b c (magic_of file) (concat records) after.last h.taken p.taken;
    ordered = h.ordered;
    apart = h.apart;
    few = omega (arith, h.count_is, p.count_is, p.few);
    unended = λ known. absurd (known.1 refl);
    stops = inl (h.offset_is, λ known. absurd (known refl));
    undecided = λ _.
        let read = HasRead-grows a b c records before after h p in
        cut_behind file records after.last read.ordered read.apart (omega (arith, h.count_is, p.count_is, p.few));
  }

  -- what is covered is covered by one of the records
  covered_behind : (a b : Option (List ℕ)) (records : List (List ℕ)) (before : Position) (rest : List ℕ)
      (kind : RecordFaultKind) → HasRead file a b records before → IsCoveredThere before rest kind
      → FailsBehind file records rest (seen_as kind)
  covered_behind a b records before rest kind h c =
      let is : Archive ≡ file = sym c.file_is ∙ h.file_is in
      let alike : RetireAlike (set_of before.retired) (set_of records) = subst (λ (f : Format). AreRetired f before.retired records) (sym is) h.retired_are in
      subst (λ (f : Format). FailsBehind f records rest (seen_as kind)) is (
        ap seen_as c.kind_is,
        record {
          item = rest;
          more = [];
          whole = sym (append-nil rest);
          is = c.item;
          above = subst (λ (t : List ℕ). may_follow Archive t rest ≡ true) h.last_is c.follows;
          covered = sym (covered_alike (set_of before.retired) (set_of records) rest alike) ∙ c.covered;
        },
      )

  pub fails_there : (a b : Option (List ℕ)) (records : List (List ℕ)) (before : Position) (rest : List ℕ)
      (kind : RecordFaultKind) → HasRead file a b records before
      → FailsNext before.file before.last before.count rest (seen_as kind) ⊎ IsCoveredThere before rest kind
      → Fails file records rest (seen_as kind)
  fails_there a b records before rest kind h (inl f) = inl (rw (← h.last_is, ← h.count_is, ← h.file_is) f)
  fails_there a b records before rest kind h (inr c) = inr (covered_behind a b records before rest kind h c)

  next_there : (a b : Option (List ℕ)) (records : List (List ℕ)) (before : Position) (rest : List ℕ)
      (kind : RecordFaultKind) → HasRead file a b records before
      → FailsNext before.file before.last before.count rest kind
      → FailsNext file (last_of [] records) (length records) rest kind
  next_there a b records before rest kind h f = rw (← h.last_is, ← h.count_is, ← h.file_is) f

  -- what came where the device failed, or memory ran out, decides no fault
  pub undecided_there : (a b c : Option (List ℕ)) (records : List (List ℕ)) (before : Position) (fault : RecordFault)
      → HasRead file a b records before → (s : StopsAt b c before fault) → IsOfMachine fault.kind
      → IsCutAtMost file (magic_of file ++ (concat records ++ s.rest))
  undecided_there a b c records before fault h s (inl device) = elim (s.fails (λ memory. cc)) [
    | inl f ↦ cut_off file records h.ordered h.apart (omega (arith, h.count_is, s.few)) s.rest
        (rw device at (next_there a b records before s.rest (seen_as fault.kind) h f))
    | inr e ↦ absurd (cc (device, e.kind_is))
  ]
  undecided_there a b c records before fault h s (inr memory) = elim (s.wanted memory) [
    | inl f ↦ cut_off file records h.ordered h.apart (omega (arith, h.count_is, s.few)) s.rest (next_there a b records before s.rest Truncated h f)
    | inr w ↦
        let item : IsItem file s.rest = subst (λ (f : Format). IsItem f s.rest) h.file_is w.item in
        let follows : may_follow file (last_of [] records) s.rest ≡ true = rw (← h.last_is, ← h.file_is) w.follows in
        cut_behind file records s.rest (InOrder-push [] records s.rest h.ordered item follows)
        (apart_whole file before.retired records s.rest h.ordered follows h.apart h.retired_are
        (λ is. w.uncovered (h.file_is ∙ is))) (omega (arith, h.count_is, s.few))
  ]

  -- a test failed after the records, or memory ran out there
  abbrev pub Stopped-fails : (a b c : Option (List ℕ)) (records : List (List ℕ)) (before : Position)
      (fault : RecordFault) → HasRead file a b records before → StopsAt b c before fault
      → Stopped file a c records fault
  Stopped-fails a b c records before fault h s = record {
    rest = s.rest;
    taken = taken_more a b c (magic_of file) (concat records) s.rest h.taken s.taken;
    ordered = h.ordered;
    apart = h.apart;
    few = omega (arith, h.count_is, s.few);
    unended = λ known. subst (λ (f : Format). IsUnended f s.rest) h.file_is (s.unended known);
    stops = inl (s.offset_is ∙ h.offset_is, λ known. fails_there a b records before s.rest fault.kind h (s.fails known));
    undecided = undecided_there a b c records before fault h s;
  }

  -- and where memory did, the reader has what came whole
  pub Stopped-with : (a b c : Option (List ℕ)) (records : List (List ℕ)) (before : Position) (last : List ℕ)
      (fault : RecordFault) → HasRead file a b records before → (stop : StopsAt b c before fault)
      → (fault.kind ≡ OutOfMemory → HasWhole before.file stop.rest last) → StoppedWith file a c records fault last
  Stopped-with a b c records before last fault h stop whole = (
    Stopped-fails a b c records before fault h stop,
    λ memory. subst (λ (f : Format). HasWhole f stop.rest last) h.file_is (whole memory),
  )

-- what a whole item or end record is that was read
pub step_to : (file : Format) (last : List ℕ) (count : ℕ) (left : Option (List ℕ)) (buffer : Buffer) (step : NextRecord)
    → HoldsNext file last count buffer × IsStep file count (bytes_so_far buffer) step
    → StepsTo file last count left buffer step
step_to file last count left buffer End h =
    let bytes = bytes_so_far buffer in
    let framed = next-framed file last count bytes (length bytes) h.0.is_next in
    (ending_is file bytes (length bytes) count framed (is_three bytes h.1.0) h.1.1, ended_is file left bytes (length bytes) framed (is_three bytes h.1.0))
step_to file last count left buffer (Item found) h = record {
  whole = h.0.whole;
  found_is = h.1;
  follows = next-follows file last count (bytes_so_far buffer) h.0.is_next (item-found file (bytes_so_far buffer) found h.1);
}

-- why an item is refused by the retirements before it
abbrev pub IsRefusedBy : Position → List ℕ → RecordFaultKind → Type 0
IsRefusedBy before bytes kind = ((kind ≡ OutOfMemory) × (is_covered (set_of before.retired) bytes ≡ false))
    ⊎ ((kind ≡ Covered) × (before.file ≡ Archive) × (is_covered (set_of before.retired) bytes ≡ true))

pub step_refused : (a b : Option (List ℕ)) (before : Position) (last bytes : List ℕ) (kind : RecordFaultKind) → last
    ≡ bytes → Consumes a b bytes → before.count < 2 ^ 63 → IsItem before.file bytes
    → may_follow before.file before.last bytes ≡ true → IsRefusedBy before bytes kind
    → (stop : StopsAt a b before (record { kind = kind; offset = before.offset })) × (kind ≡ OutOfMemory → HasWhole before.file stop.rest last)
step_refused a b before last bytes kind is taken few item follows (inl e) = (
  record {
    rest = bytes;
    taken = taken;
    unended = λ known. absurd (known.1 e.0);
    fails = λ known. absurd (known e.0);
    wanted = λ _. inr (record { item = item; follows = follows; uncovered = λ _. e.1 });
    offset_is = refl;
    few = few;
  },
  λ _. inl (item, is),
)
step_refused a b before last bytes kind is taken few item follows (inr c) = (
  record {
    rest = bytes;
    taken = taken;
    unended = λ known. subst (λ (f : Format). IsUnended f bytes) (sym c.1) tt;
    fails = λ known. inr (record {
      kind_is = c.0;
      file_is = c.1;
      item = subst (λ (f : Format). IsItem f bytes) c.1 item;
      follows = subst (λ (f : Format). may_follow f before.last bytes ≡ true) c.1 follows;
      covered = c.2;
    });
    wanted = λ memory. absurd (cc (c.0, memory));
    offset_is = refl;
    few = few;
  },
  λ _. inl (item, is),
)

pub refused_blames : {R : Type 0} (left : R → Option (List ℕ)) (failures : R → ℕ) (old new : R) (before : Position)
    (bytes : List ℕ) (kind : RecordFaultKind) → failures new ≡ failures old → IsRefusedBy before bytes kind
    → Blames left failures old new kind
refused_blames left failures old new before bytes kind unfailed (inl e) =
    subst (Blames left failures old new) (sym e.0) (memory_blames left failures old new unfailed)
refused_blames left failures old new before bytes kind unfailed (inr c) = subst (Blames left failures old new) (sym c.0) (λ e. cc, (λ _. unfailed), λ e. cc)

-- what comes next is never bytes too many
pub step-never_trailing : (a b : Option (List ℕ)) (before : Position) (fault : RecordFault) → StopsAt a b before fault → fault.kind ≢ Trailing
step-never_trailing a b before fault s trailing = elim (s.fails (λ memory. cc)) [
  | inl f ↦ never_trailing before.file before.last before.count s.rest fault.kind f trailing
  | inr c ↦ cc (trailing, c.kind_is)
]

-- ---- after an end record

module _ (file : Format) (counts : end_length file ≡ Some 9) where
  taken_all : (a b : Option (List ℕ)) (records : List (List ℕ)) → Consumes a b (text_of file records)
      → Consumes a b (magic_of file ++ (concat records ++ end_record (length records)))
  taken_all a b records k = subst (λ (t : List ℕ). Consumes a b (magic_of file ++ (concat records ++ t))) (counted file counts (length records)) k

  -- one byte more stood there
  pub Stopped-behind : (a b c : Option (List ℕ)) (records : List (List ℕ)) (x : ℕ) (position : Position)
      → HasReadAll file a b records position → Consumes b c (x ∷ [])
      → Stopped file a c records (record { kind = Trailing; offset = position.offset + 9 })
  Stopped-behind a b c records x position h k =
      let end = end_record (length records) in
      let nine = length-end_record (length records) in
      let few = h.few in
      record {
        rest = end ++ x ∷ [];
        taken = subst (λ (t : List ℕ). Consumes a c (magic_of file ++ t)) (append_assoc (concat records) end (x ∷ []))
            (taken_more a b c (magic_of file) (concat records ++ end) (x ∷ []) (taken_all a b records h.taken) k);
        ordered = h.ordered;
        apart = h.apart;
        few = few;
        unended = λ _. counted_unended file counts (end ++ x ∷ []);
        stops = inr (inl (
          refl,
          record {
            whole = next-ok-grows file (last_of [] records) (length records) end (x ∷ []) 9
                (next_end file counts (last_of [] records) (length records) (omega arith));
            end = is_end-grows end (x ∷ []) (omega arith) ∙ end-is_end (length records);
            more = omega (arith, length-append end (x ∷ []));
          },
          ap (λ (n : ℕ). n + 9) h.offset_is,
        ));
        undecided = λ machine. absurd (no_machine machine);
      }

  -- the device failed there
  pub Stopped-end : (a b c : Option (List ℕ)) (records : List (List ℕ)) (position : Position)
      → HasReadAll file a b records position → Consumes b c []
      → Stopped file a c records (record { kind = Device; offset = position.offset })
  Stopped-end a b c records position h k =
      let whole : List ℕ = magic_of file ++ (concat records ++ end_record (length records)) in
      record {
        rest = end_record (length records);
        taken = subst (Consumes a c) (append-nil whole) (Consumes-then a b c whole [] (taken_all a b records h.taken) k);
        ordered = h.ordered;
        apart = h.apart;
        few = h.few;
        unended = λ _. counted_unended file counts (end_record (length records));
        stops = inr (inr (refl, refl, h.offset_is));
        undecided = λ _. cut_text file records h.ordered h.apart (omega (arith, h.few)) (end_record (length records))
            (sym (counted file counts (length records)));
      }
