-- The front of an index, one table after another, and why making an index stopped.
use Rattle.std.proofs.Common.{◌≡◌, ℕ, ◌+◌, ◌^◌, ◌<◌, ◌≤◌, List, [], ◌∷◌, ◌++◌, length, map, take, Option, refl, sym, ap, ◌∙◌, subst, arith, append_assoc}
use Rattle.std.proofs.Common.{length-append, ◌⊎◌, inl, inr}
use Rattle.std.specs.Prelude.{Err, Ok}
use Rattle.std.specs.List.{AllZip, concat}
use Rattle.std.specs.Io.KnownBytes.{Appends, Consumes}
use Rattle.std.proofs.lemmas.List.{append-nil, map-append, take_all}
use Rattle.std.proofs.lemmas.List.Concat.{flat_map-append}
use Rattle.std.proofs.lemmas.List.Elements.{All-nil, All-push, AllZip-push}
use Rattle.byte_device.specs.Writes.{IsPut, StopsPut}
use Rattle.byte_device.proofs.Gains.{puts_then}
use Rattle.byte_device.proofs.Known.{Appends-none, Appends-then, Consumes-none, Consumes-then}
use Rattle.table_checked_pages.specs.Pages.{stored}
use Rattle.table_symbols.specs.Steps.{AreBytes}
use Rattle.archive_records.specs.Kind.{magic}
use Rattle.archive_records.specs.Reader.{Finishes, HasRead, Passes, Position, Stopped, StopsAt}
use Rattle.archive_records.specs.Text.{text_of}
use Rattle.archive_records.specs.declared.fault.RecordFault.{RecordFault}
use Rattle.archive_records.specs.declared.format.Format.TheVariants.{Archive}
use Rattle.archive_records.proofs.RecordSteps.{HasRead-grows, HasReadAll-grows, Stopped-end, Stopped-fails, Stopped-unkept}
use Rattle.index_format.specs.Text.{index_magic}
use Rattle.index_build.specs.Content.{IsTableOf, front_of, table_entries, table_entry, tables_text}
use Rattle.index_format.specs.Entry.{entry_bytes}
use Rattle.index_format.specs.declared.entry.IndexEntry.{IndexEntry}
use Rattle.index_build.specs.InnerMaking.{HasPut, HasPutAll, BlamesMaking, HasStoppedMaking, StopsRecord}
use Rattle.index_build.specs.Making.{HasBegun, IsBegun}
use Rattle.index_build.proofs.Contents.{near_push}
use Rattle.byte_device.specs.Devices.{FailedIn}
use Rattle.archive_records.specs.declared.fault.RecordFaultKind.TheVariants.{OutOfMemory}
use Rattle.index_format.specs.InnerMaking.{HasStoppedIndexing}
use Rattle.index_format.specs.declared.fault.IndexingFault.{IndexingFault}
use Rattle.index_format.specs.declared.fault.IndexingFault.TheVariants.{Archive as Archive_fault, OldArchive, TooLong}
use Rattle.index_format.proofs.Blamed.{indexing_behind}
use Rattle.index_build.specs.declared.fault.MakingFault.{MakingFault}
use Rattle.index_build.specs.declared.fault.MakingFault.TheVariants.{Archive as Refused, Write as Wrote}

-- one record and its table more
pub entries_push : (offset at : ℕ) (rs ts : List (List ℕ)) (r t : List ℕ) → AllZip IsTableOf rs ts
    → table_entries offset at (rs ++ r ∷ []) (ts ++ t ∷ []) ≡ table_entries offset at rs ts
    ++ table_entry (offset + length (concat rs)) (at + length (tables_text ts)) r t ∷ []
entries_push offset at [] [] r t each =
    let o : offset ≡ offset + 0 = omega arith in
    let a : at ≡ at + 0 = omega arith in
    λ i. table_entry (o i) (a i) r t ∷ []
entries_push offset at (x ∷ rs) (u ∷ ts) r t each =
    let o : offset + length x + length (concat rs) ≡ offset + length (concat (x ∷ rs)) = omega (arith, length-append x (concat rs)) in
    let a : at + length (stored u) + length (tables_text ts) ≡ at + length (tables_text (u ∷ ts)) = omega (arith, length-append (stored u) (tables_text ts)) in
    ap (λ (es : List (List ℕ)). table_entry offset at x u ∷ es)
    (entries_push (offset + length x) (at + length (stored u)) rs ts r t each.1
    ∙ (λ i. table_entries (offset + length x) (at + length (stored u)) rs ts ++ table_entry (o i) (a i) r t ∷ []))
entries_push offset at rs ts r t each = absurd each

-- the front with one table more
pub front_push : (tables : List (List ℕ)) (t : List ℕ) → front_of tables ++ stored t ≡ front_of (tables ++ t ∷ [])
front_push tables t =
    append_assoc index_magic (tables_text tables) (stored t)
    ∙ ap (λ (x : List ℕ). index_magic ++ x) (sym (flat_map-append stored tables (t ∷ [])
    ∙ ap (λ (x : List ℕ). tables_text tables ++ x) (append-nil (stored t))))

-- nothing was read after the magic, and nothing written after it
pub put_none : {W : Type 0} (a b : Option (List ℕ)) (held : W → Option (List ℕ)) (failures : W → ℕ) (old new : W)
    (position : Position) (done : ℕ) → HasRead Archive a b [] position
    → IsPut held failures old new 0 (front_of []) done → HasPut a b held failures old new [] position done
put_none a b held failures old new position done read put =
    record {
      records = [];
      tables = [];
      read = read;
      tabled = record { bytes = All-nil AreBytes; near = tt; each = tt; entries_are = refl };
      put =
          put;
    }

module _ {W : Type 0} (a b c : Option (List ℕ)) (held : W → Option (List ℕ)) (failures : W → ℕ) (old mid new : W)
    (entries : List IndexEntry) (before after : Position) (done : ℕ)
    (h : HasPut a b held failures old mid entries before done) where
  -- the front of the index, with the table of one record more
  front_then : (t : List ℕ) (end : ℕ) → IsPut held failures mid new done (stored t) end → IsPut held failures old new 0 (front_of (h.tables ++ t ∷ [])) end
  front_then t end put = subst (λ (x : List ℕ). IsPut held failures old new 0 x end) (front_push h.tables t)
      (puts_then held failures (λ (n : ℕ). n) old mid new 0 done (front_of h.tables) (stored t) (Ok end) h.put put)

  -- one record more was read, and its table written
  pub put_more : (more : List IndexEntry) (e : IndexEntry) (t : List ℕ) (end : ℕ) → Passes b c before after
      → (before.offset < 2 ^ 64) × (done < 2 ^ 64) → AreBytes after.last → more ≡ entries ++ e ∷ [] → IsTableOf after.last t → entry_bytes e
      ≡ table_entry before.offset done after.last t → IsPut held failures mid new done (stored t) end
      → HasPut a c held failures old new more after end
  put_more more e t end passes near bytes grown table is put = record {
    records = h.records ++ after.last ∷ [];
    tables = h.tables ++ t ∷ [];
    read = HasRead-grows Archive a b c h.records before after h.read passes;
    tabled =
        let start : before.offset ≡ 8 + length (concat h.records) = h.read.offset_is in
        let here : done ≡ 8 + length (tables_text h.tables) = omega (arith, h.put.size_is, length-append index_magic (tables_text h.tables)) in
        record {
          bytes = All-push AreBytes h.records after.last h.tabled.bytes bytes;
          near = near_push 8 8 h.records h.tables after.last t h.tabled.each h.tabled.near (omega (arith, start, near.0)) (omega (arith, here, near.1));
          each = AllZip-push IsTableOf h.records h.tables after.last t h.tabled.each table;
          entries_are =
              ap (map entry_bytes) grown ∙ map-append entry_bytes entries (e ∷ [])
              ∙ (λ i. h.tabled.entries_are i ++ (is ∙ (λ j. table_entry (start j) (here j) after.last t)) i ∷ [])
              ∙ sym (entries_push 8 8 h.records h.tables after.last t h.tabled.each);
        };
    put = front_then t end put;
  }

  -- the end record was read
  pub put_all : Finishes b c before after → HasPutAll a c held failures old mid entries after done
  put_all ends = record {
    records = h.records;
    tables = h.tables;
    read =
        HasReadAll-grows Archive a b c h.records before after h.read ends;
    tabled = h.tabled;
    put = h.put;
  }

  -- ---- a beginning of the index

  -- one record more was read, and so many first bytes were written of the front with its table
  begun : (t : List ℕ) (n : ℕ) → Passes b c before after → IsTableOf after.last t → n ≤ length (front_of (h.tables ++ t ∷ []))
      → Appends (held old) (held new) (take n (front_of (h.tables ++ t ∷ []))) → HasBegun a c (held old) (held new) n
  begun t n passes table within gained =
      let read = HasRead-grows Archive a b c h.records before after h.read passes in
      record {
        records = h.records ++ after.last ∷ [];
        tables = h.tables ++ t ∷ [];
        rest = [];
        taken = subst (Consumes a c) (ap (λ (x : List ℕ). magic ++ x) (sym (append-nil (concat (h.records ++ after.last ∷ []))))) read.taken;
        ordered = read.ordered;
        apart = read.apart;
        each = AllZip-push IsTableOf h.records h.tables after.last t h.tabled.each table;
        within = within;
        gained = gained;
      }

  -- its table was written, and its entry not kept
  pub begun_next : (t : List ℕ) (end : ℕ) → Passes b c before after → IsTableOf after.last t
      → IsPut held failures mid new done (stored t) end → HasBegun a c (held old) (held new) end
  begun_next t end passes table put =
      let all = front_then t end put in
      begun t end passes table (omega (arith, all.size_is))
      (subst (Appends (held old) (held new)) (sym (take_all end (front_of (h.tables ++ t ∷ [])) (omega (arith, all.size_is)))) all.gained)

  -- the writer failed in it
  pub begun_in : (t : List ℕ) (written : ℕ) → Passes b c before after → IsTableOf after.last t
      → StopsPut held failures mid new done (stored t) written → HasBegun a c (held old) (held new) written
  begun_in t written passes table stops =
      let first : StopsPut held failures old new 0 (front_of h.tables ++ stored t) written =
      puts_then held failures (λ (n : ℕ). n) old mid new 0 done (front_of h.tables) (stored t)
      (Err (record { written = written })) h.put stops in
      let whole = front_push h.tables t in
      let count : written ≡ first.some = omega (arith, first.written_is) in
      begun t written passes table (omega (arith, count, first.first.within, ap length whole))
      (subst (Appends (held old) (held new)) (λ i. take (sym count i) (whole i)) first.first.gained)

-- nothing stands after the end record
pub put_end : {W : Type 0} (a b c : Option (List ℕ)) (held : W → Option (List ℕ)) (failures : W → ℕ) (old new : W)
    (entries : List IndexEntry) (position : Position) (done : ℕ)
    → HasPutAll a b held failures old new entries position done → Consumes b c []
    → HasPutAll a c held failures old new entries position done
put_end a b c held failures old new entries position done h none = record {
  records = h.records;
  tables = h.tables;
  read = record {
    taken = subst (Consumes a c) (append-nil (text_of Archive h.records)) (Consumes-then a b c (text_of Archive h.records) [] h.read.taken none);
    ordered = h.read.ordered;
    apart = h.read.apart;
    few = h.read.few;
    ended = tt;
    offset_is = h.read.offset_is;
    retired_are = h.read.retired_are;
  };
  tabled = h.tabled;
  put = h.put;
}

-- reading stopped after some records, whose tables were written
pub begun_where : {W : Type 0} (a c : Option (List ℕ)) (held : W → Option (List ℕ)) (failures : W → ℕ) (old new : W)
    (records tables : List (List ℕ)) (done : ℕ) (fault : RecordFault) → Stopped Archive a c records fault
    → AllZip IsTableOf records tables → IsPut held failures old new 0 (front_of tables) done
    → HasBegun a c (held old) (held new) done
begun_where a c held failures old new records tables done fault stopped each put = record {
  records = records;
  tables = tables;
  rest = stopped.rest;
  taken = stopped.taken;
  ordered = stopped.ordered;
  apart = stopped.apart;
  each = each;
  within = omega (arith, put.size_is);
  gained = subst (Appends (held old) (held new)) (sym (take_all done (front_of tables) (omega (arith, put.size_is)))) put.gained;
}

-- ---- where making stopped

-- nothing more was written
put_kept : {W : Type 0} (held : W → Option (List ℕ)) (failures : W → ℕ) (old mid new : W) (done : ℕ) (text : List ℕ)
    → IsPut held failures old mid 0 text done → Appends (held mid) (held new) [] → failures new ≡ failures mid
    → IsPut held failures old new 0 text done
put_kept held failures old mid new done text put none same = record {
  size_is = put.size_is;
  gained = subst (Appends (held old) (held new)) (append-nil text) (Appends-then (held old) (held mid) (held new) text [] put.gained none);
  unfailed = same ∙ put.unfailed;
}

-- reading stopped after records whose tables were written
pub refused_where : {W : Type 0} (a c : Option (List ℕ)) (held : W → Option (List ℕ)) (failures : W → ℕ) (old new : W)
    (records tables : List (List ℕ)) (done : ℕ) (fault : RecordFault) → Stopped Archive a c records fault
    → AllZip IsTableOf records tables → IsPut held failures old new 0 (front_of tables) done
    → HasStoppedMaking a c held failures old new (Refused (Archive_fault fault))
refused_where a c held failures old new records tables done fault stopped each put =
    (inr (Archive, refl, records, stopped), put.unfailed, (done, inr (begun_where a c held failures old new records tables done fault stopped each put)))

-- memory ran out after all records
pub memory_stopped : {W : Type 0} (a b : Option (List ℕ)) (held : W → Option (List ℕ)) (failures : W → ℕ) (old new : W)
    (entries : List IndexEntry) (position : Position) (done : ℕ)
    → HasPutAll a b held failures old new entries position done
    → HasStoppedMaking a b held failures old new (Refused (Archive_fault (record { kind = OutOfMemory; offset = position.offset })))
memory_stopped a b held failures old new entries position done h =
    let s = Stopped-end Archive refl a b b h.records position h.read (Consumes-none b) in
    refused_where a b held failures old new h.records h.tables done (record { kind = OutOfMemory; offset = position.offset })
    (record {
      rest = s.rest;
      taken = s.taken;
      ordered = s.ordered;
      apart = s.apart;
      few = s.few;
      unended = λ known. absurd (known.1 refl);
      stops = inl (h.read.offset_is, λ known. absurd (known refl));
      undecided = λ machine. s.undecided (inl refl);
    }) h.tabled.each h.put

module _ {W : Type 0} (a b c : Option (List ℕ)) (held : W → Option (List ℕ)) (failures : W → ℕ) (old mid new : W)
    (entries : List IndexEntry) (before after : Position) (done : ℕ)
    (h : HasPut a b held failures old mid entries before done) where
  -- the next record is refused
  pub next_stopped : (fault : RecordFault) → StopsAt b c before fault → HasStoppedMaking a c held failures old mid (Refused (Archive_fault fault))
  next_stopped fault stop = refused_where a c held failures old mid h.records h.tables done fault
      (Stopped-fails Archive a b c h.records before fault h.read stop) h.tabled.each h.put

  too_far : Passes b c before after → Appends (held mid) (held new) [] → failures new ≡ failures mid
      → (2 ^ 64 ≤ before.offset) ⊎ (2 ^ 64 ≤ done) → HasStoppedMaking a c held failures old new (Refused TooLong)
  too_far passes none same far =
      let read = HasRead-grows Archive a b c h.records before after h.read passes in
      let put = put_kept held failures old mid new done (front_of h.tables) h.put none same in (
        record {
          records = h.records;
          next = after.last;
          tables = h.tables;
          taken = read.taken;
          ordered = read.ordered;
          apart = read.apart;
          each = h.tabled.each;
          gained = put.gained;
          far = elim far [
            | inl n ↦ inl (omega (arith, n, h.read.offset_is, length-append magic (concat h.records)))
            | inr n ↦ inr (omega (arith, n, put.size_is))
          ];
        },
        put.unfailed,
        (
          done,
          inr (begun_where a c held failures old new h.records h.tables done _
              (Stopped-unkept Archive a b c h.records before after h.read passes) h.tabled.each put),
        ),
      )

  -- the table of the next record was not written
  pub record_stopped : (fault : MakingFault) → Passes b c before after
      → StopsRecord held failures mid new before.offset done after.last fault
      → HasStoppedMaking a c held failures old new fault
  record_stopped (Refused TooLong) passes stops = too_far passes stops.0 stops.1 stops.2
  record_stopped (Refused OldArchive) passes stops = absurd stops
  record_stopped (Refused (Archive_fault fault)) passes stops =
      refused_where a c held failures old new h.records h.tables done fault
      (subst (Stopped Archive a c h.records) (sym stops.2)
      (Stopped-unkept Archive a b c h.records before after h.read passes)) h.tabled.each
      (put_kept held failures old mid new done (front_of h.tables) h.put stops.0 stops.1)
  record_stopped (Wrote fault) passes stops = (
    subst (λ (n : ℕ). FailedIn n (failures new)) h.put.unfailed stops.2.failed,
    inr (begun_in a b c held failures old mid new entries before after done h stops.0 fault.written passes stops.1 stops.2),
  )

  -- it was written, but its entry was not kept
  pub unkept : (t : List ℕ) (end : ℕ) → Passes b c before after → IsTableOf after.last t
      → IsPut held failures mid new done (stored t) end
      → HasStoppedMaking a c held failures old new (Refused
      (Archive_fault (record { kind = OutOfMemory; offset = before.offset })))
  unkept t end passes table put = (
    inr (Archive, refl, h.records, Stopped-unkept Archive a b c h.records before after h.read passes),
    put.unfailed ∙ h.put.unfailed,
    (end, inr (begun_next a b c held failures old mid new entries before after done h t end passes table put)),
  )

-- no record was read yet
module _ {W : Type 0} (a b : Option (List ℕ)) (held : W → Option (List ℕ)) (failures : W → ℕ) (old new : W)
    (position : Position) (read : HasRead Archive a b [] position) where
  begun_none : (n : ℕ) → n ≤ 8 → Appends (held old) (held new) (take n index_magic) → HasBegun a b (held old) (held new) n
  begun_none n within gained = record {
    records = [];
    tables = [];
    rest = [];
    taken = read.taken;
    ordered = tt;
    apart =
        read.apart;
    each = tt;
    within = within;
    gained = gained;
  }

  -- the writer failed in the magic
  pub magic_stopped : (first : List ℕ) (written : ℕ) → first ≡ index_magic
      → StopsPut held failures old new 0 first written → FailedIn (failures old) (failures new)
      × IsBegun a b (held old) (held new) written
  magic_stopped first written same stops =
      let count : written ≡ stops.some = omega (arith, stops.written_is) in (
        stops.failed,
        inr (begun_none written (omega (arith, count, stops.first.within, ap length same))
            (subst (Appends (held old) (held new)) (λ i. take (sym count i) (same i)) stops.first.gained)),
      )

-- nothing was written yet
pub none_stopped : {W : Type 0} (a b : Option (List ℕ)) (held : W → Option (List ℕ)) (failures : W → ℕ) (w : W)
    (fault : IndexingFault) → HasStoppedIndexing a b fault → (fault ≡ TooLong → ⊥)
    → HasStoppedMaking a b held failures w w (Refused fault)
none_stopped a b held failures w TooLong stopped short = absurd (short refl)
none_stopped a b held failures w fault stopped short = (stopped, refl, (0, inl (refl, Appends-none (held w))))

-- whom a fault blames after a step in which the reader did not fail
pub making_behind : {R : Type 0} (left : R → Option (List ℕ)) (failures : R → ℕ) (old mid new : R) → failures mid
    ≡ failures old → (fault : MakingFault) → BlamesMaking left failures mid new fault
    → BlamesMaking left failures old new fault
making_behind left failures old mid new same (Refused fault) blames = indexing_behind left failures old mid new same fault blames
making_behind left failures old mid new same (Wrote fault) kept = kept ∙ same
