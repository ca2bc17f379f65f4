-- What was written so far is a beginning of the index of the content whose text the input is; and the index that was made.
use Rattle.std.proofs.Common.{◌≡◌, ℕ, ◌+◌, ◌<◌, ◌≤◌, List, [], ◌∷◌, ◌++◌, length, take, Option, Some, None, refl, sym, ap, ◌∙◌, ◌⊎◌}
use Rattle.std.proofs.Common.{◌^◌, subst, inl, inr, arith, append_assoc, length-append, map, Err, Ok}
use Rattle.std.specs.List.{All, AllZip, concat}
use Rattle.std.specs.Io.KnownBytes.{Appends, Consumes, IsAtEnd}
use Rattle.std.proofs.lemmas.List.{append-nil, take-append-le, length-take-le}
use Rattle.std.proofs.lemmas.List.Concat.{flat_map-append}
use Rattle.join_core.specs.Listing.{listing}
use Rattle.byte_device.specs.Writes.{WritesFirst, IsPut, StopsPut}
use Rattle.table_checked_pages.specs.Pages.{stored}
use Rattle.table_symbols.specs.Steps.{AreBytes}
use Rattle.archive_core.specs.Content.{Operations, IsContent}
use Rattle.archive_records.specs.Kind.{magic}
use Rattle.archive_records.specs.Text.{AreApart, InOrder, end_record, written, IsArchiveOf, text_of}
use Rattle.archive_records.specs.declared.format.Format.TheVariants.{Archive as Archive_format}
use Rattle.archive_records.proofs.Contents.{InOrder-listing, written_text, order, sorted-InOrder, written-records}
use Rattle.archive_records.proofs.Ends.{end-is_end}
use Rattle.archive_records.proofs.Puts.{concat-push, length_written}
use Rattle.archive_records.proofs.Longest.{behind_magic, end-stops, longest}
use Rattle.index_format.specs.Text.{index_magic}
use Rattle.index_build.specs.Content.{IsIndexOf, IsTableOf, entries_of, front_of, tables_text}
use Rattle.index_build.specs.Making.{IsBegun, IsTooFar, AreNear, IsMade, IsRefused, IsStopped, Makes, RefusesToMake}
use Rattle.index_format.specs.Text.{archive_length, end_of, index_text}
use Rattle.index_build.proofs.Contents.{HaveOneTable, archive_long, as_many, one_of_content, same_table, slices_are_bytes}
use Rattle.index_format.proofs.IndexTexts.{end_long}
use Rattle.std.specs.Prelude.{IfSome}
use Rattle.std.specs.FinSet as set
use Rattle.std.specs.Cmp.Lexicographic.{nat_list_cmp_total}
use Rattle.std.proofs.Math.ListN.{length-map}
use Rattle.join_core.proofs.Listing.{listing_ascending}
use Rattle.byte_device.specs.Devices.{stream}
use Rattle.byte_device.specs.declared.writing.WriteFault.{WriteFault}
use Rattle.byte_device.proofs.Gains.{puts_then}
use Rattle.archive_core.proofs.Made.{bytes_same}
use Rattle.archive_records.specs.Reading.{IsReadWhole}
use Rattle.archive_records.specs.Reader.{Position, set_of}
use Rattle.archive_records.specs.declared.kind.TextKind.TheVariants.{Archive}
use Rattle.archive_records.specs.declared.writing.Sizes.{Sizes}
use Rattle.archive_records.proofs.Inputs.{IsReadTo, read_whole, all_taken as taken_whole}
use Rattle.index_format.specs.Making.{TellsVersion}
use Rattle.index_format.specs.declared.fault.IndexingFault.{IndexingFault}
use Rattle.index_format.specs.declared.fault.IndexingFault.TheVariants.{Archive as Archive_fault, OldArchive, TooLong}
use Rattle.index_format.proofs.Made.{refused as indexing_refused, text_along}
use Rattle.index_format.specs.Entry.{entry_bytes}
use Rattle.index_format.specs.declared.entry.IndexEntry.{IndexEntry}
use Rattle.index_build.specs.InnerMaking.{BlamesMaking, HasPutAll, HasStoppedMaking, TellsVersionMaking}
use Rattle.index_build.specs.declared.fault.MakingFault.{MakingFault}
use Rattle.index_build.specs.declared.fault.MakingFault.TheVariants.{Archive as Refused, Write as Wrote}

-- records that were read of the text of a content begin its records
records_begin : (o : Operations) (records : List (List ℕ)) (rest : List ℕ) (b : Option (List ℕ)) → IsContent o → InOrder Archive_format [] records
    → AreApart Archive_format records → Consumes (Some (written o)) b (magic ++ (concat records ++ rest))
    → (more : List (List ℕ)) × (listing o ≡ records ++ more)
records_begin o records rest None content ordered apart taken = absurd taken
records_begin o records rest (Some left) content ordered apart taken =
    let n : ℕ = length (listing o) in
    let theirs : written o ≡ magic ++ (concat (listing o) ++ end_record n) = written_text o in
    let mine : written o ≡ magic ++ (concat records ++ (rest ++ left)) =
    taken ∙ append_assoc magic (concat records ++ rest) left ∙ ap (λ (t : List ℕ). magic ++ t) (append_assoc (concat records) rest left) in
    let same = behind_magic Archive_format (written o) (concat (listing o) ++ end_record n) (concat records ++ (rest ++ left)) theirs mine in
    let before =
    longest Archive_format (listing o) records (end_record n) (rest ++ left) (InOrder-listing o content) ordered apart same
    (λ goes. end-stops Archive_format _ (end_record n) (end-is_end n) goes.next) in
    (before.more, before.records)

-- their tables begin those of all
tables_begin : HaveOneTable → (rs more ts us : List (List ℕ)) → AllZip IsTableOf (rs ++ more) ts
    → AllZip IsTableOf rs us → (vs : List (List ℕ)) × (ts ≡ us ++ vs)
tables_begin once [] more ts [] a b = (ts, refl)
tables_begin once (r ∷ rs) more [] us a b = absurd a
tables_begin once (r ∷ rs) more (t ∷ ts) (u ∷ us) a b =
    let n = tables_begin once rs more ts us a.1 b.1 in
    (n.0, cc (same_table once r t u a.0 b.0, n.1))
tables_begin once rs more ts us a b = absurd b

-- the front of an index, and some bytes more
pub record IsFrontOf (front index : List ℕ) : Type 0 where
  pub more : List ℕ
  pub whole : index ≡ front ++ more
  pub some : 0 < length more

front_begins : HaveOneTable → (o : Operations) (index : List ℕ) (records tables more : List (List ℕ))
    → IsIndexOf o index → listing o ≡ records ++ more → AllZip IsTableOf records tables
    → IsFrontOf (front_of tables) index
front_begins once o index records tables more is begins each =
    let all = tables_begin once records more is.tables tables (subst (λ (rs : List (List ℕ)). AllZip IsTableOf rs is.tables) begins is.each) each in
    let entries : List (List ℕ) = entries_of (listing o) is.tables in
    let behind : List ℕ = stored (concat entries) ++ end_of entries in
    let text : tables_text is.tables ≡ tables_text tables ++ tables_text all.0 = ap tables_text all.1 ∙ flat_map-append stored tables all.0 in
    record {
      more = tables_text all.0 ++ behind;
      whole = is.text_is
          ∙ ap (λ (t : List ℕ). index_magic ++ (t ++ behind)) text
          ∙ ap (λ (t : List ℕ). index_magic ++ t) (append_assoc (tables_text tables) (tables_text all.0) behind)
          ∙ sym (append_assoc index_magic (tables_text tables) (tables_text all.0 ++ behind));
      some = omega (arith, length-append (tables_text all.0) behind, length-append (stored (concat entries)) (end_of entries), end_long entries);
    }

-- what was begun
pub first_of : HaveOneTable → (a b c d : Option (List ℕ)) (n : ℕ) (o : Operations) (index : List ℕ) → IsBegun a b c d n
    → IsContent o → a ≡ Some (written o) → IsIndexOf o index → WritesFirst c d index n
first_of once a b c d n o index (inl nothing) content known is =
    let front = front_begins once o index [] [] (listing o) is refl tt in
    record {
      within = omega (arith, nothing.0, ap length front.whole, length-append (front_of []) front.more, front.some);
      gained = subst (λ (k : ℕ). Appends c d (take k index)) (sym nothing.0) nothing.1;
    }
first_of once a b c d n o index (inr begun) content known is =
    let there = records_begin o begun.records begun.rest b content begun.ordered begun.apart
    (subst (λ x. Consumes x b (magic ++ (concat begun.records ++ begun.rest))) known begun.taken) in
    let front = front_begins once o index begun.records begun.tables there.0 is there.1 begun.each in
    let same : take n index ≡ take n (front_of begun.tables) = ap (take n) front.whole ∙ take-append-le n (front_of begun.tables) front.more begun.within in
    record {
      within = omega (arith, begun.within, ap length front.whole, length-append (front_of begun.tables) front.more, front.some);
      gained = subst (Appends c d) (sym same) begun.gained;
    }

-- what was taken is no longer than the text
n_before : (text : List ℕ) (b : Option (List ℕ)) (records : List (List ℕ)) (next : List ℕ)
    → Consumes (Some text) b (magic ++ (concat (records ++ next ∷ []) ++ []))
    → 2 ^ 64 ≤ length (magic ++ concat records) → 2 ^ 64 ≤ length text
n_before text None records next taken n = absurd taken
n_before text (Some left) records next taken n =
    let all : List ℕ = concat (records ++ next ∷ []) in
    omega (
      arith,
      n,
      ap length taken,
      length-append (magic ++ (all ++ [])) left,
      length-append magic (all ++ []),
      length-append all [],
      ap length (concat-push records next),
      length-append (concat records) next,
      length-append magic (concat records),
    )

-- the records that were taken, and the front that was written, before what stands too far
module _ (once : HaveOneTable) (a b c d : Option (List ℕ)) (far : IsTooFar a b c d) (o : Operations) (index : List ℕ)
    (content : IsContent o) (known : a ≡ Some (written o)) (is : IsIndexOf o index) where
  taken_far : Consumes (Some (written o)) b (magic ++ (concat (far.records ++ far.next ∷ []) ++ []))
  taken_far =
      let none : concat (far.records ++ far.next ∷ []) ≡ concat (far.records ++ far.next ∷ [])
      ++ [] = sym (append-nil (concat (far.records ++ far.next ∷ []))) in
      subst (λ x. Consumes x b (magic ++ (concat (far.records ++ far.next ∷ []) ++ []))) known
      (subst (λ (t : List ℕ). Consumes a b (magic ++ t)) none far.taken)

  front_far : IsFrontOf (front_of far.tables) index
  front_far =
      let there = records_begin o (far.records ++ far.next ∷ []) [] b content far.ordered far.apart taken_far in
      front_begins once o index far.records far.tables (far.next ∷ there.0) is (there.1 ∙ append_assoc far.records (far.next ∷ []) there.0) far.each

  -- so the archive or its index is too long
  pub long_far : (2 ^ 64 ≤ length (written o)) ⊎ (2 ^ 64 ≤ length index)
  long_far = elim far.far [
    | inl n ↦ inl (n_before (written o) b far.records far.next taken_far n)
    | inr n ↦ inr (let front = front_far in omega (arith, n, ap length front.whole, length-append (front_of far.tables) front.more))
  ]

pub not_far : HaveOneTable → (o : Operations) (index : List ℕ) (left held_old held_new : Option (List ℕ)) → IsContent o
    → IsIndexOf o index → length (written o) < 2 ^ 64 → length index < 2 ^ 64
    → IsTooFar (Some (written o)) left held_old held_new → ⊥
not_far once o index left held_old held_new content is short fits far =
    elim (long_far once (Some (written o)) left held_old held_new far o index content refl is) [
      | inl n ↦ omega (arith, n, short)
      | inr n ↦ omega (arith, n, fits)
    ]

-- ---- the index that was made

-- the bytes that were written
pub gained_bytes : (a b c d : Option (List ℕ)) (n : ℕ) → IsBegun a b c d n → (bytes : List ℕ) × Appends c d bytes × (n ≡ length bytes)
gained_bytes a b c d n (inl nothing) = ([], nothing.1, nothing.0)
gained_bytes a b c d n (inr begun) = (take n (front_of begun.tables), begun.gained, sym (length-take-le n (front_of begun.tables) begun.within))

module _ {R W : Type 0} (once : HaveOneTable) (left : R → Option (List ℕ)) (failures : R → ℕ)
    (held : W → Option (List ℕ)) (writes : W → ℕ) (old new : R) (start end : W) where
  -- an archive is refused
  refused : (fault : IndexingFault) → RefusesToMake (stream left failures old new) (stream held writes start end) fault → TellsVersion (left old) fault
      → writes end ≡ writes start → ((n : ℕ) × IsBegun (left old) (left new) (held start) (held end) n)
      → IsRefused (stream left failures old new) (stream held writes start end) fault
  refused fault refuses version unfailed begun = record {
    refused = refuses;
    version = version;
    unfailed = unfailed;
    count = begun.0;
    begun = begun.1;
    first = λ o index content known is. first_of once (left old) (left new) (held start) (held end) begun.0 o index begun.1 content known is;
  }

  -- no index was made
  pub stopped : (fault : MakingFault) → HasStoppedMaking (left old) (left new) held writes start end fault
      → BlamesMaking left failures old new fault → TellsVersionMaking (left old) fault
      → Makes (stream left failures old new) (stream held writes start end) (Err fault)
  stopped (Refused (Archive_fault fault)) s blames version =
      refused (Archive_fault fault) (indexing_refused left failures old new (Archive_fault fault) s.0 blames) version s.1 s.2
  stopped (Refused OldArchive) s blames version = refused OldArchive (s.0, blames) version s.1 s.2
  stopped (Refused TooLong) s blames version = refused TooLong (s.0, blames) version s.1 s.2
  stopped (Wrote fault) s blames version =
      let gained = gained_bytes (left old) (left new) (held start) (held end) fault.written s.1 in
      record {
        unfailed = blames;
        failed = s.0;
        bytes = gained.0;
        took = gained.1;
        count = gained.2;
        begun = inl s.1;
        first = λ o index content known is. first_of once (left old) (left new) (held start) (held end) fault.written o index s.1 content known is;
      }

  -- all records were read and their tables written, and these are their entries
  module _ (mid : W) (entries sorted : List IndexEntry) (position : Position) (done : ℕ)
      (all : HasPutAll (left old) (left new) held writes start mid entries position done) (at_end : IsAtEnd (left new))
      (unfailed : failures new ≡ failures old) (is : map entry_bytes sorted
      ≡ listing (set.from_list {R = order} (map entry_bytes entries))) where
    abbrev content : Operations
    content = set_of all.records

    abbrev items : List (List ℕ)
    items = entries_of all.records all.tables

    abbrev behind : List ℕ
    behind = stored (concat items) ++ end_of items

    abbrev index : List ℕ
    index = index_text (tables_text all.tables) items

    listed : listing content ≡ all.records
    listed = listing_ascending nat_list_cmp_total bytes_same all.records (sorted-InOrder [] all.records all.read.ordered).1

    items_are : map entry_bytes sorted ≡ items
    unfolding entries_of
    items_are = is ∙ ap (λ (xs : List (List ℕ)). listing (set.from_list {R = order} xs)) all.tabled.entries_are

    whole : IsReadWhole Archive content left failures old new
    whole =
        let read : IsReadTo Archive (left old) (left new) content =
        record {
          format = Archive_format;
          kind_is = refl;
          records = all.records;
          few = all.read.few;
          taken =
              all.read.taken;
          ordered = all.read.ordered;
          apart = all.read.apart;
          makes = refl;
        } in
        read_whole Archive content left failures old new read at_end unfailed

    text : IfSome (left old) (λ t. t ≡ written content)
    text = text_along (left old) (text_of Archive_format all.records) (written content)
        (sym (written-records all.records all.read.ordered))
        (taken_whole (left old) (left new) (text_of Archive_format all.records) all.read.taken at_end)

    abbrev is_index : IsIndexOf content index
    is_index = record {
      tables = all.tables;
      each = subst (λ (rs : List (List ℕ)). AllZip IsTableOf rs all.tables) (sym listed) all.tabled.each;
      text_is = ap (λ (rs : List (List ℕ)). index_text (tables_text all.tables) (entries_of rs all.tables)) (sym listed);
    }

    index_is : front_of all.tables ++ (stored (concat (map entry_bytes sorted)) ++ end_of (map entry_bytes sorted)) ≡ index
    index_is = ap (λ (es : List (List ℕ)). front_of all.tables ++ (stored (concat es) ++ end_of es)) items_are
        ∙ append_assoc index_magic (tables_text all.tables) behind

    records_are : length sorted ≡ set.len content
    records_are =
        sym (length-map sorted entry_bytes) ∙ ap length items_are ∙ as_many all.records all.tables all.read.ordered all.tabled.near all.tabled.each
        ∙ sym (ap length listed) ∙ length_written content

    -- the end record was read at the offset of the last position
    pub long_is : archive_length (map entry_bytes sorted) ≡ position.offset + 9
    long_is =
        let long = archive_long all.records all.tables all.read.ordered all.tabled.near all.tabled.each in
        ap (λ (es : List (List ℕ)). archive_length es) items_are ∙ omega (arith, long, all.read.offset_is)

    pub made : (sizes : Sizes) → IsPut held writes mid end done
        (stored (concat (map entry_bytes sorted)) ++ end_of (map entry_bytes sorted)) sizes.bytes → sizes.records ≡ length sorted
        → IsMade (stream left failures old new) (stream held writes start end) sizes
    made sizes put count =
        let puts = subst (λ (t : List ℕ). IsPut held writes start end 0 t sizes.bytes) index_is
        (puts_then held writes (λ (s : Sizes). s.bytes) start mid end 0 done (front_of all.tables)
        (stored (concat (map entry_bytes sorted)) ++ end_of (map entry_bytes sorted)) (Ok sizes) all.put put) in
        record {
          content = content;
          whole = whole;
          text = text;
          index = index;
          is_index = is_index;
          slices = slices_are_bytes content (subst (All AreBytes) (sym listed) all.tabled.bytes);
          near = subst (λ (rs : List (List ℕ)). AreNear 8 8 rs all.tables) (sym listed) all.tabled.near;
          put = record { written = puts.gained; records_are = count ∙ records_are; bytes_are = omega (arith, puts.size_is); unfailed = puts.unfailed };
        }

    -- another content of which the input is the text has this index
    same_index : (o : Operations) (other : List ℕ) → IsContent o → left old ≡ Some (written o) → IsIndexOf o other → other ≡ index
    same_index o other is_content known is_other =
        let alone = subst (λ (x : Option (List ℕ)). IfSome x (λ t. (p : Operations) → IsContent p → IsArchiveOf p t → content ≡ p)) known whole.alone in
        let same : content ≡ o = alone o is_content (inl refl) in
        one_of_content once content other index (subst (λ (p : Operations). IsIndexOf p other) (sym same) is_other) is_index

    -- the writer failed in the entries
    pub stopped_behind : (fault : WriteFault) → StopsPut held writes mid end done
        (stored (concat (map entry_bytes sorted)) ++ end_of (map entry_bytes sorted)) fault.written
        → IsStopped (stream left failures old new) (stream held writes start end) fault
    stopped_behind fault stops =
        let puts = subst (λ (t : List ℕ). StopsPut held writes start end 0 t fault.written) index_is
        (puts_then held writes (λ (s : Sizes). s.bytes) start mid end 0 done (front_of all.tables)
        (stored (concat (map entry_bytes sorted)) ++ end_of (map entry_bytes sorted)) (Err fault) all.put stops) in
        let count : puts.some ≡ fault.written = omega (arith, puts.written_is) in
        let first : WritesFirst (held start) (held end) index fault.written = subst (WritesFirst (held start) (held end) index) count puts.first in
        record {
          unfailed = unfailed;
          failed = puts.failed;
          bytes = take fault.written index;
          took = first.gained;
          count = sym (length-take-le fault.written index (omega (arith, first.within)));
          begun = inr (record { content = content; whole = whole; index = index; is_index = is_index; first = first });
          first = λ o other is_content known is_other. subst
              (λ (t : List ℕ). WritesFirst (held start) (held end) t fault.written)
              (sym (same_index o other is_content known is_other)) first;
        }
