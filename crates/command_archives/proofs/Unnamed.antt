-- A copy of those records of an archive that a summary does not name: as it goes, and by the texts.
use Rattle.std.proofs.Common.{◌≡◌, ℕ, ◌+◌, List, [], ◌∷◌, ◌++◌, length, Option, Some, Result, Ok, Err, refl, sym, ap, ◌∙◌, subst, arith, inl, inr}
use Rattle.std.proofs.Common.{length-append, ◌≤◌, ◌<◌, take, MatchResult, ◌⊎◌, append_assoc, length-take-le}
use Rattle.std.specs.Prelude.{IfOk, IfErr, OnOk, not, IfSome}
use Rattle.std.proofs.lemmas.List.{append-nil, take_all, take-append-le}
use Rattle.std.proofs.lemmas.List.Elements.{filter-append}
use Rattle.std.proofs.lemmas.Result.{IfErr-weaker}
use Rattle.std.proofs.lemmas.List.Folds.{concat-append}
use Rattle.std.specs.List.{concat}
use Rattle.std.specs.FinSet as set
use Rattle.std.specs.Io.KnownBytes.{Appends, Consumes, IsAtEnd}
use Rattle.archive_core.specs.Summary.{Entries, entry, delta}
use Rattle.archive_records.specs.declared.fault.MergeCause.{MergeCause}
use Rattle.archive_records.specs.declared.fault.MergeCause.TheVariants.{Left, Right, Write}
use Rattle.archive_records.specs.declared.fault.MergeFault.{MergeFault}
use Rattle.archive_records.specs.declared.format.Format.{Format}
use Rattle.archive_records.specs.declared.kind.TextKind.TheVariants.{Archive as Archive_text}
use Rattle.archive_records.specs.declared.fault.RecordFault.{RecordFault}
use Rattle.archive_records.specs.declared.writing.Sizes.{Sizes}
use Rattle.archive_records.specs.Kind.{end_length, kind_of, magic, magic_of}
use Rattle.archive_records.specs.Reader.{GathersAll, HasRead, HasReadAll, IsGathered, Position, Stopped, set_of}
use Rattle.archive_records.specs.Text.{end_record, ending, missing, taken_of, text_of, written, AreApart, InOrder, IsArchiveOf}
use Rattle.archive_records.proofs.Blamed.{blames_behind}
use Rattle.archive_records.proofs.Gathered.{gathered}
use Rattle.archive_records.proofs.TakenRecords.{taken_none}
use Rattle.archive_merge.proofs.Starts.{counts_of}
use Rattle.byte_device.specs.Devices.{FailedIn, stream}
use Rattle.byte_device.specs.Writes.{WritesFirst}
use Rattle.byte_device.proofs.Known.{Appends-then, Consumes-then}
use Rattle.byte_device.proofs.Gains.{stopped}
use Rattle.command_archives.specs.Copying.{BlamesDevices, BlamesOne, HasDraft, IsCause, IsCopied, IsCopiedUpTo, IsCopiedWhole, ReadsAfterMagic, StopsEnd}
use Rattle.command_archives.specs.Copying.{StopsRecords, copy_of, CopiesUnnamed, IsCopiedToEnd, StopsCopy, StopsCopyBy}
use Rattle.archive_core.specs.Content.{Operations, IsContent, content_of}
use Rattle.archive_core.proofs.Summaries.{delta_content}
use Rattle.archive_records.specs.declared.format.Format.TheVariants.{Archive, OldArchive, Operations as Operations_file, Summary as Summary_file}
use Rattle.archive_records.proofs.Ends.{length-end_record}
use Rattle.archive_records.proofs.Formats.{in_order_of, in_order_old, no_operations_text, no_summary_text}
use Rattle.archive_records.proofs.Inputs.{read_whole, refused}
use Rattle.archive_records.proofs.KeptRecords.{behind, kept_more}
use Rattle.archive_records.proofs.Made.{read_to, taken_listing}
use Rattle.archive_records.proofs.Puts.{delta_count, delta_parts}
use Rattle.archive_records.proofs.Versions.{Formed, formed, formed_content, formed_text, one_content}
use Rattle.archive_merge.specs.Merging.{AreGoodRecords, IsArchiveText, IsBegun}
use Rattle.archive_merge.proofs.Fronts.{before, front_of, taken_made, taken_rest, text_whole, whole_front}
use Rattle.archive_merge.proofs.Unread.{first_no_text}
use Rattle.command_archives.proofs.Beginnings.{good_formed}
use Rattle.command_archives.proofs.Begun.{no_bytes}

-- what is written of records and of one more
pub copy_more : (s : Entries) (records : List (List ℕ)) (x : List (List ℕ)) → copy_of s (records ++ x) ≡ copy_of s records ++ concat (missing s x)
copy_more s records x = rw (filter-append (λ r. not (set.contains s (entry r))) records x, concat-append (missing s records) (missing s x)) refl

module _ (s : Entries) (w0 w1 w2 : Option (List ℕ)) (records : List (List ℕ)) (x : List ℕ) (old : Sizes) (c : IsCopied s w0 w1 records old) where
  abbrev one : List ℕ
  one = concat (missing s (x ∷ []))

  pub copied_more : (new : Sizes) → new.bytes ≡ old.bytes + length one → new.records
      ≡ old.records + length (missing s (x ∷ [])) → Appends w1 w2 one → IsCopied s w0 w2 (records ++ x ∷ []) new
  copied_more new b n p =
      let whole = copy_more s records (x ∷ []) in
      let more = filter-append (λ r. not (set.contains s (entry r))) records (x ∷ []) in
      record {
        gained = subst (Appends w0 w2) (sym whole) (Appends-then w0 w1 w2 (copy_of s records) one c.gained p);
        bytes_are = omega (arith, b, c.bytes_are, ap length whole, length-append (copy_of s records) one);
        records_are = omega (arith, n, c.records_are, ap length more, length-append (missing s records) (missing s (x ∷ [])));
      }

  -- the writer failed within it
  pub copied_in : (written k : ℕ) → written ≡ old.bytes + k → WritesFirst w1 w2 one k → WritesFirst w0 w2 (copy_of s (records ++ x ∷ [])) written
  copied_in written k is p =
      let whole : copy_of s (records ++ x ∷ []) ≡ copy_of s records ++ (one ++ []) = copy_more s records (x ∷ [])
      ∙ ap (λ (t : List ℕ). copy_of s records ++ t) (sym (append-nil one)) in
      subst (WritesFirst w0 w2 (copy_of s (records ++ x ∷ []))) (sym is)
      (stopped w0 w1 w2 (copy_of s records) one [] (copy_of s (records ++ x ∷ [])) old.bytes k c.bytes_are whole
      c.gained p)

-- reading stopped after the records
pub copied_to : (file : Format) (s : Entries) (a b w0 w1 : Option (List ℕ)) (records : List (List ℕ))
    (fault : RecordFault) (sizes : Sizes) → Stopped file a b records fault
    → IsCopied s w0 w1 (taken_of file records) sizes → IsCopiedUpTo file s a b w0 w1 sizes.bytes
copied_to file s a b w0 w1 records fault sizes stop c = record {
  records = records;
  rest = stop.rest;
  taken = stop.taken;
  ordered = stop.ordered;
  apart = stop.apart;
  within = omega (arith, c.bytes_are);
  gained = let all = copy_of s (taken_of file records) in rw (c.bytes_are, take_all (length all) all (omega arith)) c.gained;
}

-- the writer failed within the last of the records that were read
pub copied_within : (file : Format) (s : Entries) (a b w0 w1 : Option (List ℕ)) (records : List (List ℕ))
    (position : Position) (n : ℕ) → HasRead file a b records position
    → WritesFirst w0 w1 (copy_of s (taken_of file records)) n → IsCopiedUpTo file s a b w0 w1 n
copied_within file s a b w0 w1 records position n read p = record {
  records = records;
  rest = [];
  taken = rw append-nil read.taken;
  ordered = read.ordered;
  apart = read.apart;
  within = let lt = p.within in omega (arith, lt);
  gained = p.gained;
}

-- ---- its beginning

-- the writer failed within the magic
pub begun_within : (s : Entries) (a b w0 w1 : Option (List ℕ)) (position : Position) (n k : ℕ) (x : List ℕ)
    → HasRead position.file a b [] position → x ≡ magic → n ≡ 0 + k → WritesFirst w0 w1 x k
    → IsCopiedUpTo position.file s a b w0 w1 n
begun_within s a b w0 w1 position n k x read is e p =
    let same : n ≡ k = omega arith in
    copied_within position.file s a b w0 w1 [] position n read (rw (taken_none position.file, same) (rw is at p))

pub begun_copied : (s : Entries) (w0 w1 : Option (List ℕ)) (n : ℕ) → n ≡ 8 → Appends w0 w1 magic → IsCopied s w0 w1 [] (record { records = 0; bytes = n })
begun_copied s w0 w1 n is p = record { gained = p; bytes_are = is; records_are = refl }

-- and so the magic was read
pub read_behind_magic : (file : Format) → kind_of file ≡ Archive_text → (a b : Option (List ℕ)) (position : Position)
    → HasRead file a b [] position → ReadsAfterMagic a b
read_behind_magic file k a b position read = (file, k, [], read.taken)

pub cause_of : (file : Format) → kind_of file ≡ Archive_text
    → (s : Entries) (a b w0 w1 : Option (List ℕ)) (n : ℕ) (cause : MergeCause) → StopsRecords file a b cause
    → IsCopiedUpTo file s a b w0 w1 n → IsCause a b cause
cause_of file k s a b w0 w1 n (Left fault) st u = inr (file, k, st.0, st.1)
cause_of file k s a b w0 w1 n (Right fault) st u = absurd st
cause_of file k s a b w0 w1 n Write st u = (file, k, concat u.records ++ u.rest, u.taken)

-- ---- its end

module _ (s : Entries) (a b c w0 w1 w2 : Option (List ℕ)) (file : Format) (kind : kind_of file ≡ Archive_text)
    (sizes : Sizes) (position : Position) (all : GathersAll file (IsCopied s w0 w1) a b sizes position) where
  abbrev kept : List (List ℕ)
  kept = taken_of file all.records

  pub ended : (r : Result Sizes MergeFault) → OnOk r (IsAtEnd c × Consumes b c [])
      → IfOk r (λ e. (e.bytes ≡ sizes.bytes + length (end_record sizes.records)) × (e.records ≡ sizes.records) × Appends w1 w2 (end_record sizes.records))
      → IfOk r (λ e. IsGathered Archive_text (IsCopiedWhole s w0 w2) a c e × IsAtEnd c)
  ended (Err e) at ok = tt
  ended (Ok e) at ok =
      let m = all.makes in (
        gathered Archive_text (IsCopiedWhole s w0 w2) a b c e position file kind
            (record {
              records = all.records;
              read = all.read;
              makes = record {
                written_is = Appends-then w0 w1 w2 (copy_of s kept) (end_record (length (missing s kept))) m.gained
                    (subst (λ (n : ℕ). Appends w1 w2 (end_record n)) m.records_are ok.2);
                bytes_are = omega (
                  arith,
                  ok.0,
                  m.bytes_are,
                  length-append (copy_of s kept) (end_record (length (missing s kept))),
                  ap (λ (n : ℕ). length (end_record n)) m.records_are,
                );
                records_are = ok.1 ∙ m.records_are;
              };
            })
            at.1,
        at.0,
      )

  stopped_at : (fault : RecordFault) → ((f : Format) (d : Option (List ℕ)) (records : List (List ℕ)) → end_length f
      ≡ Some 9 → HasReadAll f d b records position → Stopped f d c records fault) → Stopped file a c all.records fault
  stopped_at fault stops = stops file a all.records (counts_of file kind) all.read

  ended_by : (cause : MergeCause) (n : ℕ) → StopsEnd position b c w1 w2 sizes cause n → IsCause a c cause × HasDraft s a c w0 w2 n
  ended_by (Left fault) n st =
      let stop = stopped_at fault st.0 in
      let m = rw (← st.2) at all.makes in
      (inr (file, kind, all.records, stop), inr (file, kind, inl (rw st.1 (copied_to file s a c w0 w2 all.records fault sizes stop m))))
  ended_by (Right fault) n st = absurd st
  ended_by Write n st =
      let m = all.makes in
      let end = end_record (length (missing s kept)) in
      let p : WritesFirst w1 w2 end st.2.0 = rw (← m.records_are) st.2.2 in
      let taken : Consumes a c (text_of file all.records) = rw append-nil at (Consumes-then a b c (text_of file all.records) [] all.read.taken st.1) in (
        (file, kind, concat all.records ++ ending file (length all.records), taken),
        inr (
          file,
          kind,
          inr (record {
            records = all.records;
            taken = taken;
            at_end = st.0;
            ordered = all.read.ordered;
            apart = all.read.apart;
            first = rw st.2.1 (stopped w0 w1 w2 (copy_of s kept) end [] (copy_of s kept ++ end) sizes.bytes st.2.0 m.bytes_are (rw append-nil refl) m.gained p);
          }),
        ),
      )

  pub ended_early : (r : Result Sizes MergeFault) → IfErr r (λ e. StopsEnd position b c w1 w2 sizes e.cause e.written)
      → IfErr r (λ e. IsCause a c e.cause × HasDraft s a c w0 w2 e.written)
  ended_early r = IfErr-weaker r _ _ (λ e. ended_by e.cause e.written)

-- ---- devices that did not fail in the first steps are blamed for the next

module _ {R : Type 0} (left : R → Option (List ℕ)) (failures : R → ℕ) (old mid new : R) (w_old w_mid w_new : ℕ)
    (unfailed : failures mid ≡ failures old) (same : w_mid ≡ w_old) where
  pub blamed : (cause : MergeCause) → BlamesOne left failures mid new w_mid w_new cause → BlamesOne left failures old new w_old w_new cause
  blamed (Left fault) b = (blames_behind left failures old mid new unfailed fault.kind b.0, b.1 ∙ same)
  blamed (Right fault) b = absurd b
  blamed Write b = (b.0 ∙ unfailed, subst (λ (n : ℕ). FailedIn n w_new) same b.1)

  pub devices_behind : {T : Type 0} (r : Result T MergeFault) → BlamesDevices left failures mid new w_mid w_new r
      → BlamesDevices left failures old new w_old w_new r
  devices_behind (Ok x) b = (b.0 ∙ unfailed, b.1 ∙ same)
  devices_behind (Err e) b = blamed e.cause b

-- ---- what is written of an archive's records

-- the whole text of what is written of these records
abbrev whole_of : Entries → List (List ℕ) → List ℕ
whole_of s records = copy_of s records ++ end_record (length (missing s records))

module _ (s : Entries) (f : Format) (kind : kind_of f ≡ Archive_text) (xs : List (List ℕ)) (a : InOrder f [] xs) where
  abbrev o : Operations
  o = set_of (taken_of f xs)

  abbrev count : ℕ
  count = length (missing s (taken_of f xs))

  delta_text : written (delta o s) ≡ whole_of s (taken_of f xs)
  delta_text =
      delta_parts o s count (ap (λ (rs : List (List ℕ)). length (missing s rs)) (sym (taken_listing f kind xs a)))
      ∙ ap (λ (rs : List (List ℕ)). (magic ++ concat (missing s rs)) ++ end_record count) (taken_listing f kind xs a)

  delta_number : count ≡ set.len (delta o s)
  delta_number = delta_count o s count (ap (λ (rs : List (List ℕ)). length (missing s rs)) (sym (taken_listing f kind xs a)))

-- what is taken of records begins what is taken of more
in_front : (low : List ℕ) (xs ys : List (List ℕ)) → InOrder Archive low (xs ++ ys) → InOrder Archive low xs
in_front low [] ys a = tt
in_front low (x ∷ xs) ys a = (a.0, a.1, in_front x xs ys a.2)

taken_front : (f : Format) → kind_of f ≡ Archive_text → (done more : List (List ℕ)) → InOrder f [] (done ++ more)
    → (ms : List (List ℕ)) × (taken_of f (done ++ more) ≡ taken_of f done ++ ms)
taken_front Archive k done more a = (more, refl)
taken_front OldArchive k done more a =
    let b = in_order_old [] (done ++ more) a in
    let front = in_front [] done more b in
    (behind done more b front, kept_more done more b front)
taken_front Operations_file k done more a = absurd (no_operations_text k)
taken_front Summary_file k done more a = absurd (no_summary_text k)

-- the first bytes of a front are those of the whole
first_in : (w0 w1 : Option (List ℕ)) (front tail whole : List ℕ) (n : ℕ) → whole ≡ front ++ tail → 0 < length tail
    → n ≤ length front → Appends w0 w1 (take n front) → WritesFirst w0 w1 whole n
first_in w0 w1 front tail whole n is some within gained = record {
  within = omega (arith, ap length is, length-append front tail);
  gained = rw (is, take-append-le n front tail within) gained;
}

some_written : (o : Operations) → 0 < length (written o)
unfolding written
some_written o = omega arith

-- ---- what was written of a text that is known, by its good records

module _ (s : Entries) (text : List ℕ) (goods : List (List ℕ)) (are : AreGoodRecords text goods) (b w0 w1 : Option (List ℕ)) (n : ℕ) where
  abbrev made : Operations
  made = content_of (set.from_list goods)

  abbrev First : Type 0
  First = WritesFirst w0 w1 (written (delta made s)) n

  -- what is written of them, where they are those of a text of this version
  good_text : (file : Format) (kind : kind_of file ≡ Archive_text) → InOrder file [] goods → AreApart file goods
      → written (delta made s) ≡ whole_of s (taken_of file goods)
  good_text file kind ordered apart =
      ap (λ (p : Operations). written (delta p s))
      (sym (taken_made file kind goods (in_order_of file kind [] goods ordered) apart))
      ∙ delta_text s file kind goods ordered

  first_up_to : (file : Format) → kind_of file ≡ Archive_text → IsCopiedUpTo file s (Some text) b w0 w1 n → First
  first_up_to file kind u =
      let k = taken_rest text (magic_of file ++ (concat u.records ++ u.rest)) b u.taken in
      let begun : text ≡ magic_of file ++ ((concat u.records ++ u.rest) ++ k.0) = k.1 ∙ append_assoc (magic_of file) (concat u.records ++ u.rest) k.0 in
      let split : text ≡ (magic_of file ++ concat u.records) ++ (u.rest ++ k.0) = k.1 ∙ simp append_assoc in
      let longest = front_of file kind text goods ((concat u.records ++ u.rest) ++ k.0, begun) are in
      let more = before file text (Some (u.rest ++ k.0)) u.records goods split u.ordered u.apart longest in
      let ordered : InOrder file [] (u.records ++ more.0) = subst (InOrder file []) more.1 longest.front.ordered in
      let ms = taken_front file kind u.records more.0 ordered in
      let end = end_record (length (missing s (taken_of file (u.records ++ more.0)))) in
      let whole : written (delta made s) ≡ copy_of s (taken_of file u.records) ++ (concat (missing s ms.0) ++ end) =
      good_text file kind longest.front.ordered longest.front.apart
      ∙ ap (λ (rs : List (List ℕ)). whole_of s (taken_of file rs)) more.1
      ∙ ap (λ (rs : List (List ℕ)). copy_of s rs ++ end) ms.1 ∙ ap (λ (t : List ℕ). t ++ end) (copy_more s (taken_of file u.records) ms.0)
      ∙ append_assoc (copy_of s (taken_of file u.records)) (concat (missing s ms.0)) end in
      let some : 0 < length (concat (missing s ms.0) ++ end) =
      omega (
        arith,
        length-append (concat (missing s ms.0)) end,
        length-end_record (length (missing s (taken_of file (u.records ++ more.0)))),
      ) in
      first_in w0 w1 (copy_of s (taken_of file u.records)) (concat (missing s ms.0) ++ end) (written (delta made s)) n whole some u.within u.gained

  first_to_end : (file : Format) → kind_of file ≡ Archive_text → IsCopiedToEnd file s (Some text) b w0 w1 n → First
  first_to_end file kind u =
      let all = text_whole file text b u.records u.taken u.at_end in
      let longest = front_of file kind text goods (concat u.records ++ ending file (length u.records), all) are in
      let same : goods ≡ u.records = whole_front file kind text u.records goods u.ordered u.apart all longest in
      let whole : written (delta made s) ≡ whole_of s (taken_of file u.records) =
      good_text file kind longest.front.ordered longest.front.apart
      ∙ ap (λ (rs : List (List ℕ)). whole_of s (taken_of file rs)) same in
      subst (λ (t : List ℕ). WritesFirst w0 w1 t n) (sym whole) u.first

  first_none : n ≡ 0 → Appends w0 w1 [] → First
  first_none zero gained =
      let some : 0 < length (written (delta made s)) = some_written (delta made s) in
      rw zero (first_in w0 w1 [] (written (delta made s)) (written (delta made s)) 0 refl some (omega arith) gained)

  pub first_of : (a : Option (List ℕ)) → a ≡ Some text → HasDraft s a b w0 w1 n → First
  first_of a given (inl none) = first_none none.0 none.1
  first_of a given (inr (file, kind, inl u)) = first_up_to file kind (rw given at u)
  first_of a given (inr (file, kind, inr u)) = first_to_end file kind (rw given at u)

-- ---- how much was written

drafted : (s : Entries) (a b w0 w1 : Option (List ℕ)) (n : ℕ) → HasDraft s a b w0 w1 n → (bytes : List ℕ) × Appends w0 w1 bytes × (n ≡ length bytes)
drafted s a b w0 w1 n (inl none) = ([], none.1, none.0)
drafted s a b w0 w1 n (inr (file, kind, inl u)) = let front = copy_of s (taken_of file u.records)
    in (take n front, u.gained, sym (length-take-le n front u.within))
drafted s a b w0 w1 n (inr (file, kind, inr u)) =
    let p = u.first in
    let lt = p.within in
    let all = whole_of s (taken_of file u.records) in
    (take n all, p.gained, sym (length-take-le n all (omega (arith, lt))))

-- ---- a beginning, and no archive's text

module _ (s : Entries) (a b w0 w1 : Option (List ℕ)) (n : ℕ) where
  abbrev NoText : Type 0
  NoText = IfSome w0 (λ _. (bytes : List ℕ) → Appends w0 w1 bytes → IsArchiveText bytes → ⊥)

  none_of : (f : Format) (kind : kind_of f ≡ Archive_text) (xs : List (List ℕ)) → InOrder f [] xs → AreApart f xs
      → WritesFirst w0 w1 (whole_of s (taken_of f xs)) n → NoText
  none_of f kind xs ordered apart w =
      let made : Operations = set_of (taken_of f xs) in
      let content : IsContent made = formed_content made (text_of f xs)
      (record {
        format = f;
        archive = kind;
        records = xs;
        ordered = ordered;
        apart = apart;
        whole = refl;
        content =
            refl;
      }) in
      first_no_text w0 w1 (delta made s) n (delta_content made s content) (rw (delta_text s f kind xs ordered) w)

  pub draft_no_text : HasDraft s a b w0 w1 n → NoText
  draft_no_text (inl none) = no_bytes w0 w1 none.1
  draft_no_text (inr (file, kind, inl u)) =
      let kept_of = taken_of file u.records in
      let end = end_record (length (missing s kept_of)) in
      none_of file kind u.records u.ordered u.apart (first_in w0 w1 (copy_of s kept_of) end (whole_of s kept_of) n refl
      (omega (arith, length-end_record (length (missing s kept_of)))) u.within u.gained)
  draft_no_text (inr (file, kind, inr u)) = none_of file kind u.records u.ordered u.apart u.first

-- ---- what came of it

module _ {R W : Type 0} (left : R → Option (List ℕ)) (failures : R → ℕ) (old new : R) (held : W → Option (List ℕ))
    (write_failures : W → ℕ) (w w' : W) (s : Entries) where
  stops_by : (cause : MergeCause) → IsCause (left old) (left new) cause
      → BlamesOne left failures old new (write_failures w) (write_failures w') cause
      → StopsCopyBy (stream left failures old new) (stream held write_failures w w') cause
  stops_by (Left fault) st blames = (refused Archive_text left failures old new fault st blames.0, blames.1)
  stops_by (Right fault) st blames = absurd st
  stops_by Write st blames = blames

  -- the magic was taken, or nothing was written
  begun_by : (cause : MergeCause) (n : ℕ) → IsCause (left old) (left new) cause
      → HasDraft s (left old) (left new) (held w) (held w') n
      → BlamesOne left failures old new (write_failures w) (write_failures w') cause
      → (Appends (held w) (held w') [] × (write_failures w' ≡ write_failures w)) ⊎ IsBegun (stream left failures old new)
  begun_by (Left fault) n st (inl none) blames = inl (none.1, blames.1)
  begun_by (Left fault) n st (inr (file, kind, inl u)) blames = inr (file, kind, concat u.records ++ u.rest, u.taken)
  begun_by (Left fault) n st (inr (file, kind, inr u)) blames = inr (file, kind, concat u.records ++ ending file (length u.records), u.taken)
  begun_by (Right fault) n st draft blames = absurd st
  begun_by Write n st draft blames = inr st

  pub unnamed : (r : Result Sizes MergeFault) → IfOk r
      (λ sizes. IsGathered Archive_text (IsCopiedWhole s (held w) (held w')) (left old) (left new) sizes
      × IsAtEnd (left new))
      → IfErr r (λ e. IsCause (left old) (left new) e.cause × HasDraft s (left old) (left new) (held w) (held w') e.written)
      → BlamesDevices left failures old new (write_failures w) (write_failures w') r
      → MatchResult r (CopiesUnnamed (stream left failures old new) (stream held write_failures w w') s)
      (StopsCopy (stream left failures old new) (stream held write_failures w w') s)
  unnamed (Ok sizes) (g, end) stops blames =
      let c = g.makes in
      let o = set_of (taken_of g.format g.records) in
      let text = delta_text s g.format g.kind_is g.records g.ordered in
      record {
        content = o;
        read = read_whole Archive_text o left failures old new (read_to g) end blames.0;
        written_is = record {
          written = rw text c.written_is;
          records_are = c.records_are ∙ delta_number s g.format g.kind_is g.records g.ordered;
          bytes_are = c.bytes_are ∙ ap length (sym text);
          unfailed = blames.1;
        };
      }
  unnamed (Err e) ok (cause, draft) blames = record {
    by = stops_by e.cause cause blames;
    first = λ text records are given. first_of s text records are (left new) (held w) (held w') e.written (left old) given draft;
    count = drafted s (left old) (left new) (held w) (held w') e.written draft;
    no_text = draft_no_text s (left old) (left new) (held w) (held w') e.written draft;
    begun = begun_by e.cause e.written cause draft blames;
  }
