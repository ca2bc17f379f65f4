-- The texts of records, one after the other.
use Rattle.std.proofs.Common.{◌≡◌, ℕ, ◌+◌, ◌^◌, ◌<◌, ◌≤◌, List, [], ◌∷◌, ◌++◌, length, get_or, take, drop, Option}
use Rattle.std.proofs.Common.{Result, sym, ap, ◌∙◌, subst, arith, append_assoc, length-append}
use Rattle.std.specs.Prelude.{IfOk, Ok, Err, true, false, cond, not}
use Rattle.std.proofs.lemmas.List.Elements.{filter-append}
use Rattle.std.specs.Int.{w64, to_be_bytes}
use Rattle.std.specs.List.{concat}
use Rattle.std.specs.Cmp.Lexicographic.{nat_list_cmp_total}
use Rattle.std.specs.FinSet as set
use Rattle.std.proofs.lemmas.List.{append-nil, take-append-drop, take_more}
use Rattle.std.proofs.lemmas.List.Folds.{concat-append}
use Rattle.join_core.specs.Listing.{listing}
use Rattle.join_core.proofs.Listing.{length_listing}
use Rattle.byte_device.specs.Writes.{IsPut, Puts, StopsPut, WritesFirst}
use Rattle.byte_device.specs.declared.writing.WriteFault.{WriteFault}
use Rattle.byte_device.proofs.Gains.{puts_along, puts_then, stops_before}
use Rattle.archive_core.specs.Key.{key_bytes}
use Rattle.archive_core.specs.Valid.{key_of}
use Rattle.archive_core.specs.Record.{admission, admission_record}
use Rattle.archive_core.specs.Content.{Operations}
use Rattle.archive_core.specs.Summary.{Entries, entry, delta}
use Rattle.archive_core.proofs.Summaries.{listing_delta}
use Rattle.archive_core.proofs.Made.{bytes_same}
use Rattle.archive_records.specs.declared.writing.Sizes.{Sizes}
use Rattle.archive_records.specs.Kind.{magic, summary_magic}
use Rattle.archive_records.specs.Text.{end_record, missing, written, summary_text}
use Rattle.archive_records.specs.Writing.{Writes}

-- a head and its slice are the record
pub head_and_slice : (head bytes slice : List ℕ) → head ≡ 2
    ∷ (key_bytes (key_of slice) ++ to_be_bytes w64 (length slice)) → bytes ≡ slice → head ++ bytes
    ≡ admission_record slice
unfolding admission
head_and_slice head bytes slice h b =
    ap (λ (t : List ℕ). t ++ bytes) h ∙ ap (λ (t : List ℕ). (2 ∷ (key_bytes (key_of slice) ++ to_be_bytes w64 (length slice))) ++ t) b
    ∙ ap (λ (t : List ℕ). 2 ∷ t) (append_assoc (key_bytes (key_of slice)) (to_be_bytes w64 (length slice)) slice)

-- a head of 33 bytes and a slice are short
pub head_and_slice_short : (head body slice : List ℕ) → length head ≡ 33 → body ≡ slice → length slice < 2 ^ 32 → length (head ++ body) ≤ 2 ^ 33
head_and_slice_short head body slice long same short = rw same (omega (arith, length-append head slice))

pub concat-push : (xs : List (List ℕ)) (x : List ℕ) → concat (xs ++ x ∷ []) ≡ concat xs ++ x
concat-push xs x = concat-append xs (x ∷ []) ∙ ap (λ (t : List ℕ). concat xs ++ t) (append-nil x)

-- the parts of a text that were given, and one more of them
pub puts_more : {W T : Type 0} (held : W → Option (List ℕ)) (failures : W → ℕ) (size : T → ℕ) (old mid new : W)
    (done before : ℕ) (xs : List (List ℕ)) (i : ℕ) (item : List ℕ) → i < length xs → item ≡ get_or xs i []
    → (r : Result T WriteFault) → IsPut held failures old mid done (concat (take i xs)) before
    → Puts held failures size mid new before item r
    → Puts held failures size old new done (concat (take (i + 1) xs)) r
puts_more held failures size old mid new done before xs i item lt is r put puts =
    let more : concat (take i xs) ++ item ≡ concat (take (i + 1) xs) =
    sym (ap concat (take_more xs i [] lt) ∙ concat-push (take i xs) (get_or xs i []) ∙ ap (λ (t : List ℕ). concat (take i xs) ++ t) (sym is)) in
    puts_along held failures size old new done _ _ r more (puts_then held failures size old mid new done before (concat (take i xs)) item r put puts)

-- the writer failed in the first parts of a text
pub stops_among : {W : Type 0} (held : W → Option (List ℕ)) (failures : W → ℕ) (old new : W) (done written : ℕ)
    (all some rest : List (List ℕ)) → all ≡ some ++ rest → StopsPut held failures old new done (concat some) written
    → StopsPut held failures old new done (concat all) written
stops_among held failures old new done written all some rest parts stops =
    subst (λ t. StopsPut held failures old new done t written) (sym (ap concat parts ∙ concat-append some rest))
    (stops_before held failures old new done written (concat some) (concat rest) stops)

-- or the writer failed in that one
pub stops_in_next : {W : Type 0} (held : W → Option (List ℕ)) (failures : W → ℕ) (old mid new : W) (done before : ℕ)
    (xs : List (List ℕ)) (i : ℕ) (item : List ℕ) → i < length xs → item ≡ get_or xs i []
    → (fault : WriteFault) → IsPut held failures old mid done (concat (take i xs)) before
    → StopsPut held failures mid new before item fault.written
    → StopsPut held failures old new done (concat xs) fault.written
stops_in_next held failures old mid new done before xs i item lt is fault put stops =
    stops_among held failures old new done fault.written xs (take (i + 1) xs) (drop (i + 1) xs) (sym (take-append-drop (i + 1) xs))
    (puts_more held failures (λ (n : ℕ). n) old mid new done before xs i item lt is (Err fault) put stops)

pub length_written : (o : Operations) → length (listing o) ≡ set.len o
length_written o = length_listing nat_list_cmp_total bytes_same o

-- the front of a text, by what it begins with
module _ {W : Type 0} (held : W → Option (List ℕ)) (failures : W → ℕ) where
  pub front_stops : (old new : W) (written : ℕ) (first front behind : List ℕ) → first ≡ front
      → StopsPut held failures old new 0 first written → StopsPut held failures old new 0 (front ++ behind) written
  front_stops old new written first front behind same stops =
      stops_before held failures old new 0 written front behind (subst (λ t. StopsPut held failures old new 0 t written) same stops)

  pub front_then : {T : Type 0} (size : T → ℕ) (old mid new : W) (done : ℕ) (first front behind : List ℕ)
      (r : Result T WriteFault) → first ≡ front → IsPut held failures old mid 0 first done
      → Puts held failures size mid new done behind r
      → Puts held failures size old new 0 (front ++ behind) r
  front_then size old mid new done first front behind r same put puts =
      puts_then held failures size old mid new 0 done front behind r (subst (λ t. IsPut held failures old mid 0 t done) same put) puts

-- a whole text was given, or a part of it
pub writes_text : {W : Type 0} (held : W → Option (List ℕ)) (failures : W → ℕ) (old new : W) (records : ℕ) (text : List ℕ) (r : Result Sizes WriteFault)
    → Puts held failures (λ (sizes : Sizes). sizes.bytes) old new 0 text r → IfOk r (λ sizes. sizes.records ≡ records)
    → Writes held failures old new records text r
writes_text held failures old new records text (Ok sizes) put count =
    record {
      written = put.gained;
      records_are = count;
      bytes_are = omega (arith, put.size_is);
      unfailed =
          put.unfailed;
    }
writes_text held failures old new records text (Err fault) stops count =
    (subst (WritesFirst (held old) (held new) text) (omega (arith, stops.written_is)) stops.first, stops.failed)

-- the end record after the front of a text
pub ends_text : {W : Type 0} (held : W → Option (List ℕ)) (failures : W → ℕ) (old mid new : W) (records : ℕ)
    (front text : List ℕ) → text ≡ front ++ end_record records → (done : ℕ) (r : Result Sizes WriteFault)
    → IsPut held failures old mid 0 front done → Puts held failures (λ (sizes : Sizes). sizes.bytes) mid new done
    (end_record records) r → IfOk r (λ sizes. sizes.records ≡ records) → Writes held failures old new records text r
ends_text held failures old mid new records front text whole done r put puts = writes_text held failures old new records text r
    (puts_along held failures (λ (sizes : Sizes). sizes.bytes) old new 0 _ _ r (sym whole)
    (puts_then held failures (λ (sizes : Sizes). sizes.bytes) old mid new 0 done front (end_record records) r put
    puts))

-- or the writer failed in the front
pub stops_in_front : {W : Type 0} (held : W → Option (List ℕ)) (failures : W → ℕ) (old new : W) (records : ℕ)
    (front text : List ℕ) → text ≡ front ++ end_record records → (fault : WriteFault)
    → StopsPut held failures old new 0 front fault.written → Writes held failures old new records text (Err fault)
stops_in_front held failures old new records front text whole fault stops = writes_text held failures old new records text (Err fault)
    (subst (λ t. StopsPut held failures old new 0 t fault.written) (sym whole)
    (stops_before held failures old new 0 fault.written front (end_record records) stops)) tt

-- the whole texts
pub written_parts : (o : Operations) (count : ℕ) → count ≡ set.len o → written o ≡ (magic ++ concat (listing o)) ++ end_record count
unfolding written
written_parts o count all = sym (ap (λ n. (magic ++ concat (listing o)) ++ end_record n) all ∙ append_assoc magic (concat (listing o)) (end_record (set.len o)))

pub summary_parts : (s : Entries) (count : ℕ) → count ≡ set.len s → summary_text s ≡ (summary_magic ++ concat (listing s)) ++ end_record count
unfolding summary_text
summary_parts s count all = sym (ap (λ n. (summary_magic ++ concat (listing s)) ++ end_record n) all
    ∙ append_assoc summary_magic (concat (listing s)) (end_record (set.len s)))

pub delta_count : (o : Operations) (s : Entries) (count : ℕ) → count ≡ length (missing s (listing o)) → count ≡ set.len (delta o s)
delta_count o s count all = all ∙ sym (ap length (listing_delta o s)) ∙ length_written (delta o s)

pub delta_parts : (o : Operations) (s : Entries) (count : ℕ) → count ≡ length (missing s (listing o))
    → written (delta o s) ≡ (magic ++ concat (missing s (listing o))) ++ end_record count
delta_parts o s count all = written_parts (delta o s) count (delta_count o s count all)
    ∙ ap (λ (records : List (List ℕ)). (magic ++ concat records) ++ end_record count) (listing_delta o s)

-- records that are missing, before a place and after it
pub missing_parts : (s : Entries) (xs : List (List ℕ)) (i : ℕ) → missing s xs ≡ missing s (take (i + 1) xs) ++ missing s (drop (i + 1) xs)
missing_parts s xs i = ap (missing s) (sym (take-append-drop (i + 1) xs))
    ∙ filter-append (λ r. not (set.contains s (entry r))) (take (i + 1) xs) (drop (i + 1) xs)

-- records that are missing, one more among those before
module _ (s : Entries) (xs : List (List ℕ)) (i : ℕ) (item : List ℕ) (lt : i < length xs) (is : item ≡ get_or xs i []) where
  missing_next : missing s (take (i + 1) xs) ≡ missing s (take i xs) ++ missing s (item ∷ [])
  missing_next =
      ap (missing s) (take_more xs i [] lt ∙ ap (λ (x : List ℕ). take i xs ++ x ∷ []) (sym is))
      ∙ filter-append (λ r. not (set.contains s (entry r))) (take i xs) (item ∷ [])

  concat_missing : concat (missing s (take i xs)) ++ concat (missing s (item ∷ [])) ≡ concat (missing s (take (i + 1) xs))
  concat_missing = sym (ap concat missing_next ∙ concat-append (missing s (take i xs)) (missing s (item ∷ [])))

  pub missing_count : (old new : ℕ) → old ≡ length (missing s (take i xs)) → new ≡ old + length (missing s (item ∷ []))
      → new ≡ length (missing s (take (i + 1) xs))
  missing_count old new o n = omega (arith, ap length missing_next, length-append (missing s (take i xs)) (missing s (item ∷ [])))

  pub missing_puts : {W : Type 0} (held : W → Option (List ℕ)) (failures : W → ℕ) (old mid new : W) (done before : ℕ)
      (r : Result Sizes WriteFault) → IsPut held failures old mid done (concat (missing s (take i xs))) before
      → Puts held failures (λ (sizes : Sizes). sizes.bytes) mid new before (concat (missing s (item ∷ []))) r
      → Puts held failures (λ (sizes : Sizes). sizes.bytes) old new done (concat (missing s (take (i + 1) xs))) r
  missing_puts held failures old mid new done before r put puts =
      puts_along held failures (λ (sizes : Sizes). sizes.bytes) old new done _ _ r concat_missing
      (puts_then held failures (λ (sizes : Sizes). sizes.bytes) old mid new done before (concat (missing s (take i xs)))
      (concat (missing s (item ∷ []))) r put puts)

-- one record, by whether the summary names it
missing_one : (s : Entries) (r : List ℕ) → set.contains s (entry r) ≡ false → missing s (r ∷ []) ≡ r ∷ []
missing_one s r h = ap (λ b. cond (not b) (r ∷ []) []) h

pub missing_none : (s : Entries) (r : List ℕ) → set.contains s (entry r) ≡ true → missing s (r ∷ []) ≡ []
missing_none s r h = ap (λ b. cond (not b) (r ∷ []) []) h

pub concat_one : (s : Entries) (r : List ℕ) → set.contains s (entry r) ≡ false → concat (missing s (r ∷ [])) ≡ r
concat_one s r h = ap concat (missing_one s r h) ∙ append-nil r

pub length_one : (s : Entries) (r : List ℕ) → set.contains s (entry r) ≡ false → length (missing s (r ∷ [])) ≡ 1
length_one s r h = ap length (missing_one s r h)

-- of one record at most one is missing
pub few_missing : (s : Entries) (r : List ℕ) → length (missing s (r ∷ [])) ≤ 1
few_missing s r = grind arith
