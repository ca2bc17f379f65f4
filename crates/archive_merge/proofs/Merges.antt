-- From the bytes that a merge took to whole inputs.
use Rattle.std.proofs.Common.{append_assoc, ◌≡◌, ℕ, ◌+◌, ◌^◌, length-take-le, take, ◌<◌, List, [], ◌∷◌, ◌++◌, length}
use Rattle.std.proofs.Common.{Option, Some, None, Result, Ok, Err, refl, sym, ap, ◌∙◌, subst, arith, inl, inr}
use Rattle.std.proofs.Common.{length-append, IfErr, IfSome}
use Rattle.archive_merge.specs.declared.side.Lookahead.TheVariants.{Held}
use Rattle.archive_merge.specs.declared.side.MergeInput.{MergeInput}
use Rattle.archive_records.specs.Front.{front_length}
use Rattle.std.specs.List.{concat}
use Rattle.std.specs.FinSet as set
use Rattle.std.specs.Io.KnownBytes.{Consumes, IsAtEnd, Appends}
use Rattle.join_core.specs.Listing.{listing}
use Rattle.byte_device.specs.Writes.{WritesFirst}
use Rattle.archive_core.specs.Content.{Operations, IsContent, joined}
use Rattle.archive_records.specs.declared.fault.RecordFaultKind.TheVariants.{Truncated}
use Rattle.archive_records.specs.declared.fault.RecordFault.{RecordFault}
use Rattle.archive_records.specs.declared.fault.MergeCause.{MergeCause}
use Rattle.archive_records.specs.declared.fault.MergeCause.TheVariants.{Left, Right, Write}
use Rattle.archive_records.specs.declared.fault.MergeFault.{MergeFault}
use Rattle.archive_records.specs.declared.format.Format.{Format}
use Rattle.archive_records.specs.declared.format.Format.TheVariants.{Archive}
use Rattle.archive_records.specs.declared.kind.TextKind.TheVariants.{Archive as Archive_text}
use Rattle.archive_records.specs.declared.writing.Sizes.{Sizes}
use Rattle.archive_records.specs.Kind.{magic, magic_of, kind_of}
use Rattle.archive_records.specs.Text.{end_record, text_of, last_of, written, kept, taken_of, InOrder, IsArchiveOf}
use Rattle.archive_records.specs.Fault.{IsOfText}
use Rattle.archive_records.specs.Reading.{Blames, IsOfMachine, IsReadWhole}
use Rattle.archive_records.specs.Reader.{HasReadAll, HasStopped, Position}
use Rattle.archive_merge.specs.Merging.{IsArchiveText, AreGoodRecords, LeftStops, RightStops, of_both, IsMerged, IsRefusedAlone, IsUnfailed, StopsBy, Merges}
use Rattle.byte_device.specs.Devices.{Stream}
use Rattle.byte_device.proofs.Known.{Appends-then}
use Rattle.archive_merge.specs.Sides.{Sides}
use Rattle.archive_merge.specs.MergeSteps.{LeftTold, RightTold, StopsMerge, Merging, Stands, WriteStopped}
use Rattle.archive_merge.specs.MergeSteps.{memory_after, Leaves, MergedAll, BlamesBy, BlamesDevices}
use Rattle.archive_records.proofs.Puts.{length_written, concat-push}
use Rattle.archive_merge.proofs.MergeSteps.{first_greater, first_held}
use Rattle.archive_records.proofs.Apart.{apart_front}
use Rattle.archive_records.proofs.Undecided.{cut_behind}
use Rattle.archive_merge.proofs.Starts.{memory_stopped}
use Rattle.archive_merge.proofs.Unread.{text_none}
use Rattle.archive_merge.proofs.Orders.{left_order, right_order, side_begun}
use Rattle.archive_records.proofs.Contents.{written_text}
use Rattle.archive_records.proofs.Inputs.{IsReadTo, read_whole as text_read, refused}
use Rattle.archive_merge.proofs.Fronts.{taken_rest, both_taken}
use Rattle.archive_merge.proofs.Places.{Later, Place, kept_listing, begun, begun_all, begun_none, begun_whole, no_magic}
use Rattle.archive_merge.proofs.Places.{left_begun, left_place, left_first, right_begun, right_place, right_first}
use Rattle.archive_merge.proofs.Places.{write_begun, left_later, right_later, full_begun}

-- ---- one input

read_to : (f : Format) → kind_of f ≡ Archive_text → (a b : Option (List ℕ)) (records : List (List ℕ))
    (position : Position) → HasReadAll f a b records position
    → IsReadTo Archive_text a b (set.from_list (taken_of f records))
read_to f k a b records position h = record {
  format = f;
  kind_is = k;
  records = records;
  few = h.few;
  taken = h.taken;
  ordered = h.ordered;
  apart = h.apart;
  makes = refl;
}

pub read_whole : {R : Type 0} (input : Stream R) (f : Format) → kind_of f ≡ Archive_text
    → (records : List (List ℕ)) (position : Position) → HasReadAll f (input.bytes input.old) (input.bytes input.new)
    records position → IsAtEnd (input.bytes input.new) → input.failures input.new ≡ input.failures input.old
    → IsReadWhole Archive_text (set.from_list (taken_of f records)) input.bytes input.failures input.old input.new
read_whole input f k records position h end unfailed =
    text_read Archive_text (set.from_list (taken_of f records)) input.bytes input.failures input.old input.new
    (read_to f k (input.bytes input.old) (input.bytes input.new) records position h) end unfailed

refused_alone : {R : Type 0} (input : Stream R) (fault : RecordFault)
    → HasStopped Archive_text (input.bytes input.old) (input.bytes input.new) fault
    → Blames input.bytes input.failures input.old input.new fault.kind → IsRefusedAlone input fault
refused_alone input fault stopped blames = refused Archive_text input.bytes input.failures input.old input.new fault stopped blames

abbrev NoText : Option (List ℕ) → RecordFault → Type 0
NoText a fault = IfSome a (λ text. (o : Operations) → IsContent o → IsArchiveOf o text → IsOfMachine fault.kind)

-- an archive's text is refused by the machine alone
no_text : (t : List ℕ) (fault : RecordFault) → NoText (Some t) fault → IsOfText fault.kind → IsArchiveText t → ⊥
no_text t fault alone known x = elim (alone x.0 x.1 x.2) [ inl d ↦ known.0 d | inr d ↦ known.1 d ]

front_in : (f : Format) (low : List ℕ) (xs : List (List ℕ)) (x : List ℕ) → InOrder f low (xs ++ x ∷ []) → InOrder f low xs
front_in f low [] x a = tt
front_in f low (y ∷ ys) x a = (a.0, a.1, front_in f y ys x a.2)

-- memory was wanted for the record that a side holds
held_stopped : (a b : Option (List ℕ)) (done : List (List ℕ)) (low : List ℕ) (s : MergeInput) (fault : RecordFault)
    → Stands a b done low s → s.ahead ≡ Held → s.reader.count < 2 ^ 63 → fault ≡ memory_after (front_length done)
    → HasStopped Archive_text a b fault
held_stopped a b done low s fault p held few is =
    let h = (p.held held).0 in
    let short : length done + 1 < 2 ^ 63 = omega (arith, few, h.count_is, length-append done (s.reader.last ∷ [])) in
    let taken : Consumes a b (magic_of s.reader.file ++ (concat done ++ s.reader.last)) = rw (← concat-push done s.reader.last) h.taken in
    let cut = cut_behind s.reader.file done s.reader.last h.ordered h.apart (omega (arith, short)) in
    inr (
      s.reader.file,
      p.archive,
      done,
      memory_stopped s.reader.file a b done s.reader.last fault taken
          (front_in s.reader.file [] done s.reader.last h.ordered)
          (apart_front s.reader.file done (s.reader.last ∷ []) h.apart) (omega (arith, short)) is cut,
    )

-- ---- both

abbrev ForBoth : Option (List ℕ) → Option (List ℕ) → (List ℕ → List ℕ → List (List ℕ) → List (List ℕ) → Type 0) → Type 0
ForBoth a1 a2 P = IfSome a1 (λ t. IfSome a2 (λ u. (lefts rights : List (List ℕ)) → AreGoodRecords t lefts → AreGoodRecords u rights → P t u lefts rights))

module _ (w0 w1 : Option (List ℕ)) (n : ℕ) where
  abbrev Begins : List ℕ → List ℕ → List (List ℕ) → List (List ℕ) → Type 0
  Begins t u xs ys = WritesFirst w0 w1 (written (of_both xs ys)) n

  -- what is said of a side that stopped, where its text is known: that it stops the merge, if that is known, and where
  module _ (known : Type 0) (Stops : List ℕ → List ℕ → List (List ℕ) → List (List ℕ) → Type 0) (ends : List (List ℕ) → List (List ℕ) → List (List ℕ)) where
    abbrev Told : List ℕ → List ℕ → List (List ℕ) → List (List ℕ) → Type 0
    Told t u xs ys = (known → Stops t u xs ys × Place t u w0 w1 xs ys n (last_of [] (ends xs ys))) × Begins t u xs ys

    parts : (a1 a2 : Option (List ℕ)) → ForBoth a1 a2 Told → (known → ForBoth a1 a2 Stops)
        × (known → ForBoth a1 a2 (λ t u xs ys. Place t u w0 w1 xs ys n (last_of [] (ends xs ys))))
        × ForBoth a1 a2 Begins
    parts None a2 told = (λ k. tt, λ k. tt, tt)
    parts (Some t) None told = (λ k. tt, λ k. tt, tt)
    parts (Some t) (Some u) told = (
      λ k xs ys gx gy. ((told xs ys gx gy).0 k).0,
      λ k xs ys gx gy. ((told xs ys gx gy).0 k).1,
      λ xs ys gx gy. (told xs ys gx gy).1,
    )

module _ (b1 b2 w0 w1 : Option (List ℕ)) (n : ℕ) where
  -- ---- the left side stopped

  left_told : (a1 a2 : Option (List ℕ)) (fault : RecordFault) → (fault.kind ≡ Truncated → IsAtEnd b1) → NoText a1 fault
      → LeftTold a1 b1 a2 b2 w0 w1 fault n → ForBoth a1 a2 (Told w0 w1 n (IsOfText fault.kind) LeftStops (λ xs ys. xs))
  left_told None a2 fault ended alone s = tt
  left_told (Some t) None fault ended alone s = tt
  left_told (Some t) (Some u) fault ended alone (inl s) = λ xs ys gx gy. (
    λ known.
        let none = no_magic t b1 fault known ended s.3 in
        (record { faulty = no_text t fault alone known; first = inl none }, ([], inl (inl none, refl), s.1, s.0)),
    begun w0 w1 [] n (begun_none w0 w1 [] n s.0 s.1) (of_both xs ys) (listing (of_both xs ys)) refl,
  )
  left_told (Some t) (Some u) fault ended alone (inr (inl s)) = λ xs ys gx gy. (
    λ known. (
      left_first t u b1 b2 w0 w1 xs ys gx gy n fault s known ended (no_text t fault alone known),
      left_place t u b1 b2 w0 w1 xs ys gx gy n fault s known ended,
    ),
    left_begun t u b1 b2 w0 w1 xs ys gx gy n fault s,
  )
  left_told (Some t) (Some u) fault ended alone (inr (inr (inl f))) =
      λ xs ys gx gy. (
        λ known. absurd (known.1 (ap (λ (e : RecordFault). e.kind) f.2)),
        full_begun t u b1 b2 w0 w1 xs ys gx gy n f.0,
      )
  left_told (Some t) (Some u) fault ended alone (inr (inr (inr b))) =
      λ xs ys gx gy. (
        λ known. absurd (known.1 (ap (λ (e : RecordFault). e.kind) b.5)),
        right_begun t u b1 b2 w0 w1 xs ys gx gy n b.0 b.1,
      )

  left_stopped : (a1 a2 : Option (List ℕ)) (fault : RecordFault) → LeftTold a1 b1 a2 b2 w0 w1 fault n → HasStopped Archive_text a1 b1 fault
  left_stopped a1 a2 fault (inl s) = inl (s.3.bytes, s.3.taken, s.3.stops, s.3.start)
  left_stopped a1 a2 fault (inr (inl s)) = inr (s.sides.left.reader.file, s.merging.both.left.archive, s.merging.both.lefts, s.left)
  left_stopped a1 a2 fault (inr (inr (inl (f, first, is)))) =
      held_stopped a1 b1 f.merging.both.lefts (last_of [] f.merging.out) f.sides.left fault f.merging.both.left
      (first_held f.sides.left.ahead f.sides.right.ahead _ first) f.before.fits.left_few is
  left_stopped a1 a2 fault (inr (inr (inr (own, s, held, same, few, is)))) =
      held_stopped a1 b1 s.merging.both.lefts (last_of [] s.merging.out) s.sides.left fault s.merging.both.left held few
      is

  -- ---- the right side did

  right_told : (a1 a2 : Option (List ℕ)) (fault : RecordFault) → (fault.kind ≡ Truncated → IsAtEnd b2) → NoText a2 fault
      → RightTold a1 b1 a2 b2 w0 w1 fault n → ForBoth a1 a2
      (Told w0 w1 n (IsOfText fault.kind) RightStops (λ xs ys. ys))
  right_told None a2 fault ended alone s = tt
  right_told (Some t) None fault ended alone s = tt
  right_told (Some t) (Some u) fault ended alone (inl s) = λ xs ys gx gy. (
    λ known.
        let none = no_magic u b2 fault known ended s.3 in
        let m = s.2 in
        let k = taken_rest t (magic_of m.0) b1 m.2 in
        (record { faulty = no_text u fault alone known; magic_left = (m.0, m.1, k.0, k.1); first = inl none }, ([], inl (inr none, refl), s.1, s.0)),
    begun w0 w1 [] n (begun_none w0 w1 [] n s.0 s.1) (of_both xs ys) (listing (of_both xs ys)) refl,
  )
  right_told (Some t) (Some u) fault ended alone (inr (inl s)) = λ xs ys gx gy. (
    λ known. (
      right_first t u b1 b2 w0 w1 xs ys gx gy n fault s.0 known ended (no_text u fault alone known),
      right_place t u b1 b2 w0 w1 xs ys gx gy n fault s.0 known ended,
    ),
    right_begun t u b1 b2 w0 w1 xs ys gx gy n fault s.0,
  )
  right_told (Some t) (Some u) fault ended alone (inr (inr f)) =
      λ xs ys gx gy. (
        λ known. absurd (known.1 (ap (λ (e : RecordFault). e.kind) f.2)),
        full_begun t u b1 b2 w0 w1 xs ys gx gy n f.0,
      )

  right_stopped : (a1 a2 : Option (List ℕ)) (fault : RecordFault) → RightTold a1 b1 a2 b2 w0 w1 fault n → HasStopped Archive_text a2 b2 fault
  right_stopped a1 a2 fault (inl s) = inl (s.3.bytes, s.3.taken, s.3.stops, s.3.start)
  right_stopped a1 a2 fault (inr (inl s)) = inr (s.0.sides.right.reader.file, s.0.merging.both.right.archive, s.0.merging.both.rights, s.0.right)
  right_stopped a1 a2 fault (inr (inr (f, first, is))) =
      let held = (first_greater f.sides.left.ahead f.sides.right.ahead _ f.before.read.left f.before.some first).0 in
      held_stopped a2 b2 f.merging.both.rights (last_of [] f.merging.out) f.sides.right fault f.merging.both.right held f.before.fits.right_few is

  -- ---- the writer did

  write_told : (a1 a2 : Option (List ℕ)) → WriteStopped a1 b1 a2 b2 w0 w1 n → ForBoth a1 a2 (Begins w0 w1 n)
      × ForBoth a1 a2 (λ t u xs ys. LeftStops t u xs ys → Later t u w0 w1 xs ys n (last_of [] xs))
      × ForBoth a1 a2 (λ t u xs ys. RightStops t u xs ys → Later t u w0 w1 xs ys n (last_of [] ys))
  write_told None a2 s = (tt, tt, tt)
  write_told (Some t) None s = (tt, tt, tt)
  write_told (Some t) (Some u) s = (
    λ xs ys gx gy. write_begun t u b1 b2 w0 w1 xs ys gx gy n s,
    λ xs ys gx gy. left_later t u b1 b2 w0 w1 xs ys gx gy n s,
    λ xs ys gx gy. right_later t u b1 b2 w0 w1 xs ys gx gy n s,
  )

-- ---- what was written

-- Whatever stopped it, a first part of the text of ascending records was written, and not all of it.
module _ (a1 b1 a2 b2 w0 w1 : Option (List ℕ)) (n : ℕ) where
  abbrev Written : Type 0
  Written = (out : List (List ℕ)) × InOrder Archive [] out × WritesFirst w0 w1 (text_of Archive (kept out)) n

  -- of a merge that was stopped where it stood
  stood : (b c : Option (List ℕ)) (m : Sides) → Merging a1 b a2 c w0 w1 m → n ≡ m.written.bytes → Written
  stood b c m p is = (p.out, p.both.joins.ordered, begun_whole w0 w1 (kept p.out) n (begun_all w0 w1 (kept p.out) n (is ∙ p.bytes) p.gained))

  none : n ≡ 0 → Appends w0 w1 [] → Written
  none is gained = ([], tt, begun_whole w0 w1 (kept []) n (begun_none w0 w1 (kept []) n is gained))

  written_by : (cause : MergeCause) → StopsMerge a1 b1 a2 b2 w0 w1 (record { cause = cause; written = n }) → Written
  written_by (Left fault) (inl s) = none s.0 s.1
  written_by (Left fault) (inr (inl s)) = stood s.before b2 s.sides s.merging s.written_is
  written_by (Left fault) (inr (inr (inl f))) = stood b1 b2 f.0.sides f.0.merging f.0.written_is
  written_by (Left fault) (inr (inr (inr b))) = stood b1 b.1.before b.1.sides b.1.merging b.1.written_is
  written_by (Right fault) (inl s) = none s.0 s.1
  written_by (Right fault) (inr (inl s)) = stood b1 s.0.before s.0.sides s.0.merging s.0.written_is
  written_by (Right fault) (inr (inr f)) = stood b1 b2 f.0.sides f.0.merging f.0.written_is
  written_by Write s = (
    s.out,
    s.both.joins.ordered,
    elim s.within [
      | inl lt ↦ begun_whole w0 w1 (kept s.out) n (omega (arith, lt), s.gained)
      | inr e ↦ record { within = e.2; gained = s.gained }
    ],
  )

-- so many bytes
pub counted : (a1 b1 a2 b2 w0 w1 : Option (List ℕ)) (r : Result Sizes MergeFault) → Leaves a1 b1 a2 b2 w0 w1 r
    → IfErr r (λ e. (bytes : List ℕ) × Appends w0 w1 bytes × (e.written ≡ length bytes))
counted a1 b1 a2 b2 w0 w1 (Ok sizes) leaves = tt
counted a1 b1 a2 b2 w0 w1 (Err e) leaves =
    let w = written_by a1 b1 a2 b2 w0 w1 e.written e.cause leaves in
    let lt = w.2.within in
    (take e.written (text_of Archive (kept w.0)), w.2.gained, sym (length-take-le e.written (text_of Archive (kept w.0)) (omega (arith, lt))))

-- ---- what came of it

module _ {R S W : Type 0} (left : Stream R) (right : Stream S) (out : Stream W) where
  abbrev Stopping : MergeCause → ℕ → Type 0
  Stopping cause n = StopsMerge (left.bytes left.old) (left.bytes left.new) (right.bytes right.old)
      (right.bytes right.new) (out.bytes out.old) (out.bytes out.new) (record { cause = cause; written = n })

  stops_by : (cause : MergeCause) (n : ℕ) → Stopping cause n → BlamesBy left right (out.failures out.old) (out.failures out.new) cause
      → StopsBy left right out cause n × ForBoth (left.bytes left.old) (right.bytes right.old)
      (λ t u xs ys. WritesFirst (out.bytes out.old) (out.bytes out.new) (written (of_both xs ys)) n)
  stops_by (Left fault) n s blames =
      let refused = refused_alone left fault (left_stopped _ _ _ _ n _ _ fault s) blames.0 in
      let told = parts (out.bytes out.old) (out.bytes out.new) n (IsOfText fault.kind) LeftStops (λ xs ys. xs)
      (left.bytes left.old) (right.bytes right.old) (left_told _ _ _ _ n _ _ fault blames.0.2 refused.1 s) in (
        record {
          refused = refused;
          right_unfailed = blames.1;
          out_unfailed = blames.2;
          stops = told.0;
          place = told.1;
          order = left_order left right out n fault s;
        },
        told.2,
      )
  stops_by (Right fault) n s blames =
      let refused = refused_alone right fault (right_stopped _ _ _ _ n _ _ fault s) blames.1 in
      let told = parts (out.bytes out.old) (out.bytes out.new) n (IsOfText fault.kind) RightStops (λ xs ys. ys)
      (left.bytes left.old) (right.bytes right.old) (right_told _ _ _ _ n _ _ fault blames.1.2 refused.1 s) in (
        record {
          refused = refused;
          left_unfailed = blames.0;
          out_unfailed = blames.2;
          stops = told.0;
          place = told.1;
          order = right_order left right out n fault s;
        },
        told.2,
      )
  stops_by Write n s blames =
      let told = write_told _ _ _ _ n _ _ s in
      let both = s.both in (
        record {
          failed = blames.2;
          left_unfailed = blames.0;
          right_unfailed = blames.1;
          left_begun =
              side_begun left both.lefts (last_of [] s.out) s.left_side both.left;
          right_begun =
              side_begun right both.rights (last_of [] s.out) s.right_side both.right;
          left_later = told.1;
          right_later =
              told.2;
        },
        told.0,
      )

  unfoldable pub merged : (sizes : Sizes) → MergedAll (left.bytes left.old) (left.bytes left.new)
      (right.bytes right.old) (right.bytes right.new) (out.bytes out.old) (out.bytes out.new) sizes → IsUnfailed left
      × IsUnfailed right × IsUnfailed out → IsMerged left right out sizes
  merged sizes m unfailed =
      let both = m.merging.both in
      let out_records : List (List ℕ) = kept m.merging.out in
      let f : Format = m.sides.left.reader.file in
      let g : Format = m.sides.right.reader.file in
      let l = both.left.ended m.ended.left in
      let r = both.right.ended m.ended.right in
      let o : Operations = set.from_list (taken_of f both.lefts) in
      let p : Operations = set.from_list (taken_of g both.rights) in
      let join : joined o p ≡ of_both both.lefts both.rights =
      sym (both_taken f g both.left.archive both.right.archive both.lefts both.rights l.0.ordered l.0.apart
      r.0.ordered r.0.apart) in
      let whole : listing (joined o p) ≡ out_records = ap listing join ∙ kept_listing both.lefts both.rights m.merging.out both.joins in
      let number : m.sides.written.records ≡ set.len (joined o p) = m.merging.records ∙ ap length (sym whole) ∙ length_written (joined o p) in
      let front : List ℕ = magic ++ concat out_records in
      let end : List ℕ = end_record m.sides.written.records in
      let text : front ++ end ≡ written (joined o p) = append_assoc magic (concat out_records) end
      ∙ ap (λ (n : ℕ). magic ++ (concat out_records ++ end_record n)) m.merging.records
      ∙ sym (written_text (joined o p) ∙ ap (text_of Archive) whole) in
      record {
        o = o;
        p = p;
        left_is = read_whole left f both.left.archive both.lefts m.sides.left.reader l.0 l.1 unfailed.0;
        right_is = read_whole right g both.right.archive both.rights m.sides.right.reader r.0 r.1 unfailed.1;
        few = subst (λ (n : ℕ). n < 2 ^ 63) number m.ended.fits.few;
        written_is = record {
          written = subst (Appends (out.bytes out.old) (out.bytes out.new)) text
              (Appends-then (out.bytes out.old) m.before (out.bytes out.new) front end m.merging.gained m.gained);
          records_are = m.records ∙ number;
          bytes_are = omega (arith, m.bytes, m.merging.bytes, ap length text, length-append front end, length-append magic (concat out_records));
          unfailed = unfailed.2;
        };
      }

  pub merges : (r : Result Sizes MergeFault) → Leaves (left.bytes left.old) (left.bytes left.new)
      (right.bytes right.old) (right.bytes right.new) (out.bytes out.old) (out.bytes out.new) r
      → BlamesDevices left right (out.failures out.old) (out.failures out.new) r → Merges left right out r
  merges (Ok sizes) m unfailed = merged sizes m unfailed
  merges (Err e) s blames =
      let stopped = stops_by e.cause e.written s blames in
      let w = written_by _ _ _ _ _ _ e.written e.cause s in
      (stopped.0, stopped.1, text_none (out.bytes out.old) (out.bytes out.new) w.0 e.written w.1 w.2)
