-- What was taken of the sides of a merge where one of them stopped it.
use Rattle.std.proofs.Common.{◌≡◌, ◌≢◌, ℕ, ◌+◌, true, false, List, [], ◌∷◌, ◌++◌, length, Option, refl, sym, ap, ◌∙◌}
use Rattle.std.proofs.Common.{subst, arith, inl, inr, ◌⊎◌, length-append, Less, Equal, Greater, Ordering}
use Rattle.std.proofs.lemmas.List.{append-nil}
use Rattle.std.specs.Ordering.{nat_cmp, ordering_reverse}
use Rattle.std.specs.Cmp.Lexicographic.{slice_cmp, nat_list_cmp_total}
use Rattle.std.specs.FinSet as set
use Rattle.std.specs.List.{concat}
use Rattle.std.specs.Io.KnownBytes.{Consumes, Appends}
use Rattle.join_core.specs.Listing.{listing}
use Rattle.archive_records.specs.declared.fault.RecordFault.{RecordFault}
use Rattle.archive_records.specs.declared.format.Format.{Format}
use Rattle.archive_records.specs.declared.format.Format.TheVariants.{Archive}
use Rattle.archive_merge.specs.declared.side.Lookahead.{Lookahead}
use Rattle.archive_merge.specs.declared.side.Lookahead.TheVariants.{Unread, Held, Ended}
use Rattle.archive_merge.specs.Sides.{Sides}
use Rattle.archive_merge.specs.declared.side.MergeInput.{MergeInput}
use Rattle.archive_records.specs.Kind.{magic, magic_of, IsItem, may_follow}
use Rattle.archive_records.specs.Text.{end_record, InOrder, AreApart, last_of, kept}
use Rattle.archive_records.specs.Reader.{set_of, Stopped, Stops}
use Rattle.byte_device.specs.Devices.{Stream}
use Rattle.archive_merge.specs.Merging.{IsBegun, IsTaken, IsMagicTaken, IsNext, IsTurnOfRight, IsOneMore, IsBehind}
use Rattle.archive_merge.specs.Merging.{IsOut, IsInMagic, IsLeftBehind, IsRightBehind, all_of, of_both, most_records}
use Rattle.archive_merge.specs.MergeSteps.{Stands, Joins, LeftStopped, RightStopped, LeftFull, RightFull, BothWanted}
use Rattle.archive_merge.specs.MergeSteps.{RightAlone, LeftTold, RightTold, first_by, first_of, next_record}
use Rattle.archive_merge.specs.MergeSteps.{next_record_by}
use Rattle.archive_records.proofs.Puts.{concat-push, length_written}
use Rattle.archive_records.proofs.Forms.{item-no_end}
use Rattle.archive_records.proofs.Ends.{end-is_end}
use Rattle.archive_records.proofs.Ascending.{less_of, below-greater, below-self, last_within, InOrder-front}
use Rattle.archive_records.proofs.Formats.{in_order_of, ending_of}
use Rattle.archive_merge.proofs.Places.{joins_listing, kept_listing, all_is}
use Rattle.archive_records.proofs.Apart.{apart_front}
use Rattle.archive_core.specs.Content.{Operations, is_covered}
use Rattle.archive_merge.proofs.MergeSteps.{held_record, first_greater, first_held}

-- ---- one side

read_or_not : (h : Lookahead) → (h ≡ Unread) ⊎ (h ≢ Unread)
read_or_not Unread = inl refl
read_or_not Held = inr (λ e. cc)
read_or_not Ended = inr (λ e. cc)

-- what was taken after the records
abbrev next_of : Lookahead → List ℕ → List (List ℕ) → List ℕ
next_of Unread x records = []
next_of Held x records = x
next_of Ended x records = end_record (length records)

-- what a side holds
held_next : (h : Lookahead) (x : List ℕ) (records : List (List ℕ)) → h ≡ Held → next_of h x records ≡ x
held_next h x records held = ap (λ s. next_of s x records) held

module _ {R : Type 0} (side : Stream R) (records : List (List ℕ)) (low : List ℕ) (s : MergeInput)
    (p : Stands (side.bytes side.old) (side.bytes side.new) records low s) where
  abbrev next : List ℕ
  next = next_of s.ahead s.reader.last records

  abbrev Taken : Lookahead → Type 0
  Taken h = Consumes (side.bytes side.old) (side.bytes side.new)
      (magic_of s.reader.file ++ (concat records ++ next_of h s.reader.last records)) × InOrder Archive [] records
      × AreApart s.reader.file records

  taken_by : (h : Lookahead) → s.ahead ≡ h → Taken h
  taken_by Unread e =
      let h = (p.unread e).0 in
      (rw (append-nil (concat records)) h.taken, in_order_of s.reader.file p.archive [] records h.ordered, h.apart)
  taken_by Held e =
      let h = (p.held e).0 in (
        rw (← concat-push records s.reader.last) h.taken,
        InOrder-front [] records s.reader.last (in_order_of s.reader.file p.archive [] (records ++ s.reader.last ∷ []) h.ordered),
        apart_front s.reader.file records (s.reader.last ∷ []) h.apart,
      )
  taken_by Ended e =
      let h = (p.ended e).0 in
      (rw (← ending_of s.reader.file p.archive (length records)) h.taken, in_order_of s.reader.file p.archive [] records h.ordered, h.apart)

  abbrev taken_next : IsTaken side records next
  taken_next =
      let t = taken_by s.ahead refl in
      record { format = s.reader.file; archive = p.archive; taken = t.0; ordered = t.1; apart = t.2 }

  -- its magic was
  pub side_begun : IsBegun side
  side_begun = (s.reader.file, p.archive, concat records ++ next, (taken_by s.ahead refl).0)

  next_by : (h : Lookahead) → s.ahead ≡ h → h ≢ Unread → IsNext side s.reader.file low records (next_of h s.reader.last records)
  next_by Unread e read = absurd (read refl)
  next_by Held e read = inl (held_record (side.bytes side.old) (side.bytes side.new) records low s p e, (p.held e).1, (p.held e).0.apart)
  next_by Ended e read = inr (refl, (p.ended e).1)

  next_is : s.ahead ≢ Unread → IsNext side s.reader.file low records next
  next_is read = next_by s.ahead refl read

  more_is : s.ahead ≡ Held → IsItem Archive next × (may_follow Archive low next ≡ true)
  more_is held = rw (held_next s.ahead s.reader.last records held)
      (held_record (side.bytes side.old) (side.bytes side.new) records low s p held, (p.held held).1)

  -- where it was not read on, its last record is low
  turn_is : (s.ahead ≢ Unread → may_follow Archive (last_of [] records) low ≡ true)
      → ((last_of [] records ≡ low) × (next ≡ [])) ⊎ ((may_follow Archive (last_of [] records) low ≡ true) × IsNext side s.reader.file low records next)
  turn_is order = elim (read_or_not s.ahead) [
    | inl unread ↦ inl ((p.unread unread).1, ap (λ h. next_of h s.reader.last records) unread)
    | inr read ↦ inr (order read, next_is read)
  ]

-- and where it stopped
stopped_taken : {R : Type 0} (side : Stream R) (b : Option (List ℕ)) (records : List (List ℕ)) (low : List ℕ)
    (s : MergeInput) (fault : RecordFault) → Stands (side.bytes side.old) b records low s
    → (stop : Stopped s.reader.file (side.bytes side.old) (side.bytes side.new) records fault)
    → IsTaken side records stop.rest
stopped_taken side b records low s fault p stop = record {
  format = s.reader.file;
  archive = p.archive;
  taken = stop.taken;
  ordered =
      in_order_of s.reader.file p.archive [] records stop.ordered;
  apart = stop.apart;
}

-- no end record is a record
end_no_item : (n : ℕ) → IsItem Archive (end_record n) → ⊥
end_no_item n item = cc (item-no_end Archive (end_record n) item, end-is_end n)

greater_of : (x y : List ℕ) → may_follow Archive y x ≡ true → slice_cmp nat_cmp x y ≡ Greater
greater_of x y below = nat_list_cmp_total.antisymm x y ∙ ap ordering_reverse (less_of y x below)

-- which of two next records is first
not_below : (l r : Lookahead) (x y : List ℕ) (lefts rights : List (List ℕ)) → r ≢ Unread
    → first_by l r (slice_cmp nat_cmp x y) ≢ Greater → IsItem Archive (next_of r y rights)
    → may_follow Archive (next_of r y rights) (next_of l x lefts) ≡ true → ⊥
not_below Held Held x y lefts rights read first item below = first (greater_of x y below)
not_below Held Ended x y lefts rights read first item below = end_no_item (length rights) item
not_below Held Unread x y lefts rights read first item below = read refl
not_below Ended r x y lefts rights read first item below = first refl
not_below Unread r x y lefts rights read first item below = first refl

is_below : (l : Lookahead) (x y : List ℕ) (lefts : List (List ℕ)) → l ≢ Unread
    → (l ≡ Held → slice_cmp nat_cmp x y ≡ Greater) → IsItem Archive (next_of l x lefts)
    → may_follow Archive y (next_of l x lefts) ≡ true
is_below Held x y lefts read first item = below-greater x y (first refl)
is_below Ended x y lefts read first item = absurd (end_no_item (length lefts) item)
is_below Unread x y lefts read first item = absurd (read refl)

not_next : (h : Lookahead) (x : List ℕ) (records : List (List ℕ)) (rest : List ℕ) → h ≢ Unread → (h ≡ Held → rest ≢ x)
    → ((n : ℕ) → rest ≢ end_record n) → rest ≡ next_of h x records → ⊥
not_next Unread x records rest read record_not end_not same = read refl
not_next Held x records rest read record_not end_not same = record_not refl same
not_next Ended x records rest read record_not end_not same = end_not (length records) same

-- the record that is next is the left side's, where it is not the right one's alone
next_left : (o : Ordering) (m : Sides) → o ≢ Greater → next_record_by o m ≡ m.left.reader.last
next_left Less m first = refl
next_left Equal m first = refl
next_left Greater m first = absurd (first refl)

-- ---- the place

behind_is : (f : Format) (records : List (List ℕ)) (rest : List ℕ) (fault : RecordFault) → Stops f records rest fault → IsBehind records fault
behind_is f records rest fault (inl s) = inl s.0
behind_is f records rest fault (inr (inl s)) = inr (s.0, s.2)
behind_is f records rest fault (inr (inr s)) = inl s.2

module _ {W : Type 0} (out : Stream W) (os lefts rights : List (List ℕ)) (n : ℕ) (joins : Joins os lefts rights) where
  out_is : n ≡ 8 + length (concat (kept os)) → Appends (out.bytes out.old) (out.bytes out.new)
      (magic ++ concat (kept os)) → IsOut out (listing (of_both lefts rights)) n
  out_is is gained = subst (λ (t : List (List ℕ)). IsOut out t n) (sym (kept_listing lefts rights os joins))
      (gained, omega (arith, is, length-append magic (concat (kept os))))

  most_is : length (kept os) ≡ most_records → set.len (of_both lefts rights) ≡ most_records
  most_is most = sym (length_written (of_both lefts rights)) ∙ ap length (kept_listing lefts rights os joins) ∙ most

  one_more : {R S : Type 0} (side : Stream R) (other : Stream S) (format : Format) (others : List (List ℕ))
      (more next : List ℕ) → length (kept os) ≡ most_records → IsItem Archive more
      × (may_follow Archive (last_of [] os) more ≡ true) → is_covered (set_of os) more ≡ false
      → IsNext other format (last_of [] os) others next
      → IsOneMore side other format (of_both lefts rights) (all_of lefts rights) others more next
  one_more side other format others more next most more_is free next_is =
      let low : last_of [] os ≡ last_of [] (listing (all_of lefts rights)) = ap (last_of []) (sym (joins_listing lefts rights os joins)) in
      record {
        most = most_is most;
        more_is = (more_is.0, subst (λ (t : List ℕ). may_follow Archive t more ≡ true) low more_is.1);
        uncovered = subst (λ (o : Operations). is_covered o more ≡ false) (sym (all_is lefts rights os joins)) free;
        next_is = subst (λ (t : List ℕ). IsNext other format t others next) low next_is;
      }

-- ---- both sides

module _ {R S W : Type 0} (left : Stream R) (right : Stream S) (out : Stream W) (n : ℕ) (fault : RecordFault) where
  -- of the bytes that they took and gave
  abbrev Of : ((a1 b1 a2 b2 w0 w1 : Option (List ℕ)) → RecordFault → ℕ → Type 0) → Type 0
  Of P = P (left.bytes left.old) (left.bytes left.new) (right.bytes right.old) (right.bytes right.new) (out.bytes out.old) (out.bytes out.new) fault n

  left_behind : Of LeftStopped → IsLeftBehind left right out fault n
  left_behind s =
      let m = s.sides in
      let b = s.merging.both in
      let low : List ℕ = last_of [] s.merging.out in
      let next : List ℕ = next_of m.right.ahead m.right.reader.last b.rights in
      record {
        lefts = b.lefts;
        rights = b.rights;
        left_next = s.left.rest;
        right_next = next;
        left_taken = stopped_taken left s.before b.lefts low m.left fault b.left s.left;
        right_taken = taken_next right b.rights low m.right b.right;
        behind = behind_is m.left.reader.file b.lefts s.left.rest fault s.left.stops;
        out_is = out_is out s.merging.out b.lefts b.rights n b.joins (s.written_is ∙ s.merging.bytes) s.merging.gained;
        turn = inl (rw (b.left.unread s.unread).1 (turn_is right b.rights low m.right b.right (b.order s.unread)));
      }

  left_full : Of LeftFull → IsLeftBehind left right out fault n
  left_full (f, first, is) =
      let m = f.sides in
      let b = f.merging.both in
      let held = first_held m.left.ahead m.right.ahead _ first in
      let low : List ℕ = last_of [] f.merging.out in
      let x : List ℕ = next_of m.left.ahead m.left.reader.last b.lefts in
      let y : List ℕ = next_of m.right.ahead m.right.reader.last b.rights in
      let x_is : x ≡ m.left.reader.last = held_next m.left.ahead m.left.reader.last b.lefts held in
      let next : next_record m ≡ m.left.reader.last = next_left (first_of m.left m.right) m first in
      record {
        lefts = b.lefts;
        rights = b.rights;
        left_next = x;
        right_next = y;
        left_taken = taken_next left b.lefts low m.left b.left;
        right_taken = taken_next right b.rights low m.right b.right;
        behind = inl (ap (λ (t : RecordFault). t.offset) is);
        out_is = out_is out f.merging.out b.lefts b.rights n b.joins (f.written_is ∙ f.merging.bytes) f.merging.gained;
        turn = inr (inl (
          ap (λ (t : RecordFault). t.kind) is,
          one_more out f.merging.out b.lefts b.rights n b.joins left right m.right.reader.file b.rights x y
              (sym f.merging.records ∙ f.most) (more_is left b.lefts low m.left b.left held) (cc (f.free, x_is, next))
              (next_is right b.rights low m.right b.right f.before.read.right),
          not_below m.left.ahead m.right.ahead m.left.reader.last m.right.reader.last b.lefts b.rights f.before.read.right first,
        ));
      }

  -- it is the right side's turn
  right_turn : (own : RecordFault) (s : RightStopped (left.bytes left.old) (left.bytes left.new) (right.bytes right.old)
      (right.bytes right.new) (out.bytes out.old) (out.bytes out.new) own n)
      → IsTurnOfRight left s.sides.left.reader.file s.merging.both.lefts s.merging.both.rights
      (next_of s.sides.left.ahead s.sides.left.reader.last s.merging.both.lefts)
  right_turn own s =
      let b = s.merging.both in
      let last = (b.right.unread s.unread).1 in (
        λ below. cc (last_within s.merging.out b.lefts b.joins.ordered b.joins.left, last, below),
        rw last (next_is left b.lefts (last_of [] s.merging.out) s.sides.left b.left s.read),
      )

  left_both : Of BothWanted → IsLeftBehind left right out fault n
  left_both (own, s, held, same, few, is) =
      let m = s.sides in
      let b = s.merging.both in
      let low : List ℕ = last_of [] s.merging.out in
      record {
        lefts = b.lefts;
        rights = b.rights;
        left_next = next_of m.left.ahead m.left.reader.last b.lefts;
        right_next = s.right.rest;
        left_taken = taken_next left b.lefts low m.left b.left;
        right_taken = stopped_taken right s.before b.rights low m.right own b.right s.right;
        behind = inl (ap (λ (t : RecordFault). t.offset) is);
        out_is = out_is out s.merging.out b.lefts b.rights n b.joins (s.written_is ∙ s.merging.bytes) s.merging.gained;
        turn = inr (inr (
          ap (λ (t : RecordFault). t.kind) is,
          (right_turn own s, (more_is left b.lefts low m.left b.left held).0, same ∙ sym (held_next m.left.ahead m.left.reader.last b.lefts held)),
        ));
      }

  right_behind : Of RightAlone → IsRightBehind left right out fault n
  right_behind (s, alone) =
      let m = s.sides in
      let b = s.merging.both in
      let low : List ℕ = last_of [] s.merging.out in
      record {
        lefts = b.lefts;
        rights = b.rights;
        left_next = next_of m.left.ahead m.left.reader.last b.lefts;
        right_next = s.right.rest;
        left_taken = taken_next left b.lefts low m.left b.left;
        right_taken = stopped_taken right s.before b.rights low m.right fault b.right s.right;
        behind = behind_is m.right.reader.file b.rights s.right.rest fault s.right.stops;
        out_is = out_is out s.merging.out b.lefts b.rights n b.joins (s.written_is ∙ s.merging.bytes) s.merging.gained;
        turn = inl (right_turn fault s);
        alone = λ memory same. not_next m.left.ahead m.left.reader.last b.lefts s.right.rest s.read (alone memory).0 (alone memory).1 same;
      }

  right_full : Of RightFull → IsRightBehind left right out fault n
  right_full (f, first, is) =
      let m = f.sides in
      let b = f.merging.both in
      let g = first_greater m.left.ahead m.right.ahead _ f.before.read.left f.before.some first in
      let low : List ℕ = last_of [] f.merging.out in
      let x : List ℕ = next_of m.left.ahead m.left.reader.last b.lefts in
      let y : List ℕ = next_of m.right.ahead m.right.reader.last b.rights in
      let y_is : y ≡ m.right.reader.last = held_next m.right.ahead m.right.reader.last b.rights g.0 in
      let below : IsItem Archive x → may_follow Archive y x
      ≡ true = λ item. ap (λ (r : List ℕ). may_follow Archive r x) y_is
      ∙ is_below m.left.ahead m.left.reader.last m.right.reader.last b.lefts f.before.read.left g.1 item in
      let more = more_is right b.rights low m.right b.right g.0 in
      let next : next_record m ≡ m.right.reader.last = ap (λ o. next_record_by o m) first in
      record {
        lefts = b.lefts;
        rights = b.rights;
        left_next = x;
        right_next = y;
        left_taken = taken_next left b.lefts low m.left b.left;
        right_taken = taken_next right b.rights low m.right b.right;
        behind = inl (ap (λ (t : RecordFault). t.offset) is);
        out_is = out_is out f.merging.out b.lefts b.rights n b.joins (f.written_is ∙ f.merging.bytes) f.merging.gained;
        turn = inr (
          ap (λ (t : RecordFault). t.kind) is,
          one_more out f.merging.out b.lefts b.rights n b.joins right left m.left.reader.file b.lefts y x
              (sym f.merging.records ∙ f.most) more (cc (f.free, y_is, next))
              (next_is left b.lefts low m.left b.left f.before.read.left),
          below,
        );
        alone = λ _ same. cc (below-self x, below (subst (IsItem Archive) same more.0), same);
      }

  pub left_order : Of LeftTold → (IsInMagic out fault n × Consumes (right.bytes right.old) (right.bytes right.new) []) ⊎ IsLeftBehind left right out fault n
  left_order (inl s) = inl ((s.3.start, s.0, s.1), s.2)
  left_order (inr (inl s)) = inr (left_behind s)
  left_order (inr (inr (inl s))) = inr (left_full s)
  left_order (inr (inr (inr s))) = inr (left_both s)

  pub right_order : Of RightTold → (IsInMagic out fault n × IsMagicTaken left) ⊎ IsRightBehind left right out fault n
  right_order (inl s) = inl ((s.3.start, s.0, s.1), s.2)
  right_order (inr (inl s)) = inr (right_behind s)
  right_order (inr (inr s)) = inr (right_full s)
