-- How a side of a merge stands that was read on, and how a merge begins and ends.
use Rattle.std.proofs.Common.{◌≡◌, ◌≢◌, ℕ, ◌+◌, ◌^◌, ◌<◌, true, List, [], ◌∷◌, ◌++◌, length, take, Option, Some, Ok}
use Rattle.std.proofs.Common.{refl, sym, ap, ◌∙◌, subst, arith, inl, inr, append_assoc, length-append}
use Rattle.std.proofs.lemmas.List.{append-nil, take-append-le}
use Rattle.std.specs.List.{concat}
use Rattle.std.specs.Io.KnownBytes.{Appends, Consumes}
use Rattle.byte_device.specs.Writes.{WritesFirst}
use Rattle.byte_device.proofs.Gains.{stopped}
use Rattle.archive_records.specs.declared.format.Format.{Format}
use Rattle.archive_records.specs.declared.format.Format.TheVariants.{Archive, OldArchive, Operations as Operations_file, Summary as Summary_file}
use Rattle.archive_records.specs.declared.kind.TextKind.TheVariants.{Archive as Archive_text}
use Rattle.archive_merge.specs.Sides.{Sides}
use Rattle.archive_merge.specs.declared.side.Lookahead.TheVariants.{Unread, Held}
use Rattle.archive_merge.specs.declared.side.MergeInput.{MergeInput}
use Rattle.archive_records.specs.Kind.{magic, magic_of, kind_of, may_follow, IsItem, end_length}
use Rattle.archive_records.specs.Text.{end_record, text_of, last_of, kept, InOrder, AreApart}
use Rattle.archive_records.specs.Reader.{HasRead, Passes, Position, HasWhole, Stopped, StoppedWith}
use Rattle.archive_records.specs.declared.fault.RecordFault.{RecordFault}
use Rattle.archive_records.proofs.RecordSteps.{HasRead-grows}
use Rattle.archive_records.proofs.Formats.{follows_of}
use Rattle.archive_records.proofs.KeptRecords.{kept_none, long_record}
use Rattle.archive_merge.specs.MergeSteps.{Stands, Merging, HasMagicRead, RightStopped, WriteStopped, BlamesBy}
use Rattle.archive_merge.specs.MergeSteps.{BlamesRight, IsToldOfRight, memory_after, HasEnded, HasStoppedMerge}
use Rattle.archive_merge.specs.MergeSteps.{StopsMerge as MergeStops, Both}
use Rattle.archive_merge.proofs.MergeSteps.{held_record, before_last}
use Rattle.archive_records.proofs.Blamed.{blames_behind}
use Rattle.archive_records.proofs.Forms.{item-framed, item-no_end}
use Rattle.archive_records.proofs.Ends.{framed_end, end-is_end}
use Rattle.archive_records.specs.Fault.{IsCutAtMost}
use Rattle.archive_records.specs.Front.{front_length}
use Rattle.archive_records.specs.Layout.{framed}
use Rattle.archive_records.specs.Reading.{Blames}
use Rattle.byte_device.specs.Devices.{FailedIn, Stream, stream}
use Rattle.archive_records.specs.declared.fault.MergeCause.{MergeCause}
use Rattle.archive_records.specs.declared.fault.MergeCause.TheVariants.{Left, Right, Write}
use Rattle.archive_records.specs.declared.fault.MergeFault.{MergeFault}

-- one record more was read of a side
pub stands_held : (a b c : Option (List ℕ)) (done : List (List ℕ)) (before : Position) (side : MergeInput)
    → kind_of before.file ≡ Archive_text → HasRead before.file a b done before → Passes b c before side.reader
    → side.ahead ≡ Held → Stands a c done (last_of [] done) side
stands_held a b c done before side k h s held = record {
  archive = ap kind_of s.file_is ∙ k;
  unread = λ t. cc;
  held = λ _. (
    subst (λ (f : Format). HasRead f a c (done ++ side.reader.last ∷ []) side.reader) (sym s.file_is)
        (HasRead-grows before.file a b c done before side.reader h s),
    subst (λ (x : List ℕ). may_follow Archive x side.reader.last ≡ true) h.last_is (sym (follows_of before.file k before.last side.reader.last) ∙ s.follows),
  );
  ended = λ t. cc;
}

pub stands_start : (a b : Option (List ℕ)) (side : MergeInput) → kind_of side.reader.file ≡ Archive_text
    → HasRead side.reader.file a b [] side.reader → side.ahead ≡ Unread → Stands a b [] [] side
stands_start a b side k h s = record { archive = k; unread = λ _. (h, refl); held = λ t. cc; ended = λ t. cc }

module _ (a1 b1 a2 b2 w0 w1 : Option (List ℕ)) (left right : MergeInput) (f : kind_of left.reader.file ≡ Archive_text)
    (g : kind_of right.reader.file ≡ Archive_text) (h : HasRead left.reader.file a1 b1 [] left.reader)
    (k : HasRead right.reader.file a2 b2 [] right.reader) (s : left.ahead ≡ Unread) (t : right.ahead ≡ Unread)
    (x : List ℕ) (x_is : x ≡ magic) where
  abbrev both_start : Both a1 b1 a2 b2 left right []
  both_start = record {
    lefts = [];
    rights = [];
    left = stands_start a1 b1 left f h s;
    right = stands_start a2 b2 right g k t;
    order = λ _ n. absurd (n t);
    joins = record { ordered = tt; from = λ z c. inl c; left = λ z c. c; right = λ z c. c };
  }

  unfoldable pub merging_start : (written : ℕ) → written ≡ 0 + length x → Appends w0 w1 x
      → Merging a1 b1 a2 b2 w0 w1 (record {
        left = left;
        right = right;
        written =
            record { records = 0; bytes = written };
      })
  merging_start written n p = record {
    out = [];
    both = both_start;
    records = ap length (sym kept_none);
    bytes = omega (arith, n, ap length x_is, ap (λ (t : List (List ℕ)). length (concat t)) kept_none);
    gained = subst (λ (t : List (List ℕ)). Appends w0 w1 (magic ++ concat t)) (sym kept_none) (subst (Appends w0 w1) x_is p);
  }

  pub stops_start : (written n : ℕ) → written ≡ 0 + n → WritesFirst w0 w1 x n → WriteStopped a1 b1 a2 b2 w0 w1 written
  stops_start written n is q =
      let p : WritesFirst w0 w1 magic n = subst (λ (t : List ℕ). WritesFirst w0 w1 t n) x_is q in
      let lt = p.within in
      let e : written ≡ n = omega arith in
      let same : take n (text_of Archive []) ≡ take n magic = take-append-le n magic (concat [] ++ end_record 0) (omega arith) in
      record {
        out = [];
        left_side = left;
        right_side = right;
        both = both_start;
        within = inl (omega (arith, ap (λ (t : List (List ℕ)). length (concat t)) kept_none));
        gained = subst (λ (t : List (List ℕ)). Appends w0 w1 (take written (text_of Archive t))) (sym kept_none) (rw (e, same) p.gained);
      }

-- ---- what memory was wanted for

framed_item : (f : Format) → kind_of f ≡ Archive_text → (x : List ℕ) → IsItem Archive x → framed f x ≡ Ok (length x)
framed_item Archive k x item = item-framed Archive x item
framed_item OldArchive k x item = item-framed OldArchive x item
framed_item Operations_file k x item = cc
framed_item Summary_file k x item = cc

pub counts_of : (f : Format) → kind_of f ≡ Archive_text → end_length f ≡ Some 9
counts_of f k = grind arith

-- it came whole where it is the record of the other side
whole_is : (f : Format) (rest x last : List ℕ) → x ≡ last → IsItem Archive x → HasWhole f rest last → rest ≡ x
whole_is f rest x last is item (inl w) = sym w.1 ∙ sym is
whole_is f rest x last is item (inr cut) = absurd (omega (arith, long_record x item, ap length (is ∙ cut.1)))

-- and where it is that record the reader has it
other_record : (f : Format) → kind_of f ≡ Archive_text → (rest x last : List ℕ) → IsItem Archive x → HasWhole f rest last → rest ≡ x → (x ≡ last → ⊥) → ⊥
other_record f k rest x last item (inl w) same other = other (sym same ∙ sym w.1)
other_record f k rest x last item (inr cut) same other = cc (cut.0, framed_item f k x item, same)

no_end_record : (f : Format) → kind_of f ≡ Archive_text → (rest last : List ℕ) (n : ℕ) → HasWhole f rest last → rest ≡ end_record n → ⊥
no_end_record f k rest last n (inl w) same = cc (item-no_end f rest w.0, same, end-is_end n)
no_end_record f k rest last n (inr cut) same = cc (cut.0, same, framed_end f (counts_of f k) n)

-- where the left side is told of it no device failed
pub told_right : {S : Type 0} (right : Stream S) (m : Sides) (fault : RecordFault) (e : MergeFault)
    → IsToldOfRight m fault e → Blames right.bytes right.failures right.old right.new fault.kind
    → BlamesRight right e.cause
told_right right m fault e (inl (memory, both, is)) blames = rw is (refl, blames.1 (λ device. cc))
told_right right m fault e (inr (alone, is)) blames = rw is blames

-- memory was wanted after these records
abbrev pub memory_stopped : (f : Format) (a b : Option (List ℕ)) (done : List (List ℕ)) (rest : List ℕ)
    (fault : RecordFault) → Consumes a b (magic_of f ++ (concat done ++ rest)) → InOrder f [] done → AreApart f done
    → length done < 2 ^ 63 → fault ≡ memory_after (front_length done)
    → IsCutAtMost f (magic_of f ++ (concat done ++ rest)) → Stopped f a b done fault
memory_stopped f a b done rest fault taken ordered apart few is cut = record {
  rest = rest;
  taken = taken;
  ordered = ordered;
  apart = apart;
  few = few;
  unended = λ known. absurd (known.1 (ap (λ (t : RecordFault). t.kind) is));
  stops = inl (ap (λ (t : RecordFault). t.offset) is, λ known. absurd (known (ap (λ (t : RecordFault). t.kind) is)));
  undecided = λ _. cut;
}

-- who is blamed after no device failed is blamed for all
pub blamed_later : {R S : Type 0} (a : R → Option (List ℕ)) (f : R → ℕ) (bytes : S → Option (List ℕ)) (h : S → ℕ)
    (r0 r1 r2 : R) (s0 s1 s2 : S) (w0 w1 w2 : ℕ) (cause : MergeCause) → f r1 ≡ f r0 → h s1 ≡ h s0 → w1 ≡ w0
    → BlamesBy (stream a f r1 r2) (stream bytes h s1 s2) w1 w2 cause → BlamesBy (stream a f r0 r2) (stream bytes h s0 s2) w0 w2 cause
blamed_later a f bytes h r0 r1 r2 s0 s1 s2 w0 w1 w2 (Left fault) r s w blames = (blames_behind a f r0 r1 r2 r fault.kind blames.0, blames.1 ∙ s, blames.2 ∙ w)
blamed_later a f bytes h r0 r1 r2 s0 s1 s2 w0 w1 w2 (Right fault) r s w blames =
    (blames.0 ∙ r, blames_behind bytes h s0 s1 s2 s fault.kind blames.1, blames.2 ∙ w)
blamed_later a f bytes h r0 r1 r2 s0 s1 s2 w0 w1 w2 Write r s w blames = (blames.0 ∙ r, blames.1 ∙ s, subst (λ n. FailedIn n w2) w blames.2)

-- ---- both sides are read on

-- the same was written where the sides stand otherwise
abbrev pub with_both : (a1 b1 c1 a2 b2 c2 w0 w1 : Option (List ℕ)) (m : Sides) (p : Merging a1 b1 a2 b2 w0 w1 m)
    (left right : MergeInput) → Both a1 c1 a2 c2 left right p.out
    → Merging a1 c1 a2 c2 w0 w1 (record { left = left; right = right; written = m.written })
with_both a1 b1 c1 a2 b2 c2 w0 w1 m p left right both = record { out = p.out; both = both; records = p.records; bytes = p.bytes; gained = p.gained }

-- the left side was read on from where the merge stood
module _ (a1 a2 w0 w1 b1 b2 c1 : Option (List ℕ)) (m : Sides) (p : Merging a1 b1 a2 b2 w0 w1 m) where
  -- and stopped
  pub left_stops : (fault : RecordFault) (e : MergeFault) (last : List ℕ) → e
      ≡ record { cause = Left fault; written = m.written.bytes } → m.left.ahead ≡ Unread
      → ((done : List (List ℕ)) (low : List ℕ) → Stands a1 b1 done low m.left
      → StoppedWith m.left.reader.file a1 c1 done fault last × (last_of [] done ≡ low))
      → HasStoppedMerge a1 c1 a2 b2 w0 w1 e
  left_stops fault e last is unread stops =
      let s = stops p.both.lefts (last_of [] p.out) p.both.left in
      rw is (inl (record { before = b1; sides = m; merging = p; unread = unread; left = s.0.0; written_is = refl }))

  unfoldable pub left_read : (left : MergeInput) → left.ahead ≢ Unread
      → ((done : List (List ℕ)) (low : List ℕ) → Stands a1 b1 done low m.left → Stands a1 c1 done low left)
      → Merging a1 c1 a2 b2 w0 w1 (record { left = left; right = m.right; written = m.written })
  left_read left read stands = with_both a1 b1 c1 a2 b2 b2 w0 w1 m p left m.right (record {
    lefts = p.both.lefts;
    rights = p.both.rights;
    left = stands p.both.lefts (last_of [] p.out) p.both.left;
    right = p.both.right;
    order = λ t _. absurd (read t);
    joins = p.both.joins;
  })

-- and so was the right side after it
module _ (a1 a2 w0 w1 b1 b2 c2 : Option (List ℕ)) (m : Sides) (p : Merging a1 b1 a2 b2 w0 w1 m) (read : m.left.ahead ≢ Unread) where
  -- and stopped
  pub right_stops : (right : MergeInput) (fault : RecordFault) (e : MergeFault)
      → IsToldOfRight (record { left = m.left; right = right; written = m.written }) fault e
      → m.left.reader.count < 2 ^ 63 → m.right.ahead ≡ Unread
      → ((done : List (List ℕ)) (low : List ℕ) → Stands a2 b2 done low m.right
      → StoppedWith m.right.reader.file a2 c2 done fault right.reader.last × (last_of [] done ≡ low))
      → HasStoppedMerge a1 b1 a2 c2 w0 w1 e
  right_stops right fault e told few unread stops =
      let s = (stops p.both.rights (last_of [] p.out) p.both.right).0 in
      let f : Format = m.right.reader.file in
      let held_item = held_record a1 b1 p.both.lefts (last_of [] p.out) m.left p.both.left in
      let stopped : RightStopped a1 b1 a2 c2 w0 w1 fault m.written.bytes =
      record { before = b2; sides = m; merging = p; read = read; unread = unread; right = s.0; written_is = refl }
      in
      elim told [
        | inl (memory, both, is) ↦
            let same : s.0.rest ≡ m.left.reader.last = whole_is f s.0.rest m.left.reader.last right.reader.last both.1 (held_item both.0) (s.1 memory) in
            rw is (inr (inr (
              fault,
              stopped,
              both.0,
              same,
              few,
              ap (λ (n : ℕ). memory_after n) (before_last a1 b1 p.both.lefts (last_of [] p.out) m.left p.both.left
                  both.0),
            )))
        | inr (alone, is) ↦ rw is (inl (
          stopped,
          λ memory. (
            λ held same. other_record f p.both.right.archive s.0.rest m.left.reader.last right.reader.last
                (held_item held) (s.1 memory) same (λ last. alone memory (held, last)),
            λ n same. no_end_record f p.both.right.archive s.0.rest right.reader.last n (s.1 memory) same,
          ),
        ))
      ]

  unfoldable pub right_read : (right : MergeInput) → ((done : List (List ℕ)) (low : List ℕ)
      → Stands a2 b2 done low m.right → Stands a2 c2 done low right)
      → Merging a1 b1 a2 c2 w0 w1 (record { left = m.left; right = right; written = m.written })
  right_read right stands = with_both a1 b1 b1 a2 b2 c2 w0 w1 m p m.left right (record {
    lefts = p.both.lefts;
    rights = p.both.rights;
    left = p.both.left;
    right = stands p.both.rights (last_of [] p.out) p.both.right;
    order = λ t _. absurd (read t);
    joins = p.both.joins;
  })

-- ---- the magics

-- a merge that stopped after the magic stopped
pub stops_later : (a1 b1 a2 b2 w0 w1 : Option (List ℕ)) (e : MergeFault) → HasStoppedMerge a1 b1 a2 b2 w0 w1 e → MergeStops a1 b1 a2 b2 w0 w1 e
stops_later a1 b1 a2 b2 w0 w1 e h = by e.cause h
  where
    by : (c : MergeCause) → HasStoppedMerge a1 b1 a2 b2 w0 w1 (record { cause = c; written = e.written })
        → MergeStops a1 b1 a2 b2 w0 w1 (record { cause = c; written = e.written })
    by (Left fault) p = inr p
    by (Right fault) p = inr p
    by Write p = p

-- ---- the end record

-- the writer failed in it
pub end_stops : (a1 b1 a2 b2 w0 w1 w2 : Option (List ℕ)) (m : Sides) → Merging a1 b1 a2 b2 w0 w1 m → HasEnded m
    → (written k : ℕ) → written ≡ m.written.bytes + k → WritesFirst w1 w2 (end_record m.written.records) k
    → WriteStopped a1 b1 a2 b2 w0 w2 written
end_stops a1 b1 a2 b2 w0 w1 w2 m p ended written k is q =
    let records : List (List ℕ) = kept p.out in
    let front : List ℕ = magic ++ concat records in
    let end : List ℕ = end_record m.written.records in
    let text : text_of Archive records ≡ front ++ (end ++ []) =
    ap (λ (n : ℕ). magic ++ (concat records ++ end_record n)) (sym p.records)
    ∙ sym (append_assoc magic (concat records) end) ∙ ap (λ (t : List ℕ). front ++ t) (sym (append-nil end)) in
    let s = stopped w0 w1 w2 front end [] (text_of Archive records) m.written.bytes k (p.bytes ∙ sym (length-append magic (concat records))) text p.gained q in
    record {
      out = p.out;
      left_side = m.left;
      right_side = m.right;
      both = p.both;
      within = inr (ended.left, ended.right, omega (arith, is, s.within));
      gained = rw is s.gained;
    }

-- the magic was read where no record was
pub magic_read : (a b : Option (List ℕ)) (file : Format) (position : Position) → kind_of file ≡ Archive_text → HasRead file a b [] position → HasMagicRead a b
magic_read a b file position archive read = (file, archive, subst (Consumes a b) (append-nil (magic_of file)) read.taken)
