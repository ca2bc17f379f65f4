-- What a merge tells of the records of its sides that had their turn.
use Rattle.std.proofs.Common.{◌≡◌, ◌≢◌, ℕ, ◌+◌, ◌^◌, ◌<◌, Bool, true, false, not, ◌||◌, ◌&&◌, List, [], ◌∷◌, ◌++◌}
use Rattle.std.proofs.Common.{length, map, Option, Result, Ok, Err, refl, sym, ap, ◌∙◌, arith, inl, inr, lit≤}
use Rattle.std.proofs.Common.{MatchResult, OnOk, Ordering, Less, Equal, Greater}
use Rattle.std.proofs.lemmas.List.{append-nil, map-append}
use Rattle.std.proofs.lemmas.List.Elements.{Contains-push}
use Rattle.std.proofs.lemmas.Bool.{cases_Bool}
use Rattle.std.proofs.lemmas.List.Folds.{list_any-append}
use Rattle.std.specs.FinSet.{contains}
use Rattle.std.specs.List.{concat, list_any, Contains}
use Rattle.std.specs.Io.KnownBytes.{Appends, Consumes}
use Rattle.archive_core.specs.Content.{covering, is_admission, is_covered}
use Rattle.archive_core.proofs.Made.{bytes_same}
use Rattle.archive_core.proofs.Members.{in_rest, in_front}
use Rattle.archive_records.specs.declared.fault.MergeCause.TheVariants.{Right}
use Rattle.archive_records.specs.declared.fault.MergeFault.{MergeFault}
use Rattle.archive_records.specs.declared.fault.RecordFault.{RecordFault}
use Rattle.archive_records.specs.declared.fault.RecordFaultKind.TheVariants.{Truncated}
use Rattle.archive_records.specs.declared.format.Format.{Format}
use Rattle.archive_records.specs.declared.format.Format.TheVariants.{Archive}
use Rattle.archive_records.specs.declared.kind.TextKind.TheVariants.{Archive as Archive_text}
use Rattle.archive_records.specs.declared.writing.Sizes.{Sizes}
use Rattle.archive_records.specs.Fault.{next, next_by}
use Rattle.archive_records.specs.Front.{front_length}
use Rattle.archive_records.specs.Kind.{magic, magic_of, kind_of, may_follow}
use Rattle.archive_records.specs.Reader.{set_of, HasRead}
use Rattle.archive_records.specs.Text.{end_record, kept, last_of}
use Rattle.archive_records.proofs.Apart.{in_set, from_set, is_false, covering_below, contains-push, covered_push}
use Rattle.archive_records.proofs.Ascending.{below-greater, below-less, below-trans, up_to_last}
use Rattle.archive_records.proofs.Ends.{length-end_record}
use Rattle.archive_records.proofs.Framed.{framed-empty}
use Rattle.archive_records.proofs.KeptRecords.{long_record}
use Rattle.archive_records.proofs.Undecided.{cut_off}
use Rattle.archive_merge.specs.Sides.{Sides}
use Rattle.archive_merge.specs.declared.side.Lookahead.TheVariants.{Unread}
use Rattle.archive_merge.specs.declared.side.MergeInput.{MergeInput}
use Rattle.archive_merge.specs.declared.arrivals.Arrival.{Arrival}
use Rattle.archive_merge.specs.MergeSteps.{HasEnded, HasStoppedMerge, IsBeforeTurn, Joins, MergedAll, Merging, Stands}
use Rattle.archive_merge.specs.MergeSteps.{DecidesCoveredBy, DecidesCovered, after_turn, first_of, left_after, memory_after}
use Rattle.archive_merge.specs.MergeSteps.{next_record, next_record_by, right_after, Both}
use Rattle.archive_merge.specs.ArrivalSteps.{MergingWithArrivals, IsNextArrivalBy, IsNextArrival, ReportsAllArrivals}
use Rattle.archive_merge.specs.ArrivalSteps.{has_next, has_next_by, is_withdrawn, with_arrival}
use Rattle.archive_merge.specs.Arrivals.{arrival_by, arrival_of}
use Rattle.archive_merge.proofs.Covered.{covered_by, not_same}
use Rattle.archive_merge.proofs.MergeSteps.{first_less, first_equal, first_greater, held_dropped, held_record, next_turn, passed, wrote}
use Rattle.archive_merge.proofs.Starts.{left_read, right_read, memory_stopped, merging_start}

-- ---- lists of answers

pub same_answers : {A : Type 0} (f g : List ℕ → A) (xs : List (List ℕ)) → ((r : List ℕ) → Contains xs r → f r ≡ g r) → map f xs ≡ map g xs
same_answers f g [] same = refl
same_answers f g (x ∷ xs) same = cc (same x (in_front x xs), same_answers f g xs (λ r c. same r (in_rest x xs r c)))

same_tests : (f g : List ℕ → Bool) (xs : List (List ℕ)) → ((r : List ℕ) → Contains xs r → f r ≡ g r) → list_any f xs ≡ list_any g xs
same_tests f g [] same = refl
same_tests f g (x ∷ xs) same = cc (same x (in_front x xs), same_tests f g xs (λ r c. same r (in_rest x xs r c)))

-- ---- one record more, x, above all that had their turn

module _ (out : List (List ℕ)) (x : List ℕ) (above : may_follow Archive (last_of [] out) x ≡ true) where
  -- none that had its turn is covered by that record
  covered_as : (mine : List (List ℕ)) (r : List ℕ) → may_follow Archive (last_of [] out) r ≡ false
      → is_covered (set_of (mine ++ x ∷ [])) r ≡ is_covered (set_of mine) r
  covered_as mine r under = elim (cases_Bool (is_admission r)) [
    | inl t ↦
        let uncovered : x ≡ covering r → ⊥ = λ same. let above_it : may_follow Archive (last_of [] out) (covering r)
        ≡ true = cc in cc (under, below-trans (last_of [] out) (covering r) r above_it (covering_below r t)) in
        rw (contains-push mine x (covering r), not_same (covering r) x uncovered)
    | inr f ↦ rw f
  ]

module _ (out lefts rights : List (List ℕ)) (x : List ℕ) (j : Joins out lefts rights) (above : may_follow Archive (last_of [] out) x ≡ true) where
  -- of the left side: what was told stays
  arrival_as : (r : List ℕ) → may_follow Archive (last_of [] out) r ≡ false → arrival_of (set_of (lefts ++ x ∷ [])) r ≡ arrival_of (set_of lefts) r
  unfolding arrival_of
  arrival_as r under = rw (contains-push lefts x r, not_same r x (λ same. cc), covered_as out x above lefts r under)

  told_still : map (arrival_of (set_of (lefts ++ x ∷ []))) rights ≡ map (arrival_of (set_of lefts)) rights
  told_still = same_answers (arrival_of (set_of (lefts ++ x ∷ []))) (arrival_of (set_of lefts)) rights
      (λ r c. arrival_as r (up_to_last [] r out j.ordered (j.right r c)))

  -- it is there, or covered
  arrival_there : arrival_of (set_of (lefts ++ x ∷ [])) x ≡ arrival_by (is_covered (set_of lefts) x) true
  unfolding arrival_of
  arrival_there = rw (in_set (lefts ++ x ∷ []) x (Contains-push lefts x), covered_push lefts x)

  -- of the right side alone: it is new, or covered
  arrival_alone : arrival_of (set_of lefts) x ≡ arrival_by (is_covered (set_of lefts) x) false
  unfolding arrival_of
  arrival_alone = ap (arrival_by (is_covered (set_of lefts) x))
      (is_false (contains (set_of lefts) x) (λ has. cc
      (above, up_to_last [] x out j.ordered (j.left x (from_set lefts x has)))))

  -- what is retired of the left side stays
  withdrawn_left : list_any (is_withdrawn (set_of (lefts ++ x ∷ [])) (set_of rights)) lefts ≡ list_any (is_withdrawn (set_of lefts) (set_of rights)) lefts
  withdrawn_left = same_tests (is_withdrawn (set_of (lefts ++ x ∷ [])) (set_of rights)) (is_withdrawn (set_of lefts) (set_of rights)) lefts
      (λ r c. cc (covered_as out x above lefts r (up_to_last [] r out j.ordered (j.left r c))))

  withdrawn_right : (os : List (List ℕ)) → list_any (is_withdrawn (set_of os) (set_of (rights ++ x ∷ []))) lefts
      ≡ list_any (is_withdrawn (set_of os) (set_of rights)) lefts
  withdrawn_right os = same_tests (is_withdrawn (set_of os) (set_of (rights ++ x ∷ []))) (is_withdrawn (set_of os) (set_of rights)) lefts
      (λ r c. cc (covered_as out x above rights r (up_to_last [] r out j.ordered (j.left r c))))

-- one record more of the left side, that its own retirements cover or not (d), and the other side's (c)
withdraws_more : (d c w : Bool) → (((d || c) && not d) || w) ≡ (w || ((c && not d) || false))
withdraws_more d c w = grind arith

-- ---- a turn

module _ (a1 b1 a2 b2 w0 w1 : Option (List ℕ)) (m : Sides) (told : List Arrival) (withdraws : Bool)
    (arrival : Option Arrival) (t : MergingWithArrivals a1 b1 a2 b2 w0 w1 m told withdraws) (tells : IsNextArrival m arrival)
    (before : IsBeforeTurn m) where
  abbrev p : Merging a1 b1 a2 b2 w0 w1 m
  p = t.merging

  abbrev after : (o : Ordering) → first_of m.left m.right ≡ o
      → Both a1 b1 a2 b2 (left_after o m.left) (right_after o m.right) (p.out ++ next_record_by o m ∷ [])
  after o first = next_turn a1 b1 a2 b2 w0 w1 m p before o first

  told_next : (o : Ordering) (first : first_of m.left m.right ≡ o) → IsNextArrivalBy o m.left m.right arrival
      → with_arrival told arrival ≡ map (arrival_of (set_of (after o first).lefts)) (after o first).rights
  unfolding next_turn
  told_next Less first is =
      let f = first_less m.left.ahead m.right.ahead _ first in
      ap (with_arrival told) is ∙ t.arrivals_are ∙ sym (told_still p.out p.both.lefts p.both.rights m.left.reader.last p.both.joins (p.both.left.held f.0).1)
  told_next Equal first is =
      let x = m.left.reader.last in
      let f = first_equal m.left.ahead m.right.ahead _ first in
      let above = (p.both.left.held f.0).1 in
      let own = held_dropped a1 b1 p.both.lefts (last_of [] p.out) m.left p.both.left f.0 in
      let same = told_still p.out p.both.lefts p.both.rights x p.both.joins above in
      ap (with_arrival told) is ∙ cc (
        t.arrivals_are,
        same,
        own,
        arrival_there p.out p.both.lefts p.both.rights x p.both.joins above,
        map-append (arrival_of (set_of (p.both.lefts ++ x ∷ []))) p.both.rights (x ∷ []),
      )
  told_next Greater first is =
      let x = m.right.reader.last in
      let f = first_greater m.left.ahead m.right.ahead _ before.read.left before.some first in
      let whole = held_record a2 b2 p.both.rights (last_of [] p.out) m.right p.both.right f.0 in
      let covers = covered_by a1 b1 p.both.lefts (last_of [] p.out) m.left x p.both.left before.read.left (λ held. below-greater _ _ (f.1 held)) in
      ap (with_arrival told) (is whole) ∙ cc (
        t.arrivals_are,
        covers,
        arrival_alone p.out p.both.lefts p.both.rights x p.both.joins (p.both.right.held f.0).1,
        map-append (arrival_of (set_of p.both.lefts)) p.both.rights (x ∷ []),
      )

  -- whether the record that is passed over or written is one that the right side retires
  withdraws_next : (passed : Bool) (o : Ordering) (first : first_of m.left m.right ≡ o) → DecidesCoveredBy o m.left m.right passed
      → ((passed && has_next_by o m.left) || withdraws)
      ≡ list_any (is_withdrawn (set_of (after o first).lefts) (set_of (after o first).rights)) (after o first).lefts
  unfolding next_turn
  withdraws_next passed Less first covers =
      let x = m.left.reader.last in
      let f = first_less m.left.ahead m.right.ahead _ first in
      let all = p.both.lefts ++ x ∷ [] in
      let test = is_withdrawn (set_of all) (set_of p.both.rights) in
      let is = covers (held_record a1 b1 p.both.lefts (last_of [] p.out) m.left p.both.left f.0) in
      let own = held_dropped a1 b1 p.both.lefts (last_of [] p.out) m.left p.both.left f.0 in
      let others = covered_by a2 b2 p.both.rights (last_of [] p.out) m.right x p.both.right before.read.right (λ held. below-less _ _ (f.1 held)) in
      let still = withdrawn_left p.out p.both.lefts p.both.rights x p.both.joins (p.both.left.held f.0).1 in
      cc (
        withdraws_more m.left.reader.dropped (is_covered (set_of m.right.reader.retired) x) withdraws,
        is,
        own,
        covered_push p.both.lefts x,
        others,
        t.withdraws_is,
        still,
        list_any-append test p.both.lefts (x ∷ []),
      )
  withdraws_next passed Equal first covers =
      let x = m.left.reader.last in
      let f = first_equal m.left.ahead m.right.ahead _ first in
      let above = (p.both.left.held f.0).1 in
      let all = p.both.lefts ++ x ∷ [] in
      let test = is_withdrawn (set_of all) (set_of (p.both.rights ++ x ∷ [])) in
      let own = held_dropped a1 b1 p.both.lefts (last_of [] p.out) m.left p.both.left f.0 in
      let same : x ≡ m.right.reader.last = bytes_same _ _ f.2 in
      let others = held_dropped a2 b2 p.both.rights (last_of [] p.out) m.right p.both.right f.1 in
      let still = withdrawn_right p.out p.both.lefts p.both.rights x p.both.joins above all
      ∙ withdrawn_left p.out p.both.lefts p.both.rights x p.both.joins above in
      cc (
        withdraws_more m.left.reader.dropped m.right.reader.dropped withdraws,
        covers,
        own,
        covered_push p.both.lefts x,
        same,
        others,
        covered_push p.both.rights x,
        t.withdraws_is,
        still,
        list_any-append test p.both.lefts (x ∷ []),
      )
  withdraws_next passed Greater first covers =
      let x = m.right.reader.last in
      let f = first_greater m.left.ahead m.right.ahead _ before.read.left before.some first in
      let same : ((passed && false) || withdraws) ≡ withdraws = grind arith in
      same ∙ t.withdraws_is ∙ sym (withdrawn_right p.out p.both.lefts p.both.rights x p.both.joins (p.both.right.held f.0).1 p.both.lefts)

  -- the record is passed over
  pub tells_passed : DecidesCovered m.left m.right true
      → MergingWithArrivals a1 b1 a2 b2 w0 w1 (after_turn m m.written) (with_arrival told arrival) (has_next m || withdraws)
  unfolding passed
  tells_passed covered = record {
    merging = passed a1 b1 a2 b2 w0 w1 m p before covered;
    arrivals_are =
        told_next (first_of m.left m.right) refl tells;
    withdraws_is =
        withdraws_next true (first_of m.left m.right) refl covered;
  }

  -- or written
  pub tells_wrote : DecidesCovered m.left m.right false → (w2 : Option (List ℕ)) (written : Sizes) → written.records
      ≡ m.written.records + 1 → written.bytes ≡ m.written.bytes + length (next_record m) → Appends w1 w2 (next_record m)
      → MergingWithArrivals a1 b1 a2 b2 w0 w2 (after_turn m written) (with_arrival told arrival) withdraws
  unfolding wrote
  tells_wrote free w2 written records bytes gained = record {
    merging = wrote a1 b1 a2 b2 w0 w1 m p before free w2 written records bytes gained;
    arrivals_are =
        told_next (first_of m.left m.right) refl tells;
    withdraws_is =
        withdraws_next false (first_of m.left m.right) refl free;
  }

-- ---- the magics were read

pub tells_start : (a1 b1 a2 b2 w0 w1 : Option (List ℕ)) (left right : MergeInput)
    (f : kind_of left.reader.file ≡ Archive_text) (g : kind_of right.reader.file ≡ Archive_text)
    (h : HasRead left.reader.file a1 b1 [] left.reader) (k : HasRead right.reader.file a2 b2 [] right.reader)
    (s : left.ahead ≡ Unread) (t : right.ahead ≡ Unread)
    (x : List ℕ) (x_is : x ≡ magic) (written : ℕ) → written ≡ 0 + length x → Appends w0 w1 x
    → MergingWithArrivals a1 b1 a2 b2 w0 w1 (record {
      left = left;
      right = right;
      written =
          record { records = 0; bytes = written };
    }) [] false
unfolding merging_start
tells_start a1 b1 a2 b2 w0 w1 left right f g h k s t x x_is written n p =
    record {
      merging = merging_start a1 b1 a2 b2 w0 w1 left right f g h k s t x x_is written n p;
      arrivals_are = refl;
      withdraws_is = refl;
    }

-- ---- a side is read on

pub tells_left_read : (a1 a2 w0 w1 b1 b2 c1 : Option (List ℕ)) (m : Sides) (told : List Arrival) (withdraws : Bool)
    → MergingWithArrivals a1 b1 a2 b2 w0 w1 m told withdraws → (left : MergeInput) → left.ahead ≢ Unread
    → ((done : List (List ℕ)) (low : List ℕ) → Stands a1 b1 done low m.left → Stands a1 c1 done low left)
    → MergingWithArrivals a1 c1 a2 b2 w0 w1 (record { left = left; right = m.right; written = m.written }) told withdraws
unfolding left_read
tells_left_read a1 a2 w0 w1 b1 b2 c1 m told withdraws t left read stands =
    record {
      merging = left_read a1 a2 w0 w1 b1 b2 c1 m t.merging left read stands;
      arrivals_are = t.arrivals_are;
      withdraws_is = t.withdraws_is;
    }

pub tells_right_read : (a1 a2 w0 w1 b1 b2 c2 : Option (List ℕ)) (m : Sides) (told : List Arrival) (withdraws : Bool)
    → MergingWithArrivals a1 b1 a2 b2 w0 w1 m told withdraws → m.left.ahead ≢ Unread → (right : MergeInput)
    → ((done : List (List ℕ)) (low : List ℕ) → Stands a2 b2 done low m.right → Stands a2 c2 done low right)
    → MergingWithArrivals a1 b1 a2 c2 w0 w1 (record { left = m.left; right = right; written = m.written }) told withdraws
unfolding right_read
tells_right_read a1 a2 w0 w1 b1 b2 c2 m told withdraws t read right stands =
    record {
      merging = right_read a1 a2 w0 w1 b1 b2 c2 m t.merging read right stands;
      arrivals_are = t.arrivals_are;
      withdraws_is = t.withdraws_is;
    }

-- ---- want of memory before the right side is read on

nothing_more : (file : Format) (low : List ℕ) (count : ℕ) → next file low count [] ≡ Err Truncated
unfolding next
nothing_more file low count = ap (λ r. next_by file r low count []) (framed-empty file [] (lit≤ tt))

pub no_room : (a1 b1 a2 b2 w0 w1 : Option (List ℕ)) (m : Sides) → Merging a1 b1 a2 b2 w0 w1 m → m.left.ahead ≢ Unread
    → m.right.ahead ≡ Unread → m.right.reader.count < 2 ^ 63 → (e : MergeFault) (fault : RecordFault) (offset : ℕ) → e
    ≡ record { cause = Right fault; written = m.written.bytes }
    → fault ≡ memory_after offset → offset ≡ m.right.reader.offset → HasStoppedMerge a1 b1 a2 b2 w0 w1 e
no_room a1 b1 a2 b2 w0 w1 m p read unread few e fault offset is memory at =
    let h = (p.both.right.unread unread).0 in
    let f : Format = m.right.reader.file in
    let taken : Consumes a2 b2 (magic_of f ++ (concat p.both.rights ++ [])) = rw (append-nil (concat p.both.rights)) h.taken in
    let behind : fault ≡ memory_after (front_length p.both.rights) = memory ∙ ap (λ (n : ℕ). memory_after n) (at ∙ h.offset_is) in
    let cut = cut_off f p.both.rights h.ordered h.apart (omega (arith, few, h.count_is)) []
    (inl (nothing_more f (last_of [] p.both.rights) (length p.both.rights))) in
    let stopped = memory_stopped f a2 b2 p.both.rights [] fault taken h.ordered h.apart (omega (arith, few, h.count_is)) behind cut in
    rw is (inl (
      record { before = b2; sides = m; merging = p; read = read; unread = unread; right = stopped; written_is = refl },
      λ _. (
        λ held same. absurd (omega (
          arith,
          long_record m.left.reader.last
              (held_record a1 b1 p.both.lefts (last_of [] p.out) m.left p.both.left held),
          ap length same,
        )),
        λ n same. absurd (omega (arith, length-end_record n, ap length same)),
      ),
    ))

-- ---- what is told

-- the same, as it is held
pub tells_as : (a1 b1 a2 b2 w0 w1 : Option (List ℕ)) (m : Sides) (told held : List Arrival) (withdraws kept : Bool)
    → held ≡ told → kept ≡ withdraws → MergingWithArrivals a1 b1 a2 b2 w0 w1 m told withdraws
    → MergingWithArrivals a1 b1 a2 b2 w0 w1 m held kept
tells_as a1 b1 a2 b2 w0 w1 m told held withdraws kept same alike t = record {
  merging = t.merging;
  arrivals_are = same ∙ t.arrivals_are;
  withdraws_is = alike ∙ t.withdraws_is;
}

-- a step that goes well has told, and one that does not stops the merge
pub told_or_stopped : {X E : Type 0} (P M : Type 0) (Q : E → Type 0) (r : Result X E) → OnOk r P → MatchResult r (λ _. M) Q → MatchResult r (λ _. P) Q
told_or_stopped P M Q (Ok x) told merging = told
told_or_stopped P M Q (Err e) told merging = merging

-- the merge ended
module _ (a1 b1 a2 b2 w0 w1 w2 : Option (List ℕ)) (m : Sides) (ended : HasEnded m) (sizes : Sizes)
    (gained : Appends w1 w2 (end_record m.written.records)) (records : sizes.records ≡ m.written.records)
    (bytes : sizes.bytes ≡ m.written.bytes + length (end_record m.written.records)) where
  abbrev pub merging_end : Merging a1 b1 a2 b2 w0 w1 m → MergedAll a1 b1 a2 b2 w0 w2 sizes
  merging_end p = record { before = w1; sides = m; merging = p; ended = ended; gained = gained; records = records; bytes = bytes }

  pub tells_end : (told : List Arrival) (withdraws : Bool) → MergingWithArrivals a1 b1 a2 b2 w0 w1 m told withdraws
      → ReportsAllArrivals a1 b1 a2 b2 w0 w2 sizes told withdraws
  tells_end told withdraws t = record { merged = merging_end t.merging; arrivals_are = t.arrivals_are; withdraws_is = t.withdraws_is }
