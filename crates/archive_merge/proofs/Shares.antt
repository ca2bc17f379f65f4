-- Retirements that both sides hold, kept once.
use Rattle.std.proofs.Common.{◌≡◌, ℕ, Bool, true, false, arith, List, [], ◌∷◌, ◌++◌, drop, Option, Some, sym, ap, ◌∙◌, subst, Ordering, Equal}
use Rattle.std.proofs.lemmas.Bool.Decides.{nat_tests}
use Rattle.std.proofs.lemmas.List.Elements.{Contains-push}
use Rattle.std.specs.List.{Contains}
use Rattle.std.specs.Ordering.{is_ne}
use Rattle.std.specs.Cmp.Lexicographic.{nat_list_cmp_total}
use Rattle.std.specs.FinSet as set
use Rattle.std.specs.FinSet.{contains, from_list_push}
use Rattle.join_core.proofs.Place.{insert_present}
use Rattle.archive_core.proofs.Retired.{first_more, second_more}
use Rattle.archive_core.proofs.Made.{bytes_same}
use Rattle.archive_records.specs.declared.format.Format.{Format}
use Rattle.archive_records.specs.declared.format.Format.TheVariants.{Archive, OldArchive, Operations as Operations_file, Summary as Summary_file}
use Rattle.archive_records.specs.Text.{last_of}
use Rattle.archive_records.specs.Reader.{set_of, AreRetired, HasRead, HasReadAll, Position, beside, retirement_in}
use Rattle.archive_records.proofs.Apart.{in_set}
use Rattle.archive_merge.specs.declared.side.Lookahead.TheVariants.{Held}
use Rattle.archive_merge.specs.declared.side.MergeInput.{MergeInput}
use Rattle.archive_merge.specs.declared.arrivals.Arrival.{Arrival}
use Rattle.archive_merge.specs.declared.merging.Merge.{Merge}
use Rattle.archive_merge.specs.Sides.{Sides, side_with, sides_of}
use Rattle.archive_merge.specs.MergeSteps.{Merging, Stands, first_of}
use Rattle.archive_merge.specs.ArrivalSteps.{MergingWithArrivals}
use Rattle.archive_merge.proofs.Covered.{retired_of}
use Rattle.archive_merge.proofs.MergeSteps.{first_equal}
use Rattle.archive_merge.proofs.Starts.{with_both}

-- ---- the same retirements, kept elsewhere

-- one that is shared and forgotten is where it was
moved : (shared more own less : List (List ℕ)) (x : List ℕ) → set_of more ≡ set.insert (set_of shared) x
    → set.insert (set_of less) x ≡ set.insert (set_of own) x → contains (set_of (shared ++ own)) x ≡ true
    → set_of (more ++ less) ≡ set_of (shared ++ own)
moved shared more own less x kept same there =
    let with_own : set_of (own ++ x ∷ []) ≡ set.insert (set_of own) x = from_list_push nat_list_cmp_total bytes_same own x in
    first_more shared less more x kept
    ∙ sym (second_more shared less (own ++ x ∷ []) x (with_own ∙ sym same))
    ∙ second_more shared own (own ++ x ∷ []) x with_own
    ∙ insert_present nat_list_cmp_total bytes_same (set_of (shared ++ own)) x there

abbrev with_retired : List (List ℕ) → MergeInput → MergeInput
with_retired retired s = record s { reader = record s.reader { retired = retired } }

retired_as : (f : Format) (old new records : List (List ℕ)) → set_of new ≡ set_of old → AreRetired f old records → AreRetired f new records
retired_as Archive old new records same are = λ r. ap (λ s. contains s (1 ∷ r)) same ∙ are r
retired_as OldArchive old new records same are = λ r. ap (λ s. contains s (1 ∷ r)) same ∙ are r
retired_as Operations_file old new records same are = tt
retired_as Summary_file old new records same are = tt

read_as : (f : Format) (a b : Option (List ℕ)) (records : List (List ℕ)) (position : Position) (retired : List (List ℕ))
    → set_of retired ≡ set_of position.retired → HasRead f a b records position
    → HasRead f a b records (record position { retired = retired })
read_as f a b records position retired same h = record {
  file_is = h.file_is;
  taken = h.taken;
  ordered = h.ordered;
  apart = h.apart;
  last_is = h.last_is;
  count_is = h.count_is;
  offset_is = h.offset_is;
  retired_are = retired_as f position.retired retired records same h.retired_are;
  dropped_is = h.dropped_is;
}

read_all_as : (f : Format) (a b : Option (List ℕ)) (records : List (List ℕ)) (position : Position)
    (retired : List (List ℕ)) → set_of retired ≡ set_of position.retired → HasReadAll f a b records position
    → HasReadAll f a b records (record position { retired = retired })
read_all_as f a b records position retired same h = record {
  taken = h.taken;
  ordered = h.ordered;
  apart = h.apart;
  few = h.few;
  ended = h.ended;
  offset_is = h.offset_is;
  retired_are = retired_as f position.retired retired records same h.retired_are;
}

stands_as : (a b : Option (List ℕ)) (done : List (List ℕ)) (low : List ℕ) (s : MergeInput) (retired : List (List ℕ))
    → set_of retired ≡ set_of s.reader.retired → Stands a b done low s → Stands a b done low (with_retired retired s)
stands_as a b done low s retired same p = record {
  archive = p.archive;
  unread = λ e. (read_as s.reader.file a b done s.reader retired same (p.unread e).0, (p.unread e).1);
  held = λ e. (read_as s.reader.file a b (done ++ s.reader.last ∷ []) s.reader retired same (p.held e).0, (p.held e).1);
  ended = λ e. (read_all_as s.reader.file a b done s.reader retired same (p.ended e).0, (p.ended e).1);
}

-- ---- what both sides hold

pub equal_not_ne : (o : Ordering) → is_ne o ≡ false → o ≡ Equal
equal_not_ne o e = grind arith

-- a record that is told to be a retirement is that
told_retirement : (bytes r : List ℕ) → retirement_in bytes ≡ Some r → (bytes ≡ r) × (bytes ≡ 1 ∷ drop 1 bytes)
told_retirement [] r is = cc
told_retirement (y ∷ ys) r is = grind (arith, nat_tests)

-- the side has it among its own
has_own : (a b : Option (List ℕ)) (done : List (List ℕ)) (low : List ℕ) (s : MergeInput) (q : List ℕ)
    → Stands a b done low s → s.ahead ≡ Held → s.reader.last ≡ 1 ∷ q → contains (set_of s.reader.retired) (1 ∷ q) ≡ true
has_own a b done low s q p held is =
    retired_of s.reader.file p.archive s.reader.retired (done ++ s.reader.last ∷ []) (p.held held).0.retired_are q
    ∙ in_set (done ++ s.reader.last ∷ []) (1 ∷ q) (subst (λ (x : List ℕ). Contains (done ++ s.reader.last ∷ []) x) is (Contains-push done s.reader.last))

module _ (a1 b1 a2 b2 w0 w1 : Option (List ℕ)) (m : Sides) (p : Merging a1 b1 a2 b2 w0 w1 m) where
  abbrev merging_as : (lefts rights : List (List ℕ)) → set_of lefts ≡ set_of m.left.reader.retired → set_of rights
      ≡ set_of m.right.reader.retired → Merging a1 b1 a2 b2 w0 w1
      (record { left = with_retired lefts m.left; right = with_retired rights m.right; written = m.written })
  merging_as lefts rights left right = with_both a1 b1 b1 a2 b2 b2 w0 w1 m p (with_retired lefts m.left) (with_retired rights m.right) (record {
    lefts = p.both.lefts;
    rights = p.both.rights;
    left = stands_as a1 b1 p.both.lefts (last_of [] p.out) m.left lefts left p.both.left;
    right = stands_as a2 b2 p.both.rights (last_of [] p.out) m.right rights right p.both.right;
    order = p.both.order;
    joins = p.both.joins;
  })

  -- a retirement that both sides hold is among those of each
  both_have : (r : List ℕ) → first_of m.left m.right ≡ Equal → retirement_in m.left.reader.last ≡ Some r
      → (contains (set_of m.left.reader.retired) r ≡ true) × (contains (set_of m.right.reader.retired) r ≡ true)
  both_have r first is =
      let f = first_equal m.left.ahead m.right.ahead _ first in
      let t = told_retirement m.left.reader.last r is in
      let q = drop 1 m.left.reader.last in
      let r_is : 1 ∷ q ≡ r = sym t.1 ∙ t.0 in (
        rw (← r_is) (has_own a1 b1 p.both.lefts (last_of [] p.out) m.left q p.both.left f.0 t.1),
        rw (← r_is) (has_own a2 b2 p.both.rights (last_of [] p.out) m.right q p.both.right f.1 (sym (bytes_same _ _ f.2) ∙ t.1)),
      )

-- ---- a retirement that both sides hold is shared, and both forget it

module _ {B : Type 0} (seen : B → MergeInput) (m : Merge B) (r : List ℕ) (more : List (List ℕ)) (left : Position)
    (right : B) (first : first_of m.left (seen m.right) ≡ Equal) (is : retirement_in m.left.reader.last ≡ Some r)
    (kept : set_of more ≡ set.insert (set_of m.shared) r)
    (left_same : left ≡ record m.left.reader { retired = left.retired })
    (left_others : set.insert (set_of left.retired) r ≡ set.insert (set_of m.left.reader.retired) r)
    (right_ahead : (seen right).ahead ≡ (seen m.right).ahead)
    (right_same : (seen right).reader ≡ record (seen m.right).reader { retired = (seen right).reader.retired })
    (right_others : set.insert (set_of (seen right).reader.retired) r
    ≡ set.insert (set_of (seen m.right).reader.retired) r) where
  abbrev after : Merge B
  after = record { left = record { reader = left; ahead = m.left.ahead }; right = right; shared = more; written = m.written }

  abbrev lefts : List (List ℕ)
  lefts = more ++ left.retired

  abbrev rights : List (List ℕ)
  rights = more ++ (seen right).reader.retired

  abbrev shares : Sides
  shares = record {
    left = with_retired lefts (side_with m.shared m.left);
    right =
        with_retired rights (side_with m.shared (seen m.right));
    written = m.written;
  }

  sides_are : shares ≡ sides_of seen after
  sides_are = λ i. record {
    left = record { reader = beside (Some more) (sym left_same i); ahead = m.left.ahead };
    right = record { reader = beside (Some more) (sym right_same i); ahead = sym right_ahead i };
    written = m.written;
  }

  module _ (a1 b1 a2 b2 w0 w1 : Option (List ℕ)) where
    abbrev merging_seen : Merging a1 b1 a2 b2 w0 w1 (sides_of seen m) → Merging a1 b1 a2 b2 w0 w1 shares
    merging_seen p =
        let have = both_have a1 b1 a2 b2 w0 w1 (sides_of seen m) p r first is in
        merging_as a1 b1 a2 b2 w0 w1 (sides_of seen m) p lefts rights
        (moved m.shared more m.left.reader.retired left.retired r kept left_others have.0)
        (moved m.shared more (seen m.right).reader.retired (seen right).reader.retired r kept right_others have.1)

    pub merging_shared : Merging a1 b1 a2 b2 w0 w1 (sides_of seen m) → Merging a1 b1 a2 b2 w0 w1 (sides_of seen after)
    merging_shared p = subst (Merging a1 b1 a2 b2 w0 w1) sides_are (merging_seen p)

    pub telling_shared : (told : List Arrival) (withdraws : Bool)
        → MergingWithArrivals a1 b1 a2 b2 w0 w1 (sides_of seen m) told withdraws
        → MergingWithArrivals a1 b1 a2 b2 w0 w1 (sides_of seen after) told withdraws
    telling_shared told withdraws t =
        let now : MergingWithArrivals a1 b1 a2 b2 w0 w1 shares told withdraws =
        record { merging = merging_seen t.merging; arrivals_are = t.arrivals_are; withdraws_is = t.withdraws_is } in
        subst (λ (s : Sides). MergingWithArrivals a1 b1 a2 b2 w0 w1 s told withdraws) sides_are now
