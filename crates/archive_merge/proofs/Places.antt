-- Where a merge of two known inputs stops, and what was written then.
use Rattle.std.proofs.Common.{◌≡◌, ℕ, ◌+◌, ◌<◌, ◌≤◌, true, false, not, List, [], ◌∷◌, ◌++◌, length, take, Option, Some}
use Rattle.std.proofs.Common.{refl, sym, ap, ◌∙◌, subst, arith, inl, inr, ◌⊎◌, append_assoc, length-append}
use Rattle.std.proofs.lemmas.List.{append-nil, take_at, take-append-le}
use Rattle.std.proofs.lemmas.List.Folds.{concat-append}
use Rattle.std.proofs.lemmas.List.Elements.{Contains-append_left, Contains-append_cases, filter-append}
use Rattle.std.proofs.lemmas.Bool.{or_cases, or_left, or_right}
use Rattle.std.specs.List.{concat, Contains, filter}
use Rattle.std.specs.FinSet as set
use Rattle.std.specs.FinSet.{contains-union}
use Rattle.std.specs.Cmp.Lexicographic.{nat_list_cmp_total}
use Rattle.std.specs.Io.KnownBytes.{IsAtEnd, Appends}
use Rattle.join_core.specs.Listing.{listing}
use Rattle.byte_device.specs.Writes.{WritesFirst}
use Rattle.join_core.proofs.Unions.{union_members}
use Rattle.join_core.proofs.Retain.{listing_retain}
use Rattle.archive_core.specs.Record.{IsRecord}
use Rattle.archive_core.specs.Content.{Operations, is_covered}
use Rattle.archive_core.proofs.Made.{bytes_same}
use Rattle.archive_core.proofs.Members.{in_rest, in_front}
use Rattle.archive_records.specs.declared.fault.RecordFaultKind.TheVariants.{Truncated}
use Rattle.archive_records.specs.declared.fault.RecordFault.{RecordFault}
use Rattle.archive_records.specs.declared.format.Format.{Format}
use Rattle.archive_records.specs.declared.format.Format.TheVariants.{Archive}
use Rattle.archive_merge.specs.declared.side.MergeInput.{MergeInput}
use Rattle.archive_records.specs.Kind.{magic, archive_format, may_follow}
use Rattle.archive_records.specs.Text.{end_record, text_of, InOrder, last_of, written, kept}
use Rattle.archive_records.specs.Fault.{IsOfText}
use Rattle.archive_records.specs.Front.{IsLongestFront}
use Rattle.archive_merge.specs.Merging.{HasMagic, IsArchiveText, AreGoodRecords, LeftStops, RightStops, all_of, of_both, up_to, IsWrittenBefore}
use Rattle.archive_merge.specs.MergeSteps.{Both, Stands, Joins, StopsBeforeRecords, LeftStopped, RightStopped, WriteStopped, IsFull}
use Rattle.archive_records.proofs.Contents.{listing_is, members_listed, sorted-InOrder, InOrder-set, are_records, content_is, written_text}
use Rattle.archive_records.specs.Reader.{set_of, Stopped}
use Rattle.archive_records.proofs.KeptRecords.{kept_more, behind, behind_above, from_kept}
use Rattle.archive_records.proofs.Exact.{no_magic_fault}
use Rattle.archive_records.proofs.Inputs.{magic_stop, grown_magic}
use Rattle.archive_records.proofs.Apart.{in_set, from_set, is_false}
use Rattle.archive_merge.specs.declared.side.Lookahead.{Lookahead}
use Rattle.archive_merge.specs.declared.side.Lookahead.TheVariants.{Unread}
use Rattle.archive_records.proofs.Ascending.{below-back, below-trans, below-self, all_above, up_to_last, prefix}
use Rattle.archive_records.proofs.Ends.{length-end_record}
use Rattle.archive_records.proofs.Formats.{in_order_of, kind_archive}
use Rattle.archive_merge.proofs.Fronts.{taken_rest, front_of, front_is, stopped_goes, GoesAbove, GoesOn, goes_on, has_magic, ended_text}

-- ---- the content that the records of both make

module _ (xs ys : List (List ℕ)) where
  member_in : (r : List ℕ) → Contains xs r ⊎ Contains ys r → set.contains (all_of xs ys) r ≡ true
  member_in r (inl c) = contains-union nat_list_cmp_total (set.from_list xs) (set.from_list ys) r ∙ or_left _ _ (in_set xs r c)
  member_in r (inr c) = contains-union nat_list_cmp_total (set.from_list xs) (set.from_list ys) r ∙ or_right _ _ (in_set ys r c)

  member_from : (r : List ℕ) → set.contains (all_of xs ys) r ≡ true → Contains xs r ⊎ Contains ys r
  member_from r e = elim (or_cases _ _ (sym (contains-union nat_list_cmp_total (set.from_list xs) (set.from_list ys) r) ∙ e)) [
    | inl a ↦ inl (from_set xs r a)
    | inr b ↦ inr (from_set ys r b)
  ]

  -- the records of both are the join of both
  pub listing_joins : InOrder Archive [] xs → InOrder Archive [] ys → Joins (listing (all_of xs ys)) xs ys
  listing_joins a b = record {
    ordered = InOrder-set (all_of xs ys) (union_members nat_list_cmp_total IsRecord (set.from_list xs)
        (set.from_list ys) (are_records xs a) (are_records ys b));
    from = λ r c. member_from r ((members_listed (all_of xs ys) r).0 c);
    left = λ r c. (members_listed (all_of xs ys) r).1 (member_in r (inl c));
    right = λ r c. (members_listed (all_of xs ys) r).1 (member_in r (inr c));
  }

  pub joins_listing : (out : List (List ℕ)) → Joins out xs ys → listing (all_of xs ys) ≡ out
  joins_listing out j = listing_is (all_of xs ys) out (sorted-InOrder [] out j.ordered).1 (λ r. (
    λ c. member_in r (j.from r c),
    λ e. elim (member_from r e) [ inl l ↦ j.left r l | inr m ↦ j.right r m ],
  ))

  pub all_is : (out : List (List ℕ)) → Joins out xs ys → all_of xs ys ≡ set_of out
  all_is out j = content_is (all_of xs ys) ∙ ap set_of (joins_listing out j)

  -- those of the content that they make are those that are not covered
  pub kept_listing : (out : List (List ℕ)) → Joins out xs ys → listing (of_both xs ys) ≡ kept out
  unfolding kept
  kept_listing out j =
      listing_retain nat_list_cmp_total bytes_same (λ r. not (is_covered (all_of xs ys) r)) (all_of xs ys)
      ∙ ap (λ (t : List (List ℕ)). filter (λ r. not (is_covered (all_of xs ys) r)) t) (joins_listing out j)
      ∙ ap (λ (s : Operations). filter (λ r. not (is_covered s r)) out) (all_is out j)

-- ---- what was written begins it

-- a side's records go on above what was written
module _ (low : List ℕ) (done xs : List (List ℕ)) (g : GoesAbove low done xs) where
  on_side : (z : List ℕ) → Contains done z → Contains xs z
  on_side z c = subst (λ (t : List (List ℕ)). Contains t z) (sym g.1) (Contains-append_left done g.0 z c)

  back_side : (z : List ℕ) → Contains xs z → may_follow Archive low z ≡ false → Contains done z
  back_side z c under = elim (Contains-append_cases done g.0 z (subst (λ (t : List (List ℕ)). Contains t z) g.1 c)) [
    | inl d ↦ d
    | inr m ↦ absurd (cc (all_above low z g.0 g.2 m))
  ]

-- what stands after what was written is above it
abbrev pub IsAbove : List ℕ → List (List ℕ) → Type 0
IsAbove low more = (z : List ℕ) → Contains more z → may_follow Archive low z ≡ true

-- the records of the content begin with those that were written
pub begins : (out lefts rights xs ys : List (List ℕ)) → Joins out lefts rights → InOrder Archive [] xs
    → InOrder Archive [] ys → GoesAbove (last_of [] out) lefts xs → GoesAbove (last_of [] out) rights ys
    → (more : List (List ℕ)) × (listing (of_both xs ys) ≡ kept out ++ more) × IsAbove (last_of [] out) more
begins out lefts rights xs ys j a b l r =
    let low : List ℕ = last_of [] out in
    let us : List (List ℕ) = listing (all_of xs ys) in
    let u : Joins us xs ys = listing_joins xs ys a b in
    let n : (more : List (List ℕ)) × (us ≡ out ++ more) = prefix [] low us out u.ordered j.ordered
    (λ z c. elim (j.from z c) [ inl d ↦ u.left z (on_side low lefts xs l z d) | inr d ↦ u.right z (on_side low rights ys r z d) ])
    (λ z c. up_to_last [] z out j.ordered c)
    (λ z c under. elim (u.from z c) [ inl d ↦ j.left z (back_side low lefts xs l z d under) | inr d ↦ j.right z (back_side low rights ys r z d under) ]) in
    let up : InOrder Archive [] (out ++ n.0) = subst (InOrder Archive []) n.1 u.ordered in
    (behind out n.0 up j.ordered, kept_listing xs ys us u ∙ ap kept n.1 ∙ kept_more out n.0 up j.ordered, behind_above out n.0 up j.ordered)

-- those up to low
up_to-all : (low : List ℕ) (xs : List (List ℕ)) → ((z : List ℕ) → Contains xs z → may_follow Archive low z ≡ false) → up_to low xs ≡ xs
up_to-all low [] h = refl
up_to-all low (x ∷ xs) h = rw (h x (in_front x xs)) (ap (λ (t : List (List ℕ)). x ∷ t) (up_to-all low xs (λ z c. h z (in_rest x xs z c))))

pub up_to-none : (low : List ℕ) (xs : List (List ℕ)) → ((z : List ℕ) → Contains xs z → may_follow Archive low z ≡ true) → up_to low xs ≡ []
up_to-none low [] h = refl
up_to-none low (x ∷ xs) h = rw (h x (in_front x xs)) (up_to-none low xs (λ z c. h z (in_rest x xs z c)))

up_to_is : (out more us : List (List ℕ)) → us ≡ kept out ++ more → InOrder Archive [] out → IsAbove (last_of [] out) more → up_to (last_of [] out) us ≡ kept out
up_to_is out more us e b above =
    let written = up_to-all (last_of [] out) (kept out) (λ z c. up_to_last [] z out b (from_kept out z c)) in
    rw (
      e,
      filter-append (λ r. not (may_follow Archive (last_of [] out) r)) (kept out) more,
      written,
      up_to-none (last_of [] out) more above,
    ) (append-nil (kept out))

-- ---- beginnings of its text

-- a first part of the magic and these records was written
abbrev pub Begun : Option (List ℕ) → Option (List ℕ) → List (List ℕ) → ℕ → Type 0
Begun w0 w1 out n = (n ≤ 8 + length (concat out)) × Appends w0 w1 (take n (text_of Archive out))

module _ (w0 w1 : Option (List ℕ)) (out : List (List ℕ)) (n : ℕ) where
  pub begun_none : n ≡ 0 → Appends w0 w1 [] → Begun w0 w1 out n
  begun_none e p = rw e (omega arith, p)

  pub begun_all : n ≡ 8 + length (concat out) → Appends w0 w1 (magic ++ concat out) → Begun w0 w1 out n
  begun_all is p =
      let end : List ℕ = end_record (length out) in
      let long : length (magic ++ concat out) ≡ n = length-append magic (concat out) ∙ sym is in
      (omega arith, subst (Appends w0 w1) (sym (ap (take n) (sym (append_assoc magic (concat out) end)) ∙ take_at (magic ++ concat out) end n long)) p)

  module _ (g : Begun w0 w1 out n) where
    -- so a first part of each longer text that begins with them was
    begun_text : (text rest : List ℕ) → text ≡ (magic ++ concat out) ++ rest → n < length text → WritesFirst w0 w1 text n
    begun_text text rest t lt =
        let le : n ≤ length (magic ++ concat out) = omega (arith, g.0, length-append magic (concat out)) in
        let end : List ℕ = end_record (length out) in
        let a : take n (text_of Archive out) ≡ take n (magic ++ concat out) =
        ap (take n) (sym (append_assoc magic (concat out) end)) ∙ take-append-le n (magic ++ concat out) end le in
        let b : take n text ≡ take n (magic ++ concat out) = ap (take n) t ∙ take-append-le n (magic ++ concat out) rest le in
        record { within = lt; gained = subst (Appends w0 w1) (a ∙ sym b) g.1 }

    begun_records : (more : List (List ℕ)) (count : ℕ) → WritesFirst w0 w1 (magic ++ (concat (out ++ more) ++ end_record count)) n
    begun_records more count =
        let end : List ℕ = end_record count in
        let text : List ℕ = magic ++ (concat (out ++ more) ++ end) in
        let rest : List ℕ = concat more ++ end in
        let t : text ≡ (magic ++ concat out) ++ rest =
        rw (concat-append out more, append_assoc (concat out) (concat more) end)
        (sym (append_assoc magic (concat out) rest)) in
        begun_text text rest t (omega (
          arith,
          g.0,
          ap length t,
          length-append (magic ++ concat out) rest,
          length-append magic (concat out),
          length-append (concat more) end,
          length-end_record count,
        ))

    pub begun_whole : WritesFirst w0 w1 (text_of Archive out) n
    begun_whole = subst (λ (t : List (List ℕ)). WritesFirst w0 w1 (magic ++ (concat t ++ end_record (length out))) n)
        (append-nil out) (begun_records [] (length out))

    pub begun : (o : Operations) (more : List (List ℕ)) → listing o ≡ out ++ more → WritesFirst w0 w1 (written o) n
    begun o more e = subst (λ (t : List ℕ). WritesFirst w0 w1 t n)
        (sym (written_text o ∙ ap (λ (t : List (List ℕ)). magic ++ (concat t ++ end_record (length (listing o)))) e))
        (begun_records more (length (listing o)))

    -- of the text up to low, where what was to be written is not above it
    pub begun_before : (o : Operations) (more : List (List ℕ)) (low : List ℕ) → listing o ≡ out ++ more
        → ((z : List ℕ) → Contains out z → may_follow Archive low z ≡ false) → n < 8 + length (concat out)
        → WritesFirst w0 w1 (magic ++ concat (up_to low (listing o))) n
    begun_before o more low e reached lt =
        let rest : List ℕ = concat (up_to low more) in
        let us : up_to low (listing o) ≡ out ++ up_to low more = ap (up_to low) e
        ∙ filter-append (λ r. not (may_follow Archive low r)) out more
        ∙ ap (λ (t : List (List ℕ)). t ++ up_to low more) (up_to-all low out reached) in
        let t : magic ++ concat (up_to low (listing o)) ≡ (magic ++ concat out)
        ++ rest = ap (λ (x : List ℕ). magic ++ x) (ap concat us ∙ concat-append out (up_to low more))
        ∙ sym (append_assoc magic (concat out) rest) in
        begun_text (magic ++ concat (up_to low (listing o))) rest t
        (omega (arith, ap length t, length-append (magic ++ concat out) rest, length-append magic (concat out)))

-- ---- a text without the magic

pub no_magic : (t : List ℕ) (b : Option (List ℕ)) (fault : RecordFault) → IsOfText fault.kind
    → (fault.kind ≡ Truncated → IsAtEnd b) → StopsBeforeRecords (Some t) b fault → HasMagic t → ⊥
no_magic t b fault known ended s m =
    let f : Format = m.0 in
    let k = taken_rest t s.bytes b s.taken in
    no_magic_fault f t m.2 fault.kind m.3 (grown_magic f t s.bytes k.0 fault.kind k.1 (λ p. k.2 (ended p))
    (magic_stop f s.bytes fault.kind known (s.stops f m.1)))

pub good_order : (text : List ℕ) (xs : List (List ℕ)) → AreGoodRecords text xs → InOrder Archive [] xs
good_order text xs (inl l) = in_order_of (archive_format text) (kind_archive text) [] xs l.front.ordered
good_order text xs (inr n) = rw n.1 tt

-- a text of which a side was read has the magic
side_begins : (t low : List ℕ) (b : Option (List ℕ)) (done : List (List ℕ)) (side : MergeInput) → Stands (Some t) b done low side → HasMagic t
side_begins t low b done side s = let m = has_magic t low b done side s in (side.reader.file, s.archive, m.0, m.1)

-- and its good records are those of its longest good front
module _ (t low : List ℕ) (b : Option (List ℕ)) (done xs : List (List ℕ)) (side : MergeInput)
    (s : Stands (Some t) b done low side) (g : AreGoodRecords t xs) where
  side_front : IsLongestFront side.reader.file t xs
  side_front = front_of side.reader.file s.archive t xs (has_magic t low b done side s) g

  side_goes : GoesOn t low done xs side.ahead
  side_goes = goes_on t low b done xs side s side_front

  -- where it stopped, too
  module _ (c : Option (List ℕ)) (fault : RecordFault) (unread : side.ahead ≡ Unread) (stopped : Stopped side.reader.file (Some t) c done fault) where
    stopped_above : GoesAbove low done xs
    stopped_above = let n = stopped_goes side.reader.file s.archive t c done xs fault stopped side_front
        in (n.0, n.1, subst (λ (x : List ℕ). InOrder Archive x n.0) (s.unread unread).1 n.2)

    stopped_last : IsOfText fault.kind → (fault.kind ≡ Truncated → IsAtEnd c) → last_of [] xs ≡ low
    stopped_last known ended = ap (last_of []) (front_is side.reader.file t c done xs fault known ended stopped side_front) ∙ (s.unread unread).1

-- ---- both texts are known

-- what was written where the side that ends with `low` stops the merge
abbrev pub Place : (t u : List ℕ) (w0 w1 : Option (List ℕ)) (xs ys : List (List ℕ)) (n : ℕ) (low : List ℕ) → Type 0
Place t u w0 w1 xs ys n low = (bytes : List ℕ) × IsWrittenBefore t u (of_both xs ys) low bytes × Appends w0 w1 bytes × (n ≡ length bytes)

-- no side had stopped the merge
abbrev pub Later : (t u : List ℕ) (w0 w1 : Option (List ℕ)) (xs ys : List (List ℕ)) (n : ℕ) (low : List ℕ) → Type 0
Later t u w0 w1 xs ys n low = (bytes : List ℕ) × IsWrittenBefore t u (of_both xs ys) low bytes × WritesFirst w0 w1 bytes n

module _ (t u : List ℕ) (b1 b2 w0 w1 : Option (List ℕ)) (xs ys : List (List ℕ)) (gx : AreGoodRecords t xs) (gy : AreGoodRecords u ys) (n : ℕ) where
  -- both go on above what was written
  module _ (out lefts rights : List (List ℕ)) (joins : Joins out lefts rights) (l : GoesAbove (last_of [] out) lefts xs)
      (r : GoesAbove (last_of [] out) rights ys) where
    both_more : (more : List (List ℕ)) × (listing (of_both xs ys) ≡ kept out ++ more) × IsAbove (last_of [] out) more
    both_more = begins out lefts rights xs ys joins (good_order t xs gx) (good_order u ys gy) l r

    both_begun : Begun w0 w1 (kept out) n → WritesFirst w0 w1 (written (of_both xs ys)) n
    both_begun g = begun w0 w1 (kept out) n g (of_both xs ys) both_more.0 both_more.1

    -- What was written is the text of its first records. The side that stopped ends with the last of these.
    both_place : n ≡ 8 + length (concat (kept out)) → Appends w0 w1 (magic ++ concat (kept out)) → HasMagic t
        → HasMagic u → (low : List ℕ) → low ≡ last_of [] out → Place t u w0 w1 xs ys n low
    both_place is gained left right low low_is =
        let whole : up_to low (listing (of_both xs ys))
        ≡ kept out = ap (λ (x : List ℕ). up_to x (listing (of_both xs ys))) low_is
        ∙ up_to_is out both_more.0 (listing (of_both xs ys)) both_more.1 joins.ordered both_more.2 in (
          magic ++ concat (kept out),
          inr (left, right, ap (λ (x : List (List ℕ)). magic ++ concat x) (sym whole)),
          gained,
          omega (arith, is, length-append magic (concat (kept out))),
        )

  -- ---- the left side stopped

  module _ (fault : RecordFault) (s : LeftStopped (Some t) b1 (Some u) b2 w0 w1 fault n) where
    left_above : GoesAbove (last_of [] s.merging.out) s.merging.both.lefts xs
    left_above = stopped_above t (last_of [] s.merging.out) s.before s.merging.both.lefts xs s.sides.left s.merging.both.left gx b1 fault s.unread s.left

    other_right : GoesOn u (last_of [] s.merging.out) s.merging.both.rights ys s.sides.right.ahead
    other_right = side_goes u (last_of [] s.merging.out) b2 s.merging.both.rights ys s.sides.right s.merging.both.right gy

    pub left_begun : WritesFirst w0 w1 (written (of_both xs ys)) n
    left_begun = both_begun s.merging.out s.merging.both.lefts s.merging.both.rights s.merging.both.joins left_above
        other_right.above (begun_all w0 w1 (kept s.merging.out) n (s.written_is ∙ s.merging.bytes) s.merging.gained)

    module _ (known : IsOfText fault.kind) (ended : fault.kind ≡ Truncated → IsAtEnd b1) where
      low_left : last_of [] xs ≡ last_of [] s.merging.out
      low_left = stopped_last t (last_of [] s.merging.out) s.before s.merging.both.lefts xs s.sides.left
          s.merging.both.left gx b1 fault s.unread s.left known ended

      magic_right : HasMagic u
      magic_right = side_begins u (last_of [] s.merging.out) b2 s.merging.both.rights s.sides.right s.merging.both.right

      pub left_place : Place t u w0 w1 xs ys n (last_of [] xs)
      left_place = both_place s.merging.out s.merging.both.lefts s.merging.both.rights s.merging.both.joins left_above
          other_right.above (s.written_is ∙ s.merging.bytes) s.merging.gained
          (side_begins t (last_of [] s.merging.out) s.before s.merging.both.lefts s.sides.left s.merging.both.left)
          magic_right (last_of [] xs) low_left

      pub left_first : (IsArchiveText t → ⊥) → LeftStops t u xs ys
      left_first faulty = record {
        faulty = faulty;
        first = inr (
          magic_right,
          elim other_right.place [
            | inl a ↦ inl a
            | inr (inl e) ↦ inr (λ b. cc (below-self (last_of [] s.merging.out), e.1, low_left, b))
            | inr (inr a) ↦ inr (λ b. cc (below-back (last_of [] s.merging.out) (last_of [] ys) a, low_left, b))
          ],
        );
      }

  -- ---- the right side did

  module _ (fault : RecordFault) (s : RightStopped (Some t) b1 (Some u) b2 w0 w1 fault n) where
    right_above : GoesAbove (last_of [] s.merging.out) s.merging.both.rights ys
    right_above = stopped_above u (last_of [] s.merging.out) s.before s.merging.both.rights ys s.sides.right s.merging.both.right gy b2 fault s.unread s.right

    other_left : GoesOn t (last_of [] s.merging.out) s.merging.both.lefts xs s.sides.left.ahead
    other_left = side_goes t (last_of [] s.merging.out) b1 s.merging.both.lefts xs s.sides.left s.merging.both.left gx

    pub right_begun : WritesFirst w0 w1 (written (of_both xs ys)) n
    right_begun = both_begun s.merging.out s.merging.both.lefts s.merging.both.rights s.merging.both.joins
        other_left.above right_above (begun_all w0 w1 (kept s.merging.out) n (s.written_is ∙ s.merging.bytes)
        s.merging.gained)

    module _ (known : IsOfText fault.kind) (ended : fault.kind ≡ Truncated → IsAtEnd b2) where
      low_right : last_of [] ys ≡ last_of [] s.merging.out
      low_right = stopped_last u (last_of [] s.merging.out) s.before s.merging.both.rights ys s.sides.right
          s.merging.both.right gy b2 fault s.unread s.right known ended

      magic_left : HasMagic t
      magic_left = side_begins t (last_of [] s.merging.out) b1 s.merging.both.lefts s.sides.left s.merging.both.left

      pub right_place : Place t u w0 w1 xs ys n (last_of [] ys)
      right_place = both_place s.merging.out s.merging.both.lefts s.merging.both.rights s.merging.both.joins
          other_left.above right_above (s.written_is ∙ s.merging.bytes) s.merging.gained magic_left
          (side_begins u (last_of [] s.merging.out) s.before s.merging.both.rights s.sides.right s.merging.both.right)
          (last_of [] ys) low_right

      pub right_first : (IsArchiveText u → ⊥) → RightStops t u xs ys
      right_first faulty = record {
        faulty = faulty;
        magic_left = magic_left;
        first = inr (elim other_left.place [ inl a ↦ inl a | inr (inl e) ↦ absurd (s.read e.0) | inr (inr a) ↦ inr (rw low_right a) ]);
      }

  -- ---- both sides stand

  module _ (out : List (List ℕ)) (left right : MergeInput) (both : Both (Some t) b1 (Some u) b2 left right out) where
    left_goes : GoesOn t (last_of [] out) both.lefts xs left.ahead
    left_goes = side_goes t (last_of [] out) b1 both.lefts xs left both.left gx

    right_goes : GoesOn u (last_of [] out) both.rights ys right.ahead
    right_goes = side_goes u (last_of [] out) b2 both.rights ys right both.right gy

    standing_begun : Begun w0 w1 (kept out) n → WritesFirst w0 w1 (written (of_both xs ys)) n
    standing_begun g = both_begun out both.lefts both.rights both.joins left_goes.above right_goes.above g

  -- as many records were written as there may be
  pub full_begun : IsFull (Some t) b1 (Some u) b2 w0 w1 n → WritesFirst w0 w1 (written (of_both xs ys)) n
  full_begun s = standing_begun s.merging.out s.sides.left s.sides.right s.merging.both
      (begun_all w0 w1 (kept s.merging.out) n (s.written_is ∙ s.merging.bytes) s.merging.gained)

  -- ---- the writer did

  module _ (s : WriteStopped (Some t) b1 (Some u) b2 w0 w1 n) where
    pub write_begun : WritesFirst w0 w1 (written (of_both xs ys)) n
    write_begun =
        let f = left_goes s.out s.left_side s.right_side s.both in
        let g = right_goes s.out s.left_side s.right_side s.both in
        elim s.within [
          | inl lt ↦ standing_begun s.out s.left_side s.right_side s.both (omega (arith, lt), s.gained)
          | inr e ↦
              let joins : Joins s.out xs ys = rw (f.ended e.0, g.ended e.1) s.both.joins in
              let whole : text_of Archive (kept s.out) ≡ written (of_both xs ys) =
              sym (written_text (of_both xs ys) ∙ ap (text_of Archive) (kept_listing xs ys s.out joins)) in
              record { within = omega (arith, e.2, ap length whole); gained = subst (λ (x : List ℕ). Appends w0 w1 (take n x)) whole s.gained }
        ]

    -- what was to be written is not above the last good record of a side that is no text
    reached : (v low : List ℕ) (ahead : Lookahead) → (IsArchiveText v → ⊥) → IsArchiveText v
        ⊎ (((ahead ≡ Unread) × (low ≡ last_of [] s.out)) ⊎ (may_follow Archive (last_of [] s.out) low ≡ true))
        → (z : List ℕ) → Contains (kept s.out) z → may_follow Archive low z ≡ false
    reached v low ahead faulty (inl text) z c = absurd (faulty text)
    reached v low ahead faulty (inr (inl e)) z c = rw e.1 (up_to_last [] z s.out s.both.joins.ordered (from_kept s.out z c))
    reached v low ahead faulty (inr (inr above)) z c =
        is_false (may_follow Archive low z) (λ h. cc (
          up_to_last [] z s.out s.both.joins.ordered (from_kept s.out z c),
          below-trans (last_of [] s.out) low z above h,
        ))

    is_later : (low : List ℕ) → ((z : List ℕ) → Contains (kept s.out) z → may_follow Archive low z ≡ false)
        → n < 8 + length (concat (kept s.out)) → Later t u w0 w1 xs ys n low
    is_later low up lt =
        let f = left_goes s.out s.left_side s.right_side s.both in
        let g = right_goes s.out s.left_side s.right_side s.both in
        let m = both_more s.out s.both.lefts s.both.rights s.both.joins f.above g.above in (
          magic ++ concat (up_to low (listing (of_both xs ys))),
          inr (
            side_begins t (last_of [] s.out) b1 s.both.lefts s.left_side s.both.left,
            side_begins u (last_of [] s.out) b2 s.both.rights s.right_side s.both.right,
            refl,
          ),
          begun_before w0 w1 (kept s.out) n (omega (arith, lt), s.gained) (of_both xs ys) m.0 low m.1 up lt,
        )

    pub left_later : LeftStops t u xs ys → Later t u w0 w1 xs ys n (last_of [] xs)
    left_later stops = elim s.within [
      | inl lt ↦ is_later (last_of [] xs) (reached t (last_of [] xs) s.left_side.ahead stops.faulty (left_goes s.out s.left_side s.right_side s.both).place) lt
      | inr e ↦ absurd (stops.faulty (ended_text t (last_of [] s.out) b1 s.both.lefts s.left_side s.both.left e.0))
    ]

    pub right_later : RightStops t u xs ys → Later t u w0 w1 xs ys n (last_of [] ys)
    right_later stops = elim s.within [
      | inl lt ↦ is_later (last_of [] ys) (reached u (last_of [] ys) s.right_side.ahead stops.faulty
          (right_goes s.out s.left_side s.right_side s.both).place) lt
      | inr e ↦ absurd (stops.faulty (ended_text u (last_of [] s.out) b2 s.both.rights s.right_side s.both.right e.1))
    ]
