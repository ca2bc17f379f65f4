-- The longest good front of a text, and how a side of a merge stands to it.
use Rattle.std.proofs.Common.{◌≡◌, ℕ, true, List, [], ◌∷◌, ◌++◌, length, Option, Some, None, refl, sym, ap, ◌∙◌, subst}
use Rattle.std.proofs.Common.{arith, inl, inr, ◌⊎◌, append_assoc, length-append}
use Rattle.std.proofs.lemmas.List.{append-nil}
use Rattle.std.specs.List.{concat}
use Rattle.std.specs.FinSet as set
use Rattle.std.specs.Io.KnownBytes.{Consumes, IsAtEnd}
use Rattle.archive_core.specs.Content.{Operations, joined, content_of}
use Rattle.archive_core.proofs.Made.{joined_made}
use Rattle.archive_records.specs.declared.fault.RecordFaultKind.TheVariants.{Truncated}
use Rattle.archive_records.specs.declared.fault.RecordFault.{RecordFault}
use Rattle.archive_records.specs.declared.format.Format.{Format}
use Rattle.archive_records.specs.declared.format.Format.TheVariants.{Archive, OldArchive, Operations as Operations_file, Summary as Summary_file}
use Rattle.archive_records.specs.declared.kind.TextKind.TheVariants.{Archive as Archive_text}
use Rattle.archive_merge.specs.declared.side.Lookahead.{Lookahead}
use Rattle.archive_merge.specs.declared.side.Lookahead.TheVariants.{Unread, Held, Ended}
use Rattle.archive_merge.specs.declared.side.MergeInput.{MergeInput}
use Rattle.archive_records.specs.Kind.{magic_of, kind_of, archive_format, may_follow}
use Rattle.archive_records.specs.Text.{ending, text_of, taken_of, InOrder, AreApart, last_of}
use Rattle.archive_records.specs.Fault.{is_end, IsFaultAfter, IsOfText}
use Rattle.archive_records.specs.Front.{IsGoodFront, IsLongestFront}
use Rattle.archive_merge.specs.Merging.{HasMagic, IsArchiveText, AreGoodRecords, of_both}
use Rattle.archive_records.specs.Reader.{set_of, Stopped}
use Rattle.archive_merge.specs.MergeSteps.{Stands}
use Rattle.archive_records.proofs.Holds.{holds}
use Rattle.archive_records.proofs.Forms.{item-framed}
use Rattle.archive_records.proofs.Puts.{concat-push}
use Rattle.archive_records.proofs.RecordSteps.{InOrder-push}
use Rattle.archive_records.proofs.Ends.{end-is_end}
use Rattle.archive_records.proofs.Longest.{Goes, longest, unique, behind_magic, end-stops}
use Rattle.archive_records.proofs.Formats.{in_order_of, ending_of, kind_archive, format_magic}
use Rattle.archive_records.proofs.Versions.{kept_set, Formed, formed, formed_content, formed_text}
use Rattle.archive_records.proofs.Exact.{fault_longest}
use Rattle.archive_records.proofs.Inputs.{record_stop, grown_behind}
use Rattle.archive_records.proofs.Ascending.{below-trans, last_above, InOrder-behind, last_of-append}

pub taken_rest : (t x : List ℕ) (b : Option (List ℕ)) → Consumes (Some t) b x → (u : List ℕ) × (t ≡ x ++ u) × (IsAtEnd b → u ≡ [])
taken_rest t x None c = absurd c
taken_rest t x (Some u) c = (u, c, λ e. e)

-- ---- texts

-- the text of records is an archive's
pub archive_text : (f : Format) → kind_of f ≡ Archive_text → (t : List ℕ) (done : List (List ℕ)) → InOrder f [] done
    → AreApart f done → t ≡ text_of f done → IsArchiveText t
archive_text f k t done a p whole =
    let o : Operations = set.from_list (taken_of f done) in
    let form : Formed o t = record { format = f; archive = k; records = done; ordered = a; apart = p; whole = whole; content = refl } in
    (o, formed_content o t form, formed_text o t form)

-- and each archive's text is one of records
pub formed_of : (t : List ℕ) (x : IsArchiveText t) → Formed x.0 t
formed_of t x = formed x.0 t x.1 x.2

pub text_magic : (t : List ℕ) → IsArchiveText t → HasMagic t
text_magic t x =
    let s = formed_of t x in
    (s.format, s.archive, concat s.records ++ ending s.format (length s.records), s.whole)

-- what is taken of records is what they make
pub taken_made : (f : Format) → kind_of f ≡ Archive_text → (xs : List (List ℕ)) → InOrder Archive [] xs → AreApart f xs
    → set_of (taken_of f xs) ≡ content_of (set_of xs)
taken_made Archive k xs a apart = sym apart
taken_made OldArchive k xs a apart = kept_set xs a
taken_made Operations_file k xs a apart = cc
taken_made Summary_file k xs a apart = cc

-- so the records of two texts make the join of what the texts give
pub both_taken : (f g : Format) → kind_of f ≡ Archive_text → kind_of g ≡ Archive_text → (xs ys : List (List ℕ))
    → InOrder f [] xs → AreApart f xs → InOrder g [] ys → AreApart g ys → of_both xs ys
    ≡ joined (set_of (taken_of f xs)) (set_of (taken_of g ys))
both_taken f g k l xs ys a p b q =
    let lefts = taken_made f k xs (in_order_of f k [] xs a) p in
    let rights = taken_made g l ys (in_order_of g l [] ys b) q in
    cc (joined_made (set_of xs) (set_of ys), lefts, rights)

-- ---- fronts

-- a text with the magic
pub front_magic : (t : List ℕ) (xs : List (List ℕ)) → IsLongestFront (archive_format t) t xs → HasMagic t
front_magic t xs l = (archive_format t, kind_archive t, concat xs ++ l.front.rest, l.front.whole)

-- the records of a text with the magic of a version are those of its longest good front
pub front_of : (f : Format) → kind_of f ≡ Archive_text → (t : List ℕ) (xs : List (List ℕ)) → (rest : List ℕ)
    × (t ≡ magic_of f ++ rest) → AreGoodRecords t xs → IsLongestFront f t xs
front_of f k t xs m (inl l) = rw (← format_magic f k t m.0 m.1) l
front_of f k t xs m (inr n) = absurd (n.0 (f, k, m.0, m.1))

module _ (f : Format) where
  -- no record stands after the longest good front that it may go on with
  pub longest_stops : (t : List ℕ) (xs : List (List ℕ)) (l : IsLongestFront f t xs) → Goes f xs l.front.rest → ⊥
  longest_stops t xs l g =
      let k = g.next in
      let more : concat (xs ++ k.item ∷ []) ≡ concat xs ++ k.item = concat-push xs k.item in
      let whole : t ≡ magic_of f ++ (concat (xs ++ k.item ∷ []) ++ k.more) =
      l.front.whole ∙ ap (λ (r : List ℕ). magic_of f ++ r)
      (ap (λ (r : List ℕ). concat xs ++ r) k.whole ∙ sym (append_assoc (concat xs) k.item k.more)
      ∙ ap (λ (r : List ℕ). r ++ k.more) (sym more)) in
      let longer : IsGoodFront f t (xs ++ k.item ∷ []) =
      record {
        ordered = InOrder-push f [] xs k.item l.front.ordered k.is k.above;
        apart = g.apart;
        rest = k.more;
        whole = whole;
      } in
      let one = (holds f k.item (length k.item) (item-framed f k.item k.is)).one in
      omega (arith, l.longest (xs ++ k.item ∷ []) longer, ap length more, length-append (concat xs) k.item)

  pub one_longest : (t : List ℕ) (xs ys : List (List ℕ)) → IsLongestFront f t xs → IsLongestFront f t ys → xs ≡ ys
  one_longest t xs ys l k =
      (unique f xs ys l.front.rest k.front.rest l.front.ordered l.front.apart k.front.ordered k.front.apart
      (behind_magic f t (concat xs ++ l.front.rest) (concat ys ++ k.front.rest) l.front.whole k.front.whole)
      (longest_stops t xs l) (longest_stops t ys k)).0

  -- a front of what was taken begins the longest
  pub before : (t : List ℕ) (b : Option (List ℕ)) (done ys : List (List ℕ))
      → Consumes (Some t) b (magic_of f ++ concat done) → InOrder f [] done → AreApart f done → IsLongestFront f t ys
      → (more : List (List ℕ)) × (ys ≡ done ++ more)
  before t b done ys c a p l =
      let k = taken_rest t (magic_of f ++ concat done) b c in
      let whole : t ≡ magic_of f ++ (concat done ++ k.0) = k.1 ∙ append_assoc (magic_of f) (concat done) k.0 in
      let n = longest f ys done l.front.rest k.0 l.front.ordered a p
      (behind_magic f t (concat ys ++ l.front.rest) (concat done ++ k.0) l.front.whole whole) (longest_stops t ys l)
      in
      (n.more, n.records)

  -- ---- a side that stopped

  stopped_whole : (t : List ℕ) (b : Option (List ℕ)) (records : List (List ℕ)) (fault : RecordFault)
      (s : Stopped f (Some t) b records fault) → (u : List ℕ) × (t ≡ magic_of f ++ (concat records ++ (s.rest ++ u)))
      × (IsAtEnd b → u ≡ [])
  stopped_whole t b records fault s =
      let k = taken_rest t (magic_of f ++ (concat records ++ s.rest)) b s.taken in (
        k.0,
        k.1 ∙ append_assoc (magic_of f) (concat records ++ s.rest) k.0
            ∙ ap (λ (r : List ℕ). magic_of f ++ r) (append_assoc (concat records) s.rest k.0),
        k.2,
      )

  -- its longest good front is what was read of it
  pub front_is : (t : List ℕ) (b : Option (List ℕ)) (records xs : List (List ℕ)) (fault : RecordFault)
      → IsOfText fault.kind → (fault.kind ≡ Truncated → IsAtEnd b) → Stopped f (Some t) b records fault
      → IsLongestFront f t xs → xs ≡ records
  front_is t b records xs fault known ended s l =
      let k = stopped_whole t b records fault s in
      let front : IsGoodFront f t records = record { ordered = s.ordered; apart = s.apart; rest = s.rest ++ k.0; whole = k.1 } in
      let behind : IsFaultAfter f records (s.rest ++ k.0) fault =
      grown_behind f records s.rest k.0 fault (λ p. k.2 (ended p))
      (record_stop f records s.rest fault known s.stops) in
      one_longest t xs records l (fault_longest f t records front fault behind)

-- the records of a text go on after these, above low
abbrev pub GoesAbove : List ℕ → List (List ℕ) → List (List ℕ) → Type 0
GoesAbove low done xs = (more : List (List ℕ)) × (xs ≡ done ++ more) × InOrder Archive low more

module _ (f : Format) (archive : kind_of f ≡ Archive_text) where
  -- whatever the fault, it goes on above its last record
  pub stopped_goes : (t : List ℕ) (b : Option (List ℕ)) (records xs : List (List ℕ)) (fault : RecordFault)
      → Stopped f (Some t) b records fault → IsLongestFront f t xs → GoesAbove (last_of [] records) records xs
  stopped_goes t b records xs fault s l =
      let k = stopped_whole f t b records fault s in
      let n = longest f xs records l.front.rest (s.rest ++ k.0) l.front.ordered s.ordered s.apart
      (behind_magic f t (concat xs ++ l.front.rest) (concat records ++ (s.rest ++ k.0)) l.front.whole k.1)
      (longest_stops f t xs l) in
      (n.more, n.records, InOrder-behind [] records n.more (subst (InOrder Archive []) n.records (in_order_of f archive [] xs l.front.ordered)))

  -- the longest good front of a text has all its records
  pub whole_front : (t : List ℕ) (done ys : List (List ℕ)) → InOrder f [] done → AreApart f done → t ≡ text_of f done → IsLongestFront f t ys → ys ≡ done
  whole_front t done ys a p whole l =
      let end : List ℕ = ending f (length done) in
      let is : is_end end ≡ true = ap is_end (ending_of f archive (length done)) ∙ end-is_end (length done) in
      (unique f ys done l.front.rest end l.front.ordered l.front.apart a p
      (behind_magic f t (concat ys ++ l.front.rest) (concat done ++ end) l.front.whole whole)
      (longest_stops f t ys l)
      (λ g. end-stops f (last_of [] done) end is g.next)).0

-- ---- the other side

by_ahead : (s : Lookahead) → (s ≡ Unread) ⊎ (s ≡ Held) ⊎ (s ≡ Ended)
by_ahead Unread = inl refl
by_ahead Held = inr (inl refl)
by_ahead Ended = inr (inr refl)

-- Its longest good front goes on above low: the text is whole, or what was read ends at low, or there is more.
pub record GoesOn (t low : List ℕ) (done ys : List (List ℕ)) (ahead : Lookahead) : Type 0 where
  pub above : GoesAbove low done ys
  pub ended : ahead ≡ Ended → ys ≡ done
  pub place : IsArchiveText t ⊎ (((ahead ≡ Unread) × (last_of [] ys ≡ low)) ⊎ (may_follow Archive low (last_of [] ys) ≡ true))

pub text_whole : (f : Format) (t : List ℕ) (b : Option (List ℕ)) (done : List (List ℕ)) → Consumes (Some t) b (text_of f done) → IsAtEnd b → t ≡ text_of f done
text_whole f t b done taken end =
    let k = taken_rest t (text_of f done) b taken in
    k.1 ∙ ap (λ (x : List ℕ). text_of f done ++ x) (k.2 end) ∙ append-nil (text_of f done)

-- a side that was read to its end has an archive's text
pub ended_text : (t low : List ℕ) (b : Option (List ℕ)) (done : List (List ℕ)) (side : MergeInput)
    → Stands (Some t) b done low side → side.ahead ≡ Ended → IsArchiveText t
ended_text t low b done side s end =
    let h = s.ended end in
    archive_text side.reader.file s.archive t done h.0.ordered h.0.apart (text_whole side.reader.file t b done h.0.taken h.1)

pub goes_on : (t low : List ℕ) (b : Option (List ℕ)) (done ys : List (List ℕ)) (side : MergeInput)
    → Stands (Some t) b done low side → IsLongestFront side.reader.file t ys → GoesOn t low done ys side.ahead
goes_on t low b done ys side s l =
    let f : Format = side.reader.file in
    let ys_ordered : InOrder Archive [] ys = in_order_of f s.archive [] ys l.front.ordered in
    elim (by_ahead side.ahead) [
      | inl unread ↦
          let h = s.unread unread in
          let n = before f t b done ys h.0.taken h.0.ordered h.0.apart l in
          let a : InOrder Archive low n.0 = subst (λ (x : List ℕ). InOrder Archive x n.0) h.1
          (InOrder-behind [] done n.0 (subst (InOrder Archive []) n.1 ys_ordered)) in
          let last : last_of [] ys ≡ last_of low n.0 = cc (n.1, last_of-append [] done n.0, h.1) in
          record {
            above = (n.0, n.1, a);
            ended = λ t. cc;
            place = inr (elim (last_above low n.0 a) [ inl e ↦ inl (unread, last ∙ sym e) | inr p ↦ inr (rw last p) ]);
          }
      | inr (inl held) ↦
          let h = s.held held in
          let y : List ℕ = side.reader.last in
          let n = before f t b (done ++ y ∷ []) ys h.0.taken h.0.ordered h.0.apart l in
          let is : ys ≡ done ++ (y ∷ n.0) = n.1 ∙ append_assoc done (y ∷ []) n.0 in
          let a = InOrder-behind [] done (y ∷ n.0) (subst (InOrder Archive []) is ys_ordered) in
          let last : last_of [] ys ≡ last_of y n.0 = ap (last_of []) is ∙ last_of-append [] done (y ∷ n.0) in
          record {
            above = (y ∷ n.0, is, (a.0, h.1, a.2));
            ended = λ t. cc;
            place = inr (inr (rw last (elim (last_above y n.0 a.2) [ inl e ↦ rw (← e) h.1 | inr q ↦ below-trans low y (last_of y n.0) h.1 q ])));
          }
      | inr (inr end) ↦
          let h = s.ended end in
          let whole = text_whole f t b done h.0.taken h.1 in
          let u = whole_front f s.archive t done ys h.0.ordered h.0.apart whole l in
          record { above = ([], u ∙ sym (append-nil done), tt); ended = λ _. u; place = inl (archive_text f s.archive t done h.0.ordered h.0.apart whole) }
    ]

pub has_magic : (t low : List ℕ) (b : Option (List ℕ)) (done : List (List ℕ)) (side : MergeInput)
    → Stands (Some t) b done low side → (rest : List ℕ) × (t ≡ magic_of side.reader.file ++ rest)
has_magic t low b done side s =
    let magic : List ℕ = magic_of side.reader.file in
    let begins : (x : List ℕ) → Consumes (Some t) b (magic ++ x) → (rest : List ℕ)
    × (t ≡ magic ++ rest) = λ x taken. let k = taken_rest t (magic ++ x) b taken
    in (x ++ k.0, k.1 ∙ append_assoc magic x k.0) in
    elim (by_ahead side.ahead) [
      | inl unread ↦ begins (concat done) (s.unread unread).0.taken
      | inr (inl held) ↦ begins (concat (done ++ side.reader.last ∷ [])) (s.held held).0.taken
      | inr (inr end) ↦ begins (concat done ++ ending side.reader.file (length done)) (s.ended end).0.taken
    ]
