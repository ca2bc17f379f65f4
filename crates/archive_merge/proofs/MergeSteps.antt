-- A turn of a merge: the record that is next is written.
use Rattle.std.proofs.Common.{◌≡◌, ◌≢◌, ℕ, ◌+◌, ◌-◌, Bool, true, false, List, [], ◌∷◌, ◌++◌, length, Option, refl, sym}
use Rattle.std.proofs.Common.{ap, ◌∙◌, subst, arith, inl, inr, append_assoc, length-append, Ordering, Less, Equal}
use Rattle.std.proofs.Common.{Greater}
use Rattle.std.specs.List.{concat}
use Rattle.std.specs.Io.KnownBytes.{Appends}
use Rattle.byte_device.specs.Writes.{WritesFirst}
use Rattle.byte_device.proofs.Gains.{stopped}
use Rattle.byte_device.proofs.Known.{Appends-then}
use Rattle.archive_records.specs.declared.format.Format.TheVariants.{Archive}
use Rattle.archive_records.specs.declared.kind.TextKind.TheVariants.{Archive as Archive_text}
use Rattle.archive_merge.specs.Sides.{Sides}
use Rattle.archive_merge.specs.declared.side.Lookahead.{Lookahead}
use Rattle.archive_merge.specs.declared.side.Lookahead.TheVariants.{Unread, Held, Ended}
use Rattle.archive_merge.specs.declared.side.MergeInput.{MergeInput}
use Rattle.archive_records.specs.declared.writing.Sizes.{Sizes}
use Rattle.archive_records.specs.Kind.{magic, kind_of, IsItem, may_follow}
use Rattle.archive_records.specs.Text.{end_record, text_of, last_of, kept}
use Rattle.archive_records.specs.Reader.{HasRead, set_of}
use Rattle.archive_records.specs.Front.{front_length}
use Rattle.archive_records.specs.declared.fault.MergeFault.{MergeFault}
use Rattle.archive_merge.specs.MergeSteps.{DecidesCoveredBy, DecidesCovered, Stands, Merging, WriteStopped, IsFull}
use Rattle.archive_merge.specs.MergeSteps.{HasStoppedMerge, IsBeforeTurn, first_by, first_of, IsRefusedMore, after_turn}
use Rattle.archive_merge.specs.MergeSteps.{left_after, memory_after, next_record, next_record_by, right_after}
use Rattle.archive_merge.specs.MergeSteps.{unread_of, Both}
use Rattle.archive_records.proofs.Puts.{concat-push}
use Rattle.archive_records.proofs.Apart.{covered_push, last_of-push}
use Rattle.archive_records.proofs.Ascending.{below-less, below-greater, last_is_record, last_under}
use Rattle.archive_core.specs.Content.{is_covered}
use Rattle.archive_core.proofs.Made.{bytes_same}
use Rattle.archive_records.proofs.KeptRecords.{kept_push, kept_pass}
use Rattle.archive_merge.proofs.Covered.{dropped_own, by_both, by_other}
use Rattle.archive_records.proofs.Formats.{in_order_of}
use Rattle.archive_merge.proofs.Unions.{Joins-left, Joins-right, Joins-both, Joins-swap}

-- ---- which is first

pub first_less : (l r : Lookahead) (o : Ordering) → first_by l r o ≡ Less → (l ≡ Held) × (r ≡ Held → o ≡ Less)
first_less l r o e = grind arith

pub first_equal : (l r : Lookahead) (o : Ordering) → first_by l r o ≡ Equal → (l ≡ Held) × (r ≡ Held) × (o ≡ Equal)
first_equal l r o e = grind arith

pub first_greater : (l r : Lookahead) (o : Ordering) → l ≢ Unread → (l ≡ Ended → r ≡ Held) → first_by l r o ≡ Greater → (r ≡ Held) × (l ≡ Held → o ≡ Greater)
first_greater l r o read some e = grind arith

-- ---- one side

-- its record was written
pub wrote_own : (a b : Option (List ℕ)) (done out : List (List ℕ)) (x : List ℕ) (s : MergeInput) → x ≡ s.reader.last
    → kind_of s.reader.file ≡ Archive_text → HasRead s.reader.file a b (done ++ s.reader.last ∷ []) s.reader
    → Stands a b (done ++ x ∷ []) (last_of [] (out ++ x ∷ [])) (unread_of s)
wrote_own a b done out x s e k h = record {
  archive = k;
  unread = λ _. (
    subst (λ (t : List ℕ). HasRead s.reader.file a b (done ++ t ∷ []) s.reader) (sym e) h,
    last_of-push [] done x ∙ sym (last_of-push [] out x),
  );
  held = λ t. absurd cc;
  ended = λ t. absurd cc;
}

-- the other side's was
pub wrote_other : (a b : Option (List ℕ)) (done out : List (List ℕ)) (low x : List ℕ) (s : MergeInput)
    → s.ahead ≢ Unread → (s.ahead ≡ Held → may_follow Archive x s.reader.last ≡ true) → Stands a b done low s
    → Stands a b done (last_of [] (out ++ x ∷ [])) s
wrote_other a b done out low x s read above p = record {
  archive = p.archive;
  unread = λ t. absurd (read t);
  held = λ t. ((p.held t).0, rw (last_of-push [] out x) (above t));
  ended = p.ended;
}

-- the record that a side holds is one
pub held_record : (a b : Option (List ℕ)) (done : List (List ℕ)) (low : List ℕ) (s : MergeInput) → Stands a b done low s
    → s.ahead ≡ Held → IsItem Archive s.reader.last
held_record a b done low s p held = last_is_record [] done s.reader.last
    (in_order_of s.reader.file p.archive [] (done ++ s.reader.last ∷ []) (p.held held).0.ordered)

-- whether its own retirements cover it
pub held_dropped : (a b : Option (List ℕ)) (done : List (List ℕ)) (low : List ℕ) (s : MergeInput)
    → Stands a b done low s → s.ahead ≡ Held → s.reader.dropped ≡ is_covered (set_of done) s.reader.last
held_dropped a b done low s p held = dropped_own s.reader.file p.archive s.reader.dropped done s.reader.last (p.held held).0.dropped_is

-- ---- both sides, once the record that is next is after the others

module _ (a1 b1 a2 b2 w0 w1 : Option (List ℕ)) (m : Sides) (p : Merging a1 b1 a2 b2 w0 w1 m) (before : IsBeforeTurn m) where
  unfoldable pub next_turn : (o : Ordering) → first_of m.left m.right ≡ o
      → Both a1 b1 a2 b2 (left_after o m.left) (right_after o m.right) (p.out ++ next_record_by o m ∷ [])
  next_turn Less first =
      let x = m.left.reader.last in
      let f = first_less m.left.ahead m.right.ahead _ first in
      let h = p.both.left.held f.0 in
      record {
        lefts = p.both.lefts ++ x ∷ [];
        rights = p.both.rights;
        left = wrote_own a1 b1 p.both.lefts p.out x m.left refl p.both.left.archive h.0;
        right = wrote_other a2 b2 p.both.rights p.out _ x m.right before.read.right (λ t. below-less _ _ (f.1 t)) p.both.right;
        order = λ _ _. subst (λ (t : List ℕ). may_follow Archive (last_of [] p.both.rights) t ≡ true)
            (sym (last_of-push [] p.out x)) (last_under p.out p.both.rights x p.both.joins.ordered p.both.joins.right
            h.1);
        joins = Joins-left p.out p.both.lefts p.both.rights x p.both.joins (held_record a1 b1 p.both.lefts (last_of [] p.out) m.left p.both.left f.0) h.1;
      }
  next_turn Equal first =
      let x = m.left.reader.last in
      let f = first_equal m.left.ahead m.right.ahead _ first in
      let h = p.both.left.held f.0 in
      let k = p.both.right.held f.1 in
      record {
        lefts = p.both.lefts ++ x ∷ [];
        rights = p.both.rights ++ x ∷ [];
        left = wrote_own a1 b1 p.both.lefts p.out x m.left refl p.both.left.archive h.0;
        right = wrote_own a2 b2 p.both.rights p.out x m.right (bytes_same _ _ f.2) p.both.right.archive k.0;
        order = λ _ t. absurd (t refl);
        joins = Joins-both p.out p.both.lefts p.both.rights x p.both.joins (held_record a1 b1 p.both.lefts (last_of [] p.out) m.left p.both.left f.0) h.1;
      }
  next_turn Greater first =
      let x = m.right.reader.last in
      let f = first_greater m.left.ahead m.right.ahead _ before.read.left before.some first in
      let h = p.both.right.held f.0 in
      record {
        lefts = p.both.lefts;
        rights = p.both.rights ++ x ∷ [];
        left = wrote_other a1 b1 p.both.lefts p.out _ x m.left before.read.left (λ t. below-greater _ _ (f.1 t)) p.both.left;
        right = wrote_own a2 b2 p.both.rights p.out x m.right refl p.both.right.archive h.0;
        order = λ t _. absurd (before.read.left t);
        joins = Joins-right p.out p.both.lefts p.both.rights x p.both.joins (held_record a2 b2 p.both.rights (last_of [] p.out) m.right p.both.right f.0) h.1;
      }

  -- whether a retirement of either side covers it
  covered_by_turn : (b : Bool) (o : Ordering) → first_of m.left m.right ≡ o → DecidesCoveredBy o m.left m.right b
      → is_covered (set_of (p.out ++ next_record_by o m ∷ [])) (next_record_by o m) ≡ b
  covered_by_turn b Less first told =
      let x = m.left.reader.last in
      let f = first_less m.left.ahead m.right.ahead _ first in
      let either = by_other p.out p.both.lefts p.both.rights x p.both.joins a2 b2 (last_of [] p.out) m.right
      p.both.right before.read.right (λ t. below-less _ _ (f.1 t)) in
      let own = held_dropped a1 b1 p.both.lefts (last_of [] p.out) m.left p.both.left f.0 in
      cc (either, own, told (held_record a1 b1 p.both.lefts (last_of [] p.out) m.left p.both.left f.0))
  covered_by_turn b Equal first told =
      let x = m.left.reader.last in
      let f = first_equal m.left.ahead m.right.ahead _ first in
      let own = held_dropped a1 b1 p.both.lefts (last_of [] p.out) m.left p.both.left f.0 in
      let other = held_dropped a2 b2 p.both.rights (last_of [] p.out) m.right p.both.right f.1 in
      let same : x ≡ m.right.reader.last = bytes_same _ _ f.2 in
      cc (by_both p.out p.both.lefts p.both.rights x p.both.joins, own, other, same, told)
  covered_by_turn b Greater first told =
      let x = m.right.reader.last in
      let f = first_greater m.left.ahead m.right.ahead _ before.read.left before.some first in
      let either = by_other p.out p.both.rights p.both.lefts x
      (Joins-swap p.out p.both.lefts p.both.rights p.both.joins) a1 b1 (last_of [] p.out) m.left p.both.left
      before.read.left (λ t. below-greater _ _ (f.1 t)) in
      let own = held_dropped a2 b2 p.both.rights (last_of [] p.out) m.right p.both.right f.0 in
      cc (either, own, told (held_record a2 b2 p.both.rights (last_of [] p.out) m.right p.both.right f.0))

  pub covered_next : (b : Bool) → DecidesCovered m.left m.right b → is_covered (set_of (p.out ++ next_record m ∷ [])) (next_record m) ≡ b
  covered_next b tells = covered_by_turn b (first_of m.left m.right) refl tells

  -- it is passed over
  unfoldable pub passed : DecidesCovered m.left m.right true → Merging a1 b1 a2 b2 w0 w1 (after_turn m m.written)
  passed tells =
      let x = next_record m in
      let n = next_turn (first_of m.left m.right) refl in
      let same : kept (p.out ++ x ∷ []) ≡ kept p.out = kept_pass p.out x n.joins.ordered (covered_next true tells) in
      record {
        out = p.out ++ x ∷ [];
        both = n;
        records = p.records ∙ ap length (sym same);
        bytes = p.bytes ∙ ap (λ (t : List (List ℕ)). 8 + length (concat t)) (sym same);
        gained = subst (λ (t : List (List ℕ)). Appends w0 w1 (magic ++ concat t)) (sym same) p.gained;
      }

  -- or written
  module _ (tells : DecidesCovered m.left m.right false) (w2 : Option (List ℕ)) where
    abbrev after : List (List ℕ)
    after = kept (p.out ++ next_record m ∷ [])

    pub grown : after ≡ kept p.out ++ next_record m ∷ []
    grown = kept_push p.out (next_record m) (next_turn (first_of m.left m.right) refl).joins.ordered (covered_next false tells)

    pub grown_bytes : concat after ≡ concat (kept p.out) ++ next_record m
    grown_bytes = ap concat grown ∙ concat-push (kept p.out) (next_record m)

    unfoldable pub wrote : (written : Sizes) → written.records ≡ m.written.records + 1 → written.bytes
        ≡ m.written.bytes + length (next_record m) → Appends w1 w2 (next_record m)
        → Merging a1 b1 a2 b2 w0 w2 (after_turn m written)
    wrote written records bytes gained =
        let x = next_record m in
        let n = next_turn (first_of m.left m.right) refl in
        record {
          out = p.out ++ x ∷ [];
          both = n;
          records = omega (arith, records, p.records, ap length grown, length-append (kept p.out) (x ∷ []));
          bytes = omega (arith, bytes, p.bytes, ap length grown_bytes, length-append (concat (kept p.out)) x);
          gained = subst (Appends w0 w2) (append_assoc magic (concat (kept p.out)) x
              ∙ ap (λ (t : List ℕ). magic ++ t) (sym grown_bytes))
              (Appends-then w0 w1 w2 (magic ++ concat (kept p.out)) x p.gained gained);
        }

    -- or the writer failed in it
    pub write_stops : (written k : ℕ) → written ≡ m.written.bytes + k → WritesFirst w1 w2 (next_record m) k → WriteStopped a1 b1 a2 b2 w0 w2 written
    write_stops written k is q =
        let x = next_record m in
        let n = next_turn (first_of m.left m.right) refl in
        let before : List (List ℕ) = kept p.out in
        let end : List ℕ = end_record (length after) in
        let text : text_of Archive after ≡ (magic ++ concat before)
        ++ (x ++ end) = ap (λ (t : List ℕ). magic ++ t)
        (ap (λ (t : List ℕ). t ++ end) grown_bytes ∙ append_assoc (concat before) x end)
        ∙ sym (append_assoc magic (concat before) (x ++ end)) in
        let s = stopped w0 w1 w2 (magic ++ concat before) x end (text_of Archive after) m.written.bytes k
        (p.bytes ∙ sym (length-append magic (concat before))) text p.gained q in
        record {
          out = p.out ++ x ∷ [];
          left_side = left_after (first_of m.left m.right) m.left;
          right_side = right_after (first_of m.left m.right) m.right;
          both = n;
          within = inl (omega (arith, is, q.within, p.bytes, ap length grown_bytes, length-append (concat before) x));
          gained = rw is s.gained;
        }

-- ---- as many records were written as there may be

pub first_held : (l r : Lookahead) (o : Ordering) → first_by l r o ≢ Greater → l ≡ Held
first_held l r o n = grind arith

-- the offset before the last record
pub before_last : (a b : Option (List ℕ)) (done : List (List ℕ)) (low : List ℕ) (s : MergeInput) → Stands a b done low s
    → s.ahead ≡ Held → s.reader.offset - length s.reader.last ≡ front_length done
before_last a b done low s p held =
    let h = (p.held held).0 in
    omega (arith, h.offset_is, ap length (concat-push done s.reader.last), length-append (concat done) s.reader.last)

pub full_stops : (a1 b1 a2 b2 w0 w1 : Option (List ℕ)) (m : Sides) → Merging a1 b1 a2 b2 w0 w1 m → IsBeforeTurn m
    → DecidesCovered m.left m.right false → (e : MergeFault) → IsRefusedMore m e → HasStoppedMerge a1 b1 a2 b2 w0 w1 e
full_stops a1 b1 a2 b2 w0 w1 m p before tells e (most, is, at) =
    let full : IsFull a1 b1 a2 b2 w0 w1 e.written = record {
      sides = m;
      merging = p;
      before = before;
      free = sym (covered_push p.out (next_record m)) ∙ covered_next a1 b1 a2 b2 w0 w1 m p before false tells;
      most = most;
      written_is = is;
    } in
    elim at [
      | inl l ↦ rw l.1 (inr (inl (
        full,
        l.0,
        ap (λ (n : ℕ). memory_after n)
            (before_last a1 b1 p.both.lefts (last_of [] p.out) m.left p.both.left
            (first_held m.left.ahead m.right.ahead _ l.0)),
      )))
      | inr r ↦ rw r.1 (inr (
        full,
        r.0,
        ap (λ (n : ℕ). memory_after n)
            (before_last a2 b2 p.both.rights (last_of [] p.out) m.right p.both.right
            (first_greater m.left.ahead m.right.ahead _ before.read.left before.some r.0).0),
      ))
    ]
