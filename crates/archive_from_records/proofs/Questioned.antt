-- Questions under keys, answered by what is held of the records.
use Rattle.std.proofs.Common.{◌≡◌, ℕ, ◌+◌, Bool, true, false, ◌&&◌, if◌then◌else◌, List, [], ◌∷◌, ◌++◌, append_assoc}
use Rattle.std.proofs.Common.{add-one, length, drop, Option, Some, None, refl, sym, ap, ◌∙◌, arith, inl, inr}
use Rattle.std.specs.Prelude.{⊤}
use Rattle.std.specs.Option.{ForSome}
use Rattle.std.specs.Int.{w64, to_be_bytes}
use Rattle.std.specs.List.{Contains}
use Rattle.std.specs.Str.{bytes_eq}
use Rattle.std.specs.declared.cmp.Ordering.TheVariants.{Less}
use Rattle.std.specs.Ordering.{is_lt}
use Rattle.std.specs.Cmp.{tied_itself}
use Rattle.std.specs.Cmp.Lexicographic.{nat_list_cmp_total}
use Rattle.std.specs.FinSet as set
use Rattle.std.specs.FinSet.{contains, contains-empty, same_set}
use Rattle.std.proofs.lemmas.Bool.{false≢true, eqb-true, and_from}
use Rattle.std.proofs.lemmas.List.{append-nil, take_at, drop_at, drop-drop}
use Rattle.std.proofs.lemmas.List.Elements.{Contains-append_cases, Contains-append_left, Contains-push_cases}
use Rattle.std.proofs.lemmas.List.Sorted.{ranks_by}
use Rattle.std.proofs.lemmas.Slice.Eq.{bytes_eq-Decides}
use Rattle.sha2.specs.Sha256.{sha256}
use Rattle.archive_core.specs.Key.{key_bytes}
use Rattle.archive_core.specs.Valid.{IsValid, key_of}
use Rattle.archive_core.specs.Record.{admission, admission_record, retirement_record, Admits, IsOperation, Retires}
use Rattle.archive_core.specs.Content.{Operations, IsMade, IsLive, IsAnswering, is_admission, covering, key_and_digest, with_record}
use Rattle.archive_core.specs.Part.{part}
use Rattle.archive_core.specs.declared.keys.SliceKey.{SliceKey}
use Rattle.archive_core.specs.declared.keys.Digest.{Digest}
use Rattle.archive_core.specs.declared.operations.Operation.TheVariants.{Retire}
use Rattle.archive_core.proofs.Made.{and_false, uncovered_of_made, and_left, and_right, bytes_same}
use Rattle.archive_core.proofs.Picked.{contains_part}
use Rattle.archive_records.specs.declared.format.Format.TheVariants.{Archive}
use Rattle.archive_records.specs.declared.kind.TextKind.TheVariants.{Archive as Archive_text}
use Rattle.archive_records.specs.Text.{InOrder}
use Rattle.archive_from_records.specs.InnerKeys.{AreAsked, Begins, IsHeldUnder, admits_under, prefix_of, is_first, is_passed}
use Rattle.archive_from_records.specs.Keys.{AnswersAs, AreInOrder, first_key}
use Rattle.archive_records.specs.Reader.{MakeThemselves, set_of}
use Rattle.archive_records.proofs.Apart.{from_set, in_set, is_false}
use Rattle.archive_records.proofs.Ascending.{InOrder-behind, all_above, less_of}
use Rattle.archive_records.proofs.Contents.{order}
use Rattle.archive_core.proofs.Retired.{begins_below}
use Rattle.archive_core.proofs.Members.{in_cons}
use Rattle.archive_from_records.proofs.Kept.{part_start, picked_more, unpicked_more}

-- ---- the order of bytes

abbrev lt : List ℕ → List ℕ → Bool
lt a b = is_lt (order a b)

not_itself : (a : List ℕ) → lt a a ≡ false
not_itself a = ap is_lt (tied_itself nat_list_cmp_total a)

not_less_chain : (a b c : List ℕ) → lt a b ≡ false → lt b c ≡ false → lt a c ≡ false
not_less_chain a b c = (ranks_by nat_list_cmp_total (λ (x : List ℕ). x)).chain a b c

neither : (a b : List ℕ) → lt a b ≡ false → lt b a ≡ false → a ≡ b
neither a b p q = bytes_same a b (grind (arith, nat_list_cmp_total.antisymm b a))

same : (a b : List ℕ) → bytes_eq a b ≡ true → a ≡ b
same a b = (bytes_eq-Decides a b).0

-- ---- keys in order

order_behind : (key : SliceKey) (keys : List SliceKey) → AreInOrder (key ∷ keys) → AreInOrder keys
order_behind key keys sorted = λ j d _ below. rw (add-one j) (simp add-one at (sorted (j + 1) d (omega arith) (omega (arith, below))))

order_first : (key next : SliceKey) (keys : List SliceKey) → AreInOrder (key ∷ next ∷ keys) → lt (key_bytes next) (key_bytes key) ≡ false
order_first key next keys sorted = sorted 0 key (omega arith) (omega arith)

-- ---- records after others

-- an admission as its tag, and what is after it
tagged : (r : List ℕ) → is_admission r ≡ true → r ≡ 2 ∷ drop 1 r
tagged [] a = cc
tagged (t ∷ bytes) a = ap (λ (n : ℕ). n ∷ bytes) (eqb-true t 2 a)

-- an admission above another is under no smaller key
not_under_less : (x r : List ℕ) → is_admission x ≡ true → is_admission r ≡ true → order x r ≡ Less → lt (prefix_of r) (prefix_of x) ≡ false
not_under_less x r a b less =
    begins_below 25 (2 ∷ drop 1 x) (2 ∷ drop 1 r) (ap (λ (t : List ℕ). order t (2 ∷ drop 1 r)) (sym (tagged x a)) ∙ ap (order x) (sym (tagged r b)) ∙ less)

-- no record after an admission under a greater key is one under this key
none_behind : (records : List (List ℕ)) (prefix : List ℕ) (x : List ℕ) (more : List (List ℕ))
    → InOrder Archive [] (records ++ x ∷ more) → is_admission x ≡ true → lt prefix (prefix_of x) ≡ true
    → (r : List ℕ) → Contains (x ∷ more) r → is_admission r ≡ true → prefix ≡ prefix_of r → ⊥
none_behind records prefix x more ordered a above r there b under =
    let behind = InOrder-behind [] records (x ∷ more) ordered in
    elim (in_cons x more r there) [
      | inl e ↦ cc (not_itself prefix)
      | inr later ↦ cc (not_under_less x r a b (less_of x r (all_above x r more behind.2 later)))
    ]

-- so where a key is passed, none of the records that may come is under it
none_to_come : (records behind : List (List ℕ)) (key : SliceKey) (prefix : Option (List ℕ))
    → InOrder Archive [] (records ++ behind) → is_passed key prefix ≡ true → Begins prefix behind
    → (r : List ℕ) → Contains behind r → is_admission r ≡ true → key_bytes key ≡ prefix_of r → ⊥
none_to_come records behind key None ordered passed begins r there b under =
    let c = rw begins at there in absurd (omega (arith, c.1))
none_to_come records behind key (Some prefix) ordered passed begins r there b under =
    none_behind records (key_bytes key) begins.0 begins.1 (rw begins.2 at ordered) begins.3
    (ap (lt (key_bytes key)) begins.4 ∙ passed) r (rw begins.2 at there) b under

-- ---- what is held answers as the whole

-- what stands where in the record of a slice under a key of 24 bytes
parts : (slice : List ℕ) (key : SliceKey) → length (key_bytes key) ≡ 24 → key_of slice ≡ key
    → (prefix_of (admission_record slice) ≡ key_bytes key) × (drop 33 (admission_record slice) ≡ slice)
unfolding admission
parts slice key long is =
    let first : List ℕ = key_bytes (key_of slice) in
    let number : List ℕ = to_be_bytes w64 (length slice) in
    let wide : length first ≡ 24 = ap (λ (k : SliceKey). length (key_bytes k)) is ∙ long in
    let behind : drop 24 (first ++ (number ++ slice)) ≡ number ++ slice = drop_at first (number ++ slice) 24 wide in (
      take_at first (number ++ slice) 24 wide ∙ ap key_bytes is,
      sym (drop-drop 8 24 (first ++ (number ++ slice))) ∙ ap (drop 8) behind ∙ drop_at number slice 8 refl,
    )

module _ (records behind : List (List ℕ)) (key : SliceKey) (held : Operations) (long : length (key_bytes key) ≡ 24)
    (is : IsHeldUnder (key_bytes key) records held) (made : IsMade (set_of (records ++ behind)))
    (none : (r : List ℕ) → Contains behind r → is_admission r ≡ true → key_bytes key ≡ prefix_of r → ⊥) where
  abbrev whole : Operations
  whole = set_of (records ++ behind)

  held_has : (r : List ℕ) → contains held r ≡ (contains (set_of records) r && admits_under (key_bytes key) r)
  held_has r = ap (λ (o : Operations). contains o r) is.held_is ∙ contains_part (set_of records) (admits_under (key_bytes key)) r

  under : (slice : List ℕ) → key_of slice ≡ key → admits_under (key_bytes key) (admission_record slice) ≡ true
  under slice of = (bytes_eq-Decides (key_bytes key) (prefix_of (admission_record slice))).1 (sym (parts slice key long of).0)

  in_whole : (slice : List ℕ) → contains held (admission_record slice) ≡ true → contains whole (admission_record slice) ≡ true
  in_whole slice h =
      let r = admission_record slice in
      in_set (records ++ behind) r (Contains-append_left records behind r (from_set records r (and_left _ _ (sym (held_has r) ∙ h))))

  in_held : (slice : List ℕ) → key_of slice ≡ key → contains whole (admission_record slice) ≡ true → contains held (admission_record slice) ≡ true
  in_held slice of h =
      let r = admission_record slice in
      held_has r ∙ and_from _ _ (elim (Contains-append_cases records behind r (from_set (records ++ behind) r h)) [
        | inl c ↦ in_set records r c
        | inr c ↦ absurd (none r c refl (sym (parts slice key long of).0))
      ]) (under slice of)

  no_retirement : (digest : List ℕ) → contains held (retirement_record key digest) ≡ false
  no_retirement digest = held_has (retirement_record key digest) ∙ and_false (contains (set_of records) (retirement_record key digest))

  covering_is : (slice : List ℕ) → key_of slice ≡ key → covering (admission_record slice) ≡ retirement_record key (sha256 slice)
  unfolding key_and_digest
  covering_is slice of =
      let p = parts slice key long of in
      ap (λ (t : List ℕ). 1 ∷ (t ++ sha256 (drop 33 (admission_record slice)))) p.0 ∙ ap (λ (t : List ℕ). 1 ∷ (key_bytes key ++ sha256 t)) p.1

  live_in_whole : (slice : List ℕ) → IsLive held key slice → IsLive whole key slice
  live_in_whole slice live =
      let there = in_whole slice live.admitted in
      record {
        admitted = there;
        under = live.under;
        kept = ap (contains whole) (sym (covering_is slice live.under)) ∙ uncovered_of_made whole made (admission_record slice) there;
      }

  live_in_held : (slice : List ℕ) → IsLive whole key slice → IsLive held key slice
  live_in_held slice live = record {
    admitted = in_held slice live.under live.admitted;
    under = live.under;
    kept = no_retirement (sha256 slice);
  }

  answering_alike : (o p : Operations) → ((slice : List ℕ) → IsLive o key slice → IsLive p key slice)
      → ((slice : List ℕ) → IsLive p key slice → IsLive o key slice) → (slice : List ℕ) → IsAnswering o key slice
      → IsAnswering p key slice
  answering_alike o p to back slice answering = record {
    live = to slice answering.live;
    companions_first = λ companion live. answering.companions_first companion (back companion live);
  }

  answers_as : AnswersAs key held whole
  answers_as slices answering = record {
    ascending = answering.ascending;
    exactly = λ slice. (
      λ h. answering_alike held whole live_in_whole live_in_held slice ((answering.exactly slice).0 h),
      λ h. (answering.exactly slice).1 (answering_alike whole held live_in_held live_in_whole slice h),
    );
  }

-- ---- one question after another

-- what answers as another under the first of the keys
pub answers_first : (keys : List SliceKey) (key : SliceKey) (p o : Operations) → first_key keys ≡ Some key
    → AnswersAs key p o → ForSome (first_key keys) (λ k. AnswersAs k p o)
answers_first keys key p o first told = λ k also. let same : key ≡ k = cc in rw (← same) told

-- the admissions that are held for the question after
held_behind : (records : List (List ℕ)) (key next : SliceKey) (held : Operations) → lt (key_bytes next) (key_bytes key)
    ≡ false → IsHeldUnder (key_bytes key) records held
    → IsHeldUnder (key_bytes next) records (if bytes_eq (key_bytes next) (key_bytes key) then held else set.empty)
held_behind records key next held not_below is = by (bytes_eq (key_bytes next) (key_bytes key)) refl
  where
    none : (r : List ℕ) → Contains records r → is_admission r ≡ true → lt (key_bytes next) (prefix_of r) ≡ false
    none r there a = not_less_chain (key_bytes next) (key_bytes key) (prefix_of r) not_below (is.none_above r there a)

    nothing : bytes_eq (key_bytes next) (key_bytes key) ≡ false → set.empty ≡ part (set_of records) (admits_under (key_bytes next))
    nothing other = same_set nat_list_cmp_total bytes_same set.empty (part (set_of records) (admits_under (key_bytes next))) (λ r.
        contains-empty order r ∙ sym (contains_part (set_of records) (admits_under (key_bytes next)) r ∙ is_false _ (λ h.
        let there = from_set records r (and_left _ _ h) in
        let admits = and_right _ _ h in
        let a = and_left _ _ admits in
        let prefix : key_bytes next ≡ prefix_of r = same _ _ (and_right _ _ admits) in
        let above : lt (key_bytes key) (key_bytes next) ≡ false = ap (lt (key_bytes key)) prefix ∙ is.none_above r there a in
        false≢true (sym other ∙ (bytes_eq-Decides (key_bytes next) (key_bytes key)).1 (neither (key_bytes next) (key_bytes key) not_below above)))))

    by : (b : Bool) → bytes_eq (key_bytes next) (key_bytes key) ≡ b → IsHeldUnder (key_bytes next) records (if b then held else set.empty)
    by true e = record { held_is = rw (same (key_bytes next) (key_bytes key) e) is.held_is; none_above = none }
    by false e = record { held_is = nothing e; none_above = none }

-- the next question was answered
pub answered_next : (prefix : Option (List ℕ)) (left new : List SliceKey) (Answered Next : Operations → Type 0)
    (held now : Operations) (records : List (List ℕ)) (key : SliceKey)
    → first_key left ≡ Some key → new ≡ drop 1 left → length (key_bytes key) ≡ 24 → is_passed key prefix ≡ true
    → now ≡ (if is_first (key_bytes key) new then held else set.empty)
    → ((o : Operations) → AnswersAs key held o → Answered o → Next o)
    → AreAsked (Begins prefix) left Answered held records → AreAsked (Begins prefix) new Next now records
answered_next prefix [] new Answered Next held now records key first behind long passed now_is answers asked = cc
answered_next prefix (k ∷ keys) new Answered Next held now records key first behind long passed now_is answers asked =
    let is = asked.holds key first in
    record {
      in_order = rw behind (order_behind k keys asked.in_order);
      holds = λ next next_is. further keys next now (rw behind at next_is) (rw behind at now_is) is asked.in_order;
      answered = λ rest begins taken. answers (set_of (records ++ rest))
          (answers_as records rest key held long is taken.0
          (none_to_come records rest key prefix taken.1 passed begins)) (asked.answered rest begins taken);
    }
  where
    first_is : k ≡ key
    first_is = cc

    further : (ks : List SliceKey) (next : SliceKey) (now : Operations) → first_key ks ≡ Some next → now
        ≡ (if is_first (key_bytes key) ks then held else set.empty) → IsHeldUnder (key_bytes key) records held
        → AreInOrder (k ∷ ks)
        → IsHeldUnder (key_bytes next) records now
    further [] next now next_is now_is is sorted = cc
    further (n ∷ ns) next now next_is now_is is sorted =
        let same : n ≡ next = cc in
        let not_below : lt (key_bytes n) (key_bytes key) ≡ false = rw (← first_is) (order_first k n ns sorted) in
        rw (← same, now_is) (held_behind records key n held not_below is)

-- ---- one record more

-- a record that is borrowed tells which it is
pub borrowed_retires : (x : List ℕ) (key : SliceKey) (digest : Digest) → IsOperation (Retire key digest) → retirement_record key digest.0 ≡ x → Retires x
borrowed_retires x key digest is bytes = record { key = key; digest = digest.0; is_key = is.0; long = is.1; is = sym bytes }

pub borrowed_admits : (x slice : List ℕ) → IsValid slice → admission_record slice ≡ x → Admits x
borrowed_admits x slice valid bytes = record { slice = slice; valid = valid; is = sym bytes }

-- what may come after the record
behind_one : (MayCome : List (List ℕ) → Type 0) (Answered : Operations → Type 0) (records : List (List ℕ)) (x : List ℕ)
    → ((behind : List (List ℕ)) → MayCome behind → MakeThemselves Archive_text (records ++ behind) → Answered (set_of (records ++ behind)))
    → ((behind : List (List ℕ)) → MayCome (x ∷ behind))
    → (behind : List (List ℕ)) → ⊤ → MakeThemselves Archive_text ((records ++ x ∷ []) ++ behind) → Answered (set_of ((records ++ x ∷ []) ++ behind))
behind_one MayCome Answered records x answered may behind _ taken =
    rw (append_assoc records (x ∷ []) behind) (answered (x ∷ behind) (may behind) (rw (append_assoc records (x ∷ []) behind) at taken))

-- with one record more, under no greater key
held_more : (prefix : List ℕ) (records : List (List ℕ)) (x : List ℕ) (held now : Operations)
    → IsHeldUnder prefix records held → now ≡ part (set_of (records ++ x ∷ [])) (admits_under prefix)
    → (is_admission x ≡ true → lt prefix (prefix_of x) ≡ false)
    → IsHeldUnder prefix (records ++ x ∷ []) now
held_more prefix records x held now is now_is not_above = record {
  held_is = now_is;
  none_above = λ r there a. elim (Contains-push_cases records x r there) [
    | inl c ↦ is.none_above r c a
    | inr e ↦ rw (← e) (not_above (ap is_admission e ∙ a))
  ];
}

-- a record that is not held
held_still : (prefix : List ℕ) (records : List (List ℕ)) (x : List ℕ) (held : Operations)
    → IsHeldUnder prefix records held → admits_under prefix x ≡ false
    → (is_admission x ≡ true → lt prefix (prefix_of x) ≡ false)
    → IsHeldUnder prefix (records ++ x ∷ []) held
held_still prefix records x held is other not_above = held_more prefix records x held held is
    (unpicked_more (admits_under prefix) records x held is.held_is other) not_above

-- a retirement
pub retirement_more : (left : List SliceKey) (Answered : Operations → Type 0) (held : Operations) (records : List (List ℕ)) (x : List ℕ) → Retires x
    → AreAsked (λ _. ⊤) left Answered held records → AreAsked (λ _. ⊤) left Answered held (records ++ x ∷ [])
retirement_more left Answered held records x retires asked =
    let no_admission : is_admission x ≡ false = ap is_admission retires.is in
    record {
      in_order = asked.in_order;
      holds = λ key first. held_still (key_bytes key) records x held (asked.holds key first)
          (ap (λ b. b && bytes_eq (key_bytes key) (prefix_of x)) no_admission) (λ a. cc);
      answered = behind_one (λ _. ⊤) Answered records x asked.answered (λ _. tt);
    }

-- what was known before an admission, with what may come narrowed to what begins with it
pub asked_before : (left : List SliceKey) (Answered : Operations → Type 0) (held : Operations) (records : List (List ℕ))
    (prefix : Option (List ℕ)) → AreAsked (λ _. ⊤) left Answered held records
    → AreAsked (Begins prefix) left Answered held records
asked_before left Answered held records prefix asked =
    record { in_order = asked.in_order; holds = asked.holds; answered = λ rest _ taken. asked.answered rest tt taken }

is_first_of : (prefix : List ℕ) (ks : List SliceKey) (key : SliceKey) → first_key ks ≡ Some key → is_first prefix ks ≡ bytes_eq (key_bytes key) prefix
is_first_of prefix [] key e = cc
is_first_of prefix (k ∷ ks) key e = cc

pub admission_is : (x : List ℕ) → Admits x → is_admission x ≡ true
admission_is x a = ap is_admission a.is

module _ (left : List SliceKey) (Answered : Operations → Type 0) (held : Operations) (records : List (List ℕ))
    (x : List ℕ) (is : Admits x) (asked : AreAsked (Begins (Some (prefix_of x))) left Answered held records)
    (passed : ForSome (first_key left) (λ key. is_passed key (Some (prefix_of x)) ≡ false)) where
  behind : (rest : List (List ℕ)) → ⊤ → MakeThemselves Archive_text ((records ++ x ∷ []) ++ rest) → Answered (set_of ((records ++ x ∷ []) ++ rest))
  behind = behind_one (Begins (Some (prefix_of x))) Answered records x asked.answered (λ rest. (x, rest, refl, admission_is x is, refl))

  -- an admission that is not under the next key
  pub admission_other : is_first (prefix_of x) left ≡ false → AreAsked (λ _. ⊤) left Answered held (records ++ x ∷ [])
  admission_other other = record {
    in_order = asked.in_order;
    holds = λ key first. held_still (key_bytes key) records x held (asked.holds key first)
        (rw (admission_is x is) (sym (is_first_of (prefix_of x) left key first) ∙ other)) (λ _. passed key first);
    answered = behind;
  }

  -- an admission under it
  pub admission_held : is_first (prefix_of x) left ≡ true → MakeThemselves Archive_text (records ++ x ∷ [])
      → (now : Operations) → now ≡ with_record held x → AreAsked (λ _. ⊤) left Answered now (records ++ x ∷ [])
  admission_held next apart now more = record {
    in_order = asked.in_order;
    holds = λ key first.
        let h = asked.holds key first in
        let under = and_from _ _ (admission_is x is) (sym (is_first_of (prefix_of x) left key first) ∙ next) in
        held_more (key_bytes key) records x held now h
        (picked_more (admits_under (key_bytes key)) records x held h.held_is under apart now more)
        (λ _. passed key first);
    answered = behind;
  }

-- ---- the first record, and the last one

-- questions to no records
pub asked_first : (left : List SliceKey) (Answered : Operations → Type 0) (held : Operations) → AreInOrder left
    → ((o : Operations) → Answered o) → held ≡ set.empty → AreAsked (λ _. ⊤) left Answered held []
asked_first left Answered held sorted answered none = record {
  in_order = sorted;
  holds = λ key _. record { held_is = part_start (admits_under (key_bytes key)) held none; none_above = λ r there _. absurd (omega (arith, there.1)) };
  answered = λ rest _ _. answered (set_of rest);
}

-- where no question is left, what was answered is what the records answer
pub asked_last : (left : List SliceKey) (Answered : Operations → Type 0) (held : Operations) (records : List (List ℕ))
    → AreAsked (Begins None) left Answered held records → MakeThemselves Archive_text records
    → ForSome (first_key left) (λ key. is_passed key None ≡ false) → (left ≡ []) × Answered (set_of records)
asked_last [] Answered held records asked taken none =
    (refl, rw (append-nil records) at (asked.answered [] refl (rw (append-nil records) taken)))
asked_last (key ∷ keys) Answered held records asked taken none = absurd (cc (none key refl))
