-- Each text has one content, or one fault.
use Rattle.std.proofs.Common.{◌≡◌, ◌≢◌, ℕ, ◌<◌, ◌≤◌, ◌^◌, true, List, [], ◌∷◌, ◌++◌, length, Ok, get_or, take, drop}
use Rattle.std.proofs.Common.{refl, sym, ap, ◌∙◌, subst, arith, inl, inr, append_assoc, length-append, lit≤}
use Rattle.std.proofs.lemmas.List.{append-nil, take-append-le, append_cancel_left, take-take, get_or-take}
use Rattle.std.specs.List.{concat}
use Rattle.archive_records.specs.declared.fault.RecordFaultKind.{RecordFaultKind}
use Rattle.archive_records.specs.declared.fault.RecordFaultKind.TheVariants.{BadMagic, Truncated, BadSlice, KeyMismatch, Trailing, Covered}
use Rattle.archive_records.specs.declared.fault.RecordFault.{RecordFault}
use Rattle.archive_records.specs.Kind.{magic_of}
use Rattle.archive_records.specs.Text.{end_record, ending, text_of, InOrder, AreApart, last_of}
use Rattle.archive_records.specs.Fault.{is_end, next, FailsNext, IsCoveredNext, FailsBehind, Fails, IsTrailing}
use Rattle.archive_records.specs.Fault.{RefusesSlice, Refuses, IsMagicFault, IsUnended, IsFaultAfter, IsFaultOf}
use Rattle.archive_records.specs.Front.{IsGoodFront, IsLongestFront}
use Rattle.archive_records.proofs.SliceFacts.{no_slice_fault, one_slice_fault}
use Rattle.archive_records.proofs.Formats.{length-magic}
use Rattle.archive_records.proofs.Holds.{holds}
use Rattle.archive_records.proofs.Forms.{item-framed, refused_slice}
use Rattle.archive_records.proofs.Grown.{no_both, next-ok-grows}
use Rattle.archive_records.proofs.Longest.{Takes, Goes, fault-stops, end-stops, one_taken, unique, behind_magic, is_longest}
use Rattle.archive_records.proofs.Apart.{covered_apart}
use Rattle.archive_records.proofs.Ends.{is_three, length-end_record, next_end}
use Rattle.archive_records.specs.declared.format.Format.{Format}
use Rattle.archive_records.specs.declared.format.Format.TheVariants.{Archive, Operations as Operations_file}

-- a refused slice is an admission's
refused_tag : (r : List ℕ) (kind : RecordFaultKind) → RefusesSlice r kind → get_or r 0 0 ≡ 2
refused_tag r kind f = grind arith

one_refusal : (r : List ℕ) (j k : RecordFaultKind) → RefusesSlice r j → RefusesSlice r k → j ≡ k
one_refusal r (BadSlice f) (BadSlice g) a b = let e = one_slice_fault (drop 33 r) f g a.1 b.1 in λ i. BadSlice (e i)
one_refusal r (BadSlice f) KeyMismatch a b = absurd (no_slice_fault (drop 33 r) f b.1 a.1)
one_refusal r KeyMismatch (BadSlice g) a b = absurd (no_slice_fault (drop 33 r) g a.1 b.1)
one_refusal r KeyMismatch KeyMismatch a b = refl
one_refusal r (BadSlice f) k a b = absurd b
one_refusal r KeyMismatch k a b = absurd b
one_refusal r j k a b = absurd a

fault_eq : (f g : RecordFault) → f.kind ≡ g.kind → f.offset ≡ g.offset → f ≡ g
fault_eq f g k o = λ i. record { kind = k i; offset = o i }

end_more : (n : ℕ) (more : List ℕ) → is_end (end_record n ++ more) ≡ true
unfolding is_end end_record
end_more n more = refl

-- ---- what ends a file

length-ending : (file : Format) (n : ℕ) → length (ending file n) ≤ 9
length-ending Operations_file n = lit≤ tt
length-ending _ n = omega (arith, length-end_record n)

nothing_taken : (file : Format) (low : List ℕ) → Takes file low [] → ⊥
nothing_taken file low t = omega (arith, (holds file t.item (length t.item) (item-framed file t.item t.is)).one, ap length t.whole, length-append t.item t.more)

-- no record begins with it; in an operations file nothing stands after it
ending_stops : (file : Format) (low : List ℕ) (n : ℕ) (more : List ℕ) → (file ≡ Operations_file → more ≡ []) → Takes file low (ending file n ++ more) → ⊥
ending_stops Operations_file low n more alone t = nothing_taken Operations_file low (subst (Takes Operations_file low) (alone refl) t)
ending_stops file low n more alone t = end-stops file low (end_record n ++ more) (end_more n more) t

-- where an end record stands no test fails
end_fails : (file : Format) (low : List ℕ) (count : ℕ) (rest : List ℕ) (kind : RecordFaultKind)
    → next file low count rest ≡ Ok 9 → is_end rest ≡ true → FailsNext file low count rest kind → ⊥
end_fails file low count rest kind whole end (inl e) = no_both 9 kind (sym whole ∙ e)
end_fails file low count rest kind whole end (inr f) =
    let nine : f.0 ≡ 9 = cc (f.1, whole) in
    let two = refused_tag (take f.0 rest) kind (refused_slice file (take f.0 rest) kind f.2) in
    let same : get_or (take f.0 rest) 0 0 ≡ get_or rest 0 0 = get_or-take f.0 rest 0 0 (omega arith) in
    omega (arith, is_three rest end)

no_fails : (file : Format) (low : List ℕ) (n : ℕ) (more : List ℕ) (kind : RecordFaultKind)
    → (file ≢ Operations_file → n < 2 ^ 64) → (file ≡ Operations_file → more ≡ [])
    → IsUnended file (ending file n ++ more) → FailsNext file low n (ending file n ++ more) kind → ⊥
no_fails Operations_file low n more kind few alone unended f = unended (alone refl)
no_fails file low n more kind few alone unended f = end_fails file low n (end_record n ++ more) kind
    (next-ok-grows file low n (end_record n) more 9 (next_end file refl low n (few (λ h. cc)))) (end_more n more) f

-- what is covered stands there
abbrev takes_covered : (records : List (List ℕ)) (rest : List ℕ) → IsCoveredNext records rest → Takes Archive (last_of [] records) rest
takes_covered records rest c = record { item = c.item; more = c.more; whole = c.whole; is = c.is; above = c.above }

covered_behind : (file : Format) (records : List (List ℕ)) (rest : List ℕ) (kind : RecordFaultKind)
    → FailsBehind file records rest kind → Takes file (last_of [] records) rest
covered_behind Archive records rest kind f = takes_covered records rest f.1
covered_behind _ records rest kind f = absurd f

covered_kind : (file : Format) (records : List (List ℕ)) (rest : List ℕ) (kind : RecordFaultKind) → FailsBehind file records rest kind → kind ≡ Covered
covered_kind file records rest kind f = grind arith

-- and no good front goes on with it
covered_stops : (file : Format) (records : List (List ℕ)) (rest : List ℕ) (kind : RecordFaultKind)
    → FailsBehind file records rest kind → Goes file records rest → ⊥
covered_stops Archive records rest kind f g =
    let same : f.1.item ≡ g.next.item = one_taken Archive (last_of [] records) rest (takes_covered records rest f.1) g.next in
    covered_apart records f.1.item (subst (λ (x : List ℕ). AreApart Archive (records ++ x ∷ [])) (sym same) g.apart) f.1.covered
covered_stops _ records rest kind f g = absurd f

module _ (file : Format) where
  -- ---- the magic

  pub no_magic_fault : (t rest : List ℕ) (kind : RecordFaultKind) → t ≡ magic_of file ++ rest → IsMagicFault file t kind → ⊥
  no_magic_fault t rest BadMagic e b = b.3 (ap (take b.0) e ∙ take-append-le b.0 (magic_of file) rest (omega (arith, b.1, length-magic file)))
  no_magic_fault t rest Truncated e b = omega (arith, ap length e, length-append (magic_of file) rest, b.0, length-magic file)
  no_magic_fault t rest _ e b = b

  one_magic_fault : (t : List ℕ) (j k : RecordFaultKind) → IsMagicFault file t j → IsMagicFault file t k → j ≡ k
  one_magic_fault t BadMagic BadMagic a b = refl
  one_magic_fault t Truncated Truncated a b = refl
  one_magic_fault t BadMagic Truncated a b = absurd (a.3 (ap (take a.0) b.1 ∙ take-take a.0 (length t) (magic_of file) a.2))
  one_magic_fault t Truncated BadMagic a b = absurd (b.3 (ap (take b.0) a.1 ∙ take-take b.0 (length t) (magic_of file) b.2))
  one_magic_fault t BadMagic k a b = absurd b
  one_magic_fault t Truncated k a b = absurd b
  one_magic_fault t j k a b = absurd a

  -- ---- what stops after a good front

  pub fails_stop : (records : List (List ℕ)) (rest : List ℕ) (kind : RecordFaultKind) → Fails file records rest kind → Goes file records rest → ⊥
  fails_stop records rest kind (inl f) g = fault-stops file (last_of [] records) (length records) rest kind f g.next
  fails_stop records rest kind (inr f) g = covered_stops file records rest kind f g

  behind_stops : (records : List (List ℕ)) (rest : List ℕ) (fault : RecordFault) → IsFaultAfter file records rest fault → Goes file records rest → ⊥
  behind_stops records rest fault (inl f) g = fails_stop records rest fault.kind f.0 g
  behind_stops records rest fault (inr t) g = end-stops file (last_of [] records) rest t.1.end g.next

  -- a fault after a good front stands at the end of the longest
  pub fault_longest : (text : List ℕ) (records : List (List ℕ)) (front : IsGoodFront file text records)
      (fault : RecordFault) → IsFaultAfter file records front.rest fault → IsLongestFront file text records
  fault_longest text records front fault f = is_longest file text records front (behind_stops records front.rest fault f)

  same_kind : (last : List ℕ) (count : ℕ) (rest : List ℕ) (j k : RecordFaultKind) → FailsNext file last count rest j → FailsNext file last count rest k → j ≡ k
  same_kind last count rest j k (inl a) (inl b) = cc (a, b)
  same_kind last count rest j k (inl a) (inr b) = absurd (no_both b.0 j (sym b.1 ∙ a))
  same_kind last count rest j k (inr a) (inl b) = absurd (no_both a.0 k (sym a.1 ∙ b))
  same_kind last count rest j k (inr a) (inr b) =
      let n : a.0 ≡ b.0 = cc (a.1, b.1) in
      one_refusal (take b.0 rest) j k (refused_slice file (take b.0 rest) j
      (subst (λ (m : ℕ). Refuses file (take m rest) j) n a.2)) (refused_slice file (take b.0 rest) k b.2)

  same_fails : (records : List (List ℕ)) (rest : List ℕ) (j k : RecordFaultKind) → Fails file records rest j → Fails file records rest k → j ≡ k
  same_fails records rest j k (inl a) (inl b) = same_kind (last_of [] records) (length records) rest j k a b
  same_fails records rest j k (inl a) (inr b) = absurd (fault-stops file (last_of [] records) (length records) rest j a (covered_behind file records rest k b))
  same_fails records rest j k (inr a) (inl b) = absurd (fault-stops file (last_of [] records) (length records) rest k b (covered_behind file records rest j a))
  same_fails records rest j k (inr a) (inr b) = covered_kind file records rest j a ∙ sym (covered_kind file records rest k b)

  fails_and_more : (records : List (List ℕ)) (rest : List ℕ) (kind : RecordFaultKind) → Fails file records rest kind
      → IsTrailing file (last_of [] records) (length records) rest → ⊥
  fails_and_more records rest kind (inl a) t = end_fails file (last_of [] records) (length records) rest kind t.whole t.end a
  fails_and_more records rest kind (inr a) t = end-stops file (last_of [] records) rest t.end (covered_behind file records rest kind a)

  one_behind : (records : List (List ℕ)) (rest : List ℕ) (f g : RecordFault) → IsFaultAfter file records rest f → IsFaultAfter file records rest g → f ≡ g
  one_behind records rest f g (inl a) (inl b) = fault_eq f g (same_fails records rest f.kind g.kind a.0 b.0) (a.1 ∙ sym b.1)
  one_behind records rest f g (inl a) (inr b) = absurd (fails_and_more records rest f.kind a.0 b.1)
  one_behind records rest f g (inr a) (inl b) = absurd (fails_and_more records rest g.kind b.0 a.1)
  one_behind records rest f g (inr a) (inr b) = fault_eq f g (a.0 ∙ sym b.0) (a.2 ∙ sym b.2)

  pub one_fault : (t : List ℕ) (f g : RecordFault) → IsFaultOf file t f → IsFaultOf file t g → f ≡ g
  one_fault t f g (inl a) (inl b) = fault_eq f g (one_magic_fault t f.kind g.kind a.0 b.0) (a.1 ∙ sym b.1)
  one_fault t f g (inl a) (inr b) = absurd (no_magic_fault t (concat b.0 ++ b.1.rest) f.kind b.1.whole a.0)
  one_fault t f g (inr a) (inl b) = absurd (no_magic_fault t (concat a.0 ++ a.1.rest) g.kind a.1.whole b.0)
  one_fault t f g (inr a) (inr b) =
      let same = unique file a.0 b.0 a.1.rest b.1.rest a.1.ordered a.1.apart b.1.ordered b.1.apart
      (behind_magic file t (concat a.0 ++ a.1.rest) (concat b.0 ++ b.1.rest) a.1.whole b.1.whole)
      (behind_stops a.0 a.1.rest f a.3) (behind_stops b.0 b.1.rest g b.3) in
      let here : IsFaultAfter file b.0 b.1.rest f = subst (λ (x : List ℕ). IsFaultAfter file b.0 x f) same.1
      (subst (λ (x : List (List ℕ)). IsFaultAfter file x a.1.rest f) same.0 a.3) in
      one_behind b.0 b.1.rest f g here b.3

  -- ---- a text, and what stands after it

  module _ (t : List ℕ) (xs : List (List ℕ)) (more : List ℕ) (ordered : InOrder file [] xs) (apart : AreApart file xs)
      (text : t ≡ text_of file xs ++ more) (alone : file ≡ Operations_file → more ≡ []) where
    whole : t ≡ magic_of file ++ (concat xs ++ (ending file (length xs) ++ more))
    whole = text ∙ append_assoc (magic_of file) (concat xs ++ ending file (length xs)) more
        ∙ ap (λ (x : List ℕ). magic_of file ++ x) (append_assoc (concat xs) (ending file (length xs)) more)

    same_front : (records : List (List ℕ)) (front : IsGoodFront file t records) → (Goes file records front.rest → ⊥)
        → (records ≡ xs) × (front.rest ≡ ending file (length xs) ++ more)
    same_front records front stop =
        unique file records xs front.rest (ending file (length xs) ++ more) front.ordered front.apart ordered apart
        (behind_magic file t (concat records ++ front.rest) (concat xs ++ (ending file (length xs) ++ more))
        front.whole whole) stop
        (λ g. ending_stops file (last_of [] xs) (length xs) more alone g.next)

    pub no_fault_behind : (records : List (List ℕ)) (front : IsGoodFront file t records) (fault : RecordFault)
        → (file ≢ Operations_file → length records ≡ length xs → length xs < 2 ^ 64)
        → (fault.kind ≡ Trailing → more ≡ []) → IsUnended file front.rest → IsFaultAfter file records front.rest fault
        → ⊥
    no_fault_behind records front fault few all unended (inl (inr c, o)) =
        let same = same_front records front (behind_stops records front.rest fault (inl (inr c, o))) in
        let here : Takes file (last_of [] xs) (ending file (length xs) ++ more) =
        subst (λ (r : List ℕ). Takes file (last_of [] xs) r) same.1
        (subst (λ (x : List (List ℕ)). Takes file (last_of [] x) front.rest) same.0
        (covered_behind file records front.rest fault.kind c)) in
        ending_stops file (last_of [] xs) (length xs) more alone here
    no_fault_behind records front fault few all unended (inl (inl f, o)) =
        let same = same_front records front (behind_stops records front.rest fault (inl (inl f, o))) in
        let here = subst (λ (r : List ℕ). FailsNext file (last_of [] xs) (length xs) r fault.kind) same.1
        (subst (λ (x : List (List ℕ)). FailsNext file (last_of [] x) (length x) front.rest fault.kind) same.0 f) in
        no_fails file (last_of [] xs) (length xs) more fault.kind (λ counts. few counts (ap length same.0)) alone (subst (IsUnended file) same.1 unended) here
    no_fault_behind records front fault few all unended (inr f) =
        let same = same_front records front (behind_stops records front.rest fault (inr f)) in
        omega (arith, f.1.more, ap length same.1, length-append (ending file (length xs)) more, ap length (all f.0), length-ending file (length xs))

    -- whatever follows them, no other records begin it
    pub same_records : (ys : List (List ℕ)) (left : List ℕ) → InOrder file [] ys → AreApart file ys
        → (file ≡ Operations_file → left ≡ []) → t ≡ text_of file ys ++ left → (ys ≡ xs) × (left ≡ more)
    same_records ys left a aa last e =
        let front : IsGoodFront file t ys = record {
          ordered = a;
          apart = aa;
          rest = ending file (length ys) ++ left;
          whole = e ∙ append_assoc (magic_of file) (concat ys ++ ending file (length ys)) left
              ∙ ap (λ (x : List ℕ). magic_of file ++ x) (append_assoc (concat ys) (ending file (length ys)) left);
        } in
        let same = same_front ys front (λ g. ending_stops file (last_of [] ys) (length ys) left last g.next) in
        let tail : ending file (length ys) ++ left ≡ ending file (length ys) ++ more = same.1
        ∙ ap (λ (x : List (List ℕ)). ending file (length x) ++ more) (sym same.0) in
        (same.0, append_cancel_left (ending file (length ys)) left more tail)

  -- a text is that of one list of records
  pub one_text : (t : List ℕ) (xs ys : List (List ℕ)) → InOrder file [] xs → AreApart file xs → InOrder file [] ys
      → AreApart file ys → t ≡ text_of file xs → t ≡ text_of file ys → xs ≡ ys
  one_text t xs ys a aa b bb p q = (same_records t ys [] b bb (q ∙ sym (append-nil (text_of file ys))) (λ _. refl) xs []
      a aa (λ _. refl) (p ∙ sym (append-nil (text_of file xs)))).0

  -- a text has no fault
  pub no_fault : (t : List ℕ) (xs : List (List ℕ)) → InOrder file [] xs → AreApart file xs → t ≡ text_of file xs
      → (fault : RecordFault) → length xs < 2 ^ 64 → IsFaultOf file t fault → ⊥
  no_fault t xs ordered apart text fault few (inl m) = no_magic_fault t (concat xs ++ ending file (length xs)) fault.kind text m.0
  no_fault t xs ordered apart text fault few (inr f) =
      no_fault_behind t xs [] ordered apart (text ∙ sym (append-nil (text_of file xs))) (λ _. refl) f.0 f.1 fault
      (λ _ _. few) (λ _. refl) f.2 f.3
