-- The longest good front.
use Rattle.std.proofs.Common.{◌≡◌, ℕ, ◌≤◌, true, false, eqb, List, [], ◌∷◌, ◌++◌, length, take, Ok, refl, sym, ap, ◌∙◌}
use Rattle.std.proofs.Common.{subst, arith, inl, inr, append_assoc, length-append}
use Rattle.std.proofs.lemmas.List.{append-nil, take_at, append_cancel_left}
use Rattle.std.proofs.lemmas.List.Folds.{concat-append}
use Rattle.std.proofs.lemmas.Bool.{false≢true}
use Rattle.std.specs.List.{concat}
use Rattle.archive_records.specs.declared.fault.RecordFaultKind.{RecordFaultKind}
use Rattle.archive_records.specs.Layout.{head_length, body_length, framed}
use Rattle.archive_records.specs.Kind.{magic_of, IsItem, may_follow}
use Rattle.archive_records.specs.Text.{InOrder, AreApart, last_of}
use Rattle.archive_records.specs.Fault.{is_end, tested, next, FailsNext, Refuses}
use Rattle.archive_records.specs.Front.{IsGoodFront, IsLongestFront}
use Rattle.archive_records.proofs.Apart.{apart_part}
use Rattle.archive_records.proofs.Framed.{same_tag, same_body, framed-whole}
use Rattle.archive_records.proofs.Holds.{holds, done, next-is}
use Rattle.archive_records.proofs.Forms.{item-framed, item-no_end, item-refused}
use Rattle.archive_records.specs.declared.format.Format.{Format}
use Rattle.archive_core.proofs.Records.{same_parts}

-- what a front that stops has before another
pub record Before (xs ys : List (List ℕ)) (r s : List ℕ) : Type 0 where
  pub more : List (List ℕ)
  pub records : xs ≡ ys ++ more
  pub rest : s ≡ concat more ++ r

pub is_end-grows : (bytes more : List ℕ) → 1 ≤ length bytes → is_end (bytes ++ more) ≡ is_end bytes
unfolding is_end
is_end-grows bytes more le = ap (λ (t : ℕ). eqb t 3) (same_tag bytes more le)

no_more : (xs ys more less : List (List ℕ)) → xs ≡ ys ++ more → ys ≡ xs ++ less → more ≡ []
no_more xs ys [] less p q = refl
no_more xs ys (m ∷ more) less p q = absurd (omega (arith, ap length p, ap length q, length-append ys (m ∷ more), length-append xs less))

module _ (file : Format) where
  -- a record above low stands in front of the bytes
  pub record Takes (low : List ℕ) (bytes : List ℕ) : Type 0 where
    pub item : List ℕ
    pub more : List ℕ
    pub whole : bytes ≡ item ++ more
    pub is : IsItem file item
    pub above : may_follow file low item ≡ true

  -- ---- more bytes after

  pub framed-grows : (bytes more : List ℕ) (n : ℕ) → framed file bytes ≡ Ok n → framed file (bytes ++ more) ≡ Ok n
  framed-grows bytes more n e =
      let h = holds file bytes n e in
      let b : body_length file (bytes ++ more) ≡ body_length file bytes = same_body file bytes more h.head h.one h.tag h.long in
      let f = h.fits in
      let i = h.is in
      framed-whole file (bytes ++ more) h.head (omega (arith, length-append bytes more, h.one))
      (ap (head_length file) (same_tag bytes more h.one) ∙ h.tag) (omega (arith, length-append bytes more, h.long))
      (rw b h.small) (rw b (omega (arith, length-append bytes more))) ∙ ap done (rw b (sym i))

  -- a record above low is what comes next

  next-takes : (low : List ℕ) (count : ℕ) (item more : List ℕ) → IsItem file item → may_follow file low item ≡ true
      → next file low count (item ++ more) ≡ Ok (length item)
  unfolding tested
  next-takes low count item more is above =
      let whole = item-framed file item is in
      let h = holds file item (length item) whole in
      let e : is_end (item ++ more) ≡ false = is_end-grows item more h.one ∙ item-no_end file item is in
      let t : take (length item) (item ++ more) ≡ item = take_at item more (length item) refl in
      next-is file (item ++ more) (length item) low count (framed-grows item more (length item) whole) ∙ rw (e, t, above) refl

  -- where a test fails, no record stands
  pub fault-stops : (low : List ℕ) (count : ℕ) (bytes : List ℕ) (kind : RecordFaultKind) → FailsNext file low count bytes kind → Takes low bytes → ⊥
  fault-stops low count bytes kind (inl e) t = absurd (cc (sym (next-takes low count t.item t.more t.is t.above) ∙ sym (ap (next file low count) t.whole) ∙ e))
  fault-stops low count bytes kind (inr f) t =
      let here : next file low count bytes ≡ Ok (length t.item) = ap (next file low count) t.whole ∙ next-takes low count t.item t.more t.is t.above in
      let n : f.0 ≡ length t.item = cc (f.1, here) in
      let item : take f.0 bytes ≡ t.item = ap (take f.0) t.whole ∙ take_at t.item t.more f.0 (sym n) in
      item-refused file t.item kind t.is (subst (λ (x : List ℕ). Refuses file x kind) item f.2)

  -- nor where an end record does
  pub end-stops : (low : List ℕ) (bytes : List ℕ) → is_end bytes ≡ true → Takes low bytes → ⊥
  end-stops low bytes end t =
      let h = holds file t.item (length t.item) (item-framed file t.item t.is) in
      let e : is_end bytes ≡ false = ap is_end t.whole ∙ is_end-grows t.item t.more h.one ∙ item-no_end file t.item t.is in
      false≢true (sym e ∙ end)

  -- ---- two fronts

  same_length : (x y : List ℕ) (a b : List ℕ) → IsItem file x → IsItem file y → x ++ a ≡ y ++ b → length x ≡ length y
  same_length x y a b p q e =
      cc (framed-grows x a (length x) (item-framed file x p), ap (framed file) e, framed-grows y b (length y) (item-framed file y q))

  -- A front at whose end no record stands that the other goes on with is the longest.
  longest_by : (xs ys : List (List ℕ)) (low r s : List ℕ) → InOrder file low xs → InOrder file low ys → concat xs ++ r
      ≡ concat ys ++ s → ((k : Takes (last_of low xs) r) (more : List (List ℕ)) → ys ≡ xs ++ k.item ∷ more → ⊥)
      → Before xs ys r s
  longest_by xs [] low r s a b e stop = record { more = xs; records = refl; rest = sym e }
  longest_by [] (y ∷ ys) low r s a b e stop =
      absurd (stop (record { item = y; more = concat ys ++ s; whole = e ∙ append_assoc y (concat ys) s; is = b.0; above = b.1 }) ys refl)
  longest_by (x ∷ xs) (y ∷ ys) low r s a b e stop =
      let e' : x ++ (concat xs ++ r) ≡ y ++ (concat ys ++ s) = sym (append_assoc x (concat xs) r) ∙ e ∙ append_assoc y (concat ys) s in
      let both = same_parts x y (concat xs ++ r) (concat ys ++ s) (same_length x y (concat xs ++ r) (concat ys ++ s) a.0 b.0 e') e' in
      let rest : InOrder file x ys = subst (λ (t : List ℕ). InOrder file t ys) (sym both.0) b.2 in
      let n = longest_by xs ys x r s a.2 rest both.1 (λ k more is. stop k more (cc (both.0, is))) in
      record { more = n.more; records = cc (both.0, n.records); rest = n.rest }

  -- a record stands in front of the rest that a good front may have after these
  pub record Goes (records : List (List ℕ)) (rest : List ℕ) : Type 0 where
    pub next : Takes (last_of [] records) rest
    pub apart : AreApart file (records ++ next.item ∷ [])

  -- A front at whose end no such record stands is the longest: every other front begins it.
  pub longest : (xs ys : List (List ℕ)) (r s : List ℕ) → InOrder file [] xs → InOrder file [] ys → AreApart file ys
      → concat xs ++ r ≡ concat ys ++ s → (Goes xs r → ⊥) → Before xs ys r s
  longest xs ys r s a b c e stop = longest_by xs ys [] r s a b e (λ k more is. stop (record { next = k; apart = apart_part file ys xs k.item more is c }))

  -- two fronts that stop are one
  pub unique : (xs ys : List (List ℕ)) (r s : List ℕ) → InOrder file [] xs → AreApart file xs → InOrder file [] ys
      → AreApart file ys → concat xs ++ r ≡ concat ys ++ s → (Goes xs r → ⊥) → (Goes ys s → ⊥) → (xs ≡ ys) × (r ≡ s)
  unique xs ys r s a aa b bb e p q =
      let f = longest xs ys r s a b bb e p in
      let g = longest ys xs s r b a aa (sym e) q in
      let none = no_more xs ys f.more g.more f.records g.records in
      (f.records ∙ ap (λ (more : List (List ℕ)). ys ++ more) none ∙ append-nil ys, sym (f.rest ∙ ap (λ (more : List (List ℕ)). concat more ++ r) none))

  -- a record that is covered stands alone in front of the rest
  pub one_taken : (low bytes : List ℕ) (k t : Takes low bytes) → k.item ≡ t.item
  one_taken low bytes k t =
      let e : k.item ++ k.more ≡ t.item ++ t.more = sym k.whole ∙ t.whole in
      (same_parts k.item t.item k.more t.more (same_length k.item t.item k.more t.more k.is t.is e) e).0

  pub behind_magic : (t : List ℕ) (a b : List ℕ) → t ≡ magic_of file ++ a → t ≡ magic_of file ++ b → a ≡ b
  behind_magic t a b p q = append_cancel_left (magic_of file) a b (sym p ∙ q)

  -- the longest good front, by what stands at its end
  pub is_longest : (text : List ℕ) (records : List (List ℕ)) (f : IsGoodFront file text records) → (Goes records f.rest → ⊥) → IsLongestFront file text records
  is_longest text records f stop = record {
    front = f;
    longest = λ others g.
        let b = longest records others f.rest g.rest f.ordered g.ordered g.apart
        (behind_magic text (concat records ++ f.rest) (concat others ++ g.rest) f.whole g.whole) stop in
        omega (arith, ap length (ap concat b.records ∙ concat-append others b.more), length-append (concat others) (concat b.more));
  }
