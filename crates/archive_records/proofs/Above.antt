-- Whether a record may stand after the one that it was read over.
use Rattle.std.proofs.Common.{◌≡◌, ℕ, ◌≤◌, Bool, List, [], ◌∷◌, ◌++◌, length, take, drop, Option, None, Some, Result}
use Rattle.std.proofs.Common.{Ok, Err, refl, sym, ap, ◌∙◌, arith, length-take, take-append-drop}
use Rattle.std.proofs.lemmas.List.{append-nil, take_all}
use Rattle.std.proofs.Math.ListN.{drop_of_length-le}
use Rattle.std.specs.declared.cmp.Ordering.{Ordering}
use Rattle.std.specs.declared.cmp.Ordering.TheVariants.{Less, Equal, Greater}
use Rattle.std.specs.Ordering.{nat_cmp, ordering_then, is_lt}
use Rattle.std.specs.Prelude.{MatchResult}
use Rattle.std.specs.Cmp.Lexicographic.{slice_cmp}
use Rattle.archive_records.specs.declared.fault.RecordFaultKind.{RecordFaultKind}
use Rattle.archive_records.specs.Layout.{framed}
use Rattle.archive_records.specs.Kind.{allows, may_follow}
use Rattle.archive_records.specs.Fault.{tested, next}
use Rattle.archive_records.proofs.Holds.{next_from_test}
use Rattle.archive_records.specs.declared.buffer.Buffer.{Buffer}
use Rattle.archive_core.specs.Record.{admission_record}
use Rattle.archive_records.specs.Reader.{bytes_so_far, seen_as, Over, last_after, order_after}
use Rattle.archive_records.proofs.Fills.{cmp_parts, length-bytes_so_far}
use Rattle.archive_records.specs.declared.format.Format.{Format}
use Rattle.archive_records.specs.declared.format.Format.TheVariants.{Operations}

not_less : (o : Ordering) (xs : List ℕ) → is_lt (ordering_then o (slice_cmp nat_cmp xs [])) ≡ is_lt o
not_less Less xs = refl
not_less Equal [] = refl
not_less Equal (x ∷ xs) = refl
not_less Greater xs = refl

not_after : (file : Format) (o : Ordering) (xs : List ℕ) → allows file (ordering_then o (slice_cmp nat_cmp xs [])) ≡ allows file o
unfolding allows
not_after Operations o xs = refl
not_after _ o xs = not_less o xs

module _ (file : Format) where
  -- What is left of the last record changes nothing.
  pub allowed_is : (last : List ℕ) (b : Buffer) → b.at ≤ length b.bytes.items → Over last b → allows file b.order ≡ may_follow file last (bytes_so_far b)
  unfolding may_follow
  allowed_is last b le o =
      let parts : slice_cmp nat_cmp (take b.at last ++ drop b.at last) (bytes_so_far b ++ [])
      ≡ ordering_then (slice_cmp nat_cmp (take b.at last) (bytes_so_far b))
      (slice_cmp nat_cmp (drop b.at last) []) =
      cmp_parts (take b.at last) (drop b.at last) (bytes_so_far b) [] (omega (arith, length-take b.at last, length-bytes_so_far b le))
      (λ lt. drop_of_length-le last (omega (arith, length-take b.at last, length-bytes_so_far b le))) in
      let whole : slice_cmp nat_cmp last (bytes_so_far b)
      ≡ ordering_then (slice_cmp nat_cmp (take b.at last) (bytes_so_far b))
      (slice_cmp nat_cmp (drop b.at last) []) =
      ap (λ (t : List ℕ). slice_cmp nat_cmp t (bytes_so_far b)) (sym (take-append-drop b.at last))
      ∙ ap (slice_cmp nat_cmp (take b.at last ++ drop b.at last)) (sym (append-nil (bytes_so_far b))) ∙ parts in
      ap (allows file) o.order ∙ sym (not_after file (slice_cmp nat_cmp (take b.at last) (bytes_so_far b)) (drop b.at last)) ∙ ap (allows file) (sym whole)

  -- the same where its slice was taken out of the buffer
  pub allowed_after : (taken : Option (List ℕ)) (last : List ℕ) (b whole : Buffer) → whole.order ≡ b.order
      → whole.bytes.items ≡ bytes_so_far b → b.at ≤ length b.bytes.items → Over last b
      → allows file (order_after taken whole) ≡ may_follow file (last_after taken last) (bytes_so_far b)
  unfolding may_follow
  allowed_after None last b whole order is le o = ap (allows file) order ∙ allowed_is last b le o
  allowed_after (Some slice) last b whole order is le o = ap (λ (t : List ℕ). allows file (slice_cmp nat_cmp (admission_record slice) t)) is

  pub next_over : (r : Result Bool RecordFaultKind) (last : List ℕ) (count : ℕ) (b : Buffer) (bytes new : List ℕ)
      (allowed : Bool) → b.at ≤ length b.bytes.items → framed file (bytes_so_far b) ≡ Ok b.at
      → allowed ≡ may_follow file last (bytes_so_far b) → bytes ≡ new → new ≡ bytes_so_far b
      → ((low : List ℕ) → allowed ≡ may_follow file low bytes
      → MatchResult r (λ _. tested file low count bytes (length bytes) ≡ Ok (length bytes))
      (λ kind. tested file low count bytes (length bytes) ≡ Err (seen_as kind)))
      → MatchResult r (λ _. next file last count (take b.at new) ≡ Ok (length (take b.at new)))
      (λ kind. next file last count (take b.at new) ≡ Err (seen_as kind))
  next_over r last count b bytes new allowed le f a is n t =
      let l : length (bytes_so_far b) ≡ b.at = length-bytes_so_far b le in
      let same : take b.at new ≡ bytes_so_far b = ap (take b.at) n ∙ take_all b.at (bytes_so_far b) (omega arith) in
      let here : bytes ≡ take b.at new = is ∙ n ∙ sym same in
      let whole : framed file (take b.at new) ≡ Ok (length (take b.at new)) = ap (framed file) same ∙ f ∙ ap (λ (k : ℕ). Ok k) (sym (ap length same ∙ l)) in
      next_from_test file r last count (take b.at new) bytes whole here (t last (a ∙ ap (may_follow file last) (sym (is ∙ n))))
