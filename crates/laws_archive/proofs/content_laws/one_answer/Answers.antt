use Rattle.std.proofs.Common.{◌≡◌, ℕ, List, [], ◌∷◌, length, Option, Some, None, MatchOption, refl, sym, ap, ◌∙◌, subst, arith, option_map}
use Rattle.std.specs.List.{AllZip}
use Rattle.sha2.specs.Sha256.{sha256}
use Rattle.macho_symbols.specs.Symbols.{Tuple}
use Rattle.macho_symbols.specs.Nearest.{IsNearest}
use Rattle.macho_symbols.specs.Found.{FoundRecord, found_of, FindsNearest}
use Rattle.archive_core.specs.Content.{Operations}
use Rattle.archive_core.specs.Lookup.{file_address, IsOwn, OwnRow, IsOwnRow, AnswerRecord, Unanswered, Alone, Disputed, IsAnswerOf, IsAnswer}
use Rattle.archive_core.specs.declared.keys.SliceKey.{SliceKey}
use Rattle.archive_core.specs.declared.lookup.Where.{Where}
use Rattle.laws_archive.proofs.Answerers.{some_answering}
use Rattle.laws_archive.proofs.Given.{one_zipped}
use Rattle.command_queries.proofs.AnswersWithFrames.{one_answering}
use Rattle.laws_archive.proofs.content_laws.one_answer.Goals as goal

module _ (one : (image : List ℕ) (address : ℕ) (found other : Option Tuple) → IsNearest image address found
    → IsNearest image address other → found ≡ other) where
  -- a slice tells one thing of a place
  one_own : (slice : List ℕ) (at : Option ℕ) (f g : Option FoundRecord)
      → MatchOption at (f ≡ None) (λ address. FindsNearest slice address f) → MatchOption at (g ≡ None) (λ address. FindsNearest slice address g) → f ≡ g
  one_own slice None f g a b = a ∙ sym b
  one_own slice (Some address) f g a b = a.2 ∙ ap (option_map (found_of slice address)) (one slice address a.0 b.0 a.1 b.1) ∙ sym b.2

  one_row : (asked : Where) (slice : List ℕ) (row other : OwnRow) → IsOwnRow asked slice row → IsOwnRow asked slice other → row ≡ other
  one_row asked slice row other a b =
      let digest : row.digest ≡ other.digest = a.digest_is ∙ sym b.digest_is in
      let own = one_own slice (file_address slice asked) row.own other.own a.own_is b.own_is in
      λ i. record { digest = digest i; own = own i }

  one_answer_of : (asked : Where) (slices : List (List ℕ)) (answer other : AnswerRecord)
      → IsAnswerOf asked slices answer → IsAnswerOf asked slices other → answer ≡ other
  one_answer_of asked slices Unanswered Unanswered a b = refl
  one_answer_of asked slices Unanswered (Alone own) a b = cc (sym a ∙ b.1)
  one_answer_of asked slices Unanswered (Disputed rows) a b = absurd (omega (arith, ap length a, b.0))
  one_answer_of asked slices (Alone own) Unanswered a b = cc (sym b ∙ a.1)
  one_answer_of asked slices (Alone own) (Alone more) a b =
      let same : a.0 ≡ b.0 = cc (sym a.1 ∙ b.1) in
      ap Alone (one_own a.0 (file_address a.0 asked) own more a.2 (subst (λ s. IsOwn s asked more) (sym same) b.2))
  one_answer_of asked slices (Alone own) (Disputed rows) a b = absurd (omega (arith, ap length a.1, b.0))
  one_answer_of asked slices (Disputed rows) Unanswered a b = absurd (omega (arith, ap length b, a.0))
  one_answer_of asked slices (Disputed rows) (Alone own) a b = absurd (omega (arith, ap length b.1, a.0))
  one_answer_of asked slices (Disputed rows) (Disputed others) a b =
      ap Disputed (one_zipped (IsOwnRow asked) (IsOwnRow asked) (one_row asked) slices rows others a.1 b.1)

  one_answer : (o : Operations) (key : SliceKey) (asked : Where) (answer other : AnswerRecord)
      → IsAnswer o key asked answer → IsAnswer o key asked other → answer ≡ other
  one_answer o key asked answer other a b =
      let same = one_answering o key a.slices b.slices a.answering b.answering in
      one_answer_of asked a.slices answer other a.answer_is (subst (λ slices. IsAnswerOf asked slices other) (sym same) b.answer_is)

module _ (near : (image : List ℕ) (address : ℕ) → (found : Option Tuple) × IsNearest image address found) where
  -- each slice tells something of each place
  some_own : (slice : List ℕ) (at : Option ℕ) → (own : Option FoundRecord) × MatchOption at (own ≡ None) (λ address. FindsNearest slice address own)
  some_own slice None = (None, refl)
  some_own slice (Some address) = let nearest = near slice address in (option_map (found_of slice address) nearest.0, (nearest.0, nearest.1, refl))

  some_row : (asked : Where) (slice : List ℕ) → (row : OwnRow) × IsOwnRow asked slice row
  some_row asked slice =
      let own = some_own slice (file_address slice asked) in
      (record { digest = sha256 slice; own = own.0 }, record { digest_is = refl; own_is = own.1 })

  some_rows : (asked : Where) (slices : List (List ℕ)) → (rows : List OwnRow) × AllZip (IsOwnRow asked) slices rows
  some_rows asked [] = ([], tt)
  some_rows asked (s ∷ slices) =
      let first = some_row asked s in
      let rest = some_rows asked slices in
      (first.0 ∷ rest.0, (first.1, rest.1))

  some_answer_of : (asked : Where) (slices : List (List ℕ)) → (answer : AnswerRecord) × IsAnswerOf asked slices answer
  some_answer_of asked [] = (Unanswered, refl)
  some_answer_of asked (s ∷ []) = let own = some_own s (file_address s asked) in (Alone own.0, (s, refl, own.1))
  some_answer_of asked (s ∷ t ∷ slices) = let rows = some_rows asked (s ∷ t ∷ slices) in (Disputed rows.0, (omega arith, rows.1))

  some_answer : (o : Operations) (key : SliceKey) (asked : Where) → (answer : AnswerRecord) × IsAnswer o key asked answer
  some_answer o key asked =
      let answering = some_answering o key in
      let told = some_answer_of asked answering.0 in
      (told.0, record { slices = answering.0; answering = answering.1; answer_is = told.1 })

pub returns : goal.returns
returns c = record { some = some_answer c.one_nearest.ensures.some; one = one_answer c.one_nearest.ensures.one }
