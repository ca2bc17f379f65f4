-- What is told of addresses depends on the content alone: an answer's lines, and whether it is one symbol, do not depend on
-- where its names lie.
use Rattle.std.proofs.Common.{◌≡◌, ℕ, Bool, true, false, if◌then◌else◌, List, [], ◌∷◌, ◌++◌, map, length, codes, Option}
use Rattle.std.proofs.Common.{Some, None, MatchOption, refl, sym, ap, ◌∙◌, subst, decimal}
use Rattle.std.proofs.lemmas.List.{length-map}
use Rattle.std.proofs.lemmas.List.Folds.{flat_map-map, list_all-map}
use Rattle.std.specs.List.{AllByRecursion, flat_map, list_all}
use Rattle.macho_symbols.specs.Found.{FoundRecord}
use Rattle.archive_core.specs.Content.{Operations}
use Rattle.archive_core.specs.Lookup.{OwnRow, AnswerRecord, Unanswered, Alone, Disputed, IsAnswer, file_address, own_view, own_row, answer_view}
use Rattle.archive_core.specs.declared.keys.Digest.{Digest}
use Rattle.archive_core.specs.declared.keys.SliceKey.{SliceKey}
use Rattle.archive_core.specs.declared.lookup.Own.{Own}
use Rattle.archive_core.specs.declared.lookup.Own.TheVariants.{NoSymbol as Own_NoSymbol, Symbol as Own_Symbol}
use Rattle.archive_core.specs.declared.lookup.Answer.{Answer}
use Rattle.archive_core.specs.declared.lookup.Answer.TheVariants.{Unknown, Conflict}
use Rattle.archive_core.specs.declared.lookup.Where.{Where}
use Rattle.text_values.specs.Words.{address_text, digest_text}
use Rattle.text_reports.specs.Answers.{found_text, own_text, own_line, owns_lines, answer_lines}
use Rattle.text_reports.specs.Escapes.{escaped}
use Rattle.text_reports.specs.Frames.{frame_lines}
use Rattle.text_reports.specs.Report.{line}
use Rattle.command_common.specs.declared.faults.Status.{Status}
use Rattle.command_common.specs.declared.faults.Status.TheVariants.{Done, Partial}
use Rattle.dwarf_source_frames.specs.AddressFrames.{AreFramesOf}
use Rattle.dwarf_source_frames.specs.Frames.{FrameRecord}
use Rattle.command_queries.proofs.AnswersWithFrames.{answer_of, one_answering}
use Rattle.command_queries.specs.SourceFrames.{AreFramesAt, AreShown, IsAnswerWithFrames}
use Rattle.command_queries.specs.Symbolicate.{asked_of, is_symbol, Answered, IsAnswered, answers_status, answers_text, TellsAddresses}
use Rattle.laws_archive.proofs.Given.{one_zipped}

abbrev seen_found : FoundRecord → List ℕ
seen_found found =
    escaped found.name ++ codes " + " ++ decimal found.offset
    ++ codes " (" ++ escaped found.segment ++ codes "," ++ escaped found.section ++ codes ")"

abbrev seen_own : Option FoundRecord → List ℕ
seen_own None = codes "-"
seen_own (Some found) = seen_found found

abbrev seen_row : OwnRow → List ℕ
seen_row row = line (codes "  " ++ digest_text (record { 0 = row.digest }) ++ codes " " ++ seen_own row.own)

abbrev seen_rows : List OwnRow → List (List FrameRecord) → List ℕ
seen_rows [] frames = []
seen_rows (row ∷ rows) [] = seen_row row ++ seen_rows rows []
seen_rows (row ∷ rows) (its ∷ frames) = seen_row row ++ frame_lines its ++ seen_rows rows frames

abbrev seen_lines : ℕ → AnswerRecord → List (List FrameRecord) → List ℕ
seen_lines address Unanswered frames = line (address_text address ++ codes " ?") ++ flat_map frame_lines frames
seen_lines address (Alone None) frames = line (address_text address ++ codes " -") ++ flat_map frame_lines frames
seen_lines address (Alone (Some found)) frames = line (address_text address ++ codes " " ++ seen_found found) ++ flat_map frame_lines frames
seen_lines address (Disputed rows) frames = line (address_text address ++ codes " !" ++ decimal (length rows)) ++ seen_rows rows frames

abbrev seen_symbol : AnswerRecord → Bool
seen_symbol (Alone (Some found)) = true
seen_symbol _ = false

own_seen : (own : Own) → own_text own ≡ seen_own (own_view own)
unfolding own_text found_text
own_seen Own_NoSymbol = refl
own_seen (Own_Symbol found) = refl

row_seen : (row : Digest × Own) → own_line row ≡ seen_row (own_row row)
unfolding own_line
row_seen row = ap (λ text. line (codes "  " ++ digest_text row.0 ++ codes " " ++ text)) (own_seen row.1)

rows_seen : (rows : List (Digest × Own)) (frames : List (List FrameRecord)) → owns_lines rows frames ≡ seen_rows (map own_row rows) frames
rows_seen [] frames = refl
rows_seen (row ∷ rows) [] = λ i. row_seen row i ++ rows_seen rows [] i
rows_seen (row ∷ rows) (its ∷ frames) = λ i. row_seen row i ++ frame_lines its ++ rows_seen rows frames i

lines_seen : (address : ℕ) (answer : Answer) (frames : List (List FrameRecord)) → answer_lines address answer frames
    ≡ seen_lines address (answer_view answer) frames
unfolding answer_lines found_text
lines_seen address (Conflict rows) frames =
    λ i. line (address_text address ++ codes " !" ++ decimal (sym (length-map rows.items own_row) i)) ++ rows_seen rows.items frames i
lines_seen address answer frames = refl

symbol_seen : (answer : Answer) → is_symbol answer ≡ seen_symbol (answer_view answer)
symbol_seen Unknown = refl
symbol_seen answer = refl

pub record Seen : Type 0 where
  pub address : ℕ
  pub answer : AnswerRecord
  pub frames : List (List FrameRecord)

abbrev pub seen : Answered → Seen
seen row = record { address = row.address; answer = answer_view row.answer; frames = row.frames }

text_seen : (rows : List Answered) → answers_text rows ≡ flat_map (λ (s : Seen). seen_lines s.address s.answer s.frames) (map seen rows)
text_seen rows =
    (λ i. flat_map (λ (row : Answered). lines_seen row.address row.answer row.frames i) rows)
    ∙ sym (flat_map-map (λ (s : Seen). seen_lines s.address s.answer s.frames) seen rows)

symbols_seen : (rows : List Answered) → list_all (λ row. is_symbol row.answer) rows ≡ list_all (λ (s : Seen). seen_symbol s.answer) (map seen rows)
symbols_seen rows = (λ i. list_all (λ (row : Answered). symbol_seen row.answer i) rows) ∙ sym (list_all-map (λ (s : Seen). seen_symbol s.answer) seen rows)

-- answers that look alike are told alike
pub alike_told : (rows others : List Answered) → map seen rows ≡ map seen others
    → (answers_status rows ≡ answers_status others) × (answers_text rows ≡ answers_text others)
alike_told rows others same =
    let symbols = symbols_seen rows ∙ ap (list_all (λ (s : Seen). seen_symbol s.answer)) same ∙ sym (symbols_seen others) in
    let lines = text_seen rows ∙ ap (flat_map (λ (s : Seen). seen_lines s.address s.answer s.frames)) same ∙ sym (text_seen others) in
    (ap (λ (all : Bool). if all then Done else Partial) symbols, lines)

-- ---- the same answers without their frames

abbrev bare : Answered → Answered
bare row = record { address = row.address; answer = row.answer; frames = [] }

bare_addresses : (rows : List Answered) → map (λ (row : Answered). row.address) (map bare rows) ≡ map (λ (row : Answered). row.address) rows
bare_addresses [] = refl
bare_addresses (row ∷ rows) = ap (λ (addresses : List ℕ). row.address ∷ addresses) (bare_addresses rows)

bare_answered : (content : Operations) (key : SliceKey) (load : Option ℕ) (rows : List Answered)
    → AllByRecursion (IsAnswered content key load true) rows
    → AllByRecursion (IsAnswered content key load false) (map bare rows)
bare_answered content key load [] are = tt
bare_answered content key load (row ∷ rows) are = (
  record { slices = are.0.slices; answering = are.0.answering; answer_is = are.0.answer_is; shown = refl },
  bare_answered content key load rows are.1,
)

pub without_lines : (content : Operations) (key : SliceKey) (load : Option ℕ) (addresses : List ℕ) (status : Status)
    (text : List ℕ) → (told : TellsAddresses content key load true addresses status text)
    → TellsAddresses content key load false addresses status (flat_map (λ (row : Answered). answer_lines row.address row.answer []) told.rows)
without_lines content key load addresses status text told = record {
  rows = map bare told.rows;
  addresses_are = bare_addresses told.rows ∙ told.addresses_are;
  answered = bare_answered content key load told.rows told.answered;
  status_is = told.status_is ∙ ap (λ (all : Bool). if all then Done else Partial)
      (sym (list_all-map (λ (row : Answered). is_symbol row.answer) bare told.rows));
  text_is = sym (flat_map-map (λ (row : Answered). answer_lines row.address row.answer row.frames) bare told.rows);
}

-- ---- one telling

module _ (one : (o : Operations) (key : SliceKey) (place : Where) (answer other : AnswerRecord)
    → IsAnswer o key place answer → IsAnswer o key place other → answer ≡ other)
    (single : (image : List ℕ) (address : ℕ) (frames other : List FrameRecord) → AreFramesOf image address frames
    → AreFramesOf image address other → frames ≡ other) where
  -- a slice has one list of frames of a place
  one_place : (slice : List ℕ) (at : Option ℕ) (frames other : List FrameRecord)
      → MatchOption at (frames ≡ []) (λ address. AreFramesOf slice address frames)
      → MatchOption at (other ≡ []) (λ address. AreFramesOf slice address other) → frames ≡ other
  one_place slice None frames other a b = a ∙ sym b
  one_place slice (Some address) frames other a b = single slice address frames other a b

  one_shown : (lines : Bool) (place : Where) (slices : List (List ℕ)) (frames others : List (List FrameRecord))
      → AreShown lines place slices frames → AreShown lines place slices others → frames ≡ others
  one_shown true place slices frames others a b =
      one_zipped (AreFramesAt place) (AreFramesAt place) (λ slice. one_place slice (file_address slice place)) slices frames others a b
  one_shown false place slices frames others a b = a ∙ sym b

  pub one_seen : (content : Operations) (key : SliceKey) (load : Option ℕ) (lines : Bool) (row other : Answered)
      → row.address ≡ other.address → IsAnswered content key load lines row → IsAnswered content key load lines other
      → seen row ≡ seen other
  one_seen content key load lines row other address a b =
      let place : Where = asked_of load other.address in
      let moved : IsAnswerWithFrames content key lines place (answer_view row.answer) row.frames =
      subst (λ n. IsAnswerWithFrames content key lines (asked_of load n) (answer_view row.answer) row.frames) address a in
      let answer = one content key place (answer_view row.answer) (answer_view other.answer)
      (answer_of content key lines place (answer_view row.answer) row.frames moved)
      (answer_of content key lines place (answer_view other.answer) other.frames b) in
      let same = one_answering content key moved.slices b.slices moved.answering b.answering in
      let frames = one_shown lines place b.slices row.frames other.frames
      (subst (λ (ss : List (List ℕ)). AreShown lines place ss row.frames) same moved.shown) b.shown in
      λ i. record { address = address i; answer = answer i; frames = frames i }

  all_seen : (content : Operations) (key : SliceKey) (load : Option ℕ) (lines : Bool) (rows others : List Answered)
      → map (λ row. row.address) rows ≡ map (λ row. row.address) others
      → AllByRecursion (IsAnswered content key load lines) rows → AllByRecursion (IsAnswered content key load lines) others → map seen rows ≡ map seen others
  all_seen content key load lines [] [] e a b = refl
  all_seen content key load lines (x ∷ xs) (y ∷ ys) e a b =
      let address : x.address ≡ y.address = cc in
      let rest : map (λ (row : Answered). row.address) xs ≡ map (λ (row : Answered). row.address) ys = cc in
      let head = one_seen content key load lines x y address a.0 b.0 in
      let tail = all_seen content key load lines xs ys rest a.1 b.1 in
      λ i. head i ∷ tail i
  all_seen content key load lines rows others e a b = cc

  pub one_told : (content : Operations) (key : SliceKey) (load : Option ℕ) (lines : Bool) (addresses : List ℕ)
      (status other_status : Status) (text other_text : List ℕ)
      → TellsAddresses content key load lines addresses status text
      → TellsAddresses content key load lines addresses other_status other_text → (status ≡ other_status)
      × (text ≡ other_text)
  one_told content key load lines addresses status other_status text other_text a b =
      let same = all_seen content key load lines a.rows b.rows (a.addresses_are ∙ sym b.addresses_are) a.answered b.answered in
      let told = alike_told a.rows b.rows same in
      (a.status_is ∙ told.0 ∙ sym b.status_is, a.text_is ∙ told.1 ∙ sym b.text_is)
