-- What is told of frames is what `symbolicate` tells of each, and depends on the content alone.
use Rattle.std.proofs.Common.{◌≡◌, ◌↔◌, ℕ, Bool, false, if◌then◌else◌, List, [], ◌∷◌, map, Ok, refl, sym, ap, ◌∙◌, subst, arith, append-nil}
use Rattle.std.specs.List.{AllByRecursion, AllZip, flat_map, list_all}
use Rattle.std.proofs.lemmas.List.Folds.{flat_map-map}
use Rattle.archive_core.specs.Content.{Operations}
use Rattle.archive_core.specs.Lookup.{AnswerRecord, IsAnswer}
use Rattle.archive_core.specs.declared.keys.SliceKey.{SliceKey}
use Rattle.archive_core.specs.declared.lookup.Where.{Where}
use Rattle.text_input_files.specs.Frames.{frames_of}
use Rattle.text_input_files.specs.declared.frame.Frame.{Frame}
use Rattle.text_reports.specs.Answers.{answer_lines}
use Rattle.dwarf_source_frames.specs.AddressFrames.{AreFramesOf}
use Rattle.dwarf_source_frames.specs.Frames.{FrameRecord}
use Rattle.command_common.specs.declared.faults.Status.{Status}
use Rattle.command_common.specs.declared.faults.Status.TheVariants.{Done, Partial}
use Rattle.command_queries.specs.Frames.{IsFrameAnswered, TellsFrames, TellsFramesWith, Told, IsToldAlone, SymbolicatesEach, frames, is_done}
use Rattle.command_common.specs.Inputs.{Reader, IsGiven}
use Rattle.command_queries.specs.Symbolicate.{Answered, IsAnswered, TellsAddresses, is_symbol, answers_status, answers_text}
use Rattle.laws_archive.specs.Joins.{IsGivenJoin}
use Rattle.laws_archive.proofs.Joins.{holds_join, told_of_join}
use Rattle.laws_archive.proofs.Given.{gives, is_given, one_value}
use Rattle.laws_archive.proofs.SlicesTold.{frames_once}
use Rattle.laws_archive.proofs.Viewed.{alike_told, one_seen, seen}

-- ---- an answer alone

abbrev alone_told : Answered → Told
alone_told row = record { status = answers_status (row ∷ []); text = answers_text (row ∷ []) }

all_done : (rows : List Answered) → list_all (λ row. is_symbol row.answer) rows ≡ list_all (λ (one : Told). is_done one.status) (map alone_told rows)
all_done [] = refl
all_done (row ∷ rows) = let rest = all_done rows in grind arith

one_text : (rows : List Answered) → answers_text rows ≡ flat_map (λ (one : Told). one.text) (map alone_told rows)
one_text rows =
    (λ i. flat_map (λ (row : Answered). sym (append-nil (answer_lines row.address row.answer row.frames)) i) rows)
    ∙ sym (flat_map-map (λ (one : Told). one.text) alone_told rows)

each_alone : {S T : Type 0} (lines : Bool) (input : Reader S) (others : List (Reader T)) (o : Operations)
    (frames : List Frame) (rows : List Answered) → IsGivenJoin input others o
    → AllZip (IsFrameAnswered lines o) frames rows → AllZip (IsToldAlone lines input others) frames (map alone_told rows)
each_alone lines input others o [] [] given all = tt
each_alone lines input others o (frame ∷ frames) (row ∷ rows) given all =
    let tells : TellsAddresses o frame.key frame.load lines (frame.address ∷ []) (answers_status (row ∷ [])) (answers_text (row ∷ [])) = record {
      rows = row ∷ [];
      addresses_are = ap (λ (a : ℕ). a ∷ []) all.0.0;
      answered = (all.0.1, tt);
      status_is = refl;
      text_is = refl;
    } in (
      holds_join input others o given (λ p. TellsAddresses p frame.key frame.load lines (frame.address ∷ [])
          (answers_status (row ∷ [])) (answers_text (row ∷ []))) tells,
      each_alone lines input others o frames rows given all.1,
    )
each_alone lines input others o _ _ given all = absurd all

-- the one row of an answer alone
one_row : (lines : Bool) (o : Operations) (frame : Frame) (told : Told) (rows : List Answered) → map (λ (row : Answered). row.address) rows ≡ frame.address ∷ []
    → AllByRecursion (IsAnswered o frame.key frame.load lines) rows → told.status ≡ answers_status rows → told.text ≡ answers_text rows
    → (row : Answered) × IsFrameAnswered lines o frame row × (told ≡ alone_told row)
one_row lines o frame told (row ∷ []) are all status text =
    let address : row.address ≡ frame.address = cc in
    (row, (address, all.0), λ i. record { status = status i; text = text i })
one_row lines o frame told rows are all status text = cc

each_row : {S T : Type 0} (lines : Bool) (input : Reader S) (others : List (Reader T)) (o : Operations)
    (frames : List Frame) (told : List Told) → IsGivenJoin input others o
    → AllZip (IsToldAlone lines input others) frames told → (rows : List Answered) × AllZip (IsFrameAnswered lines o) frames rows × (told ≡ map alone_told rows)
each_row lines input others o [] [] given all = ([], tt, refl)
each_row lines input others o (frame ∷ frames) (t ∷ told) given all =
    let tells = told_of_join input others o given (λ p. TellsAddresses p frame.key frame.load lines (frame.address ∷ []) t.status t.text) all.0 in
    let first = one_row lines o frame t tells.rows tells.addresses_are tells.answered tells.status_is tells.text_is in
    let rest = each_row lines input others o frames told given all.1 in
    (first.0 ∷ rest.0, (first.1, rest.1), λ i. first.2 i ∷ rest.2 i)
each_row lines input others o _ _ given all = absurd all

-- ---- frames of archives that have this content together

pub frames_of_join : {R S T : Type 0} (lines slices : Bool) (input : Reader R) (first : Reader S)
    (others : List (Reader T)) (bytes : List ℕ) (listed : List Frame) (o : Operations) (status : Status) (text : List ℕ)
    → IsGiven input bytes → frames_of bytes ≡ Ok listed → IsGivenJoin first others o
    → (frames lines slices input first others).Makes status text → TellsFramesWith lines slices o listed status text
frames_of_join lines slices input first others bytes listed o status text is says given_join makes =
    let also = is_given input bytes (λ b. frames_of b ≡ Ok makes.listed) is makes.frames_are in
    let frames = one_value (frames_of bytes) makes.listed listed also says in
    subst (λ (fs : List Frame). TellsFramesWith lines slices o fs status text) frames
    (told_of_join first others o given_join (λ p. TellsFramesWith lines slices p makes.listed status text)
    makes.tells)

pub each_is : {R S T : Type 0} (lines : Bool) (input : Reader R) (first : Reader S) (others : List (Reader T))
    (bytes : List ℕ) (listed : List Frame) (o : Operations) (status : Status) (text : List ℕ)
    → IsGiven input bytes → frames_of bytes ≡ Ok listed → IsGivenJoin first others o
    → (frames lines false input first others).Makes status text
    ↔ SymbolicatesEach lines first others listed status text
each_is lines input first others bytes listed o status text is says given_join = (to, back)
  where
    to : (frames lines false input first others).Makes status text → SymbolicatesEach lines first others listed status text
    to makes =
        let tells : TellsFrames lines o listed status text =
        frames_of_join lines false input first others bytes listed o status text is says given_join makes in
        record {
          told = map alone_told tells.rows;
          alone = each_alone lines first others o listed tells.rows given_join tells.answered;
          status_is = tells.status_is ∙ ap (λ (all : Bool). if all then Done else Partial) (all_done tells.rows);
          text_is = tells.text_is ∙ one_text tells.rows;
        }

    back : SymbolicatesEach lines first others listed status text → (frames lines false input first others).Makes status text
    back each =
        let rows = each_row lines first others o listed each.told given_join each.alone in
        let symbols = ap (list_all (λ (one : Told). is_done one.status)) rows.2 ∙ sym (all_done rows.0) in
        let printed = ap (flat_map (λ (one : Told). one.text)) rows.2 ∙ sym (one_text rows.0) in
        record {
          listed = listed;
          frames_are = gives input bytes (λ b. frames_of b ≡ Ok listed) is says;
          tells = holds_join first others o given_join (λ p. TellsFrames lines p listed status text) (record {
            rows = rows.0;
            answered = rows.1;
            status_is = each.status_is ∙ ap (λ (all : Bool). if all then Done else Partial) symbols;
            text_is = each.text_is ∙ printed;
          });
        }

-- ---- one report

module _ (one : (o : Operations) (key : SliceKey) (place : Where) (answer other : AnswerRecord)
    → IsAnswer o key place answer → IsAnswer o key place other → answer ≡ other)
    (single : (image : List ℕ) (address : ℕ) (frames other : List FrameRecord) → AreFramesOf image address frames
    → AreFramesOf image address other → frames ≡ other) where
  all_seen : (lines : Bool) (o : Operations) (frames : List Frame) (rows others : List Answered)
      → AllZip (IsFrameAnswered lines o) frames rows → AllZip (IsFrameAnswered lines o) frames others → map seen rows
      ≡ map seen others
  all_seen lines o [] [] [] a b = refl
  all_seen lines o [] [] (y ∷ ys) a b = absurd b
  all_seen lines o (frame ∷ frames) (x ∷ xs) [] a b = absurd b
  all_seen lines o (frame ∷ frames) (x ∷ xs) (y ∷ ys) a b =
      let head = one_seen one single o frame.key frame.load lines x y (a.0.0 ∙ sym b.0.0) a.0.1 b.0.1 in
      let tail = all_seen lines o frames xs ys a.1 b.1 in
      λ i. head i ∷ tail i
  all_seen lines o _ _ ys a b = absurd a

  pub one_told : (lines : Bool) (o : Operations) (frames : List Frame) (status other_status : Status)
      (text other_text : List ℕ) → TellsFrames lines o frames status text
      → TellsFrames lines o frames other_status other_text
      → (status ≡ other_status) × (text ≡ other_text)
  one_told lines o frames status other_status text other_text a b =
      let told = alike_told a.rows b.rows (all_seen lines o frames a.rows b.rows a.answered b.answered) in
      (a.status_is ∙ told.0 ∙ sym b.status_is, a.text_is ∙ told.1 ∙ sym b.text_is)

  pub one_made : {Q R S T U V : Type 0} (lines slices : Bool) (input : Reader Q) (first : Reader R)
      (others : List (Reader S)) (also : Reader T) (other : Reader U) (more : List (Reader V)) (bytes : List ℕ)
      (o : Operations)
      (status other_status : Status) (text other_text : List ℕ) → IsGiven input bytes → IsGiven also bytes
      → IsGivenJoin first others o → IsGivenJoin other more o
      → (frames lines slices input first others).Makes status text
      → (frames lines slices also other more).Makes other_status other_text → (status ≡ other_status)
      × (text ≡ other_text)
  one_made lines slices input first others also other more bytes o status other_status text other_text is also_is first_given other_given makes other_makes =
      let says = is_given input bytes (λ b. frames_of b ≡ Ok makes.listed) is makes.frames_are in
      frames_once one_told lines slices o makes.listed status other_status text other_text
      (frames_of_join lines slices input first others bytes makes.listed o status text is says first_given makes)
      (frames_of_join lines slices also other more bytes makes.listed o other_status other_text also_is says other_given other_makes)
