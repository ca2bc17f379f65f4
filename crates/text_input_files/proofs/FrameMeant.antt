-- Frames by their lines, and the first line that is none.
use Rattle.std.proofs.Common.{◌≡◌, ◌∙◌, sym, ap, ap₂, refl, ℕ, ◌+◌, List, [], ◌∷◌, ◌++◌, map, arith, Option, Some, None, Result, Ok, Err}
use Rattle.std.proofs.lemmas.List.{append-nil}
use Rattle.text_values.specs.Lines.{Line, counting}
use Rattle.text_input_files.specs.Frames.{AreFrames, IsFirstFault, IsFrames, frame_then, frames_in, frames_of, line_frame, onto}
use Rattle.text_input_files.specs.declared.frame.Frame.{Frame}
use Rattle.text_input_files.proofs.FrameSequels.{behind, behind-nil}

-- ---- lines that are frames

-- a frame, and those after it
meant_then : (before : ℕ) (o : Option Frame) (os : List (Option Frame)) (r : Result (List Frame) ℕ) (frames : List Frame)
    → frame_then before o r ≡ Ok frames → ((rest : List Frame) → r ≡ Ok rest → os ≡ map Some rest) → o ∷ os ≡ map Some frames
meant_then before None os r frames h further = cc
meant_then before (Some frame) os (Ok rest) frames h further =
    let made : frames ≡ frame ∷ rest = cc in
    rw made (ap (λ os. Some frame ∷ os) (further rest refl))
meant_then before (Some frame) os (Err line) frames h further = cc

meant : (lines : List (ℕ × Line)) (frames : List Frame) → frames_in lines ≡ Ok frames → AreFrames lines frames
meant [] [] h = refl
meant [] (frame ∷ frames) h = cc
meant (line ∷ lines) frames h = meant_then line.0 (line_frame line.1) _ (frames_in lines) frames h (λ rest e. meant lines rest e)

behind-cons : (frame : Frame) (front : List Frame) (r : Result (List Frame) ℕ) → onto frame (behind front r) ≡ behind (frame ∷ front) r
behind-cons frame front r = grind arith

-- what stands after lines that are frames
front_said : (front further : List (ℕ × Line)) (frames : List Frame) → AreFrames front frames
    → frames_in (front ++ further) ≡ behind frames (frames_in further)
front_said [] further [] h = sym (behind-nil (frames_in further))
front_said [] further (frame ∷ frames) h = cc
front_said (line ∷ front) further [] h = cc
front_said (line ∷ front) further (frame ∷ frames) h =
    let first : line_frame line.1 ≡ Some frame = cc in
    let others : map (λ l. line_frame l.1) front ≡ map Some frames = cc in
    ap₂ (λ o r. frame_then line.0 o r) first (front_said front further frames others) ∙ behind-cons frame frames (frames_in further)

listed : (lines : List (ℕ × Line)) (frames : List Frame) → AreFrames lines frames → frames_in lines ≡ Ok frames
listed lines frames h = ap frames_in (sym (append-nil lines)) ∙ front_said lines [] frames h ∙ ap Ok (append-nil frames)

pub frames_lines : (bytes : List ℕ) (frames : List Frame) → frames_of bytes ≡ Ok frames → IsFrames bytes frames
frames_lines bytes frames h = meant (counting bytes) frames h

pub frames_said : (bytes : List ℕ) (frames : List Frame) → IsFrames bytes frames → frames_of bytes ≡ Ok frames
frames_said bytes frames is = listed (counting bytes) frames is

-- ---- the first line that is none

record IsFaulty (lines : List (ℕ × Line)) (number : ℕ) : Type 0 where
  before : List (ℕ × Line)
  faulty : ℕ × Line
  behind : List (ℕ × Line)
  parted : lines ≡ before ++ faulty ∷ behind
  frames : List Frame
  good : AreFrames before frames
  bad : line_frame faulty.1 ≡ None
  counted : number ≡ faulty.0 + 1

first_faulty : (line : ℕ × Line) (lines : List (ℕ × Line)) (number : ℕ) (o : Option Frame) (r : Result (List Frame) ℕ)
    → line_frame line.1 ≡ o → frame_then line.0 o r ≡ Err number → (r ≡ Err number → IsFaulty lines number) → IsFaulty (line ∷ lines) number
first_faulty line lines number None r is h further =
    record { before = []; faulty = line; behind = lines; parted = refl; frames = []; good = refl; bad = is; counted = cc }
first_faulty line lines number (Some frame) (Ok frames) is h further = cc
first_faulty line lines number (Some frame) (Err n) is h further =
    let f = further (ap Err cc) in
    record {
      before = line ∷ f.before;
      faulty = f.faulty;
      behind = f.behind;
      parted = ap (λ ls. line ∷ ls) f.parted;
      frames = frame ∷ f.frames;
      good = ap₂ (λ a b. a ∷ b) is f.good;
      bad = f.bad;
      counted = f.counted;
    }

faulty_in : (lines : List (ℕ × Line)) (number : ℕ) → frames_in lines ≡ Err number → IsFaulty lines number
faulty_in [] number h = cc
faulty_in (line ∷ lines) number h = first_faulty line lines number (line_frame line.1) (frames_in lines) refl h (faulty_in lines number)

pub fault_lines : (bytes : List ℕ) (line : ℕ) → frames_of bytes ≡ Err line → IsFirstFault bytes line
fault_lines bytes line h =
    let f = faulty_in (counting bytes) line h in
    record { before = f.before; faulty = f.faulty; behind = f.behind; lines = f.parted; frames = f.frames; good = f.good; bad = f.bad; number = f.counted }

pub fault_said : (bytes : List ℕ) (line : ℕ) → IsFirstFault bytes line → frames_of bytes ≡ Err line
fault_said bytes line is =
    ap frames_in is.lines ∙ front_said is.before (is.faulty ∷ is.behind) is.frames is.good
    ∙ ap (λ o. behind is.frames (frame_then is.faulty.0 o (frames_in is.behind))) is.bad ∙ ap Err (sym is.number)
