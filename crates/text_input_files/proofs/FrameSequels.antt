-- What the lines tell after those that were read.
use Rattle.std.proofs.Common.{◌≡◌, ◌∙◌, sym, ap, refl, arith, ℕ, ◌+◌, ◌<◌, List, [], ◌∷◌, ◌++◌, append_assoc, length}
use Rattle.std.proofs.Common.{get_or, drop, Some, None, Result, Ok, Err, Bor}
use Rattle.std.proofs.lemmas.List.{at_drop_more, get_or-map, length-map}
use Rattle.text_values.specs.Lines.{Line, seen}
use Rattle.text_input_files.specs.Frames.{frame_then, frames_in, line_frame, onto}
use Rattle.text_input_files.specs.declared.frame.Frame.{Frame}

-- these frames, and those that are read after them
abbrev pub behind : List Frame → Result (List Frame) ℕ → Result (List Frame) ℕ
behind front (Ok frames) = Ok (front ++ frames)
behind front (Err line) = Err line

pub behind-nil : (r : Result (List Frame) ℕ) → behind [] r ≡ r
behind-nil r = grind arith

behind-onto : (front : List Frame) (frame : Frame) (r : Result (List Frame) ℕ) → behind front (onto frame r) ≡ behind (front ++ frame ∷ []) r
behind-onto front frame (Ok frames) = ap Ok (sym (append_assoc front (frame ∷ []) frames))
behind-onto front frame (Err line) = refl

-- a line as the definitions have it
abbrev view : ℕ × Bor (List ℕ) → ℕ × Line
view l = (l.0, l.1.now)

-- what the line at a place tells, and those after it
at_line : (lines : List (ℕ × Bor (List ℕ))) (i : ℕ) (d : ℕ × Bor (List ℕ)) → i < length lines
    → frames_in (drop i (seen lines)) ≡ frame_then (get_or lines i d).0 (line_frame (get_or lines i d).1.now) (frames_in (drop (i + 1) (seen lines)))
at_line lines i d l =
    at_drop_more frames_in (seen lines) i (view d) (omega (arith, length-map lines view, l))
    ∙ ap (λ (y : ℕ × Line). frame_then y.0 (line_frame y.1) (frames_in (drop (i + 1) (seen lines))))
    (get_or-map view lines i d (view d) l)

-- a line that is a frame
pub one_more : (lines : List (ℕ × Bor (List ℕ))) (i : ℕ) (d : ℕ × Bor (List ℕ)) (frame : Frame) (front : List Frame)
    → i < length lines → Some frame ≡ line_frame (get_or lines i d).1.now
    → behind (front ++ frame ∷ []) (frames_in (drop (i + 1) (seen lines))) ≡ behind front (frames_in (drop i (seen lines)))
one_more lines i d frame front l means =
    let x = get_or lines i d in
    let r = frames_in (drop (i + 1) (seen lines)) in
    let first : frames_in (drop i (seen lines)) ≡ onto frame r =
    at_line lines i d l ∙ ap (λ o. frame_then x.0 o r) (sym means) in
    sym (behind-onto front frame r) ∙ ap (behind front) (sym first)

-- a line that is none
pub no_frame : (lines : List (ℕ × Bor (List ℕ))) (i : ℕ) (d : ℕ × Bor (List ℕ)) (front : List Frame) (all : Result (List Frame) ℕ)
    → i < length lines → None ≡ line_frame (get_or lines i d).1.now
    → behind front (frames_in (drop i (seen lines))) ≡ all
    → all ≡ Err ((get_or lines i d).0 + 1)
no_frame lines i d front all l none so_far =
    let x = get_or lines i d in
    let r = frames_in (drop (i + 1) (seen lines)) in
    sym so_far ∙ ap (behind front) (at_line lines i d l ∙ ap (λ o. frame_then x.0 o r) (sym none))
