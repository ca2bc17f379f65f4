-- The lines of frames, written one piece after another.
use Rattle.std.proofs.Common.{◌≡◌, ◌<◌, ◌+◌, ◌∙◌, ℕ, suc, List, [], ◌∷◌, ◌++◌, length, take, get_or, refl, sym, ap}
use Rattle.std.proofs.Common.{append_assoc, append-nil, add-one, zero, arith}
use Rattle.archive_core.specs.declared.keys.Digest.{Digest}
use Rattle.archive_core.specs.declared.lookup.Own.{Own}
use Rattle.dwarf_source_frames.specs.Frames.{FrameRecord}
use Rattle.text_reports.specs.Answers.{own_line, owns_lines}
use Rattle.text_reports.specs.Frames.{frame_lines, function_byte, function_text}

-- a text that goes on with the rest of a name goes on with what comes after one byte more
pub next_byte : (whole text grown left after : List ℕ) (byte : ℕ) → left ≡ byte ∷ after → grown ≡ text ++ function_byte byte after
    → text ++ function_text left ≡ whole → grown ++ function_text after ≡ whole
unfolding function_text
next_byte whole text grown left after byte is more before =
    ap (λ (t : List ℕ). t ++ function_text after) more ∙ append_assoc text (function_byte byte after) (function_text after)
    ∙ ap (λ (l : List ℕ). text ++ function_text l) (sym is) ∙ before

pub no_byte : (whole text left : List ℕ) → length left ≡ 0 → text ++ function_text left ≡ whole → text ≡ whole
unfolding function_text
no_byte whole text [] none before = sym (append-nil text) ∙ before
no_byte whole text (byte ∷ left) none before = absurd (omega (arith, none))

-- what one slice more answers
one_more : (owns : List (Digest × Own)) (frames : List (List FrameRecord)) (i : ℕ) (d : Digest × Own) → i < length owns
    → owns_lines (take (suc i) owns) frames ≡ owns_lines (take i owns) frames ++ (own_line (get_or owns i d) ++ frame_lines (get_or frames i []))
one_more [] frames i d lt = absurd (omega (arith, lt))
one_more (own ∷ owns) [] zero d lt = refl
one_more (own ∷ owns) (its ∷ frames) zero d lt = append-nil (own_line own ++ frame_lines its)
one_more (own ∷ owns) [] (suc i) d lt =
    ap (λ (t : List ℕ). own_line own ++ t) (one_more owns [] i d (omega (arith, lt)))
    ∙ sym (append_assoc (own_line own) (owns_lines (take i owns) []) (own_line (get_or owns i d) ++ []))
one_more (own ∷ owns) (its ∷ frames) (suc i) d lt =
    ap (λ (t : List ℕ). own_line own ++ frame_lines its ++ t) (one_more owns frames i d (omega (arith, lt)))
    ∙ sym (append_assoc (own_line own ++ frame_lines its) (owns_lines (take i owns) frames) (own_line (get_or owns i d) ++ frame_lines (get_or frames i [])))

pub owns_more : (owns : List (Digest × Own)) (frames : List (List FrameRecord)) (i : ℕ) (d : Digest × Own) (text before said grown : List ℕ) → i < length owns
    → text ≡ before ++ owns_lines (take i owns) frames → said ≡ text ++ own_line (get_or owns i d) → grown ≡ said ++ frame_lines (get_or frames i [])
    → grown ≡ before ++ owns_lines (take (i + 1) owns) frames
owns_more owns frames i d text before said grown lt was line_is frames_are =
    frames_are ∙ ap (λ (t : List ℕ). t ++ frame_lines (get_or frames i [])) (line_is ∙ ap (λ (t : List ℕ). t ++ own_line (get_or owns i d)) was)
    ∙ append_assoc (before ++ owns_lines (take i owns) frames) (own_line (get_or owns i d)) (frame_lines (get_or frames i []))
    ∙ append_assoc before (owns_lines (take i owns) frames) (own_line (get_or owns i d) ++ frame_lines (get_or frames i []))
    ∙ ap (λ (t : List ℕ). before ++ t) (sym (one_more owns frames i d lt))
    ∙ ap (λ (n : ℕ). before ++ owns_lines (take n owns) frames) (sym (add-one i))
