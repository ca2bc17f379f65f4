use Rattle.std.proofs.Common.{◌≡◌, ◌∙◌, Err, ap, refl, subst, sym}
use Rattle.text_values.specs.Lines.{line_at}
use Rattle.text_input_files.specs.FrameFlaws.{frame_flaw}
use Rattle.text_input_files.specs.Frames.{IsErrorOf, frames_of}
use Rattle.command_common.proofs.Given.{gives_too}
use Rattle.command_common.proofs.sources.read_frames_input.Goals as goal

pub returns-in-Err-BadFrame : goal.returns-in-Err-BadFrame
returns-in-Err-BadFrame g c =
    let bytes = c.in_ok-bytes.bytes.items in
    let line = c.in-Err-BadFrame.line in
    let fault : frames_of c.deref.result.now ≡ Err line =
    subst (IsErrorOf (frames_of c.deref.result.now)) c.in-Err-BadFrame.field-0-is c.in-Err-BadFrame.ensures.fault in
    let flaw : c.frame_flaw-flaw.result ≡ frame_flaw (line_at bytes line) =
    c.frame_flaw-flaw.ensures ∙ ap frame_flaw c.line_at.ensures
    ∙ ap (λ b. frame_flaw (line_at b line)) c.deref-in-Err-BadFrame.ensures.value in (
      refl,
      (
        c.in_ok-bytes.ensures.unfailed,
        gives_too g.S.Source.left g.S.Source.failures c.args.frames.now c.read_bytes.new.input (λ t. t ≡ bytes)
            (λ t. (frames_of t ≡ Err line) × (c.frame_flaw-flaw.result ≡ frame_flaw (line_at t line)))
            (λ t same. subst (λ b. (frames_of b ≡ Err line) × (c.frame_flaw-flaw.result ≡ frame_flaw (line_at b line)))
            (sym same) (ap frames_of (sym c.deref.ensures.value) ∙ fault, flaw))
            c.in_ok-bytes.ensures.is,
      ),
    )
