use Rattle.std.proofs.Common.{refl, length, take, ◌≤◌, ◌<◌, ◌+◌, ◌++◌, arith, ◌≡◌, get_or, Ok, Err, ◌∙◌, ap, List, ℕ, Result}
use Rattle.std.specs.Prelude.{MatchResult}
use Rattle.byte_device.proofs.Known.{Consumes-none}
use Rattle.archive_records.specs.declared.fault.RecordFaultKind.{RecordFaultKind}
use Rattle.archive_records.specs.declared.fault.RecordFaultKind.TheVariants.{Truncated}
use Rattle.archive_records.specs.Layout.{body_length, framed, largest_slice}
use Rattle.archive_records.proofs.Framed.{framed-large, grown-body, grown-whole}
use Rattle.archive_records.specs.declared.buffer.Buffer.{Buffer}
use Rattle.archive_records.specs.Reader.{IsHead, bytes_so_far, seen_as}
use Rattle.archive_records.specs.declared.format.Format.{Format}
use Rattle.archive_records.proofs.Holds.{tag_two}
use Rattle.archive_records.proofs.Fills.{Fills-room, length-bytes_so_far}
use Rattle.archive_records.proofs.frame.read_body.Goals as goal

pub returns-then-body-gt-LARGEST_SLICE-clause-fills : goal.returns-then-body-gt-LARGEST_SLICE-clause-fills
returns-then-body-gt-LARGEST_SLICE-clause-fills g c = Fills-room _ _ c.args.buffer.now c.args.buffer.now c.requires.within refl refl refl (Consumes-none _)

pub returns-then-body-gt-LARGEST_SLICE-clause-framed : goal.returns-then-body-gt-LARGEST_SLICE-clause-framed
returns-then-body-gt-LARGEST_SLICE-clause-framed g c =
    let b = c.args.buffer.now in
    let x = length-bytes_so_far b c.requires.within in
    let n-is = c.body_length_of-body.ensures ∙ ap (λ (t : List ℕ). body_length c.args.file (take b.at t)) c.deref.ensures.value in
    framed-large c.args.file (bytes_so_far b) c.args.head
    (omega (arith, x, c.requires.head.at_is, c.requires.head.long)) c.requires.head.tag
    (omega (arith, x, c.requires.head.at_is)) (omega (arith, n-is))

-- either way of the last read
last : (file : Format) (r : Result (Unit {0}) RecordFaultKind) (more : List ℕ) (a b : Buffer) (head n : ℕ)
    → a.at ≤ length a.bytes.items → b.at ≤ length b.bytes.items → n ≡ body_length file (bytes_so_far a) → bytes_so_far b
    ≡ bytes_so_far a ++ more → IsHead file a head → n ≤ largest_slice
    → MatchResult r (λ _. b.at ≡ a.at + n) (λ kind. (b.at < a.at + n) × (seen_as kind ≡ Truncated))
    → MatchResult r (λ _. framed file (bytes_so_far b) ≡ Ok b.at) (λ kind. framed file (bytes_so_far b) ≡ Err (seen_as kind))
last file (Ok u) more a b head n long within is grows h small came =
    let l : length (bytes_so_far a) ≡ head = length-bytes_so_far a long ∙ h.at_is in
    let k : length (bytes_so_far b) ≡ b.at = length-bytes_so_far b within in
    grown-whole file (bytes_so_far a) more (bytes_so_far b) head grows (omega (arith, h.long)) h.tag (omega arith)
    (omega arith) (omega (arith, h.at_is)) ∙ ap (λ (k : ℕ). Ok k) k
last file (Err kind) more a b head n long within is grows h small came =
    let l : length (bytes_so_far a) ≡ head = length-bytes_so_far a long ∙ h.at_is in
    let k : length (bytes_so_far b) ≡ b.at = length-bytes_so_far b within in
    rw came.1 (grown-body file (bytes_so_far a) more (bytes_so_far b) head grows (omega (arith, h.long)) h.tag
    (omega arith) (omega arith) (omega (arith, h.at_is, came.0)))

pub returns-clause-framed : goal.returns-clause-framed
returns-clause-framed g c =
    let b = c.args.buffer.now in
    let fills = c.fill.ensures.fills in
    let n-is = c.body_length_of-body.ensures ∙ ap (λ (t : List ℕ). body_length c.args.file (take b.at t)) c.deref.ensures.value in
    last c.args.file c.fill.result fills.more b c.fill.new.buffer c.args.head c.body_length_of-body.result
    c.requires.within fills.within n-is fills.grows c.requires.head c.if-body-gt-LARGEST_SLICE.false
    c.fill.ensures.came

pub body_length_of-body-requires-clause-whole : goal.body_length_of-body-requires-clause-whole
body_length_of-body-requires-clause-whole g c =
    let b = c.args.buffer.now in
    let x = length-bytes_so_far b c.requires.within in
    rw c.deref.ensures.value (λ two. omega (
      arith,
      x,
      c.requires.head.at_is,
      tag_two c.args.file (get_or (bytes_so_far b) 0 0) c.args.head two c.requires.head.tag,
    ))
