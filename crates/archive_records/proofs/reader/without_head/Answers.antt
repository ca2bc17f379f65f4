use Rattle.std.proofs.Common.{◌≡◌, ℕ, ◌+◌, ◌-◌, ◌≤◌, List, ◌++◌, length, drop, take, ap, arith, length-append, length-drop, length-take, ◌∙◌}
use Rattle.std.specs.List.{copy_within}
use Rattle.std.proofs.lemmas.List.{take_all, take_at}
use Rattle.archive_records.proofs.reader.without_head.Goals as goal

cut_front : (bytes : List ℕ) (n end : ℕ) → n ≡ length bytes - 33 → end ≡ length bytes → 33 ≤ length bytes → take n (copy_within bytes 33 end 0) ≡ drop 33 bytes
cut_front bytes n end is at_end le =
    let front = take 0 bytes ++ take (end - 33) (drop 33 bytes) in
    take_at front (drop (0 + (end - 33)) bytes) n (omega (
      arith,
      length-append (take 0 bytes) (take (end - 33) (drop 33 bytes)),
      length-take 0 bytes,
      length-take (end - 33) (drop 33 bytes),
      length-drop 33 bytes,
    ))
    ∙ take_all (end - 33) (drop 33 bytes) (omega (arith, length-drop 33 bytes))

pub returns : goal.returns
returns c =
    let bytes = c.args.whole.items in
    let long = c.args.whole.ok.0 in
    c.shrink_to_fit.ensures.items ∙ c.truncate.ensures.items ∙ ap (take _) c.copy_within.ensures.items
    ∙ cut_front bytes _ c.args.whole.len (omega (arith, c.len-length.ensures, long)) long c.requires
