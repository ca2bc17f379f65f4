use Rattle.std.proofs.Common.{◌≡◌, ◌∙◌, ℕ, List, ap, drop, length, map, sym, take}
use Rattle.std.specs.Int.{w64, to_be_bytes}
use Rattle.std.specs.List.{concat}
use Rattle.std.proofs.Math.ListN.{length-map}
use Rattle.table_checked_pages.specs.Pages.{root_of, stored}
use Rattle.archive_records.specs.Text.{end_record}
use Rattle.index_format.specs.Entry.{entry_bytes}
use Rattle.index_format.specs.Text.{archive_length, retired_in}
use Rattle.index_build.proofs.Sorted.{ended}
use Rattle.index_build.proofs.entries.ending.Goals as goal

pub returns : goal.returns
returns c =
    let es : List (List ℕ) = map entry_bytes c.args.entries.now in
    let all : List ℕ = concat es in
    let bytes : c.in_ok-made.made.bytes.items ≡ stored all = c.in_ok-made.ensures.stored ∙ ap (λ (b : List ℕ). stored b) c.in_ok-joined.ensures in
    let root : c.in_ok-made.made.root ≡ root_of all = c.in_ok-made.ensures.root ∙ ap (λ (b : List ℕ). root_of b) c.in_ok-joined.ensures in
    let count : length c.args.entries.now ≡ length es = sym (length-map c.args.entries.now entry_bytes) in
    let head : c.end_bytes.result ≡ end_record (length es) = c.end_bytes.ensures ∙ ap end_record count in
    let numbers : c.to_be_bytes.result ≡ to_be_bytes w64 (retired_in es) = c.to_be_bytes.ensures ∙ ap (to_be_bytes w64) c.retired_in.ensures in
    let long : take 8 (drop 8 c.to_be_bytes-2.result) ≡ to_be_bytes w64 (archive_length es) =
    ap (λ (t : List ℕ). take 8 (drop 8 t)) c.to_be_bytes-2.ensures ∙ ap (to_be_bytes w64) c.requires in
    ended es _ _ _ _ _ _ _ _ _ bytes root head numbers long c.in_ok-extend_from_slice.ensures.items
    c.in_ok-extend_from_slice-2.ensures.items c.in_ok-extend_from_slice-3.ensures.items
    c.in_ok-extend_from_slice-4.ensures.items
