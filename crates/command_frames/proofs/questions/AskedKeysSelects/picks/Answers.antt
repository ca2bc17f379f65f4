use Rattle.std.proofs.Common.{rules, arith, drop, take, List, ℕ, ◌∙◌}
use Rattle.std.proofs.lemmas.Fn.{always_returns_same}
use Rattle.archive_core.specs.Key.{key_bytes}
use Rattle.archive_records.proofs.KeptRecords.{long_record}
use Rattle.command_frames.proofs.Halved.{found, place_of}
use Rattle.command_frames.specs.declared.places.AskedKey.{AskedKey}
use Rattle.command_frames.proofs.questions.AskedKeysSelects.picks.Goals as goal

pub slice_bounds-prefix-end : goal.slice_bounds-prefix-end
slice_bounds-prefix-end c = omega (arith, long_record c.args.bytes.now c.requires)

pub returns : goal.returns
returns c =
    let prefix = take 24 (drop 1 c.args.bytes.now) in
    let facts = c.binary_search_by.ensures in
    let bytes_of : AskedKey → List ℕ = λ one. key_bytes one.key in
    let by_key = facts.position (place_of bytes_of prefix) (always_returns_same _ _ _ (λ a r g called. (search rules, search rules))) in
    c.is_ok.ensures.value ∙ found bytes_of prefix c.args.self.now.asked.now c.binary_search_by.result c.args.self.now.in_order facts.bound by_key
