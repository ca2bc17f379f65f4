use Rattle.std.proofs.Common.{◌≡◌, length, arith}
use Rattle.command_common.specs.Inputs.{readers}
use Rattle.command_common.proofs.Readers.{readers_long}
use Rattle.command_archives.proofs.Streamed.{of_many}
use Rattle.command_archives.proofs.merge.run_merge.Goals as goal

pub returns-else-files-eq1 : goal.returns-else-files-eq1
returns-else-files-eq1 g c =
    let old = c.args.files.now in
    let new = c.merge_in_turn.new.files in
    let long = readers_long g.S.Source.left g.S.Source.failures old new c.merge_in_turn.auto.files in
    let many : length (readers g.S.Source.left g.S.Source.failures old new) ≡ 1 → ⊥ = λ one. c.if-files-eq1.false (omega (arith, long, one)) in
    of_many _ _ _ c.merge_in_turn.result (readers g.S.Source.left g.S.Source.failures old new) many c.merge_in_turn.ensures
