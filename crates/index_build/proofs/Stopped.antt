-- What is told where making the index of an archive was stopped, and what OUT's draft has then.
use Rattle.std.proofs.Common.{◌≡◌, ℕ, List, length, Option, Err, sym, ◌∙◌}
use Rattle.byte_device.specs.Devices.{stream}
use Rattle.index_format.specs.declared.fault.IndexingFault.{IndexingFault}
use Rattle.index_build.specs.Making.{Makes}
use Rattle.index_build.specs.declared.fault.MakingFault.{MakingFault}
use Rattle.index_build.specs.declared.fault.MakingFault.TheVariants.{Archive as Refused, Write as Wrote}
use Rattle.index_build.proofs.Made.{gained_bytes}
use Rattle.command_common.specs.Ends.{HasTaken}
use Rattle.command_common.specs.Inputs.{reader}
use Rattle.command_common.specs.Outputs.{writer}
use Rattle.command_common.specs.declared.faults.CommandFault.{CommandFault}
use Rattle.command_common.specs.declared.faults.CommandFault.TheVariants.{Output, Report}
use Rattle.index_build.specs.Index.{TellsRefusal, TellsStop}
use Rattle.index_build.specs.InnerIndexing.{IndexesAmidst}

-- of a refusal no count of bytes is told
uncounted : (fault : IndexingFault) (told : CommandFault) (n k : ℕ) → TellsRefusal fault told → told ≡ Output n → n ≡ k
uncounted fault (Output m) n k tells is = absurd tells
uncounted fault (Report m) n k tells is = absurd tells
uncounted fault told n k tells is = cc

module _ {R D : Type 0} (left : R → Option (List ℕ)) (failures : R → ℕ) (source after : R) (held : D → Option (List ℕ)) (writes : D → ℕ) (start end : D) where
  -- what the draft took is counted where it failed
  taken : (fault : MakingFault) (told : CommandFault) → Makes (stream left failures source after)
      (stream held writes start end) (Err fault) → TellsStop fault told → HasTaken (writer held writes start end) told
  taken (Refused fault) told makes tells =
      let gained = gained_bytes (left source) (left after) (held start) (held end) makes.count makes.begun in
      (gained.0, gained.1, λ n is. uncounted fault told n (length gained.0) tells is)
  taken (Wrote fault) told makes tells = (
    makes.bytes,
    makes.took,
    λ n is. let same : Output n ≡ Output fault.written =
        sym is ∙ tells in let count : n ≡ fault.written = cc in count ∙ makes.count,
  )

  pub stopped_so : (fault : MakingFault) (told : CommandFault)
      → Makes (stream left failures source after) (stream held writes start end) (Err fault) → TellsStop fault told
      → IndexesAmidst (reader left failures source after) (stream held writes start end) (Err told)
  stopped_so fault told makes tells = (taken fault told makes tells, record { stopped = fault; makes = makes; tells = tells })
