use Rattle.fat_slices.proofs.FatFaults.{table_of}
use Rattle.fat_slices.proofs.universal.Universal.slice.Goals as goal

pub arch_at-requires-clause-table : goal.arch_at-requires-clause-table
arch_at-requires-clause-table c = table_of _ c.self.invariant
