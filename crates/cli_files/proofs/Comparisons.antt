-- The archive of a draft and the one at its target, where they were compared.
use Rattle.std.proofs.Common.{◌≡◌, ℕ, List, Result, Ok, Err, Some, None, inl, inr}
use Rattle.std.specs.Prelude.{IfErr, IfOk}
use Rattle.byte_device.specs.Devices.{stream}
use Rattle.byte_device.specs.declared.Source.{Ghosts as Sources}
use Rattle.archive_merge.specs.Losses.{IsNotCompared, Loses}
use Rattle.archive_records.specs.declared.fault.MergeCause.{MergeCause}
use Rattle.cli_files.proofs.Said.{no_loss}
use Rattle.cli_files.specs.FileCalls.{FileCall}
use Rattle.cli_files.specs.Comparing.{AreCompared, AreUncompared, IsBeforeComparison, IsOfComparison, Sides}
use Rattle.cli_files.specs.Refusals.{IsUnread}
use Rattle.cli_files.specs.declared.replaceable.OutFault.{OutFault}
use Rattle.cli_files.specs.declared.replaceable.Obstacle.TheVariants.{Damaged, Differs, Loses as Loses_records, OtherKind, Refused}
use Rattle.cli_files.specs.declared.replaceable.OutFault.TheVariants.{NotCreated, NotReplaced, OutOfMemory}
use Rattle.cli_files.specs.declared.sides.ArchiveSide.{ArchiveSide}

module _ {R : Type 0} (new old : Sources (ArchiveSide R)) (draft target : List ℕ) where
  -- both were read to their ends
  pub compared_at : (nb na ob oa : ArchiveSide R) (result : Result ℕ OutFault) → nb.path.now ≡ draft
      → ob.path.now ≡ target
      → IfOk result (λ lost. Loses (stream new.left new.failures nb na) (stream old.left old.failures ob oa) lost)
      → IfOk result (λ lost. AreCompared new old draft target lost)
  compared_at nb na ob oa (Ok lost) new_at old_at loses = record {
    sides = record { new_before = nb; new_after = na; old_before = ob; old_after = oa; new_at = new_at; old_at = old_at };
    loses = loses;
  }
  compared_at nb na ob oa (Err fault) new_at old_at loses = tt

  -- one was not
  of_unread : (sides : Sides R draft target) (stop : MergeCause) (calls : List FileCall) (fault : OutFault)
      → IsNotCompared (stream new.left new.failures sides.new_before sides.new_after)
      (stream old.left old.failures sides.old_before sides.old_after) stop
      → IsUnread stop sides.new_after.reading.reason sides.old_after.reading.reason fault
      → IsOfComparison new old draft target calls fault
  of_unread sides stop calls OutOfMemory stops unread = tt
  of_unread sides stop calls (NotReplaced Damaged) stops unread =
      record { sides = sides; stop = stop; stops = stops; unread = unread }
  of_unread sides stop calls (NotReplaced (Refused None)) stops unread =
      record { sides = sides; stop = stop; stops = stops; unread = unread }
  of_unread sides stop calls (NotReplaced (Refused (Some error))) stops unread =
      inr (record { sides = sides; stop = stop; stops = stops; unread = unread })
  of_unread sides stop calls (NotReplaced (OtherKind bytes)) stops unread = tt
  of_unread sides stop calls (NotReplaced (Loses_records lost)) stops unread = absurd (no_loss stop _ _ lost unread)
  of_unread sides stop calls (NotReplaced Differs) stops unread = tt
  of_unread sides stop calls (NotCreated reason) stops unread = tt

  pub uncompared_at : (nb na ob oa : ArchiveSide R) (calls : List FileCall) (result : Result ℕ OutFault)
      → nb.path.now ≡ draft → ob.path.now ≡ target
      → IfErr result (λ fault. (stop : MergeCause)
      × IsNotCompared (stream new.left new.failures nb na) (stream old.left old.failures ob oa) stop
      × IsUnread stop na.reading.reason oa.reading.reason fault)
      → IfErr result (λ fault. IsOfComparison new old draft target calls fault)
  uncompared_at nb na ob oa calls (Ok lost) new_at old_at stops = tt
  uncompared_at nb na ob oa calls (Err fault) new_at old_at (stop, stops, unread) = of_unread (record {
    new_before = nb;
    new_after = na;
    old_before = ob;
    old_after = oa;
    new_at = new_at;
    old_at = old_at;
  }) stop calls fault stops unread

  -- and neither was, as they were not opened
  pub before_comparison : (calls : List FileCall) (fault : OutFault) → IsBeforeComparison calls fault
      → IsOfComparison new old draft target calls fault
  before_comparison calls OutOfMemory before = tt
  before_comparison calls (NotReplaced Damaged) before = absurd before
  before_comparison calls (NotReplaced (Refused None)) before = absurd before
  before_comparison calls (NotReplaced (Refused (Some error))) before = inl before
  before_comparison calls (NotReplaced (OtherKind bytes)) before = tt
  before_comparison calls (NotReplaced (Loses_records lost)) before = absurd before
  before_comparison calls (NotReplaced Differs) before = absurd before
  before_comparison calls (NotCreated reason) before = absurd before
