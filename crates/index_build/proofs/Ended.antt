-- How `index` ends, from what its parts did.
use Rattle.std.proofs.Common.{◌≡◌, ℕ, List, [], Option, length, Result, Ok, Err, ap, inl, inr}
use Rattle.std.specs.FinSet as set
use Rattle.byte_device.specs.Devices.{Stream}
use Rattle.archive_records.specs.declared.writing.Sizes.{Sizes}
use Rattle.index_build.specs.declared.fault.MakingFault.{MakingFault}
use Rattle.index_build.specs.declared.fault.MakingFault.TheVariants.{Archive as Refused, Write as Wrote}
use Rattle.command_common.specs.Ends.{Carries, EndsStreamed, HasTaken, IsStopped}
use Rattle.command_common.specs.Inputs.{Reader, Unfailed, reader}
use Rattle.command_common.specs.Outputs.{Out, PublishesNothing, Publishes, Takes, Writer}
use Rattle.command_common.specs.declared.faults.CommandFault.{CommandFault}
use Rattle.command_common.specs.declared.faults.CommandFault.TheVariants.{Input, Output, Report, OutOfMemory}
use Rattle.command_common.specs.declared.faults.Status.{Status}
use Rattle.index_build.specs.Index.{MakesIndex, StopsIndex, TellsStop, index, index_line}
use Rattle.index_build.specs.InnerIndexing.{IsIndexed}

-- the report stops nothing
untold : (fault : MakingFault) (n : ℕ) → TellsStop fault (Report n) → ⊥
untold (Refused fault) n tells = absurd tells
untold (Wrote fault) n tells = cc

unreported : {R D : Type 0} (left : R → Option (List ℕ)) (failures : R → ℕ) (old new : R) (draft : Stream D) (n : ℕ)
    → StopsIndex (reader left failures old new) draft (Report n) → ⊥
unreported left failures old new draft n stops = untold stops.stopped n stops.tells

module _ {R D : Type 0} (left : R → Option (List ℕ)) (failures : R → ℕ) (old new : R) (draft : Stream D) (out : Out) (report : Writer) where
  abbrev archive : Reader R
  archive = reader left failures old new

  abbrev EndsSo : Result Status CommandFault → Type 0
  EndsSo result = EndsStreamed (index archive draft) out report result

  -- it was stopped
  pub ends_stopped : (fault : CommandFault) → HasTaken out.draft fault × StopsIndex archive draft fault
      → PublishesNothing out → Takes report [] → EndsSo (Err fault)
  ends_stopped fault s nothing none = ends fault (record
      { stops = s.1; bytes = s.0.0; took = s.0.1; count = s.0.2; nothing_published = nothing; unreported = none })
    where
      ends : (f : CommandFault) → IsStopped (index archive draft) out report f → EndsSo (Err f)
      ends (Input at why) stop = stop
      ends (Output n) stop = inl stop
      ends (Report n) stop = absurd (unreported left failures old new draft n stop.stops)
      ends OutOfMemory stop = inl stop

  -- its index was made, and what the draft had taken then is published
  module _ (taken : Stream D) (sizes : Sizes) (made : IsIndexed archive taken sizes) where
    sizes_are : sizes ≡ record { records = set.len made.content; bytes = length made.text }
    sizes_are = λ i. record { records = made.written_is.records_are i; bytes = made.written_is.bytes_are i }

    carries : (r : Result Status CommandFault) → Publishes out report made.text (index_line sizes) r → Unfailed archive
        × Carries (MakesIndex archive) out report r
    carries r p = (
      made.unfailed,
      record {
        text = made.text;
        told = index_line sizes;
        makes = record {
          content = made.content;
          is_content = made.is_content;
          slices = made.slices;
          archive_is = made.archive_is;
          text_is = made.is_index;
          told_is = ap index_line sizes_are;
        };
        published = p;
      },
    )

    pub ends_published : (r : Result Status CommandFault) → Publishes out report made.text (index_line sizes) r → EndsSo r
    ends_published (Ok status) p = carries (Ok status) p
    ends_published (Err (Input at why)) p = absurd p
    ends_published (Err (Output n)) p = inr (carries (Err (Output n)) p)
    ends_published (Err (Report n)) p = carries (Err (Report n)) p
    ends_published (Err OutOfMemory) p = inr (carries (Err OutOfMemory) p)
