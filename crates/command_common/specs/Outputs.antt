-- The bytes that are written to OUT and to the report.
use Rattle.std.specs.Prelude.{◌≡◌, ℕ, List, [], ◌++◌, length, Option, Some, Result, Ok, Err, ◌⊎◌}
use Rattle.std.specs.FinSet as set
use Rattle.std.specs.Io.KnownBytes.{Appends}
use Rattle.byte_device.specs.Devices.{FailedIn, Stream, stream}
use Rattle.byte_device.specs.Writes.{WritesFirst}
use Rattle.archive_core.specs.Content.{Operations}
use Rattle.archive_core.specs.Summary.{Entries}
use Rattle.archive_records.specs.Text.{summary_text, written}
use Rattle.archive_records.specs.declared.writing.Sizes.{Sizes}
use Rattle.text_reports.specs.Report.{archive_line, summary_line}
use Rattle.command_common.specs.declared.faults.CommandFault.{CommandFault}
use Rattle.command_common.specs.declared.faults.CommandFault.TheVariants.{Input, Output, Report, OutOfMemory}
use Rattle.command_common.specs.declared.faults.Status.{Status}
use Rattle.command_common.specs.declared.faults.Status.TheVariants.{Done}
use Rattle.byte_device.specs.declared.targets.Output.{Output as Out_value}

-- A writer in a call: its contents before and after, if known, and the number of its failures before and after.
pub record Writer : Type 0 where
  pub old : Option (List ℕ)
  pub new : Option (List ℕ)
  pub failures_old : ℕ
  pub failures_new : ℕ

-- the writer with these two states
abbrev pub writer : {W : Type 0} → (W → Option (List ℕ)) → (W → ℕ) → W → W → Writer
writer held failures old new = record {
  old = held old;
  new = held new;
  failures_old = failures old;
  failures_new = failures new;
}

-- The writer accepted exactly this text, and did not fail.
abbrev pub Takes : Writer → List ℕ → Type 0
Takes w text = Appends w.old w.new text × (w.failures_new ≡ w.failures_old)

-- The writer failed after exactly the first n bytes of the text.
abbrev pub FailsBehind : Writer → List ℕ → ℕ → Type 0
FailsBehind w text n = WritesFirst w.old w.new text n × FailedIn w.failures_old w.failures_new

-- OUT before and after a call. The functions are the contents of its draft, if known, and the number of the draft's
-- failures; the published text, if there is one, and the number of failures to publish.
pub record Outs (D T : Type 0) : Type 0 where
  pub held : D → Option (List ℕ)
  pub draft_failures : D → ℕ
  pub published : T → Option (List ℕ)
  pub failures : T → ℕ
  pub old : Out_value D T
  pub new : Out_value D T

-- OUT with these two states
abbrev pub outs : {D T : Type 0} → (D → Option (List ℕ)) → (D → ℕ) → (T → Option (List ℕ)) → (T → ℕ) → Out_value D T
    → Out_value D T → Outs D T
outs held draft_failures published failures old new = record {
  held = held;
  draft_failures = draft_failures;
  published = published;
  failures = failures;
  old = old;
  new = new;
}

-- its draft, as a device
abbrev pub draft_of : {D T : Type 0} → Outs D T → Stream D
draft_of out = stream out.held out.draft_failures out.old.draft out.new.draft

-- The known facts about OUT in a call: its draft; the published text before and after the call, if known; and the
-- numbers of failures to publish.
pub record Out : Type 0 where
  pub draft : Writer
  pub published_old : Option (List ℕ)
  pub published_new : Option (List ℕ)
  pub failures_old : ℕ
  pub failures_new : ℕ

abbrev pub out_of : {D T : Type 0} → Outs D T → Out
out_of out = record {
  draft = writer out.held out.draft_failures out.old.draft out.new.draft;
  published_old = out.published out.old.target;
  published_new = out.published out.new.target;
  failures_old = out.failures out.old.target;
  failures_new = out.failures out.new.target;
}

-- Nothing was published, and no attempt was made.
abbrev pub PublishesNothing : Out → Type 0
PublishesNothing out = (out.published_new ≡ out.published_old) × (out.failures_new ≡ out.failures_old)

-- Its draft accepted nothing, and nothing was published.
abbrev pub IsKept : Out → Type 0
IsKept out = Takes out.draft [] × PublishesNothing out

-- Its draft accepted exactly this text, which was published, and nothing failed. The draft is then a new one.
pub record IsPublished (out : Out) (text : List ℕ) : Type 0 where
  pub published : Appends out.draft.old out.published_new text
  pub emptied : out.draft.new ≡ Some []
  pub draft_unfailed : out.draft.failures_new ≡ out.draft.failures_old
  pub unfailed : out.failures_new ≡ out.failures_old

-- Its draft accepted exactly this text, which could not be published.
pub record FailsToPublish (out : Out) (text : List ℕ) : Type 0 where
  pub took : Takes out.draft text
  pub kept : out.published_new ≡ out.published_old
  pub failed : FailedIn out.failures_old out.failures_new

-- OUT failed after exactly the first n bytes of the text, and none is published: its draft accepted no more, or
-- accepted the whole text, which could not be published.
abbrev pub FailsAt : Out → List ℕ → ℕ → Type 0
FailsAt out text n =
    (FailsBehind out.draft text n × PublishesNothing out) ⊎ ((n ≡ length text) × FailsToPublish out text)

-- The text is published, and then the report is written: for each result, the bytes that each received. If memory runs
-- out, nothing is published.
abbrev pub Publishes : Out → Writer → List ℕ → List ℕ → Result Status CommandFault → Type 0
Publishes out report text told (Ok status) = (status ≡ Done) × IsPublished out text × Takes report told
Publishes out report text told (Err (Input _ _)) = ⊥
Publishes out report text told (Err (Output n)) = FailsAt out text n × Takes report []
Publishes out report text told (Err (Report n)) = IsPublished out text × FailsBehind report told n
Publishes out report text told (Err OutOfMemory) =
    (Takes out.draft [] ⊎ Takes out.draft text) × PublishesNothing out × Takes report []

-- The text is written to the report, which needs no memory: for each result, the bytes that it received.
abbrev pub Reports : Writer → Status → List ℕ → Result Status CommandFault → Type 0
Reports report status text (Ok ended) = (ended ≡ status) × Takes report text
Reports report status text (Err (Input _ _)) = ⊥
Reports report status text (Err (Output _)) = ⊥
Reports report status text (Err (Report n)) = FailsBehind report text n
Reports report status text (Err OutOfMemory) = ⊥

-- the number of records of a content, and the length of its text
abbrev pub sizes_of : Operations → Sizes
sizes_of o = record { records = set.len o; bytes = length (written o) }

-- the report of a command that writes an archive: its own lines, and the sizes of the archive
abbrev pub report_of : Operations → List ℕ → List ℕ
report_of o lines = lines ++ archive_line (sizes_of o)

-- the number of entries of a summary, and the length of its text
abbrev pub summary_sizes_of : Entries → Sizes
summary_sizes_of s = record { records = set.len s; bytes = length (summary_text s) }

-- the report of a command that writes a summary
abbrev pub summary_report_of : Entries → List ℕ
summary_report_of s = summary_line (summary_sizes_of s)
