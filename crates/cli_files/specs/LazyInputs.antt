-- The ghost functions of an input that is opened at its first read.
use Rattle.byte_device.specs.declared.Source.{Ghosts as Sources}
use Rattle.byte_device.specs.declared.Placed.{Ghosts as Places}
use Rattle.cli_files.specs.InputStates.{Told, bytes_at, left_in, stage_of}
use Rattle.cli_files.specs.declared.disks.Disk.{Ghosts as Disks}
use Rattle.cli_files.specs.declared.input_state.LazyInput.{LazyInput}

-- the ghost functions of an input over this disk, and over these two kinds of open files
abbrev pub told_by : {D I P : Type 0} (disk : Disks D I P) (input : Sources I) (places : Places P)
    → Told (LazyInput D I P disk input places)
told_by disk input places = record {
  left = λ s. left_in input.left (disk.file_at s.disk s.path.now) s.state;
  whole = λ s. bytes_at (disk.file_at s.disk s.path.now);
  failures = λ s. s.failures;
  path = λ s. s.path.now;
  file = λ s. disk.file_at s.disk s.path.now;
  stage = λ s. stage_of s.state;
  opened = λ s. disk.opened s.disk;
  wanting = λ s. disk.wanting s.disk;
}

-- the same, with the three arguments inferred
abbrev pub told : {D I P : Type 0} {disk : Disks D I P} {input : Sources I} {places : Places P}
    → Told (LazyInput D I P disk input places)
told {disk = disk} {input = input} {places = places} = told_by disk input places
