use Rattle.std.proofs.Common.{◌≡◌, take, drop}
use Rattle.command_common.specs.Inputs.{EachUnfailed, readers}
use Rattle.command_archives.specs.Merge.{HasJoined}
use Rattle.command_archives.proofs.merge.join_files.Given as goal

abbrev pub invariant-files : goal.invariant-files
invariant-files g l = record {
  joined : HasJoined (take l.index (readers g.S.Source.left g.S.Source.failures l.fn.files l.files))
      (g.A.Join.content l.initial.archive) (g.A.Join.content l.archive);
  unfailed : EachUnfailed (readers g.S.Source.left g.S.Source.failures l.fn.files l.files);
  rest : drop l.index l.files ≡ drop l.index l.fn.files;
}
