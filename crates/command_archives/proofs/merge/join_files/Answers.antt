use Rattle.std.proofs.Common.{◌≡◌, ◌<◌, length, arith, refl}
use Rattle.archive_records.proofs.Blamed.{failed}
use Rattle.command_common.specs.Inputs.{IsArchive, IsArchiveRefused}
use Rattle.command_common.specs.Archives.{further_name}
use Rattle.command_archives.proofs.Joined.{joined_none, joined_more, joined_archives}
use Rattle.command_common.proofs.Readers.{all_read, none_failed, one_more, refused_at, rest_kept, same_at, unfailed_more}
use Rattle.command_archives.proofs.merge.join_files.Goals as goal

pub files-init : goal.files-init
files-init g c = record { joined = joined_none _; unfailed = none_failed g.S.Source.left g.S.Source.failures c.args.files.now; rest = refl }

pub files-preserved : goal.files-preserved
files-preserved g c =
    let got = c.in_ok-join_file.ensures.is in
    let lt : c.files.index < length c.args.files.now = omega arith in
    let is = same_at c.files.files c.args.files.now c.files.index c.index-files-index.result c.files.invariant.rest c.index-files-index.is in
    record {
      joined = joined_more _ _ _ _ _ _ got.content (one_more _ _ _ _ _ _ _ lt c.files.auto.files is)
          c.files.invariant.joined got.is_content (rw (← c.index-files-index.is) at got.text) got.is_true;
      unfailed = unfailed_more _ _ _ _ _ _ _ lt c.files.auto.files is c.files.invariant.unfailed
          (rw (← c.index-files-index.is) at c.in_ok-join_file.ensures.unfailed);
      rest = rest_kept c.files.files c.args.files.now c.files.index c.join_file.new.file c.files.invariant.rest;
    }

pub returns-in_err-join_file : goal.returns-in_err-join_file
returns-in_err-join_file g c =
    let lt : c.files.index < length c.args.files.now = omega arith in
    let is = same_at c.files.files c.args.files.now c.files.index c.index-files-index.result c.files.invariant.rest c.index-files-index.is in
    rw (failed c.from_residual.result _ c.from_residual.ensures.1)
    (refused_at _ _ further_name IsArchive IsArchiveRefused _ _ _ _ _ _ lt c.files.auto.files is
    (joined_archives _ _ _ c.files.invariant.joined) c.files.invariant.rest c.files.invariant.unfailed
    (rw (← c.index-files-index.is) at c.in_err-join_file.ensures))

pub returns : goal.returns
returns g c =
    let end : c.files.index ≡ length c.args.files.now = omega arith in
    record {
      is = rw (end, all_read g.S.Source.left g.S.Source.failures c.args.files.now c.files.files c.files.auto.files) at c.files.invariant.joined;
      unfailed = c.files.invariant.unfailed;
    }
