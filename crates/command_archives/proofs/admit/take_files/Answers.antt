use Rattle.std.proofs.Common.{◌≡◌, ◌<◌, ◌++◌, ◌∷◌, [], length, arith, refl, ap, ◌∙◌}
use Rattle.join_core.specs.Listing.{listing}
use Rattle.archive_core.specs.Content.{Operations}
use Rattle.command_archives.proofs.Files.{come_more, come_none}
use Rattle.command_archives.proofs.FirstRows.{no_listing, first_none}
use Rattle.command_archives.proofs.Passing.{passed_more}
use Rattle.command_common.proofs.Readers.{all_read, one_more, read_to, rest_kept, same_at}
use Rattle.command_archives.proofs.admit.take_files.Goals as goal

pub files-init : goal.files-init
files-init g c =
    let none = c.none-arrivals.ensures in
    record {
      taken = (
        [],
        come_none g.S.Opens.opening_of _ _ _ none.came none.rows
            (first_none _ _ _ (ap (λ (o : Operations). listing o) none.came ∙ no_listing) none.first_rows none.rows),
        refl,
      );
      rest = refl;
    }

pub files-preserved : goal.files-preserved
files-preserved g c =
    let got = c.in_ok-one.ensures in
    let lt : c.files.index < length c.args.files.now = omega arith in
    let is = same_at c.files.files c.args.files.now c.files.index c.index-files-index.result c.files.invariant.rest c.index-files-index.is in
    let seen = c.files.invariant.taken in
    record {
      taken = (
        seen.0 ++ got.0 ∷ [],
        come_more g.S.Opens.opening_of _ _ c.files.index _ _ got.0 _ _ (read_to _ _ _ _ _ lt c.files.auto.files)
            (one_more _ _ _ _ _ _ _ lt c.files.auto.files is)
            seen.1 (rw (← c.index-files-index.is) at got.1) got.2,
        rw (seen.2, got.3, passed_more seen.0 got.0) refl,
      );
      rest = rest_kept c.files.files c.args.files.now c.files.index c.take_file.new.file c.files.invariant.rest;
    }

pub returns : goal.returns
returns g c =
    let end : c.files.index ≡ length c.args.files.now = omega arith in
    rw (end, all_read g.S.Source.left g.S.Source.failures c.args.files.now c.files.files c.files.auto.files) at c.files.invariant.taken
