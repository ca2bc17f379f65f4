use Rattle.std.proofs.Common.{◌≡◌, ◌<◌, ◌++◌, ◌∷◌, [], Ok, length, arith, refl, ap, ◌∙◌}
use Rattle.std.proofs.lemmas.List.{map-append}
use Rattle.archive_records.proofs.Blamed.{failed}
use Rattle.byte_lazy_inputs.specs.declared.openings.Opening.TheVariants.{Fine}
use Rattle.command_common.specs.declared.faults.InputName.TheVariants.{File}
use Rattle.join_core.specs.Listing.{listing}
use Rattle.archive_core.specs.Content.{Operations}
use Rattle.command_common.specs.Inputs.{IsAccepted, IsFileRefused}
use Rattle.command_archives.proofs.Files.{all_accepted, come_more, come_none}
use Rattle.command_archives.specs.PassedOver.{Outcome}
use Rattle.command_archives.proofs.FirstRows.{no_listing, first_none}
use Rattle.command_common.proofs.Readers.{all_read, none_failed, one_more, read_to, refused_at, rest_kept, same_at, unfailed_more}
use Rattle.command_archives.proofs.admit.admit_files.Goals as goal

pub files-init : goal.files-init
files-init g c =
    let none = c.none-arrivals.ensures in
    record {
      taken = (
        [],
        come_none (λ _. Fine) _ _ _ none.came none.rows
            (first_none _ _ _ (ap (λ (o : Operations). listing o) none.came ∙ no_listing) none.first_rows none.rows),
      );
      unfailed = none_failed g.S.Source.left g.S.Source.failures c.args.files.now;
      rest = refl;
    }

pub files-preserved : goal.files-preserved
files-preserved g c =
    let got = c.in_ok-admit_file.ensures.is in
    let lt : c.files.index < length c.args.files.now = omega arith in
    let is = same_at c.files.files c.args.files.now c.files.index c.index-files-index.result c.files.invariant.rest c.index-files-index.is in
    let seen = c.files.invariant.taken in
    record {
      taken = (
        seen.0 ++ got.0 ∷ [],
        rw (map-append {B = Outcome} Ok seen.0 (got.0 ∷ []))
            (come_more (λ _. Fine) _ _ c.files.index _ _ (Ok got.0) _ _ (read_to _ _ _ _ _ lt c.files.auto.files)
            (one_more _ _ _ _ _ _ _ lt c.files.auto.files is)
            seen.1 (got.1, rw (← c.index-files-index.is) at got.2, rw (← c.index-files-index.is) at c.in_ok-admit_file.ensures.unfailed) got.3),
      );
      unfailed = unfailed_more _ _ _ _ _ _ _ lt c.files.auto.files is c.files.invariant.unfailed
          (rw (← c.index-files-index.is) at c.in_ok-admit_file.ensures.unfailed);
      rest = rest_kept c.files.files c.args.files.now c.files.index c.admit_file.new.file c.files.invariant.rest;
    }

pub returns-in_err-admit_file : goal.returns-in_err-admit_file
returns-in_err-admit_file g c =
    let lt : c.files.index < length c.args.files.now = omega arith in
    let is = same_at c.files.files c.args.files.now c.files.index c.index-files-index.result c.files.invariant.rest c.index-files-index.is in
    let seen = c.files.invariant.taken in
    rw (failed c.from_residual.result _ c.from_residual.ensures.1)
    (refused_at _ _ (λ n. File n) IsAccepted IsFileRefused _ _ _ _ _ _ lt c.files.auto.files is
    (all_accepted (λ _. Fine) _ seen.0 seen.1.become) c.files.invariant.rest c.files.invariant.unfailed
    (rw (← c.index-files-index.is) at c.in_err-admit_file.ensures))

pub returns : goal.returns
returns g c =
    let end : c.files.index ≡ length c.args.files.now = omega arith in
    record {
      is = rw (end, all_read g.S.Source.left g.S.Source.failures c.args.files.now c.files.files c.files.auto.files) at c.files.invariant.taken;
      unfailed = c.files.invariant.unfailed;
    }
