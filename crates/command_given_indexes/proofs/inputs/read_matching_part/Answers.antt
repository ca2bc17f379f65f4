use Rattle.std.proofs.Common.{ℕ, subst}
use Rattle.std.proofs.lemmas.Result.{err_from_is_err_and}
use Rattle.command_common.specs.Inputs.{IsRefusal, Unfailed, reader}
use Rattle.byte_device.specs.Places.{HasSize}
use Rattle.command_given_indexes.specs.Indexes.{IsOfOtherLength}
use Rattle.command_given_indexes.proofs.Refused.{part_archive_refused}
use Rattle.command_given_indexes.proofs.inputs.read_matching_part.Goals as goal

pub returns-in_err-check_length-clause-read : goal.returns-in_err-check_length-clause-read
returns-in_err-check_length-clause-read g c =
    let p = err_from_is_err_and c.from_residual-in_err-check_length.result c.from_residual-in_err-check_length.ensures.1 in
    let index = reader g.I.Placed.whole g.I.Placed.failures c.args.index.now c.read_part_input.new.index in
    let archive = reader g.P.Placed.whole g.P.Placed.failures c.args.archive.now c.check_length.new.archive in
    let read = c.in_ok-part.ensures.read in
    let fault = c.in_err-check_length.field-0.0 in
    rw (p.1, p.2) (part_archive_refused c.args.number index archive c.args.uuids.now fault _ c.in_ok-part.size
    read.is read.unfailed (subst (λ (n : ℕ). IsRefusal (IsOfOtherLength c.args.number archive n) (Unfailed archive) fault) c.from.ensures
    c.in_err-check_length.ensures.tests))

pub returns-clause-read : goal.returns-clause-read
returns-clause-read g c =
    let read = c.in_ok-part.ensures.read in
    let tested = c.in_ok-check_length.ensures.tests in
    record {
      is = record {
        size = c.in_ok-part.size;
        index_is = read.is;
        archive_is = subst (λ (n : ℕ). HasSize (g.P.Placed.whole c.args.archive.now) n) c.from.ensures tested.is;
      };
      unfailed = (read.unfailed, tested.unfailed);
    }

pub returns-clause-size : goal.returns-clause-size
returns-clause-size g c =
    subst (λ (n : ℕ). HasSize (g.P.Placed.whole c.args.archive.now) n) c.from.ensures c.in_ok-check_length.ensures.tests.is
