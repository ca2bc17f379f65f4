use Rattle.std.proofs.Common.{ℕ, refl, subst}
use Rattle.std.proofs.lemmas.Result.{err_from_is_err_and}
use Rattle.byte_device.specs.Places.{HasSize}
use Rattle.command_given_indexes.specs.Indexes.{IsOfOtherLength}
use Rattle.index_format.specs.Text.{placed_of}
use Rattle.command_common.specs.Inputs.{IsRefusal, Unfailed, reader}
use Rattle.command_given_indexes.proofs.Refused.{archive_refused, first_refused}
use Rattle.command_given_indexes.proofs.inputs.read_first_index.Goals as goal

pub returns-in_err-tables : goal.returns-in_err-tables
returns-in_err-tables g c =
    let p = err_from_is_err_and c.from_residual.result c.from_residual.ensures.1 in
    let index = reader g.I.Placed.whole g.I.Placed.failures c.args.index.now c.read_index_input.new.index in
    let archive = reader g.P.Placed.whole g.P.Placed.failures c.args.archive.now c.args.archive.now in
    rw (p.1, p.2) (first_refused 0 index archive c.in_err-tables.field-0.0 refl c.in_err-tables.ensures.read)

pub returns-in_err-check_length : goal.returns-in_err-check_length
returns-in_err-check_length g c =
    let p = err_from_is_err_and c.from_residual-in_err-check_length.result c.from_residual-in_err-check_length.ensures.1 in
    let index = reader g.I.Placed.whole g.I.Placed.failures c.args.index.now c.read_index_input.new.index in
    let archive = reader g.P.Placed.whole g.P.Placed.failures c.args.archive.now c.check_length.new.archive in
    let read = c.in_ok-tables.ensures.read in
    let fault = c.in_err-check_length.field-0.0 in
    rw (p.1, p.2) (archive_refused 0 index archive fault (placed_of c.in_ok-tables.tables)
    (record { are = c.len-count.ensures.entries; all = c.in_ok-tables.tables; holds = read.is; placed = refl }) read.unfailed
    (subst (λ (n : ℕ). IsRefusal (IsOfOtherLength 0 archive n) (Unfailed archive) fault) c.archive_size.ensures c.in_err-check_length.ensures.tests))

pub returns : goal.returns
returns g c =
    let read = c.in_ok-tables.ensures.read in
    let tested = c.in_ok-check_length.ensures.tests in
    record {
      is = record {
        index_is = record { are = c.len-count.ensures.entries; all = _; holds = read.is; placed = refl };
        archive_is = subst (λ (n : ℕ). HasSize (g.P.Placed.whole c.args.archive.now) n) c.archive_size.ensures tested.is;
      };
      unfailed = (read.unfailed, tested.unfailed);
    }
