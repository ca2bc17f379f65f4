use Rattle.std.proofs.Common.{◌∙◌, map, length, ap, subst}
use Rattle.std.proofs.lemmas.Result.{err_from_is_err_and}
use Rattle.command_common.specs.Inputs.{EachUnfailed, ReadsInputs, readers}
use Rattle.command_given_indexes.specs.Prefixes.{prefix_bytes}
use Rattle.command_given_indexes.specs.Together.{HoldNamed, IsFirstRefusedAtPlaces}
use Rattle.command_given_indexes.proofs.Groups.{as_many, as_many_lengths, first_refused, reads_later}
use Rattle.command_given_indexes.proofs.together.read_archives_by_indexes.Goals as goal

pub returns-in_err-read : goal.returns-in_err-read
returns-in_err-read g c =
    let p = err_from_is_err_and c.from_residual.result c.from_residual.ensures.1 in
    let indexes = readers g.I.Placed.whole g.I.Placed.failures c.args.indexes.now c.read_indexes.new.indexes in
    let archives = readers g.P.Placed.whole g.P.Placed.failures c.args.archives.now c.read_indexes.new.archives in
    rw (p.1, p.2) (first_refused c.args.uuids.now (map prefix_bytes c.args.prefixes.now) indexes archives c.in_err-read.field-0.0 c.in_err-read.ensures.read)

pub read_prefixes-requires-clause-many : goal.read_prefixes-requires-clause-many
read_prefixes-requires-clause-many g c =
    let whole = g.P.Placed.whole in
    let failures = g.P.Placed.failures in
    let old = c.args.archives.now in
    let mid = c.read_indexes.new.archives in
    let indexes = readers g.I.Placed.whole g.I.Placed.failures c.args.indexes.now c.read_indexes.new.indexes in
    ap length c.deref.ensures.value
    ∙ as_many c.args.uuids.now indexes whole failures old mid c.in_ok-read.read.items c.in_ok-read.ensures.read.is c.read_indexes.auto.archives

pub read_prefixes-requires-clause-sizes : goal.read_prefixes-requires-clause-sizes
read_prefixes-requires-clause-sizes g c =
    ap length c.deref-2.ensures.value
    ∙ as_many_lengths g.P.Placed.whole g.P.Placed.failures c.args.archives.now c.read_indexes.new.archives
    c.in_ok-read.sizes.items c.in_ok-read.ensures.lengths c.read_indexes.auto.archives

pub returns : goal.returns
returns g c =
    let whole = g.P.Placed.whole in
    let failures = g.P.Placed.failures in
    let old = c.args.archives.now in
    let mid = c.read_indexes.new.archives in
    let now = c.read_prefixes.new.archives in
    let indexes = readers g.I.Placed.whole g.I.Placed.failures c.args.indexes.now c.read_indexes.new.indexes in
    let read = c.in_ok-read.ensures in
    let prefixes = map prefix_bytes c.args.prefixes.now in
    let later = readers whole failures mid now in
    reads_later c.args.uuids.now prefixes indexes whole failures old mid now c.in_ok-read.read.items c.in_ok-read.sizes.items c.read_indexes.auto.archives
    (c.read_prefixes.auto.archives ∙ c.read_indexes.auto.archives) read.read.is read.lengths read.read.unfailed read.kept.1
    g.A.Join.content c.read_prefixes.result
    (subst (λ sizes. ReadsInputs c.read_prefixes.result (λ kept. HoldNamed prefixes later c.in_ok-read.read.items (g.A.Join.content kept))
    (IsFirstRefusedAtPlaces prefixes later c.in_ok-read.read.items sizes) (EachUnfailed later)) c.deref-2.ensures.value
    (subst (λ all. ReadsInputs c.read_prefixes.result (λ kept. HoldNamed prefixes later all (g.A.Join.content kept))
    (IsFirstRefusedAtPlaces prefixes later all c.deref-2.result.now) (EachUnfailed later)) c.deref.ensures.value c.read_prefixes.ensures.read))
