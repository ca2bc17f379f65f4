use Rattle.std.proofs.Common.{◌∙◌, List, ℕ, length, refl, sym, ap, subst}
use Rattle.std.proofs.lemmas.Result.{err_from_is_err_and}
use Rattle.std.specs.List.Sorted.{IsStrictlySortedBy}
use Rattle.command_common.specs.Inputs.{readers}
use Rattle.command_common.proofs.Readers.{none_failed}
use Rattle.command_given_indexes.specs.Together.{HaveLengths}
use Rattle.command_given_indexes.proofs.Groups.{as_many, as_many_lengths}
use Rattle.command_extract.specs.Indexed.{IsNamedBy}
use Rattle.command_extract.proofs.ByEntry.{chosen_when_tied, read_under, refused_first, rows_so, wanting}
use Rattle.command_extract.proofs.indexes.choose_by.Goals as goal

pub read_indexes-requires-clause-ascending : goal.read_indexes-requires-clause-ascending
unfolding IsStrictlySortedBy
read_indexes-requires-clause-ascending g c = (tt, tt)

pub returns-in_err-read : goal.returns-in_err-read
returns-in_err-read g c =
    let indexes = readers g.I.Placed.whole g.I.Placed.failures c.args.indexes.now c.read_indexes.new.indexes in
    let archives = readers g.P.Placed.whole g.P.Placed.failures c.args.archives.now c.read_indexes.new.archives in
    let p = err_from_is_err_and c.from_residual.result c.from_residual.ensures.1 in
    rw (p.1, p.2) (refused_first indexes archives c.args.key.now c.args.digest.now c.in_err-read.field-0.0
    c.uuid_bytes.result c.uuid_bytes.ensures.bytes c.in_err-read.ensures.read)

pub returns-in_err-named : goal.returns-in_err-named
returns-in_err-named g c =
    let indexes = readers g.I.Placed.whole g.I.Placed.failures c.args.indexes.now c.read_indexes.new.indexes in
    let archives = readers g.P.Placed.whole g.P.Placed.failures c.args.archives.now c.read_indexes.new.archives in
    let read = rw (← c.deref.ensures.value) at c.in_ok-read.ensures.read in
    let p = err_from_is_err_and c.from_residual-in_err-named.result c.from_residual-in_err-named.ensures.1 in
    rw (p.1, p.2)
    (wanting indexes g.P.Placed.whole g.P.Placed.failures c.args.archives.now c.read_indexes.new.archives c.read_indexes.new.archives c.deref.result.now
    refl c.args.key.now (read_under indexes archives c.args.key.now c.uuid_bytes.result c.deref.result.now c.uuid_bytes.ensures.bytes read.is)
    read.unfailed c.in_ok-read.ensures.kept.1 c.args.digest.now
    (none_failed g.P.Placed.whole g.P.Placed.failures c.read_indexes.new.archives))

pub choose_tied-requires-clause-many : goal.choose_tied-requires-clause-many
choose_tied-requires-clause-many g c =
    let indexes = readers g.I.Placed.whole g.I.Placed.failures c.args.indexes.now c.read_indexes.new.indexes in
    ap length c.deref-in-Tied.ensures.value
    ∙ as_many _ indexes g.P.Placed.whole g.P.Placed.failures c.args.archives.now c.read_indexes.new.archives
    c.in_ok-read.read.items c.in_ok-read.ensures.read.is c.read_indexes.auto.archives

pub choose_tied-requires-clause-sizes : goal.choose_tied-requires-clause-sizes
choose_tied-requires-clause-sizes g c =
    ap length c.deref-in-Tied-2.ensures.value
    ∙ as_many_lengths g.P.Placed.whole g.P.Placed.failures c.args.archives.now c.read_indexes.new.archives
    c.in_ok-read.sizes.items c.in_ok-read.ensures.lengths c.read_indexes.auto.archives

pub returns-in-One : goal.returns-in-One
returns-in-One g c =
    let indexes = readers g.I.Placed.whole g.I.Placed.failures c.args.indexes.now c.read_indexes.new.indexes in
    let archives = readers g.P.Placed.whole g.P.Placed.failures c.args.archives.now c.read_indexes.new.archives in
    let read = rw (← c.deref.ensures.value) at c.in_ok-read.ensures.read in
    let choice = rw c.in-One.is at c.in_ok-named.ensures in
    let under = read_under indexes archives c.args.key.now c.uuid_bytes.result c.deref.result.now c.uuid_bytes.ensures.bytes read.is in
    let by : IsNamedBy indexes g.P.Placed.whole g.P.Placed.failures c.args.archives.now c.read_indexes.new.archives c.args.key.now c.args.digest.now
    c.in-One.named =
    record {
      all = c.deref.result.now;
      read = under;
      unfailed = read.unfailed;
      kept = c.in_ok-read.ensures.kept.1;
      x = choice.0;
      chosen = choice.1;
      names = choice.2;
    } in
    record {
      is = rw c.choose_named.ensures.place (by, c.choose_named.ensures.digest, c.choose_named.ensures.size);
      unfailed = wanting indexes g.P.Placed.whole g.P.Placed.failures c.args.archives.now c.read_indexes.new.archives c.read_indexes.new.archives
          c.deref.result.now
          refl c.args.key.now under read.unfailed c.in_ok-read.ensures.kept.1 c.args.digest.now
          (none_failed g.P.Placed.whole g.P.Placed.failures c.read_indexes.new.archives);
    }

pub returns-in-Undecided : goal.returns-in-Undecided
returns-in-Undecided g c =
    let indexes = readers g.I.Placed.whole g.I.Placed.failures c.args.indexes.now c.read_indexes.new.indexes in
    let archives = readers g.P.Placed.whole g.P.Placed.failures c.args.archives.now c.read_indexes.new.archives in
    let read = rw (← c.deref.ensures.value) at c.in_ok-read.ensures.read in
    let under = read_under indexes archives c.args.key.now c.uuid_bytes.result c.deref.result.now c.uuid_bytes.ensures.bytes read.is in
    let choice = rw c.in-Undecided.is at c.in_ok-named.ensures in
    let none = none_failed g.P.Placed.whole g.P.Placed.failures c.read_indexes.new.archives in
    record {
      is = rows_so indexes g.P.Placed.whole g.P.Placed.failures c.args.archives.now c.read_indexes.new.archives c.read_indexes.new.archives c.deref.result.now
          refl c.args.key.now under read.unfailed c.in_ok-read.ensures.kept.1 c.args.digest.now choice.0 c.in-Undecided.rows.items
          choice.1 choice.2 none;
      unfailed = wanting indexes g.P.Placed.whole g.P.Placed.failures c.args.archives.now c.read_indexes.new.archives c.read_indexes.new.archives
          c.deref.result.now
          refl c.args.key.now under read.unfailed c.in_ok-read.ensures.kept.1 c.args.digest.now none;
    }

pub returns-in-Tied : goal.returns-in-Tied
returns-in-Tied g c =
    let indexes = readers g.I.Placed.whole g.I.Placed.failures c.args.indexes.now c.read_indexes.new.indexes in
    let archives = readers g.P.Placed.whole g.P.Placed.failures c.args.archives.now c.read_indexes.new.archives in
    let read = rw (← c.deref-in-Tied.ensures.value) at c.in_ok-read.ensures.read in
    let under = read_under indexes archives c.args.key.now c.uuid_bytes.result c.deref-in-Tied.result.now c.uuid_bytes.ensures.bytes read.is in
    let choice = rw (c.in-Tied.is, c.deref.ensures.value, ← c.deref-in-Tied.ensures.value) at c.in_ok-named.ensures in
    let lengths = subst (λ (sizes : List ℕ). HaveLengths archives sizes) (sym c.deref-in-Tied-2.ensures.value) c.in_ok-read.ensures.lengths in
    chosen_when_tied indexes g.P.Placed.whole g.P.Placed.failures c.args.archives.now c.read_indexes.new.archives c.choose_tied.new.archives
    c.deref-in-Tied.result.now c.choose_tied.auto.archives c.args.key.now under read.unfailed c.in_ok-read.ensures.kept.1 c.args.digest.now
    g.A.Join.content choice.0 choice.1 c.deref-in-Tied-2.result.now lengths c.choose_tied.result c.choose_tied.ensures
