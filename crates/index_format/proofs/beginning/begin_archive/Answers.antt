use Rattle.std.proofs.Common.{◌≡◌, ◌<◌, arith, length, length-take, take, subst}
use Rattle.std.specs.Io.KnownBytes.{Consumes}
use Rattle.archive_records.specs.Kind.{magic}
use Rattle.archive_records.proofs.Blamed.{failed}
use Rattle.index_format.proofs.Made.{begun, magic_is, wanted}
use Rattle.index_format.proofs.Versions.{never_long, tells_version}
use Rattle.index_format.proofs.beginning.begin_archive.Goals as goal

pub returns-in-Ok-begin-clause-read : goal.returns-in-Ok-begin-clause-read
returns-in-Ok-begin-clause-read g c =
    let is : take c.in-Ok.came c.take_magic.new.magic ≡ magic = c.in_ok-test_magic.ensures in
    let taken : Consumes (g.R.Source.left c.args.r.now) (g.R.Source.left c.take_magic.new.r) magic =
    subst (Consumes (g.R.Source.left c.args.r.now) (g.R.Source.left c.take_magic.new.r)) is c.in-Ok.ensures.taken in
    begun c.in-Ok-begin.reader.file _ (g.R.Source.left c.args.r.now) _ (g.R.Source.left c.take_magic.new.r)
    c.take_magic.new.magic c.in-Ok-begin.reader c.in-Ok-begin.ensures.kind c.new.ensures.left
    (magic_is c.take_magic.new.magic c.in-Ok.came c.take_magic.auto.magic c.in-Ok.ensures.within is) c.in-Ok-begin.ensures.read taken

pub returns-in-Err-begin-clause-stopped : goal.returns-in-Err-begin-clause-stopped
returns-in-Err-begin-clause-stopped g c =
    let is : take c.in-Ok.came c.take_magic.new.magic ≡ magic = c.in_ok-test_magic.ensures in
    rw c.out_of_memory.ensures (wanted (g.R.Source.left c.args.r.now) (g.R.Source.left c.take_magic.new.r)
    (subst (Consumes (g.R.Source.left c.args.r.now) (g.R.Source.left c.take_magic.new.r)) is c.in-Ok.ensures.taken))

pub returns-in_err-test_magic-clause-version : goal.returns-in_err-test_magic-clause-version
returns-in_err-test_magic-clause-version g c =
    let came = take c.in-Ok.came c.take_magic.new.magic in
    let some : length came < 8 → c.in-Ok.came < 8 = λ short. omega (arith, short, length-take c.in-Ok.came c.take_magic.new.magic, c.take_magic.ensures.long) in
    rw (failed c.from_residual.result c.in_err-test_magic.field-0.0 c.from_residual.ensures.1)
    (tells_version (g.R.Source.left c.args.r.now) (g.R.Source.left c.take_magic.new.r) came
    c.in_err-test_magic.field-0.0 c.in-Ok.ensures.taken (λ short. c.in-Ok.ensures.at_end (some short))
    c.in_err-test_magic.ensures)

pub returns-in_err-test_magic-clause-near : goal.returns-in_err-test_magic-clause-near
returns-in_err-test_magic-clause-near g c =
    rw (failed c.from_residual.result c.in_err-test_magic.field-0.0 c.from_residual.ensures.1)
    (never_long (take c.in-Ok.came c.take_magic.new.magic) c.in_err-test_magic.field-0.0
    c.in_err-test_magic.ensures)
