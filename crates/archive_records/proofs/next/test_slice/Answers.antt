use Rattle.std.proofs.Common.{length, refl, arith, sym, ◌∙◌, ap}
use Rattle.std.proofs.lemmas.Bool.{false≢true}
use Rattle.std.proofs.lemmas.List.{take_rest}
use Rattle.archive_core.specs.Key.{key_bytes}
use Rattle.archive_core.specs.Valid.{key_of}
use Rattle.archive_records.proofs.Holds.{holds, whole-admission}
use Rattle.archive_records.proofs.Forms.{retires, admits}
use Rattle.archive_records.specs.declared.format.Format.TheVariants.{Archive}
use Rattle.archive_records.proofs.next.test_slice.Goals as goal

pub bounds-bytes-0 : goal.bounds-bytes-0
bounds-bytes-0 c = omega (arith, (holds Archive c.args.bytes.now (length c.args.bytes.now) c.requires.whole).one)

pub returns-then-bytes-eq-RETIREMENT-clause-found : goal.returns-then-bytes-eq-RETIREMENT-clause-found
returns-then-bytes-eq-RETIREMENT-clause-found c =
    (retires c.args.bytes.now c.requires.whole c.if-bytes-eq-RETIREMENT.true (λ i. omega (arith, c.type_inv.bytes i)))

pub slice_bounds-check-count : goal.slice_bounds-check-count
slice_bounds-check-count c = omega (arith, (whole-admission Archive c.args.bytes.now c.requires.whole c.requires.item c.if-bytes-eq-RETIREMENT.false).1)

pub slice_bounds-check-start : goal.slice_bounds-check-start
slice_bounds-check-start c = omega (arith, (whole-admission Archive c.args.bytes.now c.requires.whole c.requires.item c.if-bytes-eq-RETIREMENT.false).1)

pub returns-then-has_key-clause-found : goal.returns-then-has_key-clause-found
returns-then-has_key-clause-found c =
    let form = whole-admission Archive c.args.bytes.now c.requires.whole c.requires.item c.if-bytes-eq-RETIREMENT.false in
    let v = rw take_rest at c.in-Ok.ensures.valid in
    let k = c.key.ensures ∙ ap key_of (rw take_rest at c.in-Ok.ensures.slice) in
    let facts = c.facts.ensures in (
      admits c.args.bytes.now form v (c.if-has_key.ensures.0 refl ∙ ap key_bytes k)
          (λ i. omega (arith, c.type_inv.bytes i)),
      rw (rw take_rest at c.in-Ok.ensures.slice) at facts,
    )

pub returns-else-has_key-clause-refused : goal.returns-else-has_key-clause-refused
returns-else-has_key-clause-refused c =
    let form = whole-admission Archive c.args.bytes.now c.requires.whole c.requires.item c.if-bytes-eq-RETIREMENT.false in
    let v = rw take_rest at c.in-Ok.ensures.valid in
    let k = c.key.ensures ∙ ap key_of (rw take_rest at c.in-Ok.ensures.slice) in
    (form.0, v, λ e. false≢true (c.if-has_key.ensures.1 (e ∙ sym (ap key_bytes k))))

pub returns-in-Err-clause-refused : goal.returns-in-Err-clause-refused
returns-in-Err-clause-refused c =
    let form = whole-admission Archive c.args.bytes.now c.requires.whole c.requires.item c.if-bytes-eq-RETIREMENT.false in
    (form.0, rw take_rest at c.in-Err.ensures.faulty)
