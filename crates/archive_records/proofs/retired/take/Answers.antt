use Rattle.std.proofs.Common.{◌≡◌, get_or, arith, inl, refl, sym, ap, ◌∙◌}
use Rattle.std.specs.FinSet as set
use Rattle.archive_records.specs.Reader.{set_of}
use Rattle.archive_records.specs.declared.format.Format.TheVariants.{Archive}
use Rattle.archive_records.proofs.Forms.{long-retirement, tag-retirement, parts-of}
use Rattle.archive_records.proofs.FoundOut.{found_last, found_record, keeps_admission, none_retires, some_admits, uncovered_retirement}
use Rattle.archive_records.proofs.Shared.{keeps_retirement}
use Rattle.archive_records.proofs.retired.take.Goals as goal

pub retires_beside-requires : goal.retires_beside-requires
retires_beside-requires c = found_last Archive c.args.bytes.now c.args.found.now c.requires

pub record_of-requires : goal.record_of-requires
record_of-requires c = long-retirement c.args.bytes.now (none_retires c.args.bytes.now c.args.found.now (sym c.is_some.ensures ∙ c.if-is_some.false) c.requires)

pub returns-then-is_some-clause-found : goal.returns-then-is_some-clause-found
returns-then-is_some-clause-found c = found_record c.args.bytes.now c.retires_beside.new.found
    (inl (some_admits c.args.bytes.now c.args.found.now (sym c.is_some.ensures ∙ c.if-is_some.true) c.requires))
    c.retires_beside.ensures.found

pub returns-then-is_some-clause-kept : goal.returns-then-is_some-clause-kept
returns-then-is_some-clause-kept c =
    let admits = some_admits c.args.bytes.now c.args.found.now (sym c.is_some.ensures ∙ c.if-is_some.true) c.requires in
    let tag : get_or c.args.bytes.now 0 0 ≡ 2 = (parts-of c.args.bytes.now admits).tag in
    keeps_admission _ c.retires_beside.result c.args.bytes.now (λ one. omega (arith, one, tag)) (c.retires_beside.ensures.retires (inl admits))

pub returns-in-Err-clause-refused : goal.returns-in-Err-clause-refused
returns-in-Err-clause-refused c = (
  refl,
  uncovered_retirement _ c.args.bytes.now (tag-retirement c.args.bytes.now
      (none_retires c.args.bytes.now c.args.found.now (sym c.is_some.ensures ∙ c.if-is_some.false) c.requires)),
)

pub returns-in-Ok-clause-kept : goal.returns-in-Ok-clause-kept
returns-in-Ok-clause-kept c =
    let tag = tag-retirement c.args.bytes.now (none_retires c.args.bytes.now c.args.found.now (sym c.is_some.ensures ∙ c.if-is_some.false) c.requires) in
    keeps_retirement _ c.args.retired.now c.keep.new.self c.args.bytes.now tag
    (c.in-Ok.ensures.kept ∙ ap (set.insert (set_of c.args.retired.now)) c.record_of.ensures)
