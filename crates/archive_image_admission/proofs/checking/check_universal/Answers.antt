use Rattle.std.proofs.Common.{◌≡◌, ◌<◌, ◌∙◌, arith, refl}
use Rattle.std.proofs.lemmas.Result.{err_from_is_err_and}
use Rattle.archive_image_admission.proofs.Files.{checked_none, checked_more}
use Rattle.archive_image_admission.proofs.Found.{found_none, found_more, found_all, valid_if_begins}
use Rattle.archive_image_admission.proofs.Accepting.{accepted_fat, nothing_fat, refused_fat}
use Rattle.archive_image_admission.proofs.checking.check_universal.Goals as goal

pub parts-init : goal.parts-init
parts-init c = (checked_none _, found_none _ _ refl)

pub parts-preserved : goal.parts-preserved
parts-preserved c =
    let facts = c.in_ok-facts.facts in
    let part = c.slice.result.now in
    let here = c.in_ok-facts.ensures.found in
    let room : c.parts.index < 32 = omega (arith, c.len-index-end.ensures.few) in (
      checked_more _ c.parts.index part c.parts.has_slice c.is_some-has_slice.result c.parts.invariant.0
          c.slice.ensures.part (c.is_some-has_slice.ensures ∙ c.in_ok-facts.ensures.begins)
          (valid_if_begins part facts here),
      found_more _ c.parts.index part c.parts.found facts c.parts.invariant.1 c.slice.ensures.part here room,
    )

pub returns-in_err-facts-clause-refused : goal.returns-in_err-facts-clause-refused
returns-in_err-facts-clause-refused c =
    let p = err_from_is_err_and c.from_residual-in_err-facts.result c.from_residual-in_err-facts.ensures.1 in
    let u = c.in_ok-universal in
    rw (p.1, p.2)
    (refused_fat c.args.file.now u.universal c.requires u.ensures.sound u.ensures.bytes c.parts.index c.slice.result.now
    c.parts.has_slice _ c.one_slice_fault.ensures.none c.parts.invariant.0 c.slice.ensures.part
    c.in_err-facts.ensures.refused)

pub returns-then-has_slice-clause-accepted : goal.returns-then-has_slice-clause-accepted
returns-then-has_slice-clause-accepted c =
    let u = c.in_ok-universal in
    let all : c.parts.index ≡ c.len-index-end.result = omega arith in
    accepted_fat c.args.file.now u.universal c.requires u.ensures.sound u.ensures.bytes c.parts.index c.parts.has_slice
    (all ∙ c.len-index-end.ensures.number) c.if-has_slice.true c.parts.invariant.0

pub returns-then-has_slice-clause-found : goal.returns-then-has_slice-clause-found
returns-then-has_slice-clause-found c =
    let u = c.in_ok-universal in
    let all : c.parts.index ≡ c.len-index-end.result = omega arith in (
      c.requires,
      u.ensures.bytes,
      found_all c.args.file.now u.universal c.parts.index c.parts.found u.ensures.bytes
          (all ∙ c.len-index-end.ensures.number) c.parts.invariant.1,
    )

pub returns-else-has_slice-clause-refused : goal.returns-else-has_slice-clause-refused
returns-else-has_slice-clause-refused c =
    let u = c.in_ok-universal in
    let all : c.parts.index ≡ c.len-index-end.result = omega arith in
    nothing_fat c.args.file.now u.universal c.requires u.ensures.sound u.ensures.bytes c.parts.index c.parts.has_slice
    (all ∙ c.len-index-end.ensures.number) c.if-has_slice.false c.parts.invariant.0
