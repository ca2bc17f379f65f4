use Rattle.std.proofs.Common.{◌≡◌, ◌∙◌, sym, ap, map, filter, subst, true, false, length, [], ◌∷◌, List}
use Rattle.std.proofs.lemmas.Bool.{eqb-true, eq-eqb}
use Rattle.std.proofs.lemmas.List.{nil_from_length}
use Rattle.std.proofs.lemmas.Result.{IfOk-weaker}
use Rattle.archive_core.specs.Find.{AreAnswering}
use Rattle.archive_index.specs.InnerScan.{held_among}
use Rattle.archive_index.specs.InnerRange.{is_under_key}
use Rattle.archive_index.specs.declared.range.RecordKind.TheVariants.{Admission}
use Rattle.archive_index.proofs.Lookups.{companions_answer, images_answer}
use Rattle.archive_index.proofs.Ranges.{live_under}
use Rattle.archive_index.proofs.plain.PlainArchiveArchive.answering_slices.Goals as goal

nothing_mapped : {X Y : Type 0} (f : X → Y) (xs : List X) → map f xs ≡ [] → length xs ≡ 0
nothing_mapped f [] nothing = search
nothing_mapped f (x ∷ xs) nothing = cc

pub returns-then-is_empty : goal.returns-then-is_empty
returns-then-is_empty c =
    let o = c.args.self.now in
    let key = c.args.key.now in
    let operations = c.self.inside.operations.items in
    let under = c.under-admissions.ensures.range ∙ ap (filter (is_under_key Admission key)) c.deref.ensures.value in
    let nothing : c.in_ok-companions.companions.items ≡ [] =
    nil_from_length c.in_ok-companions.companions.items
    (sym c.in_ok-companions.companions.ok.0 ∙ eqb-true c.in_ok-companions.companions.len 0
    (sym c.is_empty.ensures ∙ c.if-is_empty.true)) in
    let none : held_among key true operations ≡ [] =
    sym (live_under key true operations) ∙ ap (held_among key true) (sym under) ∙ sym c.in_ok-companions.ensures ∙ ap (map (λ slice. slice.now)) nothing in
    let answering = images_answer o key operations c.self.invariant c.self.view_is c.under-admissions.ensures.key none in
    IfOk-weaker c.live_slices-then-is_empty.result (λ slices. map (λ slice. slice.now) slices.items ≡ held_among key false operations)
    (λ slices. AreAnswering o key (map (λ slice. slice.now) slices.items)) (λ slices is. subst (AreAnswering o key) (sym is) answering)
    (rw (under, live_under key false operations) at c.live_slices-then-is_empty.ensures)

pub returns : goal.returns
returns c =
    let o = c.args.self.now in
    let key = c.args.key.now in
    let operations = c.self.inside.operations.items in
    let under = c.under-admissions.ensures.range ∙ ap (filter (is_under_key Admission key)) c.deref.ensures.value in
    let held = c.in_ok-companions.ensures ∙ ap (held_among key true) under ∙ live_under key true operations in
    let some : (held_among key true operations ≡ [] → ⊥) = λ none.
    let zero = nothing_mapped (λ slice. slice.now) c.in_ok-companions.companions.items (held ∙ none) in
    let there : c.is_empty.result ≡ true = c.is_empty.ensures ∙ eq-eqb c.in_ok-companions.companions.len 0 (c.in_ok-companions.companions.ok.0 ∙ zero) in
    let not_there = c.if-is_empty.false in
    cc in
    subst (AreAnswering o key) (sym held) (companions_answer o key operations c.self.invariant c.self.view_is c.under-admissions.ensures.key some)
