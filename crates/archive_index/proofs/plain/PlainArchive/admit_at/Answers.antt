use Rattle.std.proofs.Common.{rules, ◌≡◌, ◌≤◌, ℕ, List, true, false, sym, ◌∙◌, ap, length, map, subst, refl}
use Rattle.std.proofs.Math.ListN.{length-map}
use Rattle.std.specs.Ordering.{nat_cmp}
use Rattle.std.specs.Cmp.Lexicographic.{slice_cmp, nat_list_cmp_total}
use Rattle.std.specs.List.{insert as insert_at}
use Rattle.std.specs.FinSet as set
use Rattle.join_core.specs.Listing.{listing}
use Rattle.join_core.proofs.Listing.{listing_ascending}
use Rattle.archive_core.specs.Content.{is_covered, IsMade}
use Rattle.archive_core.specs.InnerHeld.{IsHeld}
use Rattle.archive_core.specs.declared.operations.Operation.{Operation}
use Rattle.archive_core.specs.Record.{record_bytes, admission_record}
use Rattle.archive_core.specs.declared.operations.Operation.TheVariants.{Admit}
use Rattle.archive_core.proofs.Made.{or_left, or_right}
use Rattle.archive_index.proofs.Held.{bytes_same, map_insert, records_insert}
use Rattle.archive_index.proofs.Put.{covered_slice, made_with_admission, held_admission}
use Rattle.archive_core.proofs.Taken.{known_changes, new_changes, with_known}
use Rattle.archive_index.proofs.plain.PlainArchive.admit_at.Goals as goal

-- the list of what a plain archive holds is that of its operations
placed_within : (items : List Operation) (o : set.FinSet (slice_cmp nat_cmp)) (index : ℕ) → IsHeld items
    → set.from_list (map record_bytes items) ≡ o → index ≤ length items → index ≤ length (listing o)
placed_within items o index held is within =
    rw (← is, listing_ascending nat_list_cmp_total bytes_same (map record_bytes items) held.ascending, length-map items record_bytes) within

placed_listing : (items : List Operation) (o new : set.FinSet (slice_cmp nat_cmp)) (index : ℕ) (slice : List ℕ)
    → IsHeld items → set.from_list (map record_bytes items) ≡ o → IsHeld (insert_at items index (Admit slice))
    → new ≡ set.from_list (map record_bytes (insert_at items index (Admit slice))) → listing new ≡ insert_at (listing o) index (admission_record slice)
placed_listing items o new index slice held is held_new new_is =
    rw (
      new_is,
      listing_ascending nat_list_cmp_total bytes_same (map record_bytes (insert_at items index (Admit slice)))
          held_new.ascending,
      map_insert items index (Admit slice),
      ← is,
      listing_ascending nat_list_cmp_total bytes_same (map record_bytes items) held.ascending,
    ) refl

pub returns-then-retires-clause-taken : goal.returns-then-retires-clause-taken
returns-then-retires-clause-taken c =
    let o = c.args.self.now in
    let slice = c.keep_digest.new.slice in
    let covered : is_covered o (admission_record slice) ≡ true = covered_slice o slice c.retires.ensures.valid
    ∙ rw (c.of-borrowed.ensures, c.deref.ensures.value, c.self.view_is) at
    (sym c.retires.ensures.retires ∙ c.if-retires.true) in
    rw (← c.keep_digest.ensures) (c.self.view_is ∙ sym
    (with_known o (admission_record slice) (subst IsMade c.self.view_is c.self.invariant.itself)
    (or_right (set.contains o (admission_record slice)) (is_covered o (admission_record slice)) covered)))

pub returns-then-retires-clause-place : goal.returns-then-retires-clause-place
returns-then-retires-clause-place c =
    let o = c.args.self.now in
    let slice = c.keep_digest.new.slice in
    let covered : is_covered o (admission_record slice) ≡ true = covered_slice o slice c.retires.ensures.valid
    ∙ rw (c.of-borrowed.ensures, c.deref.ensures.value, c.self.view_is) at
    (sym c.retires.ensures.retires ∙ c.if-retires.true) in
    rw (← c.keep_digest.ensures) ((
      known_changes o (admission_record slice)
          (or_right (set.contains o (admission_record slice)) (is_covered o (admission_record slice)) covered),
      c.self.view_is,
    ))

pub invariant_of-self-in-Err : goal.invariant_of-self-in-Err
invariant_of-self-in-Err c =
    let o = c.args.self.now in
    let slice = c.keep_digest.new.slice in
    let free : is_covered o (admission_record slice) ≡ false = covered_slice o slice c.retires.ensures.valid
    ∙ rw (c.of-borrowed.ensures, c.deref.ensures.value, c.self.view_is) at
    (sym c.retires.ensures.retires ∙ c.if-retires.false) in
    rw c.in_ok-insert-in-Err.ensures.items
    (held_admission c.self.inside.operations.items c.in-Err.index slice c.self.invariant c.retires.ensures.valid
    (rw (← c.deref-2.ensures.value) c.in-Err.ensures.found.absent) (rw c.self.view_is free))

pub returns-in-Ok-clause-taken : goal.returns-in-Ok-clause-taken
returns-in-Ok-clause-taken c =
    let o = c.args.self.now in
    let r = admission_record c.keep_digest.new.slice in
    let same : c.match-admission.self ≡ o = search rules in
    rw (← c.keep_digest.ensures) (same ∙ sym (with_known o r (subst IsMade c.self.view_is c.self.invariant.itself)
    (or_left (set.contains o r) (is_covered o r) (rw (← c.self.view_is, ← c.deref-2.ensures.value)
    c.in-Ok.ensures.found.present))))

pub returns-in-Ok-clause-place : goal.returns-in-Ok-clause-place
returns-in-Ok-clause-place c =
    let o = c.args.self.now in
    let r = admission_record c.keep_digest.new.slice in
    let same : c.match-admission.self ≡ o = search rules in
    rw (← c.keep_digest.ensures) ((
      known_changes o r (or_left (set.contains o r) (is_covered o r)
          (rw (← c.self.view_is, ← c.deref-2.ensures.value) c.in-Ok.ensures.found.present)),
      same,
    ))

pub returns-in_ok-insert-in-Err-clause-taken : goal.returns-in_ok-insert-in-Err-clause-taken
returns-in_ok-insert-in-Err-clause-taken c =
    let o = c.args.self.now in
    let slice = c.keep_digest.new.slice in
    let free : is_covered o (admission_record slice) ≡ false = covered_slice o slice c.retires.ensures.valid
    ∙ rw (c.of-borrowed.ensures, c.deref.ensures.value, c.self.view_is) at
    (sym c.retires.ensures.retires ∙ c.if-retires.false) in
    rw (← c.keep_digest.ensures) (ap (λ items. set.from_list {R = slice_cmp nat_cmp} (map record_bytes items)) c.in_ok-insert-in-Err.ensures.items
    ∙ records_insert c.self.inside.operations.items c.in-Err.index (Admit slice)
    ∙ ap (λ s. set.insert s (admission_record slice)) c.self.view_is
    ∙ sym (made_with_admission o (admission_record slice) (subst IsMade c.self.view_is c.self.invariant.itself) refl free))

pub returns-in_ok-insert-in-Err-clause-place : goal.returns-in_ok-insert-in-Err-clause-place
returns-in_ok-insert-in-Err-clause-place c =
    let o = c.args.self.now in
    let slice = c.keep_digest.new.slice in
    let items = c.self.inside.operations.items in
    let index = c.in-Err.index in
    let free : is_covered o (admission_record slice) ≡ false = covered_slice o slice c.retires.ensures.valid
    ∙ rw (c.of-borrowed.ensures, c.deref.ensures.value, c.self.view_is) at
    (sym c.retires.ensures.retires ∙ c.if-retires.false) in
    let held = held_admission items index slice c.self.invariant c.retires.ensures.valid
    (rw (← c.deref-2.ensures.value) c.in-Err.ensures.found.absent) (rw c.self.view_is free) in
    rw (← c.keep_digest.ensures) (
      new_changes o (admission_record slice) (rw (← c.self.view_is, ← c.deref-2.ensures.value) c.in-Err.ensures.found.absent.absent) free,
      placed_within items o index c.self.invariant c.self.view_is (rw (← c.deref-2.ensures.value) c.in-Err.ensures.bound),
      placed_listing items o _ index slice c.self.invariant c.self.view_is held
          (ap (λ xs. set.from_list {R = slice_cmp nat_cmp} (map record_bytes xs)) c.in_ok-insert-in-Err.ensures.items),
    )
