use Rattle.std.proofs.Common.{◌≡◌, ◌∙◌, ℕ, List, [], ap, sym, subst, inl, inr, refl, map}
use Rattle.archive_records.proofs.Blamed.{failed}
use Rattle.index_format.specs.Entry.{entry_bytes}
use Rattle.index_format.specs.Fault.{FailsAfter}
use Rattle.index_format.specs.InnerReading.{AreEndsOf, AreEntriesOf, AreChecked}
use Rattle.index_format.specs.Text.{AreLaid, HasNumbers, archive_length, entries_in, first_in, retired_in, start_in}
use Rattle.index_format.specs.declared.ends.Ends.{Ends}
use Rattle.index_format.specs.declared.entry.IndexEntry.{IndexEntry}
use Rattle.index_format.proofs.Fronts.{laid_ascending}
use Rattle.index_format.proofs.Checks.{pass_ascending}
use Rattle.index_format.proofs.reading.check_entries.Goals as goal

-- the same of the text
checked_in : (text bytes : List ℕ) (ends : Ends) (entries : List IndexEntry) → AreEndsOf text ends
    → AreEntriesOf text bytes → AreChecked ends.start bytes entries
    → AreChecked (start_in text) (entries_in text) entries
checked_in text bytes ends entries are of h = subst (λ (n : ℕ). AreChecked n (entries_in text) entries) are.start_is
    (subst (λ (b : List ℕ). AreChecked ends.start b entries) of.bytes_are h)

-- what is told of the entries where they are borrowed
laid_of : (end : ℕ) (borrowed entries : List IndexEntry) → borrowed ≡ entries → AreLaid end (map entry_bytes borrowed) → AreLaid end (map entry_bytes entries)
laid_of end borrowed entries same = subst (λ (xs : List IndexEntry). AreLaid end (map entry_bytes xs)) same

pub returns-in_err-entries-clause-faulty : goal.returns-in_err-entries-clause-faulty
returns-in_err-entries-clause-faulty c =
    let f = c.in_err-entries.field-0.0 in
    let ends = c.args.ends.now in
    rw (failed c.from_residual.result f c.from_residual.ensures.1)
    (elim c.in_err-entries.ensures.faulty [
      | inl machine ↦ inl machine
      | inr after ↦ inr (λ text are of. inl (record {
        digest = of.digest;
        before = after.0;
        after = subst (λ (n : ℕ). FailsAfter n (first_in text) (entries_in text) after.0 f) are.start_is
            (subst (λ (n : ℕ). FailsAfter ends.start n (entries_in text) after.0 f) are.first_is
            (subst (λ (b : List ℕ). FailsAfter ends.start ends.first b after.0 f) of.bytes_are after.1));
      }))
    ])

-- the numbers of the text are those of the entries
numbers_of : (text : List ℕ) (ends : Ends) (entries same : List IndexEntry) → AreEndsOf text ends → same ≡ entries
    → (ends.retired ≡ retired_in (map entry_bytes same)) × (ends.archive_len ≡ archive_length (map entry_bytes same))
    → HasNumbers text (map entry_bytes entries)
numbers_of text ends entries same are is numbers = record {
  retired_is = sym are.retired_is ∙ numbers.0 ∙ ap (λ (xs : List IndexEntry). retired_in (map entry_bytes xs)) is;
  length_is = sym are.length_is ∙ numbers.1 ∙ ap (λ (xs : List IndexEntry). archive_length (map entry_bytes xs)) is;
}

pub has_numbers-requires : goal.has_numbers-requires
has_numbers-requires c = rw c.deref.ensures.value c.in_ok-entries.ensures.read.fields

pub are_laid-requires : goal.are_laid-requires
are_laid-requires c = record {
  fields = rw c.deref-2.ensures.value c.in_ok-entries.ensures.read.fields;
  checked = rw c.deref-2.ensures.value c.in_ok-entries.ensures.read.pass;
}

pub returns-then-not-has_numbers-clause-faulty : goal.returns-then-not-has_numbers-clause-faulty
returns-then-not-has_numbers-clause-faulty c = rw c.bad_place.ensures (inr (λ text are of.
    let entries = c.in_ok-entries.entries.items in
    let there = checked_in text c.args.bytes.now c.args.ends.now entries are of c.in_ok-entries.ensures.read in
    inr (record {
      digest = of.digest;
      entries = map entry_bytes entries;
      whole = sym there.whole;
      pass = there.pass;
      unlaid = λ laid numbers. cc (c.if-not-has_numbers.ensures.1 (
        are.retired_is ∙ numbers.retired_is ∙ ap (λ (xs : List IndexEntry). retired_in (map entry_bytes xs)) (sym c.deref.ensures.value),
        are.length_is ∙ numbers.length_is ∙ ap (λ (xs : List IndexEntry). archive_length (map entry_bytes xs)) (sym c.deref.ensures.value),
      ));
      kind_is = refl;
      offset_is = are.start_is;
    })))

pub returns-in-Ok-true-clause-read : goal.returns-in-Ok-true-clause-read
returns-in-Ok-true-clause-read c = λ text are of.
    let entries = c.in_ok-entries.entries.items in
    let laid = laid_of c.args.ends.now.start _ entries c.deref-2.ensures.value (c.in-Ok-true.ensures.0 c.in-Ok-true.field-0-test) in
    record {
      digest = of.digest;
      checked = checked_in text c.args.bytes.now c.args.ends.now entries are of c.in_ok-entries.ensures.read;
      laid = subst (λ (n : ℕ). AreLaid n (map entry_bytes entries)) are.start_is laid;
      numbers = numbers_of text c.args.ends.now entries _ are c.deref.ensures.value (c.if-not-has_numbers.ensures.0 refl);
    }

pub returns-in-Ok-true-clause-sorted : goal.returns-in-Ok-true-clause-sorted
returns-in-Ok-true-clause-sorted c =
    let read = c.in_ok-entries.ensures.read in
    let bytes = map entry_bytes c.in_ok-entries.entries.items in
    record {
      fields = read.fields;
      ascending = (pass_ascending c.args.ends.now.start [] bytes read.pass).1;
      placed_ascending = laid_ascending c.args.ends.now.start bytes read.pass
          (laid_of c.args.ends.now.start _ _ c.deref-2.ensures.value (c.in-Ok-true.ensures.0 c.in-Ok-true.field-0-test));
    }

pub returns-in-Ok-false-clause-faulty : goal.returns-in-Ok-false-clause-faulty
returns-in-Ok-false-clause-faulty c = rw c.bad_place-in-Ok-false.ensures (inr (λ text are of.
    let entries = c.in_ok-entries.entries.items in
    let there = checked_in text c.args.bytes.now c.args.ends.now entries are of c.in_ok-entries.ensures.read in
    inr (record {
      digest = of.digest;
      entries = map entry_bytes entries;
      whole = sym there.whole;
      pass = there.pass;
      unlaid = λ laid numbers. cc (
        c.in-Ok-false.field-0-test,
        c.in-Ok-false.ensures.1 (subst (λ (n : ℕ). AreLaid n (map entry_bytes c.deref-2.result.now)) (sym are.start_is)
            (rw c.deref-2.ensures.value laid)),
      );
      kind_is = refl;
      offset_is = are.start_is;
    })))

pub returns-then-not-has_numbers-clause-device : goal.returns-then-not-has_numbers-clause-device
returns-then-not-has_numbers-clause-device c = rw c.bad_place.ensures (λ e. cc (e))

pub returns-in-Ok-false-clause-device : goal.returns-in-Ok-false-clause-device
returns-in-Ok-false-clause-device c = rw c.bad_place-in-Ok-false.ensures (λ e. cc (e))
