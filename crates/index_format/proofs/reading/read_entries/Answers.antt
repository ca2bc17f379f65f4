use Rattle.std.proofs.Common.{◌≡◌, ◌∙◌, List, ℕ, Err, Ok, ap, sym, inl, inr, subst}
use Rattle.std.specs.Prelude.{◌⊎◌, IfErr, IfOk, MatchResult, Result}
use Rattle.std.proofs.lemmas.Result.{err_from_is_err_and}
use Rattle.index_format.specs.Fault.{FailsDigest, FailsInEntries, FailsInPlaces}
use Rattle.index_format.specs.InnerReading.{AreEndsOf, AreEntriesOf, AreReadOf, FailsAfterEnds}
use Rattle.index_format.specs.Reading.{IsRefused}
use Rattle.index_format.specs.declared.ends.Ends.{Ends}
use Rattle.index_format.specs.declared.entry.IndexEntry.{IndexEntry}
use Rattle.index_format.specs.declared.index_fault.IndexFault.{IndexFault}
use Rattle.index_format.specs.declared.index_fault.IndexFaultKind.TheVariants.{OutOfMemory}
use Rattle.index_format.proofs.ReadLemmas.{passed_on, refused_as, checked, flat}
use Rattle.index_format.proofs.reading.read_entries.Goals as goal

pub returns-in_err-bytes-clause-read : goal.returns-in_err-bytes-clause-read
returns-in_err-bytes-clause-read g c =
    let p = err_from_is_err_and c.from_residual.result c.from_residual.ensures.1 in
    passed_on c.in_err-bytes.was (p.1 ∙ ap Err p.2)
    (λ text known refused. inr (λ are. refused_as FailsDigest FailsAfterEnds text _ (λ fault. inl fault)
    (flat FailsDigest text _ refused (λ under. under are)))) c.read_bytes.ensures.read

-- what the checks say of the text
said : {T : Type 0} (r : Result T IndexFault) (ends : Ends) (bytes text : List ℕ) (entries_of : T → List IndexEntry)
    → IfOk r (λ v. (t : List ℕ) → AreEndsOf t ends → AreEntriesOf t bytes → AreReadOf t (entries_of v))
    → IfErr r (λ f. ((f.kind ≡ OutOfMemory) × (f.offset ≡ ends.start))
    ⊎ ((t : List ℕ) → AreEndsOf t ends → AreEntriesOf t bytes → FailsInEntries t f ⊎ FailsInPlaces t f))
    → (AreEndsOf text ends → AreEntriesOf text bytes)
    → MatchResult r (λ v. AreEndsOf text ends → AreReadOf text (entries_of v)) (λ f. AreEndsOf text ends → IsRefused FailsAfterEnds text f)
said (Ok v) ends bytes text entries_of read faulty are_entries = λ are. read text are (are_entries are)
said (Err f) ends bytes text entries_of read (inl machine) are_entries = λ are. inl (inr machine.0, inr (inr (machine.1 ∙ are.start_is)))
said (Err f) ends bytes text entries_of read (inr fault) are_entries = λ are. inr (inr (fault text are (are_entries are)))

pub returns-clause-read : goal.returns-clause-read
returns-clause-read g c =
    let read = c.in_ok-bytes.ensures.read in
    checked _ _ _ _ _ _ _ read.keeps read.counts
    (λ text known. said c.check_entries.result c.args.ends.now c.deref.result.now text (λ entries. entries.items)
    c.check_entries.ensures.read c.check_entries.ensures.faulty
    (λ are. subst (AreEntriesOf text) (sym c.deref.ensures.value) (read.says text known are)))
    c.check_entries.ensures.device
