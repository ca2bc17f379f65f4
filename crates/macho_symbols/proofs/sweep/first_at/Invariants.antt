use Rattle.std.proofs.Common.{◌≡◌, ℕ, List, Contains}
use Rattle.std.specs.Prelude.{IfSome}
use Rattle.macho_symbols.specs.Symbols.{strings_of}
use Rattle.macho_symbols.specs.InnerCandidates.{AreAbove, AreCandidates, AreFirstsOf, AreUpTo, IsLeastOrNone}
use Rattle.macho_symbols.specs.SectionNumbers.{AreSectionsOf}
use Rattle.macho_symbols.specs.declared.candidate.Candidate.{Candidate}
use Rattle.macho_symbols.proofs.SweepLemmas.{Seen}
use Rattle.macho_symbols.proofs.sweep.first_at.Given as goal

abbrev pub invariant-sections : goal.invariant-sections
invariant-sections l = (image : List ℕ) (candidates : List Candidate) (count : ℕ) (of : AreSectionsOf image l.sections)
    → l.names ≡ strings_of image → (are : AreCandidates image candidates) → AreFirstsOf l.names candidates count l.firsts
    → AreUpTo candidates count l.address → AreAbove candidates count l.address → IfSome l.initial.best (λ c. Contains candidates c × (c.value ≡ l.address))
    → IsLeastOrNone (strings_of image) (Seen image l.sections candidates l.address of are l.initial.best l.index) l.best
