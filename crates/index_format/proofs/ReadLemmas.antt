-- What a call says that reads an index, said otherwise.
use Rattle.std.proofs.Common.{◌≡◌, ◌≢◌, ◌∙◌, ℕ, List, refl, subst, sym, inl, inr}
use Rattle.std.specs.Prelude.{Option, Some, Result, Ok, Err, IfErr, MatchResult, ◌⊎◌}
use Rattle.index_format.specs.Fault.{IsOfMachine, IsPartOffset}
use Rattle.index_format.specs.Reading.{Blames, IsRefused, ReadsText}
use Rattle.index_format.specs.declared.index_fault.IndexFault.{IndexFault}
use Rattle.index_format.specs.declared.index_fault.IndexFaultKind.{IndexFaultKind}
use Rattle.index_format.specs.declared.index_fault.IndexFaultKind.TheVariants.{Device}

-- a fault of the text is one of another kind too
pub refused_as : (A B : List ℕ → IndexFault → Type 0) (text : List ℕ) (f : IndexFault) → (A text f → B text f) → IsRefused A text f → IsRefused B text f
refused_as A B text f to (inl machine) = inl machine
refused_as A B text f to (inr fault) = inr (to fault)

err_as : {D T U : Type 0} (whole : D → Option (List ℕ)) (failures : D → ℕ) (old new : D) (f : IndexFault)
    (A : List ℕ → T → Type 0) (B : List ℕ → IndexFault → Type 0) (A' : List ℕ → U → Type 0) (B' : List ℕ → IndexFault → Type 0)
    → ((text : List ℕ) → whole old ≡ Some text → IsRefused B text f → IsRefused B' text f)
    → ReadsText whole failures old new (Err f) A B → ReadsText whole failures old new (Err f) A' B'
err_as whole failures old new f A B A' B' to h = record { says = λ text is. to text is (h.says text is); keeps = h.keeps; counts = h.counts }

-- a refusal is passed on
pub passed_on : {D T U : Type 0} {whole : D → Option (List ℕ)} {failures : D → ℕ} {old new : D} {f : IndexFault}
    {r : Result T IndexFault} {s : Result U IndexFault}
    {A : List ℕ → T → Type 0} {B : List ℕ → IndexFault → Type 0} {A' : List ℕ → U → Type 0} {B' : List ℕ → IndexFault → Type 0}
    → r ≡ Err f → s ≡ Err f → ((text : List ℕ) → whole old ≡ Some text → IsRefused B text f → IsRefused B' text f)
    → ReadsText whole failures old new r A B → ReadsText whole failures old new s A' B'
passed_on {whole = whole} {failures = failures} {old = old} {new = new} {f = f} {r = r} {s = s} {A = A} {B = B} {A' = A'} {B' = B'} was is to h =
    subst (λ t. ReadsText whole failures old new t A' B') (sym is)
    (err_as whole failures old new f A B A' B' to (subst (λ t. ReadsText whole failures old new t A B) was h))

said_as : {T : Type 0} (r : Result T IndexFault) (A A' : T → Type 0) (B B' : IndexFault → Type 0)
    → ((value : T) → A value → A' value) → ((f : IndexFault) → B f → B' f) → MatchResult r A B → MatchResult r A' B'
said_as (Ok value) A A' B B' of to h = of value h
said_as (Err f) A A' B B' of to h = to f h

-- what is read is read
pub read_as : {D T : Type 0} {whole : D → Option (List ℕ)} {failures : D → ℕ} {old new : D}
    {r : Result T IndexFault} {A : List ℕ → T → Type 0} {B : List ℕ → IndexFault → Type 0} {A' : List ℕ → T
    → Type 0} {B' : List ℕ → IndexFault → Type 0} → ((text : List ℕ) → whole old ≡ Some text → (value : T)
    → A text value → A' text value)
    → ((text : List ℕ) → whole old ≡ Some text → (f : IndexFault) → IsRefused B text f → IsRefused B' text f)
    → ReadsText whole failures old new r A B → ReadsText whole failures old new r A' B'
read_as {whole = whole} {failures = failures} {old = old} {new = new} {r = r} {A = A} {B = B} {A' = A'}
    {B' = B'} of to h = record {
      says = λ text is. said_as r (A text) (A' text) (IsRefused B text) (IsRefused B' text) (of text is) (to text is)
          (h.says text is);
      keeps = h.keeps;
      counts = h.counts;
    }

-- what is read after a call that did not fail
pub after_ok : {D T : Type 0} {whole : D → Option (List ℕ)} {failures : D → ℕ} {old mid new : D}
    {r : Result T IndexFault} {A : List ℕ → T → Type 0} {B : List ℕ → IndexFault → Type 0}
    → whole mid ≡ whole old → failures mid ≡ failures old → ReadsText whole failures mid new r A B → ReadsText whole failures old new r A B
after_ok {whole = whole} {failures = failures} {old = old} {mid = mid} {new = new} {r = r} {A = A} {B = B} same unfailed h = record {
  says = λ text is. h.says text (same ∙ is);
  keeps = h.keeps ∙ same;
  counts = subst (λ n. MatchResult r (λ _. failures new ≡ n) (λ f. Blames n (failures new) f.kind)) unfailed h.counts;
}

-- a refusal under a premise that holds
pub flat : {P : Type 0} (B : List ℕ → IndexFault → Type 0) (text : List ℕ) (f : IndexFault)
    → ((IsOfMachine f.kind × IsPartOffset text f.offset) ⊎ P) → (P → IsRefused B text f) → IsRefused B text f
flat B text f (inl machine) to = inl machine
flat B text f (inr under) to = to under

-- a device that did not fail is not blamed
pub unfailed_blames : (old new : ℕ) (kind : IndexFaultKind) → kind ≢ Device → new ≡ old → Blames old new kind
unfailed_blames old new Device other same = absurd (other refl)
unfailed_blames old new _ other same = same

-- what was read is checked
pub checked : {D T : Type 0} (whole : D → Option (List ℕ)) (failures : D → ℕ) (old new : D) (r : Result T IndexFault)
    (A : List ℕ → T → Type 0) (B : List ℕ → IndexFault → Type 0)
    → whole new ≡ whole old → failures new ≡ failures old
    → ((text : List ℕ) → whole old ≡ Some text → MatchResult r (A text) (B text)) → IfErr r (λ f. f.kind ≢ Device)
    → ReadsText whole failures old new r A B
checked whole failures old new (Ok value) A B keeps same says other = record { says = says; keeps = keeps; counts = same }
checked whole failures old new (Err f) A B keeps same says other =
    record {
      says = λ text is. inr (says text is);
      keeps = keeps;
      counts =
          unfailed_blames (failures old) (failures new) f.kind other same;
    }

-- a premise of what is said
pub under : {T P : Type 0} (r : Result T IndexFault) (A : T → Type 0) (B : IndexFault → Type 0)
    → (P → MatchResult r A B) → MatchResult r (λ value. P → A value) (λ f. P → B f)
under (Ok value) A B h = h
under (Err f) A B h = h

-- a fault of the text is one that the machine might have had
pub as_refused : {T : Type 0} (r : Result T IndexFault) (A : T → Type 0) (B : List ℕ → IndexFault → Type 0)
    (text : List ℕ) → MatchResult r A (B text) → MatchResult r A (IsRefused B text)
as_refused (Ok value) A B text h = h
as_refused (Err f) A B text h = inr h
