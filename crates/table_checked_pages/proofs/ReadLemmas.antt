-- What a call says that reads stored bytes, said otherwise.
use Rattle.std.proofs.Common.{◌∙◌, ◌≡◌, ◌≢◌, ℕ, List, IsErrAnd, ap, refl, sym, subst}
use Rattle.std.proofs.lemmas.Result.{err_from_is_err_and}
use Rattle.std.specs.Prelude.{Option, Some, Result, Ok, Err, IfErr, IfOk, MatchResult}
use Rattle.table_checked_pages.specs.Reading.{Blames, IsRefused, ReadsStored}
use Rattle.table_checked_pages.specs.declared.fault.CheckFault.{CheckFault}
use Rattle.table_checked_pages.specs.declared.fault.CheckFault.TheVariants.{Changed, Device, OutOfMemory}

refused_as : (A B : Type 0) (f : CheckFault) → (A → B) → IsRefused A f → IsRefused B f
refused_as A B Changed to h = to h
refused_as A B Device to h = h
refused_as A B OutOfMemory to h = h

said_as : {T : Type 0} (r : Result T CheckFault) (A A' : T → Type 0) (B B' : Type 0)
    → ((value : T) → A value → A' value) → (B → B') → MatchResult r A (IsRefused B) → MatchResult r A' (IsRefused B')
said_as (Ok value) A A' B B' of to h = of value h
said_as (Err f) A A' B B' of to h = refused_as B B' f to h

-- what is read is read
pub read_as : {D T : Type 0} {whole : D → Option (List ℕ)} {failures : D → ℕ} {old new : D}
    {r : Result T CheckFault} {A : List ℕ → T → Type 0} {B : List ℕ → Type 0} {A' : List ℕ → T → Type 0}
    {B' : List ℕ → Type 0} → ((text : List ℕ) → whole old ≡ Some text → (value : T) → A text value → A' text value)
    → ((text : List ℕ) → whole old ≡ Some text → B text → B' text) → ReadsStored whole failures old new r A B
    → ReadsStored whole failures old new r A' B'
read_as {whole = whole} {failures = failures} {old = old} {new = new} {r = r} {A = A} {B = B} {A' = A'}
    {B' = B'} of to h = record {
      says = λ text is. said_as r (A text) (A' text) (B text) (B' text) (of text is) (to text is) (h.says text is);
      keeps = h.keeps;
      counts = h.counts;
    }

err_as : {D T U : Type 0} (whole : D → Option (List ℕ)) (failures : D → ℕ) (old new : D) (f : CheckFault)
    (A : List ℕ → T → Type 0) (B : List ℕ → Type 0) (A' : List ℕ → U → Type 0) (B' : List ℕ → Type 0)
    → ((text : List ℕ) → whole old ≡ Some text → B text → B' text) → ReadsStored whole failures old new (Err f) A B
    → ReadsStored whole failures old new (Err f) A' B'
err_as whole failures old new f A B A' B' to h = record {
  says = λ text is. refused_as (B text) (B' text) f (to text is) (h.says text is);
  keeps = h.keeps;
  counts =
      h.counts;
}

-- a refusal is passed on by `?`
pub passed_on : {D T U : Type 0} {whole : D → Option (List ℕ)} {failures : D → ℕ} {old new : D} {f : CheckFault}
    {r : Result T CheckFault} {s : Result U CheckFault}
    {A : List ℕ → T → Type 0} {B : List ℕ → Type 0} {A' : List ℕ → U → Type 0} {B' : List ℕ → Type 0}
    → r ≡ Err f → IsErrAnd s (λ g. g ≡ f) → ((text : List ℕ) → whole old ≡ Some text → B text → B' text)
    → ReadsStored whole failures old new r A B → ReadsStored whole failures old new s A' B'
passed_on {whole = whole} {failures = failures} {old = old} {new = new} {f = f} {r = r} {s = s} {A = A} {B = B} {A' = A'} {B' = B'} was is to h =
    let p = err_from_is_err_and s is in
    subst (λ t. ReadsStored whole failures old new t A' B') (sym (p.1 ∙ ap Err p.2))
    (err_as whole failures old new f A B A' B' to (subst (λ t. ReadsStored whole failures old new t A B) was h))

-- what is read after a call that did not fail
pub after_ok : {D T : Type 0} {whole : D → Option (List ℕ)} {failures : D → ℕ} {old mid new : D}
    {r : Result T CheckFault} {A : List ℕ → T → Type 0} {B : List ℕ → Type 0}
    → whole mid ≡ whole old → failures mid ≡ failures old → ReadsStored whole failures mid new r A B → ReadsStored whole failures old new r A B
after_ok {whole = whole} {failures = failures} {old = old} {mid = mid} {new = new} {r = r} {A = A} {B = B} same unfailed h = record {
  says = λ text is. h.says text (same ∙ is);
  keeps = h.keeps ∙ same;
  counts = subst (λ n. MatchResult r (λ _. failures new ≡ n) (Blames n (failures new))) unfailed h.counts;
}

-- what is refused before anything is read
pub unread : {D U : Type 0} (whole : D → Option (List ℕ)) (failures : D → ℕ) (device : D) (f : CheckFault) (s : Result U CheckFault)
    (A : List ℕ → U → Type 0) (B : List ℕ → Type 0)
    → IsErrAnd s (λ g. g ≡ f) → f ≡ Changed → ((text : List ℕ) → whole device ≡ Some text → B text) → ReadsStored whole failures device device s A B
unread whole failures device f s A B is changed absent =
    let p = err_from_is_err_and s is in
    subst (λ t. ReadsStored whole failures device device t A B) (sym (p.1 ∙ ap Err (p.2 ∙ changed)))
    (record { says = absent; keeps = refl; counts = refl })

-- what was read is compared
pub compared : {D T : Type 0} (whole : D → Option (List ℕ)) (failures : D → ℕ) (old new : D) (r : Result T CheckFault)
    (P : T → Type 0) (Q : CheckFault → Type 0) (A : List ℕ → T → Type 0) (B : List ℕ → Type 0)
    → whole new ≡ whole old → failures new ≡ failures old → ((text : List ℕ) → whole old ≡ Some text → (value : T) → P value → A text value)
    → ((text : List ℕ) → whole old ≡ Some text → (f : CheckFault) → Q f → f ≡ Changed → B text)
    → IfOk r P → IfErr r Q → IfErr r (λ f. f ≢ Device) → ReadsStored whole failures old new r A B
compared whole failures old new (Ok value) P Q A B keeps same of to p q other =
    record { says = λ text is. of text is value p; keeps = keeps; counts = same }
compared whole failures old new (Err Changed) P Q A B keeps same of to p q other =
    record { says = λ text is. to text is Changed q refl; keeps = keeps; counts = same }
compared whole failures old new (Err Device) P Q A B keeps same of to p q other = absurd (other refl)
compared whole failures old new (Err OutOfMemory) P Q A B keeps same of to p q other =
    record { says = λ text is. tt; keeps = keeps; counts = same }
