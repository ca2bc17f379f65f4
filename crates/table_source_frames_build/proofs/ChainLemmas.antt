-- Equal frames have equal numbers; the scopes of a location are kept.
use Rattle.std.proofs.Common.{◌≡◌, ℕ, zero, suc, ◌≤◌, List, [], ◌∷◌, length, reverse, refl, sym, ap, ◌∙◌, arith, subst}
use Rattle.std.proofs.lemmas.List.{reverse-append}
use Rattle.dwarf_lines.specs.Paths.{PathRecord}
use Rattle.dwarf_source_frames.specs.Frames.{FrameRecord}
use Rattle.table_source_frames_build.specs.Kept.{KeptRecord, IsKept, at_number, caller_in, chain_at, file_at, file_key_at}
use Rattle.table_source_frames_build.specs.Kept.{frame_of_key, location_key_at, scope_key_at, scope_numbers_of, text_at}
use Rattle.table_source_frames_build.specs.Numbering.{IsNumber}
use Rattle.table_source_frames_build.specs.declared.keys.LocationKey.{LocationKey}
use Rattle.table_source_frames_build.proofs.KeptLemmas.{chain_none, chain_step, scopes_none, scopes_step}
use Rattle.table_source_frames_build.proofs.FirstUsesLemmas.{Each, each_append}

pub at_apart : {A : Type 0} (count : ℕ) (f : ℕ → A) → ((m n : ℕ) → IsNumber count m → IsNumber count n → f m ≡ f n → m ≡ n)
    → (m n : ℕ) → m ≤ count → n ≤ count → at_number f m ≡ at_number f n → m ≡ n
at_apart count f apart zero zero a b e = refl
at_apart count f apart zero (suc n) a b e = cc e
at_apart count f apart (suc m) zero a b e = cc e
at_apart count f apart (suc m) (suc n) a b e =
    apart (suc m) (suc n) (record { some = omega arith; within = a }) (record { some = omega arith; within = b }) (cc e)

module _ (k : KeptRecord) (kept : IsKept k) where
  pub file_apart : (m n : ℕ) → IsNumber (length k.files) m → IsNumber (length k.files) n → file_at k m ≡ file_at k n → m ≡ n
  file_apart m n a b e =
      let one = kept.each_file m a in
      let two = kept.each_file n b in
      let base = kept.texts (file_key_at k m).base (file_key_at k n).base one.base two.base (ap (λ (p : PathRecord). p.base) e) in
      let directory = kept.texts (file_key_at k m).directory (file_key_at k n).directory one.directory two.directory (ap (λ (p : PathRecord). p.directory) e) in
      let name = kept.texts (file_key_at k m).name (file_key_at k n).name one.name two.name (ap (λ (p : PathRecord). p.name) e) in
      kept.files m n a b (λ i. record { base = base i; directory = directory i; name = name i })

  -- two scopes with equal parts
  pub scope_apart_by : (m n : ℕ) → IsNumber (length k.scopes) m → IsNumber (length k.scopes) n
      → at_number (text_at k) (scope_key_at k m).name ≡ at_number (text_at k) (scope_key_at k n).name
      → at_number (file_at k) (scope_key_at k m).file ≡ at_number (file_at k) (scope_key_at k n).file
      → (scope_key_at k m).caller ≡ (scope_key_at k n).caller → m ≡ n
  scope_apart_by m n a b name file caller =
      let one = kept.each_scope m a in
      let two = kept.each_scope n b in
      let names = at_apart (length k.texts) (text_at k) kept.texts (scope_key_at k m).name (scope_key_at k n).name one.name two.name name in
      let files = at_apart (length k.files) (file_at k) file_apart (scope_key_at k m).file (scope_key_at k n).file one.file two.file file in
      kept.scopes m n a b (λ i. record { caller = caller i; name = names i; file = files i })

  chain_apart_within : (room m n : ℕ) → m ≤ room → m ≤ length k.locations → n ≤ length k.locations → chain_at k m ≡ chain_at k n → m ≡ n
  chain_apart_within room zero zero r a b e = refl
  chain_apart_within room zero (suc n) r a b e = cc (chain_none k, chain_step k kept n b)
  chain_apart_within room (suc m) zero r a b e = cc (chain_none k, chain_step k kept m a)
  chain_apart_within zero (suc m) (suc n) r a b e = absurd (omega arith)
  chain_apart_within (suc room) (suc m) (suc n) r a b e =
      let p : LocationKey = location_key_at k (suc m) in
      let q : LocationKey = location_key_at k (suc n) in
      let one = kept.each_location (suc m) (record { some = omega arith; within = a }) in
      let two = kept.each_location (suc n) (record { some = omega arith; within = b }) in
      let both : ◌≡◌ {A = List FrameRecord} (frame_of_key k p ∷ chain_at k (caller_in k p))
      (frame_of_key k q ∷ chain_at k (caller_in k q)) = sym (chain_step k kept m a) ∙ e ∙ chain_step k kept n b in
      let frame : frame_of_key k p ≡ frame_of_key k q = cc both in
      let rest : chain_at k (caller_in k p) ≡ chain_at k (caller_in k q) = cc both in
      let caller : caller_in k p ≡ caller_in k q = chain_apart_within room (caller_in k p) (caller_in k q) (omega (arith, one.caller, r))
      (omega (arith, one.caller, a)) (omega (arith, two.caller, b)) rest in
      let scope : p.scope ≡ q.scope = scope_apart_by p.scope q.scope one.scope two.scope
      (ap (λ (f : FrameRecord). f.name) frame) (ap (λ (f : FrameRecord). f.path) frame) caller in
      kept.locations (suc m) (suc n) (record { some = omega arith; within = a }) (record { some = omega arith; within = b })
      (λ i. record { scope = scope i; line = (frame i).line; column = (frame i).column })

  pub chain_apart : (m n : ℕ) → m ≤ length k.locations → n ≤ length k.locations → chain_at k m ≡ chain_at k n → m ≡ n
  chain_apart m n a b e = chain_apart_within m m n (omega arith) a b e

  -- the scopes of a location are kept
  scopes_each : (room n : ℕ) → n ≤ room → n ≤ length k.locations → Each (IsNumber (length k.scopes)) (scope_numbers_of k n)
  scopes_each room zero r a = subst (Each (IsNumber (length k.scopes))) (sym (scopes_none k)) tt
  scopes_each zero (suc n) r a = absurd (omega arith)
  scopes_each (suc room) (suc n) r a =
      let one = kept.each_location (suc n) (record { some = omega arith; within = a }) in
      subst (Each (IsNumber (length k.scopes))) (sym (scopes_step k kept n a))
      (one.scope, scopes_each room (caller_in k (location_key_at k (suc n))) (omega (arith, one.caller, r)) (omega (arith, one.caller, a)))

  pub scopes_are : (n : ℕ) → n ≤ length k.locations → Each (IsNumber (length k.scopes)) (scope_numbers_of k n)
  scopes_are n a = scopes_each n n (omega arith) a

pub reversed_each : (P : ℕ → Type 0) (xs : List ℕ) → Each P xs → Each P (reverse xs)
reversed_each P [] each = tt
reversed_each P (x ∷ xs) each = subst (Each P) (sym (reverse-append (x ∷ []) xs))
    (each_append P (reverse xs) (x ∷ []) (reversed_each P xs each.1) (each.0, tt))
