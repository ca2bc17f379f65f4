-- Lines that are no scripts.
use Rattle.std.proofs.Common.{◌≡◌, ◌∙◌, ap, arith, refl, ℕ, ◌<◌, true, false, Bool, nat_eq, List, [], ◌∷◌, codes}
use Rattle.std.proofs.Common.{length, Option, Some, None, is_some, option_map, Bor}
use Rattle.text_values.specs.Flaws.{line_flaw}
use Rattle.text_values.specs.Lines.{Field, fields, fields_after, parts}
use Rattle.text_values.proofs.Fields.{some_part}
use Rattle.text_input_files.specs.ScriptFlaws.{event_flaw, flaw_or, script_flaw, sites_flaw}
use Rattle.text_input_files.specs.declared.script_flaws.ScriptFlaw.TheVariants as flaw
use Rattle.text_input_files.specs.declared.script.ScriptFault.TheVariants.{NoSites, BadEvent}

-- more than one field after `sites`
pub sites_longer : (text : List ℕ) (number : Field) (more : Option (Bor (List ℕ))) → number
    ∷ fields_after (option_map (λ r. r.now) more) ≡ parts text → is_some more ≡ true
    → flaw.Sites ≡ sites_flaw (codes "sites" ∷ parts text)
sites_longer text number None cut some = cc
sites_longer text number (Some rest) cut some = by (parts rest.now) (some_part rest.now) ∙ ap (λ (fs : List Field). sites_flaw (codes "sites" ∷ fs)) cut
  where
    by : (fs : List Field) → 0 < length fs → flaw.Sites ≡ sites_flaw (codes "sites" ∷ number ∷ fs)
    by [] h = absurd (omega arith)
    by (f ∷ fs) h = refl

-- a line that is not empty
pub no_sites : (line : List ℕ) (empty : Bool) → empty ≡ nat_eq (length line) 0 → empty ≡ false
    → Some (flaw_or (line_flaw line) (sites_flaw (fields line))) ≡ script_flaw NoSites line
no_sites [] empty is not_empty = cc
no_sites (b ∷ bs) empty is not_empty = refl

pub bad_event : (line : List ℕ) (empty : Bool) → empty ≡ nat_eq (length line) 0 → empty ≡ false
    → Some (flaw_or (line_flaw line) (event_flaw (fields line))) ≡ script_flaw BadEvent line
bad_event [] empty is not_empty = cc
bad_event (b ∷ bs) empty is not_empty = refl
