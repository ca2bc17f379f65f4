-- One symbol fault, or none.
use Rattle.std.proofs.Common.{◌≡◌, ℕ, ◌*◌, ◌≤◌, List, length, ◌⊎◌, inl, inr, refl, Option, Some, None, arith}
use Rattle.std.proofs.lemmas.Bool.Decides.{nat_tests}
use Rattle.macho_symbols.specs.Symbols.{table_of}
use Rattle.macho_symbols.specs.Fault.{symbol_fault, IsSymbolFault, HasSymbols}
use Rattle.macho_symbols.specs.declared.fault.SymbolFault.{SymbolFault}

pub some_fault : (image : List ℕ) → HasSymbols image ⊎ ((f : SymbolFault) × IsSymbolFault image f)
some_fault image = by_cases (symbol_fault image) refl
  where
    by_cases : (r : Option SymbolFault) → symbol_fault image ≡ r → HasSymbols image ⊎ ((f : SymbolFault) × IsSymbolFault image f)
    by_cases None e = inl (record { fine = e })
    by_cases (Some f) e = inr (f, e)

pub one_fault : (image : List ℕ) (f g : SymbolFault) → IsSymbolFault image f → IsSymbolFault image g → f ≡ g
one_fault image f g h k = cc (h, k)

pub no_fault : (image : List ℕ) (f : SymbolFault) → HasSymbols image → IsSymbolFault image f → ⊥
no_fault image f h k = cc (h.fine, k)

-- the entries lie in the image
pub symbols_fit : (image : List ℕ) → HasSymbols image → 16 * (table_of image).nsyms ≤ length image
symbols_fit image h = grind (arith, nat_tests, h.fine)
