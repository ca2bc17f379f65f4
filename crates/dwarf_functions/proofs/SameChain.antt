-- Two addresses have one chain of entries, if the same ones contain them.
use Rattle.std.proofs.Common.{◌≡◌, ◌∙◌, ℕ, zero, suc, List, [], ◌∷◌, slice_get, Option, Some, None, sym, arith}
use Rattle.dwarf_entries.specs.Entries.{EntryRecord}
use Rattle.dwarf_source_frames.specs.Scopes.{IsChain, IsChainWithin, IsFirst, IsWithin, ScopeRecord, contains_at, depth_at}

module _ (a b : ℕ) (some others : List ScopeRecord) (depths : (i : ℕ) → depth_at some i ≡ depth_at others i)
    (contain : (i : ℕ) → contains_at a some i ≡ contains_at b others i)
    (entries : (i : ℕ) (s : ScopeRecord) → slice_get some i ≡ Some s → (t : ScopeRecord) × (slice_get others i ≡ Some t) × (s.entry ≡ t.entry)) where
  within_some : (outer : Option ℕ) (i : ℕ) → IsWithin others outer i → IsWithin some outer i
  within_some None i is = tt
  within_some (Some outer) i is = record {
    later = is.later;
    deeper = λ between above to. let d = is.deeper between above to in omega (arith, d, depths outer, depths between);
  }

  within_others : (outer : Option ℕ) (i : ℕ) → IsWithin some outer i → IsWithin others outer i
  within_others None i is = tt
  within_others (Some outer) i is = record {
    later = is.later;
    deeper = λ between above to. let d = is.deeper between above to in omega (arith, d, depths outer, depths between);
  }

  first_others : (outer : Option ℕ) (i : ℕ) → IsFirst a some outer i → IsFirst b others outer i
  first_others outer i is = record {
    within = within_others outer i is.within;
    contains = sym (contain i) ∙ is.contains;
    first = λ before less in_it contains. is.first before less (within_some outer before in_it) (contain before ∙ contains);
  }

  chain_within : (room : ℕ) (outer : Option ℕ) (chain : List EntryRecord) → IsChainWithin room a some outer chain → IsChainWithin room b others outer chain
  chain_within zero outer chain is = is
  chain_within (suc room) outer [] is = λ i in_it contains. is i (within_some outer i in_it) (contain i ∙ contains)
  chain_within (suc room) outer (e ∷ es) is =
      let there = entries is.0 is.1 is.2 in (
        is.0,
        there.0,
        there.1,
        is.3 ∙ there.2,
        first_others outer is.0 is.4,
        chain_within room (Some is.0) es is.5,
      )

  pub same_chain : (chain : List EntryRecord) → IsChain a some chain → IsChain b others chain
  same_chain chain is = chain_within 256 None chain is
