-- Names of functions by number, and of the places that are kept.
use Rattle.std.proofs.Common.{false, ◌≡◌, ◌∙◌, ℕ, suc, ◌<◌, ◌⊎◌, List, [], ◌∷◌, ◌++◌, length, get_or, slice_get, Option}
use Rattle.std.proofs.Common.{Some, None, refl, sym, ap, subst, inl, inr, arith}
use Rattle.std.specs.Option.{IfSome, is_some, option_map}
use Rattle.std.proofs.lemmas.Option.{get_or_from_slice_get, none-some, same_Some, slice_get_within}
use Rattle.dwarf_source_frames.specs.DebugSections.{DebugSectionsRecord}
use Rattle.dwarf_source_frames.specs.DebugUnits.{UnitEntryRecord}
use Rattle.dwarf_source_frames.specs.Names.{IsName, IsNameWithin, linkage_name, origin_place, text_in}
use Rattle.dwarf_functions.specs.FunctionNames.{AreNumbered, HasName, name_of}
use Rattle.dwarf_functions.specs.OpenFunctions.{Closes, closed_at}
use Rattle.dwarf_functions.specs.Origins.{AreNamed, HasNameAt, IsKept, IsNameAt, IsNameAtWithin, IsNamedAt}
use Rattle.dwarf_functions.specs.declared.functions.Function.{Function}
use Rattle.dwarf_functions.specs.declared.functions.Open.{Open}
use Rattle.dwarf_functions.specs.declared.origins.Origin.{Origin}
use Rattle.dwarf_functions.specs.declared.origins.Origins.{Origins}
use Rattle.dwarf_functions.proofs.ClosingLemmas.{closed_keeps, was_kept, was_open}
use Rattle.dwarf_functions.proofs.OpenLemmas.{at_left, at_push, old_or_new}

-- ---- an entry that has the name of another one

no_linkage : (s : DebugSectionsRecord) (e : UnitEntryRecord) → e.entry.attributes.linkage_name ≡ None
    → e.entry.attributes.mips_linkage_name ≡ None → linkage_name s e ≡ None
unfolding linkage_name text_in
no_linkage s e none no_mips = rw (none, no_mips) refl

no_text : (s : DebugSectionsRecord) (e : UnitEntryRecord) → e.entry.attributes.name ≡ None → text_in s e e.entry.attributes.name ≡ None
unfolding text_in
no_text s e none = rw none refl

name_there : (count room : ℕ) (s : DebugSectionsRecord) (e : UnitEntryRecord) (place : ℕ) (name : Option (List ℕ))
    → linkage_name s e ≡ None → text_in s e e.entry.attributes.name ≡ None → origin_place e ≡ Some place
    → IsNameWithin (suc count) room s e None name → IsNameAtWithin count room s place name
name_there count room s e place name none text leads h =
    let inside = rw (none, text, leads) at h in (inside.0, inside.1, inside.2)

name_here : (count room : ℕ) (s : DebugSectionsRecord) (e : UnitEntryRecord) (place : ℕ) (name : Option (List ℕ))
    → linkage_name s e ≡ None → text_in s e e.entry.attributes.name ≡ None → origin_place e ≡ Some place
    → IsNameAtWithin count room s place name → IsNameWithin (suc count) room s e None name
name_here count room s e place name none text leads h = rw (none, text, leads) (h.0, h.1, h.2)

module _ (e : UnitEntryRecord) (no_linkage_name : e.entry.attributes.linkage_name ≡ None)
    (no_mips : e.entry.attributes.mips_linkage_name ≡ None) (no_name : e.entry.attributes.name ≡ None) where
  is_named_at : (place : ℕ) → origin_place e ≡ Some place → IsNamedAt e place
  unfolding IsNameAt
  is_named_at place leads = record {
    there = λ s name h. name_there 15 16384 s e place name (no_linkage s e no_linkage_name no_mips) (no_text s e no_name) leads h;
    here = λ s name h. name_here 15 16384 s e place name (no_linkage s e no_linkage_name no_mips) (no_text s e no_name) leads h;
  }

  pub named_by_origin : (found : Option ℕ) → found ≡ origin_place e → IfSome found (IsNamedAt e)
  named_by_origin None leads = tt
  named_by_origin (Some place) leads = is_named_at place (sym leads)

pub none_mapped : {A B : Type 0} (f : A → B) (o : Option A) → is_some o ≡ false → option_map f o ≡ None
none_mapped f None none = refl
none_mapped f (Some x) none = absurd (cc none)

-- ---- functions that have names

found_name : (functions : List Function) (index : ℕ) (name : Option (List ℕ)) (o : Option Function)
    → slice_get functions index ≡ o → option_map name_of o ≡ Some name
    → (f : Function) × (slice_get functions index ≡ Some f) × (name_of f ≡ name)
found_name functions index name None is has = absurd (none-some name has)
found_name functions index name (Some f) is has = (f, is, same_Some (name_of f) name has)

pub has_at : (functions : List Function) (index : ℕ) (name : Option (List ℕ)) → HasName functions index name
    → (f : Function) × (slice_get functions index ≡ Some f) × (name_of f ≡ name)
has_at functions index name has = found_name functions index name (slice_get functions index) refl has

pub has_within : (functions : List Function) (index : ℕ) (name : Option (List ℕ)) → HasName functions index name → index < length functions
has_within functions index name has = let f = has_at functions index name has in slice_get_within functions index f.0 f.1

-- one that is read has it
pub has_read : (functions : List Function) (index : ℕ) (name : Option (List ℕ)) (f : Function)
    → HasName functions index name → f ≡ get_or functions index f → name_of f ≡ name
has_read functions index name f has is =
    let of = has_at functions index name has in
    let same : f ≡ of.0 = is ∙ get_or_from_slice_get functions index of.0 f of.1 in
    ap name_of same ∙ of.2

has_more : (functions : List Function) (f : Function) (index : ℕ) (name : Option (List ℕ))
    → HasName functions index name → HasName (functions ++ f ∷ []) index name
has_more functions f index name has = ap (option_map name_of) (at_left functions (f ∷ []) index (has_within functions index name has)) ∙ has

has_last : (functions : List Function) (f : Function) → HasName (functions ++ f ∷ []) (length functions) (name_of f)
has_last functions f = ap (option_map name_of) (at_push functions f)

-- ---- closing functions leaves their names

closed_name : (end : ℕ) (closed : List Open) (i : ℕ) (o : Option Function) → option_map name_of (option_map (closed_at end closed i) o) ≡ option_map name_of o
closed_name end closed i None = refl
closed_name end closed i (Some f) = let keeps = closed_keeps end closed i f in ap (λ n. Some (option_map (λ t. t.now) n)) keeps.name

module _ (depth : ℕ) (opened left : List Open) (before after : List Function) (c : Closes depth opened left before after) where
  has_closed : (index : ℕ) (name : Option (List ℕ)) → HasName before index name → HasName after index name
  has_closed index name has = ap (option_map name_of) (c.each index) ∙ closed_name (length before) c.closed index (slice_get before index) ∙ has

  pub numbered_closed : AreNumbered before → AreNumbered after
  numbered_closed so i g at =
      let was = was_open (length before) c.closed before after i g c.each at in
      let kept = was_kept (length before) c.closed i was.f g was.is in
      let has : HasName after was.f.name_number (name_of was.f) = has_closed was.f.name_number (name_of was.f) (so i was.f was.at) in
      let number : HasName after g.name_number (name_of was.f) = subst (λ n. HasName after n (name_of was.f)) (sym kept.name_number) has in
      number ∙ ap (λ n. Some (option_map (λ t. t.now) n)) (sym kept.name)

  pub named_closed : (s : DebugSectionsRecord) (origins : Origins) → AreNamed s before origins → AreNamed s after origins
  named_closed s origins so = record {
    numbered = numbered_closed so.numbered;
    each = λ o kept. let h = so.each o kept in record { name = h.name; at = h.at; has = has_closed o.function h.name h.has };
  }

-- ---- a function more

own_number : (functions : List Function) (f : Function) → (f.name_number ≡ length functions)
    ⊎ HasName functions f.name_number (name_of f) → HasName (functions ++ f ∷ []) f.name_number (name_of f)
own_number functions f (inl new) = subst (λ n. HasName (functions ++ f ∷ []) n (name_of f)) (sym new) (has_last functions f)
own_number functions f (inr old) = has_more functions f f.name_number (name_of f) old

numbered_more : (functions : List Function) (f : Function) → HasName (functions ++ f ∷ []) f.name_number (name_of f)
    → AreNumbered functions → AreNumbered (functions ++ f ∷ [])
numbered_more functions f own so i g at = elim (old_or_new functions f i g at) [
  | inl old ↦ has_more functions f g.name_number (name_of g) (so i g old.at)
  | inr new ↦ subst (λ (h : Function). HasName (functions ++ f ∷ []) h.name_number (name_of h)) (sym new.is) own
]

kept_more : (s : DebugSectionsRecord) (functions : List Function) (f : Function) (place : Option ℕ) (o : Origin)
    → HasName (functions ++ f ∷ []) f.name_number (name_of f) → ((p : ℕ) → place ≡ Some p → IsNameAt s p (name_of f))
    → HasNameAt s functions o ⊎ ((place ≡ Some o.place) × (o.function ≡ f.name_number)) → HasNameAt s (functions ++ f ∷ []) o
kept_more s functions f place o own at (inl old) = record { name = old.name; at = old.at; has = has_more functions f o.function old.name old.has }
kept_more s functions f place o own at (inr new) = record {
  name = name_of f;
  at = at o.place new.0;
  has = subst (λ n. HasName (functions ++ f ∷ []) n (name_of f)) (sym new.1) own;
}

pub named_more : (s : DebugSectionsRecord) (functions after : List Function) (f : Function) (origins next : Origins)
    (place : Option ℕ) → after ≡ functions ++ f ∷ [] → (f.name_number ≡ length functions)
    ⊎ HasName functions f.name_number (name_of f)
    → ((o : Origin) → IsKept next o → IsKept origins o ⊎ ((place ≡ Some o.place) × (o.function ≡ f.name_number)))
    → ((p : ℕ) → place ≡ Some p → IsNameAt s p (name_of f)) → AreNamed s functions origins → AreNamed s after next
named_more s functions after f origins next place pushed number keeps at so =
    let own = own_number functions f number in
    rw pushed (record {
      numbered = numbered_more functions f own so.numbered;
      each = λ o kept. kept_more s functions f place o own at (elim (keeps o kept) [
        | inl old ↦ inl (so.each o old)
        | inr new ↦ inr new
      ]);
    })

-- ---- none

pub named_none : (s : DebugSectionsRecord) (functions : List Function) (origins : Origins) → functions ≡ []
    → ((o : Origin) → IsKept origins o → ⊥) → AreNamed s functions origins
named_none s functions origins none empty = rw none (record {
  numbered = λ i f at. absurd (cc at);
  each = λ o kept. absurd (empty o kept);
})

-- ---- the name of an entry, by the place that it leads to

pub named_here : (s : DebugSectionsRecord) (e : UnitEntryRecord) (origin : Option ℕ) (place : ℕ)
    (name : Option (List ℕ)) → IfSome origin (IsNamedAt e) → origin ≡ Some place → IsNameAt s place name
    → IsName s e name
named_here s e origin place name by is there =
    let named : IsNamedAt e place = rw is at by in named.here s name there

pub named_there : (s : DebugSectionsRecord) (e : UnitEntryRecord) (origin : Option ℕ) (place : ℕ)
    (name : Option (List ℕ)) → IfSome origin (IsNamedAt e) → origin ≡ Some place → IsName s e name
    → IsNameAt s place name
named_there s e origin place name by is here =
    let named : IsNamedAt e place = rw is at by in named.there s name here

-- a function that is known to have it
abbrev pub IsKnown : Origins → Option ℕ → ℕ → Type 0
IsKnown origins origin number = (o : Origin) × IsKept origins o × (origin ≡ Some o.place) × (o.function ≡ number)

pub known_within : (s : DebugSectionsRecord) (functions : List Function) (origins : Origins) (origin : Option ℕ)
    (number : ℕ) → AreNamed s functions origins → IsKnown origins origin number → number < length functions
known_within s functions origins origin number so known =
    let h = so.each known.0 known.1 in
    let w = has_within functions known.0.function h.name h.has in
    let n = known.3 in omega (arith, w, n)

pub named_known : (s : DebugSectionsRecord) (e : UnitEntryRecord) (functions : List Function) (origins : Origins)
    (origin : Option ℕ) (number : ℕ) (f : Function) → AreNamed s functions origins → IfSome origin (IsNamedAt e)
    → IsKnown origins origin number → f ≡ get_or functions number f
    → IsName s e (name_of f) × HasName functions number (name_of f)
named_known s e functions origins origin number f so by known is =
    let h = so.each known.0 known.1 in
    let has : HasName functions number h.name = subst (λ n. HasName functions n h.name) known.3 h.has in
    let name = has_read functions number h.name f has is in (
      named_here s e origin known.0.place (name_of f) by known.2 (subst (λ (n : Option (List ℕ)). IsNameAt s known.0.place n) (sym name) h.at),
      subst (λ (n : Option (List ℕ)). HasName functions number n) (sym name) has,
    )
