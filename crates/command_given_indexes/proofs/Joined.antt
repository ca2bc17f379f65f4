-- Parts that are joined one after another.
use Rattle.std.proofs.Common.{◌≡◌, ℕ, ◌+◌, ◌<◌, List, [], ◌∷◌, ◌++◌, length, map, take, get_or, Option, Some, None, refl, sym, ap, ◌∙◌, subst, inl, inr, arith}
use Rattle.std.specs.Prelude.{IfSome, flat_map}
use Rattle.std.specs.List.{AllZip}
use Rattle.std.specs.FinSet as set
use Rattle.std.proofs.Math.ListN.{length-map}
use Rattle.std.proofs.lemmas.List.{append-nil, flat_map_more, get_or-map, take_more}
use Rattle.std.proofs.lemmas.List.Sums.{fold-append}
use Rattle.std.proofs.lemmas.Option.{IfSome_then}
use Rattle.archive_core.specs.Content.{Operations, IsMade, content_of, joined, with_record, with_records}
use Rattle.archive_core.proofs.Taken.{made_taken, taken_are_joined}
use Rattle.index_format.specs.Places.{BlamesPlaced, FailsUnder, IsNamedBy, IsStale, entries_under}
use Rattle.index_format.specs.declared.fault.PlaceFault.{PlaceFault}
use Rattle.index_format.specs.declared.fault.PlaceFault.TheVariants.{Stale, Device, OutOfMemory}
use Rattle.command_common.specs.Archives.{merged}
use Rattle.command_common.specs.Inputs.{Reader, IsRefusal, Unfailed, reader}
use Rattle.command_common.proofs.Readers.{pairs_more}
use Rattle.index_format.specs.Gathering.{AreGatheredUnder, IsEntryFault}
use Rattle.index_format.proofs.Gathered.{along_both, known}
use Rattle.command_given_indexes.specs.declared.prefixes.KeyPrefix.{KeyPrefix}
use Rattle.index_format.specs.Text.{placed_in}
use Rattle.command_given_indexes.specs.Prefixes.{AreNamedUnder, FailsFor, FailsUnderOne, IsReadFor, TellsPlace, prefix_bytes}
use Rattle.command_given_indexes.specs.InnerParts.{HasJoinedNamed, HaveGathered, IsFaultAmong, IsFaultUnder, IsNamedIn, told_fault}
use Rattle.command_given_indexes.specs.Together.{IsRefusedAtPlaces}

-- ---- under each prefix

abbrev made : List (List ℕ) → Operations
made records = content_of (set.from_list records)

-- a group for each prefix, of records that its entries name
abbrev AreGroups : List (List ℕ) → List (List ℕ) → List (List (List ℕ)) → List ℕ → Type 0
AreGroups prefixes entries groups text = AllZip (λ (prefix : List ℕ) (records : List (List ℕ)). AllZip (IsNamedBy text)
    (entries_under prefix entries) records) prefixes groups

named_groups : (text : List ℕ) (prefixes : List (List ℕ)) (entries : List (List ℕ)) (groups : List (List (List ℕ)))
    → AreGroups prefixes entries groups text → AreNamedUnder prefixes entries text (map made groups)
named_groups text [] entries [] a = tt
named_groups text (f ∷ fs) entries (g ∷ gs) a = (record { records = g; named = a.0; made = refl }, named_groups text fs entries gs a.1)
named_groups text prefixes entries groups a = absurd a

pub gathered_none : (whole : Option (List ℕ)) (entries : List (List ℕ)) (old : List (List ℕ)) → HaveGathered whole [] entries old old
gathered_none whole entries old = record { groups = []; named = known (AreGroups [] entries []) whole (λ text. tt); behind = sym (append-nil old) }

module _ (whole now : Option (List ℕ)) (prefixes : List KeyPrefix) (i : ℕ) (prefix : KeyPrefix) (entries : List (List ℕ))
    (lt : i < length prefixes) (is : prefix ≡ get_or prefixes i prefix) (keeps : now ≡ whole) where
  at : prefix_bytes prefix ≡ get_or (map prefix_bytes prefixes) i []
  at = ap prefix_bytes is ∙ sym (get_or-map prefix_bytes prefixes i prefix [] lt)

  pub gathered_more : (old mid new : List (List ℕ)) → HaveGathered whole (take i (map prefix_bytes prefixes)) entries
      old mid → AreGatheredUnder now (prefix_bytes prefix) entries mid new
      → HaveGathered whole (take (i + 1) (map prefix_bytes prefixes)) entries old new
  gathered_more old mid new before one =
      let bytes = map prefix_bytes prefixes in
      let groups = before.groups ++ one.records ∷ [] in
      let seen : take (i + 1) bytes ≡ take i bytes ++ prefix_bytes prefix
      ∷ [] = take_more bytes i [] (omega (arith, lt, length-map prefixes prefix_bytes))
      ∙ ap (λ (f : List ℕ). take i bytes ++ f ∷ []) (sym at) in
      record {
        groups = groups;
        named = along_both (AreGroups (take i bytes) entries before.groups)
            (λ text. AllZip (IsNamedBy text) (entries_under (prefix_bytes prefix) entries) one.records)
            (AreGroups (take (i + 1) bytes) entries groups) whole
            (λ text a b. subst (λ (fs : List (List ℕ)). AreGroups fs entries groups text) (sym seen)
            (pairs_more (λ (f : List ℕ) (records : List (List ℕ)). AllZip (IsNamedBy text) (entries_under f entries)
            records) (take i bytes) before.groups (prefix_bytes prefix) one.records a b))
            before.named (subst (λ (w : Option (List ℕ)). IfSome w
            (λ text. AllZip (IsNamedBy text) (entries_under (prefix_bytes prefix) entries) one.records)) keeps
            one.named);
        behind = one.behind ∙ ap (λ (l : List (List ℕ)). l ++ one.records) before.behind
            ∙ flat_map_more (λ (records : List (List ℕ)). records) old before.groups one.records;
      }

  -- a read of a record under it fails
  pub fails_at_prefix : (Fails More : ℕ → ℕ → Type 0) (n : ℕ) → ((start count : ℕ) → Fails start count → More start count)
      → FailsUnder Fails (prefix_bytes prefix) entries n → FailsUnderOne More (map prefix_bytes prefixes) entries n
  fails_at_prefix Fails More n more h =
      let f : FailsUnder More (prefix_bytes prefix) entries n = record {
        number = h.number;
        within = h.within;
        passing = h.passing;
        admits = h.admits;
        offset_is = h.offset_is;
        fails = more n _ h.fails;
      } in
      (i, omega (arith, lt, length-map prefixes prefix_bytes), subst (λ (b : List ℕ). FailsUnder More b entries n) at f)

  -- a fault at a prefix
  pub fault_at : (old mid : List (List ℕ)) (fault : PlaceFault)
      → HaveGathered whole (take i (map prefix_bytes prefixes)) entries old mid
      → IfSome now (λ text. IsEntryFault (prefix_bytes prefix) entries text fault)
      → IfSome whole (λ text. IsFaultAmong (map prefix_bytes prefixes) entries text fault)
  fault_at old mid fault before h =
      along_both (AreGroups (take i (map prefix_bytes prefixes)) entries before.groups)
      (λ text. IsEntryFault (prefix_bytes prefix) entries text fault)
      (λ text. IsFaultAmong (map prefix_bytes prefixes) entries text fault) whole (by fault)
      before.named (subst (λ (w : Option (List ℕ)). IfSome w (λ text. IsEntryFault (prefix_bytes prefix) entries text fault)) keeps h)
    where
      by : (f : PlaceFault) (text : List ℕ) → AreGroups (take i (map prefix_bytes prefixes)) entries before.groups text
          → IsEntryFault (prefix_bytes prefix) entries text f → IsFaultAmong (map prefix_bytes prefixes) entries text f
      by (Stale None) text a b = absurd b
      by (Stale (Some k)) text a b = (
        i,
        omega (arith, lt, length-map prefixes prefix_bytes),
        (map made before.groups, named_groups text (take i (map prefix_bytes prefixes)) entries before.groups a),
        subst (λ (f : List ℕ). IsStale f entries text k) at b,
      )
      by (Device offset) text a b = tt
      by OutOfMemory text a b = tt

-- the text has the length that the index tells, and an entry names no record of it
pub fault_then : (prefixes : List (List ℕ)) (entries : List (List ℕ)) (size : ℕ) (text : List ℕ) (fault : PlaceFault)
    → length text ≡ size → IsFaultAmong prefixes entries text fault → IsFaultUnder prefixes entries size text fault
fault_then prefixes entries size text (Stale None) long f = absurd f
fault_then prefixes entries size text (Stale (Some k)) long f = (long, f)
fault_then prefixes entries size text (Device offset) long f = tt
fault_then prefixes entries size text OutOfMemory long f = tt

-- what was gathered is taken together, as its groups one after another
taken_groups : (o : Operations) (groups : List (List (List ℕ))) → IsMade o
    → with_records o (flat_map (λ (records : List (List ℕ)). records) groups) ≡ merged o (map made groups)
taken_groups o [] is = refl
taken_groups o (g ∷ gs) is =
    fold-append with_record o g (flat_map (λ (records : List (List ℕ)). records) gs)
    ∙ taken_groups (with_records o g) gs (made_taken o g is)
    ∙ ap (λ (s : Operations). merged s (map made gs)) (taken_are_joined o g is)

pub joined_together : (whole : Option (List ℕ)) (prefixes : List (List ℕ)) (entries : List (List ℕ))
    (old gathered : List (List ℕ)) (o new : Operations) → IsMade o → old ≡ []
    → HaveGathered whole prefixes entries old gathered → new ≡ joined o (content_of (set.from_list gathered))
    → HasJoinedNamed whole prefixes entries o new
joined_together whole prefixes entries old gathered o new is none h taken = record {
  parts = map made h.groups;
  content = taken ∙ sym (taken_are_joined o gathered is)
      ∙ ap (with_records o) (h.behind ∙ ap (λ (l : List (List ℕ)). l
      ++ flat_map (λ (records : List (List ℕ)). records) h.groups) none) ∙ taken_groups o h.groups is;
  named = IfSome_then whole h.named (λ text a. named_groups text prefixes entries h.groups a);
}

-- ---- of an input

-- by what its index says of records
module _ {S : Type 0} (whole : S → Option (List ℕ)) (failures : S → ℕ) (source after : S) (prefixes : List (List ℕ))
    (tables : List (List ℕ)) (size : ℕ) where
  abbrev archive : Reader S
  archive = reader whole failures source after

  abbrev entries : List (List ℕ)
  entries = placed_in tables

  pub named_in : (old new : Operations) → HasJoinedNamed (whole source) prefixes entries old new → IsNamedIn archive prefixes entries old new
  named_in old new h = record { parts = h.parts; content = h.content; named = h.named }

  -- where it failed it was read
  read_for : (IsUnmeasured : Type 0) (Fails : ℕ → ℕ → Type 0) (n : ℕ) → FailsFor IsUnmeasured Fails prefixes entries n
      → IsReadFor prefixes entries n
  read_for IsUnmeasured Fails n (inl h) = inl h.0
  read_for IsUnmeasured Fails n (inr (i, lt, f)) = inr (
    i,
    lt,
    record { number = f.number; within = f.within; passing = f.passing; admits = f.admits; offset_is = f.offset_is },
  )

  -- what is told where this fault came of it
  pub told_refused : (IsUnmeasured : Type 0) (Fails : ℕ → ℕ → Type 0) (number : ℕ) (fault : PlaceFault)
      → IfSome (whole source) (λ text. IsFaultUnder prefixes entries size text fault)
      → BlamesPlaced (FailsFor IsUnmeasured Fails prefixes entries) failures source after fault
      → IsRefusal (IsRefusedAtPlaces prefixes number archive tables size) (Unfailed archive) (told_fault number fault)
  told_refused IsUnmeasured Fails number (Stale entry) h b = inr (refl, b, (entry, refl, h))
  told_refused IsUnmeasured Fails number (Device offset) h b = inl (refl, (refl, read_for IsUnmeasured Fails offset b.1, b.0))
  told_refused IsUnmeasured Fails number OutOfMemory h b = b

-- a read that failed, from an earlier state
pub fails_as_one : (Fails More : ℕ → ℕ → Type 0) (prefixes : List (List ℕ)) (entries : List (List ℕ)) (n : ℕ)
    → ((start count : ℕ) → Fails start count → More start count) → FailsUnderOne Fails prefixes entries n
    → FailsUnderOne More prefixes entries n
fails_as_one Fails More prefixes entries n more (i, lt, f) = (
  i,
  lt,
  record {
    number = f.number;
    within = f.within;
    passing = f.passing;
    admits = f.admits;
    offset_is = f.offset_is;
    fails = more n _ f.fails;
  },
)

-- it says the place
pub told_place : {P : Type 0} (failures : P → ℕ) (old new : P) (IsThere : ℕ → Type 0) (number : ℕ) (fault : PlaceFault)
    → BlamesPlaced IsThere failures old new fault
    → TellsPlace (λ named offset. (named ≡ number) × IsThere offset) (told_fault number fault)
told_place failures old new IsThere number (Stale entry) b = tt
told_place failures old new IsThere number (Device offset) b = (refl, b.1)
told_place failures old new IsThere number OutOfMemory b = tt
