-- Records that are gathered one after another, by the entries that name them.
use Rattle.std.proofs.Common.{◌≡◌, ℕ, ◌+◌, ◌<◌, ◌≤◌, zero, suc, Bool, true, false, cond, List, [], ◌∷◌, ◌++◌, length}
use Rattle.std.proofs.Common.{map, take, get_or, nat_lt, Option, Some, None, refl, sym, ap, ◌∙◌, subst, append_assoc, arith}
use Rattle.std.specs.Prelude.{filter, IfSome, Result, Ok, Err}
use Rattle.std.specs.List.{AllWithin, AllZip}
use Rattle.std.proofs.Math.ListN.{length-map}
use Rattle.std.proofs.lemmas.Bool.Decides.{nat_tests}
use Rattle.std.proofs.lemmas.List.{append-nil, take_all}
use Rattle.std.proofs.lemmas.Map.Keys.{below_from_sorted}
use Rattle.std.proofs.lemmas.Option.{IfSome_then, slice_get-get_or}
use Rattle.std.proofs.lemmas.List.Elements.{All-from_recursion, AllZip-push, filter_more, recursion_from_All}
use Rattle.archive_core.specs.Content.{Operations, is_admission, with_records}
use Rattle.archive_core.specs.Part.{is_under}
use Rattle.archive_core.proofs.Made.{and_right, by_test}
use Rattle.archive_core.specs.Record.{record_bytes}
use Rattle.archive_core.specs.declared.operations.Operation.{Operation}
use Rattle.archive_core.proofs.Taken.{IsUnderWay}
use Rattle.index_format.specs.Entry.{IsPlacedEntry, length_in, offset_in}
use Rattle.index_format.specs.Index.{AreIndexed}
use Rattle.index_format.specs.Places.{BlamesPlaced, FailsAmong, FailsUnder, IsNamedBy}
use Rattle.byte_device.specs.Devices.{FailedIn, FailsWithin}
use Rattle.index_format.specs.declared.fault.PlaceFault.{PlaceFault}
use Rattle.index_format.specs.declared.fault.PlaceFault.TheVariants.{Stale, Device, OutOfMemory}
use Rattle.index_format.specs.InnerGathering.{AreGathered, FailsOf, IsGathered, IsStaleAmong, IsUnnamed, numbered_fault}
use Rattle.index_format.specs.Gathering.{AreGatheredUnder, IsEntryFault, ReadsPlaces}
use Rattle.index_format.specs.Runs.{is_tagged}
use Rattle.index_format.specs.Spread.{AreNumbers, spread}
use Rattle.index_format.specs.Entry.{entry_bytes, placed_bytes, HasItsFields}
use Rattle.index_format.specs.Spread.{ArePart}
use Rattle.index_format.specs.Text.{placed_in}
use Rattle.index_format.specs.declared.entry.IndexEntry.{IndexEntry}
use Rattle.index_format.proofs.Fronts.{are_indexed, fronts}
use Rattle.index_format.proofs.PartLemmas.{at_number, filter_spread, fronts_spread, length_spread, number_of}
use Rattle.index_format.proofs.RunLemmas.{past}
use Rattle.index_format.proofs.EntryOrder.{not_second, one_of_two, two_runs}

module _ (R : List ℕ → List ℕ → Type 0) where
  picked : (p : List ℕ → Bool) (xs : List (List ℕ)) (i : ℕ) (x : List ℕ) (ys : List (List ℕ)) (y : List ℕ)
      → i < length xs → x ≡ get_or xs i [] → p x ≡ true → AllZip R (filter p (take i xs)) ys → R x y
      → AllZip R (filter p (take (i + 1) xs)) (ys ++ y ∷ [])
  picked p xs i x ys y lt is passes zip r =
      rw (filter_more p xs i [] lt, ← is, passes) (AllZip-push R (filter p (take i xs)) ys x y zip r)

-- what follows of each text that is known
pub known : (P : List ℕ → Type 0) (whole : Option (List ℕ)) → ((text : List ℕ) → P text) → IfSome whole P
known P whole f = grind arith

pub along_both : (P Q R : List ℕ → Type 0) (whole : Option (List ℕ)) → ((text : List ℕ) → P text → Q text → R text)
    → IfSome whole P → IfSome whole Q → IfSome whole R
along_both P Q R whole f a b = grind arith

module _ (whole : Option (List ℕ)) (p : List ℕ → Bool) (entries : List (List ℕ)) where
  abbrev Named : ℕ → List (List ℕ) → List ℕ → Type 0
  Named n records text = AllZip (IsNamedBy text) (filter p (take n entries)) records

  -- none yet, up to the first that passes
  pub gathered_none : (n : ℕ) (old : List (List ℕ)) → AllWithin (λ x. p x ≡ false) entries 0 n → AreGathered whole p entries n old old
  gathered_none n old none = record {
    records = [];
    named = known (Named n []) whole (λ text. subst (λ (xs : List (List ℕ)). AllZip (IsNamedBy text) xs []) (sym (past p entries 0 n (omega arith) none)) tt);
    behind = sym (append-nil old);
  }

  -- one that passes more
  pub gathered_more : (i : ℕ) (x : List ℕ) (old mid new : List (List ℕ)) → i < length entries → x ≡ get_or entries i []
      → p x ≡ true → AreGathered whole p entries i old mid → IsGathered whole x mid new
      → AreGathered whole p entries (i + 1) old new
  gathered_more i x old mid new lt is passes before one =
      let r = one.record_bytes in
      record {
        records = before.records ++ r ∷ [];
        named = along_both (Named i before.records) (λ text. IsNamedBy text x r) (Named (i + 1) (before.records ++ r ∷ [])) whole
            (λ text zip named. picked (IsNamedBy text) p entries i x before.records r lt is passes zip named) before.named one.named;
        behind = one.behind ∙ ap (λ (l : List (List ℕ)). l ++ (r ∷ [])) before.behind ∙ append_assoc old before.records (r ∷ []);
      }

  -- and after the last that passes none
  pub gathered_rest : (n m : ℕ) (old new : List (List ℕ)) → n ≤ m → AllWithin (λ x. p x ≡ false) entries n m
      → AreGathered whole p entries n old new → AreGathered whole p entries m old new
  gathered_rest n m old new le none before = record {
    records = before.records;
    named = IfSome_then whole before.named (λ text zip. subst
        (λ (xs : List (List ℕ)). AllZip (IsNamedBy text) xs before.records) (sym (past p entries n m le none)) zip);
    behind = before.behind;
  }

-- each entry before a place that passes has a partner among those up to it
partner : (R : List ℕ → List ℕ → Type 0) (p : List ℕ → Bool) (xs ys : List (List ℕ)) (n j : ℕ)
    → AllZip R (filter p (take n xs)) ys → j < n → j < length xs → p (get_or xs j []) ≡ true → (y : List ℕ)
    × R (get_or xs j []) y
partner R p xs ys zero j zip below lt passes = absurd (omega arith)
partner R p [] ys (suc n) j zip below lt passes = absurd (omega arith)
partner R p (x ∷ xs) ys (suc n) zero zip below lt passes = first ys (rw passes at zip)
  where
    first : (zs : List (List ℕ)) → AllZip R (x ∷ filter p (take n xs)) zs → (y : List ℕ) × R x y
    first zs both = grind arith
partner R p (x ∷ xs) ys (suc n) (suc j) zip below lt passes =
    by (λ zs z. partner R p xs zs n j z (omega arith) (omega arith) passes) (p x) ys zip
  where
    by : ((zs : List (List ℕ)) → AllZip R (filter p (take n xs)) zs → (y : List ℕ) × R (get_or xs j []) y)
        → (b : Bool) (zs : List (List ℕ)) → AllZip R (cond b (x ∷ filter p (take n xs)) (filter p (take n xs))) zs
        → (y : List ℕ) × R (get_or xs j []) y
    by rest b zs z = grind arith

-- a read fails of the record of an entry that passes
pub fails_at : (Fails More : ℕ → ℕ → Type 0) (p : List ℕ → Bool) (entries : List (List ℕ)) (k : ℕ) (x : List ℕ) (n : ℕ)
    → k < length entries → x ≡ get_or entries k [] → p x ≡ true → ((start count : ℕ) → Fails start count → More start count)
    → FailsOf Fails x n → FailsAmong More p entries n
fails_at Fails More p entries k x n lt is passes more h = record {
  number = k;
  within = lt;
  passing = ap p (sym is) ∙ passes;
  admits = ap is_admission (sym is) ∙ h.0;
  offset_is = h.1 ∙ ap offset_in is;
  fails = subst (λ (e : List ℕ). More n (length_in e)) is (more n (length_in x) h.2);
}

-- one that has a tag besides is under the prefix
pub fails_tagged : (Fails More : ℕ → ℕ → Type 0) (tag : ℕ) (prefix : List ℕ) (entries : List (List ℕ)) (n : ℕ)
    → ((start count : ℕ) → Fails start count → More start count)
    → FailsAmong Fails (is_tagged tag prefix) entries n → FailsAmong More (is_under prefix) entries n
fails_tagged Fails More tag prefix entries n more h = record {
  number = h.number;
  within = h.within;
  passing = and_right _ _ h.passing;
  admits = h.admits;
  offset_is = h.offset_is;
  fails = more n _ h.fails;
}

-- where no record is that an entry names, and each before it that passes names one
pub stale_at : (whole now : Option (List ℕ)) (p : List ℕ → Bool) (entries : List (List ℕ)) (i : ℕ) (x : List ℕ)
    (old new : List (List ℕ)) (fault : PlaceFault) → i < length entries → x ≡ get_or entries i [] → p x ≡ true → now
    ≡ whole
    → AreGathered whole p entries i old new → IfSome now (λ text. IsUnnamed i x text fault) → IfSome whole (λ text. IsStaleAmong p entries text fault)
stale_at whole now p entries i x old new fault lt is passes keeps before none =
    along_both (Named whole p entries i before.records) (λ text. IsUnnamed i x text fault) (λ text. IsStaleAmong p entries text fault) whole (by fault)
    before.named (subst (λ (w : Option (List ℕ)). IfSome w (λ text. IsUnnamed i x text fault)) keeps none)
  where
    by : (f : PlaceFault) (text : List ℕ) → Named whole p entries i before.records text → IsUnnamed i x text f → IsStaleAmong p entries text f
    by (Stale told) text zip h = subst (λ (e : Option ℕ). IsStaleAmong p entries text (Stale e)) (sym h.0) (
      lt,
      ap p (sym is) ∙ passes,
      λ r n. h.1 r (subst (λ (y : List ℕ). IsNamedBy text y r) (sym is) n),
      λ j below there. partner (IsNamedBy text) p entries before.records i j zip below (omega arith) there,
    )
    by (Device offset) text zip h = tt
    by OutOfMemory text zip h = tt

-- ---- the retirements under a prefix, and then the admissions

join : (R : List ℕ → List ℕ → Type 0) (xs ys us vs : List (List ℕ)) → AllZip R xs us → AllZip R ys vs → AllZip R (xs ++ ys) (us ++ vs)
join R [] ys us vs a b = grind arith
join R (x ∷ xs) ys us vs a b = grind (arith, join R xs ys)

module _ (whole : Option (List ℕ)) (prefix : List ℕ) (entries : List (List ℕ)) (are : AreIndexed entries) (n : ℕ) (all : length entries ≤ n) where
  -- together those under it
  pub gathered_both : (now : Option (List ℕ)) (old mid new : List (List ℕ)) → now ≡ whole
      → AreGathered whole (is_tagged 1 prefix) entries n old mid
      → AreGathered now (is_tagged 2 prefix) entries n mid new → AreGathered whole (is_under prefix) entries n old new
  gathered_both now old mid new keeps first behind =
      let second = subst (λ (w : Option (List ℕ)). AreGathered w (is_tagged 2 prefix) entries n mid new) keeps behind in
      let both : filter (is_tagged 1 prefix) (take n entries) ++ filter (is_tagged 2 prefix) (take n entries) ≡ filter (is_under prefix) (take n entries) =
      subst (λ (xs : List (List ℕ)). filter (is_tagged 1 prefix) xs ++ filter (is_tagged 2 prefix) xs
      ≡ filter (is_under prefix) xs) (sym (take_all n entries all)) (two_runs prefix entries are.ascending are.are)
      in
      record {
        records = first.records ++ second.records;
        named = along_both (Named whole (is_tagged 1 prefix) entries n first.records)
            (Named whole (is_tagged 2 prefix) entries n second.records)
            (Named whole (is_under prefix) entries n (first.records ++ second.records)) whole
            (λ text a b. subst (λ (xs : List (List ℕ)). AllZip (IsNamedBy text) xs (first.records ++ second.records)) both
            (join (IsNamedBy text) (filter (is_tagged 1 prefix) (take n entries))
            (filter (is_tagged 2 prefix) (take n entries)) first.records second.records a b))
            first.named second.named;
        behind = second.behind ∙ ap (λ (l : List (List ℕ)). l ++ second.records) first.behind ∙ append_assoc old first.records second.records;
      }

  entry_at : (k : ℕ) → k < length entries → IsPlacedEntry (get_or entries k [])
  entry_at k lt = All-from_recursion IsPlacedEntry entries are.are k [] lt

  -- the first that names no record, among the retirements
  pub stale_first : (fault : PlaceFault) → IfSome whole (λ text. IsStaleAmong (is_tagged 1 prefix) entries text fault)
      → IfSome whole (λ text. IsStaleAmong (is_under prefix) entries text fault)
  stale_first fault h = IfSome_then whole h (by fault)
    where
      by : (f : PlaceFault) (text : List ℕ) → IsStaleAmong (is_tagged 1 prefix) entries text f → IsStaleAmong (is_under prefix) entries text f
      by (Stale None) text t = t
      by (Stale (Some k)) text t = (
        t.0,
        and_right _ _ t.1,
        t.2,
        λ j below under. one_of_two prefix _ (get_or entries j []) (entry_at j (omega (arith, t.0, below))) under
            (t.3 j below) (λ two. absurd (not_second prefix entries j k are below t.0 two t.1)),
      )
      by (Device offset) text t = tt
      by OutOfMemory text t = tt

  -- and among the admissions, where each retirement names one
  pub stale_second : (now : Option (List ℕ)) (old mid : List (List ℕ)) (fault : PlaceFault) → now ≡ whole
      → AreGathered whole (is_tagged 1 prefix) entries n old mid
      → IfSome now (λ text. IsStaleAmong (is_tagged 2 prefix) entries text fault) → IfSome whole (λ text. IsStaleAmong (is_under prefix) entries text fault)
  stale_second now old mid fault keeps first h =
      along_both (Named whole (is_tagged 1 prefix) entries n first.records)
      (λ text. IsStaleAmong (is_tagged 2 prefix) entries text fault)
      (λ text. IsStaleAmong (is_under prefix) entries text fault) whole (by fault)
      first.named (subst (λ (w : Option (List ℕ)). IfSome w (λ text. IsStaleAmong (is_tagged 2 prefix) entries text fault)) keeps h)
    where
      by : (f : PlaceFault) (text : List ℕ) → Named whole (is_tagged 1 prefix) entries n first.records text
          → IsStaleAmong (is_tagged 2 prefix) entries text f → IsStaleAmong (is_under prefix) entries text f
      by (Stale None) text zip t = t
      by (Stale (Some k)) text zip t = (
        t.0,
        and_right _ _ t.1,
        t.2,
        λ j below under. one_of_two prefix _ (get_or entries j []) (entry_at j (omega (arith, t.0, below))) under
            (λ one. partner (IsNamedBy text) (is_tagged 1 prefix) entries first.records n j zip
            (omega (arith, t.0, below, all)) (omega (arith, t.0, below)) one)
            (t.3 j below),
      )
      by (Device offset) text zip t = tt
      by OutOfMemory text zip t = tt

  -- ---- under a prefix of an index

  pub under_front : (every old new : List (List ℕ)) → filter (is_under prefix) every ≡ filter (is_under prefix) entries
      → AreGathered whole (is_under prefix) entries n old new → AreGatheredUnder whole prefix every old new
  under_front every old new same h = record {
    records = h.records;
    named = IfSome_then whole h.named (λ text zip. subst (λ (xs : List (List ℕ)). AllZip (IsNamedBy text) xs h.records)
        (ap (filter (is_under prefix)) (take_all n entries all) ∙ sym same) zip);
    behind = h.behind;
  }

  -- by the numbers that entries have among all
  module _ (none : is_under prefix [] ≡ false) (count : ℕ) (ns : List ℕ) (many : length ns ≡ length entries) (numbers : AreNumbers count ns) where
    abbrev every : List (List ℕ)
    every = spread count ns entries

    earlier : (place at : ℕ) → place < length ns → get_or ns place 0 < get_or ns at 0 → place < at
    earlier place at within below = by_test _ (nat_lt place at) (λ yes. grind (arith, nat_tests))
        (λ no. by_test _ (nat_lt at place)
        (λ after.
        let later : at < place = grind (arith, nat_tests) in
        absurd (omega (arith, below_from_sorted ns at place 0 numbers.ascending later within, below)))
        (λ same.
        let is : at ≡ place = grind (arith, nat_tests) in
        absurd (omega (arith, below, ap (λ (i : ℕ). get_or ns i 0) is))))

    pub fault_under : (fault : PlaceFault) → IfSome whole (λ text. IsStaleAmong (is_under prefix) entries text fault)
        → IfSome whole (λ text. IsEntryFault prefix every text (numbered_fault ns fault))
    fault_under fault h = IfSome_then whole h (by fault)
      where
        by : (f : PlaceFault) (text : List ℕ) → IsStaleAmong (is_under prefix) entries text f → IsEntryFault prefix every text (numbered_fault ns f)
        by (Stale None) text t = t
        by (Stale (Some at)) text t =
            let within : at < length ns = omega (arith, t.0, many) in
            let here = at_number count ns entries at many numbers within in
            subst (λ (o : Option ℕ). IsEntryFault prefix every text (Stale o)) (sym (slice_get-get_or ns at 0 within)) (record {
              within = omega (arith, here.0, length_spread count ns entries);
              under = ap (is_under prefix) here.1 ∙ t.1;
              unnamed = λ r named. t.2 r (subst (λ (e : List ℕ). IsNamedBy text e r) here.1 named);
              first = λ j below under.
                  let one = number_of (is_under prefix) count ns entries j none (omega (arith, below, here.0)) under in
                  let named = t.3 one.place (earlier one.place at one.within (omega (arith, one.number_is, below)))
                  (ap (is_under prefix) one.entry_is ∙ under) in
                  (named.0, subst (λ (e : List ℕ). IsNamedBy text e named.0) one.entry_is named.1);
            })
        by (Device offset) text t = tt
        by OutOfMemory text t = tt

    -- and which read failed
    pub fails_numbered : (Fails : ℕ → ℕ → Type 0) (offset : ℕ) → FailsAmong Fails (is_under prefix) entries offset
        → FailsAmong Fails (is_under prefix) every offset
    fails_numbered Fails offset h =
        let here = at_number count ns entries h.number many numbers (omega (arith, h.within, many)) in
        record {
          number = get_or ns h.number 0;
          within = omega (arith, here.0, length_spread count ns entries);
          passing = ap (is_under prefix) here.1 ∙ h.passing;
          admits = ap is_admission here.1 ∙ h.admits;
          offset_is = h.offset_is ∙ ap offset_in (sym here.1);
          fails = subst (λ (e : List ℕ). Fails offset (length_in e)) (sym here.1) h.fails;
        }

    pub blamed_numbered : {P : Type 0} (M N : ℕ → Type 0) (failures : P → ℕ) (old new : P) (fault : PlaceFault) → ((k : ℕ) → M k → N k)
        → BlamesPlaced M failures old new fault → BlamesPlaced N failures old new (numbered_fault ns fault)
    blamed_numbered M N failures old new (Stale (Some at)) read h = h
    blamed_numbered M N failures old new (Stale None) read h = h
    blamed_numbered M N failures old new (Device offset) read h = (h.0, read offset h.1)
    blamed_numbered M N failures old new OutOfMemory read h = h

-- the entries of a part without their claims
pub placed_part : (count : ℕ) (ns : List ℕ) (items : List IndexEntry) → ArePart count ns items
    → placed_in (spread count ns (map entry_bytes items)) ≡ spread count ns (map placed_bytes items)
placed_part count ns items part =
    fronts_spread (take 74) count ns (map entry_bytes items) refl
    ∙ ap (spread count ns) (sym (fronts items (recursion_from_All HasItsFields items part.ordered.fields)))

-- an entry without bytes is under no prefix
none_under : (prefix : List ℕ) → 0 < length prefix → is_under prefix [] ≡ false
unfolding is_under
none_under [] some = absurd (omega (arith, some))
none_under (x ∷ xs) some = refl

module _ (count : ℕ) (ns : List ℕ) (items : List IndexEntry) (part : ArePart count ns items) (prefix : List ℕ)
    (some : 0 < length prefix) where
  abbrev fronts_in : List (List ℕ)
  fronts_in = map placed_bytes items

  few : length fronts_in ≤ length items
  few = omega (arith, length-map items placed_bytes)

  as_many : length ns ≡ length fronts_in
  as_many = part.many ∙ sym (length-map items placed_bytes)

  -- what was gathered by the entries of a part
  pub gathered_part : (whole : Option (List ℕ)) (every old new : List (List ℕ)) → spread count ns (map entry_bytes items) ≡ every
      → AreGathered whole (is_under prefix) fronts_in (length items) old new → AreGatheredUnder whole prefix (placed_in every) old new
  gathered_part whole every old new is h =
      under_front whole prefix fronts_in (are_indexed items part.ordered) (length items) few (placed_in every) old new
      (ap (λ (es : List (List ℕ)). filter (is_under prefix) (placed_in es)) (sym is)
      ∙ ap (filter (is_under prefix)) (placed_part count ns items part)
      ∙ filter_spread (is_under prefix) count ns fronts_in (none_under prefix some) as_many part.numbered) h

  -- and why nothing was
  pub refused_part : {P : Type 0} (whole : P → Option (List ℕ)) (failures : P → ℕ) (old new : P) (Fails : ℕ → ℕ → Type 0)
      (every : List (List ℕ)) (fault : PlaceFault) → spread count ns (map entry_bytes items) ≡ every
      → IfSome (whole old) (λ text. IsStaleAmong (is_under prefix) fronts_in text fault) × (whole new ≡ whole old)
      × BlamesPlaced (FailsAmong Fails (is_under prefix) fronts_in) failures old new fault
      → IfSome (whole old) (λ text. IsEntryFault prefix (placed_in every) text (numbered_fault ns fault)) × (whole new ≡ whole old)
      × BlamesPlaced (FailsUnder Fails prefix (placed_in every)) failures old new (numbered_fault ns fault)
  refused_part whole failures old new Fails every fault is h =
      let indexed = are_indexed items part.ordered in
      let none = none_under prefix some in
      let bytes : spread count ns fronts_in ≡ placed_in every = sym (placed_part count ns items part) ∙ ap placed_in is in
      subst (λ (es : List (List ℕ)). IfSome (whole old) (λ text. IsEntryFault prefix es text (numbered_fault ns fault))
      × (whole new ≡ whole old) × BlamesPlaced (FailsUnder Fails prefix es) failures old new (numbered_fault ns fault)) bytes (
        fault_under (whole old) prefix fronts_in indexed (length items) few none count ns as_many part.numbered fault h.0,
        h.1,
        blamed_numbered (whole old) prefix fronts_in indexed (length items) few none count ns as_many part.numbered
            (FailsAmong Fails (is_under prefix) fronts_in) (FailsUnder Fails prefix (spread count ns fronts_in)) failures old new fault
            (fails_numbered (whole old) prefix fronts_in indexed (length items) few none count ns as_many part.numbered Fails) h.2,
      )

-- ---- after what was read before

module _ {P : Type 0} (whole : P → Option (List ℕ)) (failures : P → ℕ) (old mid new : P) (keeps : whole mid ≡ whole old)
    (same : failures mid ≡ failures old) where
  -- a read that failed
  pub fails_behind : (unread : P → P → ℕ → Type 0) (start count : ℕ) → FailsWithin whole failures unread mid new start count
      → FailsWithin whole failures unread old new start count
  fails_behind unread start count h = record {
    mid = h.mid;
    keeps = h.keeps ∙ keeps;
    unfailed = h.unfailed ∙ same;
    place = h.place;
    from = h.from;
    below = h.below;
    fails = h.fails;
  }

  -- what a fault says of the device
  pub blamed_behind : (M N : ℕ → Type 0) (fault : PlaceFault) → ((n : ℕ) → M n → N n)
      → BlamesPlaced M failures mid new fault → BlamesPlaced N failures old new fault
  blamed_behind M N (Stale entry) read h = h ∙ same
  blamed_behind M N (Device offset) read h = (subst (λ (n : ℕ). FailedIn n (failures new)) same h.0, read offset h.1)
  blamed_behind M N OutOfMemory read h = h ∙ same

  -- a fault
  pub refused_behind : {A B : Type 0} (M N : ℕ → Type 0) (fault : PlaceFault) → (A → B) → ((n : ℕ) → M n → N n) → A
      × (whole new ≡ whole mid) × BlamesPlaced M failures mid new fault → B × (whole new ≡ whole old)
      × BlamesPlaced N failures old new fault
  refused_behind M N fault told read h = (told h.0, h.1 ∙ keeps, blamed_behind M N fault read h.2)

  -- a value or a fault
  pub reads_behind : {T : Type 0} {A B : T → Type 0} (R S : List ℕ → PlaceFault → Type 0) (M N : ℕ → Type 0)
      (r : Result T PlaceFault) → ((v : T) → A v → B v)
      → ((f : PlaceFault) → IfSome (whole mid) (λ text. R text f) → IfSome (whole old) (λ text. S text f))
      → ((n : ℕ) → M n → N n) → ReadsPlaces whole failures mid new r A R M → ReadsPlaces whole failures old new r B S N
  reads_behind R S M N (Ok v) made told read h = (made v h.0, h.1 ∙ keeps, h.2 ∙ same)
  reads_behind R S M N (Err fault) made told read h = refused_behind M N fault (told fault) read h

-- ---- what was taken together

-- all were taken
pub all_taken : (old now : Operations) (all left : List Operation) → IsUnderWay old now all left → length left ≡ 0 → now
    ≡ with_records old (map record_bytes all)
all_taken old now all [] way none = way.content
all_taken old now all (x ∷ left) way none = absurd (omega (arith, none))
