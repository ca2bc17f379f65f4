-- How many slices answer, as rows tell it.
use Rattle.std.proofs.Common.{◌≡◌, ◌==◌, ℕ, ◌+◌, Bool, true, false, ◌&&◌, not, cond, if◌then◌else◌, List, [], ◌∷◌, map}
use Rattle.std.proofs.Common.{refl, sym, ap, ◌∙◌, inl, inr, arith, subst, length}
use Rattle.std.specs.declared.cmp.Ordering.TheVariants.{Less, Equal}
use Rattle.std.specs.Ordering.{nat_cmp, on}
use Rattle.std.specs.Cmp.{tied_itself, nat_cmp_total, on_total, then_total, IsTotalOrder}
use Rattle.std.specs.Cmp.Lexicographic.{slice_cmp}
use Rattle.std.specs.List.{Contains, filter, count_by}
use Rattle.std.specs.List.Sorted.{IsStrictlySortedBy}
pub use Rattle.std.proofs.lemmas.Bool.{and_parts as both}
use Rattle.std.proofs.lemmas.Bool.{and_parts, and_from, false_from_ne_true, cond-false, ne_eqb}
use Rattle.std.proofs.lemmas.Bool.Decides.{Decides-eqb}
use Rattle.std.proofs.lemmas.List.{length-map}
use Rattle.std.proofs.lemmas.List.Elements.{recursion_from_All, filter_passes}
use Rattle.std.proofs.lemmas.List.Kept.{IsStrictlySortedBy-filter}
use Rattle.std.proofs.lemmas.List.Folds.{fold-map}
use Rattle.std.proofs.lemmas.List.Sums.{length-filter}
use Rattle.macho_image.specs.Contents.{is_dsym_image}
use Rattle.archive_core.specs.Key.{IsKey, key_bytes}
use Rattle.archive_core.specs.Valid.{IsValid, key_of}
use Rattle.archive_core.specs.Record.{admission, admission_record}
use Rattle.archive_core.specs.Content.{Operations, IsContent, IsLive, IsAnswering}
use Rattle.archive_core.specs.Find.{arch_cmp, find_cmp, row_of, is_arch, is_dsym, is_image, is_kind, answering_count, IsFinds, AreAnswering, is_key}
use Rattle.archive_core.specs.declared.keys.ArchKey.{ArchKey}
use Rattle.archive_core.specs.declared.keys.SliceKey.{SliceKey}
use Rattle.archive_core.specs.declared.find.FindRow.{FindRow}
use Rattle.archive_core.specs.declared.operations.Operation.{Operation}
use Rattle.archive_core.specs.declared.operations.Operation.TheVariants.{Admit, Retire}
use Rattle.archive_core.specs.declared.find.FindState.TheVariants.{Image, Dsym}
use Rattle.archive_core.proofs.Compare.{length_key_bytes}
use Rattle.archive_core.proofs.Records.{same_parts, length-key_of}
use Rattle.archive_core.proofs.Made.{and_false}
use Rattle.archive_core.proofs.Members.{in_front, in_filter, to_filter, in_map, to_map, ascending_finer, ascending_map}
use Rattle.std.specs.Int.{w64, to_be_bytes}
use Rattle.std.specs.Str.{bytes_eq}
use Rattle.std.proofs.lemmas.Slice.Eq.{bytes_eq-Decides}

arch_total : IsTotalOrder arch_cmp
arch_total = then_total (on_total (λ arch. arch.cputype) nat_cmp_total) (on_total (λ arch. arch.cpusubtype) nat_cmp_total)

-- the test of architectures decides whether they are one
pub one_arch : (a b : ArchKey) → is_arch a b ≡ true → a ≡ b
one_arch a b h =
    let parts = and_parts (a.cputype == b.cputype) (a.cpusubtype == b.cpusubtype) h in
    let cputype = (Decides-eqb a.cputype b.cputype).0 parts.0 in
    let cpusubtype = (Decides-eqb a.cpusubtype b.cpusubtype).0 parts.1 in
    λ i. record { cputype = cputype i; cpusubtype = cpusubtype i }

pub is_arch_of : (a b : ArchKey) → a ≡ b → is_arch a b ≡ true
is_arch_of a b e = λ i. (Decides-eqb a.cputype b.cputype).1 (ap (λ k. k.cputype) e) i && (Decides-eqb a.cpusubtype b.cpusubtype).1 (ap (λ k. k.cpusubtype) e) i

-- and that of keys
pub one_key : (a b : SliceKey) → is_key a b ≡ true → a ≡ b
one_key a b h =
    let parts = and_parts (bytes_eq a.uuid b.uuid) _ h in
    let uuid = (bytes_eq-Decides a.uuid b.uuid).0 parts.0 in
    let arch = one_arch a.arch b.arch parts.1 in
    λ i. record { uuid = uuid i; arch = arch i }

pub is_key_of : (a b : SliceKey) → a ≡ b → is_key a b ≡ true
is_key_of a b e = λ i. (bytes_eq-Decides a.uuid b.uuid).1 (ap (λ k. k.uuid) e) i && is_arch_of a.arch b.arch (ap (λ k. k.arch) e) i

-- a row of one kind of live slices of an architecture
abbrev is_kind_row : Bool → ArchKey → FindRow → Bool
is_kind_row dsym arch row = is_arch row.key.arch arch && (if dsym then is_dsym row.state else is_image row.state)

told_kind : (dsym b : Bool) → (if dsym then is_dsym (if b then Dsym else Image) else is_image (if b then Dsym else Image)) ≡ (if dsym then b else not b)
told_kind dsym b = grind arith

-- the slice that an operation admits
abbrev slice_in : Operation → List ℕ
slice_in (Admit slice) = slice
slice_in (Retire key digest) = []

-- an operation with a row of the kind admits such a slice, under the architecture
of_kind : (dsym : Bool) (arch : ArchKey) (a : Operation) → is_kind_row dsym arch (row_of a) ≡ true
    → (a ≡ Admit (slice_in a)) × ((key_of (slice_in a)).arch ≡ arch) × (is_kind dsym (slice_in a) ≡ true)
of_kind dsym arch (Admit slice) t =
    let parts = and_parts (is_arch (key_of slice).arch arch) _ t in
    (refl, one_arch (key_of slice).arch arch parts.0, sym (told_kind dsym (is_dsym_image slice)) ∙ parts.1)
of_kind true arch (Retire key digest) t = cc (and_false (is_arch key.arch arch))
of_kind false arch (Retire key digest) t = cc (and_false (is_arch key.arch arch))

-- the slices of one kind that are admitted under an architecture
module _ (dsym : Bool) (arch : ArchKey) where
  kept : List Operation → List Operation
  kept xs = filter (λ a. is_kind_row dsym arch (row_of a)) xs

  chosen : List Operation → List (List ℕ)
  chosen xs = map slice_in (kept xs)

  -- as many are chosen as there are rows of the kind
  count_chosen : (xs : List Operation) → length (chosen xs) ≡ count_by (is_kind_row dsym arch) (map row_of xs)
  unfolding chosen kept
  count_chosen xs =
      length-map (kept xs) slice_in
      ∙ length-filter (λ a. is_kind_row dsym arch (row_of a)) xs
      ∙ sym (fold-map (λ n row. n + cond (is_kind_row dsym arch row) 1 0) row_of 0 xs)

  -- what is chosen is admitted under the architecture, and of the kind
  in_chosen : (xs : List Operation) (slice : List ℕ) → Contains (chosen xs) slice → Contains xs (Admit slice)
      × ((key_of slice).arch ≡ arch) × (is_kind dsym slice ≡ true)
  unfolding chosen kept
  in_chosen xs slice h =
      let found = in_map slice_in (kept xs) slice h in
      let there = in_filter (λ a. is_kind_row dsym arch (row_of a)) xs found.0 found.1 in
      let is = of_kind dsym arch found.0 there.1 in
      rw found.2 (subst (Contains xs) is.0 there.0, is.1, is.2)

  -- and all of these are chosen
  to_chosen : (xs : List Operation) (slice : List ℕ) → Contains xs (Admit slice) → (key_of slice).arch ≡ arch
      → is_kind dsym slice ≡ true → Contains (chosen xs) slice
  unfolding chosen kept
  to_chosen xs slice h a t =
      to_map slice_in (kept xs) (Admit slice) (to_filter (λ a. is_kind_row dsym arch (row_of a)) xs (Admit slice) h
      (and_from _ _ (is_arch_of (key_of slice).arch arch a) (told_kind dsym (is_dsym_image slice) ∙ t)))

  -- slices of one architecture stand by their records
  by_record : (a b : Operation) → is_kind_row dsym arch (row_of a) ≡ true → is_kind_row dsym arch (row_of b) ≡ true
      → find_cmp a b ≡ Less → slice_cmp nat_cmp (admission_record (slice_in a)) (admission_record (slice_in b)) ≡ Less
  by_record a b s t h =
      let first = of_kind dsym arch a s in
      let second = of_kind dsym arch b t in
      let up : find_cmp (Admit (slice_in a)) (Admit (slice_in b)) ≡ Less = (λ i. find_cmp (sym first.0 i) (sym second.0 i)) ∙ h in
      let tied : arch_cmp (key_of (slice_in a)).arch (key_of (slice_in b)).arch
      ≡ Equal = (λ i. arch_cmp (first.1 i) (second.1 i)) ∙ tied_itself arch_total arch in
      cc

  -- what is chosen ascends by its records
  ascending_chosen : (xs : List Operation) → IsStrictlySortedBy find_cmp xs → IsStrictlySortedBy (on admission_record (slice_cmp nat_cmp)) (chosen xs)
  unfolding chosen kept
  ascending_chosen xs up =
      ascending_map (on admission_record (slice_cmp nat_cmp)) slice_in (kept xs)
      (ascending_finer (λ a. is_kind_row dsym arch (row_of a) ≡ true) find_cmp (on slice_in (on admission_record (slice_cmp nat_cmp))) by_record (kept xs)
      (recursion_from_All _ (kept xs) (filter_passes (λ a. is_kind_row dsym arch (row_of a)) xs))
      (IsStrictlySortedBy-filter find_cmp (λ a. is_kind_row dsym arch (row_of a)) xs up))

-- what is live in a content under a key is a slice
pub live_is_valid : (o : Operations) (key : SliceKey) (slice : List ℕ) → IsContent o → IsKey key → IsLive o key slice → IsValid slice
unfolding admission
live_is_valid o key slice content is_key live = elim (content.records (admission_record slice) live.admitted) [
  | inl admits ↦
      let long : length (key_bytes (key_of slice)) ≡ 24 = length_key_bytes (key_of slice) (ap (λ k. length k.uuid) live.under ∙ is_key.uuid) in
      let same : admission slice ≡ admission admits.slice = cc (admits.is) in
      let behind_key = (same_parts (key_bytes (key_of slice)) (key_bytes (key_of admits.slice)) _ _
      (long ∙ sym (length-key_of admits.slice admits.valid)) same).1 in
      subst IsValid (sym (same_parts (to_be_bytes w64 (length slice)) (to_be_bytes w64 (length admits.slice)) slice
      admits.slice refl behind_key).1) admits.valid
  | inr retires ↦ cc (retires.is)
]

module _ (o : Operations) (key : SliceKey) (rows : List FindRow) (content : IsContent o) (is_key : IsKey key) (finds : IsFinds o key.uuid rows) where
  -- the live slices of the key are those of the rows' operations
  live_of : (slice : List ℕ) → Contains finds.operations (Admit slice) → (key_of slice).arch ≡ key.arch → IsLive o key slice
  live_of slice there a =
      let told = ((finds.exactly (Admit slice)).0 there).1 in
      let same : key_of slice ≡ key = λ i. record { uuid = told.0 i; arch = a i } in
      subst (λ k. IsLive o k slice) same told.1

  admitted_of : (slice : List ℕ) → IsLive o key slice → Contains finds.operations (Admit slice)
  admitted_of slice live = (finds.exactly (Admit slice)).1 (
    live_is_valid o key slice content is_key live,
    (ap (λ k. k.uuid) live.under, subst (λ k. IsLive o k slice) (sym live.under) live),
  )

  -- the slices of a kind answer that goes before the other, where there is one of that kind
  answer : (dsym : Bool) → ((slice : List ℕ) → IsLive o key slice → is_kind dsym slice ≡ true → (companion : List ℕ)
      → IsLive o key companion → is_dsym_image companion ≡ true → is_dsym_image slice ≡ true)
      → ((slice : List ℕ) → IsAnswering o key slice → is_kind dsym slice ≡ true) → AreAnswering o key (chosen dsym key.arch finds.operations)
  answer dsym first kind = record {
    ascending = ascending_chosen dsym key.arch finds.operations finds.ascending;
    exactly = λ slice. (
      λ h.
          let parts = in_chosen dsym key.arch finds.operations slice h in
          let live = live_of slice parts.0 parts.1 in
          record { live = live; companions_first = first slice live parts.2 },
      λ h. to_chosen dsym key.arch finds.operations slice (admitted_of slice h.live) (ap (λ k. k.arch) h.live.under) (kind slice h),
    );
  }

  -- the companions answer, and without one the other slices
  answered : (companions : List (List ℕ)) → chosen true key.arch finds.operations ≡ companions
      → (slices : List (List ℕ)) × AreAnswering o key slices
      × (length slices ≡ cond (length companions == 0) (length (chosen false key.arch finds.operations))
      (length companions))
  answered [] is = (
    chosen false key.arch finds.operations,
    answer false (λ _ _ _ companion live t. absurd (no_companion companion live t))
        (λ slice h. ap not (false_from_ne_true _ (no_companion slice h.live))),
    refl,
  )
    where
      no_companion : (companion : List ℕ) → IsLive o key companion → is_dsym_image companion ≡ true → ⊥
      no_companion companion live t =
          let none = rw is at (to_chosen true key.arch finds.operations companion (admitted_of companion live) (ap (λ k. k.arch) live.under) t) in
          omega arith
  answered (one ∷ more) is =
      let parts = in_chosen true key.arch finds.operations one (rw is (in_front one more)) in (
        chosen true key.arch finds.operations,
        answer true (λ _ _ t _ _ _. t) (λ slice h. h.companions_first one (live_of one parts.0 parts.1) parts.2),
        ap length is ∙ sym (cond-false (length (one ∷ more) == 0) _ _ (ne_eqb (length (one ∷ more)) 0 (omega arith))),
      )

  -- rows tell how many slices answer
  pub counted : (slices : List (List ℕ)) × AreAnswering o key slices × (length slices ≡ answering_count rows key.arch)
  counted =
      let found = answered (chosen true key.arch finds.operations) refl in (
        found.0,
        found.1,
        found.2
            ∙ (λ i. cond (count_chosen true key.arch finds.operations i == 0)
            (count_chosen false key.arch finds.operations i) (count_chosen true key.arch finds.operations i))
            ∙ ap (λ l. answering_count l key.arch) (sym finds.rows_are),
      )
