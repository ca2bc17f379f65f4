-- Each key has one list of the slices that answer under it, in any set of operations.
use Rattle.std.proofs.Common.{◌≡◌, ℕ, Bool, true, ◌&&◌, not, List, [], ◌∷◌, ◌++◌, length, drop, map, filter, refl, sym}
use Rattle.std.proofs.Common.{ap, ◌∙◌, subst, arith, Contains, bytes_eq, drop_at}
use Rattle.std.specs.Int.{w64, to_be_bytes}
use Rattle.std.specs.Ordering.{nat_cmp, on}
use Rattle.std.specs.Cmp.Lexicographic.{slice_cmp, nat_list_cmp_total}
use Rattle.std.specs.List.Sorted.{IsStrictlySortedBy}
use Rattle.std.specs.FinSet.{contains}
use Rattle.std.proofs.lemmas.Bool.{cond_both}
use Rattle.std.proofs.lemmas.List.Kept.{IsStrictlySortedBy-filter}
use Rattle.std.proofs.lemmas.Slice.Eq.{bytes_eq-Decides}
use Rattle.sha2.specs.Sha256.{sha256}
use Rattle.macho_image.specs.Contents.{is_dsym_image}
use Rattle.join_core.specs.Listing.{listing}
use Rattle.join_core.proofs.Listing.{listed}
use Rattle.archive_core.specs.Key.{key_bytes}
use Rattle.archive_core.specs.Valid.{key_of}
use Rattle.archive_core.specs.Record.{admission, admission_record, retirement_record}
use Rattle.archive_core.specs.Content.{Operations, IsLive}
use Rattle.archive_core.specs.Find.{is_key, AreAnswering}
use Rattle.archive_core.specs.Order.{not_true}
use Rattle.archive_core.specs.declared.keys.SliceKey.{SliceKey}
use Rattle.archive_index.proofs.Held.{bytes_same}
use Rattle.archive_core.proofs.Members.{in_front, in_filter, to_filter, ascending_by, in_map, to_map, in_listing}
use Rattle.archive_core.proofs.Answering.{both, one_key, is_key_of}

module _ (o : Operations) (key : SliceKey) where
  -- what stands after the key and the length in a record
  abbrev slice_in : List ℕ → List ℕ
  slice_in r = drop 8 (drop (length (key_bytes key)) (drop 1 r))

  back_in : (slice : List ℕ) → key_of slice ≡ key → slice_in (admission_record slice) ≡ slice
  unfolding admission
  back_in slice under =
      let long = to_be_bytes w64 (length slice) in
      ap (drop 8) (drop_at (key_bytes (key_of slice)) (long ++ slice) (length (key_bytes key))
      (ap (λ k. length (key_bytes k)) under)) ∙ drop_at long slice 8 refl

  -- whether the record admits the slice, which is live under the key
  abbrev passes : List ℕ → List ℕ → Bool
  passes r slice = bytes_eq (admission_record slice) r && (is_key (key_of slice) key && not (contains o (retirement_record key (sha256 slice))))

  admits : (r slice : List ℕ) → passes r slice ≡ true → admission_record slice ≡ r
  admits r slice t = (bytes_eq-Decides (admission_record slice) r).0 (both (bytes_eq (admission_record slice) r) _ t).0

  live_by_test : (r slice : List ℕ) → contains o r ≡ true → passes r slice ≡ true → IsLive o key slice
  live_by_test r slice there t =
      let more = both (is_key (key_of slice) key) _ (both (bytes_eq (admission_record slice) r) _ t).1 in
      record {
        admitted = ap (contains o) (admits r slice t) ∙ there;
        under = one_key (key_of slice) key more.0;
        kept = not_true (contains o (retirement_record key (sha256 slice))) more.1;
      }

  test_of_live : (slice : List ℕ) → IsLive o key slice → passes (admission_record slice) slice ≡ true
  test_of_live slice h = λ i. (bytes_eq-Decides (admission_record slice) (admission_record slice)).1 refl i
      && (is_key_of (key_of slice) key h.under i && not (h.kept i))

  -- the live slices of the key, in the order of their records
  abbrev picks : List ℕ → Bool
  picks r = passes r (slice_in r)

  abbrev slices_live : List (List ℕ)
  slices_live = map slice_in (filter picks (listing o))

  held_in : (slice : List ℕ) → Contains slices_live slice → IsLive o key slice
  held_in slice h =
      let one = in_map slice_in (filter picks (listing o)) slice h in
      let kept = in_filter picks (listing o) one.0 one.1 in
      subst (IsLive o key) (sym one.2) (live_by_test one.0 (slice_in one.0) ((in_listing nat_list_cmp_total bytes_same o one.0).0 kept.0) kept.1)

  in_live : (slice : List ℕ) → IsLive o key slice → Contains slices_live slice
  in_live slice h =
      let same : slice_in (admission_record slice) ≡ slice = back_in slice h.under in
      let listed_there = (in_listing nat_list_cmp_total bytes_same o (admission_record slice)).1 h.admitted in
      let there = to_filter picks (listing o) (admission_record slice) listed_there (ap (passes (admission_record slice)) same ∙ test_of_live slice h) in
      subst (Contains slices_live) same (to_map slice_in (filter picks (listing o)) (admission_record slice) there)

  same_records : (rs : List (List ℕ)) → map admission_record (map slice_in (filter picks rs)) ≡ filter picks rs
  same_records [] = refl
  same_records (r ∷ rs) = cond_both (picks r) _ _ (λ kept. map admission_record (map slice_in kept) ≡ kept)
      (λ t i. admits r (slice_in r) t i ∷ same_records rs i) (λ t. same_records rs)

  live_ascending : IsStrictlySortedBy (on admission_record (slice_cmp nat_cmp)) slices_live
  live_ascending =
      let by_record = IsStrictlySortedBy-filter (slice_cmp nat_cmp) picks (listing o) (listed nat_list_cmp_total bytes_same o).ascending in
      ascending_by (slice_cmp nat_cmp) admission_record slices_live (subst (IsStrictlySortedBy (slice_cmp nat_cmp)) (sym (same_records (listing o))) by_record)

  -- the companions among them answer, or all where there is none
  answering_by : (companions : List (List ℕ)) → filter is_dsym_image slices_live ≡ companions → (slices : List (List ℕ)) × AreAnswering o key slices
  answering_by [] none = (
    slices_live,
    record {
      ascending = live_ascending;
      exactly = λ slice. (
        λ h. record {
          live = held_in slice h;
          companions_first = λ companion live t.
              let nowhere = subst (λ l. Contains l companion) none
              (to_filter is_dsym_image slices_live companion (in_live companion live) t)
              in absurd (omega (arith, nowhere.1));
        },
        λ h. in_live slice h.live,
      );
    },
  )
  answering_by (first ∷ rest) some = (
    filter is_dsym_image slices_live,
    record {
      ascending = IsStrictlySortedBy-filter (on admission_record (slice_cmp nat_cmp)) is_dsym_image slices_live live_ascending;
      exactly = λ slice. (
        λ h. let kept = in_filter is_dsym_image slices_live slice h in record { live = held_in slice kept.0; companions_first = λ companion live t. kept.1 },
        λ h. to_filter is_dsym_image slices_live slice (in_live slice h.live) (h.companions_first first (held_in first one.0) one.1),
      );
    },
  )
    where
      one : Contains slices_live first × (is_dsym_image first ≡ true)
      one = in_filter is_dsym_image slices_live first (subst (λ l. Contains l first) (sym some) (in_front first rest))

  pub some_answering : (slices : List (List ℕ)) × AreAnswering o key slices
  some_answering = answering_by (filter is_dsym_image slices_live) refl
