-- Slices that entries name.
use Rattle.std.proofs.Common.{◌≡◌, ◌≢◌, ℕ, ◌+◌, ◌<◌, Bool, true, List, length, take, get_or, subst, inl, inr}
use Rattle.std.specs.Prelude.{Contains, MatchOption, None, Option, Some, filter}
use Rattle.std.proofs.lemmas.List.{take_more}
use Rattle.std.proofs.lemmas.List.Elements.{All-contains, All-filter, Contains-push_cases, filter_passes}
use Rattle.index_lookup.specs.Among.{EntryAt, IsAmong, all_of, lives_under}
use Rattle.index_lookup.specs.InnerAnswering.{all_at}
use Rattle.index_lookup.specs.Named.{LivesAmong, Names, digest_at}
use Rattle.index_lookup.specs.declared.named.NamedSlice.{NamedSlice}
use Rattle.index_lookup.proofs.Entries.{are_among, has_among}
use Rattle.archive_core.proofs.Members.{to_filter}

-- one entry more has another digest
pub others_more : (digest : List ℕ) (xs : List EntryAt) (i : ℕ) (x : EntryAt) → i < length xs → x ≡ get_or xs i x
    → ((y : EntryAt) → Contains (take i xs) y → digest_at y ≢ digest) → digest_at x ≢ digest
    → (y : EntryAt) → Contains (take (i + 1) xs) y → digest_at y ≢ digest
others_more digest xs i x lt is before other y there =
    elim (Contains-push_cases (take i xs) (get_or xs i x) y (subst (λ (zs : List EntryAt). Contains zs y) (take_more xs i x lt) there)) [
      | inl earlier ↦ before y earlier
      | inr this ↦ subst (λ (z : EntryAt). digest_at z ≢ digest) this (subst (λ (z : EntryAt). digest_at z ≢ digest) is other)
    ]

module _ (prefix digest : List ℕ) (indexes : List (List (List ℕ))) (live : List EntryAt)
    (is : live ≡ filter (λ x. lives_under prefix (all_of indexes) x.entry) (all_at 0 indexes)) where
  abbrev lives : EntryAt → Bool
  lives x = lives_under prefix (all_of indexes) x.entry

  abbrev found : List EntryAt
  found = filter lives (all_at 0 indexes)

  -- what was found of them
  pub with_digest : (result : Option NamedSlice) → MatchOption result
      ((x : EntryAt) → Contains live x → digest_at x ≢ digest)
      (λ named. (x : EntryAt) × Contains live x × (digest_at x ≡ digest) × Names x named)
      → MatchOption result ((x : EntryAt) → LivesAmong prefix digest indexes x → ⊥)
      (λ named. (x : EntryAt) × LivesAmong prefix digest indexes x × Names x named)
  with_digest None none = λ x h. none x (rw is (to_filter lives (all_at 0 indexes) x (has_among indexes x h.among) h.lives)) h.digest_is
  with_digest (Some named) (x, there, same, names) =
      let here : Contains found x = rw is at there in (
        x,
        record {
          among = All-contains (IsAmong indexes) found x (All-filter lives (IsAmong indexes) (all_at 0 indexes) (are_among indexes)) here;
          lives = All-contains (λ z. lives z ≡ true) found x (filter_passes lives (all_at 0 indexes)) here;
          digest_is = same;
        },
        names,
      )
