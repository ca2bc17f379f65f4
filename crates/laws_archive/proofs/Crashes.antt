-- The draft after each of the calls.
use Rattle.std.proofs.Common.{◌≡◌, ◌≢◌, ◌⊎◌, ℕ, Contains, zero, suc, true, false, List, [], ◌∷◌, ◌++◌, take, map, fold}
use Rattle.std.proofs.Common.{length, Option, Some, refl, sym, ap, ◌∙◌, inl, inr, subst, append_assoc, arith, bytes_eq}
use Rattle.std.proofs.Common.{append-nil, take_all}
use Rattle.std.specs.List.{AllByRecursion, concat}
use Rattle.std.proofs.lemmas.Bool.{and_parts, false_from_ne_true, or_right}
use Rattle.std.proofs.lemmas.List.Sums.{fold-append}
use Rattle.std.proofs.lemmas.Slice.Eq.{bytes_eq-Decides}
use Rattle.cli_files.specs.FileCalls.{FileCall, Creates, Opens, Writes, Syncs, Renames, SyncsFolder, Removes, Finds}
use Rattle.cli_files.specs.FileCalls.{FindsLink, Leads, are_probes, drafting, is_probe, publishing, taking, writing}
use Rattle.cli_files.specs.Publishing.{IsDescriptor, IsDraftRemoved, IsDrafted, IsReplaced, IsTargetOf, IsWrittenThrough, draft_mode, folder_of, there}
use Rattle.cli_files.specs.declared.found.Found.{Found}
use Rattle.cli_files.specs.declared.replaceable.ReplaceRule.{ReplaceRule}
use Rattle.cli_files.proofs.Publishings.{taking_probes, target_probes, tested_probes}
use Rattle.laws_archive.specs.Crashes.{DraftState, MayBeAt, Old, New, Torn, Touched, behind, no_draft, replay}

-- Where it was renamed it has the whole text, and that is on the disk; the target itself was not touched.
pub record IsWhole (text : List ℕ) (d : DraftState) : Type 0 where
  pub synced : d.renamed ≡ true → d.synced ≡ true
  pub bytes : d.renamed ≡ true → d.bytes ≡ text
  pub untouched : d.touched ≡ false

-- It was not renamed, and the target not touched.
abbrev IsStill : DraftState → Type 0
IsStill d = (d.renamed ≡ false) × (d.touched ≡ false)

still_whole : (text : List ℕ) (d : DraftState) → IsStill d → IsWhole text d
still_whole text d still = record { synced = λ yes. cc still.0; bytes = λ yes. cc still.0; untouched = still.1 }

-- ---- calls that leave it so

abbrev IsOff : List ℕ → FileCall → Type 0
IsOff target call = (d : DraftState) → IsStill d → IsStill (behind target d call)

-- what holds of what is still holds after any of such calls, and of others after them where it holds there
behind_off : (target : List ℕ) (P : DraftState → Type 0) → ((d : DraftState) → IsStill d → P d)
    → (calls rest : List FileCall) (d : DraftState) (n : ℕ) → AllByRecursion (IsOff target) calls → IsStill d
    → (IsStill (fold (behind target) d calls) → (m : ℕ) → P (fold (behind target) (fold (behind target) d calls) (take m rest)))
    → P (fold (behind target) d (take n (calls ++ rest)))
behind_off target P so [] rest d n off still then = then still n
behind_off target P so (call ∷ calls) rest d zero off still then = so d still
behind_off target P so (call ∷ calls) rest d (suc n) off still then =
    behind_off target P so calls rest (behind target d call) n off.1 (off.0 d still) then

both_off : (target : List ℕ) (calls more : List FileCall) → AllByRecursion (IsOff target) calls → AllByRecursion (IsOff target) more
    → AllByRecursion (IsOff target) (calls ++ more)
both_off target [] more off also = also
both_off target (call ∷ calls) more off also = (off.0, both_off target calls more off.1 also)

-- calls that only ask change nothing
asks : (target : List ℕ) (d : DraftState) (call : FileCall) → is_probe call ≡ true → behind target d call ≡ d
asks target d (Creates p m) probe = cc
asks target d (Opens p) probe = cc
asks target d (Writes b) probe = cc
asks target d Syncs probe = cc
asks target d (Renames p q) probe = cc
asks target d (SyncsFolder p) probe = cc
asks target d (Removes p) probe = cc
asks target d call probe = refl

all_ask : (target : List ℕ) (probes : List FileCall) → are_probes probes ≡ true
    → AllByRecursion (IsOff target) probes × ((d : DraftState) → fold (behind target) d probes ≡ d)
all_ask target [] are = (tt, λ d. refl)
all_ask target (probe ∷ probes) are =
    let parts = and_parts (is_probe probe) (are_probes probes) are in
    let rest = all_ask target probes parts.1 in (
      ((λ d still. subst IsStill (sym (asks target d probe parts.0)) still), rest.0),
      λ d. ap (λ e. fold (behind target) e probes) (asks target d probe parts.0) ∙ rest.1 d,
    )

-- and those that write put one piece after another
all_write : (target : List ℕ) (pieces : List (List ℕ))
    → AllByRecursion (IsOff target) (map Writes pieces) × ((d : DraftState) → (fold (behind target) d (map Writes pieces)).bytes ≡ d.bytes ++ concat pieces)
all_write target [] = (tt, λ d. sym (append-nil d.bytes))
all_write target (piece ∷ pieces) =
    let rest = all_write target pieces in
    ((λ d still. still, rest.0), λ d. rest.1 (behind target d (Writes piece)) ∙ append_assoc d.bytes piece (concat pieces))

module _ (draft target : List ℕ) (other : draft ≢ target) (probes : List FileCall) (mode : ℕ) (pieces : List (List ℕ)) (tests : List FileCall)
    (asked : are_probes probes ≡ true) (tested : are_probes tests ≡ true) where
  -- a call at the draft
  still_apart : (d : DraftState) → IsStill d → IsStill (behind target d (Removes draft))
  still_apart d still = (still.0, rw still.1 (false_from_ne_true (bytes_eq draft target) (λ e. other ((bytes_eq-Decides draft target).0 e))))

  -- all calls up to the tests
  abbrev front : List FileCall
  front = probes ++ drafting draft mode pieces ++ tests

  front_off : AllByRecursion (IsOff target) front
  front_off =
      both_off target (probes ++ drafting draft mode pieces) tests
      (both_off target probes (drafting draft mode pieces) (all_ask target probes asked).0
      (still_apart, (all_write target pieces).0)) (all_ask target tests tested).0

  front_bytes : (replay target front).bytes ≡ concat pieces
  front_bytes =
      ap (λ e. e.bytes) (fold-append (behind target) no_draft (probes ++ drafting draft mode pieces) tests
      ∙ (all_ask target tests tested).1 (fold (behind target) no_draft (probes ++ drafting draft mode pieces))
      ∙ fold-append (behind target) no_draft probes (drafting draft mode pieces)
      ∙ ap (λ e. fold (behind target) e (drafting draft mode pieces)) ((all_ask target probes asked).1 no_draft))
      ∙ (all_write target pieces).1 (behind target no_draft (Creates draft mode))

  -- after some of the calls, the last of which put the draft in its place
  placed : (folder : List ℕ) (n : ℕ) → IsWhole (concat pieces) (replay target (take n (front ++ publishing draft target folder)))
  placed folder n =
      behind_off target (IsWhole (concat pieces)) (still_whole (concat pieces)) front (publishing draft target folder) no_draft n front_off (refl, refl) last
    where
      last : IsStill (replay target front) → (m : ℕ)
          → IsWhole (concat pieces) (fold (behind target) (replay target front) (take m (publishing draft target folder)))
      last still zero = still_whole (concat pieces) _ still
      last still (suc zero) = still_whole (concat pieces) _ still
      last still (suc (suc zero)) = record { synced = λ _. refl; bytes = λ _. front_bytes; untouched = still.1 }
      last still (suc (suc (suc zero))) = record { synced = λ _. refl; bytes = λ _. front_bytes; untouched = still.1 }
      last still (suc (suc (suc (suc m)))) = record { synced = λ _. refl; bytes = λ _. front_bytes; untouched = still.1 }

  -- after all of them the renaming is on the disk
  kept : (folder : List ℕ) → (replay target (front ++ publishing draft target folder)).kept ≡ true
  kept folder =
      ap (λ e. e.kept) (fold-append (behind target) no_draft front (publishing draft target folder))
      ∙ or_right (replay target front).renamed (bytes_eq target target) ((bytes_eq-Decides target target).1 refl)

  -- what is removed was never renamed
  removed : (rest : List FileCall) (n : ℕ) → AllByRecursion (IsOff target) rest → IsStill (replay target (take n (front ++ rest)))
  removed rest n off =
      subst (λ calls. IsStill (replay target (take n calls))) (append-nil (front ++ rest))
      (behind_off target IsStill (λ d still. still) (front ++ rest) [] no_draft n (both_off target front rest front_off off) (refl, refl) last)
    where
      last : IsStill (replay target (front ++ rest)) → (m : ℕ) → IsStill (fold (behind target) (replay target (front ++ rest)) (take m []))
      last still zero = still
      last still (suc m) = still

-- ---- what a crash leaves

module _ (path text : List ℕ) (replaces : ReplaceRule) (calls : List FileCall) (is : IsReplaced path replaces text calls) where
  asked_first : are_probes (is.probes ++ taking is.taken) ≡ true
  asked_first = taking_probes is.probes is.taken (target_probes replaces path is.target is.probes is.target_is)

  are_tested : are_probes is.tests ≡ true
  are_tested = tested_probes replaces is.draft is.target is.tests is.tested

  whole_at : (done : ℕ) → IsWhole text (replay is.target (take done calls))
  whole_at done =
      subst (λ cs. IsWhole text (replay is.target (take done cs))) (sym is.calls_are)
      (subst (λ t. IsWhole t (replay is.target (take done
      (front is.draft is.target is.beside.apart (is.probes ++ taking is.taken) (draft_mode (there is.probes))
      is.pieces is.tests asked_first are_tested
      ++ publishing is.draft is.target (folder_of is.target))))) is.whole
      (placed is.draft is.target is.beside.apart (is.probes ++ taking is.taken) (draft_mode (there is.probes)) is.pieces
      is.tests asked_first are_tested (folder_of is.target) done))

  pub any_moment : (before left : Option (List ℕ)) (done : ℕ) → MayBeAt before (replay is.target (take done calls)) left
      → (left ≡ before) ⊎ (left ≡ Some text)
  any_moment before left done may = leaves left _ (whole_at done) may
    where
      leaves : (left : Option (List ℕ)) (d : DraftState) → IsWhole text d → MayBeAt before d left → (left ≡ before) ⊎ (left ≡ Some text)
      leaves _ d whole (Old unkept) = inl refl
      leaves _ d whole (New renamed synced) = inr (ap Some (whole.bytes renamed))
      leaves _ d whole (Torn renamed unsynced left) = cc (whole.synced renamed)
      leaves _ d whole (Touched touched left) = cc (whole.untouched)

  pub at_the_end : (before left : Option (List ℕ)) → MayBeAt before (replay is.target calls) left → left ≡ Some text
  at_the_end before left may =
      leaves left _
      (subst (λ cs. IsWhole text (replay is.target cs)) (take_all (length calls) calls (omega arith)) (whole_at (length calls)))
      (ap (λ cs. (replay is.target cs).kept) is.calls_are
      ∙ kept is.draft is.target is.beside.apart (is.probes ++ taking is.taken) (draft_mode (there is.probes)) is.pieces
      is.tests asked_first are_tested (folder_of is.target)) may
    where
      leaves : (left : Option (List ℕ)) (d : DraftState) → IsWhole text d → d.kept ≡ true → MayBeAt before d left → left ≡ Some text
      leaves _ d whole kept (Old unkept) = cc
      leaves _ d whole kept (New renamed synced) = ap Some (whole.bytes renamed)
      leaves _ d whole kept (Torn renamed unsynced left) = cc (whole.synced renamed)
      leaves _ d whole kept (Touched touched left) = cc (whole.untouched)

  pub place_is : (is.target ≡ path) ⊎ Contains calls (Leads path is.target)
  place_is = by_case is.target_is
    where
      by_case : IsTargetOf replaces path is.target is.probes → (is.target ≡ path) ⊎ Contains calls (Leads path is.target)
      by_case (inl none) = inl none.0
      by_case (inr (found, replaced, inl file)) = inl file.0
      by_case (inr (found, replaced, inr link)) =
          inr (subst (λ cs. Contains cs (Leads path is.target))
          (sym (is.calls_are
          ∙ ap (λ probes. probes ++ taking is.taken ++ drafting is.draft (draft_mode (there is.probes)) is.pieces ++ is.tests
          ++ publishing is.draft is.target (folder_of is.target))
          (link ∙ ap (λ f. f ++ FindsLink path ∷ Leads path is.target ∷ []) replaced.probes_are)))
          (3, grind arith, refl))

pub removed_leaves : (replaces : ReplaceRule) (path : List ℕ) (calls : List FileCall) (before left : Option (List ℕ)) (done : ℕ)
    (is : IsDraftRemoved replaces path calls) → MayBeAt before (replay is.target (take done calls)) left → left ≡ before
removed_leaves replaces path calls before left done is may =
    elim is.taken_back.2 [
      | inl at_once ↦ leaves left _ (still_at (Removes is.draft ∷ []) at_once (apart, tt)) may
      | inr synced ↦ leaves left _ (still_at (Syncs ∷ synced.0 ∷ Removes is.draft ∷ []) synced.2
          ((λ d still. still), (said_off synced.0 synced.1, (apart, tt)))) may
    ]
  where
    said_off : (said : FileCall) → is_probe said ≡ true → IsOff is.target said
    said_off said probe d still = subst IsStill (sym (asks is.target d said probe)) still

    drafted : IsDrafted replaces path is.draft is.target is.drafted
    drafted = is.is_drafted

    apart : (d : DraftState) → IsStill d → IsStill (behind is.target d (Removes is.draft))
    apart = still_apart is.draft is.target drafted.beside.apart [] 0 [] [] refl refl

    still_at : (rest : List FileCall) → calls ≡ is.drafted ++ is.taken_back.0 ++ rest → AllByRecursion (IsOff is.target) rest
        → IsStill (replay is.target (take done calls))
    still_at rest are off =
        subst (λ cs. IsStill (replay is.target (take done cs))) (sym (are ∙ ap (λ cs. cs ++ is.taken_back.0 ++ rest) drafted.calls_are))
        (removed is.draft is.target drafted.beside.apart (drafted.probes ++ taking drafted.taken)
        (draft_mode (there drafted.probes)) drafted.pieces is.taken_back.0
        (taking_probes drafted.probes drafted.taken (target_probes replaces path is.target drafted.probes drafted.target_is))
        is.taken_back.1 rest done off)

    leaves : (left : Option (List ℕ)) (d : DraftState) → IsStill d → MayBeAt before d left → left ≡ before
    leaves _ d still (Old unkept) = refl
    leaves _ d still (New renamed synced) = cc still.0
    leaves _ d still (Torn renamed unsynced left) = cc still.0
    leaves _ d still (Touched touched left) = cc still.1

-- what was written to is no regular file, as the system said, or a descriptor
pub no_file : (path text : List ℕ) (calls : List FileCall) (is : IsWrittenThrough path text calls)
    → ((found : Found) × (found.is_file ≡ false) × Contains calls (Finds path found)) ⊎ IsDescriptor path
no_file path text calls is = elim is.writable [
  | inl other ↦ inl (
    other.0,
    other.1,
    subst (λ cs. Contains cs (Finds path other.0))
        (sym (is.calls_are ∙ ap (λ probes. probes ++ writing path is.pieces) other.2)) (0, grind arith, refl),
  )
  | inr descriptor ↦ inr descriptor.1
]
