-- What was called for OUT, one call more at a time.
use Rattle.std.proofs.Common.{◌≡◌, ◌∙◌, ◌⊎◌, ℕ, true, false, ◌&&◌, List, [], ◌∷◌, ◌++◌, length, map, Ok, Option, Some}
use Rattle.std.proofs.Common.{None, refl, sym, ap, inl, inr, append_assoc, append-nil, arith, subst, ◌<◌, ◌+◌, ◌==◌}
use Rattle.std.proofs.Common.{take, ◌≤◌}
use Rattle.std.proofs.lemmas.List.{length-append, length-take-le, map-append}
use Rattle.std.proofs.lemmas.Bool.{and_parts}
use Rattle.std.proofs.lemmas.Grind.{not_there}
use mathlib.Core.Logic.{∥∥₁_map}
use Rattle.std.specs.List.{concat}
use Rattle.std.specs.Prelude.{IfSome}
use Rattle.archive_records.proofs.Puts.{concat-push}
use Rattle.cli_files.specs.FileCalls.{FileCall, Begins, Compares, Finds, FindsLink, FindsNoLink, FindsNothing, Gives}
use Rattle.cli_files.specs.FileCalls.{Leads, Creates, Opens, Writes, Syncs, Removes, are_probes, bytes_in, drafting}
use Rattle.cli_files.specs.FileCalls.{is_probe, publishing, taking, writing}
use Rattle.cli_files.specs.OutFiles.{IsSoFar, Stage, Untouched, Through, Drafted, Refused, Removed, Settled, WritesTo}
use Rattle.cli_files.specs.OutFiles.{draft_account, fault_of, has_calls, is_drafted, is_settled, takes_bytes}
use Rattle.cli_files.proofs.Same.{both_probes, probes_append}
use Rattle.cli_files.specs.declared.out_file.OutState.{OutState}
use Rattle.cli_files.specs.declared.out_file.OutState.TheVariants as state
use Rattle.cli_files.specs.Publishing.{BeginsSo, FindsReplaced, HandsOn, IsBeside, IsDescriptor, IsDrafted, IsPublished}
use Rattle.cli_files.specs.Publishing.{IsRemoved, IsTakenBack, IsTargetOf, IsTested, IsWritable, IsWrittenThrough}
use Rattle.cli_files.specs.Publishing.{account, both_give, draft_mode, folder_of, number_of, place, there, took_nothing}
use Rattle.cli_files.specs.Refusals.{IsRefused}
use Rattle.cli_files.specs.Replacing.{GivesWay}
use Rattle.cli_files.specs.declared.found.Found.{Found}
use Rattle.cli_files.specs.declared.replaceable.ReplaceRule.{ReplaceRule}
use Rattle.cli_files.specs.declared.replaceable.ReplaceRule.TheVariants.{ArchivesBelow, Summaries, Indexes, SameBytes}

-- the bytes of some calls and of others after them
pub bytes_append : (xs ys : List FileCall) → bytes_in (xs ++ ys) ≡ bytes_in xs ++ bytes_in ys
bytes_append [] ys = refl
bytes_append (call ∷ xs) ys = grind (arith, bytes_append xs ys, append_assoc)

-- calls that write nothing leave the bytes
pub bytes_same : (xs ys : List FileCall) → bytes_in ys ≡ [] → bytes_in (xs ++ ys) ≡ bytes_in xs
bytes_same xs ys none = bytes_append xs ys ∙ ap (λ t. bytes_in xs ++ t) none ∙ append-nil (bytes_in xs)

-- calls that only ask write nothing
pub probes_bytes : (probes : List FileCall) → are_probes probes ≡ true → bytes_in probes ≡ []
probes_bytes [] are = refl
probes_bytes (call ∷ probes) are = grind (arith, are, probes_bytes probes)

bytes_behind : (probes ys : List FileCall) → are_probes probes ≡ true → bytes_in (probes ++ ys) ≡ bytes_in ys
bytes_behind probes ys are = bytes_append probes ys ∙ ap (λ t. t ++ bytes_in ys) (probes_bytes probes are)

-- and paths that are taken too
pub taking_probes : (probes : List FileCall) (taken : List (List ℕ)) → are_probes probes ≡ true
    → are_probes (probes ++ taking taken) ≡ true
taking_probes probes taken asked = probes_append probes (taking taken) asked (all_taken taken)
  where
    all_taken : (taken : List (List ℕ)) → are_probes (taking taken) ≡ true
    all_taken [] = refl
    all_taken (path ∷ taken) = all_taken taken

pub writable_probes : (path : List ℕ) (probes : List FileCall) → IsWritable path probes → are_probes probes ≡ true
writable_probes path probes (inl (found, file, other)) = ap are_probes other
writable_probes path probes (inr descriptor) = ap are_probes descriptor.0

pub target_probes : (replaces : ReplaceRule) (path target : List ℕ) (probes : List FileCall)
    → IsTargetOf replaces path target probes → are_probes probes ≡ true
target_probes replaces path target probes (inl none) = ap are_probes none.1
target_probes replaces path target probes (inr (found, is, inl file)) =
    ap are_probes (file.1 ∙ ap (λ f. f ++ FindsNoLink path ∷ []) is.probes_are)
target_probes replaces path target probes (inr (found, is, inr link)) =
    ap are_probes (link ∙ ap (λ f. f ++ FindsLink path ∷ Leads path target ∷ []) is.probes_are)

-- what was found first is what is there, whatever is asked after it
pub there_first : (path : List ℕ) (found : Found) (rest calls more new : List FileCall) → calls ≡ Finds path found ∷ rest
    → new ≡ calls ++ more → there new ≡ Some found
there_first path found rest calls more new first is = ap there (is ∙ ap (λ cs. cs ++ more) first)

-- a file was found there, opened, and begins so
pub found_begun : (path : List ℕ) (found : Found) (bytes : List ℕ) (calls opened new : List FileCall)
    → calls ≡ Finds path found ∷ [] → opened ≡ calls ++ [] → new ≡ opened ++ Begins path bytes ∷ []
    → new ≡ Finds path found ∷ Begins path bytes ∷ []
found_begun path found bytes calls opened new first after is =
    is ∙ ap (λ cs. cs ++ Begins path bytes ∷ []) (after ∙ append-nil calls ∙ first)

pub finds_replaced : (replaces : ReplaceRule) (path : List ℕ) (found : Found) (bytes : List ℕ) (new : List FileCall)
    → found.is_file ≡ true → GivesWay replaces bytes → (bytes ≡ [] → found.size ≡ 0)
    → new ≡ Finds path found ∷ Begins path bytes ∷ [] → FindsReplaced replaces path new
finds_replaced replaces path found bytes new file gives size is =
    record { found = found; bytes = bytes; is_file = file; gives_way = gives; empty = size; probes_are = is }

-- OUT is begun
pub begun_through : (replaces : ReplaceRule) (path : List ℕ) (probes new : List FileCall) → IsWritable path probes → new ≡ probes ++ Opens path ∷ []
    → IsSoFar replaces (Some path) Through new × (bytes_in new ≡ [])
begun_through replaces path probes new writable is = (
  (path, refl, [], record { probes = probes; pieces = []; writable = writable; whole = refl; calls_are = is }),
  ap bytes_in is ∙ bytes_behind probes (Opens path ∷ []) (writable_probes path probes writable),
)

pub begun_drafted : (replaces : ReplaceRule) (path draft target : List ℕ) (probes new : List FileCall) (taken : List (List ℕ))
    → (IsDescriptor path → ⊥) → IsTargetOf replaces path target probes
    → IsBeside draft target → new ≡ probes ++ taking taken ++ Creates draft (draft_mode (there probes)) ∷ []
    → IsSoFar replaces (Some path) (Drafted draft target) new × (bytes_in new ≡ [])
begun_drafted replaces path draft target probes new taken none led beside is = (
  (path, refl, record { probes = probes; taken = taken; pieces = []; no_descriptor = none; target_is = led; beside = beside; calls_are = is }),
  ap bytes_in is ∙ bytes_behind (probes ++ taking taken) (Creates draft (draft_mode (there probes)) ∷ [])
      (taking_probes probes taken (target_probes replaces path target probes led)),
)

-- whatever the mode of the draft, no bytes went to it
pub drafted_bytes : (replaces : ReplaceRule) (path target draft : List ℕ) (mode : ℕ) (probes new : List FileCall)
    (taken : List (List ℕ)) → IsTargetOf replaces path target probes
    → new ≡ probes ++ taking taken ++ Creates draft mode ∷ [] → bytes_in new ≡ []
drafted_bytes replaces path target draft mode probes new taken led is =
    ap bytes_in is ∙ bytes_behind (probes ++ taking taken) (Creates draft mode ∷ [])
    (taking_probes probes taken (target_probes replaces path target probes led))

bytes_written : (pieces : List (List ℕ)) → bytes_in (map Writes pieces) ≡ concat pieces
bytes_written [] = refl
bytes_written (piece ∷ pieces) = ap (λ t. piece ++ t) (bytes_written pieces)

pub more_through : (path text bytes : List ℕ) (calls : List FileCall) → IsWrittenThrough path text calls
    → IsWrittenThrough path (text ++ bytes) (calls ++ Writes bytes ∷ [])
more_through path text bytes calls w = record {
  probes = w.probes;
  pieces = w.pieces ++ bytes ∷ [];
  writable = w.writable;
  whole = concat-push w.pieces bytes ∙ ap (λ t. t ++ bytes) w.whole;
  calls_are = ap (λ cs. cs ++ Writes bytes ∷ []) w.calls_are
      ∙ append_assoc w.probes (writing path w.pieces) (Writes bytes ∷ [])
      ∙ ap (λ cs. w.probes ++ Opens path ∷ cs) (sym (map-append Writes w.pieces (bytes ∷ [])));
}

pub more_drafted : (replaces : ReplaceRule) (path draft target bytes : List ℕ) (calls : List FileCall)
    → IsDrafted replaces path draft target calls → IsDrafted replaces path draft target (calls ++ Writes bytes ∷ [])
more_drafted replaces path draft target bytes calls d = record {
  probes = d.probes;
  taken = d.taken;
  pieces = d.pieces ++ bytes ∷ [];
  no_descriptor = d.no_descriptor;
  target_is = d.target_is;
  beside = d.beside;
  calls_are = ap (λ cs. cs ++ Writes bytes ∷ []) d.calls_are
      ∙ append_assoc (d.probes ++ taking d.taken) (drafting draft (draft_mode (there d.probes)) d.pieces) (Writes bytes ∷ [])
      ∙ ap (λ cs. d.probes ++ taking d.taken ++ Creates draft (draft_mode (there d.probes)) ∷ cs) (sym (map-append Writes d.pieces (bytes ∷ [])));
}

-- more bytes are written
pub more_so_far : (replaces : ReplaceRule) (path : Option (List ℕ)) (stage : Stage) (calls : List FileCall)
    (bytes : List ℕ) → takes_bytes stage ≡ true → IsSoFar replaces path stage calls
    → IsSoFar replaces path stage (calls ++ Writes bytes ∷ [])
more_so_far replaces path Through calls bytes takes so =
    (so.0, so.1, so.2 ++ bytes, more_through so.0 so.2 bytes calls so.3)
more_so_far replaces path (Drafted draft target) calls bytes takes so =
    (so.0, so.1, more_drafted replaces so.0 draft target bytes calls so.2)
more_so_far replaces path stage calls bytes takes so = cc

-- what went through is at the path
pub hands_on_through : (path : Option (List ℕ)) (replaces : ReplaceRule) (calls : List FileCall)
    → IsSoFar replaces path Through calls → HandsOn path replaces calls
hands_on_through path replaces calls so =
    let w : IsWrittenThrough so.0 so.2 calls = so.3 in (
      so.0,
      so.1,
      inr (record {
        probes = w.probes;
        pieces = w.pieces;
        writable = w.writable;
        whole = sym (ap bytes_in w.calls_are
            ∙ bytes_behind w.probes (writing so.0 w.pieces) (writable_probes so.0 w.probes w.writable)
            ∙ bytes_written w.pieces);
        calls_are = w.calls_are;
      }),
    )

pub begins_probes : (path bytes : List ℕ) (calls : List FileCall) → BeginsSo path bytes calls → are_probes calls ≡ true
begins_probes path bytes calls (inl (none, is)) = ap are_probes is
begins_probes path bytes calls (inr (found, size, is)) = ap are_probes is

pub tested_probes : (replaces : ReplaceRule) (draft target : List ℕ) (tests : List FileCall)
    → IsTested replaces draft target tests → are_probes tests ≡ true
tested_probes ArchivesBelow draft target tests (inl none) = begins_probes target [] tests none
tested_probes ArchivesBelow draft target tests (inr (found, bytes, kind, covers)) = ap are_probes covers
tested_probes Summaries draft target tests (bytes, gives, is) = begins_probes target bytes tests is
tested_probes Indexes draft target tests (bytes, gives, is) = begins_probes target bytes tests is
tested_probes SameBytes draft target tests (inl (inl is)) = ap are_probes is
tested_probes SameBytes draft target tests (inl (inr (found, size, is))) = ap are_probes is
tested_probes SameBytes draft target tests (inr is) =
    ap are_probes is.calls_are ∙ both_probes draft target is.pieces

-- and so is what was drafted and put in place
pub hands_on_draft : (path : Option (List ℕ)) (replaces : ReplaceRule) (draft target : List ℕ) (calls new : List FileCall)
    → IsSoFar replaces path (Drafted draft target) calls
    → (tests : List FileCall) × IsTested replaces draft target tests
    × (new ≡ calls ++ tests ++ publishing draft target (folder_of target))
    → HandsOn path replaces new
hands_on_draft path replaces draft target calls new so put =
    let d : IsDrafted replaces so.0 draft target calls = so.2 in
    let tests = put.0 in
    let last = publishing draft target (folder_of target) in
    let asked = d.probes ++ taking d.taken in
    let calls_are : new ≡ asked ++ drafting draft (draft_mode (there d.probes)) d.pieces ++ tests ++ last =
    put.2 ∙ ap (λ cs. cs ++ tests ++ last) d.calls_are in (
      so.0,
      so.1,
      inl (record {
        draft = draft;
        target = target;
        probes = d.probes;
        taken = d.taken;
        pieces = d.pieces;
        no_descriptor = d.no_descriptor;
        target_is = d.target_is;
        beside = d.beside;
        tests = tests;
        tested = put.1;
        whole = sym (ap bytes_in calls_are
            ∙ bytes_same (asked ++ drafting draft (draft_mode (there d.probes)) d.pieces ++ tests) last refl
            ∙ bytes_same (asked ++ drafting draft (draft_mode (there d.probes)) d.pieces) tests
            (probes_bytes tests (tested_probes replaces draft target tests put.1))
            ∙ bytes_behind asked (drafting draft (draft_mode (there d.probes)) d.pieces)
            (taking_probes d.probes d.taken (target_probes replaces so.0 target d.probes d.target_is))
            ∙ bytes_written d.pieces);
        calls_are = calls_are;
      }),
    )

-- a draft that was put in place has the same bytes
pub published_bytes : (replaces : ReplaceRule) (draft target folder : List ℕ) (calls new : List FileCall)
    → (tests : List FileCall) × IsTested replaces draft target tests × (new ≡ calls ++ tests ++ publishing draft target folder)
    → bytes_in new ≡ bytes_in calls
published_bytes replaces draft target folder calls new put =
    ap bytes_in put.2 ∙ bytes_same (calls ++ put.0) (publishing draft target folder) refl
    ∙ bytes_same calls put.0 (probes_bytes put.0 (tested_probes replaces draft target put.0 put.1))

-- and so has one that was removed
pub removed_bytes : (draft : List ℕ) (calls new : List FileCall)
    → IsTakenBack draft calls new → bytes_in new ≡ bytes_in calls
removed_bytes draft calls new (tests, are, inl removed) =
    ap bytes_in removed ∙ bytes_same (calls ++ tests) (Removes draft ∷ []) refl
    ∙ bytes_same calls tests (probes_bytes tests are)
removed_bytes draft calls new (tests, are, inr (said, probe, synced)) =
    ap bytes_in synced
    ∙ bytes_same (calls ++ tests) (Syncs ∷ said ∷ Removes draft ∷ []) (said_bytes said probe)
    ∙ bytes_same calls tests (probes_bytes tests are)
  where
    said_bytes : (said : FileCall) → is_probe said ≡ true → bytes_in (Syncs ∷ said ∷ Removes draft ∷ []) ≡ []
    said_bytes said probe =
        bytes_append (said ∷ []) (Removes draft ∷ [])
        ∙ ap (λ t. t ++ []) (probes_bytes (said ∷ []) (ap (λ b. b && true) probe))

-- a draft that was removed after its calls
pub taken_back : (replaces : ReplaceRule) (path : Option (List ℕ)) (draft target : List ℕ) (calls new : List FileCall)
    → IsSoFar replaces path (Drafted draft target) calls → IsTakenBack draft calls new → IsRemoved replaces path new
taken_back replaces path draft target calls new so taken = inr (inr (inl (
  so.0,
  so.1,
  record { draft = draft; target = target; drafted = calls; is_drafted = so.2; taken_back = taken },
)))

-- one that could not be synced
pub removed_unsynced : (draft : List ℕ) (calls tested said new tests : List FileCall) → tested ≡ calls ++ tests
    → are_probes tests ≡ true → are_probes said ≡ true → new ≡ tested ++ said ++ Removes draft ∷ []
    → IsTakenBack draft calls new
removed_unsynced draft calls tested said new tests is asked probe removed = (
  tests ++ said,
  probes_append tests said asked probe,
  inl (removed ∙ ap (λ cs. cs ++ said ++ Removes draft ∷ []) is
      ∙ ap (λ cs. cs ++ Removes draft ∷ []) (append_assoc calls tests said)),
)

-- one that was synced and could not be renamed
pub removed_unnamed : (draft : List ℕ) (calls tested synced renamed new tests : List FileCall) (said : FileCall)
    → tested ≡ calls ++ tests → are_probes tests ≡ true → synced ≡ tested ++ Syncs ∷ [] → is_probe said ≡ true
    → renamed ≡ synced ++ said ∷ [] → new ≡ renamed ++ Removes draft ∷ [] → IsTakenBack draft calls new
removed_unnamed draft calls tested synced renamed new tests said is asked sync probe refused removed = (
  tests,
  asked,
  inr (
    said,
    probe,
    removed ∙ ap (λ cs. cs ++ Removes draft ∷ []) (refused ∙ ap (λ cs. cs ++ said ∷ []) sync
        ∙ append_assoc tested (Syncs ∷ []) (said ∷ []))
        ∙ append_assoc tested (Syncs ∷ said ∷ []) (Removes draft ∷ [])
        ∙ ap (λ cs. cs ++ Syncs ∷ said ∷ Removes draft ∷ []) is,
  ),
)

-- and that at once
pub removed_at_once : (draft : List ℕ) (calls new : List FileCall) → new ≡ calls ++ Removes draft ∷ []
    → IsTakenBack draft calls new
removed_at_once draft calls new is =
    ([], refl, inl (is ∙ ap (λ cs. cs ++ Removes draft ∷ []) (sym (append-nil calls))))

-- ---- states

-- what was refused was so for a reason
pub so_refused : (replaces : ReplaceRule) (path : Option (List ℕ)) (stage : Stage) (calls : List FileCall)
    → ∥ IsSoFar replaces path stage calls ∥₁ → IfSome (fault_of stage) (λ fault. ∥ IsRefused replaces path fault calls ∥₁)
so_refused replaces path (Refused fault) calls so = ∥∥₁_map so (λ is. is.1)
so_refused replaces path Untouched calls so = tt
so_refused replaces path Through calls so = tt
so_refused replaces path (Drafted draft target) calls so = tt
so_refused replaces path Removed calls so = tt
so_refused replaces path Settled calls so = tt

drafted_has_calls : (stage : Stage) → is_drafted stage ≡ true → has_calls stage ≡ false → ⊥
drafted_has_calls (Drafted d t) drafted without = cc
drafted_has_calls stage drafted without = cc

pub takes_has_calls : (stage : Stage) → takes_bytes stage ≡ true → has_calls stage ≡ false → ⊥
takes_has_calls (Drafted d t) takes without = cc
takes_has_calls stage takes without = cc

takes_unsettled : (stage : Stage) → takes_bytes stage ≡ true → is_settled stage ≡ false
takes_unsettled (Drafted d t) takes = refl
takes_unsettled stage takes = cc

-- a draft was created
drafted_some : (replaces : ReplaceRule) (path : Option (List ℕ)) (stage : Stage) (calls : List FileCall)
    → is_drafted stage ≡ true → calls ≡ [] → IsSoFar replaces path stage calls → ⊥
drafted_some replaces path (Drafted d t) calls drafted none so =
    let some = ap length (sym none ∙ so.2.calls_are) ∙ length-append (so.2.probes ++ taking so.2.taken)
    (drafting d (draft_mode (there so.2.probes)) so.2.pieces) in
    grind (arith, some)
drafted_some replaces path stage calls drafted none so = cc

-- what was neither begun nor has what was called is as it was
pub kept_empty : (old new : Stage) (calls after : List FileCall)
    → (has_calls old ≡ false → calls ≡ []) → has_calls new ≡ has_calls old
    → (is_drafted old ≡ true) ⊎ (after ≡ calls) → has_calls new ≡ false → after ≡ []
kept_empty old new calls after empty same (inl drafted) without = absurd (drafted_has_calls old drafted (sym same ∙ without))
kept_empty old new calls after empty same (inr is) without = is ∙ empty (sym same ∙ without)

-- and what took nothing has nothing called
pub kept_first : (replaces : ReplaceRule) (path : Option (List ℕ)) (old : Stage) (calls after : List FileCall) (failures : ℕ)
    → ∥ IsSoFar replaces path old calls ∥₁ → (took_nothing (bytes_in calls) failures ≡ true → calls ≡ [])
    → bytes_in after ≡ bytes_in calls → (is_drafted old ≡ true) ⊎ (after ≡ calls)
    → took_nothing (bytes_in after) failures ≡ true → after ≡ []
kept_first replaces path old calls after failures so first bytes (inl drafted) none =
    let empty : calls ≡ [] = first (ap (λ b. took_nothing b failures) (sym bytes) ∙ none) in
    absurd (not_there so (λ is. drafted_some replaces path old calls drafted empty is))
kept_first replaces path old calls after failures so first bytes (inr is) none =
    is ∙ first (ap (λ b. took_nothing b failures) (sym bytes) ∙ none)

-- what is handed on is at the path that there is
pub published_at : (path : Option (List ℕ)) (replaces : ReplaceRule) (p : List ℕ) (calls : List FileCall) → path ≡ Some p
    → HandsOn path replaces calls → IsPublished p replaces (bytes_in calls) calls
published_at path replaces p calls is hands =
    subst (λ q. IsPublished q replaces (bytes_in calls) calls) (some_inj (sym hands.1 ∙ is)) hands.2
  where
    some_inj : {q r : List ℕ} → Some q ≡ Some r → q ≡ r
    some_inj e = cc

pub none_handed_on : (replaces : ReplaceRule) (calls : List FileCall) → HandsOn None replaces calls → ⊥
none_handed_on replaces calls hands = let e = hands.1 in cc

-- ---- what OUT takes

-- it took more bytes
pub more_account : (path : Option (List ℕ)) (replaces : ReplaceRule) (old new : Stage) (calls begun after : List FileCall) (bytes : List ℕ)
    → is_settled new ≡ is_settled old → takes_bytes new ≡ true → bytes_in begun ≡ bytes_in calls
    → after ≡ begun ++ Writes bytes ∷ []
    → draft_account (is_settled new) path replaces after ≡ draft_account (is_settled old) path replaces calls ++ bytes
more_account path replaces old new calls begun after bytes settled takes same is =
    let unsettled : is_settled new ≡ false = takes_unsettled new takes in
    ap (λ s. draft_account s path replaces after) unsettled
    ∙ ap (account path replaces) (ap bytes_in is ∙ bytes_append begun (Writes bytes ∷ [])
    ∙ ap (λ b. bytes_in begun ++ b) (append-nil bytes) ∙ ap (λ b. b ++ bytes) same)
    ∙ sym (append_assoc (place path) (number_of replaces ∷ bytes_in calls) bytes)
    ∙ ap (λ s. draft_account s path replaces calls ++ bytes) (sym (sym settled ∙ unsettled))

-- it has taken something then
pub took_some : (calls after : List FileCall) (bytes : List ℕ) (n failures : ℕ) → after ≡ calls ++ Writes (take n bytes) ∷ []
    → 0 < n → n ≤ length bytes → took_nothing (bytes_in after) failures ≡ true → ⊥
took_some calls after bytes n failures is some bound none =
    let parts = and_parts (length (bytes_in after) == 0) (failures == 0) none in
    let zero = parts.0 in
    let long = ap (λ cs. length (bytes_in cs)) is
    ∙ ap length (bytes_append calls (Writes (take n bytes) ∷ []) ∙ ap (λ b. bytes_in calls ++ b) (append-nil (take n bytes)))
    ∙ length-append (bytes_in calls) (take n bytes) in
    let taken = length-take-le n bytes bound in
    grind (arith, zero, long, taken, some)

-- and what failed is not untouched
pub failed_some : (bytes : List ℕ) (failures : ℕ) → took_nothing bytes (failures + 1) ≡ true → ⊥
failed_some bytes failures none =
    let parts = and_parts (length bytes == 0) (failures + 1 == 0) none in let zero = parts.1 in grind (arith, zero)

-- what was taken is so whatever an error would have said
pub written_anyhow : {T : Type 0} (D E : Type 0) (contents : T → Option (List ℕ)) (old new : OutState T) (n : ℕ) (bytes : List ℕ)
    → WritesTo {E = D} contents old new (Ok n) bytes → WritesTo {E = E} contents old new (Ok n) bytes
written_anyhow D E contents (state.Through f) state.Untouched n bytes writes = writes
written_anyhow D E contents (state.Drafted f) state.Untouched n bytes writes = writes
written_anyhow D E contents old new n bytes writes = writes
