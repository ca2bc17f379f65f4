-- How a text is published at OUT's path.
use Rattle.std.specs.Prelude.{◌≡◌, ◌≢◌, ◌≤◌, ◌<◌, ◌⊎◌, ℕ, suc, Bool, true, ◌&&◌, ◌==◌, List, [], ◌∷◌, ◌++◌}
use Rattle.std.specs.Prelude.{All, IfSome, bit_and, codes, false, if◌then◌else◌, length, Option, Some, None, unwrap_or}
use Rattle.std.specs.Fmt.{decimal}
use Rattle.std.specs.List.{concat}
use Rattle.std.specs.Path.{path_parent, path_with_file_name}
use Rattle.cli_files.specs.FileCalls.{Begins, Compares, FileCall, Finds, FindsLink, FindsNoLink, FindsNothing}
use Rattle.cli_files.specs.FileCalls.{Gives, Leads, Removes, Syncs, are_probes, bytes_in, drafting, is_probe}
use Rattle.cli_files.specs.FileCalls.{publishing, taking, writing}
use Rattle.cli_files.specs.Identities.{AreApart, IsMet}
use Rattle.cli_files.specs.declared.found.Found.{Found}
use Rattle.cli_files.specs.declared.replaceable.ReplaceRule.{ReplaceRule}
use Rattle.cli_files.specs.declared.replaceable.ReplaceRule.TheVariants.{ArchivesBelow, Summaries, Indexes, SameBytes}
use Rattle.cli_files.specs.Replacing.{GivesWay, IsOfKind}

-- ---- paths

-- the name of a draft of this process
abbrev pub draft_name : ℕ → ℕ → List ℕ
draft_name process number = codes ".symarch-" ++ decimal process ++ codes "-" ++ decimal number

-- the folder of a path
abbrev pub folder_of : List ℕ → List ℕ
folder_of path =
    let folder = unwrap_or (path_parent path) [] in if length folder == 0 then codes "." else folder

-- a number in decimal digits
abbrev pub IsNumber : List ℕ → Type 0
IsNumber text = (0 < length text) × All (λ digit. 48 ≤ digit × digit ≤ 57) text

-- The name of a process under /proc.
abbrev pub IsProcess : List ℕ → Type 0
IsProcess name = (name ≡ codes "self") ⊎ (name ≡ codes "thread-self") ⊎ IsNumber name

-- A descriptor in this folder of descriptors.
pub record IsNumbered (folder path : List ℕ) : Type 0 where
  pub number : List ℕ
  pub is_number : IsNumber number
  pub path_is : path ≡ folder ++ number

-- The path of a descriptor of a process.
abbrev pub IsDescriptor : List ℕ → Type 0
IsDescriptor path =
    (path ≡ codes "/dev/stdout") ⊎ (path ≡ codes "/dev/stderr") ⊎ IsNumbered (codes "/dev/fd/") path
    ⊎ ((process : List ℕ) × IsProcess process × IsNumbered (codes "/proc/" ++ process ++ codes "/fd/") path)

-- The draft is in the folder of the target, and has a different name.
pub record IsBeside (draft target : List ℕ) : Type 0 where
  pub process : ℕ
  pub number : ℕ
  pub draft_is : draft ≡ path_with_file_name target (draft_name process number)
  pub apart : draft ≢ target

-- ---- calls

-- The system reported a regular file at a path, whose first bytes allow it to be replaced; no bytes were read only if
-- it is empty.
pub record FindsReplaced (replaces : ReplaceRule) (path : List ℕ) (probes : List FileCall) : Type 0 where
  pub found : Found
  pub bytes : List ℕ
  pub is_file : found.is_file ≡ true
  pub gives_way : GivesWay replaces bytes
  pub empty : bytes ≡ [] → found.size ≡ 0
  pub probes_are : probes ≡ Finds path found ∷ Begins path bytes ∷ []

-- By the replies of the system, the target of a path is the path itself, if nothing or a replaceable regular file is
-- there; or the replaceable file that a link leads to.
abbrev pub IsTargetOf : ReplaceRule → List ℕ → List ℕ → List FileCall → Type 0
IsTargetOf replaces path target probes =
    ((target ≡ path) × (probes ≡ FindsNothing path ∷ FindsNoLink path ∷ []))
    ⊎ ((found : List FileCall) × FindsReplaced replaces path found
    × (((target ≡ path) × (probes ≡ found ++ FindsNoLink path ∷ []))
    ⊎ (probes ≡ found ++ FindsLink path ∷ Leads path target ∷ [])))

-- the file at a path, as the first call reports it
abbrev pub there : List FileCall → Option Found
there (Finds path found ∷ calls) = Some found
there _ = None

-- the mode of a draft: the permissions of what it replaces, without set-id bits, or those of a new file
abbrev pub draft_mode : Option Found → ℕ
draft_mode None = 0o666
draft_mode (Some found) = bit_and found.mode 0o777

-- The text is written to the file at the path: the system reported that it is no regular file, or the path is a
-- descriptor.
abbrev pub IsWritable : List ℕ → List FileCall → Type 0
IsWritable path probes =
    ((found : Found) × (found.is_file ≡ false) × (probes ≡ Finds path found ∷ []))
    ⊎ ((probes ≡ []) × IsDescriptor path)

-- The system reported these first bytes for the file at a path, none only if the file is empty; or nothing is there.
abbrev pub BeginsSo : List ℕ → List ℕ → List FileCall → Type 0
BeginsSo path bytes calls =
    ((bytes ≡ []) × (calls ≡ FindsNothing path ∷ []))
    ⊎ ((found : Found) × (bytes ≡ [] → found.size ≡ 0) × (calls ≡ Finds path found ∷ Begins path bytes ∷ []))

-- the archive at the target, which has these first bytes, is compared with the draft, which neither has nor covers
-- `lost` of its records
abbrev pub comparing : List ℕ → List ℕ → Found → List ℕ → ℕ → List FileCall
comparing draft target found bytes lost =
    Finds target found ∷ Begins target bytes ∷ Compares draft target lost ∷ []

-- both files are read piece by piece and return the same bytes
abbrev pub both_give : List ℕ → List ℕ → List (List ℕ) → List FileCall
both_give draft target [] = []
both_give draft target (piece ∷ pieces) = Gives draft piece ∷ Gives target piece ∷ both_give draft target pieces

-- Both files have the same size, and the same bytes of that number were read from each.
pub record AreSame (draft target : List ℕ) (calls : List FileCall) : Type 0 where
  pub of_target : Found
  pub of_draft : Found
  pub pieces : List (List ℕ)
  pub size : of_draft.size ≡ of_target.size
  pub whole : length (concat pieces) ≡ of_target.size
  pub calls_are : calls ≡ Finds target of_target ∷ Finds draft of_draft ∷ both_give draft target pieces

-- The files have different sizes, or different bytes at some offset.
abbrev pub AreOther : List ℕ → List ℕ → List FileCall → Type 0
AreOther draft target calls =
    (of_target : Found) × (of_draft : Found)
    × (((of_draft.size ≢ of_target.size) × (calls ≡ Finds target of_target ∷ Finds draft of_draft ∷ []))
    ⊎ ((pieces : List (List ℕ)) × (a : List ℕ) × (b : List ℕ) × (a ≢ b)
    × (calls ≡ Finds target of_target ∷ Finds draft of_draft ∷ both_give draft target pieces
    ++ Gives draft a ∷ Gives target b ∷ [])))

-- The system reported that nothing is at the path, or an empty file.
abbrev pub IsEmptyAt : List ℕ → List FileCall → Type 0
IsEmptyAt path calls =
    (calls ≡ FindsNothing path ∷ []) ⊎ ((found : Found) × (found.size ≡ 0) × (calls ≡ Finds path found ∷ []))

-- The draft may replace the target: nothing or an empty file is there, or a file of the draft's kind. The draft has or
-- covers each record of an archive there. If the draft is a slice, the file there has the same bytes.
abbrev pub IsTested : ReplaceRule → List ℕ → List ℕ → List FileCall → Type 0
IsTested SameBytes draft target tests = IsEmptyAt target tests ⊎ AreSame draft target tests
IsTested ArchivesBelow draft target tests =
    BeginsSo target [] tests
    ⊎ ((found : Found) × (bytes : List ℕ) × IsOfKind ArchivesBelow bytes
    × (tests ≡ comparing draft target found bytes 0))
IsTested replaces draft target tests = (bytes : List ℕ) × GivesWay replaces bytes × BeginsSo target bytes tests

-- A draft was removed after these calls: before it was synced, or because the rename failed.
abbrev pub IsTakenBack : List ℕ → List FileCall → List FileCall → Type 0
IsTakenBack draft old new =
    (tests : List FileCall) × (are_probes tests ≡ true)
    × ((new ≡ old ++ tests ++ Removes draft ∷ [])
    ⊎ ((said : FileCall) × (is_probe said ≡ true) × (new ≡ old ++ tests ++ Syncs ∷ said ∷ Removes draft ∷ [])))

-- The pieces of the text were written to a draft next to the target of a path that is no descriptor, under a name that
-- was not in use; and the draft, which may replace the target, was renamed to it.
pub record IsReplaced (path : List ℕ) (replaces : ReplaceRule) (text : List ℕ) (calls : List FileCall) : Type 0 where
  pub draft : List ℕ
  pub target : List ℕ
  pub probes : List FileCall
  pub taken : List (List ℕ)
  pub pieces : List (List ℕ)
  pub no_descriptor : IsDescriptor path → ⊥
  pub target_is : IsTargetOf replaces path target probes
  pub beside : IsBeside draft target
  pub tests : List FileCall
  pub tested : IsTested replaces draft target tests
  pub whole : concat pieces ≡ text
  pub calls_are : calls ≡ probes ++ taking taken ++ drafting draft (draft_mode (there probes)) pieces ++ tests
      ++ publishing draft target (folder_of target)

-- The pieces of the text were written to the file at the path, which is no regular file, or whose path is a descriptor.
pub record IsWrittenThrough (path text : List ℕ) (calls : List FileCall) : Type 0 where
  pub probes : List FileCall
  pub pieces : List (List ℕ)
  pub writable : IsWritable path probes
  pub whole : concat pieces ≡ text
  pub calls_are : calls ≡ probes ++ writing path pieces

-- The text is at the path: it replaced the file there, or was written to it.
abbrev pub IsPublished : List ℕ → ReplaceRule → List ℕ → List FileCall → Type 0
IsPublished path replaces text calls = IsReplaced path replaces text calls ⊎ IsWrittenThrough path text calls

-- The pieces of a text were written to a draft next to the target of a path that is no descriptor, under a name that
-- was not in use.
pub record IsDrafted (replaces : ReplaceRule) (path draft target : List ℕ) (calls : List FileCall) : Type 0 where
  pub probes : List FileCall
  pub taken : List (List ℕ)
  pub pieces : List (List ℕ)
  pub no_descriptor : IsDescriptor path → ⊥
  pub target_is : IsTargetOf replaces path target probes
  pub beside : IsBeside draft target
  pub calls_are : calls ≡ probes ++ taking taken ++ drafting draft (draft_mode (there probes)) pieces

-- Such a draft was written, perhaps compared and synced, and removed.
pub record IsDraftRemoved (replaces : ReplaceRule) (path : List ℕ) (calls : List FileCall) : Type 0 where
  pub draft : List ℕ
  pub target : List ℕ
  pub drafted : List FileCall
  pub is_drafted : IsDrafted replaces path draft target drafted
  pub taken_back : IsTakenBack draft drafted calls

-- No call was made for OUT; or it has this path and was only probed; or its draft was removed; or the path is no
-- regular file, or a descriptor, and bytes were written to it.
abbrev pub IsRemoved : ReplaceRule → Option (List ℕ) → List FileCall → Type 0
IsRemoved replaces path calls =
    (calls ≡ []) ⊎ ((p : List ℕ) × (path ≡ Some p) × (are_probes calls ≡ true))
    ⊎ ((p : List ℕ) × (path ≡ Some p) × IsDraftRemoved replaces p calls)
    ⊎ ((p : List ℕ) × (path ≡ Some p) × (text : List ℕ) × IsWrittenThrough p text calls)

-- OUT has a path, and the bytes of these calls are published there
abbrev pub HandsOn : Option (List ℕ) → ReplaceRule → List FileCall → Type 0
HandsOn path replaces calls = (p : List ℕ) × (path ≡ Some p) × IsPublished p replaces (bytes_in calls) calls

-- ---- known facts

-- OUT has the command's path, if there is one, and the system reported no input to be the same file; or OUT has no path
-- and is never created, because the system reported that an input is OUT's own file.
abbrev pub IsPath : Option (List ℕ) → List (List ℕ) → List FileCall → Option (List ℕ) → Type 0
IsPath asked inputs compared path =
    ((path ≡ asked) × IfSome asked (λ out. AreApart out inputs compared))
    ⊎ ((path ≡ None) × (out : List ℕ) × (asked ≡ Some out) × IsMet out inputs compared)

-- no bytes were written to the file, and it did not fail
abbrev pub took_nothing : List ℕ → ℕ → Bool
took_nothing bytes failures = length bytes == 0 && failures == 0

-- an optional path, at the start of an account
abbrev pub place : Option (List ℕ) → List ℕ
place None = 0 ∷ []
place (Some path) = suc (length path) ∷ path

-- the number of a rule of replacement
abbrev pub number_of : ReplaceRule → ℕ
number_of ArchivesBelow = 0
number_of Summaries = 1
number_of Indexes = 2
number_of SameBytes = 3

-- The account of OUT: its path, its rule of replacement, and the bytes written to it. Written bytes are added at the
-- end, so the path and the rule remain.
abbrev pub account : Option (List ℕ) → ReplaceRule → List ℕ → List ℕ
account path replaces bytes = place path ++ (number_of replaces ∷ bytes)
