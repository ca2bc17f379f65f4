-- Why OUT is refused, from what the system said.
use Rattle.std.proofs.Common.{◌≡◌, ◌≢◌, ◌∙◌, ℕ, List, [], ◌∷◌, ◌++◌, Option, Some, None, false, true, refl, sym, ap}
use Rattle.std.proofs.Common.{append_assoc, arith, inl, inr, is_some, length, subst}
use Rattle.std.specs.IoError.{error_kind}
use Rattle.std.specs.declared.io.Error.{Error}
use Rattle.std.specs.declared.io.ErrorKind.TheVariants.{NotFound}
use Rattle.cli_files.specs.FileCalls.{Begins, Compares, FileCall, Finds, FindsLink, FindsNoLink, FindsNothing, Leads, failed, first_bytes}
use Rattle.archive_records.specs.declared.fault.MergeCause.{MergeCause}
use Rattle.archive_records.specs.declared.fault.MergeCause.TheVariants.{Left, Right, Write}
use Rattle.cli_files.specs.Refusals.{IsSaid, IsUncompared, IsUnread, is_failure}
use Rattle.archive_records.specs.Kind.{magic_of}
use Rattle.archive_records.specs.declared.format.Format.{Format}
use Rattle.archive_records.specs.declared.format.Format.TheVariants.{Archive, OldArchive, Operations, Summary}
use Rattle.cli_files.specs.declared.replaceable.ReplaceRule.TheVariants.{ArchivesBelow}
use Rattle.cli_files.specs.Publishing.{BeginsSo, IsTargetOf, IsTested, comparing}
use Rattle.cli_files.specs.Replacing.{IsOfKind}
use Rattle.cli_files.specs.declared.replaceable.{Obstacle.Obstacle, OutFault.OutFault, ReplaceRule.ReplaceRule}
use Rattle.cli_files.specs.declared.replaceable.Obstacle.TheVariants.{Damaged, Differs, Loses, OtherKind, Refused}
use Rattle.cli_files.specs.declared.replaceable.OutFault.TheVariants.{NotCreated, NotReplaced, OutOfMemory}

-- nothing is there
pub absent_fails : (replaces : ReplaceRule) (error : Error) (path : List ℕ) (before calls : List FileCall)
    → calls ≡ before ++ FindsNothing path ∷ [] → error_kind error ≡ NotFound
    → IsSaid replaces (NotCreated (Some error)) calls
absent_fails replaces error path before calls is kind =
    inl (before, path, is ∙ ap (λ k. before ++ failed path k ∷ []) (sym kind))

-- a link is there, which leads to nothing
pub leads_nowhere : (replaces : ReplaceRule) (error : Error) (path : List ℕ) (before old calls : List FileCall)
    → old ≡ before ++ FindsNothing path ∷ [] → calls ≡ old ++ FindsLink path ∷ [] → error_kind error ≡ NotFound
    → IsSaid replaces (NotCreated (Some error)) calls
leads_nowhere replaces error path before old calls was is kind =
    inr (inl (
      before,
      path,
      kind,
      is ∙ ap (λ cs. cs ++ FindsLink path ∷ []) was
          ∙ append_assoc before (FindsNothing path ∷ []) (FindsLink path ∷ []),
    ))

-- a file of another kind is there
pub other_kind : (replaces : ReplaceRule) (path : List ℕ) (beginning : Option (List ℕ)) (fault : OutFault) (calls : List FileCall)
    → (beginning ≢ None → (before : List FileCall) × (calls ≡ before ++ Begins path (first_bytes beginning) ∷ []))
    → (bytes : List ℕ) × (beginning ≡ Some bytes) × (fault ≡ NotReplaced (OtherKind bytes)) × (IsOfKind replaces bytes → ⊥)
    → IsSaid replaces fault calls
other_kind replaces path beginning fault calls read (bytes, begins, is, other) =
    let last = read (λ none. cc) in
    subst (λ f. IsSaid replaces f calls) (sym is)
    (last.0, path, other, last.1 ∙ ap (λ b. last.0 ++ Begins path (first_bytes b) ∷ []) begins)

no_archive : IsOfKind ArchivesBelow [] → ⊥
no_archive (format, kind, is) = no_magic format (ap length is)
  where
    no_magic : (format : Format) → 0 ≡ length (magic_of format) → ⊥
    no_magic Archive is = omega (arith, is)
    no_magic OldArchive is = omega (arith, is)
    no_magic Operations is = omega (arith, is)
    no_magic Summary is = omega (arith, is)

-- a file that is there begins as an archive does, and nothing was asked after that
pub begun_uncompared : (target : List ℕ) (beginning : Option (List ℕ)) (old new tests : List FileCall)
    → is_some beginning ≡ true → ((bytes : List ℕ) → beginning ≡ Some bytes → IsOfKind ArchivesBelow bytes)
    → BeginsSo target (first_bytes beginning) tests → new ≡ old ++ tests → IsUncompared new
begun_uncompared target None old new tests some kind begins after = cc some
begun_uncompared target (Some bytes) old new tests some kind (inl (empty, is)) after =
    absurd (no_archive (subst (IsOfKind ArchivesBelow) empty (kind bytes refl)))
begun_uncompared target (Some bytes) old new tests some kind (inr (found, size, is)) after = (
  old ++ Finds target found ∷ [],
  target,
  bytes,
  kind bytes refl,
  after ∙ ap (λ ts. old ++ ts) is ∙ sym (append_assoc old (Finds target found ∷ []) (Begins target bytes ∷ [])),
)

-- and it was compared then, and nothing of it is lost
pub compared_tested : (draft target : List ℕ) (beginning : Option (List ℕ)) (lost : ℕ) (old mid new tests : List FileCall)
    → is_some beginning ≡ true → ((bytes : List ℕ) → beginning ≡ Some bytes → IsOfKind ArchivesBelow bytes)
    → BeginsSo target (first_bytes beginning) tests → mid ≡ old ++ tests → new ≡ mid ++ Compares draft target lost ∷ []
    → lost ≡ 0 → (tests : List FileCall) × IsTested ArchivesBelow draft target tests × (new ≡ old ++ tests)
compared_tested draft target None lost old mid new tests some kind begins after next zero = cc some
compared_tested draft target (Some bytes) lost old mid new tests some kind (inl (empty, is)) after next zero =
    absurd (no_archive (subst (IsOfKind ArchivesBelow) empty (kind bytes refl)))
compared_tested draft target (Some bytes) lost old mid new tests some kind (inr (found, size, is)) after next zero = (
  comparing draft target found bytes 0,
  inr (found, bytes, kind bytes refl, refl),
  next ∙ ap (λ n. mid ++ Compares draft target n ∷ []) zero
      ∙ ap (λ cs. cs ++ Compares draft target 0 ∷ []) (after ∙ ap (λ ts. old ++ ts) is)
      ∙ append_assoc old (Finds target found ∷ Begins target bytes ∷ []) (Compares draft target 0 ∷ []),
)

-- what was said last of a path that a draft may be made for is no failure
pub target_last : (replaces : ReplaceRule) (path target : List ℕ) (probes : List FileCall) → IsTargetOf replaces path target probes
    → (before : List FileCall) × (said : FileCall) × (is_failure said ≡ false) × (probes ≡ before ++ said ∷ [])
target_last replaces path target probes (inl none) = (FindsNothing path ∷ [], FindsNoLink path, refl, none.1)
target_last replaces path target probes (inr (found, is, inl file)) = (found, FindsNoLink path, refl, file.1)
target_last replaces path target probes (inr (found, is, inr link)) = (
  found ++ FindsLink path ∷ [],
  Leads path target,
  refl,
  link ∙ sym (append_assoc found (FindsLink path ∷ []) (Leads path target ∷ [])),
)

-- what was said last of an archive that was not compared is no failure
pub uncompared_last : (calls : List FileCall) → IsUncompared calls
    → (before : List FileCall) × (said : FileCall) × (is_failure said ≡ false) × (calls ≡ before ++ said ∷ [])
uncompared_last calls (before, path, bytes, kind, is) = (before, Begins path bytes, refl, is)

no_creation : (stop : MergeCause) (of_draft of_target reason : Option Error)
    → IsUnread stop of_draft of_target (NotCreated reason) → ⊥
no_creation (Left stop) of_draft of_target reason unread = unread
no_creation (Right stop) of_draft of_target reason unread = unread
no_creation Write of_draft of_target reason unread = unread

no_kind : (stop : MergeCause) (of_draft of_target : Option Error) (bytes : List ℕ)
    → IsUnread stop of_draft of_target (NotReplaced (OtherKind bytes)) → ⊥
no_kind (Left stop) of_draft of_target bytes unread = unread
no_kind (Right stop) of_draft of_target bytes unread = unread
no_kind Write of_draft of_target bytes unread = unread

pub no_loss : (stop : MergeCause) (of_draft of_target : Option Error) (lost : ℕ)
    → IsUnread stop of_draft of_target (NotReplaced (Loses lost)) → ⊥
no_loss (Left stop) of_draft of_target lost unread = unread
no_loss (Right stop) of_draft of_target lost unread = unread
no_loss Write of_draft of_target lost unread = unread

no_difference : (stop : MergeCause) (of_draft of_target : Option Error)
    → IsUnread stop of_draft of_target (NotReplaced Differs) → ⊥
no_difference (Left stop) of_draft of_target unread = unread
no_difference (Right stop) of_draft of_target unread = unread
no_difference Write of_draft of_target unread = unread

-- reading one of two archives stopped, after what was said of them
pub unread_said : (replaces : ReplaceRule) (stop : MergeCause) (of_draft of_target : Option Error)
    (fault : OutFault) (calls : List FileCall) → IsUnread stop of_draft of_target fault → IsUncompared calls → IsSaid replaces fault calls
unread_said replaces stop of_draft of_target OutOfMemory calls unread last = uncompared_last calls last
unread_said replaces stop of_draft of_target (NotReplaced Damaged) calls unread last = last
unread_said replaces stop of_draft of_target (NotReplaced (Refused None)) calls unread last = last
unread_said replaces stop of_draft of_target (NotReplaced (Refused (Some error))) calls unread last = inr last
unread_said replaces stop of_draft of_target (NotReplaced (OtherKind bytes)) calls unread last = absurd (no_kind stop of_draft of_target bytes unread)
unread_said replaces stop of_draft of_target (NotReplaced (Loses lost)) calls unread last = absurd (no_loss stop of_draft of_target lost unread)
unread_said replaces stop of_draft of_target (NotReplaced Differs) calls unread last = absurd (no_difference stop of_draft of_target unread)
unread_said replaces stop of_draft of_target (NotCreated reason) calls unread last = absurd (no_creation stop of_draft of_target reason unread)
