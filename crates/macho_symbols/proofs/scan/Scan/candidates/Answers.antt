use Rattle.std.proofs.Common.{◌≡◌, ◌∙◌, ◌+◌, ◌<◌, ◌^◌, None, ap, arith, drop, length, subst, sym}
use Rattle.std.specs.Prelude.{IfSome}
use Rattle.std.specs.Option.{option_map_or}
use Rattle.macho_symbols.specs.Symbols.{entries_of, table_of}
use Rattle.macho_symbols.specs.InnerCandidates.{AreCandidatesBelow, numbered_in}
use Rattle.macho_symbols.specs.declared.candidate.Candidate.{Candidate}
use Rattle.macho_symbols.proofs.EntryLemmas.{length-entries}
use Rattle.macho_symbols.proofs.Numbered.{entry_there, none_more, one_more}
use Rattle.macho_symbols.proofs.scan.Scan.candidates.Goals as goal
use Rattle.macho_symbols.proofs.scan.Scan.candidates.Goals.{in-Some+in_ok-push, in_default}

pub entries-preserved : goal.entries-preserved
entries-preserved c =
    let image = c.args.self.now in
    let within : c.entries.index < (table_of image).nsyms =
    omega (
      arith,
      c.entries-test.true,
      ap (λ b. length (entries_of b)) c.self.view_is,
      length-entries (table_of image).nsyms (drop (table_of image).symoff image),
    ) in
    let is = c.candidate_at.ensures.numbered ∙ ap (λ o. option_map_or (numbered_in image) o None) (entry_there image c.entries.index within) in
    elim c.match-candidate_at.branch [
      | in-Some+in_ok-push w ↦
          one_more image c.entries.index c.entries.candidates.items _ w.in-Some.candidate (sym is ∙ w.in-Some.is)
          (subst (λ o. IfSome o (λ (k : Candidate). k.sect < 2 ^ 8)) w.in-Some.is c.candidate_at.ensures.small)
          (ap (λ v. v.items) w.candidates-is ∙ w.in_ok-push.ensures.items) c.entries.invariant
      | in_default w ↦
          subst (λ v. AreCandidatesBelow image (c.entries.index + 1) v.items) (sym w.candidates-is)
          (none_more image c.entries.index c.entries.candidates.items (sym is ∙ w.in_default.is)
          c.entries.invariant)
    ]

pub returns : goal.returns
returns c =
    let image = c.args.self.now in
    let end : c.entries.index ≡ (table_of image).nsyms =
    omega (
      arith,
      c.entries-test.false,
      c.entries.auto.index-end,
      ap (λ b. length (entries_of b)) c.self.view_is,
      length-entries (table_of image).nsyms (drop (table_of image).symoff image),
    ) in
    subst (λ n. AreCandidatesBelow image n c.entries.candidates.items) end c.entries.invariant
