use Rattle.std.proofs.Common.{List, ℕ, map, take, drop, ap, sym, subst, ◌∙◌}
use Rattle.std.specs.List.{AllZip}
use Rattle.std.proofs.lemmas.Option.{MatchOption-at_none, MatchOption-at_some}
use Rattle.table_checked_pages.specs.Pages.{AreStored}
use Rattle.table_checked_pages.specs.Views.{claim_view}
use Rattle.table_checked_pages.specs.declared.claim.Claim.{Claim}
use Rattle.table_checked_pages.proofs.ReadLemmas.{after_ok, passed_on}
use Rattle.index_lookup.specs.InnerAnswering.{AreFramesBased, IsTableBy}
use Rattle.index_lookup.specs.Told.{AreFramesToldBy, HasNoLinesBy, IsToldBy}
use Rattle.index_lookup.specs.Views.{list_in, told_view}
use Rattle.index_lookup.proofs.Columns.{zip_as}
use Rattle.index_lookup.proofs.told.column_of.Goals as goal

pub returns-in_err-table-clause-read : goal.returns-in_err-table-clause-read
returns-in_err-table-clause-read g c =
    passed_on c.in_err-table.was c.from_residual.ensures.1
    (λ text known absent long slice all is stored. absent long slice all is
    (subst (λ claim. AreStored text claim all) c.args.numbered.now.fields.claim_is stored))
    c.owns_by_claim.ensures.read

pub returns-in_err-frames-clause-read : goal.returns-in_err-frames-clause-read
returns-in_err-frames-clause-read g c =
    let owns = c.in_ok-table.ensures.read in
    let named = sym c.in_ok-table.ensures.claim in
    passed_on c.in_err-frames.was c.from_residual-in_err-frames.ensures.1
    (λ text known absent long slice all is stored.
    absent (subst (λ (fields : Claim). IsTableBy text (claim_view fields) c.in_ok-table.table) named (owns.says text known).0) slice all is
    (subst (λ (fields : Claim). AreStored text (claim_view fields) all) named
    (subst (λ claim. AreStored text claim all) c.args.numbered.now.fields.claim_is stored)))
    (after_ok owns.keeps owns.counts c.frames_if.ensures.read)

pub returns-in_default-clause-read : goal.returns-in_default-clause-read
returns-in_default-clause-read g c =
    let owns = c.in_ok-table.ensures.read in
    let named = c.in_ok-table.ensures.claim in
    let frames = after_ok owns.keeps owns.counts c.in_ok-frames.ensures.read in
    record {
      says = λ text known.
          let opened = subst (λ (fields : Claim). IsTableBy text (claim_view fields) c.in_ok-table.table) (sym named) (owns.says text known).0 in
          subst (λ (fields : Claim). HasNoLinesBy text (claim_view fields)) named (MatchOption-at_none _ _ c.in_default.is (frames.says text known opened));
      keeps = frames.keeps;
      counts = frames.counts;
    }

pub returns-clause-read : goal.returns-clause-read
returns-clause-read g c =
    let owns = c.in_ok-table.ensures.read in
    let named = c.in_ok-table.ensures.claim in
    let frames = after_ok owns.keeps owns.counts c.in_ok-frames.ensures.read in
    record {
      says = λ text known.
          let told = owns.says text known in
          let opened = subst (λ (fields : Claim). IsTableBy text (claim_view fields) c.in_ok-table.table) (sym named) told.0 in
          let has = subst (λ (fields : Claim). AllZip (AreFramesBased c.in_ok-table.base text (claim_view fields))
          c.args.asked.now (map list_in c.in-Some.frames.items)) named in
          record {
            digest_is = c.digest_in-digest.ensures ∙ ap (λ (b : List ℕ). take 32 (drop 25 b)) c.bytes.ensures;
            owns = subst (λ claim. AllZip (IsToldBy text claim) c.args.asked.now
                (map told_view c.in_ok-table.owns.items)) (sym c.args.numbered.now.fields.claim_is) told.2;
            frames = λ wanted.
                subst (λ claim. AllZip (AreFramesToldBy text claim) c.args.asked.now
                (map list_in c.in-Some.frames.items)) (sym c.args.numbered.now.fields.claim_is)
                (zip_as _ _ c.args.asked.now _ (λ place list one. record {
                  of_slice = λ slice all bytes is may. one.of_slice slice all bytes (told.1 slice all bytes is may) is may;
                  of_bytes = one.of_bytes;
                })
                (has (MatchOption-at_some _ _ _ c.in-Some.is (frames.says text known opened) wanted)));
          };
      keeps = frames.keeps;
      counts = frames.counts;
    }

pub returns-in_default-clause-wanted : goal.returns-in_default-clause-wanted
returns-in_default-clause-wanted g c = λ none. c.in_ok-frames.ensures.wanted c.in_default.is
