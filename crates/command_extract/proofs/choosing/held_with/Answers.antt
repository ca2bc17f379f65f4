use Rattle.std.proofs.Common.{◌≡◌, ◌<◌, ◌∙◌, Contains, List, ℕ, ap, arith, length, subst, sym}
use Rattle.std.specs.Cmp.Lexicographic.{nat_list_cmp_total}
use Rattle.std.proofs.lemmas.List.{take_all}
use Rattle.join_core.specs.Listing.{listing}
use Rattle.join_core.proofs.Listing.{length_listing}
use Rattle.archive_core.specs.Record.{admission_record}
use Rattle.archive_core.proofs.Made.{bytes_same}
use Rattle.archive_core.proofs.Members.{in_listing}
use Rattle.archive_core.proofs.Records.{length-key_of}
use Rattle.command_extract.proofs.Held.{listed_there, live_there, looked_at}
use Rattle.command_extract.proofs.choosing.held_with.Goals as goal

pub returns-in-Some-clause-found : goal.returns-in-Some-clause-found
returns-in-Some-clause-found g c =
    let o = g.A.Join.content c.args.archive.now in
    let found = c.in-Some.ensures.found in
    let lt : c.records.number < length (listing o) =
    omega (arith, length_listing nat_list_cmp_total bytes_same o, c.len-number-end.ensures.len) in
    let there = sym found.0 ∙ c.record_at.ensures in (
      c.in-Some.slice,
      live_there o c.args.key.now c.in-Some.slice c.len-number-end.ensures.content found.1 found.2
          (listed_there o c.records.number (admission_record c.in-Some.slice) lt there),
      found.3,
      record {
        admitted = record { within = omega (arith, c.len-number-end.ensures.len); record_is = sym there; long = length-key_of c.in-Some.slice found.1 };
        digest_is = sym found.3;
        size_is = ap length c.bytes.ensures.bytes;
      },
    )

pub records-preserved : goal.records-preserved
records-preserved g c = λ slice of digest_is.
    let o = g.A.Join.content c.args.archive.now in
    let lt : c.records.number < length (listing o) =
    omega (arith, length_listing nat_list_cmp_total bytes_same o, c.len-number-end.ensures.len) in
    looked_at o c.records.number (admission_record slice) lt (c.records.invariant slice of digest_is)
    (λ e. c.in_default.ensures.none slice (c.record_at.ensures ∙ e) of digest_is)

pub returns-clause-none : goal.returns-clause-none
returns-clause-none g c = λ slice live digest_is.
    let o = g.A.Join.content c.args.archive.now in
    let end : c.records.number ≡ length (listing o) =
    omega (arith, length_listing nat_list_cmp_total bytes_same o, c.len-number-end.ensures.len) in
    c.records.invariant slice live.under digest_is
    (subst (λ (rs : List (List ℕ)). Contains rs (admission_record slice))
    (sym (take_all c.records.number (listing o) (omega (arith, end)))) ((in_listing nat_list_cmp_total bytes_same o (admission_record slice)).1 live.admitted))
