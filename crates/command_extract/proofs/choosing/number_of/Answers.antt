use Rattle.std.proofs.Common.{◌≡◌, ◌<◌, ◌∙◌, Contains, List, ℕ, arith, length, subst, sym, true≢false}
use Rattle.std.specs.Cmp.Lexicographic.{nat_list_cmp_total}
use Rattle.std.proofs.lemmas.List.{take_all}
use Rattle.join_core.specs.Listing.{listing}
use Rattle.join_core.proofs.Listing.{length_listing}
use Rattle.archive_core.specs.Record.{admission_record}
use Rattle.archive_core.proofs.Made.{bytes_same}
use Rattle.archive_core.proofs.Members.{in_listing}
use Rattle.command_extract.proofs.Held.{looked_at}
use Rattle.command_extract.proofs.choosing.number_of.Goals as goal

pub numbers-preserved : goal.numbers-preserved
numbers-preserved g c =
    let o = g.A.Join.content c.args.archive.now in
    let lt : c.numbers.number < length (listing o) =
    omega (arith, length_listing nat_list_cmp_total bytes_same o, c.len-number-end.ensures.len) in
    looked_at o c.numbers.number (admission_record c.args.slice.now) lt c.numbers.invariant
    (λ e. true≢false (sym (c.admits.ensures.1 (c.record_at.ensures ∙ e)) ∙ c.if-admits.false))

pub unreachable-requires : goal.unreachable-requires
unreachable-requires g c =
    let o = g.A.Join.content c.args.archive.now in
    let end : c.numbers.number ≡ length (listing o) =
    omega (arith, length_listing nat_list_cmp_total bytes_same o, c.len-number-end.ensures.len) in
    c.numbers.invariant (subst (λ (rs : List (List ℕ)). Contains rs (admission_record c.args.slice.now))
    (sym (take_all c.numbers.number (listing o) (omega (arith, end))))
    ((in_listing nat_list_cmp_total bytes_same o (admission_record c.args.slice.now)).1 c.requires))
