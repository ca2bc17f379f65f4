use Rattle.std.proofs.Common.{◌≡◌, ◌∙◌, ap, arith, length}
use Rattle.sha2.specs.Sha256.{sha256}
use Rattle.join_core.specs.Listing.{listing}
use Rattle.archive_core.specs.Record.{admission_record}
use Rattle.command_archives.specs.declared.file_rows.FileRow.TheVariants.{Part}
use Rattle.command_archives.proofs.FirstRows.{as_many, first_added, first_known}
use Rattle.command_archives.proofs.Taking.{known_row, taken_added, taken_known}
use Rattle.command_archives.proofs.arriving.Arrivals.take_slice.Goals as goal

pub returns-in_ok-insert-in-Some-clause-taken : goal.returns-in_ok-insert-in-Some-clause-taken
returns-in_ok-insert-in-Some-clause-taken c =
    let put = rw (c.in-Some.is, c.keep_digest.ensures) at c.in_ok-index.ensures.place in
    taken_added c.args.self.now.came c.args.slice c.key-key.result c.digest-digest.result c.key-key.ensures
    (c.digest-digest.ensures.digest ∙ ap sha256 c.keep_digest.ensures) put.0

pub returns-in_ok-insert-in-Some-clause-are_first : goal.returns-in_ok-insert-in-Some-clause-are_first
returns-in_ok-insert-in-Some-clause-are_first c records row is are_first =
    let put = rw (c.in-Some.is, c.keep_digest.ensures) at c.in_ok-index.ensures.place in
    let many = as_many (listing c.args.self.now.came) c.args.self.now.first_rows.items c.args.self.now.rows.items records are_first in
    let same : c.min-at.result ≡ c.in-Some.index = omega (arith, c.min-at.ensures, put.1, many, c.args.self.now.first_rows.ok.0) in
    let number : c.len-row.result ≡ length c.args.self.now.rows.items = omega (arith, c.len-row.ensures, c.args.self.now.rows.ok.0) in
    first_added _ _ _ records (Part row) (admission_record c.args.slice) are_first _ _ c.in-Some.index c.len-row.result
    put.2 put.1 (rw same at c.in_ok-insert-in-Some.ensures.items) number

pub returns-in-None-clause-taken : goal.returns-in-None-clause-taken
returns-in-None-clause-taken c =
    let put = rw (c.in-None.is, c.keep_digest.ensures) at c.in_ok-index.ensures.place in
    taken_known c.args.self.now.came c.args.slice c.key-key.result c.digest-digest.result c.key-key.ensures
    (c.digest-digest.ensures.digest ∙ ap sha256 c.keep_digest.ensures) put.0

pub returns-in-None-clause-are_first : goal.returns-in-None-clause-are_first
returns-in-None-clause-are_first c records row is are_first =
    let put = rw (c.in-None.is, c.keep_digest.ensures) at c.in_ok-index.ensures.place in
    rw put.1 (first_known _ _ _ records (Part row) _ are_first (known_row row c.key-key.result c.digest-digest.result is))
