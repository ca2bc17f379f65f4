use Rattle.std.proofs.Common.{◌≡◌, ◌+◌, ◌*◌, ◌/◌, ◌%◌, ◌<◌, ◌≤◌, ℕ, List, length, take, drop, sym, ap, ◌∙◌, subst, arith, rules}
use Rattle.sha2.specs.Sha256.{sha256}
use Rattle.table_checked_pages.specs.Pages.{AreKeptLevels, AreStored, height, level_of, level_size, page_of}
use Rattle.table_checked_pages.specs.Views.{claim_view, page_at}
use Rattle.table_checked_pages.proofs.LevelLemmas.{height_most, level_more, level_next}
use Rattle.table_checked_pages.proofs.PageLemmas.{digest_is, root_is}
use Rattle.table_checked_pages.proofs.ReadLemmas.{after_ok, read_as}
use Rattle.table_checked_pages.proofs.pages.Pages.+bring.Goals as goal

pub returns-then-level_size-le-PAGE_LEN-clause-keeps : goal.returns-then-level_size-le-PAGE_LEN-clause-keeps
returns-then-level_size-le-PAGE_LEN-clause-keeps g t c = λ text all known are.
    let claim = c.args.self.now.claim in
    let small : level_size c.args.level claim.size ≤ 4096 = omega (arith, c.level_size.ensures, c.if-level_size-le-PAGE_LEN.true) in
    c.fetch.ensures.keeps text all known
    (root_is all claim.root claim.size c.args.level c.args.index are.stored.root are.stored.size c.requires.level small c.requires.page) are

pub returns-then-level_size-le-PAGE_LEN-clause-read : goal.returns-then-level_size-le-PAGE_LEN-clause-read
returns-then-level_size-le-PAGE_LEN-clause-read g t c =
    let claim = c.args.self.now.claim in
    let small : level_size c.args.level claim.size ≤ 4096 = omega (arith, c.level_size.ensures, c.if-level_size-le-PAGE_LEN.true) in
    read_as (λ text known value is. is)
    (λ text known absent all stored are. absent all stored
    (root_is all claim.root claim.size c.args.level c.args.index stored.root stored.size c.requires.level small c.requires.page))
    c.fetch.ensures.read

pub overflow_add-level : goal.overflow_add-level
overflow_add-level g t c =
    let size : ℕ = c.args.self.now.claim.size in
    omega (
      arith,
      c.level_size.ensures,
      level_more c.args.level size c.requires.level (omega (arith, c.level_size.ensures, c.if-level_size-le-PAGE_LEN.false)),
      height_most size,
    )

pub bring-requires : goal.bring-requires
bring-requires g t c =
    let size : ℕ = c.args.self.now.claim.size in
    let large : 4096 < level_size c.args.level size = omega (arith, c.level_size.ensures, c.if-level_size-le-PAGE_LEN.false) in
    let up : c.args.level + 1 ≤ height size = level_more c.args.level size c.requires.level large in
    let inside : 4096 * (c.args.index / 128) < level_size (c.args.level + 1) size = omega (arith, level_next c.args.level size, c.requires.page) in
    λ κs low. (omega (arith, c.decreases, up), ((search rules), (up, inside)))

pub digest-digest-requires : goal.digest-digest-requires
digest-digest-requires g t c =
    omega (arith, c.in_ok-bring.ensures.long, level_next c.args.level c.args.self.now.claim.size, c.requires.page)

-- the digest that was in the page above
the_digest : (all digest page : List ℕ) (size k i : ℕ) → length all ≡ size → 4096 * i < level_size k size
    → digest ≡ take 32 (drop (32 * (i % 128)) page) → page ≡ page_of (level_of (k + 1) all) (i / 128)
    → digest ≡ sha256 (page_of (level_of k all) i)
the_digest all digest page size k i long inside is of =
    is ∙ ap (λ p. take 32 (drop (32 * (i % 128)) p)) of ∙ digest_is all size k i long inside

pub returns-clause-keeps : goal.returns-clause-keeps
unfolding AreKeptLevels
returns-clause-keeps g t c = λ text all known are.
    let size : ℕ = c.args.self.now.claim.size in
    let above : ℕ = c.args.level + 1 in
    let mid = c.in_ok-bring.ensures.keeps text all known are in
    let some : 0 < length (page_at c.bring.new.self above (c.args.index / 128)) =
    omega (arith, c.in_ok-bring.ensures.long, level_next c.args.level size, c.requires.page) in
    c.fetch-2.ensures.keeps text all (c.in_ok-bring.ensures.read.keeps ∙ known)
    (the_digest all c.digest-digest.result (page_at c.bring.new.self above (c.args.index / 128)) size c.args.level c.args.index
    are.stored.size c.requires.page c.digest-digest.ensures (mid.kept above (c.args.index / 128) some)) mid

pub returns-clause-read : goal.returns-clause-read
unfolding AreKeptLevels
returns-clause-read g t c =
    let size : ℕ = c.args.self.now.claim.size in
    let above : ℕ = c.args.level + 1 in
    let some : 0 < length (page_at c.bring.new.self above (c.args.index / 128)) =
    omega (arith, c.in_ok-bring.ensures.long, level_next c.args.level size, c.requires.page) in
    after_ok c.in_ok-bring.ensures.read.keeps c.in_ok-bring.ensures.read.counts
    (read_as (λ text known value is. is)
    (λ text known absent all stored are.
    let mid = c.in_ok-bring.ensures.keeps text all (sym c.in_ok-bring.ensures.read.keeps ∙ known) are in
    absent all (subst (λ claim. AreStored text (claim_view claim) all) (sym c.in_ok-bring.ensures.claim) stored)
    (the_digest all c.digest-digest.result (page_at c.bring.new.self above (c.args.index / 128)) size c.args.level c.args.index
    stored.size c.requires.page c.digest-digest.ensures (mid.kept above (c.args.index / 128) some)))
    c.fetch-2.ensures.read)
