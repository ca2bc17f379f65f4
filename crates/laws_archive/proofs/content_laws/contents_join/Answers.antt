use Rattle.archive_core.specs.Content.{joined}
use Rattle.archive_core.specs.Order.{joined_least as least}
use Rattle.laws_archive.proofs.content_laws.contents_join.Goals as goal

pub returns : goal.returns
returns c = record {
  least = least;
  associative = λ o p q a b d.
      let op = least o p a b in
      let pq = least p q b d in
      c.associative.ensures o p q (joined o p) (joined p q) (joined (joined o p) q) (joined o (joined p q)) op
      (least (joined o p) q op.content d) pq (least o (joined p q) a pq.content);
  commutative = λ o p a b. c.commutative.ensures o p (joined o p) (joined p o) (least o p a b) (least p o b a);
  idempotent = λ o a. c.unique.ensures o o (joined o o) o (least o o a a) (c.idempotent.ensures o a);
  monotone = λ o p q a b d below. c.monotone.ensures o p q (joined o q) (joined p q) below (least o q a d) (least p q b d);
  resumed = λ o m p a e b above below.
      c.unique.ensures m p (joined m p) (joined o p) (least m p e b) (c.resumed.ensures o m p (joined o p) (least o p a b) above below);
}
