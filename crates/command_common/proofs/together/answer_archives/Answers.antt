use Rattle.std.proofs.Common.{arith}
use Rattle.archive_core.specs.Key.{key_bytes}
use Rattle.command_common.proofs.Alike.{answers_alike}
use Rattle.command_common.proofs.Parts.{alone_told, no_others, together_tells}
use Rattle.command_common.proofs.together.answer_archives.Goals as goal

pub returns-then-is_empty : goal.returns-then-is_empty
returns-then-is_empty g c =
    alone_told _ _ _ _ _ _ (no_others c.args.others.now c.is_empty.result c.is_empty.ensures c.if-is_empty.true) c.answer_from_archive.ensures

pub returns : goal.returns
returns g c =
    let kept = g.A.Join.content c.in_ok-kept.kept in
    let all = c.in_ok-answer_all.ensures in
    record {
      is = together_tells _ _ _ _ (λ o alike. (
        all.left,
        all.answered c.args.questions o (λ key there long.
            answers_alike kept o key (alike (key_bytes key) (omega (arith, long)) (c.requires.picked key there long))) (c.requires.start o),
      )) c.in_ok-kept.ensures.is;
      unfailed = c.in_ok-kept.ensures.unfailed;
    }
