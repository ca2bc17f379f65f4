use Rattle.std.proofs.Common.{sym, subst}
use Rattle.archive_core.specs.Content.{Operations, content_of}
use Rattle.command_common.specs.Inputs.{IsGivenArchive}
use Rattle.laws_archive.specs.Joins.{IsGivenJoin}
use Rattle.laws_archive.proofs.sequence_laws.any_sequence_answers_alike.Goals as goal

pub returns : goal.returns
returns g c =
    let join = c.any_sequence_of_commands.ensures.inputs in
    let alone = c.any_sequence_of_commands.ensures.input in
    record {
      find = λ archive also others more o p uuid is are same.
          c.one_report.ensures.find archive others also more (content_of o) uuid (join archive others o is)
          (subst (λ (q : Operations). IsGivenJoin also more q) (sym same) (join also more p are));
      list = λ archive also o p is are same.
          let one = alone archive o is in
          c.one_report.ensures.list archive also (content_of o) one.0 one.1
          (subst (λ (q : Operations). IsGivenArchive also q) (sym same) (alone also p are).1);
      name = λ archive also others more o p sought is are same.
          c.one_report.ensures.name archive others also more (content_of o) sought (join archive others o is)
          (subst (λ (q : Operations). IsGivenJoin also more q) (sym same) (join also more p are));
      symbolicate = λ archive also others more o p key load lines slices addresses is are same.
          c.one_report.ensures.symbolicate archive others also more (content_of o) key load lines slices addresses
          (join archive others o is) (subst (λ (q : Operations). IsGivenJoin also more q) (sym same) (join also more p are));
      frames = λ lines slices input other archive also others more bytes o p given other_given is are same.
          c.one_report.ensures.frames lines slices input archive others other also more bytes (content_of o) given
          other_given (join archive others o is)
          (subst (λ (q : Operations). IsGivenJoin also more q) (sym same) (join also more p are));
    }
