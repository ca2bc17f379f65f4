use Rattle.command_common.proofs.together.join_part.Goals as goal

pub returns : goal.returns
returns g c =
    let part = c.in_ok-other.ensures.is in
    record {
      is = record {
        content = part.whole;
        is_content = part.is_content;
        text = part.text;
        is_true = rw (← part.kept) c.in_ok-take_all.ensures.joined;
      };
      unfailed = c.in_ok-other.ensures.unfailed;
    }
