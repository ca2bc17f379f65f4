use Rattle.std.proofs.Common.{[], arith, refl}
use Rattle.byte_device.proofs.Known.{Appends-none}
use Rattle.command_extract.proofs.Passes.{not_tested, stands_none}
use Rattle.command_extract.proofs.tested_copy.send_at.Goals as goal

pub returns-in-Ok-false : goal.returns-in-Ok-false
returns-in-Ok-false g c =
    let tests = c.in-Ok-false.ensures.tests in
    record {
      keeps = tests.keeps;
      sends = record {
        bytes = [];
        gains = record { stands = stands_none _ c.args.at; gained = Appends-none _ };
        within = omega arith;
        held_back = λ some. absurd (some refl);
        hinders = (not_tested _ _ _ c.in-Ok-false.field-0-test tests.tests.1, tests.tests.0, refl);
      };
    }

pub returns-in-Err : goal.returns-in-Err
returns-in-Err g c =
    let tests = c.in-Err.ensures.tests in
    record {
      keeps = tests.keeps;
      sends = record {
        bytes = [];
        gains = record { stands = stands_none _ c.args.at; gained = Appends-none _ };
        within = omega arith;
        held_back = λ some. absurd (some refl);
        hinders = (tests.tests, refl);
      };
    }
