use Rattle.std.proofs.Common.{option_map, string_bytes}
use mathlib.Core.Logic.{∥∥₁_map}
use Rattle.cli_files.specs.OutFiles.{stage_of}
use Rattle.cli_files.proofs.Publishings.{kept_empty, kept_first, so_refused}
use Rattle.cli_files.proofs.out_file.OutFile.discard.Goals as goal

pub invariant_of-self : goal.invariant_of-self
invariant_of-self g c =
    let old = c.args.self.now in
    let is = c.remove.ensures in
    record {
      so_far = ∥∥₁_map old.so_far (λ so. is.so_far old.replaces (option_map string_bytes old.path) so);
      empty = kept_empty (stage_of old.state) (stage_of c.remove.new.state) old.calls.entries c.remove.new.calls.entries
          old.empty is.has_calls is.same_calls;
      first = kept_first old.replaces (option_map string_bytes old.path) (stage_of old.state) old.calls.entries
          c.remove.new.calls.entries old.failures old.so_far old.first is.bytes is.same_calls;
    }

pub returns-clause-removed : goal.returns-clause-removed
returns-clause-removed g c = ∥∥₁_map c.args.self.now.so_far
    (λ so. c.remove.ensures.removed c.args.self.now.replaces (option_map string_bytes c.args.self.now.path) so)

pub returns-clause-refused : goal.returns-clause-refused
returns-clause-refused g c =
    let old = c.args.self.now in
    so_refused old.replaces (option_map string_bytes old.path) (stage_of c.remove.new.state) c.remove.new.calls.entries
    (∥∥₁_map old.so_far (λ so. c.remove.ensures.so_far old.replaces (option_map string_bytes old.path) so))
