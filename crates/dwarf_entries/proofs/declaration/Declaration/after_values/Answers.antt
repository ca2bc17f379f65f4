use Rattle.std.proofs.Common.{arith}
use Rattle.dwarf_entries.proofs.SizeLemmas.{size_known, after_short, after_long}
use Rattle.dwarf_entries.proofs.declaration.Declaration.after_values.Goals as goal

pub returns-then-bytes-size : goal.returns-then-bytes-size
returns-then-bytes-size c =
    let known = size_known c.args.self.now.size c.in-Some.size c.args.self.now.shape.pairs.items c.in-Some.is c.args.self.now.size_is in
    after_short c.args.version c.args.self.now.shape.pairs.items c.args.bytes.now c.in-Some.size (omega arith) known (omega arith)

pub returns-else-bytes-size : goal.returns-else-bytes-size
returns-else-bytes-size c =
    let known = size_known c.args.self.now.size c.in-Some.size c.args.self.now.shape.pairs.items c.in-Some.is c.args.self.now.size_is in
    let passed = after_long c.args.version c.args.self.now.shape.pairs.items c.args.bytes.now c.in-Some.size (omega arith) known (omega arith) in
    cc
