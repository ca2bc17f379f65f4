use Rattle.std.proofs.Common.{◌≡◌}
use Rattle.archive_index.proofs.plain.PlainArchive.keep_digests_of.Given as goal

-- the content is as it was
abbrev pub invariant-keys : goal.invariant-keys
invariant-keys l = l.self ≡ l.initial.self
