use Rattle.std.proofs.Common.{inl, inr}
use Rattle.command_archives.proofs.Unnamed.{begun_within, read_behind_magic}
use Rattle.command_archives.proofs.copying.begin_copy.Goals as goal

pub returns-in-Err-put-clause-stopped : goal.returns-in-Err-put-clause-stopped
returns-in-Err-put-clause-stopped g c = λ s.
    let e = c.in-Err-put.ensures in
    inr (
      c.in-Ok.reader.file,
      c.in-Ok.ensures.kind,
      inl
          (begun_within s _ _ _ _ c.in-Ok.reader _ e.some _ c.in-Ok.ensures.read c.magic.ensures e.written_is e.first),
    )

pub returns-in-Err-put-clause-cause : goal.returns-in-Err-put-clause-cause
returns-in-Err-put-clause-cause g c = read_behind_magic c.in-Ok.reader.file c.in-Ok.ensures.kind _ _ c.in-Ok.reader c.in-Ok.ensures.read
