-- The kept parts of frames, without the addresses of texts in memory.
use Rattle.std.specs.Prelude.{map}
use Rattle.table_source_frames_build.specs.Kept.{KeptRecord}
use Rattle.table_source_frames_build.specs.declared.kept.Kept.{Kept}

abbrev pub kept_view : Kept → KeptRecord
kept_view k =
    record { texts = map (λ t. t.text.now) k.texts; files = k.files; scopes = k.scopes; locations = k.locations }
