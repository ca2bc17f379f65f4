-- The rows that commands report.
use Rattle.std.specs.Prelude.{List, ℕ, ◌++◌, codes}
use Rattle.std.specs.Fmt.{decimal}
use Rattle.uuid.specs.Text.{hyphenated_text, lower}
use Rattle.archive_core.specs.declared.keys.SliceKey.{SliceKey}
use Rattle.archive_records.specs.declared.writing.Sizes.{Sizes}
use Rattle.archive_image_admission.specs.declared.taken.Taken.{Taken}
use Rattle.archive_image_admission.specs.declared.taken.Taken.TheVariants.{Added, Known, Skipped}
use Rattle.text_values.specs.Words.{arch_text, digest_text}
use Rattle.text_reports.specs.declared.rows.AdmitRow.{AdmitRow}

-- a key: the UUID hyphenated in lower case, and the architecture
unfoldable pub key_text : SliceKey → List ℕ
key_text key = hyphenated_text lower key.uuid ++ codes " " ++ arch_text key.arch

-- the result of admitting a slice
unfoldable pub taken_text : Taken → List ℕ
taken_text (Added key digest) = codes "added " ++ key_text key ++ codes " " ++ digest_text digest
taken_text (Known key digest) = codes "known " ++ key_text key ++ codes " " ++ digest_text digest
taken_text Skipped = codes "skipped"

-- a slice of a file
unfoldable pub admit_row_text : AdmitRow → List ℕ
admit_row_text row = codes "file " ++ decimal row.file ++ codes " slice " ++ decimal row.slice ++ codes " "
    ++ taken_text row.taken

-- the sizes of the written text
unfoldable pub sizes_text : Sizes → List ℕ
sizes_text sizes = codes "archive: " ++ decimal sizes.records ++ codes " records, " ++ decimal sizes.bytes
    ++ codes " bytes"
