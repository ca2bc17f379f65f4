-- The bytes of an accepted file: the term of an inner function, and of `take_accepted`.
use Rattle.std.specs.Prelude.{ℕ, List}
use Rattle.archive_image_admission.specs.declared.checking.AcceptedFile.{AcceptedFile}
use Rattle.archive_image_admission.specs.declared.checking.AcceptedFile.TheVariants.{Thin, Universal}

-- the bytes of the file that was accepted
abbrev pub file_of : AcceptedFile → List ℕ
file_of (Thin slice) = slice
file_of (Universal universal found) = universal
