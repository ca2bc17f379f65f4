-- The printed texts of faults.
use Rattle.std.specs.Prelude.{List, ℕ, ◌++◌, codes}
use Rattle.std.specs.Fmt.{decimal}
use Rattle.macho_image.specs.declared.fault.ImageFault.{ImageFault}
use Rattle.macho_image.specs.declared.fault.ImageFault.TheVariants.{NotMachO64, HeaderTruncated, CommandsOutside}
use Rattle.macho_image.specs.declared.fault.ImageFault.TheVariants.{BadCommand, BadSegment, BadUuid, SecondUuid}
use Rattle.macho_image.specs.declared.fault.ImageFault.TheVariants.{BadSymtab, SecondSymtab, NoUuid, TooLarge}
use Rattle.macho_symbols.specs.declared.fault.SymbolFault.{SymbolFault}
use Rattle.macho_symbols.specs.declared.fault.SymbolFault.TheVariants.{SymbolsOutside, StringsOutside}
use Rattle.archive_core.specs.declared.faults.SliceFault.{SliceFault}
use Rattle.archive_core.specs.declared.faults.SliceFault.TheVariants.{Image, Symbols}
use Rattle.archive_records.specs.declared.fault.RecordFaultKind.{RecordFaultKind}
use Rattle.archive_records.specs.declared.fault.RecordFaultKind.TheVariants.{BadMagic, Truncated, BadTag}
use Rattle.archive_records.specs.declared.fault.RecordFaultKind.TheVariants.{TooLarge as RecordTooLarge, NotAscending}
use Rattle.archive_records.specs.declared.fault.RecordFaultKind.TheVariants.{BadSlice, KeyMismatch, BadCount, Trailing}
use Rattle.archive_records.specs.declared.fault.RecordFaultKind.TheVariants.{Device, OutOfMemory, Covered}
use Rattle.archive_records.specs.declared.fault.RecordFault.{RecordFault}
use Rattle.archive_image_admission.specs.declared.fault.TakeFault.{TakeFault}
use Rattle.archive_image_admission.specs.declared.fault.TakeFault.TheVariants.{Unrecognised, Fat, Slice, NothingToAdmit}
use Rattle.archive_image_admission.specs.declared.fault.TakeFault.TheVariants.{OutOfMemory as TakeOutOfMemory}
use Rattle.fat_slices.specs.declared.fat_fault.FatFault.{FatFault}
use Rattle.fat_slices.specs.declared.fat_fault.FatFault.TheVariants.{NotUniversal}
use Rattle.fat_slices.specs.declared.fat_fault.FatFault.TheVariants.{HeaderTruncated as FatHeaderTruncated}
use Rattle.fat_slices.specs.declared.fat_fault.FatFault.TheVariants.{TooManyArches, TableTruncated, SliceOutside}
use Rattle.fat_slices.specs.declared.fat_fault.FatFault.TheVariants.{TooLarge as FatTooLarge}
use Rattle.text_input_files.specs.declared.script.ScriptFault.{ScriptFault}
use Rattle.text_input_files.specs.declared.script.ScriptFault.TheVariants.{NoSites, BadEvent, TooManyEvents}

-- a fault's name, and its value in parentheses
abbrev pub called : List ℕ → List ℕ → List ℕ
called name inside = name ++ codes "(" ++ inside ++ codes ")"

-- the fault of an image; a number is the index of the load command
unfoldable pub image_fault_text : ImageFault → List ℕ
image_fault_text NotMachO64 = codes "NotMachO64"
image_fault_text HeaderTruncated = codes "HeaderTruncated"
image_fault_text CommandsOutside = codes "CommandsOutside"
image_fault_text (BadCommand command) = called (codes "BadCommand") (decimal command)
image_fault_text (BadSegment command) = called (codes "BadSegment") (decimal command)
image_fault_text (BadUuid command) = called (codes "BadUuid") (decimal command)
image_fault_text (SecondUuid command) = called (codes "SecondUuid") (decimal command)
image_fault_text (BadSymtab command) = called (codes "BadSymtab") (decimal command)
image_fault_text (SecondSymtab command) = called (codes "SecondSymtab") (decimal command)
image_fault_text NoUuid = codes "NoUuid"
image_fault_text TooLarge = codes "TooLarge"

-- the fault of an image's symbols
unfoldable pub symbol_fault_text : SymbolFault → List ℕ
symbol_fault_text SymbolsOutside = codes "SymbolsOutside"
symbol_fault_text StringsOutside = codes "StringsOutside"

-- the fault of a slice
unfoldable pub slice_fault_text : SliceFault → List ℕ
slice_fault_text (Image fault) = called (codes "Image") (image_fault_text fault)
slice_fault_text (Symbols fault) = called (codes "Symbols") (symbol_fault_text fault)

-- the kind of a fault of a text of records
unfoldable pub record_fault_kind_text : RecordFaultKind → List ℕ
record_fault_kind_text BadMagic = codes "BadMagic"
record_fault_kind_text Truncated = codes "Truncated"
record_fault_kind_text BadTag = codes "BadTag"
record_fault_kind_text RecordTooLarge = codes "TooLarge"
record_fault_kind_text NotAscending = codes "NotAscending"
record_fault_kind_text (BadSlice fault) = called (codes "BadSlice") (slice_fault_text fault)
record_fault_kind_text KeyMismatch = codes "KeyMismatch"
record_fault_kind_text BadCount = codes "BadCount"
record_fault_kind_text Trailing = codes "Trailing"
record_fault_kind_text Device = codes "Device"
record_fault_kind_text OutOfMemory = codes "OutOfMemory"
record_fault_kind_text Covered = codes "Covered"

-- the kind, and the offset of the faulty record
unfoldable pub record_fault_text : RecordFault → List ℕ
record_fault_text fault = record_fault_kind_text fault.kind ++ codes " at " ++ decimal fault.offset

-- the fault of a universal file; a number is that of its entries, or the index of one
unfoldable pub fat_fault_text : FatFault → List ℕ
fat_fault_text NotUniversal = codes "NotUniversal"
fat_fault_text FatHeaderTruncated = codes "HeaderTruncated"
fat_fault_text (TooManyArches count) = called (codes "TooManyArches") (decimal count)
fat_fault_text TableTruncated = codes "TableTruncated"
fat_fault_text (SliceOutside entry) = called (codes "SliceOutside") (decimal entry)
fat_fault_text (FatTooLarge entry) = called (codes "TooLarge") (decimal entry)

-- the fault of a file whose slices are to be admitted
unfoldable pub take_fault_text : TakeFault → List ℕ
take_fault_text Unrecognised = codes "Unrecognised"
take_fault_text (Fat fault) = called (codes "Fat") (fat_fault_text fault)
take_fault_text (Slice slice fault) = called (codes "Slice") (decimal slice ++ codes ", " ++ slice_fault_text fault)
take_fault_text NothingToAdmit = codes "NothingToAdmit"
take_fault_text TakeOutOfMemory = codes "OutOfMemory"

-- the fault of the first faulty line of a script
unfoldable pub script_fault_text : ScriptFault → List ℕ
script_fault_text NoSites = codes "NoSites"
script_fault_text BadEvent = codes "BadEvent"
script_fault_text TooManyEvents = codes "TooManyEvents"
