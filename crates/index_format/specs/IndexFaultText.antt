-- The text of an index's fault, as it is printed.
use Rattle.std.specs.Prelude.{ℕ, List, ◌++◌, codes}
use Rattle.std.specs.Fmt.{decimal}
use Rattle.index_format.specs.declared.index_fault.IndexFault.{IndexFault}
use Rattle.index_format.specs.declared.index_fault.IndexFaultKind.{IndexFaultKind}
use Rattle.index_format.specs.declared.index_fault.IndexFaultKind.TheVariants.{OldIndex, BadMagic, Truncated}
use Rattle.index_format.specs.declared.index_fault.IndexFaultKind.TheVariants.{BadCount, BadDigest}
use Rattle.index_format.specs.declared.index_fault.IndexFaultKind.TheVariants.{BadTag, BadKind, BadLength, NotAscending}
use Rattle.index_format.specs.declared.index_fault.IndexFaultKind.TheVariants.{BadTable, BadPlace, Device, OutOfMemory}

-- the text of the kind of a fault
unfoldable pub kind_text : IndexFaultKind → List ℕ
kind_text OldIndex = codes "OldIndex"
kind_text BadMagic = codes "BadMagic"
kind_text Truncated = codes "Truncated"
kind_text BadCount = codes "BadCount"
kind_text BadDigest = codes "BadDigest"
kind_text BadTag = codes "BadTag"
kind_text BadKind = codes "BadKind"
kind_text BadLength = codes "BadLength"
kind_text NotAscending = codes "NotAscending"
kind_text BadTable = codes "BadTable"
kind_text BadPlace = codes "BadPlace"
kind_text Device = codes "Device"
kind_text OutOfMemory = codes "OutOfMemory"

-- the text of a fault: its kind, and its offset
unfoldable pub fault_text : IndexFault → List ℕ
fault_text fault = kind_text fault.kind ++ codes " at " ++ decimal fault.offset
