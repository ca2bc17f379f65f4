-- A slice's key, and its bytes in a record.
use Rattle.std.specs.Prelude.{◌≡◌, ℕ, ◌<◌, ◌^◌, List, ◌++◌, length}
use Rattle.std.specs.Int.{w32, to_be_bytes}
use Rattle.archive_core.specs.declared.keys.SliceKey.{SliceKey}

-- a key whose parts have their widths: a UUID of 16 bytes, two numbers of 32 bits
pub record IsKey (key : SliceKey) : Type 0 where
  pub uuid : length key.uuid ≡ 16
  pub cputype : key.arch.cputype < 2 ^ 32
  pub cpusubtype : key.arch.cpusubtype < 2 ^ 32

-- the 24 bytes of a key: the UUID, cputype and cpusubtype, big-endian
unfoldable pub key_bytes : SliceKey → List ℕ
key_bytes key = key.uuid ++ (to_be_bytes w32 key.arch.cputype ++ to_be_bytes w32 key.arch.cpusubtype)
