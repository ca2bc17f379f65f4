-- The results of reading the bytes at an offset in a device.
use Rattle.std.specs.Prelude.{◌≡◌, ℕ, ◌+◌, ◌<◌, List, length, Option, IfSome, Result, MatchOption, MatchResult}
use Rattle.std.specs.Io.KnownBytes.{Appends}
use Rattle.sha2.specs.Sha256.{sha256}
use Rattle.byte_device.specs.Devices.{FailedIn, Stream}
use Rattle.byte_device.specs.declared.Failed.{Failed}
use Rattle.byte_device.specs.Places.{Stands}
use Rattle.command_extract.specs.declared.copying.CopyFault.{CopyFault}
use Rattle.command_extract.specs.declared.copying.CopyFault.TheVariants.{Ended, Device, Sink}

-- the device did not fail
abbrev pub IsUnfailed : {D : Type 0} → Stream D → Type 0
IsUnfailed device = device.failures device.new ≡ device.failures device.old

-- the device failed once
abbrev pub HasFailed : {D : Type 0} → Stream D → Type 0
HasFailed device = FailedIn (device.failures device.old) (device.failures device.new)

-- some bytes are requested at the offset, and the device has fewer
abbrev pub HasFewer : Option (List ℕ) → ℕ → ℕ → Type 0
HasFewer whole at size = IfSome whole (λ all. (0 < size) × (length all < at + size))

-- `size` bytes are at the offset, and `digest` is their SHA-256.
pub record HaveDigest (whole : Option (List ℕ)) (at size : ℕ) (digest : List ℕ) : Type 0 where
  pub bytes : List ℕ
  pub long : length bytes ≡ size
  pub stands : Stands whole at bytes
  pub digest_is : digest ≡ sha256 bytes

-- The result of hashing `size` bytes from an offset on: their SHA-256, or `None` if there are fewer; or the device
-- failed. The device keeps its bytes.
pub record HashesAt {P : Type 0} (device : Stream P) (at size : ℕ) (result : Result (Option (List ℕ)) Failed)
    : Type 0 where
  pub keeps : device.bytes device.new ≡ device.bytes device.old
  pub hashes : MatchResult result
      (λ found. IsUnfailed device × MatchOption found (HasFewer (device.bytes device.old) at size)
      (HaveDigest (device.bytes device.old) at size))
      (λ _. HasFailed device)

-- The sink gained these bytes, which are at the offset.
pub record Gains {P W : Type 0} (device : Stream P) (sink : Stream W) (at : ℕ) (bytes : List ℕ) : Type 0 where
  pub stands : Stands (device.bytes device.old) at bytes
  pub gained : Appends (sink.bytes sink.old) (sink.bytes sink.new) bytes

-- The sink gained `size` bytes, whose SHA-256 is `digest`.
pub record IsCopied {P W : Type 0} (device : Stream P) (sink : Stream W) (at size : ℕ) (digest : List ℕ) : Type 0 where
  pub bytes : List ℕ
  pub gains : Gains device sink at bytes
  pub long : length bytes ≡ size
  pub digest_is : digest ≡ sha256 bytes
  pub unfailed : IsUnfailed device × IsUnfailed sink

-- why a copy of `size` bytes stopped after `gained` bytes: the device has fewer, or it failed, or the sink did
abbrev pub StopsFor : {P W : Type 0} → Stream P → Stream W → ℕ → ℕ → ℕ → CopyFault → Type 0
StopsFor device sink at size gained Ended =
    HasFewer (device.bytes device.old) at size × IsUnfailed device × IsUnfailed sink
StopsFor device sink at size gained Device = HasFailed device × IsUnfailed sink
StopsFor device sink at size gained (Sink written) = (written ≡ gained) × IsUnfailed device × HasFailed sink

-- The copy stopped before the sink had `size` bytes: it gained these.
pub record StopsCopy {P W : Type 0} (device : Stream P) (sink : Stream W) (at size : ℕ) (fault : CopyFault)
    : Type 0 where
  pub bytes : List ℕ
  pub gains : Gains device sink at bytes
  pub fewer : length bytes < size
  pub stops : StopsFor device sink at size (length bytes) fault

-- The result of copying `size` bytes from an offset on into a sink: their SHA-256, or the reason why the copy is
-- incomplete. The device keeps its bytes.
pub record CopiesAt {P W : Type 0} (device : Stream P) (sink : Stream W) (at size : ℕ)
    (result : Result (List ℕ) CopyFault) : Type 0 where
  pub keeps : device.bytes device.new ≡ device.bytes device.old
  pub copies : MatchResult result (IsCopied device sink at size) (StopsCopy device sink at size)
