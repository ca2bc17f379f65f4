-- The results of sending bytes with a known SHA-256.
use Rattle.std.specs.Prelude.{◌≡◌, ◌≢◌, ℕ, ◌<◌, ◌≤◌, Bool, List, [], length, Option, Some, IfSome, Result, MatchResult}
use Rattle.std.specs.Bool.{MatchBool}
use Rattle.byte_device.specs.Devices.{Stream}
use Rattle.byte_device.specs.declared.Failed.{Failed}
use Rattle.command_extract.specs.Copies.{Gains, HasFailed, HaveDigest, IsCopied, IsUnfailed}
use Rattle.command_extract.specs.declared.tested_copy.SendFault.{SendFault}
use Rattle.command_extract.specs.declared.tested_copy.SendFault.TheVariants.{Other, Device, Sink}

-- some bytes are requested, and those at the offset have this SHA-256
abbrev pub HaveSome : Option (List ℕ) → ℕ → ℕ → List ℕ → Type 0
HaveSome whole at size digest = (0 < size) × HaveDigest whole at size digest

-- if the device's bytes are known, `HaveSome` does not hold
abbrev pub HaveOther : Option (List ℕ) → ℕ → ℕ → List ℕ → Type 0
HaveOther whole at size digest = IfSome whole (λ all. HaveSome (Some all) at size digest → ⊥)

-- The result of comparing the SHA-256 of `size` bytes at the offset with this one; or the device failed. The device
-- keeps its bytes.
pub record TestsAt {P : Type 0} (device : Stream P) (at size : ℕ) (digest : List ℕ) (result : Result Bool Failed)
    : Type 0 where
  pub keeps : device.bytes device.new ≡ device.bytes device.old
  pub tests : MatchResult result
      (λ has. IsUnfailed device × MatchBool has (HaveSome (device.bytes device.old) at size digest)
      (HaveOther (device.bytes device.old) at size digest))
      (λ _. HasFailed device)

-- why bytes were not sent: they have another SHA-256, or the device failed, or the sink did after `gained` bytes, which
-- are not all
abbrev pub Hinders : {P W : Type 0} → Stream P → Stream W → ℕ → ℕ → List ℕ → ℕ → SendFault → Type 0
Hinders device sink at size digest gained Other =
    HaveOther (device.bytes device.old) at size digest × IsUnfailed device × IsUnfailed sink
Hinders device sink at size digest gained Device = HasFailed device × IsUnfailed sink
Hinders device sink at size digest gained (Sink written) =
    (written ≡ gained) × (gained < size) × IsUnfailed device × HasFailed sink

-- Bytes were not sent. The sink gained these, which are at the offset: none, unless `size` bytes there were found to
-- have the SHA-256.
pub record StopsSending {P W : Type 0} (device : Stream P) (sink : Stream W) (at size : ℕ) (digest : List ℕ)
    (fault : SendFault) : Type 0 where
  pub bytes : List ℕ
  pub gains : Gains device sink at bytes
  pub within : length bytes ≤ size
  pub held_back : bytes ≢ [] → HaveSome (device.bytes device.old) at size digest
  pub hinders : Hinders device sink at size digest (length bytes) fault

-- The result of sending `size` bytes from an offset on into a sink: it gained them, and they have this SHA-256; or it
-- did not gain them all. The device keeps its bytes.
pub record SendsAt {P W : Type 0} (device : Stream P) (sink : Stream W) (at size : ℕ) (digest : List ℕ)
    (result : Result (Unit {0}) SendFault) : Type 0 where
  pub keeps : device.bytes device.new ≡ device.bytes device.old
  pub sends : MatchResult result (λ _. (0 < size) × IsCopied device sink at size digest)
      (StopsSending device sink at size digest)
