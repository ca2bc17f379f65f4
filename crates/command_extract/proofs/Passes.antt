-- Bytes of a place that were gone through so far.
use Rattle.std.proofs.Common.{◌≡◌, ℕ, Bool, false, Result, Ok, Err, ◌+◌, ◌<◌, ◌≤◌, List, [], ◌++◌, length, take, drop}
use Rattle.std.proofs.Common.{Option, Some, None, refl, sym, ap, ◌∙◌, subst, arith, append_assoc, length-append}
use Rattle.std.proofs.Common.{length-drop, length-take}
use Rattle.std.specs.Bool.{MatchBool}
use Rattle.std.specs.Io.KnownBytes.{Appends}
use Rattle.std.proofs.lemmas.List.{length-take-le, take-append-drop, take-take, take_at}
use Rattle.sha2.specs.Hashers.{Holds256}
use Rattle.sha2.specs.declared.Sha256.{Sha256}
use Rattle.byte_device.specs.Devices.{Stream}
use Rattle.byte_device.specs.declared.Failed.{Failed}
use Rattle.byte_device.proofs.Known.{Appends-then}
use Rattle.byte_device.proofs.PlacedReading.{stands_more}
use Rattle.byte_device.specs.Places.{Stands, TakenAt}
use Rattle.command_extract.specs.Copies.{HasFewer, HashesAt, IsUnfailed}
use Rattle.command_extract.specs.Sending.{HaveOther}

-- these bytes stand at the place, the sink gained them, and the hasher holds them
pub record HaveGone (whole held_old held_new : Option (List ℕ)) (at done : ℕ) (hasher : Sha256) : Type 0 where
  pub bytes : List ℕ
  pub long : length bytes ≡ done
  pub stands : Stands whole at bytes
  pub gained : Appends held_old held_new bytes
  pub holds : Holds256 hasher bytes

-- no bytes stand anywhere
pub stands_none : (whole : Option (List ℕ)) (at : ℕ) → Stands whole at []
stands_none None at = tt
stands_none (Some all) at = refl

-- the first of bytes that stand at a place do
stands_front : (whole : Option (List ℕ)) (at : ℕ) (front back : List ℕ) → Stands whole at (front ++ back) → Stands whole at front
stands_front None at front back stand = tt
stands_front (Some all) at front back stand =
    let within : length front ≤ length (front ++ back) = omega (arith, length-append front back) in
    sym (take-take (length front) (length (front ++ back)) (drop at all) within)
    ∙ ap (take (length front)) stand
    ∙ take_at front back (length front) refl

module _ (whole now held_old held_mid held_new : Option (List ℕ)) (at done n : ℕ) (buffer : List ℕ) (hasher : Sha256)
    (gone : HaveGone whole held_old held_mid at done hasher)
    (bound : n ≤ length buffer) (keeps : now ≡ whole) (came : TakenAt now (at + done) n buffer) where
  -- one piece more stands there
  next_stands : Stands whole at (gone.bytes ++ take n buffer)
  next_stands =
      stands_more whole at n gone.bytes buffer bound gone.stands
      (subst (λ (k : ℕ). TakenAt whole (at + k) n buffer) (sym gone.long) (subst (λ (w : Option (List ℕ)). TakenAt w (at + done) n buffer) keeps came))

  -- and was gone through
  pub gone_more : (piece : List ℕ) (after : Sha256) → piece ≡ take n buffer → Appends held_mid held_new piece
      → ((m : List ℕ) → Holds256 hasher m → Holds256 after (m ++ piece))
      → HaveGone whole held_old held_new at (done + n) after
  gone_more piece after is gained holds = record {
    bytes = gone.bytes ++ piece;
    long = omega (arith, length-append gone.bytes piece, ap length is, length-take-le n buffer bound, gone.long);
    stands = subst (λ (p : List ℕ). Stands whole at (gone.bytes ++ p)) (sym is) next_stands;
    gained = Appends-then held_old held_mid held_new gone.bytes piece gone.gained gained;
    holds = holds gone.bytes gone.holds;
  }

  -- a sink that stopped within the piece gained these
  pub record HaveStopped (k : ℕ) : Type 0 where
    pub all : List ℕ
    pub long : length all ≡ done + k
    pub stands : Stands whole at all
    pub gained : Appends held_old held_new all

  pub gone_part : (k : ℕ) → k < length (take n buffer) → Appends held_mid held_new (take k (take n buffer)) → HaveStopped k
  gone_part k within gained =
      let piece : List ℕ = take n buffer in
      let split : (gone.bytes ++ take k piece) ++ drop k piece ≡ gone.bytes ++ piece =
      append_assoc gone.bytes (take k piece) (drop k piece) ∙ ap (λ (p : List ℕ). gone.bytes ++ p) (take-append-drop k piece) in
      record {
        all = gone.bytes ++ take k piece;
        long = omega (arith, length-append gone.bytes (take k piece), length-take-le k piece (omega (arith, within)), gone.long);
        stands = stands_front whole at (gone.bytes ++ take k piece) (drop k piece) (subst (λ (xs : List ℕ). Stands whole at xs) (sym split) next_stands);
        gained = Appends-then held_old held_mid held_new gone.bytes (take k piece) gone.gained gained;
      }

-- fewer bytes are no so many with a SHA-256
pub fewer_other : (whole : Option (List ℕ)) (at size : ℕ) (digest : List ℕ) → (0 < size → HasFewer whole at size) → HaveOther whole at size digest
fewer_other None at size digest fewer = tt
fewer_other (Some all) at size digest fewer = λ have.
    let less = fewer have.0 in
    let bytes = have.1 in
    omega (arith, less.0, less.1, bytes.long, ap length bytes.stands, length-take (length bytes.bytes) (drop at all), length-drop at all)

-- nothing was hashed
pub nothing_hashed : {P : Type 0} (device : Stream P) (at size : ℕ) (result : Result (Option (List ℕ)) Failed)
    (digest : List ℕ) → HashesAt device at size result → result ≡ Ok None
    → IsUnfailed device × HaveOther (device.bytes device.old) at size digest
nothing_hashed device at size (Ok None) digest h is = (h.hashes.0, fewer_other (device.bytes device.old) at size digest (λ some. h.hashes.1))
nothing_hashed device at size (Ok (Some found)) digest h is = absurd (cc is)
nothing_hashed device at size (Err fault) digest h is = absurd (cc is)

-- what was tested, and is not so
pub not_tested : (X Y : Type 0) (has : Bool) → has ≡ false → MatchBool has X Y → Y
not_tested X Y has is tests = subst (λ (b : Bool). MatchBool b X Y) is tests
