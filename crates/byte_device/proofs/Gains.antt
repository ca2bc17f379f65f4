-- Texts that are given to a writer one after the other, or in part.
use Rattle.std.proofs.Common.{◌≡◌, ℕ, ◌+◌, ◌-◌, List, [], ◌++◌, length, take, drop, Option, Result, Ok, Err, refl, sym, ap, ◌∙◌, subst, arith, length-append}
use Rattle.std.proofs.lemmas.List.{append-nil, take-append-le, take_rest}
use Rattle.byte_device.specs.declared.writing.WriteFault.{WriteFault}
use Rattle.byte_device.specs.Devices.{FailedIn}
use Rattle.byte_device.specs.Writes.{IsPut, Puts, StopsPut, WritesFirst}
use Rattle.std.proofs.Math.Seq.{take-append-add, take-add}
use Rattle.byte_device.proofs.Known.{Appends-then}
use Rattle.std.specs.Io.KnownBytes.{Appends}

-- the first bytes were given, and one more push of the rest took n of them
pub pushed : (a b c : Option (List ℕ)) (bytes : List ℕ) (at n : ℕ) → Appends a b (take at bytes)
    → Appends b c (take n (take (length bytes - at) (drop at bytes))) → Appends a c (take (at + n) bytes)
pushed a b c bytes at n p q =
    let q' : Appends b c (take n (drop at bytes)) = rw take_rest at q in
    rw take-add (Appends-then a b c (take at bytes) (take n (drop at bytes)) p q')

-- a text was given up to `done`, and then the writer failed within `bytes`
pub stopped : (a b c : Option (List ℕ)) (done bytes more text : List ℕ) (written k : ℕ) → written ≡ length done → text
    ≡ done ++ (bytes ++ more) → Appends a b done → WritesFirst b c bytes k → WritesFirst a c text (written + k)
stopped a b c done bytes more text written k len whole p q =
    let w = q.within in
    let seam : take (written + k) text ≡ done ++ take k bytes =
    rw (whole, len) (take-append-add done (bytes ++ more) k
    ∙ ap (λ (t : List ℕ). done ++ t) (take-append-le k bytes more (omega arith))) in
    record {
      within = rw whole (omega (arith, length-append done (bytes ++ more), length-append bytes more));
      gained = rw seam (Appends-then a b c done (take k bytes) p q.gained);
    }

-- a text that is spelled otherwise
pub puts_along : {W T : Type 0} (held : W → Option (List ℕ)) (failures : W → ℕ) (size : T → ℕ) (old new : W) (done : ℕ)
    (x y : List ℕ) (r : Result T WriteFault) → x ≡ y → Puts held failures size old new done x r
    → Puts held failures size old new done y r
puts_along held failures size old new done x y r same puts = subst (λ t. Puts held failures size old new done t r) same puts

-- the writer failed in the first of two texts
pub stops_before : {W : Type 0} (held : W → Option (List ℕ)) (failures : W → ℕ) (old new : W) (done written : ℕ)
    (x y : List ℕ) → StopsPut held failures old new done x written
    → StopsPut held failures old new done (x ++ y) written
stops_before held failures old new done written x y stops =
    let first = stops.first in
    record {
      some = stops.some;
      written_is = stops.written_is;
      first = record {
        within = omega (arith, first.within, length-append x y);
        gained = subst (Appends (held old) (held new)) (sym (take-append-le stops.some x y (omega (arith, first.within)))) first.gained;
      };
      failed = stops.failed;
    }

-- `x` was given, and then `y`, or a part of it
pub puts_then : {W T : Type 0} (held : W → Option (List ℕ)) (failures : W → ℕ) (size : T → ℕ) (old mid new : W)
    (done between : ℕ) (x y : List ℕ) (r : Result T WriteFault) → IsPut held failures old mid done x between
    → Puts held failures size mid new between y r → Puts held failures size old new done (x ++ y) r
puts_then held failures size old mid new done between x y (Ok value) put puts = record {
  size_is = omega (arith, put.size_is, puts.size_is, length-append x y);
  gained = Appends-then (held old) (held mid) (held new) x y put.gained puts.gained;
  unfailed = puts.unfailed ∙ put.unfailed;
}
puts_then held failures size old mid new done between x y (Err fault) put stops = record {
  some = length x + stops.some;
  written_is = omega (arith, put.size_is, stops.written_is);
  first = stopped (held old) (held mid) (held new) x y [] (x ++ y) (length x) stops.some refl
      (ap (λ (t : List ℕ). x ++ t) (sym (append-nil y))) put.gained stops.first;
  failed = subst (λ n. FailedIn n (failures new)) put.unfailed stops.failed;
}
