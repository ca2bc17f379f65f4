-- Where the slices of a file stand.
use Rattle.std.proofs.Common.{◌≡◌, ℕ, ◌+◌, ◌<◌, ◌≤◌, List, [], length, drop, Some, slice_get, sym, ap, ◌∙◌, arith, length-drop}
use Rattle.std.proofs.lemmas.List.{length-take-le}
use Rattle.std.proofs.lemmas.List.FromFn.{length-map-range_with_len, get_or-map-range_with_len}
use Rattle.std.proofs.lemmas.Option.{slice_get-get_or}
use Rattle.fat_slices.specs.Layout.{nfat_arch, arch_at}
use Rattle.fat_slices.specs.FatFault.{IsUniversal}
use Rattle.fat_slices.specs.Slices.{slice_part, slices}
use Rattle.fat_slices.proofs.FatFaults.{table_of, inside_of, small_of}

pub length-slices : (file : List ℕ) → length (slices file) ≡ nfat_arch file
unfolding slices
length-slices file = length-map-range_with_len (λ i. slice_part file (arch_at file i)) 0 (nfat_arch file)

pub slice_at : (file : List ℕ) (i : ℕ) → i < nfat_arch file → slice_get (slices file) i ≡ Some (slice_part file (arch_at file i))
unfolding slices
slice_at file i h =
    slice_get-get_or (slices file) i [] (omega (arith, length-slices file))
    ∙ ap Some (get_or-map-range_with_len (λ i. slice_part file (arch_at file i)) 0 (nfat_arch file) i i [] h (omega arith))

pub whole_part : (file : List ℕ) (i : ℕ) → IsUniversal file → i < nfat_arch file → length (slice_part file (arch_at file i)) ≡ (arch_at file i).size
whole_part file i sound h =
    let inside = inside_of file i sound h in
    length-take-le (arch_at file i).size (drop (arch_at file i).offset file) (omega (arith, length-drop (arch_at file i).offset file))

-- what a universal file has, in terms of its slices
pub header_of : (file : List ℕ) → IsUniversal file → 8 ≤ length file
header_of file sound = (table_of file sound).header

pub few_slices : (file : List ℕ) → IsUniversal file → nfat_arch file ≤ 32
few_slices file sound = (table_of file sound).few

pub entry_of : (file : List ℕ) (i : ℕ) → i < length (slices file) → i < nfat_arch file
entry_of file i h = omega (arith, length-slices file)

pub inside_part : (file : List ℕ) (i : ℕ) → IsUniversal file → i < length (slices file) → (arch_at file i).offset + (arch_at file i).size ≤ length file
inside_part file i sound h = inside_of file i sound (entry_of file i h)

pub small_part : (file : List ℕ) (i : ℕ) → IsUniversal file → i < length (slices file) → length (slice_part file (arch_at file i)) < 4294967296
small_part file i sound h =
    let entry = entry_of file i h in
    omega (arith, whole_part file i sound entry, small_of file i sound entry)

pub named_part : (file : List ℕ) (i : ℕ) → i < length (slices file) → slice_get (slices file) i ≡ Some (slice_part file (arch_at file i))
named_part file i h = slice_at file i (entry_of file i h)

pub number_of_slices : (file : List ℕ) → nfat_arch file ≡ length (slices file)
number_of_slices file = sym (length-slices file)

pub ruleset of_slices = (table_of, header_of, few_slices, entry_of, inside_part, small_part, named_part, number_of_slices)
