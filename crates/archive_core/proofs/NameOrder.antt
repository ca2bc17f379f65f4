-- The rows of a name: their order.
use Rattle.std.proofs.Common.{◌≡◌, ℕ, List, ap}
use Rattle.std.specs.declared.cmp.Ordering.TheVariants.{Equal}
use Rattle.std.specs.Ordering.{nat_cmp}
use Rattle.std.specs.Cmp.{IsTotalOrder, nat_cmp_total, on_total, then_total}
use Rattle.std.specs.Cmp.Lexicographic.{slice_cmp, on_texts}
use Rattle.std.proofs.lemmas.Map.Lookups.{exact_bytes, exact_pairs, exact_unsigned}
use Rattle.archive_core.specs.Names.{NameRecord, key_cmp, place_cmp, name_cmp}
use Rattle.archive_core.specs.declared.keys.SliceKey.{SliceKey}

-- the order of rows is a total order
key_total : IsTotalOrder key_cmp
key_total = then_total (on_texts (λ key. key.uuid)) (on_total (λ key. key.arch)
    (then_total (on_total (λ arch. arch.cputype) nat_cmp_total) (on_total (λ arch. arch.cpusubtype) nat_cmp_total)))

place_total : IsTotalOrder place_cmp
place_total = then_total (on_total (λ row. row.address) nat_cmp_total)
    (then_total (on_total (λ row. row.sect) nat_cmp_total)
    (then_total (on_texts (λ row. row.segment)) (on_texts (λ row. row.section))))

pub name_total : IsTotalOrder name_cmp
name_total = then_total (then_total (on_total (λ row. row.key) key_total) (on_texts (λ row. row.digest))) place_total

-- keys that their order ties are one
key_same : (a b : SliceKey) → key_cmp a b ≡ Equal → a ≡ b
key_same a b h =
    ap (λ (p : List ℕ × (ℕ × ℕ)). record { uuid = p.0; arch = record { cputype = p.1.0; cpusubtype = p.1.1 } })
    (exact_pairs (slice_cmp nat_cmp) _ exact_bytes (exact_pairs nat_cmp nat_cmp exact_unsigned exact_unsigned)
    (a.uuid, (a.arch.cputype, a.arch.cpusubtype)) (b.uuid, (b.arch.cputype, b.arch.cpusubtype)) h)

-- rows that it ties are one
pub rows_same : (a b : NameRecord) → name_cmp a b ≡ Equal → a ≡ b
rows_same a b h =
    let names = exact_pairs (slice_cmp nat_cmp) (slice_cmp nat_cmp) exact_bytes exact_bytes in
    ap (λ (p : (SliceKey × List ℕ) × (ℕ × (ℕ × (List ℕ × List ℕ)))). record
    { key = p.0.0; digest = p.0.1; address = p.1.0; sect = p.1.1.0; segment = p.1.1.1.0; section = p.1.1.1.1 })
    (exact_pairs _ _ (exact_pairs key_cmp (slice_cmp nat_cmp) key_same exact_bytes)
    (exact_pairs nat_cmp _ exact_unsigned (exact_pairs nat_cmp _ exact_unsigned names))
    ((a.key, a.digest), (a.address, (a.sect, (a.segment, a.section))))
    ((b.key, b.digest), (b.address, (b.sect, (b.segment, b.section)))) h)
