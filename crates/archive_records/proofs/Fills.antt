-- Bytes that are laid over those of the last record.
use Rattle.std.proofs.Common.{◌≡◌, ◌≢◌, ℕ, ◌+◌, ◌<◌, ◌≤◌, List, [], ◌∷◌, ◌++◌, length, take, drop, Option, refl, sym}
use Rattle.std.proofs.Common.{ap, ◌∙◌, arith, length-append, length-take, append_assoc}
use Rattle.std.specs.Io.KnownBytes.{Consumes}
use Rattle.std.proofs.lemmas.List.{append-nil, take_at, drop_at, drop-drop, take-take}
use Rattle.std.proofs.Math.Seq.{take-add, take-nil}
use Rattle.std.proofs.Math.ListN.{drop_of_length-le}
use Rattle.std.specs.declared.cmp.Ordering.{Ordering}
use Rattle.std.specs.declared.cmp.Ordering.TheVariants.{Equal}
use Rattle.std.specs.Ordering.{nat_cmp, ordering_then}
use Rattle.std.specs.Cmp.Lexicographic.{slice_cmp}
use Rattle.byte_device.proofs.Known.{Consumes-then}
use Rattle.archive_records.specs.declared.buffer.Buffer.{Buffer}
use Rattle.archive_records.specs.Reader.{Fills, bytes_so_far, Over}

then_assoc : (a b c : Ordering) → ordering_then a (ordering_then b c) ≡ ordering_then (ordering_then a b) c
then_assoc a b c = grind arith

-- two parts that are compared one after the other
pub cmp_parts : (a b c d : List ℕ) → length a ≤ length c → (length a < length c → b ≡ [])
    → slice_cmp nat_cmp (a ++ b) (c ++ d) ≡ ordering_then (slice_cmp nat_cmp a c) (slice_cmp nat_cmp b d)
cmp_parts [] b [] d le short = refl
cmp_parts [] b (y ∷ c) d le short = rw (short (omega arith)) refl
cmp_parts (x ∷ a) b [] d le short = absurd (omega arith)
cmp_parts (x ∷ a) b (y ∷ c) d le short =
    let le' : length a ≤ length c = omega arith in
    ap (ordering_then (nat_cmp x y)) (cmp_parts a b c d le' (λ lt. short (omega arith)))
    ∙ then_assoc (nat_cmp x y) (slice_cmp nat_cmp a c) (slice_cmp nat_cmp b d)

-- the same where the second has the shorter front
pub cmp_front : (a b c d : List ℕ) → length c ≤ length a → (length c < length a → d ≡ [])
    → slice_cmp nat_cmp (a ++ b) (c ++ d) ≡ ordering_then (slice_cmp nat_cmp a c) (slice_cmp nat_cmp b d)
cmp_front [] b [] d le short = refl
cmp_front [] b (y ∷ c) d le short = absurd (omega arith)
cmp_front (x ∷ a) b [] d le short = rw (short (omega arith)) refl
cmp_front (x ∷ a) b (y ∷ c) d le short =
    let le' : length c ≤ length a = omega arith in
    ap (ordering_then (nat_cmp x y)) (cmp_front a b c d le' (λ lt. short (omega arith)))
    ∙ then_assoc (nat_cmp x y) (slice_cmp nat_cmp a c) (slice_cmp nat_cmp b d)

pub bytes_so_far_laid : (items m : List ℕ) (at : ℕ) → at ≤ length items
    → take (at + length m) (take at items ++ (m ++ drop (at + length m) items)) ≡ take at items ++ m
bytes_so_far_laid items m at le =
    ap (take (at + length m)) (sym (append_assoc (take at items) m (drop (at + length m) items)))
    ∙ take_at (take at items ++ m) (drop (at + length m) items) (at + length m)
    (omega (arith, length-append (take at items) m, length-take at items))

pub rest_laid : (items m : List ℕ) (at : ℕ) → at ≤ length items
    → drop (at + length m) (take at items ++ (m ++ drop (at + length m) items)) ≡ drop (at + length m) items
rest_laid items m at le =
    ap (drop (at + length m)) (sym (append_assoc (take at items) m (drop (at + length m) items)))
    ∙ drop_at (take at items ++ m) (drop (at + length m) items) (at + length m)
    (omega (arith, length-append (take at items) m, length-take at items))

-- what is compared next decides only where what was compared before is the same
then_decided : (d x y : Ordering) → (d ≡ Equal → x ≡ y) → ordering_then d x ≡ ordering_then d y
then_decided d x y p = grind arith

then_equal : (a b : Ordering) → ordering_then a b ≡ Equal → a ≡ Equal
then_equal a b e = grind arith

pub then_differs : (d x : Ordering) → d ≢ Equal → d ≡ ordering_then d x
then_differs d x p = grind arith

-- the last record's front and what came, which grew by m
grown_over : (last : List ℕ) (b n : Buffer) (m : List ℕ) → b.at ≤ length b.bytes.items → n.at ≡ b.at + length m
    → bytes_so_far n ≡ bytes_so_far b ++ m → Over last b
    → ordering_then b.order (slice_cmp nat_cmp (take (length m) (drop b.at last)) m) ≡ slice_cmp nat_cmp (take n.at last) (bytes_so_far n)
grown_over last b n m le at front o =
    ap (λ (d : Ordering). ordering_then d (slice_cmp nat_cmp (take (length m) (drop b.at last)) m)) o.order
    ∙ sym (cmp_parts (take b.at last) (take (length m) (drop b.at last)) (bytes_so_far b) m
    (omega (arith, length-take b.at last, length-take b.at b.bytes.items))
    (λ lt. ap (take (length m)) (drop_of_length-le last (omega (arith, length-take b.at last, length-take b.at b.bytes.items))) ∙ take-nil (length m)))
    ∙ ap (λ (t : List ℕ). slice_cmp nat_cmp t (bytes_so_far b ++ m)) (sym (take-add b.at (length m) last) ∙ ap (λ (k : ℕ). take k last) (sym at))
    ∙ ap (slice_cmp nat_cmp (take n.at last)) (sym front)

within_grown : (b n : Buffer) (m : List ℕ) → b.at ≤ length b.bytes.items → n.at ≡ b.at + length m → bytes_so_far n
    ≡ bytes_so_far b ++ m → n.at ≤ length n.bytes.items
within_grown b n m le at front = omega (
  arith,
  ap length front,
  length-take n.at n.bytes.items,
  length-append (bytes_so_far b) m,
  length-take b.at b.bytes.items,
)

-- what came was laid over the last record
pub Fills-laid : (a c : Option (List ℕ)) (b n : Buffer) (m : List ℕ) (order : Ordering) → b.at ≤ length b.bytes.items
    → n.at ≡ b.at + length m → n.bytes.items ≡ take b.at b.bytes.items ++ (m ++ drop (b.at + length m) b.bytes.items)
    → n.order ≡ ordering_then b.order order → order ≡ slice_cmp nat_cmp (take (length m) (drop b.at b.bytes.items)) m → Consumes a c m → Fills a c b n
Fills-laid a c b n m order le at items then is taken =
    let rest : drop n.at n.bytes.items ≡ drop (b.at + length m) b.bytes.items = rw (at, items) (rest_laid b.bytes.items m b.at le) in
    let front : bytes_so_far n ≡ take b.at b.bytes.items ++ m = rw (at, items) (bytes_so_far_laid b.bytes.items m b.at le) in
    record {
      within = within_grown b n m le at front;
      more = m;
      grows = front;
      taken = taken;
      over = λ last o. record {
        rest = λ e. rest ∙ sym (drop-drop (length m) b.at b.bytes.items)
            ∙ ap (drop (length m)) (o.rest (then_equal b.order order (sym then ∙ e))) ∙ drop-drop (length m) b.at last
            ∙ ap (λ (k : ℕ). drop k last) (sym at);
        order = then
            ∙ then_decided b.order order (slice_cmp nat_cmp (take (length m) (drop b.at last)) m)
            (λ e. is ∙ ap (λ (t : List ℕ). slice_cmp nat_cmp (take (length m) t) m) (o.rest e))
            ∙ grown_over last b n m le at front o;
      };
    }

-- what came stands after what came before, where that differs from the last record
pub Fills-behind : (a c : Option (List ℕ)) (b n : Buffer) (m : List ℕ) → b.at ≤ length b.bytes.items → n.at
    ≡ b.at + length m → bytes_so_far n ≡ bytes_so_far b ++ m
    → n.order ≡ b.order → b.order ≢ Equal → Consumes a c m → Fills a c b n
Fills-behind a c b n m le at front same differs taken = record {
  within = within_grown b n m le at front;
  more = m;
  grows = front;
  taken = taken;
  over = λ last o. record {
    rest = λ e. absurd (differs (sym same ∙ e));
    order = same ∙ then_differs b.order (slice_cmp nat_cmp (take (length m) (drop b.at last)) m) differs ∙ grown_over last b n m le at front o;
  };
}

-- nothing came, and more room changes nothing
pub Fills-room : (a c : Option (List ℕ)) (b n : Buffer) → b.at ≤ length b.bytes.items → n.bytes.items ≡ b.bytes.items
    → n.at ≡ b.at → n.order ≡ b.order → Consumes a c [] → Fills a c b n
Fills-room a c b n le items at order taken =
    let same : bytes_so_far n ≡ bytes_so_far b = ap (λ (k : ℕ). take k n.bytes.items) at ∙ ap (take b.at) items in
    record {
      within = rw (at, items) le;
      more = [];
      grows = same ∙ sym (append-nil (bytes_so_far b));
      taken = taken;
      over = λ last o. record {
        rest = λ e. ap (λ (k : ℕ). drop k n.bytes.items) at ∙ ap (drop b.at) items ∙ o.rest (sym order ∙ e) ∙ ap (λ (k : ℕ). drop k last) (sym at);
        order = order ∙ o.order ∙ ap (λ (k : ℕ). slice_cmp nat_cmp (take k last) (bytes_so_far b)) (sym at)
            ∙ ap (slice_cmp nat_cmp (take n.at last)) (sym same);
      };
    }

-- one read after another
pub Fills-then : {a b c : Option (List ℕ)} {x y z : Buffer} → Fills a b x y → Fills b c y z → Fills a c x z
Fills-then {a = a} {b = b} {c = c} {x = x} p q = record {
  within = q.within;
  more = p.more ++ q.more;
  grows = q.grows ∙ ap (λ (t : List ℕ). t ++ q.more) p.grows ∙ append_assoc (bytes_so_far x) p.more q.more;
  taken = Consumes-then a b c p.more q.more p.taken q.taken;
  over = λ last o. q.over last (p.over last o);
}

pub bytes_before : (items behind rest : List ℕ) (at len : ℕ) → at ≤ length items → at ≤ len
    → take at (take len (take at items ++ behind ++ rest)) ≡ take at items
bytes_before items behind rest at len le in_len =
    take-take at len (take at items ++ behind ++ rest) in_len
    ∙ ap (take at) (append_assoc (take at items) behind rest)
    ∙ take_at (take at items) (behind ++ rest) at (omega (arith, length-take at items))

pub length-bytes_so_far : (b : Buffer) → b.at ≤ length b.bytes.items → length (bytes_so_far b) ≡ b.at
length-bytes_so_far b le = omega (arith, length-take b.at b.bytes.items)
