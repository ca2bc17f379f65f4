-- Load commands at the front of bytes: there is at most one way to cut them.
use Rattle.std.proofs.Common.{◌≡◌, ℕ, ◌+◌, ◌<◌, ◌≤◌, List, [], ◌∷◌, ◌++◌, length, take, drop, refl, sym, ap, ◌∙◌, arith}
use Rattle.std.proofs.Common.{append_assoc, length-append, length-drop, length-take}
use Rattle.std.specs.List.{concat, AllByRecursion}
use Rattle.std.proofs.lemmas.List.{drop-append-le, append_cancel_left, append-nil, take-append-drop, nil_from_length}
use Rattle.std.proofs.Math.Seq.{take-append_seam}
use Rattle.byteorder.specs.Endian.{little_number}
use Rattle.byteorder.specs.Numbers.{little_from-append}
use Rattle.macho_image.specs.Layout.{u32_le_at}
use Rattle.macho_image.specs.Commands.{IsCommand, AreFirst}
use Rattle.macho_image.specs.Inner.{HasNoCommand}

-- a number is that of the bytes in front, whatever follows them
pub u32_le_at-append : (xs ys : List ℕ) (offset : ℕ) → offset + 4 ≤ length xs → u32_le_at (xs ++ ys) offset ≡ u32_le_at xs offset
unfolding u32_le_at
u32_le_at-append xs ys offset h =
    let moved : drop offset (xs ++ ys) ≡ drop offset xs ++ ys = drop-append-le offset xs ys (omega arith) in
    ap (little_number 4) moved ∙ little_from-append 4 (drop offset xs) ys (omega (arith, length-drop offset xs))

-- two commands in front of the same bytes are the same
pub same_command : (x y r t : List ℕ) → IsCommand x → IsCommand y → x ++ r ≡ y ++ t → (x ≡ y) × (r ≡ t)
same_command x y r t px py e =
    let left : u32_le_at (x ++ r) 4 ≡ u32_le_at x 4 = u32_le_at-append x r 4 (omega (arith, px.long)) in
    let right : u32_le_at (y ++ t) 4 ≡ u32_le_at y 4 = u32_le_at-append y t 4 (omega (arith, py.long)) in
    let lengths : length x ≡ length y = px.sized ∙ sym left ∙ ap (λ s. u32_le_at s 4) e ∙ right ∙ sym py.sized in
    let same : x ≡ y = sym (take-append_seam x r) ∙ ap (take (length x)) e ∙ ap (λ n. take n (y ++ t)) lengths ∙ take-append_seam y t in
    (same, append_cancel_left x r t (e ∙ ap (λ s. s ++ t) (sym same)))

-- of two fronts of the same bytes the shorter one begins the longer
pub fronts_agree : (xs ys : List (List ℕ)) (r t : List ℕ) → AllByRecursion IsCommand xs → AllByRecursion IsCommand ys
    → concat xs ++ r ≡ concat ys ++ t → length xs ≤ length ys
    → (zs : List (List ℕ)) × (ys ≡ xs ++ zs) × AllByRecursion IsCommand zs × (r ≡ concat zs ++ t)
fronts_agree [] ys r t px py e h = (ys, refl, py, e)
fronts_agree (x ∷ xs) [] r t px py e h = absurd (omega arith)
fronts_agree (x ∷ xs) (y ∷ ys) r t px py e h =
    let whole : x ++ (concat xs ++ r) ≡ y ++ (concat ys ++ t) = sym (append_assoc x (concat xs) r) ∙ e ∙ append_assoc y (concat ys) t in
    let heads = same_command x y (concat xs ++ r) (concat ys ++ t) px.0 py.0 whole in
    let tails = fronts_agree xs ys r t px.1 py.1 heads.1 (omega arith) in
    (tails.0, cc (heads.0, tails.1), tails.2, tails.3)

-- there is at most one front of a length
pub one_list_of_commands : (bytes : List ℕ) (count : ℕ) (xs ys : List (List ℕ)) → AreFirst bytes count xs → AreFirst bytes count ys → xs ≡ ys
one_list_of_commands bytes count xs ys px py =
    let found = fronts_agree xs ys px.rest py.rest px.each py.each (sym px.begins ∙ py.begins) (omega (arith, px.number, py.number)) in
    let none : length found.0 ≡ 0 = omega (arith, px.number, py.number, ap length found.1, length-append xs found.0) in
    let empty : found.0 ≡ [] = nil_from_length found.0 none in
    sym (found.1 ∙ ap (λ zs. xs ++ zs) empty ∙ append-nil xs)

-- the size in a command is that of the bytes that it begins
pub size_in_front : (bytes command rest : List ℕ) → IsCommand command → bytes ≡ command ++ rest → u32_le_at bytes 4 ≡ length command
size_in_front bytes command rest p e = ap (λ s. u32_le_at s 4) e ∙ u32_le_at-append command rest 4 (omega (arith, p.long)) ∙ sym p.sized

-- no command is shorter than eight bytes
pub no_short_command : (bytes : List ℕ) → u32_le_at bytes 4 < 8 → HasNoCommand bytes
no_short_command bytes h command rest p e = omega (arith, size_in_front bytes command rest p e, p.long)

-- no command passes the end
pub no_outside_command : (bytes : List ℕ) → length bytes < u32_le_at bytes 4 → HasNoCommand bytes
no_outside_command bytes h command rest p e =
    omega (arith, size_in_front bytes command rest p e, ap length e, length-append command rest)

-- nor is there one in fewer than eight bytes
pub no_command_in_few : (bytes : List ℕ) → length bytes < 8 → HasNoCommand bytes
no_command_in_few bytes h command rest p e = omega (arith, p.long, ap length e, length-append command rest)

-- a size that is possible makes a command
pub command_of_size : (bytes : List ℕ) (size : ℕ) → size ≡ u32_le_at bytes 4 → 8 ≤ size → size ≤ length bytes → IsCommand (take size bytes)
command_of_size bytes size e low high =
    let len : length (take size bytes) ≡ size = simp length-take (omega arith) in
    let same : u32_le_at bytes 4 ≡ u32_le_at (take size bytes) 4 =
    ap (λ s. u32_le_at s 4) (sym (take-append-drop size bytes)) ∙ u32_le_at-append (take size bytes) (drop size bytes) 4 (omega (arith, len)) in
    record { long = omega (arith, len); sized = len ∙ e ∙ same }

-- for the search of commands
pub ruleset commands_in_front = (no_short_command, no_outside_command, no_command_in_few, command_of_size)
