-- What it takes that a command has no fault.
use Rattle.std.proofs.Common.{◌≡◌, ℕ, ◌+◌, ◌*◌, ◌≤◌, Bool, false, nat_lt, ◌&&◌, List, length, Option, Some, None, ◌⊎◌, inl, inr, refl, arith}
use Rattle.std.proofs.lemmas.Bool.{ltb-false}
use Rattle.macho_image.specs.Commands.{HasRoom, is_segment, nsects, is_uuid, is_symtab}
use Rattle.macho_image.specs.Fault.{command_fault}

-- none of the tests of a command was met
pub record PassesTests (has_uuid has_symtab : Bool) (command : List ℕ) : Type 0 where
  pub segment : (is_segment command && nat_lt (length command) (72 + 80 * nsects command)) ≡ false
  pub uuid : (is_uuid command && nat_lt (length command) 24) ≡ false
  pub one_uuid : (is_uuid command && has_uuid) ≡ false
  pub symtab : (is_symtab command && nat_lt (length command) 24) ≡ false
  pub one_symtab : (is_symtab command && has_symtab) ≡ false

pub passes_tests : (index : ℕ) (has_uuid has_symtab : Bool) (command : List ℕ)
    → command_fault index has_uuid has_symtab command ≡ None → PassesTests has_uuid has_symtab command
passes_tests index has_uuid has_symtab command fine = grind arith

-- there is no fault or one
pub none_or_some : {A : Type 0} (o : Option A) → (o ≡ None) ⊎ ((x : A) × (o ≡ Some x))
none_or_some None = inl refl
none_or_some (Some x) = inr (x, refl)

-- a command without a fault has room for what its kind holds
pub room_of : (index : ℕ) (has_uuid has_symtab : Bool) (command : List ℕ) → 8 ≤ length command
    → command_fault index has_uuid has_symtab command ≡ None → HasRoom command
room_of index has_uuid has_symtab command long fine =
    let passes = passes_tests index has_uuid has_symtab command fine in
    record {
      long = long;
      sections = λ segment. ltb-false _ _ (rw segment at passes.segment);
      uuid = λ uuid. ltb-false _ _ (rw uuid at passes.uuid);
      symtab = λ symtab. ltb-false _ _ (rw symtab at passes.symtab);
    }
