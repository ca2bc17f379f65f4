-- Inputs that are accepted are refused for their devices alone.
use Rattle.std.proofs.Common.{◌≡◌, ℕ, zero, suc, List, [], ◌∷◌, Some, subst, inl, inr, slice_get}
use Rattle.std.specs.List.{AllByRecursion, AllZip}
use Rattle.archive_core.specs.Content.{Operations, IsContent}
use Rattle.archive_records.specs.Reading.{Meaning, IsMeaning, IsTextOf}
use Rattle.archive_records.specs.declared.kind.TextKind.{TextKind}
use Rattle.archive_records.specs.declared.kind.TextKind.TheVariants.{Archive as ArchiveFile}
use Rattle.command_common.specs.declared.faults.InputName.{InputName}
use Rattle.command_common.specs.declared.faults.Why.{Why}
use Rattle.command_common.specs.Archives.{further_name}
use Rattle.command_common.specs.Inputs.{Reader, IsArchive, IsArchiveRefused, IsDeviceFault, IsFirstRefused, IsGiven}
use Rattle.command_common.specs.Inputs.{IsGivenArchive, IsRefusedInTurn, IsTextRefused}
use Rattle.command_archives.specs.Merge.{merge}
use Rattle.laws_archive.proofs.Given.{gives}
use Rattle.laws_archive.proofs.Refusals.{text_accepted}

-- a text of some meaning
text : {S : Type 0} (kind : TextKind) (input : Reader S) (m : Meaning kind) (bytes : List ℕ) (why : Why) → IsMeaning kind m → IsTextOf kind m bytes
    → IsGiven input bytes → IsTextRefused kind input why → IsDeviceFault why
text kind input m bytes why is of given refused =
    text_accepted kind input input why (bytes, given, given) (m, is, gives input bytes (IsTextOf kind m) given of) refused

pub archive : {R : Type 0} (input : Reader R) (o : Operations) (why : Why) → IsContent o → IsGivenArchive input o
    → IsArchiveRefused input why → IsDeviceFault why
archive input o why content given refused = text ArchiveFile input o given.0 why content given.1 given.2 refused

-- and a text after an archive
pub text_refused : {R S : Type 0} (kind : TextKind) (place : InputName) (input : Reader R) (named : Reader S) (o : Operations) (m : Meaning kind)
    (bytes : List ℕ) (at : InputName) (why : Why) → IsContent o → IsMeaning kind m → IsGivenArchive input o → IsGiven named bytes → IsTextOf kind m bytes
    → IsRefusedInTurn input (λ name reason. (name ≡ place) × IsTextRefused kind named reason) at why → IsDeviceFault why
text_refused kind place input named o m bytes at why content is given named_given of (inl p) = archive input o why content given p.1
text_refused kind place input named o m bytes at why content is given named_given of (inr p) = text kind named m bytes why is of named_given p.2.1

-- one of these inputs, at its place
at_place : {S Y : Type 0} (R : Reader S → Y → Type 0) (P : Y → Type 0) (files : List (Reader S)) (texts : List Y) (place : ℕ) (file : Reader S)
    → AllZip R files texts → AllByRecursion P texts → slice_get files place ≡ Some file → (text : Y) × P text × R file text
at_place R P [] texts place file given good at = cc
at_place R P (f ∷ files) [] place file given good at = absurd given
at_place R P (f ∷ files) (text ∷ texts) zero file given good at = let same : f ≡ file = cc in (text, good.0, subst (λ g. R g text) same given.0)
at_place R P (f ∷ files) (text ∷ texts) (suc place) file given good at = at_place R P files texts place file given.1 good.1 at

-- an archive and files after it
module _ {R S Y : Type 0} (input : Reader R) (files : List (Reader S)) (o : Operations) (texts : List Y) (at : InputName) (why : Why)
    (content : IsContent o) (given : IsGivenArchive input o) where
  pub listed_refused : (Is : Reader S → Y → Type 0) (P : Y → Type 0) (asked_of : ℕ → InputName)
      (IsGood : Reader S → Type 0) (IsRefused : Reader S → Why → Type 0)
      → ((file : Reader S) (text : Y) → P text → Is file text → IsRefused file why → IsDeviceFault why) → AllZip Is files texts → AllByRecursion P texts
      → IsRefusedInTurn input (IsFirstRefused asked_of IsGood IsRefused files) at why → IsDeviceFault why
  listed_refused Is P asked_of IsGood IsRefused alone are good (inl p) = archive input o why content given p.1
  listed_refused Is P asked_of IsGood IsRefused alone are good (inr p) =
      let first = p.2 in
      let found = at_place Is P files texts first.number first.input are good first.input_is in
      alone first.input found.0 found.1 found.2 first.refused

pub merge_refused : {R S : Type 0} (input : Reader R) (files : List (Reader S)) (o : Operations) (contents : List Operations) (at : InputName) (why : Why)
    → IsContent o → AllByRecursion IsContent contents → IsGivenArchive input o → AllZip IsGivenArchive files contents
    → (merge input files).Refuses at why → IsDeviceFault why
merge_refused input files o contents at why content are given files_given =
    listed_refused input files o contents at why content given IsGivenArchive IsContent further_name IsArchive IsArchiveRefused
    (λ file p. archive file p why) files_given are
