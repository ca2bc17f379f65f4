-- INDEX is that of a content; and with the indexes of these very archives nothing is refused but for a device.
use Rattle.std.proofs.Common.{◌≡◌, ◌≢◌, ℕ, zero, suc, ◌+◌, ◌<◌, Bool, true, List, [], ◌∷◌, length, take, get_or}
use Rattle.std.proofs.Common.{Option, None, Some, refl, sym, ap, ◌∙◌, subst, arith, inl, inr}
use Rattle.std.specs.Prelude.{IfSome, slice_get}
use Rattle.std.specs.List.{AllByRecursion, AllZip, list_any}
use Rattle.std.specs.Cmp.{tied_itself}
use Rattle.std.specs.Cmp.Lexicographic.{nat_list_cmp_total}
use Rattle.std.specs.FinSet as set
use Rattle.std.specs.Ordering.{eq_by_cmp, is_eq}
use Rattle.std.proofs.lemmas.List.{length-map}
use Rattle.std.proofs.lemmas.List.Elements.{All-from_recursion}
use Rattle.std.proofs.lemmas.List.Folds.{list_any_at}
use Rattle.std.proofs.lemmas.Option.{same_Some}
use Rattle.join_core.specs.Listing.{listing}
use Rattle.join_core.proofs.Listing.{any_listing}
use Rattle.archive_core.specs.Content.{Operations}
use Rattle.archive_core.specs.Part.{is_under}
use Rattle.archive_core.specs.Summary.{Entries}
use Rattle.archive_records.specs.Text.{written}
use Rattle.archive_records.proofs.Contents.{order}
use Rattle.index_format.specs.Fault.{IsIndexFault}
use Rattle.index_format.specs.Index.{index, lengths_of}
use Rattle.index_format.specs.Paged.{kept, only}
use Rattle.index_format.specs.Part.{IsPartFault, IsPartOf}
use Rattle.index_format.specs.Places.{IsNamedBy}
use Rattle.index_format.specs.Reading.{IsRefused}
use Rattle.index_format.specs.Text.{IsIndexText, placed_in, placed_of}
use Rattle.index_format.specs.Tree.{is_under_one}
use Rattle.index_format.specs.declared.index_fault.IndexFault.{IndexFault}
use Rattle.index_format.specs.declared.index_fault.IndexFaultKind.TheVariants.{OutOfMemory as IndexOutOfMemory}
use Rattle.index_format.proofs.Faults.{no_fault, one_list}
use Rattle.index_format.proofs.Named.{named_there}
use Rattle.index_format.proofs.Sums.{right_length}
use Rattle.command_common.specs.Inputs.{Gives, IsDeviceFault, IsGiven, Reader, reader}
use Rattle.command_common.specs.declared.faults.InputName.{InputName}
use Rattle.command_common.specs.declared.faults.Why.{Why}
use Rattle.command_common.specs.declared.faults.Why.TheVariants.{Record, Index as IndexFaulty}
use Rattle.command_given_indexes.specs.Indexes.{HasOtherLength, HoldsIndex, HoldsPart, HoldsTables, IsOfOtherLength, IsRefusedByIndex}
use Rattle.command_given_indexes.specs.Indexes.{IsRefusedByPart, IsUnreadAt, IsUnreadIndex, IsUnreadPart}
use Rattle.command_given_indexes.specs.Prefixes.{HasLength, IsReadFor, IsStaleUnder, IsUnnamedUnder}
use Rattle.command_given_indexes.specs.Several.{AreRefusedLater, AreRefusedTogether}
use Rattle.command_given_indexes.specs.Together.{AllThree, IsFirstRefusedByIndex, IsKept, IsLater, IsReadWith, IsRefusedAtPlaces}
use Rattle.laws_index.specs.Contents.{AreOwnIndexes, HaveKeys, IsIndexGiven, IsOwnIndex}
use Rattle.laws_index.specs.Indexes.{IsIndexFile}
use Rattle.laws_index.proofs.OfContent.{is_key_of}
use Rattle.laws_index.proofs.Parts.{at_kept, length_told, part_of, placed_whole, whole_may, whole_of, whole_read}
use Rattle.laws_index.proofs.PlacedIndex.{placed_index}

-- ---- lists of one length, whose elements at each place are related

module _ {X Y Z : Type 0} (R : X → Y → Z → Type 0) where
  -- what is at one place
  pub three_at : (xs : List X) (ys : List Y) (zs : List Z) (n : ℕ) (x : X) (y : Y) → AllThree R xs ys zs
      → slice_get xs n ≡ Some x → slice_get ys n ≡ Some y → (z : Z) × R x y z
  three_at (a ∷ xs) (b ∷ ys) [] n x y all in_xs in_ys = absurd all
  three_at (a ∷ xs) (b ∷ ys) (c ∷ zs) zero x y all in_xs in_ys =
      (c, subst (λ (u : X). R u y c) (same_Some a x in_xs) (subst (λ (v : Y). R a v c) (same_Some b y in_ys) all.0))
  three_at (a ∷ xs) (b ∷ ys) (c ∷ zs) (suc n) x y all in_xs in_ys = three_at xs ys zs n x y all.1 in_xs in_ys
  three_at xs ys zs n x y all in_xs in_ys = absurd cc

  -- the third of those at one place, which is there
  pub three_there : (xs : List X) (ys : List Y) (zs : List Z) (n : ℕ) (x : X) (y : Y) → AllThree R xs ys zs
      → slice_get xs n ≡ Some x → slice_get ys n ≡ Some y → (z : Z) × (slice_get zs n ≡ Some z) × R x y z
  three_there (a ∷ xs) (b ∷ ys) [] n x y all in_xs in_ys = absurd all
  three_there (a ∷ xs) (b ∷ ys) (c ∷ zs) zero x y all in_xs in_ys =
      (c, refl, subst (λ (u : X). R u y c) (same_Some a x in_xs) (subst (λ (v : Y). R a v c) (same_Some b y in_ys) all.0))
  three_there (a ∷ xs) (b ∷ ys) (c ∷ zs) (suc n) x y all in_xs in_ys = three_there xs ys zs n x y all.1 in_xs in_ys
  three_there xs ys zs n x y all in_xs in_ys = absurd cc

  -- of the first and the third
  pub first_third : (S : X → Z → Type 0) (xs : List X) (ys : List Y) (zs : List Z)
      → ((x : X) (y : Y) (z : Z) → R x y z → S x z) → AllThree R xs ys zs → AllZip S xs zs
  first_third S [] [] [] f all = tt
  first_third S (x ∷ xs) (y ∷ ys) (z ∷ zs) f all = (f x y z all.0, first_third S xs ys zs f all.1)
  first_third S xs ys zs f all = absurd all

  -- with a fourth list
  pub with_fourth : {W : Type 0} (S : X → Y → W → Type 0) (T : Y → W → Z → Type 0) (xs : List X) (ys : List Y)
      (zs : List Z) (ws : List W) → ((x : X) (y : Y) (z : Z) (w : W) → R x y z → S x y w → T y w z)
      → AllThree R xs ys zs → AllThree S xs ys ws → AllThree T ys ws zs
  with_fourth S T [] [] [] [] f all also = tt
  with_fourth S T [] [] [] (_ ∷ _) f all also = absurd also
  with_fourth S T (_ ∷ _) (_ ∷ _) (_ ∷ _) [] f all also = absurd also
  with_fourth S T (x ∷ xs) (y ∷ ys) (z ∷ zs) (w ∷ ws) f all also = (f x y z w all.0 also.0, with_fourth S T xs ys zs ws f all.1 also.1)
  with_fourth S T xs ys zs ws f all also = absurd all

  -- with another one for the first
  pub for_first : {W : Type 0} (L : X → W → Type 0) (T : W → Y → Z → Type 0) (xs : List X) (ys : List Y) (zs : List Z)
      (ws : List W) → ((x : X) (y : Y) (z : Z) (w : W) → R x y z → L x w → T w y z)
      → AllThree R xs ys zs → AllZip L xs ws → AllThree T ws ys zs
  for_first L T [] [] [] [] f all also = tt
  for_first L T [] [] [] (_ ∷ _) f all also = absurd also
  for_first L T (_ ∷ _) (_ ∷ _) (_ ∷ _) [] f all also = absurd also
  for_first L T (x ∷ xs) (y ∷ ys) (z ∷ zs) (w ∷ ws) f all also = (f x y z w all.0 also.0, for_first L T xs ys zs ws f all.1 also.1)
  for_first L T xs ys zs ws f all also = absurd all

  -- of the third and a fourth
  pub third_fourth : {W : Type 0} (S : X → Y → W → Type 0) (T : Z → W → Type 0) (xs : List X) (ys : List Y)
      (zs : List Z) (ws : List W) → ((x : X) (y : Y) (z : Z) (w : W) → R x y z → S x y w → T z w)
      → AllThree R xs ys zs → AllThree S xs ys ws → AllZip T zs ws
  third_fourth S T [] [] [] [] f all also = tt
  third_fourth S T [] [] [] (_ ∷ _) f all also = absurd also
  third_fourth S T (_ ∷ _) (_ ∷ _) (_ ∷ _) [] f all also = absurd also
  third_fourth S T (x ∷ xs) (y ∷ ys) (z ∷ zs) (w ∷ ws) f all also = (f x y z w all.0 also.0, third_fourth S T xs ys zs ws f all.1 also.1)
  third_fourth S T xs ys zs ws f all also = absurd all

-- ---- bytes that an input has

given_so : {S : Type 0} (left : S → Option (List ℕ)) (failures : S → ℕ) (old new : S) (bytes : List ℕ)
    (P : List ℕ → Type 0) → IsGiven (reader left failures old new) bytes → Gives (reader left failures old new) P
    → P bytes
given_so left failures old new bytes P given gives = let held : IfSome (Some bytes) P = subst (λ (l : Option (List ℕ)). IfSome l P) given gives in held

-- what is true of the bytes of an input, of these
pub of_given : {S : Type 0} (input : Reader S) (bytes : List ℕ) (P : List ℕ → Type 0) → IsGiven input bytes → Gives input P → P bytes
of_given input bytes P given gives = given_so input.left input.failures input.old input.new bytes P given gives

-- ---- INDEX of a content

pub tables_are : (o : Operations) (text : List ℕ) (all : List (List ℕ)) → IsIndexFile o text → IsIndexText text all → placed_of all ≡ index o
tables_are o text all file is =
    ap placed_of (one_list text all (whole_of o text file) is (whole_read o text file))
    ∙ placed_index o file.index.tables file.content file.index.each

-- what it holds
pub held_text : {S : Type 0} (input : Reader S) (text : List ℕ) (all : List (List ℕ)) → IsGiven input text → HoldsTables input all → IsIndexText text all
held_text input text all given holds = of_given input text (λ t. IsIndexText t all) given holds

pub held_tables : {S : Type 0} (input : Reader S) (o : Operations) (all : List (List ℕ)) → IsIndexGiven input o
    → HoldsTables input all → placed_of all ≡ index o
held_tables input o all (text, given, file) holds = tables_are o text all file (held_text input text all given holds)

pub entries_are : {S : Type 0} (input : Reader S) (o : Operations) (entries : Entries) → IsIndexGiven input o → HoldsIndex input entries → entries ≡ index o
entries_are input o entries of holds = holds.placed ∙ held_tables input o holds.all of holds.holds

-- the slices of such a content are under keys
pub have_keys : (o : Operations) (text : List ℕ) → IsIndexFile o text → HaveKeys o
have_keys o text file slice there valid = is_key_of slice valid (file.slices slice there)

-- ---- INDEX

no_refusal : (o : Operations) (text : List ℕ) (fault : IndexFault) → IsIndexFile o text
    → IsRefused IsIndexFault text fault → fault.kind ≢ IndexOutOfMemory → (why : Why) → why ≡ IndexFaulty fault
    → IsDeviceFault why
no_refusal o text fault file (inl (inl device, at)) other why is = subst IsDeviceFault (sym is) device
no_refusal o text fault file (inl (inr memory, at)) other why is = absurd (other memory)
no_refusal o text fault file (inr faulty) other why is = absurd (no_fault text (whole_of o text file) fault (whole_read o text file) faulty)

index_device : {S : Type 0} (left : S → Option (List ℕ)) (failures : S → ℕ) (old new : S) (o : Operations)
    (text : List ℕ) (why : Why) → IsIndexFile o text → IsGiven (reader left failures old new) text
    → IsUnreadIndex (reader left failures old new) why → IsDeviceFault why
index_device left failures old new o text why file given (fault, is, other, reads) = no_refusal o text fault file (reads.says text given) other why is

-- where some entries are read
no_part_fault : (o : Operations) (text : List ℕ) (fault : IndexFault) → IsIndexFile o text → IsPartFault text fault → ⊥
no_part_fault o text fault file (inl (inl beginning)) = no_fault text (whole_of o text file) fault (whole_read o text file) (inl beginning)
no_part_fault o text fault file (inl (inr end)) = no_fault text (whole_of o text file) fault (whole_read o text file) (inr (inl end))
no_part_fault o text fault file (inr (ends, inl (kind, offset, none))) = none (whole_of o text file) (whole_read o text file)
no_part_fault o text fault file (inr (ends, inr (number, offset, none))) = none (whole_of o text file) (whole_may o text file)

no_part_refusal : (o : Operations) (text : List ℕ) (fault : IndexFault) → IsIndexFile o text
    → IsRefused IsPartFault text fault → fault.kind ≢ IndexOutOfMemory → (why : Why) → why ≡ IndexFaulty fault
    → IsDeviceFault why
no_part_refusal o text fault file (inl (inl device, at)) other why is = subst IsDeviceFault (sym is) device
no_part_refusal o text fault file (inl (inr memory, at)) other why is = absurd (other memory)
no_part_refusal o text fault file (inr faulty) other why is = absurd (no_part_fault o text fault file faulty)

part_device : {S : Type 0} (left : S → Option (List ℕ)) (failures : S → ℕ) (old new : S) (o : Operations)
    (text : List ℕ) (why : Why) → IsIndexFile o text → IsGiven (reader left failures old new) text
    → IsUnreadPart (reader left failures old new) why → IsDeviceFault why
part_device left failures old new o text why file given (fault, is, other, reads) =
    no_part_refusal o text fault file (reads.says text given) other why is

-- ---- its archive

-- one that is not read by its index is refused for its device alone
unread_at_device : {S : Type 0} (IsRead : ℕ → Type 0) (archive : Reader S) (text : List ℕ) (why : Why)
    → IsGiven archive text → IsUnreadAt IsRead archive why → IsDeviceFault why
unread_at_device IsRead archive text (Record fault) given r = r.0
unread_at_device IsRead archive text why given r = absurd r

-- it has the length that the index tells
same_length : {P : Type 0} (archive : Reader P) (o : Operations) (size : ℕ) → length (written o) ≡ size
    → IsGiven archive (written o) → HasOtherLength archive size → ⊥
same_length archive o size long known other = of_given archive (written o) (λ t. length t ≢ size) known other long

other_length : {P : Type 0} (number : ℕ) (archive : Reader P) (size : ℕ) (o : Operations)
    (at : InputName) (why : Why) → IsGiven archive (written o) → length (written o) ≡ size
    → IsOfOtherLength number archive size at why → IsDeviceFault why
other_length number archive size o at why known long (inl (place, unread)) =
    unread_at_device (λ offset. offset ≡ 0) archive (written o) why known unread
other_length number archive size o at why known long (inr (place, unfailed, stale, other)) =
    absurd (same_length archive o size long known other)

pub by_device : {I P : Type 0} (number : ℕ) (input : Reader I) (archive : Reader P) (o : Operations) (at : InputName)
    (why : Why) → IsIndexGiven input o → IsGiven archive (written o) → IsRefusedByIndex number input archive at why
    → IsDeviceFault why
by_device number input archive o at why (text, given, file) known (inl (place, unread, untouched)) =
    index_device input.left input.failures input.old input.new o text why file given unread
by_device number input archive o at why (text, given, file) known (inr (entries, holds, unfailed, other)) =
    let is : entries ≡ index o = entries_are input o entries (text, given, file) holds in
    other_length number archive (17 + lengths_of entries) o at why known
    (right_length o file.content file.archive_fits ∙ ap (λ (s : Entries). 17 + lengths_of s) (sym is)) other

-- what was read of the index of a content
pub held_part : {S : Type 0} (input : Reader S) (uuids : List (List ℕ)) (text : List ℕ) (all : List (List ℕ)) (size : ℕ)
    → IsGiven input text → HoldsPart uuids input all size → IsPartOf uuids text all size
held_part input uuids text all size given holds = of_given input text (λ t. IsPartOf uuids t all size) given holds

pub by_part_device : {I P : Type 0} (uuids : List (List ℕ)) (number : ℕ) (input : Reader I) (archive : Reader P) (o : Operations)
    (at : InputName) (why : Why) → IsIndexGiven input o → IsGiven archive (written o) → IsRefusedByPart uuids number input archive at why
    → IsDeviceFault why
by_part_device uuids number input archive o at why (text, given, file) known (inl (place, unread, untouched)) =
    part_device input.left input.failures input.old input.new o text why file given unread
by_part_device uuids number input archive o at why (text, given, file) known (inr (all, size, holds, unfailed, other)) =
    let part = held_part input uuids text all size given holds in
    other_length number archive size o at why known (sym (part.size_is ∙ length_told o text file)) other

-- ---- no entry is stale

-- none of these prefixes is empty
abbrev pub AreSome : List (List ℕ) → Type 0
AreSome prefixes = AllByRecursion (λ (prefix : List ℕ). 0 < length prefix) prefixes

module _ (o : Operations) (text : List ℕ) (file : IsIndexFile o text) (passes : List ℕ → Bool) (part : List (List ℕ))
    (is : part ≡ only passes (whole_of o text file)) where
  same_number : length (placed_in part) ≡ length (listing (index o))
  same_number = length-map part (take 74) ∙ ap length is ∙ length-map (whole_of o text file) (kept passes)
      ∙ sym (length-map (whole_of o text file) (take 74)) ∙ ap length (placed_whole o text file)

  listed_at : (prefix : List ℕ) → 0 < length prefix → (k : ℕ) → is_under prefix (get_or (placed_in part) k []) ≡ true
      → get_or (placed_in part) k [] ≡ get_or (listing (index o)) k []
  listed_at prefix some k under =
      let same : get_or (placed_in part) k [] ≡ get_or (placed_in (only passes (whole_of o text file))) k [] =
      ap (λ (es : List (List ℕ)). get_or (placed_in es) k []) is in
      same ∙ at_kept passes prefix some (whole_of o text file) k (ap (is_under prefix) (sym same) ∙ under)
      ∙ ap (λ (es : List (List ℕ)). get_or es k []) (placed_whole o text file)

  pub none_unnamed : (prefixes : List (List ℕ)) → AreSome prefixes → (k : ℕ) → IsUnnamedUnder prefixes (placed_in part) (written o) k → ⊥
  none_unnamed prefixes some k (number, lt, before, stale) =
      let s = index o in
      let prefix = get_or prefixes number [] in
      let has : 0 < length prefix = All-from_recursion (λ (f : List ℕ). 0 < length f) prefixes some number [] lt in
      let it = get_or (listing s) k [] in
      let same : get_or (placed_in part) k [] ≡ it = listed_at prefix has k stale.under in
      let listed : list_any (eq_by_cmp order it) (listing s) ≡ true =
      list_any_at (eq_by_cmp order it) (listing s) k [] (omega (arith, stale.within, same_number)) (ap is_eq (tied_itself nat_list_cmp_total it)) in
      let member : set.contains s it ≡ true = sym (any_listing nat_list_cmp_total s it) ∙ listed in
      let named = named_there o it file.content file.archive_fits member in
      stale.unnamed named.0 (subst (λ (e : List ℕ). IsNamedBy (written o) e named.0) (sym same) named.1)

  not_stale : (prefixes : List (List ℕ)) → AreSome prefixes → (size : ℕ) → length (written o) ≡ size → (entry : Option ℕ)
      → IsStaleUnder prefixes (placed_in part) size (written o) entry → ⊥
  not_stale prefixes some size long None stale = stale long
  not_stale prefixes some size long (Some k) stale = none_unnamed prefixes some k stale.1

  pub at_places : {P : Type 0} (prefixes : List (List ℕ)) → AreSome prefixes → (number : ℕ) (archive : Reader P) (size : ℕ)
      → length (written o) ≡ size → (at : InputName) (why : Why) → IsGiven archive (written o)
      → IsRefusedAtPlaces prefixes number archive part size at why → IsDeviceFault why
  at_places prefixes some number archive size long at why known (inl (place, unread)) =
      unread_at_device (IsReadFor prefixes (placed_in part)) archive (written o) why known unread
  at_places prefixes some number archive size long at why known (inr (place, unfailed, (entry, why_is, stale))) =
      absurd (not_stale prefixes some size long entry
      (of_given archive (written o) (λ t. IsStaleUnder prefixes (placed_in part) size t entry) known stale))

-- ---- an archive from a later state on

kept_bytes : {S : Type 0} (left : S → Option (List ℕ)) (failures : S → ℕ) (old later new after : S) (bytes : List ℕ)
    → IsKept left failures old later → IsGiven (reader left failures old new) bytes
    → IsGiven (reader left failures later after) bytes
kept_bytes left failures old later new after bytes kept given = kept.0 ∙ given

pub still_given : {S : Type 0} (first later : Reader S) (bytes : List ℕ) → IsLater first later → IsGiven first bytes → IsGiven later bytes
still_given first later bytes is given =
    subst (λ left. IsGiven (reader left later.failures later.old later.new) bytes) (sym is.left_is)
    (kept_bytes first.left first.failures first.old later.old first.new later.new bytes is.kept given)

-- ---- several

-- of the entries of the index of a content these were read, and the archive is its text
pub record IsOwnRead {P : Type 0} (uuids : List (List ℕ)) (archive : Reader P) (all : List (List ℕ)) (o : Operations) : Type 0 where
  pub text : List ℕ
  pub file : IsIndexFile o text
  pub part : all ≡ only (is_under_one uuids) (whole_of o text file)
  pub known : IsGiven archive (written o)

pub own_read : {I P : Type 0} (uuids : List (List ℕ)) (index : Reader I) (archive : Reader P) (o : Operations) (all : List (List ℕ))
    → IsOwnIndex index archive o → IsReadWith uuids index archive all → IsOwnRead uuids archive all o
own_read uuids index archive o all ((text, given, file), known) read =
    record {
      text = text;
      file = file;
      part = part_of o text file uuids all (held_part index uuids text all read.size given read.index_is).read;
      known = known;
    }

own_later : {P : Type 0} (uuids : List (List ℕ)) (archive : Reader P) (all : List (List ℕ)) (o : Operations) (later : Reader P)
    → IsOwnRead uuids archive all o → IsLater archive later → IsOwnRead uuids later all o
own_later uuids archive all o later own is = record {
  text = own.text;
  file = own.file;
  part = own.part;
  known = still_given archive later (written o) is own.known;
}

-- the text of a content has the length that was told
abbrev IsLong : ℕ → List (List ℕ) → Operations → Type 0
IsLong size all o = length (written o) ≡ size

module _ {I P : Type 0} (uuids prefixes : List (List ℕ)) (inputs : List (Reader I)) (archives : List (Reader P))
    (os : List Operations) (at : InputName) (why : Why) (are : AreOwnIndexes inputs archives os) where
  pub first_by_device : IsFirstRefusedByIndex uuids inputs archives at why → IsDeviceFault why
  first_by_device r =
      let found = three_at IsOwnIndex inputs archives os r.number r.index r.archive are r.index_is.is r.archive_is.is in
      by_part_device uuids r.number r.index r.archive found.0 at why found.1.0 found.1.1 r.refused

  pub later_by_device : AreSome prefixes → AreRefusedLater uuids prefixes inputs archives at why → IsDeviceFault why
  later_by_device some r =
      let own = with_fourth IsOwnIndex (IsReadWith uuids) (IsOwnRead uuids) inputs archives os r.all
      (λ x y z w is read. own_read uuids x y z w is read) are r.read in
      let there = for_first (IsOwnRead uuids) IsLater (IsOwnRead uuids) archives r.all os r.later
      (λ x y z w is later. own_later uuids x y z w is later) own r.are_later in
      let long = for_first (IsOwnRead uuids) HasLength IsLong archives r.all os r.sizes
      (λ x y z w is has. of_given x (written z) (λ t. length t ≡ w) is.known has) own r.lengths in
      let found = three_there (IsOwnRead uuids) r.later r.all os r.refused.number r.refused.archive r.refused.entries there
      r.refused.archive_is.is r.refused.entries_are in
      let told = three_there IsLong r.sizes r.all os r.refused.number r.refused.size r.refused.entries long r.refused.size_is r.refused.entries_are in
      let same : told.0 ≡ found.0 = cc (told.1, found.1) in
      at_places found.0 found.2.text found.2.file (is_under_one uuids) r.refused.entries found.2.part prefixes some
      r.refused.number r.refused.archive r.refused.size (subst (λ (w : Operations). length (written w) ≡ r.refused.size) same told.2) at why
      found.2.known r.refused.refused

  pub together_by_device : AreSome prefixes → AreRefusedTogether uuids prefixes inputs archives at why → IsDeviceFault why
  together_by_device some (inl first) = first_by_device first
  together_by_device some (inr later) = later_by_device some later
