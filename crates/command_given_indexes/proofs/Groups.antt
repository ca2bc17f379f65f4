-- Indexes and their archives, one more of which was read.
use Rattle.std.proofs.Common.{arith, ◌≡◌, ℕ, zero, suc, ◌+◌, ◌<◌, List, [], ◌∷◌, ◌++◌, length, map, take, drop, get_or, set}
use Rattle.std.proofs.Common.{Option, Some, Result, Ok, Err, refl, sym, ap, ◌∙◌, subst, inl, inr}
use Rattle.std.specs.Prelude.{slice_get}
use Rattle.std.specs.FinSet as sets
use Rattle.std.proofs.Math.ListN.{length-set}
use Rattle.std.proofs.lemmas.List.{get_or-set_same}
use Rattle.std.proofs.lemmas.List.Sums.{fold-append}
use Rattle.std.proofs.lemmas.Option.{slice_get-get_or, slice_get_read}
use Rattle.archive_core.specs.Content.{Operations}
use Rattle.command_common.specs.Archives.{merged}
use Rattle.command_common.specs.Inputs.{Reader, reader, readers, EachUnfailed, IsRefusal, ReadsInputs, Unfailed}
use Rattle.command_common.specs.declared.faults.CommandFault.{CommandFault}
use Rattle.command_common.specs.declared.faults.CommandFault.TheVariants.{Input, OutOfMemory}
use Rattle.command_common.specs.declared.faults.InputName.{InputName}
use Rattle.command_common.specs.declared.faults.InputName.TheVariants.{Archive as ArchivePlace}
use Rattle.command_common.specs.declared.faults.Why.{Why}
use Rattle.command_common.specs.declared.faults.Why.TheVariants.{Record}
use Rattle.command_common.proofs.Readers.{all_take, pairs_long, pairs_more, readers_long, rest_kept, set_one, unfailed_more, untouched_behind}
use Rattle.index_format.specs.Text.{placed_in}
use Rattle.byte_device.specs.Devices.{FailsWithin}
use Rattle.command_given_indexes.specs.Prefixes.{FailsAt, FailsFor, HasLength, HoldsNamed, TellsPlace}
use Rattle.command_given_indexes.specs.Indexes.{IsRefusedByPart}
use Rattle.command_given_indexes.specs.InnerParts.{HaveJoinedGroups, IsNamedIn}
use Rattle.command_given_indexes.specs.Several.{AreRefusedLater, AreRefusedTogether, AreUnfailedTogether, HoldTogether}
use Rattle.command_given_indexes.specs.Together.{AllThree, AreAllKept, AreLater, AreNamedBy, AreReadWith, HoldNamed}
use Rattle.command_given_indexes.specs.Together.{IsFirstRefusedAtPlaces, IsFirstRefusedByIndex, IsKept, IsOneOf}
use Rattle.command_given_indexes.specs.Together.{HaveLengths, HaveSameBytes, IsReadWith, IsRefusedAtPlaces}

three_more : {X Y Z : Type 0} (R : X → Y → Z → Type 0) (xs : List X) (ys : List Y) (zs : List Z) (x : X) (y : Y) (z : Z)
    → AllThree R xs ys zs → R x y z → AllThree R (xs ++ x ∷ []) (ys ++ y ∷ []) (zs ++ z ∷ [])
three_more R [] [] [] x y z all one = (one, tt)
three_more R (a ∷ xs) (b ∷ ys) (c ∷ zs) x y z all one = (all.0, three_more R xs ys zs x y z all.1 one)
three_more R xs ys zs x y z all one = absurd all

three_long : {X Y Z : Type 0} (R : X → Y → Z → Type 0) (xs : List X) (ys : List Y) (zs : List Z) → AllThree R xs ys zs → length zs ≡ length ys
three_long R [] [] [] all = refl
three_long R (_ ∷ xs) (_ ∷ ys) (_ ∷ zs) all = ap suc (three_long R xs ys zs all.1)
three_long R xs ys zs all = absurd all

-- as many indexes are read as there are archives
pub as_many : {I P : Type 0} (uuids : List (List ℕ)) (indexes : List (Reader I)) (whole : P → Option (List ℕ)) (failures : P → ℕ) (before seen : List P)
    (all : List (List (List ℕ))) → AreReadWith uuids indexes (readers whole failures before seen) all → length seen ≡ length before → length all ≡ length seen
as_many uuids indexes whole failures before seen all read long =
    three_long (IsReadWith uuids) indexes (readers whole failures before seen) all read ∙ readers_long whole failures before seen long ∙ sym long

-- and as many lengths
pub as_many_lengths : {P : Type 0} (whole : P → Option (List ℕ)) (failures : P → ℕ) (before seen : List P) (sizes : List ℕ)
    → HaveLengths (readers whole failures before seen) sizes → length seen ≡ length before → length sizes ≡ length seen
as_many_lengths whole failures before seen sizes long_each long =
    pairs_long HasLength (readers whole failures before seen) sizes long_each ∙ readers_long whole failures before seen long ∙ sym long

-- ---- indexes that were read with their archives

pub lengths_more : {P : Type 0} (archives seen_archives : List (Reader P)) (sizes every : List ℕ) (archive : Reader P) (size : ℕ)
    → seen_archives ≡ archives ++ archive ∷ [] → every ≡ sizes ++ size ∷ [] → HaveLengths archives sizes → HasLength archive size
    → HaveLengths seen_archives every
lengths_more {P} archives seen_archives sizes every archive size archives_are sizes_are before one =
    subst (λ (ones : List (Reader P)). HaveLengths ones every) (sym archives_are)
    (subst (λ (ns : List ℕ). HaveLengths (archives ++ archive ∷ []) ns) (sym sizes_are)
    (pairs_more HasLength archives sizes archive size before one))

pub read_more : {I P : Type 0} (uuids : List (List ℕ)) (indexes seen_indexes : List (Reader I)) (archives seen_archives : List (Reader P))
    (all every : List (List (List ℕ))) (index : Reader I) (archive : Reader P) (entries : List (List ℕ))
    → seen_indexes ≡ indexes ++ index ∷ [] → seen_archives ≡ archives ++ archive ∷ [] → every ≡ all ++ entries ∷ []
    → AreReadWith uuids indexes archives all → IsReadWith uuids index archive entries
    → AreReadWith uuids seen_indexes seen_archives every
read_more {I} {P} uuids indexes seen_indexes archives seen_archives all every index archive entries indexes_are archives_are all_are before one =
    subst (λ (is : List (Reader I)). AreReadWith uuids is seen_archives every) (sym indexes_are)
    (subst (λ (ones : List (Reader P)). AreReadWith uuids (indexes ++ index ∷ []) ones every) (sym archives_are)
    (subst (λ (es : List (List (List ℕ))). AreReadWith uuids (indexes ++ index ∷ []) (archives ++ archive ∷ []) es) (sym all_are)
    (three_more (IsReadWith uuids) indexes archives all index archive entries before one)))

-- ---- groups of contents, one for each archive

module _ {P : Type 0} (prefixes : List (List ℕ)) where
  pub groups_none : (o : Operations) → HaveJoinedGroups {P = P} prefixes [] [] o o
  groups_none o = record { groups = []; named = tt; content = refl }

  pub groups_more : (archives seen : List (Reader P)) (all every : List (List (List ℕ))) (archive : Reader P) (entries : List (List ℕ)) (o mid new : Operations)
      → seen ≡ archives ++ archive ∷ [] → every ≡ all ++ entries ∷ [] → HaveJoinedGroups prefixes archives all o mid
      → IsNamedIn archive prefixes (placed_in entries) mid new → HaveJoinedGroups prefixes seen every o new
  groups_more archives seen all every archive entries o mid new archives_are all_are h j = record {
    groups = h.groups ++ j.parts ∷ [];
    named = subst (λ (ones : List (Reader P)). AreNamedBy prefixes ones every (h.groups ++ j.parts ∷ [])) (sym archives_are)
        (subst (λ (es : List (List (List ℕ))). AreNamedBy prefixes (archives ++ archive ∷ []) es (h.groups ++ j.parts ∷ [])) (sym all_are)
        (three_more (λ (a : Reader P) (es : List (List ℕ)) (ps : List Operations). HoldsNamed prefixes a (placed_in es)
        ps) archives all h.groups archive entries j.parts h.named j.named));
    content = j.content ∙ ap (λ (m : Operations). merged m j.parts) h.content ∙ sym (fold-append merged o h.groups (j.parts ∷ []));
  }

  -- what was joined to nothing
  pub all_held : (archives : List (Reader P)) (all : List (List (List ℕ))) (none p : Operations) → none ≡ sets.empty
      → HaveJoinedGroups prefixes archives all none p → HoldNamed prefixes archives all p
  all_held archives all none p is h =
      let from_none = subst (λ (o : Operations). HaveJoinedGroups prefixes archives all o p) is h in
      record { groups = from_none.groups; named = from_none.named; content_is = from_none.content }

-- ---- one of a list

module _ {S : Type 0} (left : S → Option (List ℕ)) (failures : S → ℕ) where
  abbrev between : List S → List S → List (Reader S)
  between old now = readers left failures old now

  pub front_kept : (old now : List S) (place : ℕ) (after : S) → take place (between old (set now place after)) ≡ take place (between old now)
  front_kept (x ∷ xs) (y ∷ ys) (suc place) after = ap (λ (rs : List (Reader S)). reader left failures x y ∷ rs) (front_kept xs ys place after)
  front_kept old now place after = refl

  pub one_of : (old now : List S) (place : ℕ) (file after : S) → place < length old → length now ≡ length old → file
      ≡ get_or old place file → drop place now ≡ drop place old → EachUnfailed (between old now)
      → IsOneOf (between old (set now place after)) place (reader left failures file after)
  one_of old now place file after lt long is rest each =
      let x = reader left failures file after in
      let seen = between old now in
      let set_is = set_one left failures old now place file after lt long is in
      let within : place < length seen = subst (λ (n : ℕ). place < n) (sym (readers_long left failures old now long)) lt in
      let within_set : place < length (set seen place x) = subst (λ (n : ℕ). place < n) (sym (length-set seen place x)) within in
      record {
        unfailed = subst (λ (rs : List (Reader S)). EachUnfailed rs) (sym (front_kept old now place after))
            (all_take (λ (r : Reader S). Unfailed r) place seen each);
        is = ap (λ (rs : List (Reader S)). slice_get rs place) set_is
            ∙ slice_get-get_or (set seen place x) place x within_set ∙ ap Some (get_or-set_same seen place x x within);
        behind = untouched_behind left failures old (set now place after) (place + 1) (rest_kept now old place after rest);
      }

  -- one more was read, which has the same bytes
  pub bytes_more : (now : List S) (place : ℕ) (file after : S) → file ≡ get_or now place file → left after ≡ left file
      → HaveSameBytes left now (set now place after)
  bytes_more [] place file after is same = refl
  bytes_more (y ∷ ys) zero file after is same = ap (λ (b : Option (List ℕ)). b ∷ map left ys) (same ∙ ap left is)
  bytes_more (y ∷ ys) (suc place) file after is same =
      ap (λ (bs : List (Option (List ℕ))). left y ∷ bs) (bytes_more ys place file after is same)

  -- ---- which are kept

  kept_itself : (input : S) → IsKept left failures input input
  kept_itself input = (refl, refl)

  pub kept_none : (inputs : List S) → AreAllKept left failures inputs inputs
  kept_none [] = tt
  kept_none (input ∷ inputs) = (kept_itself input, kept_none inputs)

  pub kept_more : (old now : List S) (place : ℕ) (file after : S) → place < length old → file ≡ get_or old place file
      → AreAllKept left failures old now → IsKept left failures file after
      → AreAllKept left failures old (set now place after)
  kept_more [] now place file after lt is all one = absurd (omega (arith, lt))
  kept_more (x ∷ xs) [] place file after lt is all one = absurd all
  kept_more (x ∷ xs) (y ∷ ys) zero file after lt is all one = (subst (λ (f : S). IsKept left failures f after) is one, all.1)
  kept_more (x ∷ xs) (y ∷ ys) (suc place) file after lt is all one =
      let shorter : place < length xs = omega (arith, lt) in
      (all.0, kept_more xs ys place file after shorter is all.1 one)

  -- ---- and read once more

  pub later_readers : (old mid new : List S) → length new ≡ length mid → AreAllKept left failures old mid → AreLater (between old new) (between mid new)
  later_readers [] [] new long all = tt
  later_readers (x ∷ xs) (y ∷ ys) [] long all = absurd (omega (arith, long))
  later_readers (x ∷ xs) (y ∷ ys) (z ∷ zs) long all =
      let rest : length zs ≡ length ys = omega (arith, long) in
      (record { left_is = refl; failures_is = refl; new_is = refl; kept = all.0 }, later_readers xs ys zs rest all.1)
  later_readers old mid new long all = absurd all

  pub unfailed_through : (old mid new : List S) → length mid ≡ length old → length new ≡ length old
      → EachUnfailed (between old mid) → EachUnfailed (between mid new) → EachUnfailed (between old new)
  unfailed_through [] mid new long more first second = tt
  unfailed_through (x ∷ xs) [] new long more first second = absurd (omega (arith, long))
  unfailed_through (x ∷ xs) (y ∷ ys) [] long more first second = absurd (omega (arith, more))
  unfailed_through (x ∷ xs) (y ∷ ys) (z ∷ zs) long more first second =
      let here : failures z ≡ failures x = second.0 ∙ first.0 in
      let rest : length ys ≡ length xs = omega (arith, long) in
      let rest_more : length zs ≡ length xs = omega (arith, more) in
      (here, unfailed_through xs ys zs rest rest_more first.1 second.1)

  -- what was read with the first states was so whatever the last are
  pub read_earlier : {I : Type 0} (uuids : List (List ℕ)) (indexes : List (Reader I)) (old mid new : List S) (all : List (List (List ℕ)))
      → length mid ≡ length old → length new ≡ length old → AreReadWith uuids indexes (between old mid) all
      → AreReadWith uuids indexes (between old new) all
  read_earlier uuids indexes [] mid new all long more read = read
  read_earlier uuids indexes (x ∷ xs) [] new all long more read = absurd (omega (arith, long))
  read_earlier uuids indexes (x ∷ xs) (y ∷ ys) [] all long more read = absurd (omega (arith, more))
  read_earlier uuids (index ∷ indexes) (x ∷ xs) (y ∷ ys) (z ∷ zs) (entries ∷ all) long more read =
      let rest : length ys ≡ length xs = omega (arith, long) in
      let rest_more : length zs ≡ length xs = omega (arith, more) in
      (record { size = read.0.size; index_is = read.0.index_is; archive_is = read.0.archive_is }, read_earlier uuids indexes xs ys zs all rest rest_more read.1)
  read_earlier uuids indexes old mid new all long more read = absurd read

  pub lengths_earlier : (old mid new : List S) (sizes : List ℕ) → length mid ≡ length old → length new ≡ length old
      → HaveLengths (between old mid) sizes → HaveLengths (between old new) sizes
  lengths_earlier [] mid new sizes long more each = each
  lengths_earlier (x ∷ xs) [] new sizes long more each = absurd (omega (arith, long))
  lengths_earlier (x ∷ xs) (y ∷ ys) [] sizes long more each = absurd (omega (arith, more))
  lengths_earlier (x ∷ xs) (y ∷ ys) (z ∷ zs) [] long more each = each
  lengths_earlier (x ∷ xs) (y ∷ ys) (z ∷ zs) (n ∷ ns) long more each =
      let rest : length ys ≡ length xs = omega (arith, long) in
      let rest_more : length zs ≡ length xs = omega (arith, more) in
      (each.0, lengths_earlier xs ys zs ns rest rest_more each.1)

-- ---- one of the indexes, or its archive, is refused

module _ {I P : Type 0} (uuids : List (List ℕ)) (left : I → Option (List ℕ)) (failures : I → ℕ) (whole : P → Option (List ℕ)) (failures_at : P → ℕ)
    (old now : List I) (before seen : List P) (place : ℕ) (file after : I) (archive later : P)
    (lt : place < length old) (long : length now ≡ length old) (is : file ≡ get_or old place file)
    (rest : drop place now ≡ drop place old) (each : EachUnfailed (readers left failures old now))
    (lt_at : place < length before) (long_at : length seen ≡ length before)
    (is_at : archive ≡ get_or before place archive) (rest_at : drop place seen ≡ drop place before)
    (each_at : EachUnfailed (readers whole failures_at before seen)) where
  abbrev indexes : List (Reader I)
  indexes = readers left failures old (set now place after)

  abbrev archives : List (Reader P)
  archives = readers whole failures_at before (set seen place later)

  pub pair_refused : (all : List (List (List ℕ))) (fault : CommandFault)
      → AreReadWith uuids (take place (readers left failures old now)) (take place (readers whole failures_at before seen))
      all
      → IsRefusal (IsRefusedByPart uuids place (reader left failures file after) (reader whole failures_at archive later))
      (Unfailed (reader left failures file after) × Unfailed (reader whole failures_at archive later)) fault
      → IsRefusal (IsFirstRefusedByIndex uuids indexes archives) (EachUnfailed indexes × EachUnfailed archives) fault
  pair_refused all (Input at why) read r = record {
    number = place;
    all = all;
    before = subst (λ (is : List (Reader I)). AreReadWith uuids is (take place archives) all) (sym (front_kept left failures old now place after))
        (subst (λ (ones : List (Reader P)). AreReadWith uuids (take place (readers left failures old now)) ones all)
        (sym (front_kept whole failures_at before seen place later)) read);
    index = reader left failures file after;
    archive = reader whole failures_at archive later;
    index_is = one_of left failures old now place file after lt long is rest each;
    archive_is = one_of whole failures_at before seen place archive later lt_at long_at is_at rest_at each_at;
    refused = r;
  }
  pair_refused all OutOfMemory read r = (
    unfailed_more left failures old now place file after lt long is each r.0,
    unfailed_more whole failures_at before seen place archive later lt_at long_at is_at each_at r.1,
  )
  pair_refused all fault read r = absurd r

-- ---- one of the archives is refused

module _ {P : Type 0} (whole : P → Option (List ℕ)) (failures : P → ℕ) (prefixes : List (List ℕ)) (all : List (List (List ℕ)))
    (sizes : List ℕ) (before seen : List P) (place : ℕ) (archive later : P) (entries : List (List ℕ)) (size : ℕ)
    (lt : place < length before) (long : length seen ≡ length before) (is : archive ≡ get_or before place archive)
    (rest : drop place seen ≡ drop place before) (each : EachUnfailed (readers whole failures before seen))
    (few : place < length all) (entries_are : entries ≡ get_or all place entries)
    (enough : place < length sizes) (size_is : size ≡ get_or sizes place 0) where
  abbrev ones : List (Reader P)
  ones = readers whole failures before (set seen place later)

  pub one_refused : (o mid : Operations) (fault : CommandFault)
      → HaveJoinedGroups prefixes (take place (readers whole failures before seen)) (take place all) o mid
      → IsRefusal (IsRefusedAtPlaces prefixes place (reader whole failures archive later) entries size) (Unfailed (reader whole failures archive later)) fault
      → IsRefusal (IsFirstRefusedAtPlaces prefixes ones all sizes) (EachUnfailed ones) fault
  one_refused o mid (Input at why) h r = record {
    number = place;
    groups = h.groups;
    before = subst (λ (rs : List (Reader P)). AreNamedBy prefixes rs (take place all) h.groups)
        (sym (front_kept whole failures before seen place later)) h.named;
    archive = reader whole failures archive later;
    archive_is = one_of whole failures before seen place archive later lt long is rest each;
    entries = entries;
    entries_are = slice_get_read all (length all) place entries refl few entries_are;
    size = size;
    size_is = slice_get-get_or sizes place 0 enough ∙ ap Some (sym size_is);
    refused = r;
  }
  one_refused o mid OutOfMemory h r = unfailed_more whole failures before seen place archive later lt long is each r
  one_refused o mid fault h r = absurd r

-- the place of one of them is that among all
pub place_in_all : {P : Type 0} (whole : P → Option (List ℕ)) (failures : P → ℕ) (unread : P → P → ℕ → Type 0)
    (unmeasured : P → P → Type 0) (prefixes : List (List ℕ)) (all : List (List (List ℕ))) (before seen : List P) (place : ℕ)
    (archive later : P) (entries : List (List ℕ)) → place < length before → length seen ≡ length before
    → archive ≡ get_or before place archive → place < length all → entries ≡ get_or all place entries → (fault : CommandFault)
    → TellsPlace (λ named offset. (named ≡ place) × FailsFor (unmeasured archive later)
    (FailsWithin whole failures unread archive later) prefixes (placed_in entries) offset) fault
    → TellsPlace (FailsAt whole failures unread unmeasured prefixes before (set seen place later) all) fault
place_in_all whole failures unread unmeasured prefixes all before seen place archive later entries lt long is few entries_are (Input at why) h =
    by at why h
  where
    there : (number offset : ℕ) → number ≡ place → FailsFor (unmeasured archive later) (FailsWithin whole failures unread archive later)
        prefixes (placed_in entries) offset
        → FailsAt whole failures unread unmeasured prefixes before (set seen place later) all number offset
    there number offset same fails = subst (λ (n : ℕ). FailsAt whole failures unread unmeasured prefixes before (set seen place later) all n offset)
        (sym same) (record {
          old = archive;
          new = later;
          entries = entries;
          old_is = slice_get_read before (length before) place archive refl lt is;
          new_is = slice_get-get_or (set seen place later) place later (omega (arith, lt, long, length-set seen place later))
              ∙ ap Some (get_or-set_same seen place later later (omega (arith, lt, long)));
          entries_are = slice_get_read all (length all) place entries refl few entries_are;
          fails = fails;
        })

    by : (name : InputName) (reason : Why) → TellsPlace (λ named offset. (named ≡ place) × FailsFor (unmeasured archive later)
        (FailsWithin whole failures unread archive later) prefixes (placed_in entries) offset) (Input name reason)
        → TellsPlace (FailsAt whole failures unread unmeasured prefixes before (set seen place later) all) (Input name reason)
    by (ArchivePlace number) (Record fault) h = there number fault.offset h.0 h.1
    by name reason h = tt
place_in_all whole failures unread unmeasured prefixes all before seen place archive later entries lt long is few entries_are fault h = tt

-- ---- all of them

-- indexes, which were read and are not read any more, or one of which was refused with its archive
pub first_refused : {I P : Type 0} (uuids prefixes : List (List ℕ)) (indexes : List (Reader I)) (archives : List (Reader P))
    (fault : CommandFault) → IsRefusal (IsFirstRefusedByIndex uuids indexes archives)
    (EachUnfailed indexes × EachUnfailed archives) fault
    → IsRefusal (AreRefusedTogether uuids prefixes indexes archives) (AreUnfailedTogether indexes archives) fault
first_refused uuids prefixes indexes archives (Input at why) r = inl r
first_refused uuids prefixes indexes archives OutOfMemory r = r
first_refused uuids prefixes indexes archives fault r = absurd r

module _ {I P : Type 0} (uuids prefixes : List (List ℕ)) (indexes : List (Reader I)) (whole : P → Option (List ℕ))
    (failures : P → ℕ) (old mid new : List P) (all : List (List (List ℕ))) (sizes : List ℕ)
    (long : length mid ≡ length old) (more : length new ≡ length old)
    (read : AreReadWith uuids indexes (readers whole failures old mid) all)
    (lengths : HaveLengths (readers whole failures old mid) sizes)
    (unfailed : EachUnfailed indexes × EachUnfailed (readers whole failures old mid))
    (kept : AreAllKept whole failures old mid) where
  abbrev known : List (Reader P)
  known = readers whole failures old new

  abbrev later : List (Reader P)
  later = readers whole failures mid new

  as_long : length new ≡ length mid
  as_long = more ∙ sym long

  refused_later : (fault : CommandFault) → IsRefusal (IsFirstRefusedAtPlaces prefixes later all sizes) (EachUnfailed later)
      fault → IsRefusal (AreRefusedTogether uuids prefixes indexes known) (AreUnfailedTogether indexes known) fault
  refused_later (Input at why) r =
      let told : AreRefusedLater uuids prefixes indexes known at why = record {
        all = all;
        read = read_earlier whole failures uuids indexes old mid new all long more read;
        sizes = sizes;
        lengths = lengths_earlier whole failures old mid new sizes long more lengths;
        unfailed = unfailed.0;
        later = later;
        are_later = later_readers whole failures old mid new as_long kept;
        refused = r;
      } in
      inr told
  refused_later OutOfMemory r = (unfailed.0, unfailed_through whole failures old mid new long more unfailed.1 r)
  refused_later fault r = absurd r

  held_later : (p : Operations) → HoldNamed prefixes later all p → HoldTogether uuids prefixes indexes known p
  held_later p named = record {
    all = all;
    read = read_earlier whole failures uuids indexes old mid new all long more read;
    later = later;
    are_later = later_readers whole failures old mid new as_long kept;
    named = named;
  }

  unfailed_later : EachUnfailed later → AreUnfailedTogether indexes known
  unfailed_later r = (unfailed.0, unfailed_through whole failures old mid new long more unfailed.1 r)

  -- what comes of reading the archives once more is what comes of all
  pub reads_later : {T : Type 0} (content : T → Operations) (r : Result T CommandFault)
      → ReadsInputs r (λ kept. HoldNamed prefixes later all (content kept)) (IsFirstRefusedAtPlaces prefixes later all sizes)
      (EachUnfailed later)
      → ReadsInputs r (λ kept. HoldTogether uuids prefixes indexes known (content kept))
      (AreRefusedTogether uuids prefixes indexes known) (AreUnfailedTogether indexes known)
  reads_later content (Ok kept) r = record { is = held_later (content kept) r.is; unfailed = unfailed_later r.unfailed }
  reads_later content (Err fault) r = refused_later fault r
