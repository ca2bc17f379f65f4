-- How `extract` chooses a slice by indexes and sends it, from what its parts did.
use Rattle.std.proofs.Common.{◌≡◌, ℕ, ◌<◌, List, [], ◌∷◌, length, get_or, set, Option, Some, None, Result, Ok, Err, refl, sym, ◌∙◌, subst, inl, inr, arith}
use Rattle.std.specs.List.{AllZip}
use Rattle.std.proofs.lemmas.Option.{slice_get_within}
use Rattle.std.proofs.lemmas.Slice.Zip.{AllZip-long}
use Rattle.archive_core.specs.Content.{Operations}
use Rattle.archive_core.specs.Key.{key_bytes}
use Rattle.archive_core.specs.declared.find.FindRow.{FindRow}
use Rattle.archive_core.specs.declared.keys.Digest.{Digest}
use Rattle.archive_core.specs.declared.keys.SliceKey.{SliceKey}
use Rattle.text_reports.specs.Finds.{find_lines}
use Rattle.command_common.specs.Inputs.{EachUnfailed, IsRefusal, Reader, Unfailed, reader, readers}
use Rattle.command_common.specs.Outputs.{Writer}
use Rattle.command_common.specs.declared.faults.CommandFault.{CommandFault}
use Rattle.command_common.specs.declared.faults.CommandFault.TheVariants.{Input, Output, Report, OutOfMemory}
use Rattle.command_common.proofs.Readers.{none_failed, unfailed_more}
use Rattle.command_common.proofs.Parts.{refusal_of}
use Rattle.index_lookup.specs.Among.{AreTied, EntryAt, IsAmong}
use Rattle.index_lookup.specs.Named.{IsRowAt}
use Rattle.index_lookup.specs.declared.named.NamedSlice.{NamedSlice}
use Rattle.command_given_indexes.specs.Several.{AreRefusedLater, AreUnfailedTogether, HoldTogether}
use Rattle.command_given_indexes.specs.Together.{AreAllKept, AreLater, AreReadWith, HaveLengths, HoldNamed}
use Rattle.command_given_indexes.specs.Together.{IsFirstRefusedAtPlaces, IsFirstRefusedByIndex, IsKept, IsOneOf}
use Rattle.command_given_indexes.proofs.Groups.{as_many, later_readers, lengths_earlier, one_of, read_earlier, unfailed_through}
use Rattle.command_extract.specs.Entries.{AreUnchosen, IsChosen, StopsSlice}
use Rattle.command_extract.specs.Evidence.{Chooses, IsChosenFor, IsStoppedSending, LacksSlices, Sends, StopsBefore}
use Rattle.command_extract.specs.Extract.{Extraction}
use Rattle.command_extract.specs.Indexed.{HoldTied, IsChosenFrom, IsFoundAt, IsNamedBy, LacksEntry, MakesEntry, StopsEntry, extract_at}
use Rattle.command_extract.specs.InnerEntries.{SendsFrom}
use Rattle.command_extract.specs.InnerSteps.{ChoosesAt, ChoosesIn, ChoosesNone, ChoosesTied, IsKeptChoice}
use Rattle.command_extract.specs.Kept.{KeepsWanted}
use Rattle.command_extract.specs.Wanted.{line_of}
use Rattle.command_extract.specs.declared.choice.Choice.{Choice}
use Rattle.command_extract.specs.declared.choice.Choice.TheVariants.{One, Undecided}
use Rattle.command_extract.specs.declared.place.Place.{Place}
use Rattle.command_extract.specs.declared.place.Place.TheVariants.{Kept, Named}
use Rattle.command_extract.proofs.Extracted.{keeps_none, keeps_wanted}
use Rattle.command_extract.proofs.Sent.{same_line}

-- the entry that is chosen stands among all
chosen_among : (key : SliceKey) (digest : Option Digest) (all : List (List (List ℕ))) (x : EntryAt) → IsChosen key digest all x → IsAmong all x
chosen_among key None all x is = is.among 0 x (omega arith)
chosen_among key (Some digest) all x is = is.among

-- so that its archive does
pub archive_there : (key : SliceKey) (digest : Option Digest) (all : List (List (List ℕ))) (x : EntryAt) → IsChosen key digest all x → x.input < length all
archive_there key digest all x is = let among = chosen_among key digest all x is in slice_get_within all x.input among.entries among.index_is

-- also where it was chosen before
pub named_there : {I P : Type 0} (indexes : List (Reader I)) (whole : P → Option (List ℕ)) (failures : P → ℕ) (before seen : List P)
    (key : SliceKey) (digest : Option Digest) (named : NamedSlice) → IsNamedBy indexes whole failures before seen key digest named
    → named.input < length seen
named_there indexes whole failures before seen key digest named by =
    let long = AllZip-long (IsKept whole failures) before seen by.kept in
    let many = as_many (key.uuid ∷ []) indexes whole failures before seen by.all by.read long in
    omega (arith, archive_there key digest by.all by.x by.chosen, many, by.names.input_is)

-- an index was refused
pub refused_first : {I P : Type 0} (indexes : List (Reader I)) (archives : List (Reader P)) (key : SliceKey)
    (digest : Option Digest) (fault : CommandFault) (uuid : List ℕ) → uuid ≡ key.uuid
    → IsRefusal (IsFirstRefusedByIndex (uuid ∷ []) indexes archives) (EachUnfailed indexes × EachUnfailed archives) fault
    → IsRefusal (λ at why. StopsBefore (extract_at indexes archives key digest) (Input at why))
    (StopsBefore (extract_at indexes archives key digest) OutOfMemory) fault
refused_first indexes archives key digest fault uuid same r =
    refusal_of (IsFirstRefusedByIndex (uuid ∷ []) indexes archives) (λ at why. StopsBefore (extract_at indexes archives key digest) (Input at why))
    (AreUnfailedTogether indexes archives) (StopsBefore (extract_at indexes archives key digest) OutOfMemory) fault
    (λ at why first draft took. inl (inl (subst (λ (u : List ℕ). IsFirstRefusedByIndex (u ∷ []) indexes archives at why) same first), took))
    (λ u draft took. inl (u, took)) r

-- the indexes were read under the UUID of the key
pub read_under : {I P : Type 0} (indexes : List (Reader I)) (archives : List (Reader P)) (key : SliceKey) (uuid : List ℕ)
    (all : List (List (List ℕ))) → uuid ≡ key.uuid → AreReadWith (uuid ∷ []) indexes archives all → AreReadWith (key.uuid ∷ []) indexes archives all
read_under indexes archives key uuid all same read = subst (λ (u : List ℕ). AreReadWith (u ∷ []) indexes archives all) same read

-- ---- after the indexes were read

module _ {I P : Type 0} (indexes : List (Reader I)) (whole : P → Option (List ℕ)) (failures : P → ℕ) (before seen after : List P)
    (all : List (List (List ℕ))) (more : length after ≡ length seen) (key : SliceKey)
    (read : AreReadWith (key.uuid ∷ []) indexes (readers whole failures before seen) all)
    (unfailed : AreUnfailedTogether indexes (readers whole failures before seen))
    (kept : AreAllKept whole failures before seen) (digest : Option Digest) where
  abbrev known : List (Reader P)
  known = readers whole failures before after

  abbrev later : List (Reader P)
  later = readers whole failures seen after

  abbrev command : Writer → Extraction
  command = extract_at indexes known key digest

  long : length seen ≡ length before
  long = AllZip-long (IsKept whole failures) before seen kept

  read_all : AreReadWith (key.uuid ∷ []) indexes known all
  read_all = read_earlier whole failures (key.uuid ∷ []) indexes before seen after all long (more ∙ long) read

  are_later : AreLater known later
  are_later = later_readers whole failures before seen after more kept

  unfailed_all : EachUnfailed later → AreUnfailedTogether indexes known
  unfailed_all each = (unfailed.0, unfailed_through whole failures before seen after long (more ∙ long) unfailed.1 each)

  -- memory is wanting, with no reader failed
  pub wanting : EachUnfailed later → StopsBefore command OutOfMemory
  wanting each = λ draft took. inl (unfailed_all each, took)

  -- no entry is wanted
  pub rows_so : (xs : List EntryAt) (rows : List FindRow) → AreUnchosen key digest all xs → AllZip IsRowAt xs rows
      → EachUnfailed later → LacksSlices command rows
  rows_so xs rows are rows_are each = λ draft. (
    unfailed_all each,
    let lacks : LacksEntry indexes known key digest (find_lines rows) =
        record { all = all; read = read_all; answering = xs; are = are; rows = rows; rows_are = rows_are; told_is = refl } in
        inl lacks,
  )

  -- ---- entries are tied

  -- an archive was refused
  pub refused_later : (sizes : List ℕ) → HaveLengths (readers whole failures before seen) sizes → (tied : AreTied (key_bytes key) all)
      (fault : CommandFault)
      → IsRefusal (IsFirstRefusedAtPlaces (key_bytes key ∷ []) later all sizes) (EachUnfailed later) fault
      → IsRefusal (λ at why. StopsBefore command (Input at why)) (StopsBefore command OutOfMemory) fault
  refused_later sizes lengths tied fault r =
      refusal_of (IsFirstRefusedAtPlaces (key_bytes key ∷ []) later all sizes) (λ at why. StopsBefore command (Input at why)) (EachUnfailed later)
      (StopsBefore command OutOfMemory) fault
      (λ at why first draft took.
      let told : AreRefusedLater (key.uuid ∷ []) (key_bytes key ∷ []) indexes known at why =
      record {
        all = all;
        read = read_all;
        sizes = sizes;
        lengths = lengths_earlier whole failures before seen after sizes long (more ∙ long) lengths;
        unfailed = unfailed.0;
        later = later;
        are_later = are_later;
        refused = first;
      } in
      inl (inr (told, tied), took)) wanting r

  -- what is true of a content that is alike is true of what is held
  module _ (none : digest ≡ None) (tied : AreTied (key_bytes key) all) (o : Operations)
      (named : HoldNamed (key_bytes key ∷ []) later all o) (each : EachUnfailed later) where
    abbrev held : HoldTogether (key.uuid ∷ []) (key_bytes key ∷ []) indexes known o
    held = record { all = all; read = read_all; later = later; are_later = are_later; named = named }

    pub tied_so : (number : ℕ) (given : Digest) (size : ℕ) → ChoosesIn o key None number given size
        → KeepsWanted command key o number given size
    tied_so number given size chosen =
        let k = keeps_wanted command (HoldTied indexes known key) key None o (λ draft. unfailed_all each)
        (λ IsTrue tells. (o, held, tied, tells o (λ r under. refl))) number given size (λ draft slice told makes. inr (none, makes)) chosen in
        record { slice = k.slice; chosen = k.chosen; makes = k.makes; unfailed = k.unfailed }

    pub tied_none : (rows : List FindRow) → ChoosesNone o key None rows → LacksSlices command rows
    tied_none rows chosen =
        keeps_none command (HoldTied indexes known key) key None o (λ draft. unfailed_all each)
        (λ IsTrue tells. (o, held, tied, tells o (λ r under. refl))) rows (λ draft told lacks. inr (none, lacks)) chosen

  -- ---- the slice of an entry is sent from its archive

  module _ (x : EntryAt) (chosen : IsChosen key digest all x) (old new : P) (old_is : old ≡ get_or seen x.input old)
      (after_is : after ≡ set seen x.input new) where
    abbrev archive : Reader P
    archive = reader whole failures old new

    within : x.input < length seen
    within = omega (arith, archive_there key digest all x chosen, as_many (key.uuid ∷ []) indexes whole failures before seen all read long)

    pub chosen_from : IsChosenFrom indexes known key digest x archive
    chosen_from = record {
      all = all;
      read = read_all;
      unfailed = unfailed.0;
      chosen = chosen;
      later = later;
      are_later = are_later;
      archive_is = subst (λ (l : List P). IsOneOf (readers whole failures seen l) x.input archive) (sym after_is)
          (one_of whole failures seen seen x.input old new within refl old_is refl (none_failed whole failures seen));
    }

    pub unfailed_sent : Unfailed archive → AreUnfailedTogether indexes known
    unfailed_sent one = unfailed_all
        (subst (λ (l : List P). EachUnfailed (readers whole failures seen l)) (sym after_is)
        (unfailed_more whole failures seen seen x.input old new within refl old_is (none_failed whole failures seen) one))

    -- why it was not sent is no fault of the report
    unreported : (draft : Writer) (fault : CommandFault) → StopsSlice archive x draft fault → (n : ℕ) → fault ≡ Report n → ⊥
    unreported draft (Report m) stops n is = absurd stops.hinders
    unreported draft (Input at why) stops n is = cc is
    unreported draft (Output m) stops n is = cc is
    unreported draft OutOfMemory stops n is = cc is

    -- it is told how many bytes the draft took
    counted : (draft : Writer) (fault : CommandFault) (stops : StopsSlice archive x draft fault) (n : ℕ) → fault ≡ Output n
        → n ≡ length stops.bytes
    counted draft (Output m) stops n is = cc (is, stops.hinders.0)
    counted draft (Input at why) stops n is = absurd (cc is)
    counted draft (Report m) stops n is = absurd (cc is)
    counted draft OutOfMemory stops n is = absurd (cc is)

    pub stopped_amidst : (draft : Writer) (fault : CommandFault) → StopsSlice archive x draft fault → IsStoppedSending command draft fault
    stopped_amidst draft fault stops =
        let entry : StopsEntry indexes known key digest draft fault = record { x = x; archive = archive; from = chosen_from; stops = stops } in
        record {
          stops = inr entry;
          taken = (stops.bytes, stops.took, counted draft fault stops);
          not_told = unreported draft fault stops;
        }

-- the slice of an entry was sent, or was not
pub sent_so : {I P : Type 0} (indexes : List (Reader I)) (whole : P → Option (List ℕ)) (failures : P → ℕ) (before seen after : List P)
    (more : length after ≡ length seen) (key : SliceKey) (digest : Option Digest) (named : NamedSlice)
    (by : IsNamedBy indexes whole failures before seen key digest named) (draft : Writer) (result : Result (Unit {0}) CommandFault)
    → SendsFrom whole failures seen after by.x draft result
    → Sends (extract_at indexes (readers whole failures before after) key digest) (line_of key named.row.digest named.size) named.size draft result
sent_so indexes whole failures before seen after more key digest named by draft (Ok _) (old, new, old_is, after_is, (slice, holds, took, one)) =
    let known = readers whole failures before after in
    let archive = reader whole failures old new in
    let from = chosen_from indexes whole failures before seen after by.all more key by.read by.unfailed by.kept digest by.x by.chosen old new old_is after_is in
    let unfailed = unfailed_sent indexes whole failures before seen after by.all more key by.read by.unfailed by.kept digest by.x by.chosen old new old_is
    after_is one in
    let makes : MakesEntry indexes known key digest slice (line_of key named.row.digest named.size) =
    record { x = by.x; archive = archive; from = from; holds = holds; told_is = same_line key named by.x slice by.names holds.of } in
    record {
      slice = slice;
      makes = λ out. inl makes;
      unfailed = λ out. unfailed;
      long = holds.of.long ∙ sym by.names.size_is;
      took = took;
    }
sent_so indexes whole failures before seen after more key digest named by draft (Err fault) (old, new, old_is, after_is, stops) =
    inl (stopped_amidst indexes whole failures before seen after by.all more key by.read by.unfailed by.kept digest by.x by.chosen old new old_is after_is
    draft fault stops)

-- ---- where entries are tied

module _ {A I P : Type 0} (indexes : List (Reader I)) (whole : P → Option (List ℕ)) (failures : P → ℕ) (before seen after : List P)
    (all : List (List (List ℕ))) (more : length after ≡ length seen) (key : SliceKey)
    (read : AreReadWith (key.uuid ∷ []) indexes (readers whole failures before seen) all)
    (unfailed : AreUnfailedTogether indexes (readers whole failures before seen))
    (kept : AreAllKept whole failures before seen) (digest : Option Digest) (content : A → Operations)
    (none : digest ≡ None) (tied : AreTied (key_bytes key) all) where
  abbrev asked : Writer → Extraction
  asked = extract_at indexes (readers whole failures before after) key digest

  -- among what was read a slice is chosen
  tied_place : (o : Operations) → HoldNamed (key_bytes key ∷ []) (readers whole failures seen after) all o
      → EachUnfailed (readers whole failures seen after) → (place : Place A) (given : Digest) (size : ℕ)
      → ChoosesAt content o key place given size
      → IsFoundAt content indexes whole failures before after key digest place given size
  tied_place o named each (Named _) given size is = absurd is
  tied_place o named each (Kept k) given size (content_is, is) =
      subst (λ (p : Operations). KeepsWanted asked key p k.number given size) (sym content_is)
      (tied_so indexes whole failures before seen after all more key read unfailed kept digest none tied o named each k.number given size is)

  tied_choice : (o : Operations) → HoldNamed (key_bytes key ∷ []) (readers whole failures seen after) all o
      → EachUnfailed (readers whole failures seen after) → (choice : Choice (Place A)) → IsKeptChoice content o key choice
      → IsChosenFor asked (λ chosen. IsFoundAt content indexes whole failures before after key digest chosen.place chosen.digest chosen.size) choice
  tied_choice o named each (One chosen) is = tied_place o named each chosen.place chosen.digest chosen.size is
  tied_choice o named each (Undecided rows) is =
      tied_none indexes whole failures before seen after all more key read unfailed kept digest none tied o named each rows.items is

  pub chosen_when_tied : (sizes : List ℕ) → HaveLengths (readers whole failures before seen) sizes
      → (result : Result (Choice (Place A)) CommandFault)
      → ChoosesTied content key all sizes (readers whole failures seen after) result
      → Chooses asked (λ chosen. IsFoundAt content indexes whole failures before after key digest chosen.place chosen.digest chosen.size) result
  chosen_when_tied sizes lengths (Ok choice) r = record {
    is = tied_choice r.is.0 r.is.1 r.unfailed choice r.is.2;
    unfailed = wanting indexes whole failures before seen after all more key read unfailed kept digest r.unfailed;
  }
  chosen_when_tied sizes lengths (Err fault) r =
      refused_later indexes whole failures before seen after all more key read unfailed kept digest sizes lengths tied fault r
