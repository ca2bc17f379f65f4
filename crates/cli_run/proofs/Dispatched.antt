-- Archives and indexes that are handed on, and the query that they make.
use Rattle.std.proofs.Common.{◌≡◌, ℕ, ◌<◌, List, [], ◌∷◌, length, Option, Result, Bool, true, false, Ok, Err, refl, sym, subst, arith, inl, inr}
use Rattle.std.proofs.KnownBytes.{Appends-nil}
use Rattle.std.proofs.lemmas.Bool.{le-ltb, lt-ltb, Decides.nat_tests}
use Rattle.std.specs.Prelude.{◌==◌}
use Rattle.command_common.specs.{Ends.EndsReport, Ends.Query, Outputs.Writer, Outputs.writer}
use Rattle.command_common.specs.declared.faults.{CommandFault.CommandFault, CommandFault.TheVariants.Input, Status.Status}
use Rattle.command_common.specs.declared.faults.InputName.{InputName, TheVariants.Archive, TheVariants.Index}
use Rattle.command_common.specs.declared.faults.Why.{Why, TheVariants.NoArchive, TheVariants.NoIndex}
use Rattle.command_common.specs.Inputs.{Reader, reader, readers}
use Rattle.command_queries.specs.Frames.{frames_by_records, prints_addresses}
use Rattle.command_queries.proofs.Answered.{symbolicated}
use Rattle.archive_core.specs.declared.keys.SliceKey.{SliceKey}
use Rattle.command_common.proofs.{Parts.no_others, Readers.readers_long}
use Rattle.command_given_indexes.specs.Find.{find_by}
use Rattle.command_frames.specs.Frames.{frames_at, symbolicate_at}
use Rattle.cli_run.specs.Queries.{IsAlone, find_of, frames_of, if_paired, index_for_each_archive, symbolicate_of}

module _ {S : Type 0} (left : S → Option (List ℕ)) (failures : S → ℕ) where
  -- there is one where there is an input
  pub some_read : (a c : List S) → length c ≡ length a → 0 < length a
      → 0 < length (readers left failures a c)
  some_read a c same some = omega (arith, readers_long left failures a c same)

-- ---- queries by indexes

-- there is none
pub none_there : {A : Type 0} (xs : List A) → true ≡ (length xs == 0) → xs ≡ []
none_there xs is = no_others xs true is refl

-- there is one
pub not_none : {A : Type 0} (xs : List A) → false ≡ (length xs == 0) → 0 < length xs
not_none xs is = grind (arith, nat_tests)

pub symbolicate_by : {S : Type 0} (archives places indexes : List (Reader S)) (key : SliceKey) (load : Option ℕ)
    (lines slices : Bool) (addresses : List ℕ) → 0 < length indexes
    → symbolicate_of archives places indexes key load lines slices addresses
    ≡ if_paired (index_for_each_archive (length archives) (length indexes)) (symbolicate_at indexes places key load lines slices addresses)
symbolicate_by archives places [] key load lines slices addresses some = absurd (omega arith)
symbolicate_by [] places (i ∷ indexes) key load lines slices addresses some = refl
symbolicate_by (a ∷ archives) places (i ∷ indexes) key load lines slices addresses some = refl

pub frames_by : {S : Type 0} (lines slices : Bool) (crash : Reader S) (archives places indexes : List (Reader S))
    → 0 < length indexes
    → frames_of lines slices crash archives places indexes
    ≡ if_paired (index_for_each_archive (length archives) (length indexes)) (frames_at lines slices crash indexes places)
frames_by lines slices crash archives places [] some = absurd (omega arith)
frames_by lines slices crash [] places (i ∷ indexes) some = refl
frames_by lines slices crash (a ∷ archives) places (i ∷ indexes) some = refl

pub find_by_indexes : {S : Type 0} (archives places indexes : List (Reader S)) (uuid : List ℕ) → 0 < length indexes
    → find_of archives places indexes uuid
    ≡ if_paired (index_for_each_archive (length archives) (length indexes)) (find_by indexes places uuid)
find_by_indexes archives places [] uuid some = absurd (omega arith)
find_by_indexes [] places (i ∷ indexes) uuid some = refl
find_by_indexes (a ∷ archives) places (i ∷ indexes) uuid some = refl

-- ---- queries by records

module _ {S : Type 0} (left whole : S → Option (List ℕ)) (failures place_failures : S → ℕ) where
  pub symbolicate_by_records : (archives now indexes : List S) (key : SliceKey) (load : Option ℕ) (lines slices : Bool)
      (addresses : List ℕ) (report : Writer) (result : Result Status CommandFault) → 0 < length archives
      → length now ≡ length archives → indexes ≡ []
      → EndsReport (prints_addresses (frames_by_records lines slices (readers left failures archives now)) key load addresses) report result
      → EndsReport (symbolicate_of (readers left failures archives now) (readers whole place_failures archives now)
      (readers whole place_failures indexes indexes) key load lines slices addresses) report result
  symbolicate_by_records [] now indexes key load lines slices addresses report result some same none ends = absurd (omega arith)
  symbolicate_by_records (a ∷ archives) [] indexes key load lines slices addresses report result some same none ends =
      absurd (omega (arith, same))
  symbolicate_by_records (a ∷ archives) (b ∷ now) [] key load lines slices addresses report result some same none ends =
      symbolicated (reader left failures a b) (readers left failures archives now) key load lines slices addresses
      report result ends
  symbolicate_by_records (a ∷ archives) (b ∷ now) (i ∷ indexes) key load lines slices addresses report result some same none ends =
      cc none

-- ---- how they end

-- one of them has no fellow, and is refused for that
alone : (archives indexes : ℕ) (fault : CommandFault) → IsAlone archives indexes fault
    → (at : InputName) × (why : Why) × (fault ≡ Input at why) × (index_for_each_archive archives indexes ≡ Err (Input at why))
alone archives indexes fault (inl more) =
    (Index archives, NoArchive, more.1, rw (lt-ltb archives indexes more.0) refl)
alone archives indexes fault (inr fewer) =
    let not_more = le-ltb archives indexes (omega (arith, fewer.0)) in
    (Archive indexes, NoIndex, fewer.1, rw (not_more, lt-ltb indexes archives fewer.0) refl)

-- each has one
all_paired : (archives indexes : ℕ) → indexes ≡ archives → index_for_each_archive archives indexes ≡ Ok tt
all_paired archives indexes same =
    rw (le-ltb archives indexes (omega (arith, same)), le-ltb indexes archives (omega (arith, same))) refl

-- the same of archives and indexes that are handed on
module _ {S : Type 0} (left whole : S → Option (List ℕ)) (failures place_failures : S → ℕ) where
  pub readers_alone : (archives ix : List S) (fault : CommandFault)
      → IsAlone (length archives) (length ix) fault
      → (at : InputName) × (why : Why) × (fault ≡ Input at why)
      × (index_for_each_archive (length (readers left failures archives archives)) (length (readers whole place_failures ix ix))
      ≡ Err (Input at why))
  readers_alone archives ix fault is =
      alone (length (readers left failures archives archives)) (length (readers whole place_failures ix ix)) fault
      (rw (readers_long left failures archives archives refl, readers_long whole place_failures ix ix refl) is)

  pub readers_paired : (a c ix iy : List S) → length ix ≡ length a → length c ≡ length a
      → length iy ≡ length ix
      → index_for_each_archive (length (readers left failures a c)) (length (readers whole place_failures ix iy)) ≡ Ok tt
  readers_paired a c ix iy as_many same indexes =
      all_paired (length (readers left failures a c)) (length (readers whole place_failures ix iy))
      (omega (arith, readers_long left failures a c same, readers_long whole place_failures ix iy indexes, as_many))

  -- and of any query that is made of them
  pub alone_refused : {W : Type 0} (held : W → Option (List ℕ)) (write_failures : W → ℕ)
      (archives ix : List S) (query made : Query) (report : W) (fault : CommandFault)
      → IsAlone (length archives) (length ix) fault
      → query ≡ if_paired
      (index_for_each_archive (length (readers left failures archives archives)) (length (readers whole place_failures ix ix))) made
      → EndsReport query (writer held write_failures report report) (Err fault)
  alone_refused held write_failures archives ix query made report fault is by =
      let refused = readers_alone archives ix fault is in
      subst (λ (q : Query). EndsReport q (writer held write_failures report report) (Err fault)) (sym by)
      (rw (refused.2, refused.3) (refl, (Appends-nil (held report), refl)))

  pub paired_kept : (a c ix iy : List S) (query made : Query) (report : Writer)
      (result : Result Status CommandFault) → length ix ≡ length a → length c ≡ length a → length iy ≡ length ix
      → query ≡ if_paired
      (index_for_each_archive (length (readers left failures a c)) (length (readers whole place_failures ix iy))) made
      → EndsReport made report result → EndsReport query report result
  paired_kept a c ix iy query made report result as_many same indexes by ends =
      rw (by, readers_paired a c ix iy as_many same indexes) ends
