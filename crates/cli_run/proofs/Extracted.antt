-- How `extract` ends over archives and indexes that are handed on.
use Rattle.std.proofs.Common.{◌≡◌, ℕ, ◌<◌, List, [], ◌∷◌, length, Option, Result, Err, refl, ap, sym, subst, arith, inl}
use Rattle.std.proofs.KnownBytes.{Appends-nil}
use Rattle.std.specs.Io.KnownBytes.{Appends}
use Rattle.archive_core.specs.declared.keys.{Digest.Digest, SliceKey.SliceKey}
use Rattle.byte_device.specs.declared.targets.Output.{Output as Out}
use Rattle.command_common.specs.Inputs.{Reader, reader, readers}
use Rattle.command_common.specs.Outputs.{Outs, Takes, Writer, out_of}
use Rattle.command_common.specs.declared.faults.CommandFault.{CommandFault, TheVariants.Input}
use Rattle.command_common.specs.declared.faults.{Status.Status, Why.Why, InputName.InputName}
use Rattle.command_extract.specs.{Extract.Extraction, Extract.Extracts, Extract.extract_first, Indexed.extract_at}
use Rattle.cli_run.specs.Queries.{IsAlone, extract_of, extraction_if_paired, index_for_each_archive}
use Rattle.cli_run.proofs.Dispatched.{readers_alone, readers_paired, some_read}

-- with an index
extract_by : {S : Type 0} (archives places indexes : List (Reader S)) (key : SliceKey) (digest : Option Digest)
    (draft : Writer) → 0 < length indexes
    → extract_of archives places indexes key digest draft
    ≡ extraction_if_paired (index_for_each_archive (length archives) (length indexes)) draft
    (extract_at indexes places key digest draft)
extract_by archives places [] key digest draft some = absurd (omega arith)
extract_by [] places (i ∷ indexes) key digest draft some = refl
extract_by (a ∷ archives) places (i ∷ indexes) key digest draft some = refl

-- without one
extract_by_records : {S : Type 0} (archives places : List (Reader S)) (key : SliceKey) (digest : Option Digest)
    (draft : Writer) → 0 < length archives
    → extract_of archives places [] key digest draft ≡ extract_first archives key digest draft
extract_by_records [] places key digest draft some = absurd (omega arith)
extract_by_records (a ∷ archives) places key digest draft some = refl

module _ {D T : Type 0} (out : Outs D T) (report : Writer) where
  -- the command is refused before OUT is begun
  stopped : (at : InputName) (why : Why) (command : Extraction) → out.new ≡ out.old → Takes report []
      → Extracts (extraction_if_paired (Err (Input at why)) (out_of out).draft command) out report (Err (Input at why))
  stopped at why command same unreported =
      let took : Takes (out_of out).draft [] = (
        subst (λ (o : Out D T). Appends (out.held out.old.draft) (out.held o.draft) []) (sym same)
            (Appends-nil (out.held out.old.draft)),
        ap (λ (o : Out D T). out.draft_failures o.draft) same,
      ) in
      inl (record {
        stops = (refl, took);
        bytes = [];
        took = took.0;
        count = λ n h. cc;
        nothing_published = (
          ap (λ (o : Out D T). out.published o.target) same,
          ap (λ (o : Out D T). out.failures o.target) same,
        );
        unreported = unreported;
      })

module _ {S : Type 0} (left whole : S → Option (List ℕ)) (failures place_failures : S → ℕ) (key : SliceKey)
    (digest : Option Digest) where
  -- without an index
  pub whole_extracted : {D T : Type 0} (archives now ix : List S) (out : Outs D T) (report : Writer)
      (result : Result Status CommandFault) → 0 < length archives → length now ≡ length archives → ix ≡ []
      → Extracts (extract_first (readers left failures archives now) key digest (out_of out).draft) out report result
      → Extracts (extract_of (readers left failures archives now) (readers whole place_failures archives now)
      (readers whole place_failures ix ix) key digest (out_of out).draft) out report result
  whole_extracted archives now ix out report result some same none ends =
      rw (
        none,
        extract_by_records (readers left failures archives now) (readers whole place_failures archives now) key digest
            (out_of out).draft (some_read left failures archives now same some),
      ) ends

  pub alone_stopped : {D T : Type 0} (archives ix : List S) (out : Outs D T) (report : Writer)
      (fault : CommandFault) → IsAlone (length archives) (length ix) fault → 0 < length (readers whole place_failures ix ix)
      → out.new ≡ out.old → Takes report []
      → Extracts (extract_of (readers left failures archives archives) (readers whole place_failures archives archives)
      (readers whole place_failures ix ix) key digest (out_of out).draft) out report (Err fault)
  alone_stopped archives ix out report fault alone some same unreported =
      let places = readers whole place_failures archives archives in
      let named = readers whole place_failures ix ix in
      let refused = readers_alone left whole failures place_failures archives ix fault alone in
      subst (λ (e : Extraction). Extracts e out report (Err fault))
      (sym (extract_by (readers left failures archives archives) places named key digest (out_of out).draft some))
      (rw (refused.2, refused.3)
      (stopped out report refused.0 refused.1 (extract_at named places key digest (out_of out).draft) same unreported))

  pub paired_extracted : {D T : Type 0} (a c ix iy : List S) (out : Outs D T) (report : Writer)
      (result : Result Status CommandFault) → length ix ≡ length a → length c ≡ length a → length iy ≡ length ix
      → 0 < length (readers whole place_failures ix iy)
      → Extracts (extract_at (readers whole place_failures ix iy) (readers whole place_failures a c) key digest
      (out_of out).draft) out report result
      → Extracts (extract_of (readers left failures a c) (readers whole place_failures a c)
      (readers whole place_failures ix iy) key digest (out_of out).draft) out report result
  paired_extracted a c ix iy out report result as_many same indexes some ends =
      let by = extract_by (readers left failures a c) (readers whole place_failures a c)
      (readers whole place_failures ix iy) key digest (out_of out).draft some in
      subst (λ (e : Extraction). Extracts e out report result) (sym by)
      (rw (readers_paired left whole failures place_failures a c ix iy as_many same indexes) ends)
