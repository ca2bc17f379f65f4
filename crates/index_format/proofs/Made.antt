-- An archive of which an index is made: its magic, its whole text, and why there is no index.
use Rattle.std.proofs.Common.{◌≡◌, ℕ, ◌≤◌, List, [], ◌++◌, length, take, Option, Some, None, Err, refl, sym, ap, ◌∙◌, subst, inl, inr, arith, length-take}
use Rattle.std.specs.Prelude.{IfSome}
use Rattle.std.specs.List.{concat}
use Rattle.std.specs.Io.KnownBytes.{Consumes}
use Rattle.std.proofs.lemmas.List.{append-nil, take_all}
use Rattle.archive_records.specs.declared.fault.RecordFaultKind.TheVariants.{OutOfMemory, Truncated}
use Rattle.archive_records.specs.declared.format.Format.{Format}
use Rattle.archive_records.specs.declared.format.Format.TheVariants.{Archive}
use Rattle.archive_records.specs.declared.kind.TextKind.TheVariants.{Archive as Archive_text}
use Rattle.archive_records.specs.Kind.{kind_of, magic, magic_of, archive_format}
use Rattle.archive_records.specs.Reader.{Position, HasRead, HasStopped}
use Rattle.archive_records.proofs.Apart.{apart_none}
use Rattle.archive_records.proofs.Formats.{format_magic}
use Rattle.archive_records.proofs.Inputs.{refused as record_refused}
use Rattle.archive_records.proofs.Undecided.{cut_off}
use Rattle.archive_records.specs.Fault.{next}
use Rattle.archive_records.specs.Layout.{framed}
use Rattle.index_format.specs.declared.fault.IndexingFault.{IndexingFault}
use Rattle.index_format.specs.declared.fault.IndexingFault.TheVariants.{Archive as Archive_fault, OldArchive, TooLong}
use Rattle.index_format.specs.InnerMaking.{BlamesIndexing, HasStoppedIndexing}
use Rattle.index_format.specs.Making.{RefusesToIndex}

-- ---- the magic

-- bytes of which the first are the magic, where there are as many, are the magic
pub magic_is : (m : List ℕ) (came : ℕ) → length m ≡ 8 → came ≤ 8 → take came m ≡ magic → m ≡ magic
magic_is m came long within is = sym (take_all came m (omega (arith, long, ap length is, length-take came m))) ∙ is

format_is : (file : Format) (m : List ℕ) (b : Option (List ℕ)) → kind_of file ≡ Archive_text → m ≡ magic
    → Consumes (Some m) b (magic_of file ++ concat []) → file ≡ Archive
format_is file m None is same taken = absurd taken
format_is file m (Some ys) is same taken =
    let whole : m ≡ magic_of file ++ ys = taken ∙ ap (λ (t : List ℕ). t ++ ys) (append-nil (magic_of file)) in
    sym (format_magic file is m ys whole) ∙ ap archive_format same ∙ format_magic Archive refl magic [] refl

-- a reader that read the magic from memory stands after the magic of the archive that it was taken from
pub begun : (file : Format) (s a b c : Option (List ℕ)) (m : List ℕ) (reader : Position) → kind_of file ≡ Archive_text
    → s ≡ Some m → m ≡ magic → HasRead file s b [] reader → Consumes a c magic → HasRead Archive a c [] reader
begun file s a b c m reader is left same read taken =
    let known : HasRead file (Some m) b [] reader = subst (λ (x : Option (List ℕ)). HasRead file x b [] reader) left read in
    let there : HasRead Archive (Some m) b [] reader = subst (λ (f : Format). HasRead f (Some m) b [] reader) (format_is file m b is same known.taken) known in
    record {
      file_is = there.file_is;
      taken = subst (Consumes a c) (sym (append-nil magic)) taken;
      ordered = there.ordered;
      apart = there.apart;
      last_is = there.last_is;
      count_is = there.count_is;
      offset_is = there.offset_is;
      retired_are = there.retired_are;
      dropped_is = there.dropped_is;
    }

nothing_more : next Archive [] 0 [] ≡ Err Truncated
unfolding next framed
nothing_more = refl

-- memory was wanted after the magic
pub wanted : (a c : Option (List ℕ)) → Consumes a c magic → HasStopped Archive_text a c (record { kind = OutOfMemory; offset = 8 })
wanted a c taken = inr (
  Archive,
  refl,
  [],
  record {
    rest = [];
    taken = taken;
    ordered = tt;
    apart = apart_none Archive;
    few = omega arith;
    unended = λ known. absurd (known.1 refl);
    stops = inl (refl, λ other. absurd (other refl));
    undecided = λ _. cut_off Archive [] tt (apart_none Archive) (omega arith) [] (inl nothing_more);
  },
)

-- ---- the whole text

-- the same text
pub text_along : (a : Option (List ℕ)) (x y : List ℕ) → x ≡ y → IfSome a (λ t. t ≡ x) → IfSome a (λ t. t ≡ y)
text_along None x y e h = tt
text_along (Some t) x y e h = h ∙ e

module _ {R : Type 0} (left : R → Option (List ℕ)) (failures : R → ℕ) (old new : R) where
  -- why there is no index
  pub refused : (fault : IndexingFault) → HasStoppedIndexing (left old) (left new) fault
      → BlamesIndexing left failures old new fault → RefusesToIndex left failures old new fault
  refused (Archive_fault fault) stopped blames = record_refused Archive_text left failures old new fault stopped blames
  refused OldArchive stopped blames = (stopped, blames)
  refused TooLong stopped blames = (stopped, blames)
