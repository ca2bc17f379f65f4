-- What a part of a content answers.
use Rattle.std.proofs.Common.{◌≡◌, ℕ, Bool, true, ◌&&◌, List, [], ◌++◌, length, take, refl, sym, ap, ◌∙◌, append_assoc}
use Rattle.std.specs.Str.{bytes_eq}
use Rattle.std.specs.FinSet as set
use Rattle.std.specs.FinSet.{contains-retain}
use Rattle.std.proofs.lemmas.List.{append-nil, take_at}
use Rattle.std.proofs.lemmas.Slice.Eq.{bytes_eq-Decides}
use Rattle.std.specs.Int.{w32, w64, to_be_bytes}
use Rattle.sha2.specs.Sha256.{sha256}
use Rattle.archive_core.specs.Key.{key_bytes}
use Rattle.archive_core.specs.Valid.{key_of}
use Rattle.archive_core.specs.Record.{admission, admission_record, retirement_record}
use Rattle.archive_core.specs.Content.{Operations, IsContent, IsLive, IsAnswering}
use Rattle.archive_core.specs.Find.{IsFoundUnder, IsFinds, AreAnswering}
use Rattle.archive_core.specs.Lookup.{AnswerRecord, IsAnswer, IsConflict}
use Rattle.archive_core.specs.Names.{NameRecord, IsNameRow, IsNames}
use Rattle.archive_core.specs.Part.{is_under, part, AreAlikeUnder, AreAlikeNamed}
use Rattle.archive_core.specs.declared.find.FindRow.{FindRow}
use Rattle.archive_core.specs.declared.keys.SliceKey.{SliceKey}
use Rattle.archive_core.specs.declared.lookup.Where.{Where}
use Rattle.archive_core.specs.declared.operations.Operation.{Operation}
use Rattle.archive_core.specs.declared.operations.Operation.TheVariants.{Admit, Retire}
use Rattle.archive_core.proofs.Made.{bytes_same, made_part, and_left, and_true}

-- ---- what begins so

begins : (prefix bytes rest : List ℕ) → bytes ≡ prefix ++ rest → bytes_eq prefix (take (length prefix) bytes) ≡ true
begins prefix bytes rest e = (bytes_eq-Decides prefix (take (length prefix) bytes)).1
    (sym (ap (take (length prefix)) e ∙ take_at prefix rest (length prefix) refl))

pub admission_under : (prefix rest slice : List ℕ) → key_bytes (key_of slice) ≡ prefix ++ rest → is_under prefix (admission_record slice) ≡ true
unfolding is_under admission
admission_under prefix rest slice e =
    let more : List ℕ = to_be_bytes w64 (length slice) ++ slice in
    begins prefix (admission slice) (rest ++ more) (ap (λ (t : List ℕ). t ++ more) e ∙ append_assoc prefix rest more)

pub retirement_under : (prefix rest : List ℕ) (key : SliceKey) (digest : List ℕ) → key_bytes key ≡ prefix ++ rest
    → is_under prefix (retirement_record key digest) ≡ true
unfolding is_under
retirement_under prefix rest key digest e = begins prefix (key_bytes key ++ digest) (rest ++ digest)
    (ap (λ (t : List ℕ). t ++ digest) e ∙ append_assoc prefix rest digest)

-- ---- contents that are alike there

pub alike_back : (prefix : List ℕ) (o p : Operations) → AreAlikeUnder prefix o p → AreAlikeUnder prefix p o
alike_back prefix o p same = λ r h. sym (same r h)

live_alike : (prefix rest : List ℕ) (o p : Operations) (key : SliceKey) (slice : List ℕ) → key_bytes key ≡ prefix
    ++ rest → AreAlikeUnder prefix o p → IsLive o key slice → IsLive p key slice
live_alike prefix rest o p key slice e same live = record {
  admitted = sym (same (admission_record slice) (admission_under prefix rest slice (ap key_bytes live.under ∙ e))) ∙ live.admitted;
  under = live.under;
  kept = sym (same (retirement_record key (sha256 slice)) (retirement_under prefix rest key (sha256 slice) e)) ∙ live.kept;
}

-- ---- answers

module _ (o p : Operations) (key : SliceKey) (same : AreAlikeUnder (key_bytes key) o p) where
  answering_alike : (slice : List ℕ) → IsAnswering o key slice → IsAnswering p key slice
  answering_alike slice is = record {
    live = live_alike (key_bytes key) [] o p key slice (sym (append-nil (key_bytes key))) same is.live;
    companions_first = λ companion live. is.companions_first companion
        (live_alike (key_bytes key) [] p o key companion (sym (append-nil (key_bytes key)))
        (alike_back (key_bytes key) o p same) live);
  }

are_alike : (o p : Operations) (key : SliceKey) (slices : List (List ℕ)) → AreAlikeUnder (key_bytes key) o p
    → AreAnswering o key slices → AreAnswering p key slices
are_alike o p key slices same is = record {
  ascending = is.ascending;
  exactly = λ slice. (
    λ h. answering_alike o p key same slice ((is.exactly slice).0 h),
    λ h. (is.exactly slice).1 (answering_alike p o key (alike_back (key_bytes key) o p same) slice h),
  );
}

pub answer_alike : (o p : Operations) (key : SliceKey) (asked : Where) (answer : AnswerRecord)
    → AreAlikeUnder (key_bytes key) o p → IsAnswer o key asked answer → IsAnswer p key asked answer
answer_alike o p key asked answer same is = record { slices = is.slices; answering = are_alike o p key is.slices same is.answering; answer_is = is.answer_is }

pub conflict_alike : (o p : Operations) (key : SliceKey) → AreAlikeUnder (key_bytes key) o p → IsConflict o key → IsConflict p key
conflict_alike o p key same is = record { slices = is.slices; answering = are_alike o p key is.slices same is.answering; several = is.several }

-- ---- rows of a UUID

uuid_first : (uuid : List ℕ) (key : SliceKey) → key.uuid ≡ uuid → (rest : List ℕ) × (key_bytes key ≡ uuid ++ rest)
unfolding key_bytes
uuid_first uuid key e =
    let more : List ℕ = to_be_bytes w32 key.arch.cputype ++ to_be_bytes w32 key.arch.cpusubtype in
    (more, ap (λ (t : List ℕ). t ++ more) e)

found_alike : (o p : Operations) (uuid : List ℕ) (a : Operation) → AreAlikeUnder uuid o p → IsFoundUnder o uuid a → IsFoundUnder p uuid a
found_alike o p uuid (Admit slice) same is =
    let first = uuid_first uuid (key_of slice) is.0 in
    (is.0, live_alike uuid first.0 o p (key_of slice) slice first.1 same is.1)
found_alike o p uuid (Retire key digest) same is =
    let first = uuid_first uuid key is.0 in
    (is.0, sym (same (retirement_record key digest.0) (retirement_under uuid first.0 key digest.0 first.1)) ∙ is.1)

pub finds_alike : (o p : Operations) (uuid : List ℕ) (rows : List FindRow) → AreAlikeUnder uuid o p → IsFinds o uuid rows → IsFinds p uuid rows
finds_alike o p uuid rows same is = record {
  operations = is.operations;
  ascending = is.ascending;
  exactly = λ a. (
    λ h. let told = (is.exactly a).0 h in (told.0, found_alike o p uuid a same told.1),
    λ h. (is.exactly a).1 (h.0, found_alike p o uuid a (alike_back uuid o p same) h.1),
  );
  rows_are = is.rows_are;
}

-- ---- rows of a name

pub named_back : (name : List ℕ) (o p : Operations) → AreAlikeNamed name o p → AreAlikeNamed name p o
named_back name o p same = record {
  retirements = λ key digest. sym (same.retirements key digest);
  admissions = λ slice found h. sym (same.admissions slice found h);
}

name_row_alike : (o p : Operations) (name : List ℕ) (row : NameRecord) → AreAlikeNamed name o p → IsNameRow o name row → IsNameRow p name row
name_row_alike o p name row same is = record {
  slice = is.slice;
  valid = is.valid;
  live = record {
    admitted = sym (same.admissions is.slice is.found is.candidate) ∙ is.live.admitted;
    under = is.live.under;
    kept = sym (same.retirements (key_of is.slice) (sha256 is.slice)) ∙ is.live.kept;
  };
  found = is.found;
  candidate = is.candidate;
  row_is = is.row_is;
}

pub names_alike : (o p : Operations) (name : List ℕ) (rows : List NameRecord) → AreAlikeNamed name o p → IsNames o name rows → IsNames p name rows
names_alike o p name rows same is = record {
  ascending = is.ascending;
  exactly = λ row. (
    λ h. name_row_alike o p name row same ((is.exactly row).0 h),
    λ h. (is.exactly row).1 (name_row_alike p o name row (named_back name o p same) h),
  );
}

-- ---- a part

pub contains_part : (o : Operations) (picks : List ℕ → Bool) (r : List ℕ) → set.contains (part o picks) r ≡ (set.contains o r && picks r)
contains_part o picks r = contains-retain o picks r (λ x e. ap picks (sym (bytes_same r x e)))

pub part_alike : (o : Operations) (picks : List ℕ → Bool) (prefix : List ℕ)
    → ((r : List ℕ) → is_under prefix r ≡ true → picks r ≡ true) → AreAlikeUnder prefix (part o picks) o
part_alike o picks prefix all = λ r h. cc (contains_part o picks r, all r h, and_true (set.contains o r))

pub part_content : (o : Operations) (picks : List ℕ → Bool) → IsContent o → IsContent (part o picks)
part_content o picks content = record {
  itself = made_part (part o picks) o content.itself within;
  records = λ r h. content.records r (within r h);
}
  where
    within : (r : List ℕ) → set.contains (part o picks) r ≡ true → set.contains o r ≡ true
    within r h = and_left (set.contains o r) (picks r) (sym (contains_part o picks r) ∙ h)
