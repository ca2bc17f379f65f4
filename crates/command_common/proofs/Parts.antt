-- What the join of parts has.
use Rattle.std.proofs.Common.{◌≡◌, ℕ, ◌≤◌, Bool, true, ◌||◌, nat_eq, List, [], ◌∷◌, ◌++◌, length, map, take, drop, refl}
use Rattle.std.proofs.Common.{sym, ap, ◌∙◌, subst, arith, inl, inr, Ok, Err, Result, IsErrAnd, Option, Some, Contains}
use Rattle.std.specs.Str.{bytes_eq}
use Rattle.std.specs.List.{AllByRecursion, AllZip}
use Rattle.std.specs.Cmp.Lexicographic.{nat_list_cmp_total}
use Rattle.std.specs.FinSet.{contains, union, contains-union}
use Rattle.std.proofs.lemmas.Bool.{cases_Bool, eqb-true, or_cases}
use Rattle.std.proofs.lemmas.List.{length-take, length-drop, nil_from_length, take-append-le, take-take, map-append}
use Rattle.std.proofs.lemmas.Option.{same_Some}
use Rattle.std.proofs.lemmas.List.Sums.{fold-append}
use Rattle.std.proofs.lemmas.Result.{err_from_is_err_and}
use Rattle.archive_records.proofs.KeptRecords.{long_record}
use Rattle.archive_core.specs.Content.{IsContent, Operations, covering, joined, key_and_digest}
use Rattle.archive_core.specs.Part.{AreAlikeUnder, is_under, part}
use Rattle.archive_core.proofs.Made.{contains_made, joined_content}
use Rattle.archive_core.proofs.Picked.{part_alike}
use Rattle.archive_core.specs.declared.keys.SliceKey.{SliceKey}
use Rattle.archive_core.proofs.Members.{in_rest}
use Rattle.archive_from_records.specs.Keys.{first_key}
use Rattle.command_common.proofs.Archives.{each_archive, hold_more}
use Rattle.command_common.proofs.Readers.{all_more, none_failed, none_touched}
use Rattle.command_common.specs.Archives.{AreRefused, AreUnfailed, HoldTogether, ReadsTogether, further_name, merged}
use Rattle.command_common.specs.declared.faults.CommandFault.{CommandFault}
use Rattle.command_common.specs.declared.faults.CommandFault.TheVariants.{Input, Output, Report, OutOfMemory}
use Rattle.command_common.specs.declared.faults.InputName.{InputName}
use Rattle.command_common.specs.declared.faults.Status.{Status}
use Rattle.command_common.specs.declared.faults.Why.{Why}
use Rattle.command_common.specs.Ends.{EndsReport}
use Rattle.command_common.specs.Outputs.{Takes, Writer}
use Rattle.command_common.specs.Inputs.{EachUnfailed, EachUntouched, HoldsArchive, HoldsContent, HoldsPart, IsArchive}
use Rattle.command_common.specs.Inputs.{IsArchiveRefused, IsFirstRefused, IsRefusal, IsRefusedArchive, Reader}
use Rattle.command_common.specs.Inputs.{ReadsInput, Unfailed, readers}
use Rattle.command_common.specs.InnerTogether.{HasJoinedParts}
use Rattle.command_common.specs.Together.{AreAlikeWhere}

-- ---- records under a prefix of a key

-- a retirement that covers a record is under the same prefix
covering_under : (prefix r : List ℕ) → length prefix ≤ 24 → 33 ≤ length r → is_under prefix (covering r) ≡ is_under prefix r
unfolding is_under key_and_digest
covering_under prefix r short long =
    let key : length prefix ≤ length (take 24 (drop 1 r)) = omega (arith, length-take 24 (drop 1 r), length-drop 1 r) in
    ap (bytes_eq prefix) (take-append-le (length prefix) (take 24 (drop 1 r)) _ key ∙ take-take (length prefix) 24 (drop 1 r) short)

-- ---- the join of two that are alike there

module _ (prefix : List ℕ) (short : length prefix ≤ 24) (o p few some : Operations) (content : IsContent o)
    (other : IsContent p) (same : AreAlikeUnder prefix few o) (also : AreAlikeUnder prefix some p) where
  abbrev whole : Operations
  whole = union o p

  abbrev parts : Operations
  parts = union few some

  alike : (r : List ℕ) → is_under prefix r ≡ true → contains parts r ≡ contains whole r
  alike r under =
      contains-union nat_list_cmp_total few some r
      ∙ (λ i. same r under i || also r under i)
      ∙ sym (contains-union nat_list_cmp_total o p r)

  long_of : (r : List ℕ) → contains whole r ≡ true → 33 ≤ length r
  long_of r there = elim (or_cases (contains o r) (contains p r) (sym (contains-union nat_list_cmp_total o p r) ∙ there)) [
    | inl first ↦ long_record r (content.records r first)
    | inr second ↦ long_record r (other.records r second)
  ]

  -- so what is covered there is, too
  pub joined_alike : AreAlikeUnder prefix (joined few some) (joined o p)
  joined_alike r under = elim (cases_Bool (contains whole r)) [
    | inl there ↦ grind (
      arith,
      contains_made parts r,
      contains_made whole r,
      alike r under,
      alike (covering r) (covering_under prefix r short (long_of r there) ∙ under),
    )
    | inr none ↦ grind (arith, contains_made parts r, contains_made whole r, alike r under)
  ]

pub joins_of_parts : (o p : Operations) (picks : List ℕ → Bool) (prefix : List ℕ) → IsContent o → IsContent p
    → length prefix ≤ 24 → ((r : List ℕ) → is_under prefix r ≡ true → picks r ≡ true)
    → AreAlikeUnder prefix (joined (part o picks) (part p picks)) (joined o p)
joins_of_parts o p picks prefix content other short picked =
    joined_alike prefix short o p (part o picks) (part p picks) content other (part_alike o picks prefix picked) (part_alike p picks prefix picked)

-- of more than two
pub merged_alike : (prefix : List ℕ) (picks : List ℕ → Bool) → length prefix ≤ 24 → ((r : List ℕ) → is_under prefix r ≡ true → picks r ≡ true)
    → (o few : Operations) (contents : List Operations) → IsContent o → AllByRecursion IsContent contents → AreAlikeUnder prefix few o
    → AreAlikeUnder prefix (merged few (map (λ (p : Operations). part p picks) contents)) (merged o contents)
merged_alike prefix picks short picked o few [] content each same = same
merged_alike prefix picks short picked o few (p ∷ contents) content each same =
    merged_alike prefix picks short picked (joined o p) (joined few (part p picks)) contents (joined_content o p content each.0) each.1
    (joined_alike prefix short o p few (part p picks) content each.0 same (part_alike p picks prefix picked))

-- ---- the archives, one more at a time

module _ {R : Type 0} where
  pub parts_none : (picks : List ℕ → Bool) (o : Operations) → HasJoinedParts {R = R} [] picks o o
  parts_none picks o = record { contents = []; are_contents = tt; archives_are = tt; content = refl }

  pub parts_more : (archives seen : List (Reader R)) (picks : List ℕ → Bool) (archive : Reader R) (o mid new other : Operations)
      → seen ≡ archives ++ archive ∷ [] → HasJoinedParts archives picks o mid → IsContent other
      → HoldsArchive archive other → new ≡ joined mid (part other picks) → HasJoinedParts seen picks o new
  parts_more archives seen picks archive o mid new other seen_is before content holds new_is =
      let one : Operations → Operations = λ (p : Operations). part p picks in
      record {
        contents = before.contents ++ other ∷ [];
        are_contents = all_more IsContent before.contents other before.are_contents content;
        archives_are = subst (λ (rs : List (Reader R)). AllZip HoldsArchive rs (before.contents ++ other ∷ []))
            (sym seen_is) (hold_more archives before.contents archive other before.archives_are holds);
        content = new_is ∙ ap (λ (p : Operations). joined p (part other picks)) before.content
            ∙ sym (fold-append joined o (map one before.contents) (part other picks ∷ []))
            ∙ ap (λ (ps : List Operations). merged o ps) (sym (map-append one before.contents (other ∷ [])));
      }

  -- what was joined is an archive
  pub parts_archives : (archives : List (Reader R)) (picks : List ℕ → Bool) (o mid : Operations)
      → HasJoinedParts archives picks o mid → AllByRecursion IsArchive archives
  parts_archives archives picks o mid joined = each_archive archives joined.contents joined.archives_are joined.are_contents

  -- all were read
  pub held_together : (archive : Reader R) (others : List (Reader R)) (picks : List ℕ → Bool) (first all : Operations)
      → HoldsPart archive picks first → HasJoinedParts others picks first all
      → HoldTogether archive others (AreAlikeWhere picks all)
  held_together archive others picks first all kept joined = record {
    content = kept.whole;
    contents = joined.contents;
    is_content = kept.is_content;
    are_contents = joined.are_contents;
    archive_is = kept.text;
    others_are = joined.archives_are;
    is_true = λ prefix short picked.
        rw joined.content (merged_alike prefix picks short picked kept.whole first joined.contents kept.is_content
        joined.are_contents (rw kept.kept (part_alike kept.whole picks prefix picked)));
  }

-- ---- one of them is refused, or memory is wanting

-- what is one refusal is another, which holds where that one does
pub refusal_of : (Refuses RefusesToo : InputName → Why → Type 0) (NoneFailed NoneFailedToo : Type 0)
    (fault : CommandFault) → ((at : InputName) (why : Why) → Refuses at why → RefusesToo at why)
    → (NoneFailed → NoneFailedToo)
    → IsRefusal Refuses NoneFailed fault → IsRefusal RefusesToo NoneFailedToo fault
refusal_of Refuses RefusesToo NoneFailed NoneFailedToo (Input at why) refuses unfailed r = refuses at why r
refusal_of Refuses RefusesToo NoneFailed NoneFailedToo OutOfMemory refuses unfailed r = unfailed r
refusal_of Refuses RefusesToo NoneFailed NoneFailedToo fault refuses unfailed r = r

pub first_refused : {R S : Type 0} (archive : Reader R) (others : List (Reader S)) (fault : CommandFault)
    → IsRefusal (IsRefusedArchive 0 archive) (Unfailed archive) fault → EachUntouched others → EachUnfailed others
    → IsRefusal (AreRefused archive others) (AreUnfailed archive others) fault
first_refused archive others fault r untouched unfailed = refusal_of _ _ _ _ fault (λ at why refused. inl (refused, untouched)) (λ u. (u, unfailed)) r

pub other_refused : {R S : Type 0} (archive : Reader R) (others : List (Reader S)) (fault : CommandFault) → IsArchive archive → Unfailed archive
    → IsRefusal (IsFirstRefused further_name IsArchive IsArchiveRefused others) (EachUnfailed others) fault
    → IsRefusal (AreRefused archive others) (AreUnfailed archive others) fault
other_refused archive others fault is unfailed r = refusal_of _ _ _ _ fault (λ at why refused. inr (is, unfailed, refused)) (λ u. (unfailed, u)) r

-- a command that reports ends so
pub together_refused : (Makes : Status → List ℕ → Type 0) (Refuses : InputName → Why → Type 0) (NoneFailed : Type 0)
    (report : Writer) (fault : CommandFault) → IsRefusal Refuses NoneFailed fault → Takes report []
    → EndsReport (record { Makes = Makes; Refuses = Refuses; Unfailed = NoneFailed }) report (Err fault)
together_refused Makes Refuses NoneFailed report (Output _) r t = r
together_refused Makes Refuses NoneFailed report (Report _) r t = absurd r
together_refused Makes Refuses NoneFailed report fault r t = (r, t)

-- memory was wanted before an archive was read
pub wanting_first : {R S T : Type 0} (archive : Reader R) (left : S → Option (List ℕ)) (failures : S → ℕ)
    (others : List S) (IsTrue : T → Operations → Type 0) (result : Result T CommandFault)
    → IsErrAnd result (λ fault. fault ≡ OutOfMemory) → Unfailed archive
    → ReadsTogether archive (readers left failures others others) result IsTrue
wanting_first archive left failures others IsTrue result is unfailed = let p = err_from_is_err_and result is
    in rw (p.1, p.2) (unfailed, none_failed left failures others)

-- what is true of each content that is alike is true of the join
pub together_tells : {R S : Type 0} (archive : Reader R) (others : List (Reader S))
    (IsAlike IsTrue : Operations → Type 0) → ((o : Operations) → IsAlike o → IsTrue o)
    → HoldTogether archive others IsAlike → HoldTogether archive others IsTrue
together_tells archive others IsAlike IsTrue tells held = record {
  content = held.content;
  contents = held.contents;
  is_content = held.is_content;
  are_contents = held.are_contents;
  archive_is = held.archive_is;
  others_are = held.others_are;
  is_true = tells (merged held.content held.contents) held.is_true;
}

-- with one archive what is true of its content is true of the join
alone : {R : Type 0} (left : R → Option (List ℕ)) (failures : R → ℕ) (archive : Reader R) (others : List R)
    (IsTrue : Operations → Type 0) → others ≡ [] → HoldsContent archive IsTrue
    → HoldTogether archive (readers left failures others others) IsTrue
alone left failures archive others IsTrue none held = rw none (record {
  content = held.content;
  contents = [];
  is_content = held.is_content;
  are_contents = tt;
  archive_is = held.text;
  others_are = tt;
  is_true = held.is_true;
})

pub no_others : {X : Type 0} (xs : List X) (empty : Bool) → empty ≡ nat_eq (length xs) 0 → empty ≡ true → xs ≡ []
no_others xs empty is holds = nil_from_length xs (eqb-true (length xs) 0 (sym is ∙ holds))

pub alone_told : {R T : Type 0} (left : R → Option (List ℕ)) (failures : R → ℕ) (archive : Reader R) (others : List R)
    (IsTrue : T → Operations → Type 0) (result : Result T CommandFault) → others ≡ []
    → ReadsInput archive result (λ input told. HoldsContent input (IsTrue told)) (IsRefusedArchive 0)
    → ReadsTogether archive (readers left failures others others) result IsTrue
alone_told left failures archive others IsTrue (Ok told) none read =
    record {
      is = alone left failures archive others (IsTrue told) none read.is;
      unfailed =
          (read.unfailed, none_failed left failures others);
    }
alone_told left failures archive others IsTrue (Err fault) none refused =
    first_refused archive (readers left failures others others) fault refused (none_touched left failures others)
    (none_failed left failures others)

-- ---- questions

pub first_there : (keys : List SliceKey) (key : SliceKey) → first_key keys ≡ Some key → Contains keys key
first_there [] key is = cc
first_there (first ∷ keys) key is = (0, omega arith, same_Some first key is)

pub behind_there : (keys : List SliceKey) (key : SliceKey) → Contains (drop 1 keys) key → Contains keys key
behind_there [] key there = there
behind_there (first ∷ keys) key there = in_rest first keys key there
