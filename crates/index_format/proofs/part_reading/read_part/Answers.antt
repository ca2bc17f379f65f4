use Rattle.std.proofs.Common.{◌≡◌, ◌+◌, ◌*◌, ◌<◌, ◌^◌, ◌∙◌, ℕ, List, [], inl, inr, length, refl, rules, subst, sym}
use Rattle.std.specs.Prelude.{◌⊎◌, Err, IfErr, IfOk, IfSome, MatchResult, Ok, Option, Result}
use Rattle.std.specs.List.{AllByRecursion, concat}
use Rattle.table_checked_pages.specs.Pages.{AreStored, Claim, MayBeStored}
use Rattle.table_checked_pages.specs.Reading.{ReadsStored}
use Rattle.table_checked_pages.specs.Views.{claim_view}
use Rattle.table_checked_pages.specs.declared.fault.CheckFault.{CheckFault}
use Rattle.table_checked_pages.specs.declared.fault.CheckFault.TheVariants.{Changed, Device, OutOfMemory as NoMemory}
use Rattle.index_format.specs.InnerPaged.{HaveTags, IsUnreadPart, MayHold, PassInPart, bytes_of, numbers_of}
use Rattle.index_format.specs.InnerPart.{AreUnder}
use Rattle.index_format.specs.InnerReading.{unread_kind}
use Rattle.index_format.specs.Paged.{only}
use Rattle.index_format.specs.Reading.{ReadsText}
use Rattle.index_format.specs.Spread.{AreNumbers, spread}
use Rattle.index_format.specs.Tree.{is_under_one}
use Rattle.index_format.specs.declared.index_fault.IndexFault.{IndexFault}
use Rattle.index_format.specs.declared.index_fault.IndexFaultKind.TheVariants.{OutOfMemory}
use Rattle.index_format.specs.declared.paged_entry.PagedEntry.{PagedEntry}
use Rattle.index_format.proofs.Checks.{pass_ascending}
use Rattle.index_format.proofs.PartChecks.{long_part, many_read, part_filter, pass_checks, read_bytes, tags_in_part}
use Rattle.index_format.proofs.ReadLemmas.{checked}
use Rattle.index_format.proofs.part_reading.read_part.Goals as goal

-- entries that pass ascend, and each has a tag
have_tags : (text : List ℕ) (claim : Claim) (count retired : ℕ) (entries : List (List ℕ))
    → MayHold text claim count retired entries → HaveTags retired entries
have_tags text claim count retired entries may = record {
  ascending = (pass_ascending claim.offset [] entries (pass_checks claim.offset [] entries may.pass)).1;
  tags = tags_in_part claim.offset [] entries may.pass;
  retired_is = may.retired_is;
}

-- what was read, of entries that may be stored there
abbrev AreOf : List ℕ → Claim → ℕ → ℕ → List (List ℕ) → List PagedEntry → Type 0
AreOf text claim count retired uuids read =
    (entries : List (List ℕ)) → MayBeStored text claim (concat entries) → length entries ≡ count
    → AllByRecursion (λ e. length e ≡ 122) entries → HaveTags retired entries
    → spread count (numbers_of read) (bytes_of read) ≡ only (is_under_one uuids) entries

-- what the checks say of the text
said : (r : Result (List (List ℕ)) IndexFault) (text : List ℕ) (claim : Claim) (count retired first : ℕ)
    (uuids : List (List ℕ)) (read : List PagedEntry)
    → IfOk r (λ part. part ≡ spread count (numbers_of read) (bytes_of read))
    → IfErr r (λ fault. ((fault.kind ≡ OutOfMemory) × (fault.offset ≡ claim.offset))
    ⊎ ((number : ℕ) × (fault.offset ≡ first + 122 * number) × (PassInPart claim.offset [] (bytes_of read) → ⊥)))
    → AreNumbers count (numbers_of read) → AreOf text claim count retired uuids read
    → MatchResult r
    (λ part. (entries : List (List ℕ)) → MayHold text claim count retired entries → part ≡ only (is_under_one uuids) entries)
    (IsUnreadPart text claim count retired first)
said (Ok part) text claim count retired first uuids read is faulty numbers of = λ entries may.
    is ∙ of entries may.stored may.many (long_part claim.offset [] entries may.pass) (have_tags text claim count retired entries may)
said (Err fault) text claim count retired first uuids read is (inl machine) numbers of = inl (inr machine.0, machine.1)
said (Err fault) text claim count retired first uuids read is (inr one) numbers of = inr (inr (
  one.0,
  one.1,
  λ entries may.
      let long = long_part claim.offset [] entries may.pass in
      let whole = of entries may.stored may.many long (have_tags text claim count retired entries may) in
      one.2 (subst (PassInPart claim.offset [])
      (sym (read_bytes (is_under_one uuids) count read entries (many_read read) numbers long whole))
      (part_filter (is_under_one uuids) claim.offset [] entries may.pass)),
))

-- a fault of the pages is one of the part
fault_as : {D T U : Type 0} (whole : D → Option (List ℕ)) (failures : D → ℕ) (old new : D) (f : CheckFault)
    (claim : Claim) (count retired first : ℕ) (A : List ℕ → T → Type 0) (A' : List ℕ → U → Type 0)
    → ReadsStored whole failures old new (Err f) A (λ text. length text < 2 ^ 64 → (all : List ℕ) → AreStored text claim all → ⊥)
    → ReadsText whole failures old new (Err (record { kind = unread_kind f; offset = claim.offset })) A'
    (λ text fault. IsUnreadPart text claim count retired first fault)
fault_as whole failures old new Changed claim count retired first A A' h = record {
  says = λ text known. inr (inr (inl (refl, refl, h.says text known)));
  keeps = h.keeps;
  counts = h.counts;
}
fault_as whole failures old new Device claim count retired first A A' h = record {
  says = λ text known. inr (inl (inl refl, refl));
  keeps = h.keeps;
  counts = h.counts;
}
fault_as whole failures old new NoMemory claim count retired first A A' h = record {
  says = λ text known. inr (inl (inr refl, refl));
  keeps = h.keeps;
  counts = h.counts;
}

pub returns-in-Ok-None : goal.returns-in-Ok-None
returns-in-Ok-None g c =
    let read = c.in-Ok-None.ensures.read in
    checked _ _ _ _ _ _ _ read.keeps read.counts
    (λ text known. inr (inr (
      c.args.retired,
      refl,
      λ entries may.
          subst (AreUnder c.args.count c.args.uuids.now entries) c.in-Ok-None.field-0-is
          (read.says text known entries may.stored may.many (long_part c.args.claim.offset [] entries may.pass)
          (have_tags text (claim_view c.args.claim) c.args.count c.args.retired entries may)),
    )))
    (search rules)

pub returns-in-Ok-Some : goal.returns-in-Ok-Some
returns-in-Ok-Some g c =
    let read = c.in-Ok-Some.ensures.read in
    let is = c.in-Ok-Some.field-0-is in
    let same = sym c.deref.ensures.value in
    let numbers = subst (λ some. IfSome some (λ xs. AreNumbers c.args.count (numbers_of xs.items))) is c.in-Ok-Some.ensures.numbers in
    checked _ _ _ _ _ _ _ read.keeps read.counts
    (λ text known. said c.part_of.result text (claim_view c.args.claim) c.args.count c.args.retired c.args.first
    c.args.uuids.now c.deref.result.now c.part_of.ensures.part c.part_of.ensures.faulty
    (subst (λ (xs : List PagedEntry). AreNumbers c.args.count (numbers_of xs)) same numbers)
    (subst (AreOf text (claim_view c.args.claim) c.args.count c.args.retired c.args.uuids.now) same
    (λ entries may many long tags. subst (AreUnder c.args.count c.args.uuids.now entries) is (read.says text known entries may many long tags))))
    c.part_of.ensures.device

pub returns-in-Err : goal.returns-in-Err
returns-in-Err g c =
    rw c.unread.ensures (fault_as _ _ _ _ c.in-Err.fault (claim_view c.args.claim) c.args.count c.args.retired c.args.first _ _
    c.in-Err.ensures.read)
