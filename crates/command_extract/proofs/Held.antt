-- Slices that are held under a key.
use Rattle.std.proofs.Common.{◌≡◌, ℕ, ◌+◌, ◌<◌, true, List, [], ◌∷◌, ◌++◌, length, take, drop, get_or, refl, sym, ap, subst, ◌∙◌}
use Rattle.std.proofs.Common.{arith, append_assoc, length-append, inl, inr}
use Rattle.std.specs.List.{Contains}
use Rattle.std.specs.Int.{w64, to_be_bytes}
use Rattle.std.specs.Cmp.Lexicographic.{nat_list_cmp_total}
use Rattle.std.specs.FinSet.{contains}
use Rattle.std.proofs.lemmas.List.{append-nil, drop_at, take_more}
use Rattle.std.proofs.lemmas.List.Elements.{Contains-get_or, Contains-push_cases}
use Rattle.sha2.specs.Sha256.{sha256}
use Rattle.join_core.specs.Listing.{listing}
use Rattle.archive_core.specs.Content.{Operations, IsContent, IsLive}
use Rattle.archive_core.specs.Find.{AreAnswering}
use Rattle.archive_core.specs.Key.{key_bytes}
use Rattle.archive_core.specs.Part.{AreAlikeUnder}
use Rattle.archive_core.specs.Record.{admission, admission_record, retirement_record}
use Rattle.archive_core.specs.Valid.{IsValid, key_of}
use Rattle.archive_core.specs.declared.keys.SliceKey.{SliceKey}
use Rattle.archive_core.proofs.Entries.{covering_admission}
use Rattle.archive_core.proofs.Made.{bytes_same, uncovered_of_made}
use Rattle.archive_core.proofs.Members.{in_listing}
use Rattle.archive_core.proofs.Picked.{admission_under, retirement_under}

-- a slice, read back from its record
slice_in : (slice : List ℕ) → length (key_bytes (key_of slice)) ≡ 24 → drop 33 (admission_record slice) ≡ slice
unfolding admission
slice_in slice long =
    let prefix : List ℕ = key_bytes (key_of slice) ++ to_be_bytes w64 (length slice) in
    ap (drop 32) (sym (append_assoc (key_bytes (key_of slice)) (to_be_bytes w64 (length slice)) slice))
    ∙ drop_at prefix slice 32 (omega (arith, length-append (key_bytes (key_of slice)) (to_be_bytes w64 (length slice)), long))

-- one record is of one slice
pub same_slice : (a b : List ℕ) → length (key_bytes (key_of a)) ≡ 24 → length (key_bytes (key_of b)) ≡ 24
    → admission_record a ≡ admission_record b → a ≡ b
same_slice a b long_a long_b same = sym (slice_in a long_a) ∙ ap (drop 33) same ∙ slice_in b long_b

-- what a content has of a key is live there
pub live_there : (o : Operations) (key : SliceKey) (slice : List ℕ) → IsContent o → IsValid slice → key_of slice ≡ key
    → contains o (admission_record slice) ≡ true → IsLive o key slice
live_there o key slice content valid under there = record {
  admitted = there;
  under = under;
  kept = ap (λ (k : SliceKey). contains o (retirement_record k (sha256 slice))) (sym under)
      ∙ ap (contains o) (sym (covering_admission slice valid)) ∙ uncovered_of_made o content.itself (admission_record slice) there;
}

-- the record at a place of its list is there
pub listed_there : (o : Operations) (index : ℕ) (r : List ℕ) → index < length (listing o) → r ≡ get_or (listing o) index []
    → contains o r ≡ true
listed_there o index r lt is =
    (in_listing nat_list_cmp_total bytes_same o r).0
    (subst (λ (s : List ℕ). Contains (listing o) s) (sym is) (Contains-get_or (listing o) index [] lt))

-- one record more was looked at
pub looked_at : (o : Operations) (index : ℕ) (r : List ℕ) → index < length (listing o)
    → (Contains (take index (listing o)) r → ⊥) → (get_or (listing o) index [] ≡ r → ⊥) → Contains (take (index + 1) (listing o)) r → ⊥
looked_at o index r lt before other there =
    elim (Contains-push_cases (take index (listing o)) (get_or (listing o) index []) r
    (subst (λ (rs : List (List ℕ)). Contains rs r) (take_more (listing o) index [] lt) there)) [
      | inl earlier ↦ before earlier
      | inr this ↦ other this
    ]

-- what is live under a key is live in each content that is alike there
pub live_alike : (o p : Operations) (key : SliceKey) → AreAlikeUnder (key_bytes key) o p → (slice : List ℕ) → IsLive o key slice
    → IsLive p key slice
live_alike o p key same slice live =
    let whole : key_bytes key ≡ key_bytes key ++ [] = sym (append-nil (key_bytes key)) in
    record {
      admitted = sym (same (admission_record slice) (admission_under (key_bytes key) [] slice (ap key_bytes live.under ∙ whole))) ∙ live.admitted;
      under = live.under;
      kept = sym (same (retirement_record key (sha256 slice)) (retirement_under (key_bytes key) [] key (sha256 slice) whole)) ∙ live.kept;
    }

-- the only slice that answers is there
pub one_there : (o : Operations) (key : SliceKey) (slices : List (List ℕ)) (slice : List ℕ) → AreAnswering o key slices → slices ≡ slice ∷ []
    → contains o (admission_record slice) ≡ true
one_there o key slices slice are is = (((subst (AreAnswering o key) is are).exactly slice).0 (0, omega arith, refl)).live.admitted
