-- Any bytes are the text of an index or have a fault.
use Rattle.std.proofs.Common.{◌≡◌, ℕ, ◌+◌, ◌-◌, ◌*◌, ◌<◌, ◌≤◌, ◌^◌, zero, suc, Bool, true, false, List, [], ◌∷◌, ◌++◌}
use Rattle.std.proofs.Common.{length, take, drop, get_or, refl, sym, ap, ◌∙◌, subst, inl, inr, arith, append_assoc}
use Rattle.std.proofs.Common.{length-drop}
use Rattle.std.specs.Prelude.{◌⊎◌, Result, Ok, Err}
use Rattle.std.specs.Int.{w64, from_be_bytes, to_be_bytes}
use Rattle.std.specs.List.{concat, insert}
use Rattle.std.specs.List.Sorted.{IsNonDecreasingBy, IsPermutation}
use Rattle.std.specs.Str.{bytes_eq}
use Rattle.std.proofs.lemmas.Bool.{cases_Bool, cases_eq, cases_lt}
use Rattle.std.proofs.lemmas.List.{length-take-le, take-append-drop}
use Rattle.std.proofs.lemmas.List.Sorted.{IsNonDecreasingBy-drop, IsNonDecreasingBy-insert, IsNonDecreasingBy-short}
use Rattle.std.proofs.lemmas.List.Sorted.{IsPermutation-cons, IsPermutation-insert, IsPermutation-refl}
use Rattle.std.proofs.lemmas.List.Sorted.{IsPermutation-trans}
use Rattle.std.proofs.lemmas.Nat.{be_bytes_8}
use Rattle.std.proofs.lemmas.Slice.Eq.{bytes_eq-Decides}
use Rattle.table_checked_pages.specs.Pages.{AreStored, Claim, digests_size, root_of, stored}
use Rattle.table_checked_pages.proofs.PageLemmas.{length-stored}
use Rattle.archive_core.specs.Content.{is_admission}
use Rattle.archive_records.specs.Text.{last_of}
use Rattle.archive_records.proofs.Forms.{IsBytes, IsBytes-drop, IsBytes-take}
use Rattle.index_format.specs.Entry.{length_in, offset_in}
use Rattle.index_format.specs.Entry.{claim_in, stored_size}
use Rattle.index_format.specs.Fault.{HasDigest, HasEnds, IsIndexFault, beginning_offset, check_end, check_beginning}
use Rattle.index_format.specs.InnerReading.{AreEndsOf, end_bytes}
use Rattle.index_format.specs.Text.{AreLaid, FollowOn, HasNumbers, IsIndexText, PassChecks, archive_length, archive_length_in, check_entry}
use Rattle.index_format.specs.Text.{count_in, entries_claim, entries_in, first_in, retired_in, retirements_in, root_in, start_in}
use Rattle.index_format.specs.declared.ends.Ends.{Ends}
use Rattle.index_format.specs.declared.index_fault.IndexFault.{IndexFault}
use Rattle.index_format.specs.declared.index_fault.IndexFaultKind.{IndexFaultKind}
use Rattle.index_format.specs.declared.index_fault.IndexFaultKind.TheVariants.{BadDigest, BadPlace}
use Rattle.index_format.proofs.PlaceLemmas.{follow_sorted}
use Rattle.index_format.proofs.Checks.{long_entries}
use Rattle.index_format.proofs.EndLemmas.{number_at, part_at, parts_of_end, tag_at}
use Rattle.index_format.proofs.IndexTexts.{end_passed, first_after, first_fills, front_passed, length_entries, tables_long, whole_text}

-- ---- the text of entries that were read

pub index_of : (text : List ℕ) (ends : Ends) (entries : List (List ℕ)) → AreEndsOf text ends → ends.count < 2 ^ 64
    → ends.archive_len < 2 ^ 64 → HasDigest text → concat entries ≡ entries_in text → PassChecks (start_in text) [] entries
    → AreLaid (start_in text) entries → HasNumbers text entries → IsIndexText text entries
index_of text ends entries are few short digest whole pass laid numbers =
    let each : length (concat entries) ≡ 122 * length entries = long_entries (start_in text) [] entries pass in
    let long : length (concat entries) ≡ 122 * count_in text = ap length whole ∙ length_entries text are.has in
    let count : length entries ≡ count_in text = omega (arith, each, long) in
    let start = tables_long text ends are in
    record {
      tables = take (start_in text - 8) (drop 8 text);
      whole = whole_text text ends are entries whole count digest numbers;
      few = omega (arith, count, are.count_is, few);
      short = omega (arith, numbers.length_is, are.length_is, short);
      pass = subst (λ (n : ℕ). PassChecks n [] entries) (sym start) pass;
      laid = subst (λ (n : ℕ). AreLaid n entries) (sym start) laid;
    }

-- ---- bytes are entries, or one of them fails

record Parsed (end : ℕ) (low bytes : List ℕ) : Type 0 where
  entries : List (List ℕ)
  whole : bytes ≡ concat entries
  pass : PassChecks end low entries

record Stopped (end : ℕ) (low bytes : List ℕ) : Type 0 where
  before : List (List ℕ)
  rest : List ℕ
  kind : IndexFaultKind
  pass : PassChecks end low before
  whole : bytes ≡ concat before ++ rest
  long : 122 ≤ length rest
  fails : check_entry end (last_of low before) (take 122 rest) ≡ Err kind

parsed_more : (end : ℕ) (low bytes : List ℕ) → length (take 122 bytes) ≡ 122 → check_entry end low (take 122 bytes)
    ≡ Ok tt → Parsed end (take 122 bytes) (drop 122 bytes) ⊎ Stopped end (take 122 bytes) (drop 122 bytes)
    → Parsed end low bytes ⊎ Stopped end low bytes
parsed_more end low bytes long passes (inl p) = inl (record {
  entries = take 122 bytes ∷ p.entries;
  whole = sym (take-append-drop 122 bytes) ∙ ap (λ (t : List ℕ). take 122 bytes ++ t) p.whole;
  pass = (long, passes, p.pass);
})
parsed_more end low bytes long passes (inr s) = inr (record {
  before = take 122 bytes ∷ s.before;
  rest = s.rest;
  kind = s.kind;
  pass = (long, passes, s.pass);
  whole = sym (take-append-drop 122 bytes) ∙ ap (λ (t : List ℕ). take 122 bytes ++ t) s.whole ∙ sym (append_assoc (take 122 bytes) (concat s.before) s.rest);
  long = s.long;
  fails = s.fails;
})

parse_next : (end : ℕ) (low bytes : List ℕ) (r : Result (Unit {0}) IndexFaultKind)
    → check_entry end low (take 122 bytes) ≡ r → 122 ≤ length bytes → Parsed end (take 122 bytes) (drop 122 bytes)
    ⊎ Stopped end (take 122 bytes) (drop 122 bytes) → Parsed end low bytes ⊎ Stopped end low bytes
parse_next end low bytes (Err kind) is long rest = inr (record { before = []; rest = bytes; kind = kind; pass = tt; whole = refl; long = long; fails = is })
parse_next end low bytes (Ok tt) is long rest = parsed_more end low bytes (length-take-le 122 bytes long) is rest

parse : (end n : ℕ) (low bytes : List ℕ) → length bytes ≡ 122 * n → Parsed end low bytes ⊎ Stopped end low bytes
parse end zero low [] long = inl (record { entries = []; whole = refl; pass = tt })
parse end zero low (b ∷ bs) long = absurd (omega (arith, long))
parse end (suc n) low bytes long =
    parse_next end low bytes (check_entry end low (take 122 bytes)) refl (omega (arith, long))
    (parse end n (take 122 bytes) (drop 122 bytes) (omega (arith, long, length-drop 122 bytes)))

-- ---- entries in the order of their offsets

-- where an entry belongs among others
record Belongs (y : List ℕ) (xs : List (List ℕ)) : Type 0 where
  at : ℕ
  within : at ≤ length xs
  below : (k : ℕ) (d : List ℕ) → k < at → offset_in (get_or xs k d) ≤ offset_in y
  above : (k : ℕ) (d : List ℕ) → at ≤ k → k < length xs → offset_in y ≤ offset_in (get_or xs k d)

below_more : (x y : List ℕ) (xs : List (List ℕ)) (at : ℕ) → offset_in x < offset_in y
    → ((k : ℕ) (d : List ℕ) → k < at → offset_in (get_or xs k d) ≤ offset_in y) → (k : ℕ) (d : List ℕ) → k < suc at
    → offset_in (get_or (x ∷ xs) k d) ≤ offset_in y
below_more x y xs at less below zero d lt = omega (arith, less)
below_more x y xs at less below (suc k) d lt = below k d (omega (arith, lt))

above_more : (x y : List ℕ) (xs : List (List ℕ)) (at : ℕ)
    → ((k : ℕ) (d : List ℕ) → at ≤ k → k < length xs → offset_in y ≤ offset_in (get_or xs k d)) → (k : ℕ) (d : List ℕ)
    → suc at ≤ k → k < length (x ∷ xs) → offset_in y ≤ offset_in (get_or (x ∷ xs) k d)
above_more x y xs at above zero d le lt = absurd (omega (arith, le))
above_more x y xs at above (suc k) d le lt = above k d (omega (arith, le)) (omega (arith, lt))

belongs : (y : List ℕ) (xs : List (List ℕ)) → IsNonDecreasingBy offset_in xs → Belongs y xs
belongs y [] up = record { at = 0; within = omega arith; below = λ k d lt. absurd (omega (arith, lt)); above = λ k d le lt. absurd (omega (arith, lt)) }
belongs y (x ∷ xs) up = elim (cases_lt (offset_in x) (offset_in y)) [
  | inl less ↦
      let p = belongs y xs (IsNonDecreasingBy-drop offset_in 1 (x ∷ xs) up) in
      record { at = suc p.at; within = omega (arith, p.within); below = below_more x y xs p.at less p.below; above = above_more x y xs p.at p.above }
  | inr least ↦ record {
    at = 0;
    within = omega arith;
    below = λ k d lt. absurd (omega (arith, lt));
    above =
        λ k d le lt. omega (arith, least, up 0 k d (omega arith) lt);
  }
]

record Sorted (xs : List (List ℕ)) : Type 0 where
  order : List (List ℕ)
  moved : IsPermutation xs order
  up : IsNonDecreasingBy offset_in order

sorted : (xs : List (List ℕ)) → Sorted xs
sorted [] = record { order = []; moved = IsPermutation-refl []; up = IsNonDecreasingBy-short offset_in [] (omega arith) }
sorted (x ∷ xs) =
    let s = sorted xs in
    let p = belongs x s.order s.up in
    record {
      order = insert s.order p.at x;
      moved = IsPermutation-trans (x ∷ xs) (x ∷ s.order) (insert s.order p.at x)
          (IsPermutation-cons x xs s.order s.moved) (IsPermutation-insert s.order p.at x);
      up = IsNonDecreasingBy-insert offset_in s.order p.at x s.up p.within p.below p.above;
    }

-- ---- entries follow one another, or do not

same_if : (b : Bool) (m n : ℕ) → (b ≡ true → m ≡ n) ⊎ ((b ≡ true → m ≡ n) → ⊥)
same_if true m n = elim (cases_eq m n) [
  | inl same ↦ inl (λ t. same)
  | inr other ↦ inr (λ h. other (h refl))
]
same_if false m n = inl (λ t. absurd (cc (t)))

follow_or_not : (offset at end : ℕ) (xs : List (List ℕ)) → FollowOn offset at end xs ⊎ (FollowOn offset at end xs → ⊥)
follow_or_not offset at end [] = cases_eq at end
follow_or_not offset at end (x ∷ xs) = elim (cases_eq (offset_in x) offset) [
  | inr other ↦ inr (λ f. other f.0)
  | inl here ↦ elim (same_if (is_admission x) (claim_in x).offset at) [
    | inr other ↦ inr (λ f. other f.1)
    | inl there ↦ elim (follow_or_not (offset + length_in x) (at + stored_size (claim_in x)) end xs) [
      | inr other ↦ inr (λ f. other f.2)
      | inl rest ↦ inl (here, there, rest)
    ]
  ]
]

-- ---- a text

abbrev pub IsDecided : List ℕ → Type 0
IsDecided text = ((entries : List (List ℕ)) × IsIndexText text entries) ⊎ ((fault : IndexFault) × IsIndexFault text fault)

by_front : (text : List ℕ) (r : Result (Unit {0}) IndexFaultKind) → check_beginning text ≡ r → (check_beginning text ≡ Ok tt → IsDecided text) → IsDecided text
by_front text (Err kind) is rest = inr (record { kind = kind; offset = beginning_offset text kind }, inl (record { fails = is; offset_is = refl }))
by_front text (Ok tt) is rest = rest is

by_end : (text : List ℕ) (r : Result (Unit {0}) IndexFaultKind) → check_beginning text ≡ Ok tt → check_end text ≡ r
    → (HasEnds text → IsDecided text) → IsDecided text
by_end text (Err kind) beginning is rest = inr (
  record { kind = kind; offset = length text - 57 },
  inr (inl (record { beginning = beginning; fails = is; offset_is = refl })),
)
by_end text (Ok tt) beginning is rest = rest (record { beginning = beginning; end = is })

-- whether bytes are stored by a claim
stored_or_not : (text bytes : List ℕ) (claim : Claim) → length bytes ≡ claim.size → claim.offset + length (stored bytes) ≤ length text
    → AreStored text claim bytes ⊎ (AreStored text claim bytes → ⊥)
stored_or_not text bytes claim size within =
    let here : List ℕ = take (length (stored bytes)) (drop claim.offset text) in
    elim (cases_Bool (bytes_eq (root_of bytes) claim.root)) [
      | inr f ↦ inr (λ are. cc (f, (bytes_eq-Decides (root_of bytes) claim.root).1 are.root))
      | inl root ↦ elim (cases_Bool (bytes_eq here (stored bytes))) [
        | inr f ↦ inr (λ are. cc (f, (bytes_eq-Decides here (stored bytes)).1 are.bytes))
        | inl there ↦ inl (record {
          size = size;
          root = (bytes_eq-Decides (root_of bytes) claim.root).0 root;
          within = within;
          bytes = (bytes_eq-Decides here (stored bytes)).0 there;
        })
      ]
    ]

by_digest : (text : List ℕ) → HasEnds text → (HasDigest text → IsDecided text) → IsDecided text
by_digest text ends rest =
    let size = length_entries text ends in
    let long : length (stored (entries_in text)) ≡ digests_size (122 * count_in text) + 122 * count_in text =
    length-stored (entries_in text) ∙ ap (λ n. digests_size n + n) size in
    let within : start_in text + length (stored (entries_in text)) ≤ length text =
    omega (arith, long, first_after text ends, first_fills text ends) in
    elim (stored_or_not text (entries_in text) (entries_claim text) size within) [
      | inl t ↦ rest (record { ends = ends; stored = t })
      | inr f ↦
          inr (
            record { kind = BadDigest; offset = start_in text },
            inr (inr (inl (record { ends = ends; kind_is = refl; offset_is = refl; other = f }))),
          )
    ]

number_fits : (bs : List ℕ) → IsBytes bs → from_be_bytes w64 bs < 2 ^ 64
number_fits bs fits = omega (arith, fits 0, fits 1, fits 2, fits 3, fits 4, fits 5, fits 6, fits 7)

module _ (text : List ℕ) (bytes : IsBytes text) (digest : HasDigest text) where
  abbrev end : List ℕ
  end = drop (length text - 57) text

  end_long : length end ≡ 57
  end_long = omega (arith, (front_passed text digest.ends.beginning).1, length-drop (length text - 57) text)

  -- eight bytes of the end record
  abbrev number : ℕ → List ℕ
  number k = take 8 (drop k end)

  number_bytes : (k : ℕ) → IsBytes (number k)
  number_bytes k = IsBytes-take 8 (drop k end) (IsBytes-drop k end (IsBytes-drop (length text - 57) text bytes))

  number_long : (k : ℕ) → k ≤ 49 → length (number k) ≡ 8
  number_long k h = length-take-le 8 (drop k end) (omega (arith, h, end_long, length-drop k end))

  number_is : (k : ℕ) → k ≤ 49 → to_be_bytes w64 (from_be_bytes w64 (number k)) ≡ number k
  number_is k h = be_bytes_8 (number k) (from_be_bytes w64 (number k)) (number_long k h) (number_bytes k) refl

  abbrev ends : Ends
  ends = record {
    start = start_in text;
    first = first_in text;
    count = from_be_bytes w64 (number 1);
    retired = from_be_bytes w64 (number 9);
    archive_len = from_be_bytes w64 (number 17);
    root = root_in text;
  }

  are : AreEndsOf text ends
  are =
      let room = (front_passed text digest.ends.beginning).1 in
      let tag = tag_at text end room refl ∙ (end_passed text digest.ends.end).0 in
      record {
        has = digest.ends;
        start_is = refl;
        first_is = refl;
        count_is = number_at text end room refl 1 (omega arith);
        retired_is = number_at text end room refl 9 (omega arith);
        length_is = number_at text end room refl 17 (omega arith);
        root_is = refl;
        end_is = parts_of_end end ends.count ends.retired ends.archive_len end_long tag (number_is 1 (omega arith))
            (number_is 9 (omega arith)) (number_is 17 (omega arith))
            ∙ ap (end_bytes ends.count ends.retired ends.archive_len) (part_at text end room refl 25 (omega arith));
      }

  unplaced : (p : Parsed (start_in text) [] (entries_in text))
      → (AreLaid (start_in text) p.entries → HasNumbers text p.entries → ⊥) → IsDecided text
  unplaced p other =
      inr (
        record { kind = BadPlace; offset = start_in text },
        inr (inr (inr (inr (record {
          digest = digest;
          entries = p.entries;
          whole = p.whole;
          pass = p.pass;
          unlaid = other;
          kind_is = refl;
          offset_is = refl;
        })))),
      )

  by_places : Parsed (start_in text) [] (entries_in text) → IsDecided text
  by_places p =
      let s = sorted p.entries in
      elim (follow_or_not 8 8 (start_in text) s.order) [
        | inr other ↦
            unplaced p (λ laid numbers. other (follow_sorted (start_in text) p.entries s.order p.pass s.moved s.up laid))
        | inl follow ↦
            let laid : AreLaid (start_in text) p.entries = record { order = s.order; permuted = s.moved; follow = follow } in
            elim (cases_eq (retirements_in text) (retired_in p.entries)) [
              | inr other ↦ unplaced p (λ laid numbers. other numbers.retired_is)
              | inl retired ↦ elim (cases_eq (archive_length_in text) (archive_length p.entries)) [
                | inr other ↦ unplaced p (λ laid numbers. other numbers.length_is)
                | inl long ↦
                    inl (
                      p.entries,
                      index_of text ends p.entries are (number_fits (number 1) (number_bytes 1))
                          (number_fits (number 17) (number_bytes 17)) digest (sym p.whole) p.pass laid
                          (record { retired_is = retired; length_is = long }),
                    )
              ]
            ]
      ]

  by_entries : IsDecided text
  by_entries = elim (parse (start_in text) (count_in text) [] (entries_in text) (length_entries text digest.ends)) [
    | inl p ↦ by_places p
    | inr s ↦
        inr (
          record { kind = s.kind; offset = first_in text + length (concat s.before) },
          inr (inr (inr (inl (record {
            digest = digest;
            before = s.before;
            after = record { pass = s.pass; rest = s.rest; whole = s.whole; long = s.long; fails = s.fails; offset_is = refl };
          })))),
        )
  ]

pub decided : (text : List ℕ) → IsBytes text → IsDecided text
decided text bytes =
    by_front text (check_beginning text) refl (λ beginning. by_end text (check_end text) beginning refl
    (λ ends. by_digest text ends (λ digest. by_entries text bytes digest)))
