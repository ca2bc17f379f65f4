-- The rows that answer, as searches under UUIDs tell them, are those of the slices that answer in the content.
use Rattle.std.proofs.Common.{◌≡◌, ℕ, Bool, true, false, if◌then◌else◌, List, [], ◌∷◌, length, refl, sym, ap, ◌∙◌, subst, arith, inl, inr, w64}
use Rattle.std.specs.Int.{to_be_bytes}
use Rattle.std.specs.FinSet.{contains}
use Rattle.std.specs.List.{All, AllZip, Contains, flat_map}
use Rattle.std.proofs.lemmas.List.Elements.{All-contains, Contains-append_cases, Contains-append_left, Contains-append_right}
use Rattle.sha2.specs.Sha256.{sha256}
use Rattle.macho_image.specs.Contents.{is_dsym_image}
use Rattle.archive_core.specs.Content.{Operations, IsContent, IsLive}
use Rattle.archive_core.specs.Find.{IsFinds, IsFoundUnder, row_of}
use Rattle.archive_core.specs.Key.{IsKey, key_bytes}
use Rattle.archive_core.specs.Record.{IsOperation, admission, admission_record, retirement_record}
use Rattle.archive_core.specs.Valid.{IsValid, key_of}
use Rattle.archive_core.specs.declared.find.FindRow.{FindRow}
use Rattle.archive_core.specs.declared.find.FindState.TheVariants.{Retired, Image, Dsym}
use Rattle.archive_core.specs.declared.keys.SliceKey.{SliceKey}
use Rattle.archive_core.specs.declared.operations.Operation.{Operation}
use Rattle.archive_core.specs.declared.operations.Operation.TheVariants.{Admit, Retire}
use Rattle.archive_core.proofs.Compare.{length_key_bytes}
use Rattle.archive_core.proofs.Members.{in_cons, in_front, in_map, in_rest, to_map}
use Rattle.archive_core.proofs.Records.{length-key_of, same_parts}
use Rattle.text_reports.specs.Slices.{AnswersAmong, IsRetiredAmong, LivesAmong}
use Rattle.command_queries.specs.Slices.{AreUuidsOf, IsAnsweringRow}
use Rattle.command_frames.specs.InnerSlices.{AreRowsUnder}

-- ---- rows of one search, and of several

-- the row is that of an operation which is found under the UUID
abbrev IsFoundRow : Operations → List ℕ → FindRow → Type 0
IsFoundRow o uuid row = (a : Operation) × IsOperation a × IsFoundUnder o uuid a × (row ≡ row_of a)

found_in : (o : Operations) (uuid : List ℕ) (rows : List FindRow) → IsFinds o uuid rows → (row : FindRow) → Contains rows row → IsFoundRow o uuid row
found_in o uuid rows is row there =
    let one = in_map row_of is.operations row (subst (λ (l : List FindRow). Contains l row) is.rows_are there) in
    let told = (is.exactly one.0).0 one.1 in
    (one.0, told.0, told.1, one.2)

to_found : (o : Operations) (uuid : List ℕ) (rows : List FindRow) → IsFinds o uuid rows → (a : Operation)
    → IsOperation a → IsFoundUnder o uuid a → Contains rows (row_of a)
to_found o uuid rows is a operation found =
    subst (λ (l : List FindRow). Contains l (row_of a)) (sym is.rows_are) (to_map row_of is.operations a ((is.exactly a).1 (operation, found)))

abbrev all_of : List (List FindRow) → List FindRow
all_of lists = flat_map (λ (rows : List FindRow). rows) lists

in_lists : (o : Operations) (uuids : List (List ℕ)) (lists : List (List FindRow)) → AllZip (IsFinds o) uuids lists
    → (row : FindRow) → Contains (all_of lists) row
    → (uuid : List ℕ) × Contains uuids uuid × IsFoundRow o uuid row
in_lists o [] [] all row there = absurd (omega (arith, there.1))
in_lists o (uuid ∷ uuids) (rows ∷ lists) all row there = elim (Contains-append_cases rows (all_of lists) row there) [
  | inl here ↦ (uuid, in_front uuid uuids, found_in o uuid rows all.0 row here)
  | inr later ↦ let one = in_lists o uuids lists all.1 row later in (one.0, in_rest uuid uuids one.0 one.1, one.2)
]
in_lists o [] (rows ∷ lists) all row there = absurd all
in_lists o (uuid ∷ uuids) [] all row there = absurd all

to_lists : (o : Operations) (uuids : List (List ℕ)) (lists : List (List FindRow)) → AllZip (IsFinds o) uuids lists → (uuid : List ℕ) → Contains uuids uuid
    → (a : Operation) → IsOperation a → IsFoundUnder o uuid a → Contains (all_of lists) (row_of a)
to_lists o [] lists all uuid there a operation found = absurd (omega (arith, there.1))
to_lists o (first ∷ uuids) [] all uuid there a operation found = absurd all
to_lists o (first ∷ uuids) (rows ∷ lists) all uuid there a operation found = elim (in_cons first uuids uuid there) [
  | inl same ↦ Contains-append_left rows (all_of lists) (row_of a)
      (to_found o first rows all.0 a operation (subst (λ (u : List ℕ). IsFoundUnder o u a) (sym same) found))
  | inr later ↦ Contains-append_right rows (all_of lists) (row_of a) (to_lists o uuids lists all.1 uuid later a operation found)
]

-- ---- states

live_state : (b : Bool) → (if b then Dsym else Image) ≡ Retired → ⊥
live_state true e = cc
live_state false e = cc

dsym_state : (b : Bool) → (if b then Dsym else Image) ≡ Dsym → b ≡ true
dsym_state true e = refl
dsym_state false e = absurd (cc e)

-- what is live in a content under a key with a whole UUID is a slice
live_valid : (o : Operations) (key : SliceKey) (slice : List ℕ) → IsContent o → length key.uuid ≡ 16 → IsLive o key slice → IsValid slice
unfolding admission
live_valid o key slice content whole live = elim (content.records (admission_record slice) live.admitted) [
  | inl admits ↦
      let long : length (key_bytes (key_of slice)) ≡ 24 = length_key_bytes (key_of slice) (ap (λ (k : SliceKey). length k.uuid) live.under ∙ whole) in
      let same : admission slice ≡ admission admits.slice = cc (admits.is) in
      let behind_key = (same_parts (key_bytes (key_of slice)) (key_bytes (key_of admits.slice)) _ _
      (long ∙ sym (length-key_of admits.slice admits.valid)) same).1 in
      subst IsValid (sym (same_parts (to_be_bytes w64 (length slice)) (to_be_bytes w64 (length admits.slice)) slice
      admits.slice refl behind_key).1) admits.valid
  | inr retires ↦ cc (retires.is)
]

-- ---- rows that answer

module _ (o : Operations) (keys : List SliceKey) (uuids : List (List ℕ)) (pool : List FindRow) (content : IsContent o) (keyed : All IsKey keys)
    (are : AreUuidsOf keys uuids) (rows : AreRowsUnder o uuids pool) where
  -- the row is of a slice that is live under its key, with one of the UUIDs
  abbrev IsLiveRow : FindRow → Type 0
  IsLiveRow row = (slice : List ℕ) × IsLive o row.key slice × (row ≡ row_of (Admit slice)) × Contains uuids row.key.uuid

  found : (row : FindRow) → Contains pool row → (uuid : List ℕ) × Contains uuids uuid × IsFoundRow o uuid row
  found row there = in_lists o uuids rows.lists rows.finds row (subst (λ (l : List FindRow). Contains l row) rows.pool_is there)

  live_of : (row : FindRow) (uuid : List ℕ) → (row.state ≡ Retired → ⊥) → Contains uuids uuid → (a : Operation)
      → IsFoundUnder o uuid a → row ≡ row_of a → IsLiveRow row
  live_of row uuid alive asked (Admit slice) is row_is =
      let key : row.key ≡ key_of slice = ap (λ (r : FindRow). r.key) row_is in (
        slice,
        subst (λ (k : SliceKey). IsLive o k slice) (sym key) is.1,
        row_is,
        subst (Contains uuids) (sym (ap (λ (k : SliceKey). k.uuid) key ∙ is.0)) asked,
      )
  live_of row uuid alive asked (Retire key digest) is row_is = absurd (alive (ap (λ (r : FindRow). r.state) row_is))

  -- a row of another state than that of a retirement is of a live slice
  live_row : (row : FindRow) → Contains pool row → (row.state ≡ Retired → ⊥) → IsLiveRow row
  live_row row there alive =
      let one = found row there in
      live_of row one.0 alive one.1 one.2.0 one.2.2 one.2.3

  retires_not : (row other : FindRow) (slice uuid : List ℕ) → IsLive o row.key slice → row ≡ row_of (Admit slice)
      → (other.key ≡ row.key) × (other.digest ≡ row.digest) → other.state ≡ Retired
      → (a : Operation) → IsFoundUnder o uuid a → other ≡ row_of a → ⊥
  retires_not row other slice uuid live row_is same state (Admit admitted) is other_is =
      live_state (is_dsym_image admitted) (sym (ap (λ (r : FindRow). r.state) other_is) ∙ state)
  retires_not row other slice uuid live row_is same state (Retire key digest) is other_is =
      let key_is : key ≡ row.key = sym (ap (λ (r : FindRow). r.key) other_is) ∙ same.0 in
      let digest_is : digest.0 ≡ sha256 slice = ap (λ (r : FindRow). r.digest.0) (sym other_is) ∙ (λ i. (same.1 i).0)
      ∙ ap (λ (r : FindRow). r.digest.0) row_is in
      let e : contains o (retirement_record key digest.0) ≡ contains o (retirement_record row.key (sha256 slice)) =
      λ i. contains o (retirement_record (key_is i) (digest_is i)) in
      cc (e, is.1, live.kept)

  not_retired : (row : FindRow) (slice : List ℕ) → IsLive o row.key slice → row ≡ row_of (Admit slice) → IsRetiredAmong pool row → ⊥
  not_retired row slice live row_is retired =
      let one = found retired.0 retired.1 in
      retires_not row retired.0 slice one.0 live row_is retired.3 retired.2 one.2.0 one.2.2 one.2.3

  -- a live slice has a row, which lives among the rows
  live_lives : (row : FindRow) (slice : List ℕ) → IsValid slice → IsLive o row.key slice → row ≡ row_of (Admit slice)
      → Contains uuids row.key.uuid → LivesAmong pool row
  live_lives row slice valid live row_is asked =
      let there = to_lists o uuids rows.lists rows.finds row.key.uuid asked (Admit slice) valid
      (ap (λ (k : SliceKey). k.uuid) live.under, subst (λ (k : SliceKey). IsLive o k slice) (sym live.under) live) in (
        subst (λ (l : List FindRow). Contains l row) (sym rows.pool_is) (subst (Contains (all_of rows.lists)) (sym row_is) there),
        λ retired. live_state (is_dsym_image slice) (sym (ap (λ (r : FindRow). r.state) row_is) ∙ retired),
        not_retired row slice live row_is,
      )

  valid_of : (key : SliceKey) (slice : List ℕ) → Contains uuids key.uuid → IsLive o key slice → IsValid slice
  valid_of key slice asked live =
      let one = (are key.uuid).0 asked in
      let whole = All-contains IsKey keys one.0 keyed one.1 in
      live_valid o key slice content (ap length (sym one.2) ∙ whole.uuid) live

  pub answers_answer : (row : FindRow) → AnswersAmong pool row → IsAnsweringRow o keys row
  answers_answer row h =
      let of = live_row row h.0.0 h.0.1 in
      let first = λ (companion : List ℕ) (live : IsLive o row.key companion) (dsym : is_dsym_image companion ≡ true).
      elim h.1 as (λ _. is_dsym_image of.0 ≡ true) [
        | inl is ↦ dsym_state (is_dsym_image of.0) (sym (ap (λ (r : FindRow). r.state) of.2) ∙ is)
        | inr none ↦
            let own = subst (λ (k : SliceKey). IsLive o k companion) (sym live.under) live in
            let lives = live_lives (row_of (Admit companion)) companion (valid_of row.key companion of.3 live) own refl
            (subst (λ (k : SliceKey). Contains uuids k.uuid) (sym live.under) of.3) in
            absurd (none (row_of (Admit companion)) lives live.under (ap (λ (b : Bool). if b then Dsym else Image) dsym))
      ] in
      record {
        slice = of.0;
        answers = record { live = of.1; companions_first = first };
        row_is = of.2;
        asked = (are row.key.uuid).0 of.3;
      }

  kind : (row : FindRow) (is : IsAnsweringRow o keys row) (b : Bool) → is_dsym_image is.slice ≡ b → LivesAmong pool row → AnswersAmong pool row
  kind row is true e lives = (lives, inl (ap (λ (r : FindRow). r.state) is.row_is ∙ ap (λ (b : Bool). if b then Dsym else Image) e))
  kind row is false e lives = (
    lives,
    inr (λ other other_lives same dsym.
        let of = live_row other other_lives.0 other_lives.1 in
        let live = subst (λ (k : SliceKey). IsLive o k of.0) same of.1 in
        let first = is.answers.companions_first of.0 live (dsym_state (is_dsym_image of.0) (sym (ap (λ (r : FindRow). r.state) of.2) ∙ dsym)) in
        cc (first, e)),
  )

  pub answer_answers : (row : FindRow) → IsAnsweringRow o keys row → AnswersAmong pool row
  answer_answers row is =
      let asked = (are row.key.uuid).1 is.asked in
      let live = is.answers.live in
      kind row is (is_dsym_image is.slice) refl (live_lives row is.slice (valid_of row.key is.slice asked live) live is.row_is asked)
