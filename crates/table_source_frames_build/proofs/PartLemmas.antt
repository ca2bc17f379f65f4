-- The parts of a table and their bytes, by numbers and as they are defined.
use Rattle.std.proofs.Common.{◌≡◌, ℕ, zero, suc, ◌+◌, ◌≤◌, List, [], ◌∷◌, ◌++◌, drop, map, length, reverse, refl, sym, ap, ◌∙◌, arith, subst, nat_eq}
use Rattle.std.proofs.Common.{flat_map, Option, append_assoc}
use Rattle.std.proofs.Common.{Some, ◌<◌, ◌^◌, min, get_or, inl, inr}
use Rattle.std.proofs.lemmas.Bool.{cases_Bool}
use Rattle.std.specs.Prelude.{filter_map}
use Rattle.std.specs.List.{cons_option, concat}
use Rattle.std.specs.Int.{w32, w64, to_be_bytes}
use Rattle.std.proofs.lemmas.List.{append-nil, map-append, reverse-append, length-append, length-map}
use Rattle.std.proofs.lemmas.List.Elements.{All-head, All-tail}
use Rattle.dwarf_source_frames.specs.Frames.{FrameRecord}
use Rattle.table_checked_pages.specs.Groups.{bytes_of, group_rows}
use Rattle.table_source_frames.specs.LineText.{LineParts, all_step_bytes, file_bytes, files_in, head_bytes, innermost_column, innermost_line, innermost_name}
use Rattle.table_source_frames.specs.LineText.{innermost_path, line_text, maybe_text_number, numbers_of, others_of, parts_of, path_texts, same_place}
use Rattle.table_source_frames.specs.LineText.{scope_bytes, scope_number, scope_of, scopes_in, scopes_of, table_bytes, text_rows, texts_in, texts_of}
use Rattle.table_source_frames.specs.Numbering.{number_in, numbered_after, same_chain, same_path, same_text}
use Rattle.table_source_frames.specs.StepGroups.{step_groups}
use Rattle.table_source_frames.specs.Steps.{StepRecord}
use Rattle.table_source_frames.proofs.SameLemmas.{chain_decides, path_decides, text_decides}
use Rattle.table_source_frames.specs.LineTable.{FitsLines}
use Rattle.table_source_frames_build.specs.Kept.{KeptRecord, at_number, text_at, file_key_at, file_at, location_key_at, scope_key_at}
use Rattle.table_source_frames_build.specs.Kept.{caller_in, frame_in, frame_of_key, scope_numbers_of, chain_at, IsKept}
use Rattle.table_source_frames_build.specs.Numbering.{IsNumber}
use Rattle.table_source_frames_build.specs.FirstUses.{some_number}
use Rattle.table_source_frames_build.specs.PartNumbers.{scope_uses, file_uses, name_uses, path_numbers, path_uses, unplaced}
use Rattle.table_source_frames_build.specs.Places.{ArePlacesBelow}
use Rattle.table_source_frames_build.specs.StepViews.{HaveLocations, step_of}
use Rattle.table_source_frames_build.specs.PartBytes.{after_place, file_row, file_rows, groups_by, scope_row, scope_rows, step_numbers, text_number, texts_at}
use Rattle.table_source_frames_build.specs.WholeText.{AreOrders, head_of, text_of_parts}
use Rattle.table_source_frames_build.specs.declared.keys.FileKey.{FileKey}
use Rattle.table_source_frames_build.specs.declared.keys.LocationKey.{LocationKey}
use Rattle.table_source_frames_build.specs.declared.keys.ScopeKey.{ScopeKey}
use Rattle.table_source_frames_build.specs.declared.step.Step.{Step}
use Rattle.table_source_frames_build.proofs.ChainLemmas.{chain_apart, file_apart, reversed_each, scope_apart_by, scopes_are}
use Rattle.table_source_frames_build.proofs.KeptLemmas.{chain_step, chain_none, scopes_step, scopes_none}
use Rattle.table_source_frames_build.proofs.FirstUsesLemmas.{Each, each_append, told_after, each_after, told_number, told_or_zero}
use Rattle.table_source_frames_build.proofs.TextLemmas.{number_told, texts_long, texts_more}

-- what stands after some
drop_past : {A : Type 0} (xs ys : List A) → drop (length xs) (xs ++ ys) ≡ ys
drop_past [] ys = refl
drop_past (x ∷ xs) ys = drop_past xs ys

-- the scope with a number; 0 has no frames
abbrev scope_at : KeptRecord → ℕ → List FrameRecord
scope_at k zero = []
scope_at k (suc i) = frame_in k (scope_key_at k (suc i)) 0 0 ∷ chain_at k (scope_key_at k (suc i)).caller

-- a number is at most as many as there are
each_within : (count : ℕ) (xs : List ℕ) → Each (IsNumber count) xs → Each (λ n. n ≤ count) xs
each_within count [] each = tt
each_within count (x ∷ xs) each = (each.0.within, each_within count xs each.1)

module _ (k : KeptRecord) (kept : IsKept k) where
  scope_apart : (m n : ℕ) → m ≤ length k.scopes → n ≤ length k.scopes → scope_at k m ≡ scope_at k n → m ≡ n
  scope_apart zero zero a b e = refl
  scope_apart zero (suc n) a b e = cc e
  scope_apart (suc m) zero a b e = cc e
  scope_apart (suc m) (suc n) a b e =
      let p : ScopeKey = scope_key_at k (suc m) in
      let q : ScopeKey = scope_key_at k (suc n) in
      let one : IsNumber (length k.scopes) (suc m) = record { some = omega arith; within = a } in
      let two : IsNumber (length k.scopes) (suc n) = record { some = omega arith; within = b } in
      let frame : frame_in k p 0 0 ≡ frame_in k q 0 0 = cc e in
      let rest : chain_at k p.caller ≡ chain_at k q.caller = cc e in
      scope_apart_by k kept (suc m) (suc n) one two (ap (λ (f : FrameRecord). f.name) frame) (ap (λ (f : FrameRecord). f.path) frame)
      (chain_apart k kept p.caller q.caller (kept.each_scope (suc m) one).caller (kept.each_scope (suc n) two).caller rest)

  -- the scope of frames
  scope_here : (n : ℕ) (key : LocationKey) → IsNumber (length k.scopes) key.scope
      → scope_of (frame_of_key k key ∷ chain_at k (caller_in k key)) ≡ scope_at k key.scope
  scope_here n key is = here key.scope is
    where
      here : (scope : ℕ) → IsNumber (length k.scopes) scope
          → ◌≡◌ {A = List FrameRecord} (frame_in k (scope_key_at k scope) 0 0 ∷ chain_at k (scope_key_at k scope).caller) (scope_at k scope)
      here zero is = absurd (omega (arith, is.some))
      here (suc i) is = refl

  pub scope_told : (n : ℕ) → n ≤ length k.locations → scope_of (chain_at k n) ≡ scope_at k (location_key_at k n).scope
  scope_told zero a = ap scope_of (chain_none k)
  scope_told (suc i) a =
      ap scope_of (chain_step k kept i a)
      ∙ scope_here (suc i) (location_key_at k (suc i)) (kept.each_location (suc i) (record { some = omega arith; within = a })).scope

  -- the scopes of the frames of a location, the outermost first
  scopes_within : (room n : ℕ) → n ≤ room → n ≤ length k.locations → scopes_of (chain_at k n) ≡ map (scope_at k) (reverse (scope_numbers_of k n))
  unfolding scopes_of
  scopes_within room zero r a = ap scopes_of (chain_none k) ∙ ap (λ l. map (scope_at k) (reverse l)) (sym (scopes_none k))
  scopes_within zero (suc n) r a = absurd (omega arith)
  scopes_within (suc room) (suc n) r a =
      let key : LocationKey = location_key_at k (suc n) in
      let one = kept.each_location (suc n) (record { some = omega arith; within = a }) in
      let before : scopes_of (chain_at k (caller_in k key)) ≡ map (scope_at k) (reverse (scope_numbers_of k (caller_in k key))) =
      scopes_within room (caller_in k key) (omega (arith, one.caller, r)) (omega (arith, one.caller, a)) in
      ap scopes_of (chain_step k kept n a)
      ∙ (λ i. before i ++ scope_here (suc n) key one.scope i ∷ [])
      ∙ sym (map-append (scope_at k) (reverse (scope_numbers_of k (caller_in k key))) (key.scope ∷ []))
      ∙ ap (map (scope_at k)) (sym (reverse-append (key.scope ∷ []) (scope_numbers_of k (caller_in k key))))
      ∙ ap (λ l. map (scope_at k) (reverse l)) (sym (scopes_step k kept n a))

  abbrev IsScopeNumber : ℕ → Type 0
  IsScopeNumber n = IsNumber (length k.scopes) n

  -- ---- scopes

  scope_uses_told : (steps : List Step) → HaveLocations k steps
      → (flat_map (λ (s : StepRecord). scopes_of s.frames) (map (step_of k) steps) ≡ map (scope_at k) (scope_uses k steps))
      × Each IsScopeNumber (scope_uses k steps)
  scope_uses_told [] h = (refl, tt)
  scope_uses_told (s ∷ steps) h =
      let numbers : List ℕ = scope_numbers_of k s.location in
      let here = All-head (λ (t : Step). t.location ≤ length k.locations) s steps h in
      let rest = scope_uses_told steps (All-tail (λ (t : Step). t.location ≤ length k.locations) s steps h) in (
        (λ i. scopes_within s.location s.location (omega arith) here i ++ rest.0 i) ∙ sym (map-append (scope_at k) (reverse numbers) (scope_uses k steps)),
        each_append IsScopeNumber (reverse numbers) (scope_uses k steps)
            (reversed_each IsScopeNumber numbers (scopes_are k kept s.location here)) rest.1,
      )

  scopes_told : (steps : List Step) → HaveLocations k steps → scopes_in (map (step_of k) steps)
      ≡ map (scope_at k) (numbered_after nat_eq [] (scope_uses k steps))
  unfolding scopes_in
  scopes_told steps h =
      ap (numbered_after same_chain []) (scope_uses_told steps h).0
      ∙ told_after IsScopeNumber (scope_at k) same_chain chain_decides
      (λ m n a b. scope_apart m n a.within b.within) [] (scope_uses k steps) tt
      (scope_uses_told steps h).1

  -- ---- files and texts

  some_told : {A : Type 0} (count : ℕ) (f : ℕ → A) (n : ℕ) (rest : List A) (numbers : List ℕ) → n ≤ count
      → (rest ≡ map f numbers) × Each (IsNumber count) numbers
      → (cons_option (at_number f n) rest ≡ map f (some_number n ++ numbers)) × Each (IsNumber count) (some_number n ++ numbers)
  some_told count f zero rest numbers h is = is
  some_told count f (suc i) rest numbers h is = (ap (λ l. f (suc i) ∷ l) is.0, (record { some = omega arith; within = h }, is.1))

  -- what innermost frames have that a number of their keys tells of
  module _ {A : Type 0} (count : ℕ) (f : ℕ → A) (field : ScopeKey → ℕ) (within : (n : ℕ) → IsScopeNumber n → field (scope_key_at k n) ≤ count)
      (innermost : List FrameRecord → Option A)
      (first : (key : ScopeKey) (rest : List FrameRecord) → innermost (frame_in k key 0 0 ∷ rest) ≡ at_number f (field key)) where
    abbrev uses : List ℕ → List ℕ
    uses scopes = flat_map (λ n. some_number (field (scope_key_at k n))) scopes

    uses_told : (scopes : List ℕ) → Each IsScopeNumber scopes
        → (filter_map innermost (map (scope_at k) scopes) ≡ map f (uses scopes)) × Each (IsNumber count) (uses scopes)
    uses_told [] each = (refl, tt)
    uses_told (zero ∷ scopes) each = absurd (omega (arith, each.0.some))
    uses_told (suc i ∷ scopes) each =
        let key : ScopeKey = scope_key_at k (suc i) in
        let others : List A = filter_map innermost (map (scope_at k) scopes) in
        let rest = some_told count f (field key) others (uses scopes) (within (suc i) each.0) (uses_told scopes each.1) in
        (ap (λ (o : Option A). cons_option o others) (first key (chain_at k key.caller)) ∙ rest.0, rest.1)

  file_uses_told : (scopes : List ℕ) → Each IsScopeNumber scopes
      → (filter_map innermost_path (map (scope_at k) scopes) ≡ map (file_at k) (file_uses k scopes))
      × Each (IsNumber (length k.files)) (file_uses k scopes)
  file_uses_told =
      uses_told (length k.files) (file_at k) (λ (key : ScopeKey). key.file) (λ n is. (kept.each_scope n is).file) innermost_path (λ key rest. refl)

  files_told : (scopes : List ℕ) → Each IsScopeNumber scopes → files_in (map (scope_at k) scopes)
      ≡ map (file_at k) (numbered_after nat_eq [] (file_uses k scopes))
  unfolding files_in
  files_told scopes each =
      ap (numbered_after same_path []) (file_uses_told scopes each).0
      ∙ told_after (IsNumber (length k.files)) (file_at k) same_path path_decides (file_apart k kept) []
      (file_uses k scopes) tt (file_uses_told scopes each).1

  -- all texts of names, and of paths
  abbrev all_names : List ℕ → List ℕ
  all_names scopes = flat_map (λ n. some_number (scope_key_at k n).name) scopes

  abbrev all_paths : List ℕ → List ℕ
  all_paths files = flat_map (λ n. path_numbers (file_key_at k n)) files

  names_told : (scopes : List ℕ) → Each IsScopeNumber scopes
      → (filter_map innermost_name (map (scope_at k) scopes) ≡ map (text_at k) (all_names scopes))
      × Each (IsNumber (length k.texts)) (all_names scopes)
  names_told =
      uses_told (length k.texts) (text_at k) (λ (key : ScopeKey). key.name) (λ n is. (kept.each_scope n is).name) innermost_name (λ key rest. refl)

  paths_told : (files : List ℕ) → flat_map path_texts (map (file_at k) files) ≡ map (text_at k) (all_paths files)
  paths_told [] = refl
  paths_told (n ∷ files) = ap (λ l. path_texts (file_at k n) ++ l) (paths_told files)

  paths_are : (files : List ℕ) → Each (IsNumber (length k.files)) files → Each (IsNumber (length k.texts)) (all_paths files)
  paths_are [] each = tt
  paths_are (n ∷ files) each =
      let is = kept.each_file n each.0 in (is.base, (is.directory, (is.name, paths_are files each.1)))

  -- those without places
  unplaced_name : (places : List ℕ) (n : ℕ) → flat_map (unplaced places) (some_number n) ≡ unplaced places n
  unplaced_name places zero = refl
  unplaced_name places (suc i) = append-nil (unplaced places (suc i))

  unplaced_append : (places xs ys : List ℕ) → flat_map (unplaced places) (xs ++ ys) ≡ flat_map (unplaced places) xs ++ flat_map (unplaced places) ys
  unplaced_append places [] ys = refl
  unplaced_append places (x ∷ xs) ys =
      ap (λ l. unplaced places x ++ l) (unplaced_append places xs ys)
      ∙ sym (append_assoc (unplaced places x) (flat_map (unplaced places) xs) (flat_map (unplaced places) ys))

  unplaced_names : (places scopes : List ℕ) → flat_map (unplaced places) (all_names scopes) ≡ name_uses k places scopes
  unplaced_names places [] = refl
  unplaced_names places (n ∷ scopes) =
      unplaced_append places (some_number (scope_key_at k n).name) (all_names scopes)
      ∙ (λ i. unplaced_name places (scope_key_at k n).name i ++ unplaced_names places scopes i)

  unplaced_paths : (places files : List ℕ) → flat_map (unplaced places) (all_paths files) ≡ path_uses k places files
  unplaced_paths places [] = refl
  unplaced_paths places (n ∷ files) =
      unplaced_append places (path_numbers (file_key_at k n)) (all_paths files)
      ∙ ap (λ l. flat_map (unplaced places) (path_numbers (file_key_at k n)) ++ l) (unplaced_paths places files)

  some_append : (xs ys : List ℕ) → map (λ (t : List ℕ). Some t) (map (text_at k) xs ++ map (text_at k) ys) ≡ map (λ n. Some (text_at k n)) (xs ++ ys)
  some_append [] [] = refl
  some_append [] (y ∷ ys) = ap (λ l. Some (text_at k y) ∷ l) (some_append [] ys)
  some_append (x ∷ xs) ys = ap (λ l. Some (text_at k x) ∷ l) (some_append xs ys)

  texts_told : (strings places scopes files : List ℕ) → ArePlacesBelow k strings (length strings) places
      → Each IsScopeNumber scopes → Each (IsNumber (length k.files)) files
      → texts_in strings (map (scope_at k) scopes) (map (file_at k) files)
      ≡ texts_of strings ++ map (λ n. Some (text_at k n)) (numbered_after nat_eq [] (name_uses k places scopes ++ path_uses k places files))
  unfolding texts_in
  texts_told strings places scopes files are a b =
      let uses : List ℕ = all_names scopes ++ all_paths files in
      let each : Each (IsNumber (length k.texts)) uses =
      each_append (IsNumber (length k.texts)) (all_names scopes) (all_paths files) (names_told scopes a).1 (paths_are files b) in
      ap (λ (ts : List (List ℕ)). numbered_after same_place (texts_of strings) (map (λ t. Some t) ts))
      (λ i. (names_told scopes a).0 i ++ paths_told files i)
      ∙ ap (numbered_after same_place (texts_of strings)) (some_append (all_names scopes) (all_paths files))
      ∙ ap (λ l. numbered_after same_place l (map (λ n. Some (text_at k n)) uses)) (sym (append-nil (texts_of strings)))
      ∙ texts_more k kept strings places are [] uses tt each
      ∙ ap (λ (ns : List ℕ). texts_of strings ++ map (λ n. Some (text_at k n)) (numbered_after nat_eq [] ns))
      (unplaced_append places (all_names scopes) (all_paths files)
      ∙ (λ i. unplaced_names places scopes i ++ unplaced_paths places files i))

  unplaced_are : (places : List ℕ) (n : ℕ) → n ≤ length k.texts → Each (IsNumber (length k.texts)) (unplaced places n)
  unplaced_are places zero within = tt
  unplaced_are places (suc i) within = elim (cases_Bool (nat_eq (get_or places i 0) 0)) [
    | inl t ↦ rw t (record { some = omega arith; within = within }, tt)
    | inr f ↦ rw f tt
  ]

  unplaced_names_are : (places scopes : List ℕ) → Each IsScopeNumber scopes → Each (IsNumber (length k.texts)) (name_uses k places scopes)
  unplaced_names_are places [] each = tt
  unplaced_names_are places (n ∷ scopes) each =
      each_append (IsNumber (length k.texts)) (unplaced places (scope_key_at k n).name) (name_uses k places scopes)
      (unplaced_are places (scope_key_at k n).name (kept.each_scope n each.0).name) (unplaced_names_are places scopes each.1)

  unplaced_paths_are : (places files : List ℕ) → Each (IsNumber (length k.files)) files → Each (IsNumber (length k.texts)) (path_uses k places files)
  unplaced_paths_are places [] each = tt
  unplaced_paths_are places (n ∷ files) each =
      let is = kept.each_file n each.0 in
      let key : FileKey = file_key_at k n in
      each_append (IsNumber (length k.texts)) (flat_map (unplaced places) (path_numbers key)) (path_uses k places files)
      (each_append (IsNumber (length k.texts)) (unplaced places key.base) (unplaced places key.directory ++ (unplaced places key.name ++ []))
      (unplaced_are places key.base is.base.within)
      (each_append (IsNumber (length k.texts)) (unplaced places key.directory) (unplaced places key.name ++ [])
      (unplaced_are places key.directory is.directory.within)
      (each_append (IsNumber (length k.texts)) (unplaced places key.name) [] (unplaced_are places key.name is.name.within) tt)))
      (unplaced_paths_are places files each.1)

-- ---- the bytes of a table, by numbers and as they are defined

module _ (k : KeptRecord) (kept : IsKept k) (strings places : List ℕ) (are_places : ArePlacesBelow k strings (length strings) places) where
  module _ (scopes files texts : List ℕ) (are_scopes : Each (IsNumber (length k.scopes)) scopes)
      (are_files : Each (IsNumber (length k.files)) files) (are_texts : Each (IsNumber (length k.texts)) texts)
      (steps_told : List StepRecord) where
    abbrev parts : LineParts
    parts = record {
      strings = strings;
      steps = steps_told;
      scopes = map (scope_at k) scopes;
      files = map (file_at k) files;
      texts = texts_of strings ++ map (λ n. Some (text_at k n)) texts;
    }

    abbrev text : ℕ → ℕ
    text n = text_number (length strings) places texts n

    -- the texts that are not among the strings
    somes : (ns : List ℕ) → filter_map (λ (o : Option (List ℕ)). o) (map (λ n. Some (text_at k n)) ns) ≡ texts_at k ns
    somes [] = refl
    somes (n ∷ ns) = ap (λ l. text_at k n ∷ l) (somes ns)

    pub others_same : others_of parts ≡ texts_at k texts
    others_same =
        ap (λ m. filter_map (λ (o : Option (List ℕ)). o) (drop m (texts_of strings ++ map (λ n. Some (text_at k n)) texts))) (sym (texts_long strings []))
        ∙ ap (filter_map (λ (o : Option (List ℕ)). o)) (drop_past (texts_of strings) (map (λ n. Some (text_at k n)) texts))
        ∙ somes texts

    scope_number_same : (n : ℕ) → n ≤ length k.locations → scope_number parts (chain_at k n) ≡ number_in nat_eq scopes (location_key_at k n).scope
    scope_number_same n within =
        ap (number_in same_chain (map (scope_at k) scopes)) (scope_told k kept n within)
        ∙ told_number (λ m. m ≤ length k.scopes) (scope_at k) same_chain chain_decides (scope_apart k kept) scopes (location_key_at k n).scope
        (each_within (length k.scopes) scopes are_scopes) (scope_in n within)
      where
        scope_in : (n : ℕ) → n ≤ length k.locations → (location_key_at k n).scope ≤ length k.scopes
        scope_in zero within = omega arith
        scope_in (suc i) within = (kept.each_location (suc i) (record { some = omega arith; within = within })).scope.within

    line_same : (n : ℕ) → n ≤ length k.locations → innermost_line (chain_at k n) ≡ (location_key_at k n).line
    line_same zero within = ap innermost_line (chain_none k)
    line_same (suc i) within = ap innermost_line (chain_step k kept i within)

    column_same : (n : ℕ) → n ≤ length k.locations → innermost_column (chain_at k n) ≡ (location_key_at k n).column
    column_same zero within = ap innermost_column (chain_none k)
    column_same (suc i) within = ap innermost_column (chain_step k kept i within)

    numbers_same : (steps : List Step) → HaveLocations k steps → map (numbers_of parts) (map (step_of k) steps) ≡ map (step_numbers k scopes) steps
    numbers_same [] h = refl
    numbers_same (s ∷ steps) h =
        let within : s.location ≤ length k.locations = All-head (λ (t : Step). t.location ≤ length k.locations) s steps h in
        λ i. record {
          start = s.start;
          scope = scope_number_same s.location within i;
          line = line_same s.location within i;
          column = column_same s.location within i;
        } ∷ numbers_same steps (All-tail (λ (t : Step). t.location ≤ length k.locations) s steps h) i

    maybe_text_same : (n : ℕ) → n ≤ length k.texts → maybe_text_number parts (at_number (text_at k) n) ≡ text n
    maybe_text_same zero within =
        ap (after_place (length strings) 0)
        (told_or_zero (length k.texts) (text_at k) same_text text_decides kept.texts texts 0 are_texts (omega arith))
    maybe_text_same (suc i) within = number_told k kept strings places are_places texts (suc i) are_texts (record { some = omega arith; within = within })

    row_same : (key : ScopeKey) → key.name ≤ length k.texts → key.file ≤ length k.files → key.caller ≤ length k.locations
        → scope_bytes parts (frame_in k key 0 0 ∷ chain_at k key.caller) ≡ scope_row k scopes files text key
    unfolding scope_bytes scope_row
    row_same key name file caller =
        let b = told_or_zero (length k.files) (file_at k) same_path path_decides (file_apart k kept) files key.file are_files file in
        λ i. to_be_bytes w32 (maybe_text_same key.name name i) ++ (to_be_bytes w32 (b i)
        ++ (to_be_bytes w32 (line_same key.caller caller i) ++ (to_be_bytes w32 (column_same key.caller caller i)
        ++ to_be_bytes w32 (scope_number_same key.caller caller i))))

    scopes_same : (numbers : List ℕ) → Each (IsNumber (length k.scopes)) numbers
        → flat_map (scope_bytes parts) (map (scope_at k) numbers) ≡ scope_rows k scopes files text numbers
    scopes_same [] each = refl
    scopes_same (zero ∷ numbers) each = absurd (omega (arith, each.0.some))
    scopes_same (suc n ∷ numbers) each =
        let one = kept.each_scope (suc n) each.0 in
        λ i. row_same (scope_key_at k (suc n)) one.name one.file one.caller i ++ scopes_same numbers each.1 i

    file_same : (n : ℕ) → IsNumber (length k.files) n → file_bytes parts (file_at k n) ≡ file_row text (file_key_at k n)
    unfolding file_bytes file_row
    file_same n is =
        let one = kept.each_file n is in
        let number = λ (m : ℕ) (of : IsNumber (length k.texts) m). number_told k kept strings places are_places texts m are_texts of in
        λ i. to_be_bytes w32 (number (file_key_at k n).base one.base i)
        ++ (to_be_bytes w32 (number (file_key_at k n).directory one.directory i)
        ++ to_be_bytes w32 (number (file_key_at k n).name one.name i))

    files_same : (numbers : List ℕ) → Each (IsNumber (length k.files)) numbers
        → flat_map (file_bytes parts) (map (file_at k) numbers) ≡ file_rows k text numbers
    files_same [] each = refl
    files_same (n ∷ numbers) each = λ i. file_same n each.0 i ++ files_same numbers each.1 i

    -- the whole of it
    pub table_same : (steps : List Step) → HaveLocations k steps → steps_told ≡ map (step_of k) steps
        → table_bytes parts ≡ text_of_parts k (length strings) steps places scopes files texts
    unfolding table_bytes head_bytes text_of_parts head_of
    table_same steps h told =
        let count : length steps_told ≡ length steps = ap length told ∙ length-map steps (step_of k) in
        let one : length (map (scope_at k) scopes) ≡ length scopes = length-map scopes (scope_at k) in
        let two : length (map (file_at k) files) ≡ length files = length-map files (file_at k) in
        let three : length (others_of parts) ≡ length texts = ap length others_same ∙ length-map texts (text_at k) in
        let groups : step_groups (map (numbers_of parts) steps_told) ≡ step_groups (map (step_numbers k scopes) steps) =
        ap step_groups (ap (map (numbers_of parts)) told ∙ numbers_same steps h) in
        λ i.
        (to_be_bytes w64 1 ++ (to_be_bytes w64 (count i) ++ (to_be_bytes w64 (length (bytes_of (groups i)))
        ++ (to_be_bytes w64 (one i) ++ (to_be_bytes w64 (two i) ++ (to_be_bytes w64 (three i)
        ++ to_be_bytes w64 (length (concat (others_same i)))))))))
        ++ (group_rows 0 (groups i) ++ (bytes_of (groups i) ++ (scopes_same scopes are_scopes i
        ++ (files_same files are_files i ++ (text_rows 0 (others_same i) ++ concat (others_same i))))))

  -- ---- of the parts that steps have

  module _ (steps : List Step) (h : HaveLocations k steps) (scopes files texts : List ℕ)
      (orders : AreOrders k strings steps places scopes files texts) where
    are_scopes : Each (IsNumber (length k.scopes)) scopes
    are_scopes = subst (Each (IsNumber (length k.scopes))) (sym orders.scopes_are)
        (each_after (IsNumber (length k.scopes)) [] _ tt (scope_uses_told k kept steps h).1)

    are_files : Each (IsNumber (length k.files)) files
    are_files = subst (Each (IsNumber (length k.files))) (sym orders.files_are)
        (each_after (IsNumber (length k.files)) [] _ tt (file_uses_told k kept scopes are_scopes).1)

    are_texts : Each (IsNumber (length k.texts)) texts
    are_texts = subst (Each (IsNumber (length k.texts))) (sym orders.texts_are)
        (each_after (IsNumber (length k.texts)) [] _ tt
        (each_append (IsNumber (length k.texts)) (name_uses k places scopes) (path_uses k places files)
        (unplaced_names_are k kept places scopes are_scopes) (unplaced_paths_are k kept places files are_files)))

    scopes_is : scopes_in (map (step_of k) steps) ≡ map (scope_at k) scopes
    scopes_is = scopes_told k kept steps h ∙ ap (map (scope_at k)) (sym orders.scopes_are)

    files_is : files_in (scopes_in (map (step_of k) steps)) ≡ map (file_at k) files
    files_is = ap files_in scopes_is ∙ files_told k kept scopes are_scopes ∙ ap (map (file_at k)) (sym orders.files_are)

    texts_is : texts_in strings (scopes_in (map (step_of k) steps)) (files_in (scopes_in (map (step_of k) steps)))
        ≡ texts_of strings ++ map (λ n. Some (text_at k n)) texts
    texts_is =
        (λ i. texts_in strings (scopes_is i) (files_is i)) ∙ texts_told k kept strings places scopes files are_places are_scopes are_files
        ∙ ap (λ (ns : List ℕ). texts_of strings ++ map (λ n. Some (text_at k n)) ns) (sym orders.texts_are)

    parts_are : parts_of strings (map (step_of k) steps) ≡ parts scopes files texts are_scopes are_files are_texts (map (step_of k) steps)
    parts_are = λ i. record { strings = strings; steps = map (step_of k) steps; scopes = scopes_is i; files = files_is i; texts = texts_is i }

    pub line_text_is : line_text strings (map (step_of k) steps) ≡ text_of_parts k (length strings) steps places scopes files texts
    line_text_is = ap table_bytes parts_are ∙ table_same scopes files texts are_scopes are_files are_texts (map (step_of k) steps) steps h refl

    others_is : others_of (parts_of strings (map (step_of k) steps)) ≡ texts_at k texts
    others_is = ap others_of parts_are ∙ others_same scopes files texts are_scopes are_files are_texts (map (step_of k) steps)

    texts_count : length (texts_in strings (scopes_in (map (step_of k) steps)) (files_in (scopes_in (map (step_of k) steps)))) ≡ length strings + length texts
    texts_count =
        ap length texts_is ∙ length-append (texts_of strings) (map (λ n. Some (text_at k n)) texts)
        ∙ (λ i. texts_long strings [] i + length-map texts (λ n. Some (text_at k n)) i)

    step_bytes_is : all_step_bytes (parts_of strings (map (step_of k) steps)) ≡ bytes_of (groups_by k scopes steps)
    step_bytes_is =
        ap all_step_bytes parts_are
        ∙ ap (λ ns. bytes_of (step_groups ns))
        (numbers_same scopes files texts are_scopes are_files are_texts (map (step_of k) steps) steps h)

    -- it fits
    pub fits : (room : ℕ) → length steps < 2 ^ 32 → length (bytes_of (groups_by k scopes steps)) < 2 ^ 32
        → length scopes < 2 ^ 32 → length files < 2 ^ 32
        → length strings + length texts < 2 ^ 32 → length (concat (texts_at k texts)) < 2 ^ 32
        → length (text_of_parts k (length strings) steps places scopes files texts) ≤ room
        → FitsLines room strings (map (step_of k) steps)
    fits room s w l f t b size = record {
      few = record {
        steps = omega (arith, s, length-map steps (step_of k));
        step_bytes = omega (arith, w, ap length step_bytes_is);
        scopes = omega (arith, l, ap length scopes_is, length-map scopes (scope_at k));
        files = omega (arith, f, ap length files_is, length-map files (file_at k));
        texts = omega (arith, t, texts_count);
        bytes = omega (arith, b, ap (λ (ts : List (List ℕ)). length (concat ts)) others_is);
      };
      size = omega (arith, size, ap length line_text_is);
    }

    -- it does not
    pub too_long : (room : ℕ) → room < length (text_of_parts k (length strings) steps places scopes files texts)
        → FitsLines room strings (map (step_of k) steps) → ⊥
    too_long room long fit = omega (arith, long, fit.size, ap length line_text_is)

    pub too_many_texts : (room : ℕ) → 2 ^ 32 ≤ length strings + length texts → FitsLines room strings (map (step_of k) steps) → ⊥
    too_many_texts room many fit = omega (arith, many, fit.few.texts, texts_count)

    pub too_many_bytes : (room : ℕ) → 2 ^ 32 ≤ length (bytes_of (groups_by k scopes steps)) → FitsLines room strings (map (step_of k) steps) → ⊥
    too_many_bytes room many fit = omega (arith, many, fit.few.step_bytes, ap length step_bytes_is)

    texts_within : length (concat (texts_at k texts)) ≤ length (text_of_parts k (length strings) steps places scopes files texts)
    unfolding text_of_parts
    texts_within = simp length-append (omega arith)

    pub too_much_text : (room most : ℕ) → most ≡ min room 4294967295 → most < length (concat (texts_at k texts))
        → FitsLines room strings (map (step_of k) steps) → ⊥
    too_much_text room most is more fit =
        omega (arith, is, more, fit.size, fit.few.bytes, ap length line_text_is, texts_within, ap (λ (ts : List (List ℕ)). length (concat ts)) others_is)
