-- Which entries the candidates are.
use Rattle.std.proofs.Common.{◌≡◌, ℕ, zero, suc, ◌*◌, ◌<◌, List, [], ◌∷◌, ◌++◌, take, drop, Option, Some, None, refl, ap, ◌∙◌, arith, Contains, slice_get}
use Rattle.std.proofs.lemmas.List.{drop-drop}
use Rattle.std.proofs.lemmas.Option.{slice_get_within}
use Rattle.std.specs.List.{filter_map, cons_option}
use Rattle.std.specs.Option.{option_to_list}
use Rattle.macho_symbols.specs.Symbols.{Tuple, table_of, entries, entry_of, candidate_in, candidates}
use Rattle.macho_symbols.proofs.EntryLemmas.{length-entries, entry_at}

-- an element that there may be stands in front
pub option_front : {Y : Type 0} (o : Option Y) (ys : List Y) → cons_option o ys ≡ option_to_list o ++ ys
option_front None ys = refl
option_front (Some y) ys = refl

module _ {X Y : Type 0} (f : X → Option Y) where
  -- some element gives c
  abbrev pub Gives : List X → Y → Type 0
  Gives xs c = (i : ℕ) × (x : X) × (slice_get xs i ≡ Some x) × (f x ≡ Some c)

  behind : (x : X) (xs : List X) (c : Y) → Gives xs c → Gives (x ∷ xs) c
  behind x xs c g = (suc g.0, g.1, g.2, g.3)

  pub member_from : (xs : List X) (c : Y) → Contains (filter_map f xs) c → Gives xs c
  member_from [] c h = absurd (omega (arith, h.1))
  member_from (x ∷ xs) c h = by_head (f x) refl h (member_from xs c)
    where
      by_head : (o : Option Y) → f x ≡ o → Contains (cons_option o (filter_map f xs)) c → (Contains (filter_map f xs) c → Gives xs c) → Gives (x ∷ xs) c
      by_head None e h rest = behind x xs c (rest h)
      by_head (Some y) e (zero, l, same) rest = (0, x, refl, e ∙ ap Some same)
      by_head (Some y) e (suc k, l, same) rest = behind x xs c (rest (k, omega (arith, l), same))

  pub member_to : (xs : List X) (i : ℕ) (x : X) (c : Y) → slice_get xs i ≡ Some x → f x ≡ Some c → Contains (filter_map f xs) c
  member_to [] i x c s e = absurd (cc s)
  member_to (y ∷ ys) zero x c s e = let same : y ≡ x = cc s in rw (ap f same ∙ e) (0, omega arith, refl)
  member_to (y ∷ ys) (suc i) x c s e = by_head (f y) (member_to ys i x c s e)
    where
      by_head : (o : Option Y) → Contains (filter_map f ys) c → Contains (cons_option o (filter_map f ys)) c
      by_head None h = h
      by_head (Some z) h = (suc h.0, omega (arith, h.1), h.2)

entry_is : (image : List ℕ) (i : ℕ) → i < (table_of image).nsyms
    → slice_get (entries (table_of image).nsyms (drop (table_of image).symoff image)) i ≡ Some (entry_of image i)
entry_is image i h =
    entry_at (table_of image).nsyms (drop (table_of image).symoff image) i h
    ∙ ap (λ rest. Some (take 16 rest)) (drop-drop (16 * i) (table_of image).symoff image)

pub candidate_from : (image : List ℕ) (c : Tuple) → Contains (candidates image) c
    → (i : ℕ) × (i < (table_of image).nsyms) × (candidate_in image (entry_of image i) ≡ Some c)
unfolding candidates
candidate_from image c h =
    let es = entries (table_of image).nsyms (drop (table_of image).symoff image) in
    let g = member_from (candidate_in image) es c h in
    let within : g.0 < (table_of image).nsyms = omega (
      arith,
      slice_get_within es g.0 g.1 g.2,
      length-entries (table_of image).nsyms (drop (table_of image).symoff image),
    ) in
    (g.0, within, ap (candidate_in image) (cc (entry_is image g.0 within, g.2)) ∙ g.3)

pub candidate_to : (image : List ℕ) (i : ℕ) (c : Tuple) → i < (table_of image).nsyms
    → candidate_in image (entry_of image i) ≡ Some c → Contains (candidates image) c
unfolding candidates
candidate_to image i c h e =
    member_to (candidate_in image) (entries (table_of image).nsyms (drop (table_of image).symoff image)) i (entry_of image i) c (entry_is image i h) e
