-- Turns of a unit from an address on, one after another.
use Rattle.std.proofs.Common.{◌≡◌, ℕ, ◌+◌, ◌-◌, ◌<◌, ◌≤◌, ◌^◌, List, [], ◌∷◌, ◌++◌, length, get_or, take, Option, Some, None, refl, sym, subst, inl, inr, arith}
use Rattle.std.proofs.Common.{IfSome, IfNone, All, Contains}
use Rattle.std.specs.Option.{option_map_or}
use Rattle.std.proofs.lemmas.Bool.{cases_eq, cases_lt}
use Rattle.std.proofs.lemmas.List.{map-append, take_all, take_more}
use Rattle.std.proofs.lemmas.List.Elements.{All-append, All-contains, All-map, All-nil, All-push, All-weaker}
use Rattle.std.proofs.lemmas.List.Elements.{Contains-append_cases, Contains-append_left, Contains-append_right}
use Rattle.std.proofs.lemmas.List.Elements.{Contains-get_or}
use Rattle.std.proofs.lemmas.Option.{same_Some}
use Rattle.dwarf_source_frames.specs.Frames.{FrameRecord}
use Rattle.dwarf_asked_addresses.specs.Rising.{AreRising, IsCountBelow}
use Rattle.dwarf_frame_changes.specs.Between.{AreFramesAt, AreTurnsBetween, AreTurnsFrom, IsBelow, IsFrom, IsMerged}
use Rattle.dwarf_frame_changes.specs.Between.{IsNextAbove, IsNextStart, IsStart, IsTurnOfParts, PartsRecord}
use Rattle.dwarf_frame_changes.specs.Given.{TurnRecord, addresses}
use Rattle.dwarf_source_frames.proofs.ByUnitLemmas.{in_one, of_one}
use Rattle.dwarf_frame_changes.proofs.GivenLemmas.{pairs_append}

-- ---- numbers that rise

rising_append : (xs ys : List ℕ) → AreRising xs → AreRising ys → ((a b : ℕ) → Contains xs a → Contains ys b → a < b) → AreRising (xs ++ ys)
rising_append xs ys one other apart = pairs_append (λ a b. a < b) xs ys one other apart

pub rising_one : (a : ℕ) → AreRising (a ∷ [])
rising_one a i j d less within = absurd (omega (arith, less, within))

pub rising_none : AreRising []
rising_none i j d less within = absurd (omega (arith, within))

-- ---- from one address on

abbrev pub IsTurnHere : PartsRecord → ℕ → Option ℕ → TurnRecord → Type 0
IsTurnHere parts from end turn = IsMerged parts from end turn.address × IsTurnOfParts parts turn

-- the turns below an address were given, or all of them
pub record AreTurnsBelow (parts : PartsRecord) (from : ℕ) (end upto : Option ℕ) (turns : List TurnRecord) : Type 0 where
  pub each : All (IsTurnHere parts from end) turns
  pub all : (a : ℕ) → IsMerged parts from end a → IsBelow a upto → Contains (addresses turns) a
  pub rising : AreRising (addresses turns)
  pub below : All (λ turn. IsBelow turn.address upto) turns

-- no address was given
pub none_below : (parts : PartsRecord) (from : ℕ) (end : Option ℕ) → AreTurnsBelow parts from end (Some from) []
none_below parts from end =
    record {
      each = All-nil (IsTurnHere parts from end);
      all = λ a is below. let n = is.not_below in absurd (omega (arith, n, below));
      rising = rising_none;
      below = All-nil (λ (turn : TurnRecord). IsBelow turn.address (Some from));
    }

pub merged_first : (parts : PartsRecord) (from : ℕ) (end : Option ℕ) → IsBelow from end → IsMerged parts from end from
merged_first parts from end below = record { not_below = omega arith; below = below; begins = inl refl }

pub all_below : (parts : PartsRecord) (from : ℕ) (end : Option ℕ) (turns : List TurnRecord)
    → AreTurnsBelow parts from end None turns → AreTurnsBetween parts from end turns
all_below parts from end turns are = record { each = are.each; all = λ a is. are.all a is tt; rising = are.rising }

-- an address is below what is next, of which the one after an end does not count
abbrev pub IsUpto : Option ℕ → Option ℕ → Option ℕ → Type 0
IsUpto next end upto =
    IfSome upto (λ a. (next ≡ Some a) × IsBelow a end) × IfNone upto (IfSome next (λ a. (e : ℕ) × (end ≡ Some e) × (e ≤ a)))

pub above_upto : (rows links : List ℕ) (at row link : ℕ) (next end upto : Option ℕ)
    → IsNextStart rows links at row link next → IsUpto next end upto → IsBelow at upto
above_upto rows links at row link next end None is_next is_upto = tt
above_upto rows links at row link next end (Some u) is_next is_upto = (subst (λ (o : Option ℕ). IsNextStart rows links at row link o) is_upto.0.0 is_next).0

module _ (parts : PartsRecord) (from : ℕ) (end : Option ℕ) (at : ℕ) (turns : List TurnRecord)
    (frames : List FrameRecord) (far : AreTurnsBelow parts from end (Some at) turns)
    (here : IsMerged parts from end at) (fits : at < 2 ^ 64) (are : AreFramesAt parts at frames) (row link : ℕ) where
  abbrev Starts : ℕ → Type 0
  Starts a = IsStart parts.row_starts parts.link_starts a

  abbrev Next : Option ℕ → Type 0
  Next next = IsNextStart parts.row_starts parts.link_starts at row link next

  abbrev turn : TurnRecord
  turn = record { address = at; frames = frames }

  more : addresses (turns ++ turn ∷ []) ≡ addresses turns ++ at ∷ []
  more = map-append (λ (t : TurnRecord). t.address) turns (turn ∷ [])

  -- no address that counts begins above, up to what is next
  none_between : (next upto : Option ℕ) → Next next → IsUpto next end upto → (a : ℕ) → IsMerged parts from end a → IsBelow a upto → at < a → ⊥
  none_between next upto is_next is_upto a is below above = elim is.begins [
    | inl e ↦ let l = here.not_below in omega (arith, l, e, above)
    | inr start ↦ past next upto is_next is_upto below start
  ]
    where
      past : (next upto : Option ℕ) → Next next → IsUpto next end upto → IsBelow a upto → Starts a → ⊥
      past None upto is_next is_upto below start = let l = is_next a start in omega (arith, l, above)
      past (Some n) (Some u) is_next is_upto below start =
          let same : n ≡ u = same_Some n u is_upto.0.0 in
          let l = is_next.2 a start above in omega (arith, l, same, below)
      past (Some n) None is_next is_upto below start =
          let e = is_upto.1.0 in
          let high : a < e = subst (λ (o : Option ℕ). IsBelow a o) is_upto.1.1 is.below in
          let l = is_next.2 a start above in let u = is_upto.1.2 in omega (arith, l, u, high)

  above_at : (next upto : Option ℕ) → Next next → IsUpto next end upto → IsBelow at upto
  above_at next upto is_next is_upto = above_upto parts.row_starts parts.link_starts at row link next end upto is_next is_upto

  below_still : (upto : Option ℕ) (a : ℕ) → IsBelow at upto → a < at → IsBelow a upto
  below_still None a h less = tt
  below_still (Some u) a h less = omega (arith, h, less)

  pub merged_next : (next upto : Option ℕ) → Next next → IsUpto next end upto → IfSome upto (λ a. IsMerged parts from end a)
  merged_next next None is_next is_upto = tt
  merged_next next (Some u) is_next is_upto =
      let is : Next (Some u) = subst Next is_upto.0.0 is_next in
      record { not_below = let l = here.not_below in let m = is.0 in omega (arith, l, m); below = is_upto.0.1; begins = inr is.1 }

  pub rows_next : (next upto : Option ℕ) → Next next → IsUpto next end upto → IfSome upto (λ a. IsCountBelow parts.row_starts a row)
  rows_next next None is_next is_upto = tt
  rows_next next (Some u) is_next is_upto = (subst Next is_upto.0.0 is_next).3

  pub links_next : (next upto : Option ℕ) → Next next → IsUpto next end upto → IfSome upto (λ a. IsCountBelow parts.link_starts a link)
  links_next next None is_next is_upto = tt
  links_next next (Some u) is_next is_upto = (subst Next is_upto.0.0 is_next).4

  pub turns_more : (next upto : Option ℕ) → Next next → IsUpto next end upto → AreTurnsBelow parts from end upto (turns ++ turn ∷ [])
  turns_more next upto is_next is_upto =
      record {
        each = All-push (IsTurnHere parts from end) turns turn far.each (here, record { fits = fits; frames = are });
        all = λ a is below. subst (λ (xs : List ℕ). Contains xs a) (sym more) (elim (cases_lt a at) [
          | inl less ↦ Contains-append_left (addresses turns) (at ∷ []) a (far.all a is less)
          | inr not ↦ elim (cases_eq at a) [
            | inl e ↦ Contains-append_right (addresses turns) (at ∷ []) a (of_one at a e)
            | inr other ↦ absurd (none_between next upto is_next is_upto a is below (omega (arith, not, other)))
          ]
        ]);
        rising = subst (λ (xs : List ℕ). AreRising xs) (sym more) (rising_append (addresses turns) (at ∷ []) far.rising (rising_one at) (λ a b h k.
            let low : a < at = All-contains (λ (x : ℕ). x < at) (addresses turns) a
            (All-map (λ (x : ℕ). x < at) (λ (t : TurnRecord). t.address) turns far.below) h in
            let e = in_one at b k in omega (arith, low, e)));
        below = All-push (λ (t : TurnRecord). IsBelow t.address upto) turns turn
            (All-weaker (λ (t : TurnRecord). t.address < at) (λ (t : TurnRecord). IsBelow t.address upto)
            (λ t h. below_still upto t.address (above_at next upto is_next is_upto) h) turns far.below)
            (above_at next upto is_next is_upto);
      }

-- the address rises
pub falls : (at : ℕ) (upto : Option ℕ) → at < 2 ^ 64 → IsBelow at upto → option_map_or (λ a. 2 ^ 64 - a) upto 0 < 2 ^ 64 - at
falls at None fits above = omega (arith, fits)
falls at (Some u) fits above = omega (arith, fits, above)

-- ---- from one boundary after another

module _ (parts : PartsRecord) (starts froms : List ℕ) where
  abbrev pub IsFromThese : List ℕ → TurnRecord → Type 0
  IsFromThese before turn = ((from : ℕ) × Contains before from × IsFrom parts starts from turn.address) × IsTurnOfParts parts turn

  -- the turns from so many boundaries on were given, and all are below those that are left
  pub record AreTurnsSoFar (count : ℕ) (turns : List TurnRecord) : Type 0 where
    pub are : AreTurnsFrom parts starts (take count froms) turns
    pub below : (i : ℕ) → count ≤ i → i < length froms → All (λ turn. turn.address < get_or froms i 0) turns

  pub no_turns_yet : AreTurnsSoFar 0 []
  no_turns_yet =
      record {
        are =
            record {
              each = All-nil (IsFromThese []);
              all = λ from a h is. let w = h.1 in absurd (omega (arith, w));
              rising = rising_none;
            };
        below = λ i h l. All-nil (λ (turn : TurnRecord). turn.address < get_or froms i 0);
      }

  pub all_turns_given : (count : ℕ) (turns : List TurnRecord) → length froms ≤ count → AreTurnsSoFar count turns → AreTurnsFrom parts starts froms turns
  all_turns_given count turns past far = subst (λ (xs : List ℕ). AreTurnsFrom parts starts xs turns) (take_all count froms past) far.are

  module _ (count : ℕ) (turns new : List TurnRecord) (from : ℕ) (end : Option ℕ) (within : count < length froms)
      (is : from ≡ get_or froms count 0) (rising : AreRising froms)
      (stand : (a : ℕ) → Contains froms a → Contains starts a) (far : AreTurnsSoFar count turns)
      (next : IsNextAbove starts from end) (are : AreTurnsBetween parts from end new) where
    grown : take (count + 1) froms ≡ take count froms ++ from ∷ []
    grown = subst (λ (x : ℕ). take (count + 1) froms ≡ take count froms ++ x ∷ []) (sym is) (take_more froms count 0 within)

    in_grown : (a : ℕ) → Contains (take count froms ++ from ∷ []) a → Contains (take (count + 1) froms) a
    in_grown a h = subst (λ (xs : List ℕ). Contains xs a) (sym grown) h

    this : Contains (take (count + 1) froms) from
    this = in_grown from (Contains-append_right (take count froms) (from ∷ []) from (of_one from from refl))

    -- what is below the next boundary has no boundary before it
    none_before : (o : Option ℕ) (a : ℕ) → IsNextAbove starts from o → IsBelow a o → (t : ℕ) → Contains starts t → from < t → a < t
    none_before None a is_next below t h above = let l = is_next t h in absurd (omega (arith, l, above))
    none_before (Some e) a is_next below t h above = let l = is_next.2 t h above in omega (arith, l, below)

    below_next : (o : Option ℕ) (a : ℕ) → IsNextAbove starts from o → ((t : ℕ) → Contains starts t → from < t → a < t) → IsBelow a o
    below_next None a is_next none = tt
    below_next (Some e) a is_next none = none e is_next.1 is_next.0

    is_from : (a : ℕ) → IsMerged parts from end a → IsFrom parts starts from a
    is_from a m = record { not_below = m.not_below; none_between = none_before end a next m.below; begins = m.begins }

    merged : (a : ℕ) → IsFrom parts starts from a → IsMerged parts from end a
    merged a f = record { not_below = f.not_below; below = below_next end a next f.none_between; begins = f.begins }

    old_turn : (t : TurnRecord) → IsFromThese (take count froms) t → IsFromThese (take (count + 1) froms) t
    old_turn t h = ((h.0.0, in_grown h.0.0 (Contains-append_left (take count froms) (from ∷ []) h.0.0 h.0.1), h.0.2), h.1)

    new_turn : (t : TurnRecord) → IsTurnHere parts from end t → IsFromThese (take (count + 1) froms) t
    new_turn t h = ((from, this, is_from t.address h.0), h.1)

    split : addresses (turns ++ new) ≡ addresses turns ++ addresses new
    split = map-append (λ (t : TurnRecord). t.address) turns new

    all_more : (f a : ℕ) → Contains (take (count + 1) froms) f → IsFrom parts starts f a → Contains (addresses (turns ++ new)) a
    all_more f a h i = subst (λ (xs : List ℕ). Contains xs a) (sym split)
        (elim (Contains-append_cases (take count froms) (from ∷ []) f (subst (λ (xs : List ℕ). Contains xs f) grown h)) [
          | inl old ↦ Contains-append_left (addresses turns) (addresses new) a (far.are.all f a old i)
          | inr one ↦
              let same : from ≡ f = in_one from f one in
              Contains-append_right (addresses turns) (addresses new) a (are.all a (merged a (subst (λ (x : ℕ). IsFrom parts starts x a) (sym same) i)))
        ])

    old_below : (a : ℕ) → Contains (addresses turns) a → a < from
    old_below a h =
        let low : a < get_or froms count 0 = All-contains (λ (x : ℕ). x < get_or froms count 0) (addresses turns) a
        (All-map (λ (x : ℕ). x < get_or froms count 0) (λ (t : TurnRecord). t.address) turns
        (far.below count (omega arith) within)) h in
        omega (arith, low, is)

    new_above : (a : ℕ) → Contains (addresses new) a → from ≤ a
    new_above a h =
        All-contains (λ (x : ℕ). from ≤ x) (addresses new) a
        (All-map (λ (x : ℕ). from ≤ x) (λ (t : TurnRecord). t.address) new
        (All-weaker (IsTurnHere parts from end) (λ (t : TurnRecord). from ≤ t.address) (λ t m. m.0.not_below) new
        are.each)) h

    new_below : (i : ℕ) → count + 1 ≤ i → i < length froms → (t : TurnRecord) → IsTurnHere parts from end t → t.address < get_or froms i 0
    new_below i h l t m =
        let r = rising count i 0 (omega (arith, h)) l in
        (is_from t.address m.0).none_between (get_or froms i 0) (stand (get_or froms i 0) (Contains-get_or froms i 0 l)) (omega (arith, r, is))

    pub turns_so_far_more : AreTurnsSoFar (count + 1) (turns ++ new)
    turns_so_far_more =
        record {
          are =
              record {
                each = All-append (IsFromThese (take (count + 1) froms)) turns new
                    (All-weaker (IsFromThese (take count froms)) (IsFromThese (take (count + 1) froms)) old_turn turns
                    far.are.each)
                    (All-weaker (IsTurnHere parts from end) (IsFromThese (take (count + 1) froms)) new_turn new are.each);
                all = all_more;
                rising = subst (λ (xs : List ℕ). AreRising xs) (sym split)
                    (rising_append (addresses turns) (addresses new) far.are.rising are.rising (λ a b h k.
                    let low = old_below a h in let high = new_above b k in omega (arith, low, high)));
              };
          below = λ i h l. All-append (λ (t : TurnRecord). t.address < get_or froms i 0) turns new (far.below i (omega (arith, h)) l)
              (All-weaker (IsTurnHere parts from end) (λ (t : TurnRecord). t.address < get_or froms i 0) (new_below i h l) new are.each);
        }

-- a boundary has one next boundary, and is below it
pub below_after : (starts : List ℕ) (from : ℕ) (end : Option ℕ) → IsNextAbove starts from end → IsBelow from end
below_after starts from None is = tt
below_after starts from (Some e) is = is.0
