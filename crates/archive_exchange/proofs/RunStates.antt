-- What a change at one site is to a world that sites show, and sites that are empty.
use Rattle.std.proofs.Common.{inl, inr, ◌⊎◌, ◌≡◌, ◌≢◌, ℕ, zero, suc, true, false, List, [], ◌∷◌, ◌++◌, slice_get, refl, sym, ap, ◌∙◌, if◌then◌else◌, ◌==◌}
use Rattle.std.proofs.Common.{eq-eqb, slice_set, Option, None, Some, ◌+◌, length, length-append}
use Rattle.std.specs.Option.{option_map}
use Rattle.std.proofs.lemmas.Bool.{cases_eq, ne_eqb}
use Rattle.std.proofs.lemmas.Option.{slice_get-map}
use Rattle.std.proofs.lemmas.List.{map-append}
use Rattle.archive_core.specs.Content.{Operations, IsContent}
use Rattle.archive_core.specs.Summary.{Entries}
use Rattle.archive_records.specs.Entry.{AreEntries}
use Rattle.archive_records.specs.Text.{summary_text, written}
use Rattle.archive_exchange.specs.World.{World, Message, Content, Summary, updated, with_held, with_saved, with_sent}
use Rattle.archive_exchange.specs.World.{start}
use Rattle.archive_exchange.specs.SiteState.{SiteState}
use Rattle.archive_exchange.specs.WorldState.{message_text, IsSound, IsSite, Represents}
use Rattle.std.specs.FinSet as set
use Rattle.std.specs.FinSet.{contains-empty}
use Rattle.std.specs.Ordering.{nat_cmp}
use Rattle.std.specs.Cmp.Lexicographic.{slice_cmp}
use Rattle.archive_core.proofs.Made.{made_empty}

-- a list with one element set
other : {X : Type 0} (xs : List X) (i j : ℕ) (x y : X) → j ≢ i → slice_get (slice_set xs i x) j ≡ Some y → slice_get xs j ≡ Some y
other (z ∷ xs) zero zero x y ne h = absurd (ne refl)
other (z ∷ xs) (suc i) (suc j) x y ne h = other xs i j x y (λ e. ne (ap suc e)) h
other xs i j x y ne h = h

same : {X : Type 0} (xs : List X) (i : ℕ) (x y : X) → slice_get (slice_set xs i x) i ≡ Some y → x ≡ y
same (z ∷ xs) (suc i) x y h = same xs i x y h
same xs i x y h = cc

pub set_same : {X : Type 0} (xs : List X) (i : ℕ) (x : X) → slice_get xs i ≡ Some x → slice_set xs i x ≡ xs
set_same (z ∷ xs) zero x h = let e : z ≡ x = cc in ap (λ y. y ∷ xs) (sym e)
set_same (z ∷ xs) (suc i) x h = ap (λ ys. z ∷ ys) (set_same xs i x h)
set_same xs i x h = refl

-- sites with one of them updated
updated_same : (f : ℕ → Operations) (i : ℕ) (o : Operations) → updated f i o i ≡ o
updated_same f i o = ap (λ b. if b then o else f i) (eq-eqb i i refl)

updated_other : (f : ℕ → Operations) (i : ℕ) (o : Operations) (j : ℕ) → j ≢ i → updated f i o j ≡ f j
updated_other f i o j ne = ap (λ b. if b then o else f j) (ne_eqb j i ne)

updated_each : (f : ℕ → Operations) (i : ℕ) (o : Operations) → IsContent o → ((j : ℕ) → IsContent (f j)) → (j : ℕ) → IsContent (updated f i o j)
updated_each f i o is all j = elim (j == i) as (λ b. IsContent (if b then o else f j)) [ true ↦ is | false ↦ all j ]

-- a world that is another at one site is shown by the sites with that one set
record IsElsewhere (w v : World) (j : ℕ) : Type 0 where
  held : v.held j ≡ w.held j
  saved : v.saved j ≡ w.saved j

each_by : (sites : List SiteState) (w v : World) (i : ℕ) (new : SiteState)
    → ((j : ℕ) (site : SiteState) → slice_get sites j ≡ Some site → IsSite w j site) → IsSite v i new → ((j : ℕ) → j ≢ i → IsElsewhere w v j)
    → (j : ℕ) (site : SiteState) → slice_get (slice_set sites i new) j ≡ Some site → IsSite v j site
each_by sites w v i new each here elsewhere j site h = elim (cases_eq j i) [
  | inl at ↦
      let there : slice_get (slice_set sites i new) i ≡ Some site = rw at at h in
      rw (at, ← same sites i new site there) here
  | inr ne ↦
      let is : IsSite w j site = each j site (other sites i j new site ne h) in
      record { held = is.held ∙ sym (elsewhere j ne).held; saved = is.saved ∙ ap written (sym (elsewhere j ne).saved) }
]

pub shows_held : (sites : List SiteState) (texts : List (List ℕ)) (w : World) (i : ℕ) (old new : SiteState) (o : Operations)
    → slice_get sites i ≡ Some old → Represents sites texts w → new.held ≡ o → new.saved ≡ old.saved → IsContent o
    → Represents (slice_set sites i new) texts (with_held w i o)
shows_held sites texts w i old new o at sh held saved is = record {
  each = each_by sites w (with_held w i o) i new sh.each
      (record { held = held ∙ sym (updated_same w.held i o); saved = saved ∙ (sh.each i old at).saved })
      (λ j ne. record { held = updated_other w.held i o j ne; saved = refl });
  sent = sh.sent;
  held = updated_each w.held i o is sh.held;
  saved = sh.saved;
  sound = sh.sound;
}

pub shows_saved : (sites : List SiteState) (texts : List (List ℕ)) (w : World) (i : ℕ) (old new : SiteState)
    → slice_get sites i ≡ Some old → Represents sites texts w → new.held ≡ old.held → new.saved ≡ written old.held
    → Represents (slice_set sites i new) texts (with_saved w i)
shows_saved sites texts w i old new at sh held saved = record {
  each = each_by sites w (with_saved w i) i new sh.each
      (record {
        held = held ∙ (sh.each i old at).held;
        saved = saved ∙ ap written ((sh.each i old at).held ∙ sym (updated_same w.saved i (w.held i)));
      })
      (λ j ne. record { held = refl; saved = updated_other w.saved i (w.held i) j ne });
  sent = sh.sent;
  held = sh.held;
  saved = updated_each w.saved i (w.held i) (sh.held i) sh.saved;
  sound = sh.sound;
}

sound_more : (ms : List Message) (m : Message) → ((k : ℕ) (x : Message) → slice_get ms k ≡ Some x → IsSound x) → IsSound m
    → (k : ℕ) (x : Message) → slice_get (ms ++ m ∷ []) k ≡ Some x → IsSound x
sound_more [] m all is zero x h = let e : m ≡ x = cc in rw (← e) is
sound_more [] m all is (suc k) x h = cc
sound_more (y ∷ ms) m all is zero x h = all zero x h
sound_more (y ∷ ms) m all is (suc k) x h = sound_more ms m (λ j. all (suc j)) is k x h

pub shows_sent : (sites : List SiteState) (texts : List (List ℕ)) (w : World) (m : Message) → Represents sites texts w
    → IsSound m → Represents sites (texts ++ message_text m ∷ []) (with_sent w m)
shows_sent sites texts w m sh is = record {
  each = λ i site h. record { held = (sh.each i site h).held; saved = (sh.each i site h).saved };
  sent = ap (λ t. t ++ message_text m ∷ []) sh.sent ∙ sym (map-append message_text w.messages (m ∷ []));
  held = sh.held;
  saved = sh.saved;
  sound = sound_more w.messages m sh.sound is;
}

-- the message of a text that was sent: a content, or a summary
abbrev pub IsMessage : World → ℕ → List ℕ → Type 0
IsMessage w m text =
    ((o : Operations) × (slice_get w.messages m ≡ Some (Content o)) × (text ≡ written o) × IsContent o)
    ⊎ ((s : Entries) × (slice_get w.messages m ≡ Some (Summary s)) × (text ≡ summary_text s) × AreEntries s)

pub message_at : (sites : List SiteState) (texts : List (List ℕ)) (w : World) (m : ℕ) (text : List ℕ)
    → Represents sites texts w → slice_get texts m ≡ Some text → IsMessage w m text
message_at sites texts w m text sh h = by (slice_get w.messages m) refl (sym h ∙ ap (λ l. slice_get l m) sh.sent ∙ slice_get-map message_text w.messages m)
  where
    by : (o : Option Message) → slice_get w.messages m ≡ o → Some text ≡ option_map message_text o → IsMessage w m text
    by None e t = cc
    by (Some (Content o)) e t = inl (o, e, cc, sh.sound m (Content o) e)
    by (Some (Summary s)) e t = inr (s, e, cc, sh.sound m (Summary s) e)

empty_content : IsContent set.empty
empty_content = record { itself = made_empty; records = λ r h. cc (contains-empty (slice_cmp nat_cmp) r) }

pub none_shown : Represents [] [] start
none_shown = record {
  each = λ i site h. cc;
  sent = refl;
  held = λ i. empty_content;
  saved = λ i. empty_content;
  sound = λ m x h. cc;
}

-- one empty site more
pub shown_more : (sites : List SiteState) (site : SiteState) → Represents sites [] start → site
    ≡ record { held = set.empty; saved = written set.empty } → Represents (sites ++ site ∷ []) [] start
shown_more sites site sh is = record {
  each = λ i s h. each sites i s sh.each h;
  sent = refl;
  held = sh.held;
  saved = sh.saved;
  sound = sh.sound;
}
  where
    fresh : (i : ℕ) → IsSite start i site
    fresh i = record { held = ap (λ (k : SiteState). k.held) is; saved = ap (λ (k : SiteState). k.saved) is }

    -- at the start all sites are alike, so that the number does not matter
    each : (row : List SiteState) (i : ℕ) (s : SiteState)
        → ((j : ℕ) (t : SiteState) → slice_get row j ≡ Some t → IsSite start j t) → slice_get (row ++ site ∷ []) i
        ≡ Some s → IsSite start i s
    each [] zero s all h = let e : site ≡ s = cc in rw (← e) (fresh zero)
    each [] (suc i) s all h = cc
    each (y ∷ row) zero s all h = all zero s h
    each (y ∷ row) (suc i) s all h =
        let r : IsSite start i s = each row i s (λ j t k. record { held = (all (suc j) t k).held; saved = (all (suc j) t k).saved }) h in
        record { held = r.held; saved = r.saved }

pub one_longer : (xs ys : List SiteState) (x : SiteState) (n : ℕ) → ys ≡ xs ++ x ∷ [] → length xs ≡ n → length ys ≡ n + 1
one_longer xs ys x n e h = ap length e ∙ length-append xs (x ∷ []) ∙ ap (λ k. k + 1) h
