-- The devices of indexes, before they were asked and after.
use Rattle.std.proofs.Common.{◌≡◌, ℕ, zero, suc, ◌+◌, List, [], ◌∷◌, length, drop, get_or, Option, Some, refl, sym, ap, subst, arith}
use Rattle.std.specs.Prelude.{slice_get, slice_set}
use Rattle.std.proofs.lemmas.Option.{slice_get_within}
use Rattle.byte_device.specs.Devices.{FailedIn}
use Rattle.command_common.specs.Inputs.{Reader, reader, readers, EachUnfailed}
use Rattle.index_lookup.specs.Among.{AreAnsweringAmong, EntryAt}
use Rattle.index_lookup.specs.AmongAsked.{AreThere, HaveTexts, each_known}
use Rattle.command_given_indexes.specs.Together.{AreAllKept, AreReadWith}
use Rattle.command_frames.specs.Asking.{AreGiven, FailsAlone}

-- the devices are there in which entries stand
pub there_among : {D : Type 0} (devices : List D) (prefix : List ℕ) (all : List (List (List ℕ)))
    (answering : List EntryAt) → length all ≡ length devices → AreAnsweringAmong prefix all answering
    → AreThere devices answering
there_among devices prefix all answering long among = λ k d lt.
    let x = get_or answering k d in
    let at = among.among k d lt in
    omega (arith, long, slice_get_within all x.input at.entries at.index_is)

module _ {S : Type 0} (left : S → Option (List ℕ)) (failures : S → ℕ) where
  abbrev between : List S → List S → List (Reader S)
  between old now = readers left failures old now

  -- ---- their bytes

  pub texts_of : (old new : List S) (texts : List (List ℕ)) → length new ≡ length old → AreGiven (between old new) texts → HaveTexts left old texts
  texts_of [] new [] long given = tt
  texts_of (x ∷ xs) [] texts long given = absurd (omega (arith, long))
  texts_of (x ∷ xs) (y ∷ ys) (t ∷ ts) long given = let rest : length ys ≡ length xs = omega (arith, long) in (given.0, texts_of xs ys ts rest given.1)
  texts_of old new texts long given = absurd given

  -- ---- which are kept

  pub all_kept : (old new : List S) → AreAllKept left failures old new
      → (each_known left new ≡ each_known left old) × (each_known failures new ≡ each_known failures old)
  all_kept [] [] k = (refl, refl)
  all_kept (x ∷ xs) (y ∷ ys) k =
      let rest = all_kept xs ys k.1 in
      (λ i. k.0.0 i ∷ rest.0 i, λ i. k.0.1 i ∷ rest.1 i)
  all_kept old new k = absurd k

  -- what was read with the first states was so whatever the last are
  pub read_before : {P : Type 0} (uuids : List (List ℕ)) (archives : List (Reader P)) (all : List (List (List ℕ))) (old mid new : List S)
      → length mid ≡ length old → length new ≡ length old → AreReadWith uuids (between old mid) archives all
      → AreReadWith uuids (between old new) archives all
  read_before uuids archives all [] mid new long more read = read
  read_before uuids archives all (x ∷ xs) [] new long more read = absurd (omega (arith, long))
  read_before uuids archives all (x ∷ xs) (y ∷ ys) [] long more read = absurd (omega (arith, more))
  read_before uuids (archive ∷ archives) (entries ∷ all) (x ∷ xs) (y ∷ ys) (z ∷ zs) long more read =
      let rest : length ys ≡ length xs = omega (arith, long) in
      let rest_more : length zs ≡ length xs = omega (arith, more) in
      (record { size = read.0.size; index_is = read.0.index_is; archive_is = read.0.archive_is }, read_before uuids archives all xs ys zs rest rest_more read.1)
  read_before uuids archives all old mid new long more read = absurd read

  -- ---- which failed

  pub none_failed_of : (old new : List S) → each_known failures new ≡ each_known failures old → EachUnfailed (between old new)
  none_failed_of (x ∷ xs) (y ∷ ys) same =
      let head : failures y ≡ failures x = cc in
      let tail : each_known failures ys ≡ each_known failures xs = cc in
      (head, none_failed_of xs ys tail)
  none_failed_of old new same = tt

  -- one failed, and no other
  pub fails_alone : (old new : List S) (input was now : ℕ) → slice_get (each_known failures old) input ≡ Some was
      → FailedIn was now → each_known failures new ≡ slice_set (each_known failures old) input now
      → FailsAlone (between old new) input
  fails_alone [] new input was now at failed same = absurd (cc at)
  fails_alone (x ∷ xs) [] zero was now at failed same = absurd (omega (arith, ap length same))
  fails_alone (x ∷ xs) [] (suc input) was now at failed same = absurd (omega (arith, ap length same))
  fails_alone (x ∷ xs) (y ∷ ys) zero was now at failed same =
      let first : failures x ≡ was = cc in
      let head : failures y ≡ now = cc in
      let tail : each_known failures ys ≡ each_known failures xs = cc in
      record {
        index = reader left failures x y;
        index_is = refl;
        failed = subst (λ (a : ℕ). FailedIn a (failures y)) (sym first) (subst (FailedIn was) (sym head) failed);
        before = tt;
        after = none_failed_of xs ys tail;
      }
  fails_alone (x ∷ xs) (y ∷ ys) (suc input) was now at failed same =
      let head : failures y ≡ failures x = cc in
      let tail : each_known failures ys ≡ slice_set (each_known failures xs) input now = cc in
      let rest = fails_alone xs ys input was now at failed tail in
      let next : suc input + 1 ≡ suc (input + 1) = omega arith in
      record {
        index = rest.index;
        index_is = rest.index_is;
        failed = rest.failed;
        before = (head, rest.before);
        after = subst (λ (n : ℕ). EachUnfailed (drop n (between (x ∷ xs) (y ∷ ys)))) (sym next) rest.after;
      }
