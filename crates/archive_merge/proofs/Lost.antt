-- What is lost is what was told as new.
use Rattle.std.proofs.Common.{arith, ◌≡◌, ℕ, ◌+◌, ◌||◌, Bool, not, List, map, count_by, ap, ◌∙◌, subst, cond}
use Rattle.std.proofs.lemmas.List.Folds.{fold-map}
use Rattle.std.specs.FinSet as set
use Rattle.join_core.specs.Listing.{listing}
use Rattle.byte_device.specs.Devices.{FailedIn, Stream}
use Rattle.archive_core.specs.Content.{Operations, changes, is_covered}
use Rattle.archive_records.specs.declared.kind.TextKind.TheVariants.{Archive as Archive_text}
use Rattle.archive_records.specs.declared.writing.Sizes.{Sizes}
use Rattle.archive_records.specs.Reading.{IsReadWhole}
use Rattle.archive_merge.specs.declared.arrivals.Arrival.{Arrival}
use Rattle.archive_records.specs.declared.fault.MergeCause.{MergeCause}
use Rattle.archive_records.specs.declared.fault.MergeCause.TheVariants.{Left, Right, Write}
use Rattle.archive_merge.specs.Losses.{IsNotCompared, Loses}
use Rattle.archive_merge.specs.Merging.{StopsBy}
use Rattle.archive_merge.specs.ArrivalMerge.{IsMergedWithArrivals}
use Rattle.archive_merge.specs.Arrivals.{is_new, arrival_by, arrival_of}

new_by : (has covered : Bool) → is_new (arrival_by covered has) ≡ not (has || covered)
new_by has covered = grind arith

-- a record is new where it changes the content
pub new_changes : (o : Operations) (r : List ℕ) → is_new (arrival_of o r) ≡ changes o r
unfolding arrival_of changes
new_changes o r = new_by (set.contains o r) (is_covered o r)

pub count_new : (o : Operations) (rs : List (List ℕ)) → count_by is_new (map (arrival_of o) rs) ≡ count_by (changes o) rs
count_new o rs = fold-map (λ n t. n + cond (is_new t) 1 0) (arrival_of o) 0 rs ∙ (λ i. count_by (λ r. new_changes o r i) rs)

pub loses : {R S W : Type 0} (new : Stream R) (old : Stream S) (out : Stream W) (sizes : Sizes) (arrivals : List Arrival) (withdraws : Bool) (n : ℕ)
    → IsMergedWithArrivals new old out sizes arrivals withdraws → n ≡ count_by is_new arrivals → Loses new old n
loses new old out sizes arrivals withdraws n t count = record {
  content = t.merged.o;
  operations = t.operations;
  new_is = t.merged.left_is;
  old_is = subst (λ o. IsReadWhole Archive_text o old.bytes old.failures old.old old.new) t.makes t.merged.right_is;
  are = t.are;
  old_has = t.right_is;
  lost_is = count ∙ ap (count_by is_new) t.arrivals_are ∙ count_new t.merged.o (listing t.operations);
}

-- why two archives are not compared: a merge of both stopped so, and its writer never fails
pub not_compared : {R S W : Type 0} (new : Stream R) (old : Stream S) (out : Stream W) (cause : MergeCause) (n : ℕ)
    → (FailedIn (out.failures out.old) (out.failures out.new) → ⊥) → StopsBy new old out cause n
    → IsNotCompared new old cause
not_compared new old out (Left fault) n sound s = record { refused = s.refused; old_unfailed = s.right_unfailed; stops = s.stops }
not_compared new old out (Right fault) n sound s = record { refused = s.refused; new_unfailed = s.left_unfailed; stops = s.stops }
not_compared new old out Write n sound s = absurd (sound s.failed)
