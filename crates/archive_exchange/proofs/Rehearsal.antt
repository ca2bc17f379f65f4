-- A rehearsal, computed.
use Rattle.std.proofs.Common.{◌≡◌, ℕ, false, List, [], ◌∷◌, refl}
use Rattle.std.specs.declared.option.Option.{Option}
use Rattle.std.specs.declared.option.Option.TheVariants.{None}
use Rattle.std.specs.declared.result.Result.TheVariants.{Ok, Err}
use Rattle.archive_exchange.specs.World.{Event, Take, Full, Ask, Reply, Deliver, Save, Stop, Sent, Delivered, Saved}
use Rattle.archive_exchange.specs.World.{Refused, NoSite, NoMessage, NotASummary, NotAContent, FileRefused, outcome}
use Rattle.archive_exchange.specs.World.{outcomes, state, rows, Skipped}
use Rattle.archive_core.specs.Content.{Operations}
use Rattle.archive_exchange.specs.Reached.{is_kept}

abbrev rehearsal : List (Option (List ℕ)) → List (Event ℕ)
rehearsal x = Take 1 (Ok x) ∷ Ask 1 ∷ Stop 1 ∷ Take 0 (Ok x) ∷ Reply 0 0 ∷ Deliver 1 1 ∷ Deliver 1 1 ∷ []

twice : (x : List (Option (List ℕ))) → outcome {F = ℕ} 2 (state 2 (rehearsal x) 6) (Deliver 1 1) ≡ Delivered
twice x = refl

refusals : (x : List (Option (List ℕ))) → outcomes {F = ℕ} 2
    (Ask 2 ∷ Reply 0 0 ∷ Ask 1 ∷ Full 0 ∷ Reply 5 7 ∷ Reply 0 1 ∷ Deliver 1 0 ∷ Deliver 1 2 ∷ Take 0 (Err 7) ∷ Save 1
    ∷ []) 10
    ≡ Refused NoSite ∷ Refused NoMessage ∷ Sent 0 ∷ Sent 1 ∷ Refused NoSite ∷ Refused NotASummary ∷ Refused NotAContent
    ∷ Refused NoMessage ∷ Refused (FileRefused 7) ∷ Saved ∷ []
refusals x = refl

lost : (x : List (Option (List ℕ))) → is_kept {F = ℕ} 2 (Take 1 (Ok x) ∷ Stop 1 ∷ Ask 1 ∷ []) 1 0 3 ≡ false
lost x = refl

skipped : (o : Operations) → rows o (None ∷ []) ≡ Skipped ∷ []
skipped o = refl
