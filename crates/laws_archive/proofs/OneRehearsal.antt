-- A script has one report.
use Rattle.std.proofs.Common.{◌≡◌, ℕ, ◌+◌, List, [], ◌∷◌, ◌++◌, length, map, codes, refl, sym, ap, ap₂, ◌∙◌, subst, Ok}
use Rattle.std.proofs.Common.{true, if◌then◌else◌, slice_index_or, decimal}
use Rattle.std.specs.List.{AllZip}
use Rattle.archive_core.specs.Record.{retirement_record}
use Rattle.archive_exchange.specs.World as model
use Rattle.archive_exchange.specs.World.{state, outcomes}
use Rattle.archive_exchange.specs.InnerEvents.{SeenFile}
use Rattle.archive_exchange.specs.ModelEvent.{ModelEvent, IsFile, IsSeen, AreSeen, OutcomeIs, row_told, fault_told}
use Rattle.archive_image_admission.specs.declared.fault.TakeFault.{TakeFault}
use Rattle.text_input_files.specs.declared.event.Event.{Event}
use Rattle.text_input_files.specs.declared.event.Event.TheVariants as event
use Rattle.archive_exchange.specs.declared.outcome.Outcome.{Outcome}
use Rattle.archive_exchange.specs.declared.outcome.Outcome.TheVariants.{Took, Retired, Refused}
use Rattle.text_input_files.specs.Events.{Act, Take, Retire, Full, Ask, Reply, Deliver, Save, Stop, act_of}
use Rattle.text_input_files.specs.Script.{acts, script_of}
use Rattle.archive_exchange.specs.EventLines.{event_fault_text, event_lines, outcome_text, sent_text, took_text}
use Rattle.text_reports.specs.Report.{line}
use Rattle.command_common.specs.declared.faults.Status.{Status}
use Rattle.command_common.specs.Inputs.{Reader, IsGiven}
use Rattle.archive_exchange.specs.Rehearse.{MakesRehearsed, TellsEvents, rehearsal_lines, site_lines}
use Rattle.laws_archive.proofs.Given.{is_given, one_value}

-- ---- one report

-- what an event is, by what it asks for
abbrev IsSeenAct : Act → ModelEvent → Type 0
IsSeenAct (Take site file) seen = (is : SeenFile) × IsFile file is × (seen ≡ model.Take site is)
IsSeenAct (Retire site key digest) seen = seen ≡ model.Retire site (retirement_record key digest.0)
IsSeenAct (Full site) seen = seen ≡ model.Full site
IsSeenAct (Ask site) seen = seen ≡ model.Ask site
IsSeenAct (Reply site message) seen = seen ≡ model.Reply site message
IsSeenAct (Deliver site message) seen = seen ≡ model.Deliver site message
IsSeenAct (Save site) seen = seen ≡ model.Save site
IsSeenAct (Stop site) seen = seen ≡ model.Stop site

seen_as : (e : Event) (s : ModelEvent) → IsSeen e s ≡ IsSeenAct (act_of e) s
seen_as (event.Take site file) s = refl
seen_as e s = refl

same_seen : (es fs : List Event) (ss : List ModelEvent) → acts es ≡ acts fs → AreSeen es ss → AreSeen fs ss
same_seen [] [] ss same are = are
same_seen (e ∷ es) (f ∷ fs) [] same are = absurd are
same_seen (e ∷ es) (f ∷ fs) (s ∷ ss) same are =
    let first : act_of e ≡ act_of f = cc in
    let rest : acts es ≡ acts fs = cc in
    (subst (λ (P : Type 0). P) (seen_as e s ∙ ap (λ a. IsSeenAct a s) first ∙ sym (seen_as f s)) are.0, same_seen es fs ss rest are.1)
same_seen es fs ss same are = cc

-- the text of what is answered
abbrev answer_text : List (List ℕ) → model.Outcome TakeFault → List ℕ
answer_text messages (model.Took rows) = took_text (map row_told rows)
answer_text messages (model.Retired new) = if new then codes "retired" else codes "known"
answer_text messages (model.Sent m) = sent_text m (length (slice_index_or messages m []))
answer_text messages model.Delivered = codes "delivered"
answer_text messages model.Saved = codes "saved"
answer_text messages model.Stopped = codes "stopped"
answer_text messages (model.Refused fault) = codes "refused " ++ event_fault_text (fault_told fault)

one_answer : (messages : List (List ℕ)) (o : Outcome) (a : model.Outcome TakeFault) → OutcomeIs o a → outcome_text messages o ≡ answer_text messages a
unfolding outcome_text
one_answer messages (Took rows) a tells = ap took_text tells.1 ∙ sym (ap (answer_text messages) tells.2)
one_answer messages (Retired true) a tells = sym (ap (answer_text messages) tells)
one_answer messages (Refused fault) a tells = ap (λ f. codes "refused " ++ event_fault_text f) tells.1 ∙ sym (ap (answer_text messages) tells.2)
one_answer messages o a tells = sym (ap (answer_text messages) tells)

same_lines : (messages : List (List ℕ)) (n : ℕ) (told others : List Outcome) (answers : List (model.Outcome TakeFault))
    → AllZip OutcomeIs told answers → AllZip OutcomeIs others answers → event_lines messages n told ≡ event_lines messages n others
unfolding event_lines
same_lines messages n [] [] answers p q = refl
same_lines messages n [] (o ∷ others) [] p q = absurd q
same_lines messages n (t ∷ told) [] (a ∷ answers) p q = absurd q
same_lines messages n (t ∷ told) (o ∷ others) (a ∷ answers) p q =
    let one : outcome_text messages t ≡ outcome_text messages o = one_answer messages t a p.0 ∙ sym (one_answer messages o a q.0) in
    ap₂ (λ x rest. line (decimal n ++ codes " " ++ x) ++ rest) one (same_lines messages (n + 1) told others answers p.1 q.1)
same_lines messages n _ _ _ p q = absurd p

-- the same number of sites and events that are the same tell the same
told_alike : (one : (events : List Event) (seen other : List ModelEvent) → AreSeen events seen → AreSeen events other → seen ≡ other)
    (sites : ℕ) (es fs : List Event) (text other : List ℕ) → acts es ≡ acts fs → TellsEvents sites es text → TellsEvents sites fs other → text ≡ other
told_alike one sites es fs text other same p q =
    let seen : p.seen ≡ q.seen = one fs p.seen q.seen (same_seen es fs p.seen same p.are_seen) q.are_seen in
    let tells : AllZip OutcomeIs p.told (outcomes sites q.seen (length q.seen)) =
    subst (λ (s : List ModelEvent). AllZip OutcomeIs p.told (outcomes sites s (length s))) seen p.outcomes_are in
    let w = state sites q.seen (length q.seen) in
    p.text_is
    ∙ ap (λ (s : List ModelEvent). rehearsal_lines sites p.told (state sites s (length s))) seen
    ∙ ap (λ lines. lines ++ site_lines w.held sites) (same_lines _ 0 p.told q.told (outcomes sites q.seen (length q.seen)) tells q.outcomes_are)
    ∙ sym q.text_is

pub one_text : (one : (events : List Event) (seen other : List ModelEvent) → AreSeen events seen → AreSeen events other → seen ≡ other)
    {R S : Type 0} (script : Reader R) (other : Reader S) (bytes : List ℕ) (status other_status : Status) (text other_text : List ℕ)
    → IsGiven script bytes → IsGiven other bytes → MakesRehearsed script status text → MakesRehearsed other other_status other_text
    → (status ≡ other_status) × (text ≡ other_text)
one_text one script other bytes status other_status text other_text is also p q =
    let first = is_given script bytes (λ b. script_of b ≡ Ok (p.sites, acts p.events)) is p.script_is in
    let second = is_given other bytes (λ b. script_of b ≡ Ok (q.sites, acts q.events)) also q.script_is in
    let same = one_value (script_of bytes) (p.sites, acts p.events) (q.sites, acts q.events) first second in
    let tells : TellsEvents q.sites p.events text = subst (λ (n : ℕ). TellsEvents n p.events text) (ap (λ (said : ℕ × List Act). said.0) same) p.tells in
    (p.status_is ∙ sym q.status_is, told_alike one q.sites p.events q.events text other_text (ap (λ (said : ℕ × List Act). said.1) same) tells q.tells)
