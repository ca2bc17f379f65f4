-- What happens at a site is what the definitions say of its event.
use Rattle.std.proofs.Common.{◌≡◌, ◌≢◌, inl, inr, ℕ, ◌<◌, Bool, List, [], ◌∷◌, ◌++◌, map, length, slice_get, refl, sym, ap, ◌∙◌, if◌then◌else◌, get_or}
use Rattle.std.proofs.Common.{slice_set, None, Some, Ok, Err}
use Rattle.std.proofs.lemmas.Bool.{lt-ltb}
use Rattle.std.proofs.lemmas.Option.{slice_get_within, slice_get_read}
use Rattle.std.proofs.lemmas.List.{length-map}
use Rattle.archive_core.specs.Content.{with_record, with_records, changes, joined}
use Rattle.archive_core.specs.Summary.{summary, delta}
use Rattle.archive_core.specs.Record.{IsRecord}
use Rattle.archive_core.proofs.Made.{joined_content}
use Rattle.archive_core.proofs.Summaries.{delta_content}
use Rattle.archive_records.specs.declared.fault.RecordFault.{RecordFault}
use Rattle.archive_records.specs.Text.{written, summary_text}
use Rattle.archive_records.proofs.Summarised.{AreEntries-summary}
use Rattle.archive_records.proofs.Versions.{one_content}
use Rattle.archive_exchange.specs.World as model
use Rattle.archive_exchange.specs.World.{World, Event, File, Fault, Content, Summary, site_of, records, fault_at_site, fault_of, effect, answer, refused_or}
use Rattle.archive_exchange.specs.World.{with_saved}
use Rattle.archive_image_admission.specs.File.{IsAcceptedFile, IsTakeFault, admissible, parts}
use Rattle.archive_image_admission.specs.Take.{admitted}
use Rattle.archive_exchange.specs.SiteState.{SiteState, IsArchiveTextOf, HasJoined, IsDeliverFault, IsReplyFault, RepliesTo}
use Rattle.archive_exchange.specs.ModelEvent.{IsFile, OutcomeIs, fault_told, part_record}
use Rattle.archive_exchange.specs.WorldState.{message_text, Represents}
use Rattle.archive_exchange.specs.InnerEvents.{Follows}
use Rattle.archive_image_admission.specs.declared.fault.TakeFault.{TakeFault}
use Rattle.archive_image_admission.specs.declared.fault.TakeFault.TheVariants.{OutOfMemory}
use Rattle.archive_exchange.specs.declared.fault.DeliverFault.{DeliverFault}
use Rattle.archive_exchange.specs.declared.fault.DeliverFault.TheVariants as deliver
use Rattle.archive_exchange.specs.declared.fault.ReplyFault.TheVariants as reply
use Rattle.archive_exchange.specs.declared.outcome.EventFault.TheVariants as fault
use Rattle.archive_exchange.specs.declared.outcome.Outcome.{Outcome}
use Rattle.archive_exchange.specs.declared.outcome.Outcome.TheVariants as told
use Rattle.archive_exchange.proofs.RunStates.{set_same, shows_held, shows_saved, shows_sent, message_at}
use Rattle.archive_exchange.proofs.Gained.{content_gain, recorded_take, recorded_retire, records_seen}
use Rattle.archive_exchange.proofs.Magics.{gives_no_summary, not_an_archive, not_a_summary}

-- an event of a site that is there is refused for what is at the site alone
here : (e : Event TakeFault) (sites : List SiteState) (old : SiteState) (w : World) → slice_get sites (site_of e)
    ≡ Some old → fault_of (length sites) w e ≡ fault_at_site w.messages e
here e sites old w at =
    ap (λ b. if b then fault_at_site w.messages e else Some model.NoSite) (lt-ltb (site_of e) (length sites) (slice_get_within sites (site_of e) old at))

record Allowed (e : Event TakeFault) (old new : SiteState) (texts later : List (List ℕ)) (a : Outcome) (sites : List SiteState) (w : World) : Type 0 where
  none : fault_at_site w.messages e ≡ None
  shows : Represents (slice_set sites (site_of e) new) later (effect w e)
  tells : OutcomeIs a (answer w e)

follow_by : (e : Event TakeFault) (old new : SiteState) (texts later : List (List ℕ)) (a : Outcome)
    → ((sites : List SiteState) (w : World) → slice_get sites (site_of e) ≡ Some old → Represents sites texts w → Allowed e old new texts later a sites w)
    → Follows e old new texts later a
follow_by e old new texts later a all = record {
  shows = λ sites w at sh.
      let p : Allowed e old new texts later a sites w = all sites w at sh in
      rw (here e sites old w at ∙ p.none) p.shows;
  tells = λ sites w at sh.
      let p : Allowed e old new texts later a sites w = all sites w at sh in
      rw (here e sites old w at ∙ p.none) p.tells;
}

record Barred (e : Event TakeFault) (a : Outcome) (w : World) : Type 0 where
  why : Fault TakeFault
  told : a ≡ told.Refused (fault_told why)
  is : fault_at_site w.messages e ≡ Some why

refuse_by : (e : Event TakeFault) (old : SiteState) (texts : List (List ℕ)) (a : Outcome)
    → ((sites : List SiteState) (w : World) → slice_get sites (site_of e) ≡ Some old → Represents sites texts w → Barred e a w)
    → Follows e old old texts texts a
refuse_by e old texts a all = record {
  shows = λ sites w at sh. rw (here e sites old w at ∙ (all sites w at sh).is, set_same sites (site_of e) old at) sh;
  tells = λ sites w at sh.
      let p : Barred e a w = all sites w at sh in
      rw p.told (p.why, refl, ap (λ g. refused_or g (answer w e)) (here e sites old w at ∙ p.is));
}

-- the number of the messages is that of their texts
sent_number : (sites : List SiteState) (texts : List (List ℕ)) (w : World) → Represents sites texts w → length texts ≡ length w.messages
sent_number sites texts w sh = ap length sh.sent ∙ length-map w.messages message_text

pub took : (i : ℕ) (file : List ℕ) (is : File TakeFault) (texts : List (List ℕ)) (old new : SiteState) (a : Outcome)
    → ((f : TakeFault) → IsAcceptedFile file → IsTakeFault file f → f ≡ OutOfMemory)
    → IsFile file is → IsAcceptedFile file → new.held ≡ admitted old.held (admissible file) → new.saved ≡ old.saved
    → ((answer : model.Outcome TakeFault) → answer ≡ model.Took (model.rows old.held (map part_record (parts file))) → OutcomeIs a answer)
    → Follows (model.Take i is) old new texts texts a
took i file (Err f) texts old new a none is accepted held saved tell = absurd (is.1 (none f accepted is.0))
took i file (Ok given) texts old new a none is accepted held saved tell =
    rw is.1 (follow_by (model.Take i (Ok (map part_record (parts file)))) old new texts texts a (λ sites w at sh.
    record {
      none = refl;
      shows = shows_held sites texts w i old new (with_records (w.held i) (records (map part_record (parts file)))) at sh
          (held ∙ sym (ap (with_records old.held) (records_seen (parts file)))
          ∙ ap (λ o. with_records o (records (map part_record (parts file)))) (sh.each i old at).held)
          saved (content_gain (w.held i) (records (map part_record (parts file))) (sh.held i) (recorded_take i file accepted));
      tells = tell _ (ap (λ o. model.Took (model.rows o (map part_record (parts file)))) (sym (sh.each i old at).held));
    }))

-- the fault of a file that is refused
pub not_taken : (i : ℕ) (file : List ℕ) (is : File TakeFault) (texts : List (List ℕ)) (old : SiteState) (f : TakeFault)
    → ((g : TakeFault) → IsAcceptedFile file → IsTakeFault file g → g ≡ OutOfMemory)
    → ((g h : TakeFault) → IsTakeFault file g → IsTakeFault file h → g ≡ h)
    → IsFile file is → IsTakeFault file f → f ≢ OutOfMemory → Follows (model.Take i is) old old texts texts (told.Refused (fault.File f))
not_taken i file (Err g) texts old f none one is refused other =
    refuse_by (model.Take i (Err g)) old texts (told.Refused (fault.File f)) (λ sites w at sh.
    record { why = model.FileRefused g; told = ap (λ h. told.Refused (fault.File h)) (one f g refused is.0); is = refl })
not_taken i file (Ok given) texts old f none one is refused other = absurd (other (none f is.0 refused))

pub retired : (i : ℕ) (r : List ℕ) (texts : List (List ℕ)) (old new : SiteState) (b : Bool)
    → IsRecord r → new.held ≡ with_record old.held r → new.saved ≡ old.saved → b ≡ changes old.held r
    → Follows (model.Retire i r) old new texts texts (told.Retired b)
retired i r texts old new b is held saved answer = follow_by (model.Retire i r) old new texts texts (told.Retired b) (λ sites w at sh.
    record {
      none = refl;
      shows = shows_held sites texts w i old new (with_record (w.held i) r) at sh
          (held ∙ ap (λ o. with_record o r) (sh.each i old at).held) saved
          (content_gain (w.held i) (r ∷ []) (sh.held i) (recorded_retire i r is));
      tells = ap (λ (c : Bool). model.Retired c) (sym (answer ∙ ap (λ o. changes o r) (sh.each i old at).held));
    })

pub sent_full : (i : ℕ) (old : SiteState) (texts later : List (List ℕ)) → later ≡ texts ++ written old.held ∷ []
    → Follows (model.Full i) old old texts later (told.Sent (length texts))
sent_full i old texts later is = follow_by (model.Full i) old old texts later (told.Sent (length texts)) (λ sites w at sh.
    record {
      none = refl;
      shows = rw (set_same sites i old at, is ∙ ap (λ o. texts ++ written o ∷ []) (sh.each i old at).held)
          (shows_sent sites texts w (Content (w.held i)) sh (sh.held i));
      tells = ap (λ (n : ℕ). model.Sent n) (sym (sent_number sites texts w sh));
    })

pub asked : (i : ℕ) (old new : SiteState) (texts later : List (List ℕ)) → new.held ≡ old.held → new.saved
    ≡ written old.held → later ≡ texts ++ summary_text (summary old.held) ∷ []
    → Follows (model.Ask i) old new texts later (told.Sent (length texts))
asked i old new texts later held saved is = follow_by (model.Ask i) old new texts later (told.Sent (length texts)) (λ sites w at sh.
    record {
      none = refl;
      shows = rw (is, (sh.each i old at).held) (shows_sent (slice_set sites i new) texts (with_saved w i)
          (Summary (summary (w.held i))) (shows_saved sites texts w i old new at sh held saved)
          (AreEntries-summary (w.held i) (sh.held i)));
      tells = ap (λ (n : ℕ). model.Sent n) (sym (sent_number sites texts w sh));
    })

-- a reply to a message that is there
pub replied : (i m : ℕ) (old : SiteState) (texts later : List (List ℕ)) (text reply : List ℕ) → slice_get texts m
    ≡ Some text → RepliesTo text old.held reply → later ≡ texts ++ reply ∷ []
    → Follows (model.Reply i m) old old texts later (told.Sent (length texts))
replied i m old texts later text reply got replies is = follow_by (model.Reply i m) old old texts later (told.Sent (length texts)) (λ sites w at sh.
    elim (message_at sites texts w m text sh got) [
      | inl c ↦ absurd (gives_no_summary c.0 (written c.0) replies.named (inl refl) (sym c.2 ∙ replies.names.is))
      | inr s ↦
          let named : replies.named ≡ s.0 = replies.alone s.0 (record { entries = s.3; is = s.2 }) in
          record {
            none = ap (λ x. model.reply_fault {F = TakeFault} x) s.1;
            shows = rw (set_same sites i old at, is, replies.is ∙ ap (λ o. written (delta o replies.named)) (sh.each i old at).held, named, s.1)
                (shows_sent sites texts w (Content (delta (w.held i) s.0)) sh (delta_content (w.held i) s.0 (sh.held i)));
            tells = ap (λ (n : ℕ). model.Sent n) (sym (sent_number sites texts w sh));
          }
    ])

pub not_replied : (i m : ℕ) (old : SiteState) (texts : List (List ℕ)) (text : List ℕ) (f : RecordFault)
    → slice_get texts m ≡ Some text → IsReplyFault text (reply.NotASummary f)
    → Follows (model.Reply i m) old old texts texts (told.Refused (fault.NotASummary f))
not_replied i m old texts text f got refused = refuse_by (model.Reply i m) old texts (told.Refused (fault.NotASummary f)) (λ sites w at sh.
    elim (message_at sites texts w m text sh got) [
      | inl c ↦ record {
        why = model.NotASummary;
        told = ap (λ g. told.Refused (fault.NotASummary g)) (not_a_summary c.0 f (rw c.2 at refused.0));
        is = ap (λ x. model.reply_fault {F = TakeFault} x) c.1;
      }
      | inr s ↦ absurd (refused.2 (s.0, record { entries = s.3; is = s.2 }))
    ])

-- a delivery of a message that is there
pub delivered : (i m : ℕ) (old new : SiteState) (texts : List (List ℕ)) (text : List ℕ) → slice_get texts m ≡ Some text
    → HasJoined text old new → Follows (model.Deliver i m) old new texts texts told.Delivered
delivered i m old new texts text got joins = follow_by (model.Deliver i m) old new texts texts told.Delivered (λ sites w at sh.
    elim (message_at sites texts w m text sh got) [
      | inl c ↦
          let is : joins.message ≡ c.0 = one_content text joins.message c.0 joins.gives.content c.3 joins.gives.is (inl c.2) in
          record {
            none = ap (λ x. model.deliver_fault {F = TakeFault} x) c.1;
            shows = rw c.1 (shows_held sites texts w i old new (joined (w.held i) c.0) at sh
                (joins.held ∙ ap (λ p. joined old.held p) is ∙ ap (λ p. joined p c.0) (sh.each i old at).held)
                joins.saved (joined_content (w.held i) c.0 (sh.held i) c.3));
            tells = refl;
          }
      | inr s ↦ absurd (gives_no_summary joins.message text s.0 joins.gives.is s.2)
    ])

pub not_delivered : (i m : ℕ) (old : SiteState) (texts : List (List ℕ)) (text : List ℕ) (f : RecordFault)
    → slice_get texts m ≡ Some text → IsDeliverFault text (deliver.Refused f)
    → Follows (model.Deliver i m) old old texts texts (told.Refused (fault.Refused f))
not_delivered i m old texts text f got refused = refuse_by (model.Deliver i m) old texts (told.Refused (fault.Refused f)) (λ sites w at sh.
    elim (message_at sites texts w m text sh got) [
      | inl c ↦ absurd (refused.2 (c.0, record { content = c.3; is = inl c.2 }))
      | inr s ↦ record {
        why = model.NotAContent;
        told = ap (λ g. told.Refused (fault.Refused g)) (not_an_archive s.0 f (rw s.2 at refused.0));
        is = ap (λ x. model.deliver_fault {F = TakeFault} x) s.1;
      }
    ])

pub saves : (i : ℕ) (old new : SiteState) (texts : List (List ℕ)) → new.held ≡ old.held → new.saved ≡ written old.held
    → Follows (model.Save i) old new texts texts told.Saved
saves i old new texts held saved = follow_by (model.Save i) old new texts texts told.Saved (λ sites w at sh.
    record { none = refl; shows = shows_saved sites texts w i old new at sh held saved; tells = refl })

pub stops : (i : ℕ) (old new : SiteState) (texts : List (List ℕ)) → IsArchiveTextOf old.saved new.held → new.saved
    ≡ old.saved → Follows (model.Stop i) old new texts texts told.Stopped
stops i old new texts says saved = follow_by (model.Stop i) old new texts texts told.Stopped (λ sites w at sh.
    record {
      none = refl;
      shows = shows_held sites texts w i old new (w.saved i) at sh
          (one_content old.saved new.held (w.saved i) says.content (sh.saved i) (inl says.is)
          (inl (sh.each i old at).saved)) saved (sh.saved i);
      tells = refl;
    })

-- the same, told by an equal outcome
pub follows_as : (e : Event TakeFault) (old new : SiteState) (texts later : List (List ℕ)) (a b : Outcome) → b ≡ a
    → Follows e old new texts later a → Follows e old new texts later b
follows_as e old new texts later a b is follows = rw is follows

-- the same, where the site stays as it was
pub kept_as : (e : Event TakeFault) (old new : SiteState) (texts later : List (List ℕ)) (a : Outcome) → new ≡ old
    → Follows e old old texts later a → Follows e old new texts later a
kept_as e old new texts later a is follows = rw is follows

pub deliver_ne : (d : DeliverFault) (f : RecordFault) → d ≡ deliver.Refused f → d ≢ deliver.OutOfMemory
deliver_ne d f e q = cc

pub sent_at : (texts : List (List ℕ)) (m : ℕ) (x text : List ℕ) → m < length texts → x ≡ get_or texts m x → text ≡ x → slice_get texts m ≡ Some text
sent_at texts m x text lt is e = slice_get_read texts (length texts) m x refl lt is ∙ ap (λ (t : List ℕ). Some t) (sym e)
