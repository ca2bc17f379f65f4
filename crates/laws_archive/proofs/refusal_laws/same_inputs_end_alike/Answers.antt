use Rattle.std.proofs.Common.{◌≡◌, ℕ, List, [], ◌∷◌, Ok, Err, Bool, refl, sym, ap, ◌∙◌, subst, inl, inr}
use Rattle.std.specs.List.{AllByRecursion, AllZip}
use Rattle.archive_core.specs.Content.{Operations, IsContent}
use Rattle.archive_records.specs.Text.{IsArchiveOf}
use Rattle.text_input_files.specs.Frames.{frames_of}
use Rattle.text_input_files.specs.declared.frame.Frame.{Frame}
use Rattle.command_common.specs.declared.faults.CommandFault.TheVariants.{Input, Output, Report, OutOfMemory}
use Rattle.command_common.specs.declared.faults.InputName.{InputName}
use Rattle.command_common.specs.declared.faults.Status.{Status}
use Rattle.command_common.specs.declared.faults.Why.{Why}
use Rattle.command_common.specs.Archives.{AreRefused, AreUnfailed, HoldTogether, further_name, merged}
use Rattle.command_common.specs.Ends.{Query}
use Rattle.command_common.specs.Inputs.{Reader, EachUntouched, HoldsArchive, IsArchive, IsArchiveRefused, IsDeviceFault}
use Rattle.command_common.specs.Inputs.{IsFirstRefused, IsGivenArchive, IsRefusedInOrder, IsRefusedInTurn}
use Rattle.command_common.specs.Outputs.{Takes}
use Rattle.command_queries.specs.Frames.{TellsFramesWith, frames}
use Rattle.laws_archive.specs.Joins.{IsGivenJoin, TellOne}
use Rattle.laws_archive.specs.Refusals.{ArchivesHoldAlike, EachHoldAlike, EndAlike, HoldAlike, RefuseOne}
use Rattle.laws_archive.proofs.Given.{is_given, one_value}
use Rattle.laws_archive.proofs.Joins.{told_of_join, found_once, listed_once, named_once}
use Rattle.laws_archive.proofs.Refusals.{all_good, archives_agree, carried, each_swapped, frames_accepted, good_in_turn}
use Rattle.laws_archive.proofs.Refusals.{one_first, one_frames, one_in_turn, swapped, one_archive, one_script}
use Rattle.laws_archive.proofs.Refusals.{script_accepted}
use Rattle.text_input_files.specs.Script.{acts, script_of}
use Rattle.archive_core.specs.Find.{IsFinds}
use Rattle.command_queries.specs.Find.{find}
use Rattle.command_queries.specs.List.{list}
use Rattle.command_queries.specs.Name.{TellsNamed}
use Rattle.command_queries.specs.Symbolicate.{TellsAddressesWith}
use Rattle.archive_exchange.specs.Rehearse.{rehearse}
use Rattle.laws_archive.proofs.FramesTold.{one_told as one_frame_told}
use Rattle.laws_archive.proofs.OneRehearsal.{one_text}
use Rattle.laws_archive.proofs.SlicesTold.{addresses_once, frames_once}
use Rattle.laws_archive.proofs.Viewed.{one_told}
use Rattle.laws_archive.proofs.refusal_laws.same_inputs_end_alike.Goals as goal

-- what one call tells something of, the other refuses for a device alone
abbrev TellsOrFails : (Status → List ℕ → Type 0) → (InputName → Why → Type 0) → Type 0
TellsOrFails Makes Refuses = (status : Status) (text : List ℕ) (at : InputName) (why : Why) → Makes status text → Refuses at why → IsDeviceFault why

ends_alike : (query other : Query) → TellOne query.Makes other.Makes → RefuseOne query.Refuses other.Refuses
    → TellsOrFails query.Makes other.Refuses → TellsOrFails other.Makes query.Refuses → EndAlike query other
ends_alike query other made one left right report another (Ok status) (Ok ended) a b going going_too =
    let same = made a.1.status b.1.status a.1.text b.1.text a.1.makes b.1.makes in
    (ap Ok (a.1.reported.0 ∙ same.0 ∙ sym b.1.reported.0), (a.1.text, a.1.reported.1, subst (Takes another) (sym same.1) b.1.reported.1))
ends_alike query other made one left right report another (Ok status) (Err (Input at why)) a b going going_too =
    absurd (going_too (left a.1.status a.1.text at why a.1.makes b.0))
ends_alike query other made one left right report another (Err (Input at why)) (Ok ended) a b going going_too =
    absurd (going (right b.1.status b.1.text at why b.1.makes a.0))
ends_alike query other made one left right report another (Err (Input at why)) (Err (Input name reason)) a b going going_too =
    let same = one at name why reason a.0 b.0 going going_too in (λ i. Err (Input (same.0 i) (same.1 i)), ([], a.1, b.1))
ends_alike query other made one left right report another result (Err (Output _)) a b going going_too = absurd (going_too tt)
ends_alike query other made one left right report another result (Err (Report _)) a b going going_too = absurd (going_too tt)
ends_alike query other made one left right report another result (Err OutOfMemory) a b going going_too = absurd (going_too tt)
ends_alike query other made one left right report another d ended a b going going_too = absurd (going tt)

-- ---- archives

in_turn : {S : Type 0} (x : Reader S) (Untouched : Type 0) (Behind : InputName → Why → Type 0) (at : InputName)
    (why : Why) → IsRefusedInOrder x Untouched Behind at why → IsRefusedInTurn x Behind at why
in_turn x Untouched Behind at why (inl p) = inl p.0
in_turn x Untouched Behind at why (inr p) = inr p

given_others : {R S : Type 0} (xs : List (Reader R)) (ys : List (Reader S)) (contents : List Operations)
    → EachHoldAlike xs ys → AllZip HoldsArchive xs contents → AllZip IsGivenArchive ys contents
given_others [] [] [] alike holds = tt
given_others [] [] (o ∷ contents) alike holds = absurd holds
given_others (x ∷ xs) (y ∷ ys) [] alike holds = absurd holds
given_others (x ∷ xs) (y ∷ ys) (o ∷ contents) alike holds =
    let c = carried x y (IsArchiveOf o) alike.0 holds.0 in ((c.0, c.3, c.2), given_others xs ys contents alike.1 holds.1)
given_others _ _ contents alike holds = absurd alike

are_archives : {R : Type 0} (xs : List (Reader R)) (contents : List Operations) → AllByRecursion IsContent contents
    → AllZip HoldsArchive xs contents → AllByRecursion IsArchive xs
are_archives [] [] are holds = tt
are_archives (x ∷ xs) (o ∷ contents) are holds = ((o, are.0, holds.0), are_archives xs contents are.1 holds.1)
are_archives _ _ are holds = absurd holds

module _ {Q R S T : Type 0} (archive : Reader Q) (others : List (Reader R)) (also : Reader S) (more : List (Reader T))
    (alike : ArchivesHoldAlike archive others also more) where
  one_of_archives : RefuseOne (AreRefused archive others) (AreRefused also more)
  one_of_archives at other why another a b alone alone_too =
      let behind = one_first IsArchive IsArchiveRefused IsArchive IsArchiveRefused archives_agree further_name others more alike.1 in
      one_in_turn archive also alike.0 (IsFirstRefused further_name IsArchive IsArchiveRefused others)
      (IsFirstRefused further_name IsArchive IsArchiveRefused more) behind at other why another
      (in_turn archive (EachUntouched others) (IsFirstRefused further_name IsArchive IsArchiveRefused others) at why a)
      (in_turn also (EachUntouched more) (IsFirstRefused further_name IsArchive IsArchiveRefused more) other another b) alone alone_too

  -- what they hold together the others do
  given_together : (IsTrue : Operations → Type 0) (held : HoldTogether archive others IsTrue) → IsGivenJoin also more (merged held.content held.contents)
  given_together IsTrue held =
      let c = carried archive also (IsArchiveOf held.content) alike.0 held.archive_is in
      record {
        content = held.content;
        contents = held.contents;
        is_content = held.is_content;
        are_contents = held.are_contents;
        archive_is = (c.0, c.3, c.2);
        others_are = given_others others more held.contents alike.1 held.others_are;
        join_is = refl;
      }

  both_tell : (IsTrue IsSo : Operations → Type 0) → HoldTogether archive others IsTrue → HoldTogether also more IsSo → (o : Operations) × IsTrue o × IsSo o
  both_tell IsTrue IsSo held also_held =
      (merged held.content held.contents, held.is_true, told_of_join also more (merged held.content held.contents) (given_together IsTrue held) IsSo also_held)

  held_fails : (IsTrue : Operations → Type 0) (at : InputName) (why : Why) → HoldTogether archive others IsTrue
      → AreRefused also more at why → IsDeviceFault why
  held_fails IsTrue at why held refused =
      let good = are_archives others held.contents held.are_contents held.others_are in
      good_in_turn archive also alike.0 (IsFirstRefused further_name IsArchive IsArchiveRefused others)
      (IsFirstRefused further_name IsArchive IsArchiveRefused more) at why
      (held.content, held.is_content, held.archive_is)
      (λ first. all_good IsArchive IsArchiveRefused IsArchive IsArchiveRefused archives_agree further_name others more at why alike.1 good first)
      (in_turn also (EachUntouched more) (IsFirstRefused further_name IsArchive IsArchiveRefused more) at why refused)

alike_too : {Q R S T : Type 0} (archive : Reader Q) (others : List (Reader R)) (also : Reader S)
    (more : List (Reader T)) → ArchivesHoldAlike archive others also more → ArchivesHoldAlike also more archive others
alike_too archive others also more alike = (swapped archive also alike.0, each_swapped others more alike.1)

-- what their join tells
abbrev put_together : {R S : Type 0} → Reader R → List (Reader S) → (Operations → Status → List ℕ → Type 0) → Query
put_together archive others Tells = record {
  Makes = λ status text. HoldTogether archive others (λ o. Tells o status text);
  Refuses = AreRefused archive others;
  Unfailed = AreUnfailed archive others;
}

asked_alike : {Q R S T : Type 0} (archive : Reader Q) (others : List (Reader R)) (also : Reader S)
    (more : List (Reader T)) (Tells : Operations → Status → List ℕ → Type 0)
    → ((o : Operations) → TellOne (Tells o) (Tells o)) → ArchivesHoldAlike archive others also more
    → EndAlike (put_together archive others Tells) (put_together also more Tells)
asked_alike archive others also more Tells one alike =
    ends_alike (put_together archive others Tells) (put_together also more Tells)
    (λ status other_status text other_text a b.
    let both = both_tell archive others also more alike (λ o. Tells o status text) (λ o. Tells o other_status other_text) a b in
    one both.0 status other_status text other_text both.1 both.2)
    (one_of_archives archive others also more alike)
    (λ status text at why a b. held_fails archive others also more alike (λ o. Tells o status text) at why a b)
    (λ status text at why a b. held_fails also more archive others (alike_too archive others also more alike) (λ o. Tells o status text) at why a b)

-- ---- frames

module _ {O P Q R S T : Type 0} (input : Reader O) (archive : Reader Q) (others : List (Reader R)) (also : Reader P) (other : Reader S) (more : List (Reader T))
    (alike : HoldAlike input also) (archives : ArchivesHoldAlike archive others other more) where
  one_of_frames : (lines slices : Bool)
      → RefuseOne (frames lines slices input archive others).Refuses (frames lines slices also other more).Refuses
  one_of_frames lines slices at name why another (inl a) (inl b) alone alone_too =
      (a.0.0 ∙ sym b.0.0, one_frames input also why another alike a.0.1 b.0.1 alone alone_too)
  one_of_frames lines slices at name why another (inl a) (inr b) alone alone_too =
      absurd (alone (frames_accepted also input why (swapped input also alike) b.0 a.0.1))
  one_of_frames lines slices at name why another (inr a) (inl b) alone alone_too = absurd (alone_too (frames_accepted input also another alike a.0 b.0.1))
  one_of_frames lines slices at name why another (inr a) (inr b) alone alone_too =
      one_of_archives archive others other more archives at name why another a.2 b.2 alone alone_too

  framed_fails : (lines slices : Bool) (status : Status) (text : List ℕ) (at : InputName) (why : Why)
      → (frames lines slices input archive others).Makes status text → (frames lines slices also other more).Refuses at why
      → IsDeviceFault why
  framed_fails lines slices status text at why makes (inl b) = frames_accepted input also why alike (makes.listed, makes.frames_are) b.0.1
  framed_fails lines slices status text at why makes (inr b) =
      held_fails archive others other more archives (λ o. TellsFramesWith lines slices o makes.listed status text) at
      why makes.tells b.2

pub returns : goal.returns
returns g c = record {
  find = λ archive others also more uuid alike. ends_alike (find archive others uuid) (find also more uuid)
      (λ status other_status text other_text a b.
      let both = both_tell archive others also more alike (λ o. IsFinds o uuid a.rows) (λ o. IsFinds o uuid b.rows) a.have b.have in
      found_once c.one_find.ensures.one both.0 uuid status other_status text other_text
      (record { rows = a.rows; have = both.1; status_is = a.status_is; text_is = a.text_is })
      (record { rows = b.rows; have = both.2; status_is = b.status_is; text_is = b.text_is }))
      (one_of_archives archive others also more alike)
      (λ status text at why a b. held_fails archive others also more alike (λ o. IsFinds o uuid a.rows) at why a.have b)
      (λ status text at why a b. held_fails also more archive others (alike_too archive others also more alike) (λ o. IsFinds o uuid a.rows) at why a.have b);
  list = λ archive other alike. ends_alike (list archive) (list other)
      (λ status other_status text other_text a b.
      let k = carried archive other (IsArchiveOf a.have.content) alike a.have.text in
      listed_once c.one_list.ensures.one archive other a.have.content a.have.is_content (k.0, k.3, k.1) (k.0, k.3, k.2) status other_status text other_text a b)
      (one_archive archive other alike)
      (λ status text at why a b. archives_agree.left archive other why alike (a.have.content, a.have.is_content, a.have.text) b.1)
      (λ status text at why a b. archives_agree.left other archive why (swapped archive other alike) (a.have.content, a.have.is_content, a.have.text) b.1);
  name = λ archive others also more sought.
      asked_alike archive others also more (λ o status text. TellsNamed o sought status text) (λ o. named_once c.one_find_name.ensures.one o sought);
  symbolicate = λ archive others also more key load lines slices addresses.
      asked_alike archive others also more (λ o status text. TellsAddressesWith o key load lines slices addresses status text)
      (λ o. addresses_once (one_told c.one_answer.ensures.one c.one_list_of_frames.ensures) o key load lines slices addresses);
  frames = λ lines slices input archive others also other more alike archives. ends_alike
      (frames lines slices input archive others) (frames lines slices also other more)
      (λ status other_status text other_text a b.
      let k = carried input also (λ bytes. frames_of bytes ≡ Ok a.listed) alike a.frames_are in
      let same = one_value (frames_of k.0) b.listed a.listed (is_given also k.0 (λ bytes. frames_of bytes ≡ Ok b.listed) k.2 b.frames_are) k.3 in
      let both = both_tell archive others other more archives (λ o. TellsFramesWith lines slices o a.listed status text)
      (λ o. TellsFramesWith lines slices o b.listed other_status other_text) a.tells b.tells in
      frames_once (one_frame_told c.one_answer.ensures.one c.one_list_of_frames.ensures) lines slices both.0 a.listed status other_status text other_text both.1
      (subst (λ (s : List Frame). TellsFramesWith lines slices both.0 s other_status other_text) same both.2))
      (one_of_frames input archive others also other more alike archives lines slices)
      (framed_fails input archive others also other more alike archives lines slices)
      (framed_fails also other more input archive others (swapped input also alike) (alike_too archive others other more archives) lines slices);
  rehearse = λ script other alike. ends_alike (rehearse script) (rehearse other)
      (λ status other_status text other_text a b.
      let k = carried script other (λ bytes. script_of bytes ≡ Ok (a.sites, acts a.events)) alike a.script_is in
      one_text c.one_meaning.ensures.one script other k.0 status other_status text other_text k.1 k.2 a b)
      (λ at name why another a b alone alone_too. (a.0 ∙ sym b.0, one_script script other why another alike a.1 b.1 alone alone_too))
      (λ status text at why a b. script_accepted script other (a.sites, acts a.events) why alike a.script_is b.1)
      (λ status text at why a b. script_accepted other script (a.sites, acts a.events) why (swapped script other alike) a.script_is b.1);
}
