-- Two calls whose inputs hold the same refuse one of them, for one reason.
use Rattle.std.proofs.Common.{◌≡◌, ◌≢◌, ◌⊎◌, ℕ, zero, suc, List, [], ◌∷◌, take, Option, Some, None, Result, Ok, Err}
use Rattle.std.proofs.Common.{refl, sym, ap, ◌∙◌, subst, inl, inr, IfSome, slice_get}
use Rattle.std.specs.List.{AllByRecursion}
use Rattle.std.proofs.lemmas.Option.{IfSome_then}
use Rattle.archive_records.specs.Fault.{IsFaultOf, IsOfText}
use Rattle.archive_records.specs.Kind.{format_for}
use Rattle.archive_records.specs.Reading.{Meaning, IsMeaning, IsOfMachine, IsTextOf}
use Rattle.archive_records.specs.declared.fault.RecordFault.{RecordFault}
use Rattle.archive_records.specs.declared.fault.RecordFaultKind.TheVariants.{OutOfMemory}
use Rattle.archive_records.specs.declared.kind.TextKind.{TextKind}
use Rattle.archive_records.specs.declared.kind.TextKind.TheVariants.{Archive as ArchiveFile}
use Rattle.archive_records.proofs.Exact.{one_fault}
use Rattle.archive_image_admission.specs.File.{IsAcceptedFile, IsTakeFault}
use Rattle.archive_image_admission.specs.declared.fault.TakeFault.{TakeFault}
use Rattle.archive_image_admission.specs.declared.fault.TakeFault.TheVariants.{OutOfMemory as TakeOutOfMemory}
use Rattle.text_values.specs.Lines.{line_at}
use Rattle.text_input_files.specs.FrameFlaws.{frame_flaw}
use Rattle.text_input_files.specs.Frames.{frames_of}
use Rattle.text_input_files.specs.ScriptFlaws.{script_flaw}
use Rattle.text_input_files.specs.Events.{Act}
use Rattle.text_input_files.specs.Script.{Wrong, script_of}
use Rattle.command_common.specs.declared.faults.InputName.{InputName}
use Rattle.command_common.specs.declared.faults.InputName.TheVariants.{Archive}
use Rattle.command_common.specs.declared.faults.Why.{Why}
use Rattle.command_common.specs.declared.faults.Why.TheVariants.{Device as CannotRead, Record, Take, Script as Faulty, BadFrame}
use Rattle.command_common.specs.Inputs.{Reader, reader, Gives, IsDeviceFault, IsGiven, IsArchive, IsAccepted}
use Rattle.command_common.specs.Inputs.{IsArchiveRefused, IsFileRefused, IsFirstRefused, IsFrames, IsFramesRefused}
use Rattle.command_common.specs.Inputs.{IsRefusedArchive, IsRefusedInTurn, IsScriptRefused, IsTextRefused}
use Rattle.command_common.proofs.Readers.{by_device}
use Rattle.laws_archive.specs.Refusals.{EachHoldAlike, HoldAlike, RefuseOne}
use Rattle.laws_archive.proofs.Given.{gives_then, is_given}

abbrev pub NoDevice : Why → Type 0
NoDevice why = IsDeviceFault why → ⊥

-- ---- what one input gives the other gives

pub swapped : {R S : Type 0} (x : Reader R) (y : Reader S) → HoldAlike x y → HoldAlike y x
swapped x y alike = (alike.0, alike.2, alike.1)

pub each_swapped : {R S : Type 0} (xs : List (Reader R)) (ys : List (Reader S)) → EachHoldAlike xs ys → EachHoldAlike ys xs
each_swapped [] [] alike = tt
each_swapped (x ∷ xs) (y ∷ ys) alike = (swapped x y alike.0, each_swapped xs ys alike.1)
each_swapped _ _ alike = absurd alike

pub carried : {R S : Type 0} (x : Reader R) (y : Reader S) (P : List ℕ → Type 0) → HoldAlike x y → Gives x P
    → (bytes : List ℕ) × IsGiven x bytes × IsGiven y bytes × P bytes
carried x y P alike gives = (alike.0, alike.1, alike.2, is_given x alike.0 P alike.1 gives)

-- ---- why an input is refused

-- its device failed, or this is wrong with its bytes
abbrev IsRefusedFor : {S : Type 0} → (Why → List ℕ → Type 0) → Reader S → Why → Type 0
IsRefusedFor IsBad input why = IsDeviceFault why ⊎ Gives input (IsBad why)

-- an input that holds the same is refused for one reason
one_reason : {R S : Type 0} (IsBad : Why → List ℕ → Type 0)
    → ((bytes : List ℕ) (why another : Why) → IsBad why bytes → IsBad another bytes → NoDevice why → NoDevice another → why ≡ another)
    → (x : Reader R) (y : Reader S) (why another : Why) → HoldAlike x y → IsRefusedFor IsBad x why → IsRefusedFor IsBad y another
    → NoDevice why → NoDevice another → why ≡ another
one_reason IsBad one x y why another alike (inl d) b alone alone_too = absurd (alone d)
one_reason IsBad one x y why another alike a (inl d) alone alone_too = absurd (alone_too d)
one_reason IsBad one x y why another alike (inr a) (inr b) alone alone_too =
    let c = carried x y (IsBad why) alike a in one c.0 why another c.3 (is_given y c.0 (IsBad another) c.2 b) alone alone_too

-- and where it is good in one call, for its device alone
for_device : {R S : Type 0} (IsBad : Why → List ℕ → Type 0) (IsGood : List ℕ → Type 0) (x : Reader R) (y : Reader S) (why : Why)
    → ((bytes : List ℕ) → IsGood bytes → IsBad why bytes → IsDeviceFault why) → HoldAlike x y → Gives x IsGood → IsRefusedFor IsBad y why → IsDeviceFault why
for_device IsBad IsGood x y why good alike is (inl d) = d
for_device IsBad IsGood x y why good alike is (inr bad) =
    let c = carried x y IsGood alike is in good c.0 c.3 (is_given y c.0 (IsBad why) c.2 bad)

-- what is good in one call is refused in another for its device alone, and refusals are one
pub record Agree {R S : Type 0} (Good : Reader R → Type 0) (Bad : Reader R → Why → Type 0) (Fine : Reader S → Type 0)
    (Ill : Reader S → Why → Type 0) : Type 0 where
  pub one : (x : Reader R) (y : Reader S) (why another : Why) → HoldAlike x y → Bad x why → Ill y another → NoDevice why → NoDevice another → why ≡ another
  pub left : (x : Reader R) (y : Reader S) (another : Why) → HoldAlike x y → Good x → Ill y another → IsDeviceFault another
  pub right : (x : Reader R) (y : Reader S) (why : Why) → HoldAlike x y → Bad x why → Fine y → IsDeviceFault why

-- ---- a text

abbrev IsBadText : TextKind → Why → List ℕ → Type 0
IsBadText kind why bytes = (fault : RecordFault) × (why ≡ Record fault) × (NoDevice why → IsFaultOf (format_for kind bytes) bytes fault)
    × ((m : Meaning kind) → IsMeaning kind m → IsTextOf kind m bytes → IsDeviceFault why)

bad_text : (kind : TextKind) (left : Option (List ℕ)) (fault : RecordFault) (why : Why) → why ≡ Record fault → fault.kind ≢ OutOfMemory
    → (IsOfText fault.kind → IfSome left (λ text. IsFaultOf (format_for kind text) text fault))
    → IfSome left (λ text. (m : Meaning kind) → IsMeaning kind m → IsTextOf kind m text → IsOfMachine fault.kind) → IfSome left (IsBadText kind why)
bad_text kind None fault why is other faulty alone = tt
bad_text kind (Some text) fault why is other faulty alone =
    (fault, is, λ apart. faulty (λ d. apart (subst IsDeviceFault (sym is) d), other), λ m are of. by_device fault why is other (alone m are of))

text_form : {S : Type 0} (kind : TextKind) (left : S → Option (List ℕ)) (failures : S → ℕ) (old new : S) (why : Why)
    → IsTextRefused kind (reader left failures old new) why → IsRefusedFor (IsBadText kind) (reader left failures old new) why
text_form kind left failures old new why refused =
    inr (bad_text kind (left old) refused.0 why refused.1 refused.2 refused.3.0.faulty refused.3.1)

pub one_text : {R S : Type 0} (kind : TextKind) (x : Reader R) (y : Reader S) (why another : Why) → HoldAlike x y
    → IsTextRefused kind x why → IsTextRefused kind y another → NoDevice why → NoDevice another → why ≡ another
one_text kind x y why another alike a b =
    one_reason (IsBadText kind)
    (λ bytes v w f g alone alone_too. f.1 ∙ ap Record (one_fault (format_for kind bytes) bytes f.0 g.0 (f.2 alone) (g.2 alone_too)) ∙ sym g.1)
    x y why another alike (text_form kind x.left x.failures x.old x.new why a) (text_form kind y.left y.failures y.old y.new another b)

-- the input is a text of this kind
abbrev pub Says : {S : Type 0} → TextKind → Reader S → Type 0
Says kind input = (m : Meaning kind) × IsMeaning kind m × Gives input (IsTextOf kind m)

pub text_accepted : {R S : Type 0} (kind : TextKind) (x : Reader R) (y : Reader S) (another : Why) → HoldAlike x y
    → Says kind x → IsTextRefused kind y another → IsDeviceFault another
text_accepted kind x y another alike says refused =
    for_device (IsBadText kind) (IsTextOf kind says.0) x y another (λ bytes of bad. bad.3 says.0 says.1 of) alike says.2
    (text_form kind y.left y.failures y.old y.new another refused)

pub archives_agree : {R S : Type 0} → Agree {R = R} {S = S} IsArchive IsArchiveRefused IsArchive IsArchiveRefused
archives_agree = record {
  one = one_text ArchiveFile;
  left = text_accepted ArchiveFile;
  right = λ x y why alike bad fine. text_accepted ArchiveFile y x why (swapped x y alike) fine bad;
}

-- ---- a file of slices

abbrev IsBadFile : Why → List ℕ → Type 0
IsBadFile why bytes = (fault : TakeFault) × (why ≡ Take fault) × (fault ≢ TakeOutOfMemory) × IsTakeFault bytes fault

file_form : {S : Type 0} (left : S → Option (List ℕ)) (failures : S → ℕ) (old new : S) (why : Why)
    → IsFileRefused (reader left failures old new) why → IsRefusedFor IsBadFile (reader left failures old new) why
file_form left failures old new why (inl p) = inl (subst IsDeviceFault (sym p.0) tt)
file_form left failures old new why (inr p) = inr (IfSome_then (left old) p.4 (λ bytes is. (p.0, p.1, p.2, is)))

pub file_accepted : ((bytes : List ℕ) (fault : TakeFault) → IsAcceptedFile bytes → IsTakeFault bytes fault → fault ≡ TakeOutOfMemory)
    → {R S : Type 0} (x : Reader R) (y : Reader S) (another : Why) → HoldAlike x y → IsAccepted x → IsFileRefused y another → IsDeviceFault another
file_accepted memory_alone x y another alike good refused =
    for_device IsBadFile (λ bytes. bytes ≡ good.0) x y another
    (λ bytes same bad. absurd (bad.2 (memory_alone bytes bad.0 (subst IsAcceptedFile (sym same) good.1) bad.3)))
    alike good.2 (file_form y.left y.failures y.old y.new another refused)

pub files_agree : ((bytes : List ℕ) (f g : TakeFault) → IsTakeFault bytes f → IsTakeFault bytes g → f ≡ g)
    → ((bytes : List ℕ) (fault : TakeFault) → IsAcceptedFile bytes → IsTakeFault bytes fault → fault ≡ TakeOutOfMemory)
    → {R S : Type 0} → Agree {R = R} {S = S} IsAccepted IsFileRefused IsAccepted IsFileRefused
files_agree one_take memory_alone = record {
  one = λ x y why another alike a b. one_reason IsBadFile (λ bytes v w f g _ _. f.1 ∙ ap Take (one_take bytes f.0 g.0 f.3 g.3) ∙ sym g.1)
      x y why another alike (file_form x.left x.failures x.old x.new why a) (file_form y.left y.failures y.old y.new another b);
  left = file_accepted memory_alone;
  right = λ x y why alike bad fine. file_accepted memory_alone y x why (swapped x y alike) fine bad;
}

-- ---- frames and scripts

one_wrong : {X W : Type 0} (result : Result X W) (v w : W) → result ≡ Err v → result ≡ Err w → v ≡ w
one_wrong result v w a b = let both = sym a ∙ b in cc

abbrev IsBadFrames : Why → List ℕ → Type 0
IsBadFrames why bytes = (line : ℕ) × (why ≡ BadFrame line (frame_flaw (line_at bytes line))) × (frames_of bytes ≡ Err line)

frames_form : {S : Type 0} (left : S → Option (List ℕ)) (failures : S → ℕ) (old new : S) (why : Why)
    → IsFramesRefused (reader left failures old new) why → IsRefusedFor IsBadFrames (reader left failures old new) why
frames_form left failures old new CannotRead refused = inl tt
frames_form left failures old new (BadFrame line flaw) refused =
    inr (gives_then (reader left failures old new) (λ bytes. (frames_of bytes ≡ Err line) × (flaw ≡ frame_flaw (line_at bytes line)))
    (IsBadFrames (BadFrame line flaw)) (λ bytes bad. (line, ap (BadFrame line) bad.1, bad.0)) refused.1)
frames_form left failures old new _ refused = absurd refused

pub one_frames : {R S : Type 0} (x : Reader R) (y : Reader S) (why another : Why) → HoldAlike x y
    → IsFramesRefused x why → IsFramesRefused y another → NoDevice why → NoDevice another → why ≡ another
one_frames x y why another alike a b =
    one_reason IsBadFrames
    (λ bytes v w f g _ _. f.1 ∙ ap (λ n. BadFrame n (frame_flaw (line_at bytes n))) (one_wrong (frames_of bytes) f.0 g.0 f.2 g.2) ∙ sym g.1)
    x y why another alike (frames_form x.left x.failures x.old x.new why a) (frames_form y.left y.failures y.old y.new another b)

pub frames_accepted : {R S : Type 0} (x : Reader R) (y : Reader S) (another : Why) → HoldAlike x y → IsFrames x → IsFramesRefused y another
    → IsDeviceFault another
frames_accepted x y another alike good refused =
    for_device IsBadFrames (λ bytes. frames_of bytes ≡ Ok good.0) x y another (λ bytes says bad. cc (sym bad.2 ∙ says)) alike good.1
    (frames_form y.left y.failures y.old y.new another refused)

abbrev IsBadScript : Why → List ℕ → Type 0
IsBadScript why bytes = (wrong : Wrong) × (why ≡ Faulty wrong.0 wrong.1 (script_flaw wrong.0 (line_at bytes wrong.1))) × (script_of bytes ≡ Err wrong)

script_form : {S : Type 0} (left : S → Option (List ℕ)) (failures : S → ℕ) (old new : S) (why : Why)
    → IsScriptRefused (reader left failures old new) why → IsRefusedFor IsBadScript (reader left failures old new) why
script_form left failures old new CannotRead refused = inl tt
script_form left failures old new (Faulty fault line flaw) refused =
    inr (gives_then (reader left failures old new) (λ bytes. (script_of bytes ≡ Err (fault, line)) × (flaw ≡ script_flaw fault (line_at bytes line)))
    (IsBadScript (Faulty fault line flaw)) (λ bytes bad. ((fault, line), ap (Faulty fault line) bad.1, bad.0)) refused.1)
script_form left failures old new _ refused = absurd refused

pub one_script : {R S : Type 0} (x : Reader R) (y : Reader S) (why another : Why) → HoldAlike x y
    → IsScriptRefused x why → IsScriptRefused y another → NoDevice why → NoDevice another → why ≡ another
one_script x y why another alike a b =
    one_reason IsBadScript
    (λ bytes v w f g _ _. f.1 ∙ ap (λ (e : Wrong). Faulty e.0 e.1 (script_flaw e.0 (line_at bytes e.1)))
    (one_wrong (script_of bytes) f.0 g.0 f.2 g.2) ∙ sym g.1)
    x y why another alike (script_form x.left x.failures x.old x.new why a) (script_form y.left y.failures y.old y.new another b)

pub script_accepted : {R S : Type 0} (x : Reader R) (y : Reader S) (listed : ℕ × List Act) (another : Why) → HoldAlike x y
    → Gives x (λ bytes. script_of bytes ≡ Ok listed) → IsScriptRefused y another → IsDeviceFault another
script_accepted x y listed another alike good refused =
    for_device IsBadScript (λ bytes. script_of bytes ≡ Ok listed) x y another (λ bytes says bad. cc (sym bad.2 ∙ says)) alike good
    (script_form y.left y.failures y.old y.new another refused)

-- ---- the first of a list

module _ {R S : Type 0} (Good : Reader R → Type 0) (Bad : Reader R → Why → Type 0) (Fine : Reader S → Type 0)
    (Ill : Reader S → Why → Type 0) (agree : Agree Good Bad Fine Ill) where
  same_place : (xs : List (Reader R)) (ys : List (Reader S)) (n m : ℕ) (x : Reader R) (y : Reader S) (why another : Why) → EachHoldAlike xs ys
      → AllByRecursion Good (take n xs) → AllByRecursion Fine (take m ys) → slice_get xs n ≡ Some x → slice_get ys m
      ≡ Some y → Bad x why → Ill y another → NoDevice why → NoDevice another
      → (n ≡ m) × (why ≡ another)
  same_place [] ys n m x y why another alike good fine at at_too bad ill alone alone_too = cc
  same_place (a ∷ xs) [] n m x y why another alike good fine at at_too bad ill alone alone_too = absurd alike
  same_place (a ∷ xs) (b ∷ ys) zero zero x y why another alike good fine at at_too bad ill alone alone_too =
      let same : x ≡ a = cc in let other : y ≡ b = cc in
      (refl, agree.one a b why another alike.0 (subst (λ z. Bad z why) same bad) (subst (λ z. Ill z another) other ill) alone alone_too)
  same_place (a ∷ xs) (b ∷ ys) zero (suc m) x y why another alike good fine at at_too bad ill alone alone_too =
      let same : x ≡ a = cc in absurd (alone (agree.right a b why alike.0 (subst (λ z. Bad z why) same bad) fine.0))
  same_place (a ∷ xs) (b ∷ ys) (suc n) zero x y why another alike good fine at at_too bad ill alone alone_too =
      let other : y ≡ b = cc in absurd (alone_too (agree.left a b another alike.0 good.0 (subst (λ z. Ill z another) other ill)))
  same_place (a ∷ xs) (b ∷ ys) (suc n) (suc m) x y why another alike good fine at at_too bad ill alone alone_too =
      let rest = same_place xs ys n m x y why another alike.1 good.1 fine.1 at at_too bad ill alone alone_too in (ap suc rest.0, rest.1)

  pub one_first : (asked_of : ℕ → InputName) (xs : List (Reader R)) (ys : List (Reader S)) → EachHoldAlike xs ys
      → RefuseOne (IsFirstRefused asked_of Good Bad xs) (IsFirstRefused asked_of Fine Ill ys)
  one_first asked_of xs ys alike at other why another a b alone alone_too =
      let same = same_place xs ys a.number b.number a.input b.input why another alike a.before b.before a.input_is
      b.input_is a.refused b.refused alone alone_too in
      (a.at_is ∙ ap asked_of same.0 ∙ sym b.at_is, same.1)

  -- where all are good, one is refused for its device alone
  at_place : (xs : List (Reader R)) (ys : List (Reader S)) (m : ℕ) (y : Reader S) (another : Why) → EachHoldAlike xs ys
      → AllByRecursion Good xs → slice_get ys m ≡ Some y → Ill y another → IsDeviceFault another
  at_place [] [] m y another alike good at ill = cc
  at_place (a ∷ xs) (b ∷ ys) zero y another alike good at ill = let other : y ≡ b = cc
      in agree.left a b another alike.0 good.0 (subst (λ z. Ill z another) other ill)
  at_place (a ∷ xs) (b ∷ ys) (suc m) y another alike good at ill = at_place xs ys m y another alike.1 good.1 at ill
  at_place _ _ m y another alike good at ill = absurd alike

  pub all_good : (asked_of : ℕ → InputName) (xs : List (Reader R)) (ys : List (Reader S)) (at : InputName)
      (another : Why) → EachHoldAlike xs ys → AllByRecursion Good xs
      → IsFirstRefused asked_of Fine Ill ys at another → IsDeviceFault another
  all_good asked_of xs ys at another alike good b = at_place xs ys b.number b.input another alike good b.input_is b.refused

-- ---- an archive, and what is after it

-- a text of this place in the words
pub one_at : {R S : Type 0} (kind : TextKind) (place : InputName) (x : Reader R) (y : Reader S) → HoldAlike x y
    → RefuseOne (λ at why. (at ≡ place) × IsTextRefused kind x why) (λ at why. (at ≡ place) × IsTextRefused kind y why)
one_at kind place x y alike at other why another a b alone alone_too = (a.0 ∙ sym b.0, one_text kind x y why another alike a.1 b.1 alone alone_too)

pub one_archive : {R S : Type 0} (x : Reader R) (y : Reader S) → HoldAlike x y → RefuseOne (IsRefusedArchive 0 x) (IsRefusedArchive 0 y)
one_archive x y alike = one_at ArchiveFile (Archive 0) x y alike

module _ {R S : Type 0} (x : Reader R) (y : Reader S) (alike : HoldAlike x y) (Behind Others : InputName → Why → Type 0) where
  pub one_in_turn : RefuseOne Behind Others → RefuseOne (IsRefusedInTurn x Behind) (IsRefusedInTurn y Others)
  one_in_turn one at other why another (inl a) (inl b) alone alone_too = one_archive x y alike at other why another a b alone alone_too
  one_in_turn one at other why another (inl a) (inr b) alone alone_too = absurd (alone (archives_agree.right x y why alike a.1 b.0))
  one_in_turn one at other why another (inr a) (inl b) alone alone_too = absurd (alone_too (archives_agree.left x y another alike a.0 b.1))
  one_in_turn one at other why another (inr a) (inr b) alone alone_too = one at other why another a.2 b.2 alone alone_too

  pub good_in_turn : (at : InputName) (another : Why) → IsArchive x → (Others at another → IsDeviceFault another)
      → IsRefusedInTurn y Others at another → IsDeviceFault another
  good_in_turn at another good behind (inl b) = archives_agree.left x y another alike good b.1
  good_in_turn at another good behind (inr b) = behind b.2
