use Rattle.std.proofs.Common.{◌≡◌, ◌+◌, ◌++◌, ◌<◌, ℕ, List, [], ◌∷◌, get_or, length, take, refl, ap, sym, ◌∙◌, arith}
use Rattle.std.specs.List.{All}
use Rattle.std.proofs.lemmas.List.{map-append, take_all, take_more}
use Rattle.std.proofs.lemmas.List.Elements.{All-push}
use Rattle.std.proofs.lemmas.Option.{slice_get_read}
use Rattle.std.proofs.lemmas.Result.{err_from_is_err_and}
use Rattle.archive_core.specs.Key.{key_bytes}
use Rattle.command_common.proofs.Parts.{refusal_of}
use Rattle.command_given_indexes.proofs.Groups.{kept_none}
use Rattle.command_frames.specs.InnerKeyReplies.{asked_in}
use Rattle.command_frames.specs.declared.places.AskedKey.{AskedKey}
use Rattle.command_frames.specs.declared.key_answers.KeyAnswers.{KeyAnswers}
use Rattle.command_frames.proofs.Archives.{kept_then, kept_unfailed}
use Rattle.command_frames.proofs.Keys.{refused_among, true_first}
use Rattle.command_frames.proofs.key_answers.answer_keys.Goals as goal

pub keys-init : goal.keys-init
keys-init g c = record {
  asked_is = ap asked_in c.new-told.ensures.items;
  are_true = rw c.new-told.ensures.items (λ k d lt. absurd (omega (arith, lt)));
  texts = refl;
  counts = refl;
  kept = kept_none g.P.Placed.whole g.P.Placed.failures c.args.archives.now;
}

pub returns-in_err-answers : goal.returns-in_err-answers
returns-in_err-answers g c =
    let p = err_from_is_err_and c.from_residual.result c.from_residual.ensures.1 in
    let one : AskedKey = c.one-item.result in
    let inv = c.keys.invariant in
    let refused = refused_among g.I.Placed.whole g.I.Placed.failures g.P.Placed.whole g.P.Placed.failures c.args.lines
    c.args.slices c.args.read.now c.args.indexes.now c.keys.indexes c.args.archives.now c.keys.archives
    inv.texts inv.counts inv.kept c.args.sizes.now c.answer_key.new.indexes c.answer_key.new.archives
    (key_bytes one.key ∷ []) (key_bytes one.key ∷ []) one.places.items c.in_err-answers.field-0.0
    c.answer_key.auto.archives (λ other is. is) (rw c.deref.ensures.value at c.in_err-answers.ensures) in
    rw (p.1, p.2) (refusal_of _ _ _ _ c.in_err-answers.field-0.0 (λ at why under. record {
      number = c.keys.one-index;
      one = one;
      one_is = slice_get_read c.args.asked.now (length c.args.asked.now) c.keys.one-index one refl c.keys-test.true c.one-item.is;
      told = c.keys.told.items;
      before = record { asked_is = inv.asked_is; are_true = inv.are_true };
      refused = under;
    }) (λ unfailed. unfailed) refused)

-- one key more
all_more : (P Q : KeyAnswers → Type 0) → ((k : KeyAnswers) → Q k → P k) → (told next : List KeyAnswers) (one : KeyAnswers)
    → next ≡ told ++ one ∷ [] → All P told → Q one → All P next
all_more P Q to told next one more all it = rw more (All-push P told one all (to one it))

asked_more : (asked : List AskedKey) (i : ℕ) (told next : List KeyAnswers) (one : KeyAnswers) → i < length asked
    → next ≡ told ++ one ∷ [] → one.asked.now ≡ get_or asked i one.asked.now → asked_in told ≡ take i asked
    → asked_in next ≡ take (i + 1) asked
asked_more asked i told next one lt more is before =
    ap asked_in more ∙ map-append (λ (k : KeyAnswers). k.asked.now) told (one ∷ [])
    ∙ ap (λ (l : List AskedKey). l ++ one.asked.now ∷ []) before
    ∙ ap (λ (a : AskedKey). take i asked ++ a ∷ []) is ∙ sym (take_more asked i one.asked.now lt)

pub keys-preserved : goal.keys-preserved
keys-preserved g c =
    let whole = g.P.Placed.whole in
    let failures = g.P.Placed.failures in
    let inv = c.keys.invariant in
    let told = rw c.deref.ensures.value at c.in_ok-answers.ensures.is.0 in
    record {
      asked_is = asked_more c.args.asked.now c.keys.one-index c.keys.told.items _ _ c.keys-test.true
          c.in_ok-push.ensures.items c.one-item.is inv.asked_is;
      are_true = all_more _ _ (true_first g.I.Placed.whole g.I.Placed.failures whole failures c.args.lines c.args.slices
          c.args.read.now c.args.indexes.now c.keys.indexes c.args.archives.now c.keys.archives inv.texts inv.counts inv.kept)
          c.keys.told.items _ _ c.in_ok-push.ensures.items inv.are_true told;
      texts = c.in_ok-answers.ensures.is.1 ∙ inv.texts;
      counts = c.in_ok-answers.ensures.unfailed.0 ∙ inv.counts;
      kept = kept_then whole failures c.args.archives.now c.keys.archives _ inv.kept c.in_ok-answers.ensures.is.2;
    }

pub returns-in_err-push : goal.returns-in_err-push
returns-in_err-push g c =
    let p = err_from_is_err_and c.from_residual-in_err-push.result c.from_residual-in_err-push.ensures.1 in
    rw (p.1, p.2) (
      c.in_ok-answers.ensures.unfailed.0 ∙ c.keys.invariant.counts,
      kept_unfailed g.P.Placed.whole g.P.Placed.failures c.args.archives.now _
          (kept_then g.P.Placed.whole g.P.Placed.failures c.args.archives.now c.keys.archives _ c.keys.invariant.kept c.in_ok-answers.ensures.is.2),
    )

pub returns : goal.returns
returns g c = record {
  is = (
    record {
      asked_is = c.keys.invariant.asked_is ∙ take_all c.keys.one-index c.args.asked.now (omega (arith, c.keys-test.false));
      are_true = c.keys.invariant.are_true;
    },
    c.keys.invariant.texts,
    c.keys.invariant.kept,
  );
  unfailed = (c.keys.invariant.counts, kept_unfailed g.P.Placed.whole g.P.Placed.failures c.args.archives.now c.keys.archives c.keys.invariant.kept);
}
