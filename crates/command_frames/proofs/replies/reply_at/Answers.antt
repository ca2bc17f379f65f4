use Rattle.std.proofs.Common.{List, rules, subst, sym}
use Rattle.std.proofs.lemmas.Fn.{always_returns_same}
use Rattle.archive_core.specs.Key.{IsKey, key_bytes}
use Rattle.archive_core.specs.declared.lookup.Where.{Where}
use Rattle.command_frames.specs.declared.places.AskedPlace.{AskedPlace}
use Rattle.command_frames.specs.declared.key_answers.KeyAnswers.{KeyAnswers}
use Rattle.command_frames.specs.InnerPlaces.{HasAsked, key_cmp, place_cmp}
use Rattle.command_frames.specs.InnerKeyReplies.{StandsAt, asked_in}
use Rattle.command_frames.proofs.Runs.{key_found, place_found, told_in}
use Rattle.command_frames.proofs.replies.reply_at.Goals as goal

pub unreachable-requires : goal.unreachable-requires
unreachable-requires c =
    let asked : AskedPlace = c.of-asked.result in
    let has = subst (λ (a : AskedPlace). HasAsked (asked_in c.args.told.now) (key_bytes a.key) a.place) (sym c.of-asked.ensures) c.requires.there in
    let by_key = c.binary_search_by.ensures.position (λ (one : KeyAnswers). key_cmp one.asked.now.key asked.key)
    (always_returns_same _ _ _ (λ a r g called. (search rules, search rules))) in
    let f = key_found c.args.told.now asked.key asked.place c.requires.order has c.binary_search_by.result c.binary_search_by.ensures.bound by_key in
    c.in_default.not-Ok f.0 f.1

pub unreachable-requires-in_default-binary_search_by : goal.unreachable-requires-in_default-binary_search_by
unreachable-requires-in_default-binary_search_by c =
    let asked : AskedPlace = c.of-asked.result in
    let has = subst (λ (a : AskedPlace). HasAsked (asked_in c.args.told.now) (key_bytes a.key) a.place) (sym c.of-asked.ensures) c.requires.there in
    let at = c.in-Ok.ensures.position (λ (one : KeyAnswers). key_cmp one.asked.now.key asked.key)
    (always_returns_same _ _ _ (λ a r g called. (search rules, search rules))) in
    let by_place = c.binary_search_by-2.ensures.position (λ (p : Where). place_cmp p asked.place)
    (always_returns_same _ _ _ (λ a r g called. (search rules, search rules))) in
    let f = place_found c.args.told.now asked.key asked.place c.requires.order has c.in-Ok.key c.index-told-key.result
    c.deref.result.now c.binary_search_by-2.result c.in-Ok.ensures.bound at c.deref.ensures.value
    c.binary_search_by-2.ensures.bound by_place in
    c.in_default-binary_search_by.not-Ok f.0 f.1

pub returns : goal.returns
returns c =
    let asked : AskedPlace = c.of-asked.result in
    let told : List KeyAnswers = c.args.told.now in
    let at = c.in-Ok.ensures.position (λ (one : KeyAnswers). key_cmp one.asked.now.key asked.key)
    (always_returns_same _ _ _ (λ a r g called. (search rules, search rules))) in
    let at_place = c.in-Ok-binary_search_by.ensures.position (λ (p : Where). place_cmp p asked.place)
    (always_returns_same _ _ _ (λ a r g called. (search rules, search rules))) in
    let is_key = subst (λ (a : AskedPlace). IsKey a.key) (sym c.of-asked.ensures) c.whole_key-own.ensures.key in
    subst (λ (a : AskedPlace). StandsAt told a.key a.place c.index-told-key-2.result c.in-Ok-binary_search_by.number) c.of-asked.ensures
    (told_in told asked.key asked.place c.in-Ok.key c.in-Ok-binary_search_by.number c.index-told-key.result c.index-told-key-2.result c.deref.result.now
    c.in-Ok.ensures.bound at c.deref.ensures.value c.in-Ok-binary_search_by.ensures.bound at_place c.index-told-key.is c.index-told-key-2.is
    c.whole_key-other.ensures.key is_key)
