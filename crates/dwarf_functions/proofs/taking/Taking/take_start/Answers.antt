use Rattle.std.proofs.Common.{◌≡◌, ◌∙◌, ◌<◌, Some, get_or, length, slice_get, sym, ap, subst, refl, arith, rules}
use Rattle.std.proofs.lemmas.List.{get_or_read}
use Rattle.std.proofs.lemmas.Option.{slice_get-get_or, slice_get_within}
use Rattle.dwarf_functions.specs.Making.{made_at}
use Rattle.dwarf_functions.proofs.MakingLemmas.{function_of, made_read}
use Rattle.dwarf_functions.proofs.StartLemmas.{on_ok, record_of, takes_first, takes_more, takes_past, takes_same}
use Rattle.dwarf_functions.proofs.taking.Taking.take_start.Goals as goal

pub returns-then-caller-eq0-clause-takes : goal.returns-then-caller-eq0-clause-takes
returns-then-caller-eq0-clause-takes c =
    let numbers = c.args.self.now.numbers.items in
    let at_in : c.args.at < length numbers = omega (arith, c.requires.taking.count, c.requires.at) in
    let from : c.index-caller.result.now ≡ get_or numbers c.args.at 0 =
    get_or_read numbers c.args.at c.index-caller.result.now at_in c.index-caller.ensures 0 in
    on_ok c.extend.result c.extend.ensures.taking c.extend.ensures.extends (λ taking extends of f are there has.
    takes_first of c.args.index c.args.at f c.args.self.now c.extend.new.self there has c.requires.at c.requires.waits
    c.requires.taking taking c.extend.ensures.same extends (sym from ∙ c.if-caller-eq0.true))

pub returns-then-before-index-clause-takes : goal.returns-then-before-index-clause-takes
returns-then-before-index-clause-takes c = λ of f are there has.
    let numbers = c.args.self.now.numbers.items in
    let links = c.args.self.now.making.links.items in
    let at_in : c.args.at < length numbers = omega (arith, c.requires.taking.count, c.requires.at) in
    let from : c.index-caller.result.now ≡ get_or numbers c.args.at 0 =
    get_or_read numbers c.args.at c.index-caller.result.now at_in c.index-caller.ensures 0 in
    let made : made_at links (get_or numbers c.args.at 0) ≡ Some c.index.result.now = subst (λ n. made_at links n ≡ Some c.index.result.now) from
    (made_read links c.index-caller.result.now c.index.result.now c.if-caller-eq0.false
    (let w = c.requires.taking.within c.args.at c.requires.at in omega (arith, from, w)) c.index.ensures) in
    takes_same of c.args.index c.args.at c.args.self.now c.index.result.now made c.requires.waits c.if-before-index.true

pub index-requires-2 : goal.index-requires-2
index-requires-2 c =
    let numbers = c.args.self.now.numbers.items in
    let links = c.args.self.now.making.links.items in
    let functions = c.args.self.now.making.all.now.functions.items in
    let at_in : c.args.at < length numbers = omega (arith, c.requires.taking.count, c.requires.at) in
    let from : c.index-caller.result.now ≡ get_or numbers c.args.at 0 =
    get_or_read numbers c.args.at c.index-caller.result.now at_in c.index-caller.ensures 0 in
    let made : made_at links c.index-caller.result.now ≡ Some c.index.result.now =
    made_read links c.index-caller.result.now c.index.result.now c.if-caller-eq0.false
    (let w = c.requires.taking.within c.args.at c.requires.at in omega (arith, from, w)) c.index.ensures in
    let of = function_of functions links c.args.self.now.making.last c.index-caller.result.now c.index.result.now c.requires.taking.made made in
    let w = slice_get_within functions c.index.result.now.function of.0 of.1 in search rules

pub returns-then-index-clause-takes : goal.returns-then-index-clause-takes
returns-then-index-clause-takes c = λ of f are there has.
    let numbers = c.args.self.now.numbers.items in
    let links = c.args.self.now.making.links.items in
    let functions = c.args.self.now.making.all.now.functions.items in
    let at_in : c.args.at < length numbers = omega (arith, c.requires.taking.count, c.requires.at) in
    let from : c.index-caller.result.now ≡ get_or numbers c.args.at 0 =
    get_or_read numbers c.args.at c.index-caller.result.now at_in c.index-caller.ensures 0 in
    let made : made_at links (get_or numbers c.args.at 0) ≡ Some c.index.result.now = subst (λ n. made_at links n ≡ Some c.index.result.now) from
    (made_read links c.index-caller.result.now c.index.result.now c.if-caller-eq0.false
    (let w = c.requires.taking.within c.args.at c.requires.at in omega (arith, from, w)) c.index.ensures) in
    let g = function_of functions links c.args.self.now.making.last (get_or numbers c.args.at 0) c.index.result.now c.requires.taking.made made in
    let r = record_of of functions c.index.result.now.function g.0 are.count g.1 in
    let is : c.index-2.result.now ≡ get_or functions c.index.result.now.function c.index-2.result.now = c.index-2.ensures in
    let f_is : slice_get functions c.index.result.now.function ≡ Some c.index-2.result.now =
    slice_get-get_or functions c.index.result.now.function c.index-2.result.now
    (slice_get_within functions c.index.result.now.function g.0 g.1) ∙ ap Some (sym is) in
    let end = are.end c.index.result.now.function r.0 c.index-2.result.now r.1 f_is in
    let n = c.requires.taking.nexts in
    takes_past of c.args.index c.args.at c.args.self.now c.index.result.now made c.requires.waits r.0
    (record { making = c.args.self.now.making; starts = c.args.self.now.starts; numbers = c.args.self.now.numbers; waiting = c.end.new.self })
    (record { starts = refl; all = refl }) refl (λ i. refl)
    (λ i h not w. c.end.ensures.still i (omega (arith, n, h)) not w)
    (λ i h w. c.end.ensures.only i (omega (arith, n, h)) w)
    (λ w. c.end.ensures.no_longer w) c.if-before-index.false r.1 (let e = c.if-index.true in omega (arith, e, end))

pub returns-clause-takes : goal.returns-clause-takes
returns-clause-takes c =
    let numbers = c.args.self.now.numbers.items in
    let links = c.args.self.now.making.links.items in
    let functions = c.args.self.now.making.all.now.functions.items in
    let at_in : c.args.at < length numbers = omega (arith, c.requires.taking.count, c.requires.at) in
    let from : c.index-caller.result.now ≡ get_or numbers c.args.at 0 =
    get_or_read numbers c.args.at c.index-caller.result.now at_in c.index-caller.ensures 0 in
    let made : made_at links (get_or numbers c.args.at 0) ≡ Some c.index.result.now = subst (λ n. made_at links n ≡ Some c.index.result.now) from
    (made_read links c.index-caller.result.now c.index.result.now c.if-caller-eq0.false
    (let w = c.requires.taking.within c.args.at c.requires.at in omega (arith, from, w)) c.index.ensures) in
    let g = function_of functions links c.args.self.now.making.last (get_or numbers c.args.at 0) c.index.result.now c.requires.taking.made made in
    let f_is : slice_get functions c.index.result.now.function ≡ Some c.index-2.result.now =
    slice_get-get_or functions c.index.result.now.function c.index-2.result.now
    (slice_get_within functions c.index.result.now.function g.0 g.1) ∙ ap Some (sym c.index-2.ensures) in
    on_ok c.extend-2.result c.extend-2.ensures.taking c.extend-2.ensures.extends (λ taking extends of f are there has.
    let r = record_of of functions c.index.result.now.function g.0 are.count g.1 in
    let end = are.end c.index.result.now.function r.0 c.index-2.result.now r.1 f_is in
    takes_more of c.args.index c.args.at c.args.self.now c.index.result.now made c.requires.waits f r.0
    c.extend-2.new.self there has c.requires.at c.requires.taking taking c.extend-2.ensures.same extends
    c.if-before-index.false r.1 (let e = c.if-index.false in omega (arith, e, end)))
