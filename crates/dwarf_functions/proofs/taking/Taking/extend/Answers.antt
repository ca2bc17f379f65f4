use Rattle.std.proofs.Common.{◌≡◌, ◌∙◌, ◌<◌, length, set, get_or, ap, subst, sym, arith, inl, inr}
use Rattle.std.proofs.lemmas.Bool.{cases_eq}
use Rattle.std.proofs.lemmas.List.{get_or_read, get_or-set_other, get_or-set_same, length-set}
use Rattle.dwarf_functions.specs.Making.{count_at, IsLinkIn}
use Rattle.dwarf_functions.proofs.MakingLemmas.{count_kept}
use Rattle.dwarf_functions.proofs.TakingLemmas.{count_in, few_still, within_still}
use Rattle.dwarf_functions.proofs.taking.Taking.extend.Goals as goal

pub returns-then-count_of-ge-FRAMES_MAX-clause-extends : goal.returns-then-count_of-ge-FRAMES_MAX-clause-extends
returns-then-count_of-ge-FRAMES_MAX-clause-extends c =
    let numbers = c.args.self.now.numbers.items in
    let new = c.link.new.self.links.items in
    let outer = get_or numbers c.args.at 0 in
    let at_in : c.args.at < length numbers = omega (arith, c.requires.taking.count, c.requires.at) in
    let now : get_or (set numbers c.args.at c.in_ok-number.number) c.args.at 0 ≡ c.in_ok-number.number =
    get_or-set_same numbers c.args.at c.in_ok-number.number 0 at_in in
    let from : c.index-caller.result.now ≡ outer = get_or_read numbers c.args.at c.index-caller.result.now at_in c.index-caller.ensures 0 in
    let link : IsLinkIn new outer c.args.index c.in_ok-number.number =
    subst (λ n. IsLinkIn new n c.args.index c.in_ok-number.number) from c.in_ok-number.ensures.link in
    let count = count_in c.link.new.self.all.now.functions.items new c.link.new.self.last outer c.args.index
    c.in_ok-number.number c.in_ok-number.ensures.made link in
    let few = c.requires.taking.few c.args.at c.requires.at c.requires.waits in
    let same = count_kept c.args.self.now.making.links.items new outer c.in_ok-number.ensures.kept (c.requires.taking.within c.args.at c.requires.at) in
    record {
      kept = c.in_ok-number.ensures.kept;
      link = subst (λ n. IsLinkIn new outer c.args.index n) (sym now) link;
      others = λ i not. get_or-set_other numbers c.args.at i c.in_ok-number.number 0 not;
      still = λ i h not w. c.end.ensures.still i (let n = c.requires.taking.nexts in omega (arith, n, h)) not w;
      only = λ i h w. c.end.ensures.only i (let n = c.requires.taking.nexts in omega (arith, n, h)) w;
      few = λ w. absurd (c.end.ensures.no_longer w);
      full = λ not. ap (λ n. count_at new n) now ∙ (let e = c.count_of.ensures
          in let g = c.if-count_of-ge-FRAMES_MAX.true in omega (arith, count, few, same, e, g));
    }

pub returns-else-count_of-ge-FRAMES_MAX-clause-taking : goal.returns-else-count_of-ge-FRAMES_MAX-clause-taking
returns-else-count_of-ge-FRAMES_MAX-clause-taking c =
    let numbers = c.args.self.now.numbers.items in
    let old = c.args.self.now.making.links.items in
    let new = c.link.new.self.links.items in
    let at_in : c.args.at < length numbers = omega (arith, c.requires.taking.count, c.requires.at) in
    record {
      made = c.in_ok-number.ensures.made;
      rising = c.requires.taking.rising;
      count = length-set numbers c.args.at c.in_ok-number.number ∙ c.requires.taking.count;
      nexts = c.requires.taking.nexts;
      within = λ i h. within_still old new numbers c.args.at c.index-caller.result.now c.args.index
          c.in_ok-number.number i c.in_ok-number.ensures.kept c.in_ok-number.ensures.link at_in
          (c.requires.taking.within i h);
      few = λ i h w. elim (cases_eq i c.args.at) [
        | inl same ↦
            let now : get_or (set numbers c.args.at c.in_ok-number.number) i 0 ≡ c.in_ok-number.number =
            ap (λ n. get_or (set numbers c.args.at c.in_ok-number.number) n 0) same
            ∙ get_or-set_same numbers c.args.at c.in_ok-number.number 0 at_in in
            subst (λ n. count_at new n < 256) (sym now) (let e = c.count_of.ensures in let g = c.if-count_of-ge-FRAMES_MAX.false in omega (arith, e, g))
        | inr not ↦ few_still old new numbers c.args.at c.in_ok-number.number i c.in_ok-number.ensures.kept not
            (c.requires.taking.within i h) (c.requires.taking.few i h w)
      ];
    }
