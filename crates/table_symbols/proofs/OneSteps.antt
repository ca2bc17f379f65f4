-- An image has one list of steps, and one table with some lines.
use Rattle.std.proofs.Common.{◌≡◌, ℕ, ◌<◌, List, length, map, get_or, sym, ap, ◌∙◌, subst, arith, Option, Some, None}
use Rattle.std.proofs.lemmas.List.{get_or-map, same_lists}
use Rattle.std.proofs.Math.ListN.{length-map}
use Rattle.macho_symbols.specs.Symbols.{Tuple}
use Rattle.macho_symbols.specs.Nearest.{IsNearest}
use Rattle.macho_symbols.proofs.Order.{nearest_once}
use Rattle.dwarf_asked_addresses.specs.Rising.{AreRising}
use Rattle.dwarf_asked_addresses.proofs.RisingLists.{one_rising}
use Rattle.macho_symbols.specs.declared.row.Row.{Row}
use Rattle.macho_symbols.specs.Steps.{AreSteps, SaysNearest, Says, IsLeastIndexOf}
use Rattle.table_symbols.specs.Table.{IsTableWith, table_bytes}

-- ---- rows

one_place : (image : List ℕ) (c : Tuple) (p q : ℕ) → IsLeastIndexOf image c p → IsLeastIndexOf image c q → p ≡ q
one_place image c p q a b = omega (arith, a.least b.some.0 b.some.1 b.some.2, b.some.3, b.least a.some.0 a.some.1 a.some.2, a.some.3)

same_said : (image : List ℕ) (r s : Row) (nearest : Option Tuple) → r.start ≡ s.start → Says image r nearest → Says image s nearest → r ≡ s
same_said image r s None e a b = λ i. record { start = e i; value = (a.0 ∙ sym b.0) i; n_strx = (a.1 ∙ sym b.1) i; sect = (a.2 ∙ sym b.2) i }
same_said image r s (Some c) e a b = λ i. record {
  start = e i;
  value = (a.0 ∙ sym b.0) i;
  n_strx =
      one_place image c r.n_strx s.n_strx a.1 b.1 i;
  sect = (a.2 ∙ sym b.2) i;
}

same_row : (image : List ℕ) (r s : Row) → r.start ≡ s.start → SaysNearest image r.start r → SaysNearest image s.start s → r ≡ s
same_row image r s e a b =
    let nearest : a.0 ≡ b.0 = nearest_once image s.start a.0 b.0 (subst (λ n. IsNearest image n a.0) e a.1) b.1 in
    same_said image r s b.0 e (subst (Says image r) nearest a.2) b.2

starts_rise : (image : List ℕ) (rows : List Row) → AreSteps image rows → AreRising (map (λ r. r.start) rows)
starts_rise image rows are i j d l m =
    let row : Row = record { start = d; value = 0; n_strx = 0; sect = 0 } in
    let within : j < length rows = omega (arith, m, length-map rows (λ r. r.start)) in
    omega (arith, get_or-map (λ r. r.start) rows i row d (omega (arith, l, within)), get_or-map (λ r. r.start) rows j row d within, are.rising i j row l within)

pub steps_once : (image : List ℕ) (rows others : List Row) → AreSteps image rows → AreSteps image others → rows ≡ others
steps_once image rows others a b =
    let starts : map (λ r. r.start) rows ≡ map (λ r. r.start) others =
    one_rising (map (λ r. r.start) rows) (map (λ r. r.start) others) (starts_rise image rows a) (starts_rise image others b)
    (λ t h. (b.exactly t).1 ((a.exactly t).0 h)) (λ t h. (a.exactly t).1 ((b.exactly t).0 h)) in
    let long : length rows ≡ length others = omega (arith, ap length starts, length-map rows (λ r. r.start), length-map others (λ r. r.start)) in
    same_lists rows others long (λ k d l.
    let within : k < length others = omega (arith, l, long) in
    let same : (get_or rows k d).start ≡ (get_or others k d).start =
    sym (get_or-map (λ r. r.start) rows k d d.start l) ∙ ap (λ (xs : List ℕ). get_or xs k d.start) starts
    ∙ get_or-map (λ r. r.start) others k d d.start within in
    same_row image (get_or rows k d) (get_or others k d) same (a.each k d l) (b.each k d within))

-- ---- one table

pub one_text : (image lines bytes others : List ℕ) → IsTableWith image lines bytes → IsTableWith image lines others → bytes ≡ others
one_text image lines bytes others a b =
    let rows = steps_once image a.0.rows b.0.rows a.1.rows b.1.rows in
    let same : a.0 ≡ b.0 = λ i. record {
      base = (a.1.base ∙ sym b.1.base) i;
      names = (a.1.names ∙ sym b.1.names) i;
      rows = rows i;
      strings = (a.1.strings ∙ sym b.1.strings) i;
      lines = (a.4 ∙ sym b.4) i;
    } in
    a.3 ∙ ap table_bytes same ∙ sym b.3
