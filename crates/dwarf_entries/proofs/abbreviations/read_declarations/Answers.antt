use Rattle.std.proofs.Common.{◌≡◌, ◌-◌, ℕ, List, length, Option, Some, None, arith, refl, sym}
use Rattle.std.specs.Option.{option_map}
use Rattle.dwarf_entries.specs.Abbreviations.{DeclarationRecord, declaration_at}
use Rattle.dwarf_entries.specs.DeclarationViews.{declaration_in, declaration_view}
use Rattle.dwarf_entries.proofs.DeclarationLemmas.{declaration_shortens, read_step, read_end, read_done}
use Rattle.dwarf_entries.proofs.abbreviations.read_declarations.Goals as goal

pub declarations-smaller-in-Continue-branch-3 : goal.declarations-smaller-in-Continue-branch-3
declarations-smaller-in-Continue-branch-3 c =
    declaration_shortens.less c.declarations.rest.now (
      Some
          (c.in-Some-found.code, declaration_view c.in-Some-found.declaration),
      c.in-Some.after.now,
    )
    (sym (rw (c.in-Some.is, c.in-Some-found.is) at c.in_ok-found.ensures))

pub declarations-preserved-in-Continue-branch-3 : goal.declarations-preserved-in-Continue-branch-3
declarations-preserved-in-Continue-branch-3 c =
    let read : ◌≡◌ {A = Option (Option (ℕ × DeclarationRecord) × List ℕ)}
    (Some (Some (c.in-Some-found.code, declaration_view c.in-Some-found.declaration), c.in-Some.after.now))
    (declaration_at c.declarations.rest.now) =
    rw (c.in-Some.is, c.in-Some-found.is) at c.in_ok-found.ensures in
    let less = declaration_shortens.less c.declarations.rest.now
    (Some (c.in-Some-found.code, declaration_view c.in-Some-found.declaration), c.in-Some.after.now) (sym read) in
    record {
      within = omega (arith, less, c.declarations.invariant.within);
      each = λ table code.
          read_step (option_map declaration_view (declaration_in c.declarations.declarations table code)) _ table code
          (length c.args.section.now) c.declarations.table
          (c.in-Some-found.code, declaration_view c.in-Some-found.declaration) c.declarations.rest.now
          c.in-Some.after.now _ read (c.in_ok-keep_first-in-Some-found.ensures table code)
          (c.declarations.invariant.each table code);
    }

pub overflow_sub-table : goal.overflow_sub-table
overflow_sub-table c =
    let read : ◌≡◌ {A = Option (Option (ℕ × DeclarationRecord) × List ℕ)} (Some (None, c.in-Some.after.now)) (declaration_at c.declarations.rest.now) =
    rw (c.in-Some.is, c.in-None.is) at c.in_ok-found.ensures in
    let less = declaration_shortens.less c.declarations.rest.now (None, c.in-Some.after.now) (sym read) in
    omega (arith, less, c.declarations.invariant.within)

pub declarations-smaller : goal.declarations-smaller
declarations-smaller c =
    declaration_shortens.less c.declarations.rest.now (None, c.in-Some.after.now) (sym (rw (c.in-Some.is, c.in-None.is) at c.in_ok-found.ensures))

pub declarations-preserved : goal.declarations-preserved
declarations-preserved c =
    let read : ◌≡◌ {A = Option (Option (ℕ × DeclarationRecord) × List ℕ)} (Some (None, c.in-Some.after.now)) (declaration_at c.declarations.rest.now) =
    rw (c.in-Some.is, c.in-None.is) at c.in_ok-found.ensures in
    let less = declaration_shortens.less c.declarations.rest.now (None, c.in-Some.after.now) (sym read) in
    record {
      within = omega (arith, less, c.declarations.invariant.within);
      each = λ table code.
          read_end (option_map declaration_view (declaration_in c.declarations.declarations table code)) table code
          (length c.args.section.now) c.declarations.table (length c.args.section.now - length c.in-Some.after.now)
          c.declarations.rest.now c.in-Some.after.now _ read refl (c.declarations.invariant.each table code);
    }

pub returns : goal.returns
returns c = λ table code.
    let none : declaration_at c.declarations.rest.now ≡ None = sym (rw c.in_default.is at c.in_ok-found.ensures) in
    read_done (option_map declaration_view (declaration_in c.declarations.declarations table code)) table code
    (length c.args.section.now) c.declarations.table c.declarations.rest.now _ none
    (c.declarations.invariant.each table code)
