-- The lines of a table that is opened where a claim says.
use Rattle.std.proofs.Common.{◌≡◌, ℕ, List, [], ◌+◌, ◌++◌, length, Option, Some, None, ap, refl, sym, subst, ◌∙◌}
use Rattle.macho_symbols.specs.Symbols.{strings_of}
use Rattle.std.proofs.lemmas.Option.{MatchOption-at_none, MatchOption-at_some}
use Rattle.table_checked_pages.specs.Groups.{stored_group}
use Rattle.table_checked_pages.specs.Pages.{Claim, MayBeStored}
use Rattle.table_checked_pages.specs.Standing.{IsRestFrom}
use Rattle.table_checked_pages.specs.Views.{ArePagesOf}
use Rattle.table_checked_pages.specs.declared.pages.Pages.{Pages}
use Rattle.dwarf_source_frames.specs.Frames.{FrameRecord}
use Rattle.table_symbols.specs.Opened.{IsOpened, IsOpenedIn, lines_at, strings_at}
use Rattle.table_symbols.specs.Table.{TableParts, table_bytes}
use Rattle.table_symbols.specs.declared.table.Table.{Table}
use Rattle.table_source_frames.specs.OfBytes.{AreFramesIn, AreFramesOfStep, HaveNoLines, IsFoundIn, IsNoTableIn, IsTableIn}
use Rattle.table_source_frames.specs.OfBytes.{groups_place}
use Rattle.table_source_frames.specs.SliceTable.{IsSliceTable}
use Rattle.table_source_frames.specs.StepGroups.{no_numbers, steps_on}
use Rattle.table_source_frames.specs.declared.table.LineTable.{LineTable}
use Rattle.index_lookup.specs.InnerAnswering.{IsTableBy}

-- where the lines of a slice stand: after its strings, up to the end of the bytes
pub record AreLinesAt (pages : Pages) (strings first : ℕ) (text slice all lines : List ℕ) : Type 0 where
  pub pages_of : ArePagesOf pages text all
  pub stands : IsRestFrom all strings (strings_of slice ++ lines)
  pub next : strings + length (strings_of slice) ≡ first

-- they stand where they are said to, and end the bytes that may be stored there
pub lines_here : (table : Table) (pages : Pages) (strings first : ℕ) (claim : Claim) (text slice all : List ℕ) (is : IsSliceTable slice all)
    → ((text : List ℕ) (t : TableParts) → IsOpened table text t → ArePagesOf pages text (table_bytes t)
    × IsRestFrom (table_bytes t) strings (t.strings ++ t.lines) × (strings + length t.strings ≡ first))
    → IsTableBy text claim table → MayBeStored text claim all → AreLinesAt pages strings first text slice all is.lines
lines_here table pages strings first claim text slice all is lines opened may =
    let t : TableParts = is.is_table.0 in
    let same : t.strings ≡ strings_of slice = is.is_table.1.strings in
    let here = lines text t (opened.opened t is.is_table.2 (subst (MayBeStored text claim) is.is_table.3 may)) in
    subst (λ (bytes : List ℕ). AreLinesAt pages strings first text slice bytes is.lines) (sym is.is_table.3) (record {
      pages_of = here.0;
      stands = (here.1.0, here.1.1 ∙ ap (λ b. b ++ t.lines) same ∙ ap (λ b. strings_of slice ++ b) is.is_table.4);
      next = ap (λ b. strings + length b) (sym same) ∙ here.2;
    })

-- where the lines are in any bytes that may be stored there
pub record AreBytesAt (pages : Pages) (strings first : ℕ) (text all : List ℕ) : Type 0 where
  pub pages_of : ArePagesOf pages text all
  pub strings_is : strings ≡ strings_at all
  pub first_is : first ≡ lines_at all

pub bytes_here : (table : Table) (pages : Pages) (strings first : ℕ) (claim : Claim) (text all : List ℕ)
    → ((text all : List ℕ) → IsOpenedIn table text all → ArePagesOf pages text all × (strings ≡ strings_at all) × (first ≡ lines_at all))
    → IsTableBy text claim table → MayBeStored text claim all → AreBytesAt pages strings first text all
bytes_here table pages strings first claim text all lines opened may =
    let here = lines text all (opened.of_bytes all may) in
    record { pages_of = here.0; strings_is = here.1; first_is = here.2 }

-- no frames are those of the numbers before the first step of a group
pub no_frames : (table : LineTable) (all : List ℕ) → AreFramesOfStep table all []
unfolding steps_on
no_frames table all = (
  no_numbers,
  record { group = 0; count = 0; rest = stored_group all (groups_place table) 0; read = refl },
  refl,
)

-- the lines that were found, or that there are none
pub no_lines_in : (table : Table) (strings first : ℕ) (claim : Claim) (text all : List ℕ) (found : Option LineTable)
    → IsTableBy text claim table → MayBeStored text claim all → first ≡ lines_at all → IsFoundIn all strings first found
    → found ≡ None → HaveNoLines all
no_lines_in table strings first claim text all found opened may at is none = record {
  headed = (opened.of_bytes all may).headed;
  none = subst (IsNoTableIn all) at (MatchOption-at_none (IsNoTableIn all first) (IsTableIn all strings first) none is);
}

pub frames_in : (table : Table) (strings first : ℕ) (claim : Claim) (text all : List ℕ) (found : Option LineTable)
    (lines : LineTable) (frames : List FrameRecord) → IsTableBy text claim table → MayBeStored text claim all
    → strings ≡ strings_at all → first ≡ lines_at all → IsFoundIn all strings first found → found ≡ Some lines
    → AreFramesOfStep lines all frames → AreFramesIn all frames
frames_in table strings first claim text all found lines frames opened may from at is some are = record {
  headed = (opened.of_bytes all may).headed;
  table = lines;
  is_table =
      subst (λ (m : ℕ). IsTableIn all m (lines_at all) lines) from
      (subst (λ (n : ℕ). IsTableIn all strings n lines) at
      (MatchOption-at_some (IsNoTableIn all first) (IsTableIn all strings first) lines some is));
  are = are;
}
