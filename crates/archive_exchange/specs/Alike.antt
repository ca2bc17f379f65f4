-- Contents that are alike, and sites of two runs that received the same operations.
use Rattle.std.specs.Prelude.{◌≡◌, ◌↔◌, ℕ, List}
use Rattle.archive_core.specs.Content.{Operations, content_of}
use Rattle.archive_core.specs.Find.{IsFinds}
use Rattle.archive_core.specs.Lookup.{AnswerRecord, IsAnswer}
use Rattle.archive_core.specs.Names.{NameRecord, IsNames}
use Rattle.archive_core.specs.declared.find.FindRow.{FindRow}
use Rattle.archive_core.specs.declared.keys.SliceKey.{SliceKey}
use Rattle.archive_core.specs.declared.lookup.Where.{Where}
use Rattle.archive_exchange.specs.World.{Event}
use Rattle.archive_exchange.specs.Reached.{reached}
use Rattle.archive_exchange.specs.SiteState.{IsArchiveTextOf}

-- two contents are alike: they have the same text, and each lookup, each search for a UUID and each search for a name
-- has the same result in both
pub record AreAlike (o p : Operations) : Type 0 where
  pub text : (bytes : List ℕ) × IsArchiveTextOf bytes o × IsArchiveTextOf bytes p
  pub lookups : (key : SliceKey) (asked : Where) (answer : AnswerRecord)
      → IsAnswer o key asked answer ↔ IsAnswer p key asked answer
  pub finds : (uuid : List ℕ) (rows : List FindRow) → IsFinds o uuid rows ↔ IsFinds p uuid rows
  pub names : (name : List ℕ) (rows : List NameRecord) → IsNames o name rows ↔ IsNames p name rows

-- the operations that reached site i of the first run and those that reached site j of the second have the same
-- content: this holds if they are the same operations, and still if slices that both retired reached only one of the
-- sites
abbrev pub TookTheSame : {F : Type 0} → ℕ → List (Event F) → ℕ → ℕ → List (Event F) → ℕ → Type 0
TookTheSame sites events i others later j = content_of (reached sites events i) ≡ content_of (reached others later j)
