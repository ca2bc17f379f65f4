-- Archives of a list, one more of which was read.
use Rattle.std.proofs.Common.{List, [], ◌∷◌, ◌++◌}
use Rattle.std.specs.List.{AllByRecursion, AllZip}
use Rattle.archive_core.specs.Content.{Operations, IsContent}
use Rattle.command_common.specs.Inputs.{Reader, IsArchive, HoldsArchive}

module _ {S : Type 0} where
  pub hold_more : (files : List (Reader S)) (contents : List Operations) (file : Reader S) (other : Operations)
      → AllZip HoldsArchive files contents → HoldsArchive file other → AllZip HoldsArchive (files ++ file ∷ []) (contents ++ other ∷ [])
  hold_more [] [] file other each holds = (holds, tt)
  hold_more (f ∷ files) (o ∷ contents) file other each holds = (each.0, hold_more files contents file other each.1 holds)
  hold_more files contents file other each holds = absurd each

  pub each_archive : (files : List (Reader S)) (contents : List Operations) → AllZip HoldsArchive files contents
      → AllByRecursion IsContent contents → AllByRecursion IsArchive files
  each_archive [] contents hold are = tt
  each_archive (_ ∷ _) [] hold are = absurd hold
  each_archive (_ ∷ files) (o ∷ contents) hold are = ((o, are.0, hold.0), each_archive files contents hold.1 are.1)
