use Rattle.std.proofs.Common.{◌∙◌, ℕ, List, Bor, ap, map, option_map, sym}
use Rattle.cli_run.proofs.OutPublished.{path_from}
use Rattle.cli_run.proofs.files.begin_out.Goals as goal

pub returns-clause-path : goal.returns-clause-path
returns-clause-path g c =
    path_from c.begin.result _ _ _ _ _ _
    (ap (option_map (λ (p : Bor (List ℕ)). p.now)) (sym c.in-Some.is) ∙ c.out_path.ensures)
    (ap (map (λ (p : Bor (List ℕ)). p.now)) c.deref.ensures.value ∙ c.in_ok-inputs.ensures) c.begin.ensures.path
