use Rattle.laws_archive.proofs.FramesTold.{each_is}
use Rattle.laws_archive.proofs.report_laws.each_is_symbolicated.Goals as goal

pub returns : goal.returns
returns g c = λ lines input archive others bytes listed o given says join status text. each_is lines input archive
    others bytes listed o status text given says join
