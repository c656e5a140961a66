use Rattle.std.proofs.Common.{◌≡◌}
use Rattle.tsn_model.specs.Network.{Network}
use Rattle.tsn_cert.specs.declared.plan.Plan.{Plan}
use Rattle.tsn_cert.specs.declared.certificate.Certificate.{Certificate}
use Rattle.tsn_cert.specs.declared.certificate.Certificate.TheVariants.{Tree, Argument as Argued}
use Rattle.tsn_check.specs.Laws.{FirstFaultsRefute}
use Rattle.tsn_check.specs.declared.fault.CheckFault.{CheckFault}
use Rattle.tsn_argue.specs.Certified.{Certifies}
use Rattle.tsn_argue.specs.Faults.{IsFirstFault}
use Rattle.tsn_argue.proofs.Refuted.{shows_refuted, one_show_fault}
use Rattle.tsn_argue.proofs.laws.first_faults_refute.Goals as goal

either : FirstFaultsRefute → (network : Network) (plan : Plan) (certificate : Certificate) (fault : CheckFault) → IsFirstFault network plan certificate fault
    → (Certifies network plan certificate → ⊥) × ((other : CheckFault) → IsFirstFault network plan certificate other → fault ≡ other)
either trees network plan (Tree cert) fault is = trees network plan cert fault is
either trees network plan (Argued argument) fault is =
    (shows_refuted network plan argument fault is, λ other another. one_show_fault network plan argument fault other is another)

pub returns : goal.returns
returns c = either c.first_faults_refute.ensures
