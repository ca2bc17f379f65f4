use Rattle.join_core.proofs.laws.resumed.Goals as goal

pub returns : goal.returns
returns g c = λ old mid other joined whole above below. record {
  content = whole.content;
  left = below;
  right = whole.right;
  least = λ w is from_mid from_other. whole.least w is (g.met.J.Join.transitive old mid w above from_mid) from_other;
}
