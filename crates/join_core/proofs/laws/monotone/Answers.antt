use Rattle.join_core.proofs.laws.monotone.Goals as goal

pub returns : goal.returns
returns g c = λ x y z xz yz below a b. a.least yz b.content (g.met.J.Join.transitive x y yz below b.left) b.right
