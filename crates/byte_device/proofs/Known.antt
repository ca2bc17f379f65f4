-- Known bytes that grow or are taken, one call after another.
use Rattle.std.proofs.Common.{List, [], ◌++◌, ℕ, Option}
use Rattle.std.proofs.KnownBytes.{Appends-nil, Appends-trans, Consumes-nil, Consumes-trans, Consumes-kept}
use Rattle.std.specs.Io.KnownBytes.{Appends, Consumes, Keeps}

-- a text of no bytes was given
pub Appends-none : (a : Option (List ℕ)) → Appends a a []
Appends-none = Appends-nil

-- two texts were given, one after the other
pub Appends-then : (a b c : Option (List ℕ)) (x y : List ℕ) → Appends a b x → Appends b c y → Appends a c (x ++ y)
Appends-then = Appends-trans

-- no byte was taken
pub Consumes-none : (a : Option (List ℕ)) → Consumes a a []
Consumes-none = Consumes-nil

-- bytes were taken, and then more
pub Consumes-then : (a b c : Option (List ℕ)) (x y : List ℕ) → Consumes a b x → Consumes b c y → Consumes a c (x ++ y)
Consumes-then = Consumes-trans

-- bytes were taken, and then none
pub Consumes-keeps : (a b c : Option (List ℕ)) (x : List ℕ) → Consumes a b x → Keeps b c → Consumes a c x
Consumes-keeps = Consumes-kept
