-- Conversions between the two ways in which facts state that a test holds.
-- Source: this project's own.
use Rattle.std.proofs.Common.{◌&&◌}
use Rattle.list_laws.specs.Prelude.{Bool, false, IsTrue, refl, subst, sym, T, true}

pub to_T : (b : Bool) → IsTrue b → T b
to_T b h = subst T (sym h) tt

pub from_T : (b : Bool) → T b → IsTrue b
from_T true t = refl
from_T false t = absurd t

-- both parts of a conjunction
pub T-both : (a b : Bool) → T (a && b) → T a × T b
T-both true b h = (tt, h)
T-both false b h = absurd h
