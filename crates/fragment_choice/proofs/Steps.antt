-- The steps of following a chain.
use Rattle.std.proofs.Common.{◌≡◌}
use Rattle.fragment_choice.proofs.Prelude.{Alias, ap, Bad, Choice, choice, ended_or, Fragment, HostViewMap, IsEnd, Loop, Masked, Name, no_alias_stands, NotFound, refl, Resolution, resolution, resolution_resolves, Resolves, subst, suc, sym, ℕ, ◌∙◌}
use Rattle.fragment_choice.specs.Resolutions.{follow}

-- One more name is looked up.
pub asked : (s : HostViewMap) (n m : Name) (k j : ℕ) (c : Choice) (w : Resolution) → k ≡ suc j → c ≡ choice s m → follow s k n m ≡ w → ended_or (follow s j n) m c ≡ w
unfolding follow
asked s n m k j c w e d i = ap (ended_or (follow s j n) m) d ∙ ap (λ x. follow s x n m) (sym e) ∙ i

pub ended_here : (more : Name → Resolution) (m : Name) (c : Choice) → ((a : Name) → c ≡ Alias a → ⊥) → record { main = m; choice = c } ≡ ended_or more m c
ended_here more m NotFound h = refl
ended_here more m Masked h = refl
ended_here more m (Fragment p) h = refl
ended_here more m (Alias a) h = absurd (h a refl)
ended_here more m (Bad c) h = refl

-- No more names are looked up.
pub unasked : (s : HostViewMap) (n m k : Name) (i : ℕ) (w : Resolution) → i ≡ 0 → k ≡ n → follow s i n m ≡ w → record { main = k; choice = Bad Loop } ≡ w
unfolding follow
unasked s n m k i w e f h = ap (λ x. record { main = x; choice = Bad Loop }) f ∙ ap (λ x. follow s x n m) (sym e) ∙ h

-- The result is what the name resolves to, and is no alias.
pub record Stands (s : HostViewMap) (n : Name) (r : Resolution) : Type 0 where
  pub resolution : r ≡ resolution s n
  pub chain : Resolves s n r
  pub no_alias : IsEnd r.choice

pub stands : (s : HostViewMap) (n : Name) (r : Resolution) → r ≡ resolution s n → Stands s n r
stands s n r e = record { resolution = e; chain = subst (Resolves s n) (sym e) (resolution_resolves s n); no_alias = subst (λ x. IsEnd x.choice) (sym e) (no_alias_stands s n) }
