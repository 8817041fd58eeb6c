-- The order of versions is total, and only equal versions tie.
use Rattle.std.proofs.Common.{◌≡◌}
use Rattle.join_law.specs.Prelude.{Equal, Greater, IsTotalOrder, Less, nat_cmp, nat_cmp-IsAntisymmetric, nat_cmp_total, on_total, Ordering, ordering_then, refl, then_total}
use Rattle.join_law.specs.{declared.versions.Version.{Version}, VersionOrder.{version_cmp}}

pub version_cmp_total : IsTotalOrder version_cmp
version_cmp_total = then_total (on_total (λ v. v.counter) nat_cmp_total) (on_total (λ v. v.writer) nat_cmp_total)

-- a lexicographic comparison ties only if both parts tie
pub tied_parts : (a b : Ordering) → ordering_then a b ≡ Equal → (a ≡ Equal) × (b ≡ Equal)
tied_parts Less b h = cc (h)
tied_parts Equal b h = (refl, h)
tied_parts Greater b h = cc (h)

-- if two orders are exact, so is their lexicographic product
pub both_exact : {A B : Type 0} (R : A → A → Ordering) (S : B → B → Ordering) → ((x y : A) → R x y ≡ Equal → x ≡ y)
    → ((x y : B) → S x y ≡ Equal → x ≡ y)
    → (a b : A) (c d : B) → ordering_then (R a b) (S c d) ≡ Equal → (a ≡ b) × (c ≡ d)
both_exact R S first second a b c d h = let p = tied_parts (R a b) (S c d) h in (first a b p.0, second c d p.1)

-- versions that compare as equal are equal
pub version_cmp-IsAntisymmetric : (v w : Version) → version_cmp v w ≡ Equal → v ≡ w
version_cmp-IsAntisymmetric v w h =
    let same = both_exact nat_cmp nat_cmp nat_cmp-IsAntisymmetric nat_cmp-IsAntisymmetric v.counter w.counter v.writer w.writer h in
    λ i. record { counter = same.0 i; writer = same.1 i }
