-- Laws of paths: their order is total and exact, and a path can be encoded as its parts.
use Rattle.std.proofs.Common.{◌≡◌}
use Rattle.load_path.specs.Prelude.{code_by, Coded, coded_list, coded_ℕ, coded×, Equal, IsTotalOrder, List, nat_cmp, nat_cmp-IsAntisymmetric, nat_cmp_total, nat_list_cmp_total, on_total, refl, slice_cmp, slice_cmp-IsAntisymmetric, then_total, tied_parts, ℕ}
use Rattle.load_path.specs.Paths.{path_cmp, PathParts}

pub path_cmp_total : IsTotalOrder path_cmp
path_cmp_total = then_total (on_total (λ p. p.rank) nat_cmp_total) (then_total (on_total (λ p. p.folder) nat_list_cmp_total) (on_total (λ p. p.name) nat_list_cmp_total))

bytes_exact : (x y : List ℕ) → slice_cmp nat_cmp x y ≡ Equal → x ≡ y
bytes_exact = slice_cmp-IsAntisymmetric nat_cmp-IsAntisymmetric

-- paths that compare as equal are equal
pub path_cmp-IsAntisymmetric : (x y : PathParts) → path_cmp x y ≡ Equal → x ≡ y
path_cmp-IsAntisymmetric x y h =
    let p = tied_parts (nat_cmp x.rank y.rank) _ h in
    let q = tied_parts (slice_cmp nat_cmp x.folder y.folder) _ p.1 in
    let rank = nat_cmp-IsAntisymmetric x.rank y.rank p.0 in
    let folder = bytes_exact x.folder y.folder q.0 in
    let name = bytes_exact x.name y.name q.1 in
    λ i. record { rank = rank i; folder = folder i; name = name i }

-- a path encoded as a number and two lists
abbrev pub coded_path : Coded PathParts
coded_path = code_by (ℕ × (List ℕ × List ℕ)) (coded× coded_ℕ (coded× (coded_list coded_ℕ) (coded_list coded_ℕ))) (λ p. (p.rank, (p.folder, p.name))) (λ t. record { rank = t.0; folder = t.1.0; name = t.1.1 }) (λ _. refl)
