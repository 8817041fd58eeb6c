-- Into how many parts so many versions are cut.
use Rattle.std.proofs.Common.{◌*◌, ◌+◌, ◌-◌, ◌<◌, ◌≡◌, ◌≤◌}
use Rattle.range_prints.proofs.Prelude.{add-mul, ap, arith, div_ceil, div_ceil_times, lt_of_mul-lt-mul_right, ℕ, ◌∙◌}

-- shares that are rounded up hold all
pub spread : (n count share : ℕ) → 0 < count → div_ceil n count ≤ share → n ≤ share * count
spread n count share some up =
    let all = (div_ceil_times n count some).0 in
    let rest : ℕ = share - div_ceil n count in
    let whole : share ≡ div_ceil n count + rest = omega (arith, up) in
    let product : share * count ≡ div_ceil n count * count + rest * count = ap (λ k. k * count) whole ∙ add-mul (div_ceil n count) rest count in
    omega (arith, all, product)

-- where more than so many shares are left, there are more shares
pub more_shares : (n count share k : ℕ) → n ≤ share * count → k * share < n → k < count
more_shares n count share k all less = lt_of_mul-lt-mul_right share (let turned : share * count ≡ count * share = omega arith in omega (arith, all, less, turned))
