-- The order of contents is total, and only equal contents tie.
use Rattle.std.proofs.Common.{◌≡◌}
use Rattle.edit_sums.specs.Prelude.{ap, arith, Equal, IsTotalOrder, nat_cmp-IsAntisymmetric, nat_cmp_total, nat_list_cmp_total, on_total, refl, slice_cmp-IsAntisymmetric, then_total, tied_parts}
use Rattle.edit_sums.specs.{Contents.{bytes_of, content_cmp, sort_of}, declared.contents.Content.{Content, TheVariants.{File, Gone, Link}}}

pub content_cmp_total : IsTotalOrder content_cmp
content_cmp_total = then_total (on_total sort_of nat_cmp_total) (on_total bytes_of nat_list_cmp_total)

same_content : (x y : Content) → sort_of x ≡ sort_of y → bytes_of x ≡ bytes_of y → x ≡ y
same_content Gone Gone s b = refl
same_content Gone (Link y) s b = absurd (omega arith)
same_content Gone (File y) s b = absurd (omega arith)
same_content (Link x) Gone s b = absurd (omega arith)
same_content (Link x) (Link y) s b = ap Link b
same_content (Link x) (File y) s b = absurd (omega arith)
same_content (File x) Gone s b = absurd (omega arith)
same_content (File x) (Link y) s b = absurd (omega arith)
same_content (File x) (File y) s b = ap File b

-- contents that compare as equal are equal
pub content_cmp-IsAntisymmetric : (x y : Content) → content_cmp x y ≡ Equal → x ≡ y
content_cmp-IsAntisymmetric x y e =
    let h = tied_parts _ _ e in
    same_content x y (nat_cmp-IsAntisymmetric _ _ h.0) (slice_cmp-IsAntisymmetric nat_cmp-IsAntisymmetric _ _ h.1)
