-- The laws of entries, for the order of contents.
use Rattle.std.proofs.Common.{◌≡◌, ◌⊎◌}
use Rattle.edit_sums.specs.{ContentLaws.{content_cmp-IsAntisymmetric, content_cmp_total}, Contents.{content_cmp}, Entries.{Entry, entry_cmp, IsBelow, larger}, Prelude.{Equal, IsTotalOrder, None, Option}}
use Rattle.join_law.specs.EntryLaws as law

pub entry_cmp_total : IsTotalOrder entry_cmp
entry_cmp_total = law.entry_cmp_total content_cmp content_cmp_total

-- entries that compare as equal are equal
pub entry_cmp-IsAntisymmetric : (x y : Entry) → entry_cmp x y ≡ Equal → x ≡ y
entry_cmp-IsAntisymmetric = law.entry_cmp-IsAntisymmetric content_cmp content_cmp_total content_cmp-IsAntisymmetric

pub below_refl : (x : Option Entry) → IsBelow x x
below_refl = law.below_refl content_cmp content_cmp_total

pub below_trans : (x y z : Option Entry) → IsBelow x y → IsBelow y z → IsBelow x z
below_trans = law.below_trans content_cmp content_cmp_total

pub below_antisym : (x y : Option Entry) → IsBelow x y → IsBelow y x → x ≡ y
below_antisym = law.below_antisym content_cmp content_cmp_total content_cmp-IsAntisymmetric

pub larger-left : (x y : Option Entry) → IsBelow x (larger x y)
larger-left = law.larger-left content_cmp content_cmp_total

pub larger-right : (x y : Option Entry) → IsBelow y (larger x y)
larger-right = law.larger-right content_cmp content_cmp_total

pub larger-least : (x y z : Option Entry) → IsBelow x z → IsBelow y z → IsBelow (larger x y) z
larger-least = law.larger-least content_cmp content_cmp_total

-- the greater is one of the two
pub larger_cases : (x y : Option Entry) → (larger x y ≡ x) ⊎ (larger x y ≡ y)
larger_cases = law.larger_cases content_cmp

pub larger-absorb : (x y : Option Entry) → IsBelow y x → larger x y ≡ x
larger-absorb = law.larger-absorb content_cmp content_cmp_total content_cmp-IsAntisymmetric

pub larger_comm : (x y : Option Entry) → larger x y ≡ larger y x
larger_comm = law.larger_comm content_cmp content_cmp_total content_cmp-IsAntisymmetric

pub larger_assoc : (x y z : Option Entry) → larger (larger x y) z ≡ larger x (larger y z)
larger_assoc = law.larger_assoc content_cmp content_cmp_total content_cmp-IsAntisymmetric

pub larger_idem : (x : Option Entry) → larger x x ≡ x
larger_idem = law.larger_idem content_cmp content_cmp_total content_cmp-IsAntisymmetric

pub larger-mono : (x y u v : Option Entry) → IsBelow x u → IsBelow y v → IsBelow (larger x y) (larger u v)
larger-mono = law.larger-mono content_cmp content_cmp_total

pub larger-None : (x : Option Entry) → larger x None ≡ x
larger-None = law.larger-None content_cmp
